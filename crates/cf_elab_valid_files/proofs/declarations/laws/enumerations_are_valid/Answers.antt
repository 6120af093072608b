use Rattle.cf_elab_valid_files.proofs.DeclarationsLaws.Enumerations.{enumeration-fine}
use Rattle.cf_elab_valid_files.proofs.declarations.laws.enumerations_are_valid.Goals as goal

pub returns : goal.returns
returns c = λ s scene alias at name list items e classless h. enumeration-fine s scene alias at name list items e classless h
