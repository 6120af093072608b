use Rattle.cf_elab_valid.proofs.Expressions.{type-whole}
use Rattle.cf_elab_valid.proofs.laws.types_are_there.Goals as goal

pub returns : goal.returns
returns c = λ s scene t b f e classless h. (type-whole s scene t b f).fine e classless h
