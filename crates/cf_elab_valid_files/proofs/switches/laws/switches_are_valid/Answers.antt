use Rattle.cf_elab_valid_files.proofs.SwitchesLaws.Braces.{statement-entry, case-entry, default-entry}
use Rattle.cf_elab_valid_files.proofs.SwitchesLaws.Switches.{switch-statement}
use Rattle.cf_elab_valid_files.proofs.switches.laws.switches_are_valid.Goals as goal

pub returns : goal.returns
returns c = λ s n m scene. record { statement = statement-entry s scene n m; case_label = case-entry s scene n m; default_label = default-entry s scene n m; whole = switch-statement s scene n m }
