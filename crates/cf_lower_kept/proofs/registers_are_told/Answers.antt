use Rattle.cf_lower_kept.proofs.Actions.{action-told}
use Rattle.cf_lower_kept.proofs.Statements.{statement-told, list-told}
use Rattle.cf_lower_kept.proofs.registers_are_told.Goals as goal

pub returns : goal.returns
returns c = record {
  actions = λ locals result g h told a e. action-told locals result g h told a e;
  statements = λ locals result s g h told e. statement-told locals result s g h told e;
  lists = λ locals result ss g h told e. list-told locals result ss g h told e;
}
