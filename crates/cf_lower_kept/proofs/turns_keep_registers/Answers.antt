use Rattle.cf_lower_kept.proofs.Turns.{all-join, turn-tells}
use Rattle.cf_lower_kept.proofs.turns_keep_registers.Goals as goal

pub returns : goal.returns
returns c = record {
  joins = λ locals ss g h. all-join locals ss g h;
  kept = λ locals ss g h none set. turn-tells locals ss g h none set;
}
