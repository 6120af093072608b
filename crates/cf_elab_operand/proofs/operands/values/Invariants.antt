use Rattle.std.proofs.Common.{◌≡◌, length, map, take, All}
use Rattle.cf_elab.specs.Answer.{Made}
use Rattle.cf_elab_env.specs.Holds.{Known}
use Rattle.cf_elab_env.specs.SeenOperand.{operand_seen}
use Rattle.cf_elab_operand.specs.Shut as shut
use Rattle.cf_elab_operand.proofs.operands.values.Given as goal

abbrev pub invariant-loop-operand : goal.invariant-loop-operand
invariant-loop-operand l = record {
  made : shut.values (map operand_seen (take (length l.yielded) l.fn.operands)) l.env ≡ Made l.values l.env;
  known : All (λ v. Known l.env.types v) l.values;
}
