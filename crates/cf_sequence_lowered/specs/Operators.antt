-- The operators of constant initialisers are of kinds that integral promotion leaves as they are (4.1).
use Rattle.std.specs.Prelude.{Bool, true}
use Rattle.cf_core.specs.Core.{Core, operate, unary, update, step, CoreFile}
use Rattle.cf_lower_place.specs.Leaf.{is_promoted, is_promoted_change}
use Rattle.cf_sequence_lowered.specs.Nodes.{in_statics}

abbrev pub operand_is_promoted : Core → Bool
operand_is_promoted (operate op k a b) = is_promoted k
operand_is_promoted (unary op k e) = is_promoted k
operand_is_promoted (update a change b) = is_promoted_change change
operand_is_promoted (step is_postfix change e) = is_promoted_change change
operand_is_promoted e = true

abbrev pub operands_are_promoted : CoreFile → Bool
operands_are_promoted file = in_statics operand_is_promoted file
