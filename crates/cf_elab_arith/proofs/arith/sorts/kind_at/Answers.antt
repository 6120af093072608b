use Rattle.std.proofs.Common.{ap, ◌∙◌}
use Rattle.cf_elab.specs.Operand.{sort_of, arithmetic}
use Rattle.cf_elab_arith.specs.Arith.Sorts.{kind_at, integral_of, object_of, target_of, is_pointer, is_void_pointer, is_enumeral, is_member}
use Rattle.cf_elab_arith.proofs.arith.sorts.kind_at.Goals as goal

pub returns : goal.returns
unfolding kind_at
returns c = c.kind_of.ensures ∙ ap arithmetic c.sort_of.ensures.value
