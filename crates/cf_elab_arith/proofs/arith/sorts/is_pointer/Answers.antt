use Rattle.std.proofs.Common.{ap, ◌∙◌}
use Rattle.cf_elab.specs.Operand.{sort_of, arithmetic}
use Rattle.cf_elab_arith.specs.Arith.Sorts.{pointer_at, integral_of, object_of, target_of, is_pointer, is_void_pointer, is_enumeral, is_member}
use Rattle.cf_elab_arith.proofs.arith.sorts.is_pointer.Goals as goal

pub returns : goal.returns
unfolding pointer_at
returns c = c.is_pointer_sort.ensures ∙ ap is_pointer c.sort_of.ensures.value
