use Rattle.std.proofs.Common.{ap, ◌∙◌}
use Rattle.cf_elab.specs.Operand.{sort_of, arithmetic}
use Rattle.cf_elab_arith.specs.Arith.Sorts.{enum_at, integral_of, object_of, target_of, is_pointer, is_void_pointer, is_enumeral, is_member}
use Rattle.cf_elab_arith.proofs.arith.sorts.is_enum.Goals as goal

pub returns : goal.returns
unfolding enum_at
returns c = c.is_enum_sort.ensures ∙ ap is_enumeral c.sort_of.ensures.value
