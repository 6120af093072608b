use Rattle.std.proofs.Common.{ap, sym, ◌∙◌}
use Rattle.cf_elab.specs.Operand.{sort_of, arithmetic}
use Rattle.cf_elab_arith.specs.Arith.Sorts.{void_at, integral_of, object_of, target_of, is_pointer, is_void_pointer, is_enumeral, is_member, member_at}
use Rattle.cf_elab_arith.proofs.arith.sorts.is_void_pointer.Goals as goal

pub returns-clause-value : goal.returns-clause-value
unfolding void_at
returns-clause-value c = c.is_void_sort.ensures.value ∙ ap is_void_pointer c.sort_of.ensures.value

pub returns-clause-no_member : goal.returns-clause-no_member
unfolding member_at
returns-clause-no_member c = sym (ap is_member c.sort_of.ensures.value) ∙ c.is_void_sort.ensures.no_member
