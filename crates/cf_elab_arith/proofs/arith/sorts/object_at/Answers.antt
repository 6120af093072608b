use Rattle.std.proofs.Common.{ap, ◌∙◌}
use Rattle.cf_elab.specs.Operand.{sort_of, arithmetic}
use Rattle.cf_elab_arith.specs.Arith.Sorts.{object_at, integral_of, object_of, target_of, is_pointer, is_void_pointer, is_enumeral, is_member}
use Rattle.cf_elab_arith.proofs.arith.sorts.object_at.Goals as goal

pub returns-clause-value : goal.returns-clause-value
unfolding object_at
returns-clause-value c = c.object_of.ensures.value ∙ ap object_of c.sort_of.ensures.value
