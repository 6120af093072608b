use Rattle.std.proofs.Common.{◌≡◌, ◌+◌, ◌*◌, ◌++◌}
use Rattle.cf_lower.specs.Expressions.{address_in}
use Rattle.cf_lower.specs.Statements.{for_each}
use Rattle.cf_lower_types.specs.Bare.{bare, classes_of}
use Rattle.cf_lower_stmt.specs.Steps.{written}
use Rattle.cf_lower_stmt.proofs.ZeroLaws.{element_zeros}
use Rattle.cf_lower_stmt.proofs.zeros.+zeros.Given as goal

abbrev pub invariant-zero_elements-loop-i : goal.invariant-zero_elements-loop-i
invariant-zero_elements-loop-i l =
    let tables = l.x.tables.now in
    written l.code ≡ written l.initial.code ++ for_each 0 l.i (element_zeros (classes_of tables) (bare tables l.elements.ty) (address_in l.place) l.at)

abbrev pub decreases-zero_elements : goal.decreases-zero_elements
decreases-zero_elements l = 2 * l.elements.now.ty + 2

abbrev pub decreases-zero_type : goal.decreases-zero_type
decreases-zero_type l = 2 * l.ty + 1
