use Rattle.std.proofs.Common.{◌≡◌, ◌++◌}
use Rattle.cf_base.specs.declared.kind.Kind.TheVariants.{Char}
use Rattle.cf_core.specs.Types.{integer}
use Rattle.cf_lower.specs.Expressions.{address_in}
use Rattle.cf_lower.specs.Statements.{for_each}
use Rattle.cf_lower_types.specs.Bare.{classes_of}
use Rattle.cf_lower_stmt.specs.Steps.{written}
use Rattle.cf_lower_stmt.proofs.ZeroLaws.{element_zeros}
use Rattle.cf_lower_stmt.proofs.zeros.zero_characters.Given as goal

abbrev pub invariant-loop-at : goal.invariant-loop-at
invariant-loop-at l = written l.code ≡ written l.initial.code ++ for_each 0 l.at (element_zeros (classes_of l.x.tables.now) (integer Char) (address_in l.place) 0)
