use Rattle.std.proofs.Common.{◌≡◌, ◌+◌, ◌-◌, ◌*◌}
use Rattle.cc_whole_read_expr.specs.ReadExpr.{operand, binary, more_operands}
use Rattle.cc_whole_reading.specs.Constants.{keeps}
use Rattle.cc_whole_read_expr.proofs.expressions.+expression.Given as goal

-- the level comes down within one depth
abbrev pub decreases-operand : goal.decreases-operand
decreases-operand l = 64 * l.depth

abbrev pub decreases-casted : goal.decreases-casted
decreases-casted l = 64 * l.depth + 1

abbrev pub decreases-prefixed : goal.decreases-prefixed
decreases-prefixed l = 64 * l.depth + 1

abbrev pub decreases-typed_operand : goal.decreases-typed_operand
decreases-typed_operand l = 64 * l.depth + 2

abbrev pub decreases-signed : goal.decreases-signed
decreases-signed l = 64 * l.depth + 2

abbrev pub decreases-cast : goal.decreases-cast
decreases-cast l = 64 * l.depth + 3

abbrev pub decreases-binary : goal.decreases-binary
decreases-binary l = 64 * l.depth + 2 * l.level + 4

abbrev pub decreases-more_operands : goal.decreases-more_operands
decreases-more_operands l = 64 * l.depth + 2 * l.level + 5

abbrev pub decreases-expression : goal.decreases-expression
decreases-expression l = 64 * l.depth + 30

abbrev pub decreases-enclosed : goal.decreases-enclosed
decreases-enclosed l = 64 * l.depth + 31

abbrev pub decreases-brackets : goal.decreases-brackets
decreases-brackets l = 64 * l.depth + 32

abbrev pub decreases-place_at : goal.decreases-place_at
decreases-place_at l = 64 * l.depth + 31

abbrev pub decreases-pointed : goal.decreases-pointed
decreases-pointed l = 64 * l.depth + 32

abbrev pub decreases-loaded : goal.decreases-loaded
decreases-loaded l = 64 * l.depth + 33

abbrev pub decreases-operand_within : goal.decreases-operand_within
decreases-operand_within l = 64 * l.depth + 34

abbrev pub invariant-more_operands-loop-turn : goal.invariant-more_operands-loop-turn
invariant-more_operands-loop-turn l =
    more_operands (binary (operand (keeps l.constants) l.depth) l.level) l.level (l._turn-end - l._turn) l.tree l.c
    ≡ more_operands (binary (operand (keeps l.constants) l.depth) l.level) l.level l._turn-end l.initial.tree l.initial.c
