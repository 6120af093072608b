-- The operators of the small C, as signs.
use Rattle.std.specs.Prelude.{ℕ, Option, Some, None}
use Rattle.cf_base.specs.declared.arith.Arith.{Arith}
use Rattle.cf_base.specs.declared.arith.Arith.TheVariants as op
use Rattle.cc_whole_tokens.specs.declared.mark.Mark.{Mark}
use Rattle.cc_whole_tokens.specs.declared.mark.Mark.TheVariants as mark
use Rattle.cc_whole_tokens.specs.declared.token.Token.{Token}
use Rattle.cc_whole_tokens.specs.declared.token.Token.TheVariants as token
use Rattle.cc_whole.specs.declared.expression.Prefix.{Prefix}
use Rattle.cc_whole.specs.declared.expression.Prefix.TheVariants as prefix

-- the operator that a sign is between two operands, and its level: the tighter it binds, the lower, and 0 is an operand
abbrev pub operator_of : Mark → Option (ℕ × Arith)
operator_of mark.Star = Some (1, op.Multiply)
operator_of mark.Slash = Some (1, op.Divide)
operator_of mark.Percent = Some (1, op.Remainder)
operator_of mark.Plus = Some (2, op.Add)
operator_of mark.Minus = Some (2, op.Subtract)
operator_of mark.ShiftLeft = Some (3, op.ShiftLeft)
operator_of mark.ShiftRight = Some (3, op.ShiftRight)
operator_of mark.Less = Some (4, op.Less)
operator_of mark.Greater = Some (4, op.Greater)
operator_of mark.LessEqual = Some (4, op.LessEqual)
operator_of mark.GreaterEqual = Some (4, op.GreaterEqual)
operator_of mark.Equal = Some (5, op.Equal)
operator_of mark.NotEqual = Some (5, op.NotEqual)
operator_of mark.And = Some (6, op.And)
operator_of mark.Xor = Some (7, op.Xor)
operator_of mark.Or = Some (8, op.Or)
operator_of m = None

-- a `-` that a digit follows is an operator where an operand stands before it
abbrev pub joins : Token → Option (ℕ × Arith)
joins (token.Mark m) = operator_of m
joins token.Dash = operator_of mark.Minus
joins t = None

-- the level of a whole expression
abbrev pub loosest : ℕ
loosest = 8

-- the sign of an operator before its one operand
abbrev pub prefix_mark : Prefix → Mark
prefix_mark prefix.Negate = mark.Minus
prefix_mark prefix.Complement = mark.Complement
prefix_mark prefix.Not = mark.Not
