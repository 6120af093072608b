-- The text that is printed for expressions and places.
use Rattle.std.specs.Prelude.{ℕ, ◌-◌, nat_lt, List, [], ◌∷◌, ◌++◌, map}
use Rattle.cf_base.specs.declared.arith.Arith.{Arith}
use Rattle.cf_base.specs.declared.arith.Arith.TheVariants as op
use Rattle.cc_whole_tokens.specs.declared.mark.Mark.{Mark}
use Rattle.cc_whole_tokens.specs.declared.mark.Mark.TheVariants as mark
use Rattle.cc_whole.specs.declared.types.CType.{CType}
use Rattle.cc_whole.specs.declared.types.CType.TheVariants as ty
use Rattle.cc_whole.specs.declared.expression.CPlace.{CPlace, fold-CPlace}
use Rattle.cc_whole.specs.declared.expression.CExpression.{CExpression, fold-CExpression}
use Rattle.cc_whole.specs.declared.expression.CExpression.TheOpen.{CExpression-F, CPlace-F}
use Rattle.cc_whole.specs.Operators.{prefix_mark}
use Rattle.cc_whole_print.specs.Lines.{spaced, printed_mark, printed_if, constant_text, with_commas}
use Rattle.cc_whole_print.specs.Types.{type_text}

abbrev pub sign_of : Arith → Mark
sign_of op.Multiply = mark.Star
sign_of op.Divide = mark.Slash
sign_of op.Remainder = mark.Percent
sign_of op.Add = mark.Plus
sign_of op.Subtract = mark.Minus
sign_of op.ShiftLeft = mark.ShiftLeft
sign_of op.ShiftRight = mark.ShiftRight
sign_of op.Less = mark.Less
sign_of op.Greater = mark.Greater
sign_of op.LessEqual = mark.LessEqual
sign_of op.GreaterEqual = mark.GreaterEqual
sign_of op.Equal = mark.Equal
sign_of op.NotEqual = mark.NotEqual
sign_of op.And = mark.And
sign_of op.Xor = mark.Xor
sign_of op.Or = mark.Or

-- the tighter an operator binds, the lower; 0 is an operand
abbrev pub level_of : Arith → ℕ
level_of op.Multiply = 1
level_of op.Divide = 1
level_of op.Remainder = 1
level_of op.Add = 2
level_of op.Subtract = 2
level_of op.ShiftLeft = 3
level_of op.ShiftRight = 3
level_of op.Less = 4
level_of op.Greater = 4
level_of op.LessEqual = 4
level_of op.GreaterEqual = 4
level_of op.Equal = 5
level_of op.NotEqual = 5
level_of op.And = 6
level_of op.Xor = 7
level_of op.Or = 8

abbrev pub bracketed_text : List ℕ → List ℕ
bracketed_text bytes = printed_mark mark.LeftParen ++ (bytes ++ printed_mark mark.RightParen)

-- `(type)`
abbrev pub cast_text : CType → List ℕ
cast_text t = bracketed_text (type_text t)

-- `*(type *)`
abbrev pub pointed_text : CType → List ℕ
pointed_text t = printed_mark mark.Star ++ bracketed_text (type_text t ++ printed_mark mark.Star)

abbrev pub place_step : CPlace-F (ℕ → List ℕ) (List ℕ) → List ℕ
place_step (CPlace-F.Name name) = spaced name
place_step (CPlace-F.At t e) = pointed_text t ++ bracketed_text (e 8)

-- two operands and the operator between them, in brackets or not
abbrev pub joined_text : Arith → (ℕ → List ℕ) → (ℕ → List ℕ) → ℕ → List ℕ
joined_text op a b loosest =
    let needed = nat_lt loosest (level_of op) in
    printed_if needed mark.LeftParen
    ++ (a (level_of op) ++ (printed_mark (sign_of op) ++ (b (level_of op - 1) ++ printed_if needed mark.RightParen)))

-- an expression where operators up to a level may stand without brackets
abbrev pub expression_step : CExpression-F (ℕ → List ℕ) (List ℕ) → ℕ → List ℕ
expression_step (CExpression-F.Constant c) loosest = constant_text c
expression_step (CExpression-F.Load p) loosest = p
expression_step (CExpression-F.Unary o e) loosest = printed_mark (prefix_mark o) ++ e 0
expression_step (CExpression-F.Cast t e) loosest = cast_text t ++ e 0
expression_step (CExpression-F.AddressOf name) loosest = cast_text ty.Pointer ++ (printed_mark mark.And ++ spaced name)
expression_step (CExpression-F.Binary op a b) loosest = joined_text op a b loosest

abbrev pub expression_text : CExpression → ℕ → List ℕ
expression_text = fold-CExpression (ℕ → List ℕ) (List ℕ) expression_step place_step

abbrev pub place_text : CPlace → List ℕ
place_text = fold-CPlace (ℕ → List ℕ) (List ℕ) expression_step place_step

abbrev pub whole_text : CExpression → List ℕ
whole_text e = expression_text e 8

abbrev pub listed_text : List CExpression → List ℕ
listed_text all = with_commas (map whole_text all)

abbrev pub arguments_text : List CExpression → List ℕ
arguments_text all = bracketed_text (listed_text all)
