-- How the code reads expressions, places, arguments and what a call calls.
use Rattle.std.specs.Prelude.{ℕ, zero, suc, if◌then◌else◌, ◌&&◌, ◌==◌, ◌+◌, List, [], ◌∷◌, length, Option, Some, None, Ok}
use Rattle.cf_base.specs.declared.arith.Arith.{Arith}
use Rattle.cc_whole_tokens.specs.declared.mark.Mark.TheVariants as mark
use Rattle.cc_whole_tokens.specs.declared.token.Token.{Token}
use Rattle.cc_whole.specs.declared.types.CType.{CType}
use Rattle.cc_whole.specs.declared.types.CSignature.{CSignature}
use Rattle.cc_whole.specs.declared.expression.Prefix.{Prefix}
use Rattle.cc_whole.specs.declared.expression.Prefix.TheVariants as prefix
use Rattle.cc_whole.specs.declared.expression.CPlace.{CPlace}
use Rattle.cc_whole.specs.declared.expression.CPlace.TheVariants as place
use Rattle.cc_whole.specs.declared.expression.CExpression.{CExpression}
use Rattle.cc_whole.specs.declared.expression.CExpression.TheVariants as tree
use Rattle.cc_whole.specs.declared.statement.CCallee.{CCallee}
use Rattle.cc_whole.specs.declared.statement.CCallee.TheVariants as to
use Rattle.cc_whole.specs.Operators.{joins, loosest}
use Rattle.cc_whole.specs.Types.{is_pointer}
use Rattle.cc_whole_reading.specs.Parse.{Parse, ◌>>=◌, pure, refuse, if_test, if_next, all_of, past, sees, sees_a, is_name, behind, expect, name}
use Rattle.cc_whole_reading.specs.Constants.{Keep, constant}
use Rattle.cc_whole_read_types.specs.ReadTypes.{type_name, pointed_type, sees_type, signature}

-- ---- operands

-- behind its sign
unfoldable pub prefixed : Parse CExpression → Prefix → Parse CExpression
prefixed un o = do
  e ← un
  pure (tree.Unary o e)

unfoldable pub casted : Parse CExpression → CType → Parse CExpression
casted un t = do
  e ← un
  pure (tree.Cast t e)

-- behind `(char *)&`
unfoldable pub address : Parse CExpression
address = do
  word ← name
  pure (tree.AddressOf word)

-- behind a type in brackets
unfoldable pub typed_operand : Parse CExpression → CType → Parse CExpression
typed_operand un t = if_test (λ ts. is_pointer t && sees mark.And ts) (past address) (casted un t)

unfoldable pub cast : Parse CExpression → Parse CExpression
cast un = do
  t ← type_name
  _ ← expect mark.RightParen
  typed_operand un t

unfoldable pub enclosed : Parse CExpression → Parse CExpression
enclosed ex = do
  e ← ex
  _ ← expect mark.RightParen
  pure e

-- behind an opening bracket
unfoldable pub brackets : Parse CExpression → Parse CExpression → Parse CExpression
brackets ex un = if_test sees_type (cast un) (enclosed ex)

-- behind the type of a place
unfoldable pub place_at : Parse CExpression → CType → Parse CPlace
place_at ex t = do
  _ ← expect mark.RightParen
  _ ← expect mark.LeftParen
  e ← ex
  _ ← expect mark.RightParen
  pure (place.At t e)

-- behind `*`
unfoldable pub pointed : Parse CExpression → Parse CPlace
pointed ex = do
  _ ← expect mark.LeftParen
  t ← pointed_type
  place_at ex t

unfoldable pub loaded : Parse CExpression → Parse CExpression
loaded ex = do
  p ← pointed ex
  pure (tree.Load p)

unfoldable pub variable : Parse CExpression
variable = do
  word ← name
  pure (tree.Load (place.Name word))

unfoldable pub number : Keep → Parse CExpression
number keep = do
  c ← constant keep
  pure (tree.Constant c)

unfoldable pub leaf : Keep → Parse CExpression
leaf keep = if_test (sees_a is_name) variable (number keep)

unfoldable pub signed : Keep → Parse CExpression → Parse CExpression
signed keep un =
    if_next mark.Minus (prefixed un prefix.Negate) (if_next mark.Complement (prefixed un prefix.Complement) (if_next mark.Not (prefixed un prefix.Not) (leaf keep)))

unfoldable pub operand_by : Keep → Parse CExpression → Parse CExpression → Parse CExpression
operand_by keep ex un = if_next mark.LeftParen (brackets ex un) (if_next mark.Star (loaded ex) (signed keep un))

-- ---- operators between operands

abbrev pub above : ℕ → Option (ℕ × Arith) → Option Arith
above level None = None
above level (Some p) = if p.0 == level + 1 then Some p.1 else None

-- the operator that comes next, where its right operand is of this level
abbrev pub operator_above : ℕ → List Token → Option Arith
operator_above level [] = None
operator_above level (t ∷ ts) = above level (joins t)

abbrev pub if_some : {A B : Type 0} → Option A → (A → B) → B → B
if_some None f b = b
if_some (Some a) f b = f a

-- the operands that follow one, which operators of a level join; the number bounds the turns, and each turn takes a token
unfoldable pub more_operands : Parse CExpression → ℕ → ℕ → CExpression → Parse CExpression
more_operands tighter level zero a = pure a
more_operands tighter level (suc n) a = λ ts.
    if_some (operator_above level ts) (λ op. (tighter >>= (λ b. more_operands tighter level n (tree.Binary op a b))) (behind ts)) (Ok (a, ts))

unfoldable pub binary : Parse CExpression → ℕ → Parse CExpression
binary un zero = un
binary un (suc level) = binary un level >>= (λ a ts. more_operands (binary un level) level (length ts) a ts)

-- an operand; the number bounds how deep operands stand in it
unfoldable pub operand : Keep → ℕ → Parse CExpression
operand keep zero = refuse
operand keep (suc n) = operand_by keep (binary (operand keep n) loosest) (operand keep n)

-- a whole expression
abbrev pub expression : Keep → ℕ → Parse CExpression
expression keep n = binary (operand keep n) loosest

-- ---- places, arguments, and what a call calls

unfoldable pub named_place : Parse CPlace
named_place = do
  word ← name
  pure (place.Name word)

unfoldable pub one_place : Parse CExpression → Parse CPlace
one_place ex = if_next mark.Star (pointed ex) named_place

abbrev pub more_arguments : Parse CExpression → List CExpression → Parse (List CExpression)
more_arguments ex found = all_of (sees mark.Comma) (past ex) found

unfoldable pub some_arguments : Parse CExpression → Parse (List CExpression)
some_arguments ex = ex >>= (λ e. more_arguments ex (e ∷ []))

-- behind an opening bracket
unfoldable pub arguments : Parse CExpression → Parse (List CExpression)
arguments ex = if_test (sees mark.RightParen) (pure []) (some_arguments ex)

unfoldable pub called_name : Parse CCallee
called_name = do
  word ← name
  pure (to.Name word)

unfoldable pub called_with : Parse CExpression → CSignature → Parse CCallee
called_with ex s = do
  _ ← expect mark.LeftParen
  e ← ex
  _ ← expect mark.RightParen
  _ ← expect mark.RightParen
  pure (to.Pointer s e)

-- behind an opening bracket
unfoldable pub called_pointer : Parse CExpression → Parse CCallee
called_pointer ex = signature >>= (λ s. called_with ex s)

unfoldable pub callee : Parse CExpression → Parse CCallee
callee ex = if_next mark.LeftParen (called_pointer ex) called_name
