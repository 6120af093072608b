-- Reading an operand decides operands, where reading the expressions and operands in it decides those.
use Rattle.std.proofs.Common.{◌≡◌, ℕ, List, [], ◌∷◌, ◌++◌, refl, ap, sym, subst, append_assoc}
use Rattle.cc_whole_tokens.specs.declared.mark.Mark.TheVariants as mark
use Rattle.cc_whole_tokens.specs.declared.token.Token.{Token}
use Rattle.cc_whole_tokens.specs.declared.token.Token.TheVariants as token
use Rattle.cc_whole_tokens.specs.Mark.{same_mark}
use Rattle.cc_whole.specs.declared.types.CType.{CType}
use Rattle.cc_whole.specs.declared.types.CType.TheVariants as ty
use Rattle.cc_whole.specs.declared.expression.Prefix.TheVariants as prefix
use Rattle.cc_whole.specs.declared.expression.CPlace.{CPlace}
use Rattle.cc_whole.specs.declared.expression.CPlace.TheVariants as place
use Rattle.cc_whole.specs.declared.expression.CExpression.{CExpression}
use Rattle.cc_whole.specs.declared.expression.CExpression.TheVariants as tree
use Rattle.cc_whole.specs.Operators.{loosest}
use Rattle.cc_whole.specs.SpellsTypes.{sign, type_tokens, SpellsConstant}
use Rattle.cc_whole.specs.Spells.{SpellsPlace, SpellsExpression, bracketed}
use Rattle.cc_whole.specs.Spells as g
use Rattle.cc_whole_reading.specs.Parse.{Parse, ◌>>=◌, pure, expect}
use Rattle.cc_whole_reading.proofs.Decides.{Spelling, any, Decides, Done, done, decides_pure}
use Rattle.cc_whole_reading.proofs.Shapes.{Seq, seq, After, after, Named, named, Made, made, Either, one, other, decides_then}
use Rattle.cc_whole_reading.proofs.Choices.{decides_sign}
use Rattle.cc_whole_read_types.specs.ReadTypes.{pointed_type}
use Rattle.cc_whole_read_types.proofs.TypeLaws.{IsType, is_type, Pointed, pointed, no_star, decides_pointed}
use Rattle.cc_whole_read_expr.specs.ReadExpr as spec
use Rattle.cc_whole_read_expr.specs.ReadExpr.{prefixed, casted, address, typed_operand, cast, enclosed, brackets, place_at, loaded, variable, number, leaf, signed, operand_by}
use Rattle.cc_whole_read_expr.proofs.OperatorLaws.{ends}

-- a whole expression, and an operand
abbrev pub Whole : Spelling CExpression
Whole = SpellsExpression loosest

abbrev pub Small : Spelling CExpression
Small = SpellsExpression 0

-- ---- places behind their `*`

abbrev pub ClosedPlace : CType → CExpression → Spelling CPlace
ClosedPlace t e = After mark.RightParen (Done (place.At t e))

abbrev pub AtShape : CType → Spelling CPlace
AtShape t = After mark.RightParen (After mark.LeftParen (Seq Whole (ClosedPlace t)))

abbrev pub PlaceTail : Spelling CPlace
PlaceTail = After mark.LeftParen (Seq Pointed AtShape)

pub ends_close : (ts : List Token) → ends (token.Mark mark.RightParen ∷ ts)
ends_close ts j = refl

pub close_follows : {B : Type 0} (U : Spelling B) (b : B) (ys rest : List Token) → After mark.RightParen U b ys → ends (ys ++ rest)
close_follows U _ _ rest (after b ys u) = ends_close (ys ++ rest)

star_ends : (t : CType) (b : CPlace) (ys rest : List Token) → AtShape t b ys → no_star (ys ++ rest)
unfolding same_mark
star_ends t _ _ rest (after b ys u) = refl

-- the tokens of a place behind its `*`
abbrev pub place_tokens : CType → List Token → List Token
place_tokens t xs = bracketed (type_tokens t ++ sign mark.Star) ++ bracketed xs

place_parts : (t : CType) (xs : List Token)
    → place_tokens t xs ≡ token.Mark mark.LeftParen ∷ ((type_tokens t ++ sign mark.Star) ++ (token.Mark mark.RightParen ∷ token.Mark mark.LeftParen ∷ (xs ++ sign mark.RightParen)))
place_parts t xs = ap (λ l. token.Mark mark.LeftParen ∷ l) (append_assoc (type_tokens t ++ sign mark.Star) (sign mark.RightParen) (bracketed xs))

pub place_tail : (t : CType) (e : CExpression) (xs : List Token) → Whole e xs → PlaceTail (place.At t e) (place_tokens t xs)
place_tail t e xs d =
    subst (PlaceTail (place.At t e)) (sym (place_parts t xs))
    (after _ _ (seq t (type_tokens t ++ sign mark.Star) (place.At t e) _ (pointed t) (after _ _ (after _ _ (seq e xs (place.At t e) (sign mark.RightParen) d (after _ _ done))))))

-- a place and its tokens, from those behind the `*`
data PlaceOf : CPlace → List Token → Type 0 where
  place_of : (t : CType) (e : CExpression) (xs : List Token) → Whole e xs → PlaceOf (place.At t e) (place_tokens t xs)

of_address : (t : CType) (e : CExpression) (xs : List Token) → Whole e xs → (b : CPlace) (ys : List Token) → ClosedPlace t e b ys
    → PlaceOf b (token.Mark mark.LeftParen ∷ ((type_tokens t ++ sign mark.Star) ++ (token.Mark mark.RightParen ∷ token.Mark mark.LeftParen ∷ (xs ++ ys))))
of_address t e xs d _ _ (after _ _ done) = subst (PlaceOf (place.At t e)) (place_parts t xs) (place_of t e xs d)

of_at : (t : CType) (ts : List Token) → Pointed t ts → (b : CPlace) (ys : List Token) → AtShape t b ys → PlaceOf b (token.Mark mark.LeftParen ∷ (ts ++ ys))
of_at _ _ (pointed t) _ _ (after _ _ (after _ _ (seq e xs b ys d u))) = of_address t e xs d b ys u

of_tail : (b : CPlace) (ys : List Token) → PlaceTail b ys → PlaceOf b ys
of_tail _ _ (after _ _ (seq t ts b ys s u)) = of_at t ts s b ys u

spelled_place : (b : CPlace) (ys : List Token) → PlaceOf b ys → SpellsPlace b (token.Mark mark.Star ∷ ys)
spelled_place _ _ (place_of t e xs d) = g.SpellsPlace.pointed t e xs d

pub pointed_place : (b : CPlace) (ys : List Token) → PlaceTail b ys → SpellsPlace b (token.Mark mark.Star ∷ ys)
pointed_place b ys u = spelled_place b ys (of_tail b ys u)

module _ (n : ℕ) (ex : Parse CExpression) (dx : Decides Whole ends n ex) where
  decides_at : (t : CType) → Decides (AtShape t) any n (place_at ex t)
  unfolding place_at
  decides_at t =
      decides_sign mark.RightParen (After mark.LeftParen (Seq Whole (ClosedPlace t))) any n _
      (decides_sign mark.LeftParen (Seq Whole (ClosedPlace t)) any n _
      (decides_then Whole ends (ClosedPlace t) any (λ e b ys rest u f. close_follows (Done (place.At t e)) b ys rest u) n ex (λ e. expect mark.RightParen >>= (λ u. pure (place.At t e))) dx
      (λ e xs s. decides_sign mark.RightParen (Done (place.At t e)) any n (λ u. pure (place.At t e)) (decides_pure any n (place.At t e)))))

  pub decides_tail : Decides PlaceTail any n (spec.pointed ex)
  unfolding spec.pointed
  decides_tail =
      decides_sign mark.LeftParen (Seq Pointed AtShape) any n _
      (decides_then Pointed no_star AtShape any (λ t b ys rest u f. star_ends t b ys rest u) n pointed_type (λ t. place_at ex t) (decides_pointed n) (λ t xs s. decides_at t))

-- ---- operands, by what they begin with

abbrev pub TypedTail : CType → Spelling CExpression
TypedTail ty.Pointer = Either (After mark.And (Named (λ word. Done (tree.AddressOf word)))) (Made (tree.Cast ty.Pointer) Small)
TypedTail t = Made (tree.Cast t) Small

abbrev pub CastShape : Spelling CExpression
CastShape = Seq IsType (λ t. After mark.RightParen (TypedTail t))

abbrev pub EnclosedShape : Spelling CExpression
EnclosedShape = Seq Whole (λ e. After mark.RightParen (Done e))

abbrev pub BracketsShape : Spelling CExpression
BracketsShape = Either CastShape EnclosedShape

abbrev pub LeafShape : Spelling CExpression
LeafShape = Either (Named (λ word. Done (tree.Load (place.Name word)))) (Made tree.Constant SpellsConstant)

abbrev pub NotShape : Spelling CExpression
NotShape = Either (After mark.Not (Made (tree.Unary prefix.Not) Small)) LeafShape

abbrev pub ComplementShape : Spelling CExpression
ComplementShape = Either (After mark.Complement (Made (tree.Unary prefix.Complement) Small)) NotShape

abbrev pub SignedShape : Spelling CExpression
SignedShape = Either (After mark.Minus (Made (tree.Unary prefix.Negate) Small)) ComplementShape

abbrev pub StarShape : Spelling CExpression
StarShape = Either (After mark.Star (Made tree.Load PlaceTail)) SignedShape

abbrev pub OperandShape : Spelling CExpression
OperandShape = Either (After mark.LeftParen BracketsShape) StarShape

-- ---- what the operands are, both ways

cast_tail : (t : CType) (e : CExpression) (xs : List Token) → Small e xs → TypedTail t (tree.Cast t e) xs
cast_tail ty.Pointer e xs d = other _ _ (made e xs d)
cast_tail ty.Char e xs d = made e xs d
cast_tail ty.UChar e xs d = made e xs d
cast_tail ty.Short e xs d = made e xs d
cast_tail ty.UShort e xs d = made e xs d
cast_tail ty.Int e xs d = made e xs d
cast_tail ty.UInt e xs d = made e xs d
cast_tail ty.FunctionPointer e xs d = made e xs d

cast_parts : (t : CType) (xs : List Token) → bracketed (type_tokens t) ++ xs ≡ token.Mark mark.LeftParen ∷ (type_tokens t ++ (token.Mark mark.RightParen ∷ xs))
cast_parts t xs = ap (λ l. token.Mark mark.LeftParen ∷ l) (append_assoc (type_tokens t) (sign mark.RightParen) xs)

cast_shape : (t : CType) (e : CExpression) (xs : List Token) → Small e xs → OperandShape (tree.Cast t e) (bracketed (type_tokens t) ++ xs)
cast_shape t e xs d =
    subst (OperandShape (tree.Cast t e)) (sym (cast_parts t xs))
    (one _ _ (after _ _ (one _ _ (seq t (type_tokens t) (tree.Cast t e) (token.Mark mark.RightParen ∷ xs) (is_type t) (after _ _ (cast_tail t e xs d))))))

pub operand_shape : (x : CExpression) (xs : List Token) → Small x xs → OperandShape x xs
operand_shape _ _ (g.SpellsExpression.number c xs d) = other _ _ (other _ _ (other _ _ (other _ _ (other _ _ (other _ _ (made c xs d))))))
operand_shape _ _ (g.SpellsExpression.load _ _ (g.SpellsPlace.name word)) =
    other _ _ (other _ _ (other _ _ (other _ _ (other _ _ (one _ _ (named word (tree.Load (place.Name word)) [] done))))))
operand_shape _ _ (g.SpellsExpression.load _ _ (g.SpellsPlace.pointed t e xs d)) = other _ _ (one _ _ (after _ _ (made (place.At t e) (place_tokens t xs) (place_tail t e xs d))))
operand_shape _ _ (g.SpellsExpression.prefixed prefix.Negate e xs d) = other _ _ (other _ _ (one _ _ (after _ _ (made e xs d))))
operand_shape _ _ (g.SpellsExpression.prefixed prefix.Complement e xs d) = other _ _ (other _ _ (other _ _ (one _ _ (after _ _ (made e xs d)))))
operand_shape _ _ (g.SpellsExpression.prefixed prefix.Not e xs d) = other _ _ (other _ _ (other _ _ (other _ _ (one _ _ (after _ _ (made e xs d))))))
operand_shape _ _ (g.SpellsExpression.cast t e xs d) = cast_shape t e xs d
operand_shape _ _ (g.SpellsExpression.address word) =
    one _ _ (after _ _ (one _ _ (seq ty.Pointer (type_tokens ty.Pointer) (tree.AddressOf word) (token.Mark mark.RightParen ∷ token.Mark mark.And ∷ token.Name word ∷ []) (is_type ty.Pointer)
    (after _ _ (one _ _ (after _ _ (named word (tree.AddressOf word) [] done)))))))
operand_shape _ _ (g.SpellsExpression.brackets e xs d) = one _ _ (after _ _ (other _ _ (seq e xs e (sign mark.RightParen) d (after e [] done))))

cast_of : (t : CType) (e : CExpression) (xs : List Token) → Small e xs → Small (tree.Cast t e) (token.Mark mark.LeftParen ∷ (type_tokens t ++ (token.Mark mark.RightParen ∷ xs)))
cast_of t e xs d = subst (Small (tree.Cast t e)) (cast_parts t xs) (g.SpellsExpression.cast t e xs d)

of_typed : (t : CType) (b : CExpression) (ys : List Token) → TypedTail t b ys → Small b (token.Mark mark.LeftParen ∷ (type_tokens t ++ (token.Mark mark.RightParen ∷ ys)))
of_typed ty.Pointer _ _ (one _ _ (after _ _ (named word _ _ done))) = g.SpellsExpression.address word
of_typed ty.Pointer _ _ (other _ _ (made e xs d)) = cast_of ty.Pointer e xs d
of_typed ty.Char _ _ (made e xs d) = cast_of ty.Char e xs d
of_typed ty.UChar _ _ (made e xs d) = cast_of ty.UChar e xs d
of_typed ty.Short _ _ (made e xs d) = cast_of ty.Short e xs d
of_typed ty.UShort _ _ (made e xs d) = cast_of ty.UShort e xs d
of_typed ty.Int _ _ (made e xs d) = cast_of ty.Int e xs d
of_typed ty.UInt _ _ (made e xs d) = cast_of ty.UInt e xs d
of_typed ty.FunctionPointer _ _ (made e xs d) = cast_of ty.FunctionPointer e xs d

of_cast : (t : CType) (ts : List Token) → IsType t ts → (b : CExpression) (ys : List Token) → After mark.RightParen (TypedTail t) b ys → Small b (token.Mark mark.LeftParen ∷ (ts ++ ys))
of_cast _ _ (is_type t) _ _ (after b ys u) = of_typed t b ys u

of_enclosed : (e : CExpression) (xs : List Token) → Whole e xs → (b : CExpression) (ys : List Token) → After mark.RightParen (Done e) b ys → Small b (token.Mark mark.LeftParen ∷ (xs ++ ys))
of_enclosed e xs d _ _ (after _ _ done) = g.SpellsExpression.brackets e xs d

of_brackets : (b : CExpression) (ys : List Token) → BracketsShape b ys → Small b (token.Mark mark.LeftParen ∷ ys)
of_brackets _ _ (one _ _ (seq t ts b ys s u)) = of_cast t ts s b ys u
of_brackets _ _ (other _ _ (seq e xs b ys d u)) = of_enclosed e xs d b ys u

pub of_operand : (x : CExpression) (xs : List Token) → OperandShape x xs → Small x xs
of_operand _ _ (one _ _ (after b ys u)) = of_brackets b ys u
of_operand _ _ (other _ _ (one _ _ (after _ _ (made p ps u)))) = g.SpellsExpression.load p (token.Mark mark.Star ∷ ps) (pointed_place p ps u)
of_operand _ _ (other _ _ (other _ _ (one _ _ (after _ _ (made e xs d))))) = g.SpellsExpression.prefixed prefix.Negate e xs d
of_operand _ _ (other _ _ (other _ _ (other _ _ (one _ _ (after _ _ (made e xs d)))))) = g.SpellsExpression.prefixed prefix.Complement e xs d
of_operand _ _ (other _ _ (other _ _ (other _ _ (other _ _ (one _ _ (after _ _ (made e xs d))))))) = g.SpellsExpression.prefixed prefix.Not e xs d
of_operand _ _ (other _ _ (other _ _ (other _ _ (other _ _ (other _ _ (one _ _ (named word _ _ done))))))) =
    g.SpellsExpression.load (place.Name word) (token.Name word ∷ []) (g.SpellsPlace.name word)
of_operand _ _ (other _ _ (other _ _ (other _ _ (other _ _ (other _ _ (other _ _ (made c xs d))))))) = g.SpellsExpression.number c xs d
