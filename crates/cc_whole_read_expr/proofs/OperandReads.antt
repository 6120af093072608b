-- That reading an operand decides operands, where reading the expressions and operands in it decides those: part by part.
use Rattle.std.proofs.Common.{◌≡◌, ℕ, suc, true, false, List, [], ◌∷◌, ◌++◌, refl, ap, ◌∙◌, append_assoc}
use Rattle.cc_whole_tokens.specs.declared.mark.Mark.{Mark}
use Rattle.cc_whole_tokens.specs.declared.mark.Mark.TheVariants as mark
use Rattle.cc_whole_tokens.specs.declared.token.Token.{Token}
use Rattle.cc_whole_tokens.specs.declared.token.Token.TheVariants as token
use Rattle.cc_whole_tokens.specs.Mark.{same_mark}
use Rattle.cc_whole.specs.declared.types.CType.{CType}
use Rattle.cc_whole.specs.declared.types.CType.TheVariants as ty
use Rattle.cc_whole.specs.declared.expression.Prefix.{Prefix}
use Rattle.cc_whole.specs.declared.expression.Prefix.TheVariants as prefix
use Rattle.cc_whole.specs.declared.expression.CPlace.TheVariants as place
use Rattle.cc_whole.specs.declared.expression.CExpression.{CExpression}
use Rattle.cc_whole.specs.declared.expression.CExpression.TheVariants as tree
use Rattle.cc_whole.specs.Spells.{SpellsExpression}
use Rattle.cc_whole.specs.SpellsTypes.{SpellsConstant}
use Rattle.cc_whole.specs.SpellsTypes as c
use Rattle.cc_whole_reading.specs.Parse.{Parse, ◌>>=◌, pure, if_next, sees_a, is_name, expect}
use Rattle.cc_whole_reading.specs.Constants.{constant}
use Rattle.cc_whole_reading.proofs.Decides.{SameFront, Spelling, any, Decides, decides_as, Done, decides_pure}
use Rattle.cc_whole_reading.proofs.Shapes.{seq, After, after, Named, named, Made, made, decides_then, decides_made}
use Rattle.cc_whole_reading.proofs.Choices.{decides_sign, decides_word, sees_a_same}
use Rattle.cc_whole_reading.proofs.Ways.{Apart, Tells, decides_if, decides_next, decides_sight, apart_after, apart_either, apart_named, apart_made}
use Rattle.cc_whole_reading.proofs.ConstantLaws.{all_kept, decides_constant}
use Rattle.cc_whole_read_types.specs.ReadTypes.{sees_type, type_name}
use Rattle.cc_whole_read_types.proofs.TypeLaws.{IsType, is_type, TypeEnds, decides_type}
use Rattle.cc_whole_read_expr.specs.ReadExpr as spec
use Rattle.cc_whole_read_expr.specs.ReadExpr.{prefixed, casted, address, typed_operand, cast, enclosed, brackets, loaded, variable, number, leaf, signed, operand_by}
use Rattle.cc_whole_read_expr.proofs.Firsts.{front}
use Rattle.cc_whole_read_expr.proofs.OperatorLaws.{ends}
use Rattle.cc_whole_read_expr.proofs.OperandLaws.{Whole, Small, PlaceTail, TypedTail, CastShape, EnclosedShape, BracketsShape, LeafShape, NotShape, ComplementShape, SignedShape, StarShape, OperandShape, close_follows, decides_tail, operand_shape, of_operand}

abbrev Address : Spelling CExpression
Address = Named (λ word. Done (tree.AddressOf word))

decides_address : (n : ℕ) → Decides Address any n address
unfolding address
decides_address n = decides_word (λ word. Done (tree.AddressOf word)) any n (λ word. pure (tree.AddressOf word)) (λ word. decides_pure any n (tree.AddressOf word))

-- no operand begins with `&`
no_address : Apart mark.And (SpellsExpression 0) any
no_address b xs rest d f = (front d rest).no_and

type_close : (t : CType) (b : CExpression) (ys rest : List Token) → After mark.RightParen (TypedTail t) b ys → TypeEnds (ys ++ rest)
unfolding same_mark
type_close t _ _ rest (after b ys u) = record { no_star = refl; words = record { no_char = refl; no_short = refl } }

sees_type_same : (xs ys : List Token) → SameFront xs ys → sees_type xs ≡ sees_type ys
sees_type_same [] [] same = refl
sees_type_same [] (y ∷ ys) same = absurd same
sees_type_same (x ∷ xs) [] same = absurd same
sees_type_same (x ∷ xs) (y ∷ ys) same = one_token x xs ys ∙ ap (λ t. sees_type (t ∷ ys)) same
  where
    one_token : (t : Token) (us vs : List Token) → sees_type (t ∷ us) ≡ sees_type (t ∷ vs)
    one_token (token.Mark n) us vs = refl
    one_token token.Dash us vs = refl
    one_token (token.Name word) us vs = refl
    one_token (token.Signed ds) us vs = refl
    one_token (token.Unsigned ds) us vs = refl
    one_token (token.Text bytes) us vs = refl
    one_token token.Shared us vs = refl

type_there : (t : CType) (xs rest : List Token) → IsType t xs → sees_type (xs ++ rest) ≡ true
unfolding same_mark
type_there _ _ rest (is_type ty.Char) = refl
type_there _ _ rest (is_type ty.UChar) = refl
type_there _ _ rest (is_type ty.Short) = refl
type_there _ _ rest (is_type ty.UShort) = refl
type_there _ _ rest (is_type ty.Int) = refl
type_there _ _ rest (is_type ty.UInt) = refl
type_there _ _ rest (is_type ty.Pointer) = refl
type_there _ _ rest (is_type ty.FunctionPointer) = refl

cast_there : Tells sees_type true CastShape any
cast_there _ _ rest (seq t xs b ys s u) f = ap sees_type (append_assoc xs ys rest) ∙ type_there t xs (ys ++ rest) s

no_cast : Tells sees_type false EnclosedShape any
no_cast _ _ rest (seq e xs b ys d u) f = ap sees_type (append_assoc xs ys rest) ∙ (front d (ys ++ rest)).no_type

name_there : Tells (sees_a is_name) true (Named (λ word. Done (tree.Load (place.Name word)))) any
name_there _ _ rest (named word b ys u) f = refl

no_name : Tells (sees_a is_name) false (Made tree.Constant SpellsConstant) any
no_name _ _ rest (made _ _ (c.SpellsConstant.signed ds)) f = refl
no_name _ _ rest (made _ _ (c.SpellsConstant.negative ds)) f = refl
no_name _ _ rest (made _ _ (c.SpellsConstant.unsigned ds)) f = refl

no_sign : (m : Mark) → Apart m (Made tree.Constant SpellsConstant) any
no_sign m _ _ rest (made _ _ (c.SpellsConstant.signed ds)) f = refl
no_sign m _ _ rest (made _ _ (c.SpellsConstant.negative ds)) f = refl
no_sign m _ _ rest (made _ _ (c.SpellsConstant.unsigned ds)) f = refl

apart_leaf : (m : Mark) → Apart m LeafShape any
apart_leaf m =
    apart_either m (Named (λ word. Done (tree.Load (place.Name word)))) (Made tree.Constant SpellsConstant) any (apart_named m (λ word. Done (tree.Load (place.Name word))) any) (no_sign m)

apart_not : (m : Mark) → same_mark mark.Not m ≡ false → Apart m NotShape any
apart_not m differ = apart_either m (After mark.Not (Made (tree.Unary prefix.Not) Small)) LeafShape any (apart_after m mark.Not (Made (tree.Unary prefix.Not) Small) any differ) (apart_leaf m)

apart_complement : (m : Mark) → same_mark mark.Complement m ≡ false → same_mark mark.Not m ≡ false → Apart m ComplementShape any
apart_complement m differ next =
    apart_either m (After mark.Complement (Made (tree.Unary prefix.Complement) Small)) NotShape any (apart_after m mark.Complement (Made (tree.Unary prefix.Complement) Small) any differ)
    (apart_not m next)

apart_signed : (m : Mark) → same_mark mark.Minus m ≡ false → same_mark mark.Complement m ≡ false → same_mark mark.Not m ≡ false → Apart m SignedShape any
apart_signed m differ next last =
    apart_either m (After mark.Minus (Made (tree.Unary prefix.Negate) Small)) ComplementShape any (apart_after m mark.Minus (Made (tree.Unary prefix.Negate) Small) any differ)
    (apart_complement m next last)

apart_star : (m : Mark) → same_mark mark.Star m ≡ false → same_mark mark.Minus m ≡ false → same_mark mark.Complement m ≡ false → same_mark mark.Not m ≡ false → Apart m StarShape any
apart_star m differ minus complement last =
    apart_either m (After mark.Star (Made tree.Load PlaceTail)) SignedShape any (apart_after m mark.Star (Made tree.Load PlaceTail) any differ) (apart_signed m minus complement last)

decides_leaf : (n : ℕ) → Decides LeafShape any n (leaf all_kept)
unfolding leaf variable number
decides_leaf n =
    decides_if (sees_a is_name) (sees_a_same is_name) (Named (λ word. Done (tree.Load (place.Name word)))) (Made tree.Constant SpellsConstant) any name_there no_name n variable (number all_kept)
    (λ ts small is. decides_word (λ word. Done (tree.Load (place.Name word))) any n (λ word. pure (tree.Load (place.Name word))) (λ word. decides_pure any n (tree.Load (place.Name word))) ts small)
    (decides_made tree.Constant SpellsConstant any n (constant all_kept) (decides_constant n))

module _ (n : ℕ) (ex un : Parse CExpression) (dx : Decides Whole ends n ex) (du : Decides Small any n un) where
  decides_prefixed : (o : Prefix) → Decides (Made (tree.Unary o) Small) any n (prefixed un o)
  unfolding prefixed
  decides_prefixed o = decides_made (tree.Unary o) Small any n un du

  decides_casted : (t : CType) → Decides (Made (tree.Cast t) Small) any n (casted un t)
  unfolding casted
  decides_casted t = decides_made (tree.Cast t) Small any n un du

  decides_typed : (t : CType) → Decides (TypedTail t) any n (typed_operand un t)
  unfolding typed_operand
  decides_typed ty.Pointer =
      decides_sight mark.And Address (Made (tree.Cast ty.Pointer) Small) any n address (casted un ty.Pointer)
      (apart_made mark.And (tree.Cast ty.Pointer) Small any no_address) (decides_address n) (decides_casted ty.Pointer)
  decides_typed ty.Char = decides_casted ty.Char
  decides_typed ty.UChar = decides_casted ty.UChar
  decides_typed ty.Short = decides_casted ty.Short
  decides_typed ty.UShort = decides_casted ty.UShort
  decides_typed ty.Int = decides_casted ty.Int
  decides_typed ty.UInt = decides_casted ty.UInt
  decides_typed ty.FunctionPointer = decides_casted ty.FunctionPointer

  decides_cast : Decides CastShape any n (cast un)
  unfolding cast
  decides_cast =
      decides_then IsType TypeEnds (λ t. After mark.RightParen (TypedTail t)) any (λ t b ys rest u f. type_close t b ys rest u) n type_name
      (λ t. expect mark.RightParen >>= (λ u. typed_operand un t)) (decides_type n)
      (λ t xs s. decides_sign mark.RightParen (TypedTail t) any n (λ u. typed_operand un t) (decides_typed t))

  decides_enclosed : Decides EnclosedShape any n (enclosed ex)
  unfolding enclosed
  decides_enclosed =
      decides_then Whole ends (λ e. After mark.RightParen (Done e)) any (λ e b ys rest u f. close_follows (Done e) b ys rest u) n ex (λ e. expect mark.RightParen >>= (λ u. pure e)) dx
      (λ e xs s. decides_sign mark.RightParen (Done e) any n (λ u. pure e) (decides_pure any n e))

  decides_brackets : Decides BracketsShape any n (brackets ex un)
  unfolding brackets
  decides_brackets =
      decides_if sees_type sees_type_same CastShape EnclosedShape any cast_there no_cast n (cast un) (enclosed ex) (λ ts small is. decides_cast ts small) decides_enclosed

  decides_signed : Decides SignedShape any (suc n) (signed all_kept un)
  unfolding signed same_mark
  decides_signed =
      decides_next mark.Minus (Made (tree.Unary prefix.Negate) Small) ComplementShape any n (prefixed un prefix.Negate) _ (apart_complement mark.Minus refl refl) (decides_prefixed prefix.Negate)
      (decides_next mark.Complement (Made (tree.Unary prefix.Complement) Small) NotShape any n (prefixed un prefix.Complement) _ (apart_not mark.Complement refl)
      (decides_prefixed prefix.Complement)
      (decides_next mark.Not (Made (tree.Unary prefix.Not) Small) LeafShape any n (prefixed un prefix.Not) (leaf all_kept) (apart_leaf mark.Not) (decides_prefixed prefix.Not)
      (decides_leaf (suc n))))

  decides_loaded : Decides (Made tree.Load PlaceTail) any n (loaded ex)
  unfolding loaded
  decides_loaded = decides_made tree.Load PlaceTail any n (spec.pointed ex) (decides_tail n ex dx)

  pub decides_operand_by : Decides (SpellsExpression 0) any (suc n) (operand_by all_kept ex un)
  unfolding operand_by same_mark
  decides_operand_by =
      decides_as OperandShape Small any (suc n) (operand_by all_kept ex un) operand_shape of_operand
      (decides_next mark.LeftParen BracketsShape StarShape any n (brackets ex un) (if_next mark.Star (loaded ex) (signed all_kept un)) (apart_star mark.LeftParen refl refl refl refl) decides_brackets
      (decides_next mark.Star (Made tree.Load PlaceTail) SignedShape any n (loaded ex) (signed all_kept un) (apart_signed mark.Star refl refl refl) decides_loaded decides_signed))
