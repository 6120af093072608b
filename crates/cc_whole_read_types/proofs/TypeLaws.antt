-- Reading a type decides how types are spelled.
use Rattle.std.proofs.Common.{◌≡◌, ℕ, false, List, [], ◌++◌, Option, Some, None, refl}
use Rattle.cc_whole_tokens.specs.declared.mark.Mark.{Mark}
use Rattle.cc_whole_tokens.specs.declared.mark.Mark.TheVariants as mark
use Rattle.cc_whole_tokens.specs.declared.token.Token.{Token}
use Rattle.cc_whole_tokens.specs.Mark.{same_mark}
use Rattle.cc_whole.specs.declared.types.CType.{CType}
use Rattle.cc_whole.specs.declared.types.CType.TheVariants as ty
use Rattle.cc_whole.specs.SpellsTypes.{sign, type_tokens, result_tokens}
use Rattle.cc_whole_reading.specs.Parse.{◌>>=◌, pure, if_next, sees, expect}
use Rattle.cc_whole_reading.proofs.Decides.{Spelling, Follow, Decides, decides_as, decides_follow, Done, done, decides_pure}
use Rattle.cc_whole_reading.proofs.Shapes.{Seq, seq, After, after, Made, made, Either, one, other, decides_then, decides_made}
use Rattle.cc_whole_reading.proofs.Choices.{decides_sign}
use Rattle.cc_whole_reading.proofs.Ways.{Apart, decides_sight, apart_after, apart_either, apart_done, apart_seq}
use Rattle.cc_whole_read_types.specs.ReadTypes.{char_type, unsigned_type, function_pointer, other_type, type_name, some_type, result_type, pointed_char, pointed_other, pointed_type}

pub data IsType : CType → List Token → Type 0 where
  is_type : (t : CType) → IsType t (type_tokens t)

-- ---- what may follow

-- no word goes on a type that begins with `unsigned`
pub record WordEnds (ts : List Token) : Type 0 where
  pub no_char : sees mark.Char ts ≡ false
  pub no_short : sees mark.Short ts ≡ false

pub record TypeEnds (ts : List Token) : Type 0 where
  pub no_star : sees mark.Star ts ≡ false
  pub words : WordEnds ts

abbrev pub no_star : Follow
no_star ts = sees mark.Star ts ≡ false

-- ---- the shapes of types

abbrev CharTail : Spelling CType
CharTail = Either (After mark.Star (Done ty.Pointer)) (Done ty.Char)

abbrev UnsignedTail : Spelling CType
UnsignedTail = Either (After mark.Char (Done ty.UChar)) (Either (After mark.Short (Done ty.UShort)) (Done ty.UInt))

abbrev FunctionShape : Spelling CType
FunctionShape = After mark.FunctionPointer (Done ty.FunctionPointer)

abbrev IntShape : Spelling CType
IntShape = Either (After mark.Int (Done ty.Int)) FunctionShape

abbrev ShortShape : Spelling CType
ShortShape = Either (After mark.Short (Done ty.Short)) IntShape

abbrev OtherShape : Spelling CType
OtherShape = Either (After mark.Unsigned UnsignedTail) ShortShape

abbrev TypeShape : Spelling CType
TypeShape = Either (After mark.Char CharTail) OtherShape

decides_char : (n : ℕ) → Decides CharTail no_star n char_type
unfolding char_type
decides_char n =
    decides_sight mark.Star (Done ty.Pointer) (Done ty.Char) no_star n (pure ty.Pointer) (pure ty.Char) (apart_done mark.Star ty.Char no_star (λ rest f. f))
    (decides_pure no_star n ty.Pointer) (decides_pure no_star n ty.Char)

decides_unsigned : (n : ℕ) → Decides UnsignedTail WordEnds n unsigned_type
unfolding unsigned_type same_mark
decides_unsigned n =
    decides_sight mark.Char (Done ty.UChar) (Either (After mark.Short (Done ty.UShort)) (Done ty.UInt)) WordEnds n (pure ty.UChar) (if_next mark.Short (pure ty.UShort) (pure ty.UInt))
    (apart_either mark.Char (After mark.Short (Done ty.UShort)) (Done ty.UInt) WordEnds (apart_after mark.Char mark.Short (Done ty.UShort) WordEnds refl)
    (apart_done mark.Char ty.UInt WordEnds (λ rest f. f.no_char)))
    (decides_pure WordEnds n ty.UChar)
    (decides_sight mark.Short (Done ty.UShort) (Done ty.UInt) WordEnds n (pure ty.UShort) (pure ty.UInt) (apart_done mark.Short ty.UInt WordEnds (λ rest f. f.no_short))
    (decides_pure WordEnds n ty.UShort) (decides_pure WordEnds n ty.UInt))

decides_function : (n : ℕ) → Decides FunctionShape WordEnds n function_pointer
unfolding function_pointer
decides_function n = decides_sign mark.FunctionPointer (Done ty.FunctionPointer) WordEnds n (λ u. pure ty.FunctionPointer) (decides_pure WordEnds n ty.FunctionPointer)

apart_int : (m : Mark) → same_mark mark.Int m ≡ false → same_mark mark.FunctionPointer m ≡ false → Apart m IntShape WordEnds
apart_int m int pointer =
    apart_either m (After mark.Int (Done ty.Int)) FunctionShape WordEnds (apart_after m mark.Int (Done ty.Int) WordEnds int)
    (apart_after m mark.FunctionPointer (Done ty.FunctionPointer) WordEnds pointer)

apart_short : (m : Mark) → same_mark mark.Short m ≡ false → same_mark mark.Int m ≡ false → same_mark mark.FunctionPointer m ≡ false → Apart m ShortShape WordEnds
apart_short m short int pointer =
    apart_either m (After mark.Short (Done ty.Short)) IntShape WordEnds (apart_after m mark.Short (Done ty.Short) WordEnds short) (apart_int m int pointer)

decides_other : (n : ℕ) → Decides OtherShape WordEnds n other_type
unfolding other_type same_mark
decides_other n =
    decides_sight mark.Unsigned UnsignedTail ShortShape WordEnds n unsigned_type (if_next mark.Short (pure ty.Short) (if_next mark.Int (pure ty.Int) function_pointer))
    (apart_short mark.Unsigned refl refl refl) (decides_unsigned n)
    (decides_sight mark.Short (Done ty.Short) IntShape WordEnds n (pure ty.Short) (if_next mark.Int (pure ty.Int) function_pointer)
    (apart_int mark.Short refl refl) (decides_pure WordEnds n ty.Short)
    (decides_sight mark.Int (Done ty.Int) FunctionShape WordEnds n (pure ty.Int) function_pointer
    (apart_after mark.Int mark.FunctionPointer (Done ty.FunctionPointer) WordEnds refl) (decides_pure WordEnds n ty.Int) (decides_function n)))

apart_other : (m : Mark) → same_mark mark.Unsigned m ≡ false → same_mark mark.Short m ≡ false → same_mark mark.Int m ≡ false → same_mark mark.FunctionPointer m ≡ false
    → (t : CType) (xs rest : List Token) → OtherShape t xs → sees m (xs ++ rest) ≡ false
apart_other m unsigned short int pointer _ _ rest (one _ _ (after b ys u)) = unsigned
apart_other m unsigned short int pointer _ _ rest (other _ _ (one _ _ (after b ys u))) = short
apart_other m unsigned short int pointer _ _ rest (other _ _ (other _ _ (one _ _ (after b ys u)))) = int
apart_other m unsigned short int pointer _ _ rest (other _ _ (other _ _ (other _ _ (after b ys u)))) = pointer

shape_of : (t : CType) (xs : List Token) → IsType t xs → TypeShape t xs
shape_of _ _ (is_type ty.Char) = one _ _ (after _ _ (other _ _ done))
shape_of _ _ (is_type ty.Pointer) = one _ _ (after _ _ (one _ _ (after _ _ done)))
shape_of _ _ (is_type ty.UChar) = other _ _ (one _ _ (after _ _ (one _ _ (after _ _ done))))
shape_of _ _ (is_type ty.UShort) = other _ _ (one _ _ (after _ _ (other _ _ (one _ _ (after _ _ done)))))
shape_of _ _ (is_type ty.UInt) = other _ _ (one _ _ (after _ _ (other _ _ (other _ _ done))))
shape_of _ _ (is_type ty.Short) = other _ _ (other _ _ (one _ _ (after _ _ done)))
shape_of _ _ (is_type ty.Int) = other _ _ (other _ _ (other _ _ (one _ _ (after _ _ done))))
shape_of _ _ (is_type ty.FunctionPointer) = other _ _ (other _ _ (other _ _ (other _ _ (after _ _ done))))

of_other : (t : CType) (xs : List Token) → OtherShape t xs → IsType t xs
of_other _ _ (one _ _ (after _ _ (one _ _ (after _ _ done)))) = is_type ty.UChar
of_other _ _ (one _ _ (after _ _ (other _ _ (one _ _ (after _ _ done))))) = is_type ty.UShort
of_other _ _ (one _ _ (after _ _ (other _ _ (other _ _ done)))) = is_type ty.UInt
of_other _ _ (other _ _ (one _ _ (after _ _ done))) = is_type ty.Short
of_other _ _ (other _ _ (other _ _ (one _ _ (after _ _ done)))) = is_type ty.Int
of_other _ _ (other _ _ (other _ _ (other _ _ (after _ _ done)))) = is_type ty.FunctionPointer

of_shape : (t : CType) (xs : List Token) → TypeShape t xs → IsType t xs
of_shape _ _ (one _ _ (after _ _ (one _ _ (after _ _ done)))) = is_type ty.Pointer
of_shape _ _ (one _ _ (after _ _ (other _ _ done))) = is_type ty.Char
of_shape t xs (other _ _ o) = of_other t xs o

pub decides_type : (n : ℕ) → Decides IsType TypeEnds n type_name
unfolding type_name same_mark
decides_type n =
    decides_as TypeShape IsType TypeEnds n type_name shape_of of_shape
    (decides_sight mark.Char CharTail OtherShape TypeEnds n char_type other_type (λ b xs rest s f. apart_other mark.Char refl refl refl refl b xs rest s)
    (decides_follow CharTail no_star TypeEnds n char_type (λ ts f. f.no_star) (decides_char n))
    (decides_follow OtherShape WordEnds TypeEnds n other_type (λ ts f. f.words) (decides_other n)))

-- ---- a type and a `*`

pub data Pointed : CType → List Token → Type 0 where
  pointed : (t : CType) → Pointed t (type_tokens t ++ sign mark.Star)

abbrev PointedOther : Spelling CType
PointedOther = Seq OtherShape (λ t. After mark.Star (Done t))

abbrev PointedShape : Spelling CType
PointedShape = Either (After mark.Char (After mark.Star CharTail)) PointedOther

star_behind : (t b : CType) (ys rest : List Token) → After mark.Star (Done t) b ys → no_star rest → WordEnds (ys ++ rest)
unfolding same_mark
star_behind t _ _ rest (after b ys u) f = record { no_char = refl; no_short = refl }

decides_pointed_char : (n : ℕ) → Decides (After mark.Star CharTail) no_star n pointed_char
unfolding pointed_char
decides_pointed_char n =
    decides_sign mark.Star CharTail no_star n (λ u. if_next mark.Star (pure ty.Pointer) (pure ty.Char))
    (decides_sight mark.Star (Done ty.Pointer) (Done ty.Char) no_star n (pure ty.Pointer) (pure ty.Char) (apart_done mark.Star ty.Char no_star (λ rest f. f))
    (decides_pure no_star n ty.Pointer) (decides_pure no_star n ty.Char))

decides_pointed_other : (n : ℕ) → Decides PointedOther no_star n pointed_other
unfolding pointed_other
decides_pointed_other n =
    decides_then OtherShape WordEnds (λ t. After mark.Star (Done t)) no_star star_behind n other_type (λ t. expect mark.Star >>= (λ u. pure t)) (decides_other n)
    (λ t xs s. decides_sign mark.Star (Done t) no_star n (λ u. pure t) (decides_pure no_star n t))

with_star : (t : CType) (xs : List Token) → OtherShape t xs → PointedShape t (xs ++ sign mark.Star)
with_star t xs o = other t (xs ++ sign mark.Star) (seq t xs t (sign mark.Star) o (after t [] done))

pointed_shape : (t : CType) (xs : List Token) → Pointed t xs → PointedShape t xs
pointed_shape _ _ (pointed ty.Char) = one _ _ (after _ _ (after _ _ (other _ _ done)))
pointed_shape _ _ (pointed ty.Pointer) = one _ _ (after _ _ (after _ _ (one _ _ (after _ _ done))))
pointed_shape _ _ (pointed ty.UChar) = with_star ty.UChar (type_tokens ty.UChar) (one _ _ (after _ _ (one _ _ (after _ _ done))))
pointed_shape _ _ (pointed ty.UShort) = with_star ty.UShort (type_tokens ty.UShort) (one _ _ (after _ _ (other _ _ (one _ _ (after _ _ done)))))
pointed_shape _ _ (pointed ty.UInt) = with_star ty.UInt (type_tokens ty.UInt) (one _ _ (after _ _ (other _ _ (other _ _ done))))
pointed_shape _ _ (pointed ty.Short) = with_star ty.Short (type_tokens ty.Short) (other _ _ (one _ _ (after _ _ done)))
pointed_shape _ _ (pointed ty.Int) = with_star ty.Int (type_tokens ty.Int) (other _ _ (other _ _ (one _ _ (after _ _ done))))
pointed_shape _ _ (pointed ty.FunctionPointer) = with_star ty.FunctionPointer (type_tokens ty.FunctionPointer) (other _ _ (other _ _ (other _ _ (after _ _ done))))

star_on : (t : CType) (xs : List Token) → IsType t xs → (b : CType) (ys : List Token) → After mark.Star (Done t) b ys → Pointed b (xs ++ ys)
star_on _ _ (is_type t) _ _ (after _ _ done) = pointed t

of_pointed : (t : CType) (xs : List Token) → PointedShape t xs → Pointed t xs
of_pointed _ _ (one _ _ (after _ _ (after _ _ (one _ _ (after _ _ done))))) = pointed ty.Pointer
of_pointed _ _ (one _ _ (after _ _ (after _ _ (other _ _ done)))) = pointed ty.Char
of_pointed _ _ (other _ _ (seq t xs b ys o u)) = star_on t xs (of_other t xs o) b ys u

pub decides_pointed : (n : ℕ) → Decides Pointed no_star n pointed_type
unfolding pointed_type same_mark
decides_pointed n =
    decides_as PointedShape Pointed no_star n pointed_type pointed_shape of_pointed
    (decides_sight mark.Char (After mark.Star CharTail) PointedOther no_star n pointed_char pointed_other
    (apart_seq mark.Char OtherShape (λ t. After mark.Star (Done t)) no_star (λ t xs rest s. apart_other mark.Char refl refl refl refl t xs rest s))
    (decides_pointed_char n) (decides_pointed_other n))

-- ---- results

-- what begins no type
pub no_type : (m : Mark) → same_mark mark.Char m ≡ false → same_mark mark.Unsigned m ≡ false → same_mark mark.Short m ≡ false → same_mark mark.Int m ≡ false
    → same_mark mark.FunctionPointer m ≡ false → (t : CType) (rest : List Token) → sees m (type_tokens t ++ rest) ≡ false
no_type m char unsigned short int pointer ty.Char rest = char
no_type m char unsigned short int pointer ty.UChar rest = unsigned
no_type m char unsigned short int pointer ty.Short rest = short
no_type m char unsigned short int pointer ty.UShort rest = unsigned
no_type m char unsigned short int pointer ty.Int rest = int
no_type m char unsigned short int pointer ty.UInt rest = unsigned
no_type m char unsigned short int pointer ty.Pointer rest = char
no_type m char unsigned short int pointer ty.FunctionPointer rest = pointer

pub data IsResult : Option CType → List Token → Type 0 where
  is_result : (t : Option CType) → IsResult t (result_tokens t)

abbrev ResultShape : Spelling (Option CType)
ResultShape = Either (After mark.Void (Done None)) (Made Some IsType)

no_void : Apart mark.Void (Made Some IsType) TypeEnds
unfolding same_mark
no_void _ _ rest (made _ _ (is_type t)) f = no_type mark.Void refl refl refl refl refl t rest

result_shape : (t : Option CType) (xs : List Token) → IsResult t xs → ResultShape t xs
result_shape _ _ (is_result None) = one _ _ (after _ _ done)
result_shape _ _ (is_result (Some t)) = other _ _ (made _ _ (is_type t))

of_result : (t : Option CType) (xs : List Token) → ResultShape t xs → IsResult t xs
of_result _ _ (one _ _ (after _ _ done)) = is_result None
of_result _ _ (other _ _ (made _ _ (is_type t))) = is_result (Some t)

pub decides_result : (n : ℕ) → Decides IsResult TypeEnds n result_type
unfolding result_type some_type
decides_result n =
    decides_as ResultShape IsResult TypeEnds n result_type result_shape of_result
    (decides_sight mark.Void (Done None) (Made Some IsType) TypeEnds n (pure None) some_type no_void (decides_pure TypeEnds n None)
    (decides_made Some IsType TypeEnds n type_name (decides_type n)))
