-- Integer constants (2.5.1).
use Rattle.std.specs.Prelude.{ℕ, List, [], ◌∷◌, drop, length, Bool, nat_eq, if◌then◌else◌, ◌&&◌, ◌||◌, Option, Some, None, codes, pos}
use Rattle.std.specs.List.{starts_with, find}
use Rattle.cf_base.specs.Integers.{fits}
use Rattle.cf_base.specs.declared.kind.Kind.{Kind}
use Rattle.cf_base.specs.declared.kind.Kind.TheVariants.{Int, UInt, Long, ULong}
use Rattle.cf_tokens.specs.Chain.{◌>>=◌}
use Rattle.cf_tokens.specs.Class.{leading, behind}
use Rattle.cf_tokens.specs.Number.{number_within}
use Rattle.cf_tokens.specs.declared.class.Class.{Class}
use Rattle.cf_tokens.specs.declared.class.Class.TheVariants.{Digit, OctalDigit, HexDigit, NameByte}
use Rattle.cf_tokens.specs.declared.constant.Base.{Base}
use Rattle.cf_tokens.specs.declared.constant.Base.TheVariants.{Octal, Decimal, Hexadecimal}
use Rattle.cf_tokens.specs.declared.constant.Suffix.{Suffix}
use Rattle.cf_tokens.specs.declared.constant.Suffix.TheVariants as suffix
use Rattle.cf_tokens.specs.declared.token.Word.TheVariants as word
use Rattle.cf_tokens.specs.declared.piece.Piece.{Piece}
use Rattle.cf_tokens.specs.declared.piece.Piece.TheVariants.{Whole, Flaw}

abbrev pub is_hexadecimal : List ℕ → Bool
is_hexadecimal spelling = starts_with nat_eq spelling (codes "0x") || starts_with nat_eq spelling (codes "0X")

-- `0x` or `0X` begins a hexadecimal constant, another `0` an octal one
abbrev pub base_of : List ℕ → Base
base_of spelling =
    if is_hexadecimal spelling then Hexadecimal else if starts_with nat_eq spelling (codes "0") then Octal else Decimal

abbrev pub radix_of : Base → ℕ
radix_of Octal = 8
radix_of Decimal = 10
radix_of Hexadecimal = 16

abbrev pub digits_of : Base → Class
digits_of Octal = OctalDigit
digits_of Decimal = Digit
digits_of Hexadecimal = HexDigit

-- the digits and the suffix
abbrev pub body_of : Base → List ℕ → List ℕ
body_of Octal spelling = spelling
body_of Decimal spelling = spelling
body_of Hexadecimal spelling = drop 2 spelling

abbrev pub is_u : ℕ → Bool
is_u byte = nat_eq byte 117 || nat_eq byte 85

abbrev pub is_l : ℕ → Bool
is_l byte = nat_eq byte 108 || nat_eq byte 76

-- nothing, or `u` or `l` or both, in either order and case
abbrev pub suffix_of : List ℕ → Option Suffix
suffix_of [] = Some suffix.Plain
suffix_of (a ∷ []) = if is_u a then Some suffix.Unsigned else if is_l a then Some suffix.Long else None
suffix_of (a ∷ b ∷ []) = if (is_u a && is_l b) || (is_l a && is_u b) then Some suffix.UnsignedLong else None
suffix_of (a ∷ b ∷ c ∷ more) = None

-- the types of which the first that holds the value is the constant's
abbrev pub kinds : Base → Suffix → List Kind
kinds Decimal suffix.Plain = Int ∷ Long ∷ ULong ∷ []
kinds Octal suffix.Plain = Int ∷ UInt ∷ Long ∷ ULong ∷ []
kinds Hexadecimal suffix.Plain = Int ∷ UInt ∷ Long ∷ ULong ∷ []
kinds base suffix.Unsigned = UInt ∷ ULong ∷ []
kinds base suffix.Long = Long ∷ ULong ∷ []
kinds base suffix.UnsignedLong = ULong ∷ []

-- the value and the type that digits and a suffix give
unfoldable pub typed : Base → List ℕ → List ℕ → Option (ℕ × Kind)
typed base digits letters = do
  value ← number_within 4294967295 (radix_of base) digits
  suffix ← suffix_of letters
  kind ← find (λ kind. fits kind (pos value)) (kinds base suffix)
  Some (value, kind)

-- the value and the type of a constant that is spelled so
abbrev pub constant_of : List ℕ → Option (ℕ × Kind)
constant_of spelling =
    typed (base_of spelling)
    (leading (digits_of (base_of spelling)) (body_of (base_of spelling) spelling))
    (behind (digits_of (base_of spelling)) (body_of (base_of spelling) spelling))

abbrev pub of_type : ℕ → Option (ℕ × Kind) → Piece
of_type n (Some (value, kind)) = Whole (word.Int value kind) n
of_type n None = Flaw 5

abbrev pub spelled : List ℕ → Piece
spelled spelling = of_type (length spelling) (constant_of spelling)

-- a digit begins a constant, which takes every letter, digit and `_` behind it, and has to be one (K5)
unfoldable pub constant : List ℕ → Piece
constant text = spelled (leading NameByte text)
