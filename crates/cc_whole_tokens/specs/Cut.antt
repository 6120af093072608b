-- How a text of the whole small C is cut into tokens.
use Rattle.std.specs.Prelude.{◌≡◌, ℕ, ◌+◌, ◌-◌, ◌*◌, ◌≤◌, Bool, true, not, ◌||◌, ◌&&◌, ◌==◌, nat_lt, List, [], ◌∷◌, ◌++◌}
use Rattle.cc_whole_tokens.specs.declared.token.Token.{Token}
use Rattle.cc_whole_tokens.specs.declared.token.Token.TheVariants.{Text}
use Rattle.cc_whole_tokens.specs.Token.{spelling, is_token, ends}

-- a space or a newline
abbrev pub is_blank : ℕ → Bool
is_blank b = b == 32 || b == 10

-- a byte that stands for itself in a string: from 32 to 126, but no `"` and no backslash
abbrev pub is_itself : ℕ → Bool
is_itself b = (nat_lt 31 b && nat_lt b 127) && (not (b == 34) && not (b == 92))

abbrev pub is_octal : ℕ → Bool
is_octal b = nat_lt 47 b && nat_lt b 56

-- the number that three octal digits are
abbrev pub octal_value : ℕ → ℕ → ℕ → ℕ
octal_value x y z = 64 * (x - 48) + (8 * (y - 48) + (z - 48))

-- what stands between the quotes of a string, and the bytes that it stands for: bytes for themselves, and backslashes with three
-- octal digits of at most 377
pub data Spelled : List ℕ → List ℕ → Type 0 where
  none : Spelled [] []
  itself : (b : ℕ) (bs bytes : List ℕ) → is_itself b ≡ true → Spelled bs bytes → Spelled (b ∷ bs) (b ∷ bytes)
  octal : (x y z : ℕ) (bs bytes : List ℕ) → is_octal x ≡ true → is_octal y ≡ true → is_octal z ≡ true → octal_value x y z ≤ 255 → Spelled bs bytes
      → Spelled (92 ∷ x ∷ y ∷ z ∷ bs) (octal_value x y z ∷ bytes)

-- blanks may stand before, between and behind tokens, and must where the next byte would be a part of the token
pub data Cut : List ℕ → List Token → Type 0 where
  ended : Cut [] []
  blank : (b : ℕ) (bs : List ℕ) (ts : List Token) → is_blank b ≡ true → Cut bs ts → Cut (b ∷ bs) ts
  token : (t : Token) (bs : List ℕ) (ts : List Token) → is_token t ≡ true → ends t bs ≡ true → Cut bs ts → Cut (spelling t ++ bs) (t ∷ ts)
  string : (inside bytes : List ℕ) (bs : List ℕ) (ts : List Token) → Spelled inside bytes → Cut bs ts
      → Cut (34 ∷ (inside ++ (34 ∷ bs))) (Text bytes ∷ ts)
