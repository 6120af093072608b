-- How a printed string is cut.
use Rattle.std.proofs.Common.{◌≡◌, ℕ, ◌+◌, ◌/◌, ◌%◌, ◌<◌, ◌≤◌, nat_lt, Bool, true, false, ◌&&◌, List, [], ◌∷◌, ◌++◌, map, refl, ap, sym, subst, append_assoc, arith}
use Rattle.std.specs.Prelude.{if◌then◌else◌}
use Rattle.std.specs.List.{concat, list_all}
use Rattle.std.proofs.lemmas.Bool.{and_parts}
use Rattle.std.proofs.lemmas.Bool.Decides.{nat_tests}
use Rattle.cc_whole_tokens.specs.declared.token.Token.TheVariants as token
use Rattle.cc_whole_tokens.specs.Cut.{Cut, Spelled, is_itself, is_octal, octal_value}
use Rattle.cc_whole_tokens.specs.Cut as cut
use Rattle.cc_whole_print.specs.Initialisers.{byte_text, escaped_text, string_text}
use Rattle.cc_whole_printed.proofs.Cuts.{Cuts}

digit_is_octal : (d : ℕ) → d < 8 → is_octal (48 + d) ≡ true
digit_is_octal d small = grind (arith, nat_tests)

value_is : (b : ℕ) → b < 256 → octal_value (48 + b / 64) (48 + b / 8 % 8) (48 + b % 8) ≡ b
value_is b small = omega arith

spelled_escape : (b : ℕ) (bs bytes : List ℕ) → b < 256 → Spelled bs bytes → Spelled (escaped_text b ++ bs) (b ∷ bytes)
spelled_escape b bs bytes small s =
    let same = value_is b small in
    subst (λ v. Spelled (escaped_text b ++ bs) (v ∷ bytes)) same
    (cut.Spelled.octal (48 + b / 64) (48 + b / 8 % 8) (48 + b % 8) bs bytes (digit_is_octal (b / 64) (omega arith)) (digit_is_octal (b / 8 % 8) (omega arith))
    (digit_is_octal (b % 8) (omega arith)) (omega (arith, same)) s)

spelled_byte : (b : ℕ) (bs bytes : List ℕ) (itself : Bool) → is_itself b ≡ itself → b < 256 → Spelled bs bytes
    → Spelled ((if itself then b ∷ [] else escaped_text b) ++ bs) (b ∷ bytes)
spelled_byte b bs bytes true is small s = cut.Spelled.itself b bs bytes is s
spelled_byte b bs bytes false is small s = spelled_escape b bs bytes small s

spelled_bytes : (bytes : List ℕ) → list_all (λ b. nat_lt b 256) bytes ≡ true → Spelled (concat (map byte_text bytes)) bytes
spelled_bytes [] small = cut.Spelled.none
spelled_bytes (b ∷ bytes) small =
    let parts = and_parts (nat_lt b 256) (list_all (λ b. nat_lt b 256) bytes) small in
    let first = parts.0 in
    let below : b < 256 = grind (arith, nat_tests, first) in
    spelled_byte b (concat (map byte_text bytes)) bytes (is_itself b) refl below (spelled_bytes bytes parts.1)

pub cuts-string : (bytes : List ℕ) → list_all (λ b. nat_lt b 256) bytes ≡ true → Cuts (string_text bytes) (token.Text bytes ∷ [])
cuts-string bytes small = record {
  before = λ rest ts c.
      let inside = concat (map byte_text bytes) in
      rw (append_assoc inside (34 ∷ 32 ∷ []) rest)
      (cut.Cut.string inside bytes (32 ∷ rest) ts (spelled_bytes bytes small) (cut.Cut.blank 32 rest ts refl c));
}
