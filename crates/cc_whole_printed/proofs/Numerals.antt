-- The digits of a number are a numeral of the small C.
use Rattle.std.proofs.Common.{◌≡◌, ℕ, zero, suc, ◌+◌, ◌/◌, ◌%◌, ◌<◌, ◌≤◌, ◌^◌, Bool, true, false, List, [], ◌∷◌, ◌++◌, refl, ap, ◌∙◌, arith}
use Rattle.std.specs.Prelude.{decimal, ◌==◌}
use Rattle.std.specs.Char.{is_ascii_digit}
use Rattle.std.specs.List.{list_all}
use Rattle.std.proofs.lemmas.Bool.Decides.{nat_tests}
use Rattle.std.proofs.lemmas.List.Folds.{list_all-append}
use Rattle.std.proofs.lemmas.Fmt.{decimal_by_steps, decimal_digit}
use Rattle.cc_whole_tokens.specs.Token.{begins, is_numeral, is_plain}

-- digits, of which the first is 0 for 0 alone
record Digits (n : ℕ) (ds : List ℕ) : Type 0 where
  all : list_all is_ascii_digit ds ≡ true
  first : begins is_ascii_digit ds ≡ true
  zero_alone : 0 < n → begins (λ b. b == 48) ds ≡ false

begins_front : (p q : ℕ → Bool) (ds xs : List ℕ) → begins p ds ≡ true → begins q (ds ++ xs) ≡ begins q ds
begins_front p q [] xs e = cc
begins_front p q (d ∷ ds) xs e = refl

digit_passes : (n : ℕ) → n < 10 → is_ascii_digit (48 + n) ≡ true
digit_passes n small = grind (arith, nat_tests)

no_zero : (n : ℕ) → 0 < n → (48 + n == 48) ≡ false
no_zero n above = grind (arith, nat_tests)

digits_one : (n : ℕ) → n < 10 → Digits n ((48 + n) ∷ [])
digits_one n small = record {
  all = rw (digit_passes n small) refl;
  first = digit_passes n small;
  zero_alone = no_zero n;
}

digits_more : (n : ℕ) (ds : List ℕ) → 10 ≤ n → Digits (n / 10) ds → Digits n (ds ++ ((48 + n % 10) ∷ []))
digits_more n ds large d =
    let last : n % 10 < 10 = omega arith in
    let above : 0 < n / 10 = omega arith in
    record {
      all = rw (list_all-append is_ascii_digit ds ((48 + n % 10) ∷ []), d.all, digit_passes (n % 10) last) refl;
      first = begins_front is_ascii_digit is_ascii_digit ds ((48 + n % 10) ∷ []) d.first ∙ d.first;
      zero_alone = λ _. begins_front is_ascii_digit (λ b. b == 48) ds ((48 + n % 10) ∷ []) d.first ∙ d.zero_alone above;
    }

digits : (n : ℕ) → n < 2 ^ 64 → Digits n (decimal n)
digits = decimal_by_steps Digits digits_one digits_more

plain_zero : is_plain (decimal 0) ≡ true
plain_zero = ap is_plain (decimal_digit 0 (omega arith))

plain : (n : ℕ) → n < 2 ^ 64 → is_plain (decimal n) ≡ true
plain zero fits = plain_zero
plain (suc m) fits = let above : 0 < suc m = omega arith in rw ((digits (suc m) fits).zero_alone above) refl

pub decimal_is_numeral : (n : ℕ) → n < 2 ^ 64 → is_numeral (decimal n) ≡ true
decimal_is_numeral n fits =
    let d = digits n fits in
    rw (d.first, d.all, plain n fits) refl

-- with any bytes behind them
pub decimal_begins : (n : ℕ) (bs : List ℕ) → n < 2 ^ 64 → begins is_ascii_digit (decimal n ++ bs) ≡ true
decimal_begins n bs fits = let d = digits n fits in begins_front is_ascii_digit is_ascii_digit (decimal n) bs d.first ∙ d.first
