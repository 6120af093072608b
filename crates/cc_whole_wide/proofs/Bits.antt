-- The lowest bits of a number, digit by digit.
use Rattle.std.proofs.Common.{◌≡◌, ℕ, suc, ◌+◌, ◌-◌, ◌*◌, ◌%◌, ◌^◌, ◌<◌, ◌≤◌, List, [], ◌∷◌, length, take, drop, refl, arith, ap, ◌∙◌, sym, subst}
use Rattle.std.specs.Prelude.{get_or}
use Rattle.std.specs.Char.{digit_value}
use Rattle.std.specs.Str.Parse.{digits_value, digits_value_after}

one_digit : (n m d : ℕ) → n % 2 ^ 32 ≡ m % 2 ^ 32 → (n * 10 + d) % 2 ^ 32 ≡ (m * 10 + d) % 2 ^ 32
one_digit n m d e = omega (arith, e)

-- numbers of the same bits have the same bits with the same digits behind them
pub same_bits : (ds : List ℕ) (n m : ℕ) → n % 2 ^ 32 ≡ m % 2 ^ 32 → digits_value_after 10 n ds % 2 ^ 32 ≡ digits_value_after 10 m ds % 2 ^ 32
same_bits [] n m e = e
same_bits (c ∷ cs) n m e = same_bits cs (n * 10 + digit_value c) (m * 10 + digit_value c) (one_digit n m (digit_value c) e)

pub bits_again : (ds : List ℕ) (n : ℕ) → digits_value_after 10 (n % 2 ^ 32) ds % 2 ^ 32 ≡ digits_value_after 10 n ds % 2 ^ 32
bits_again ds n = same_bits ds (n % 2 ^ 32) n (omega arith)

-- the bits of a number are read up to the digits that are left
pub record Reading (left digits : List ℕ) (bits : ℕ) : Type 0 where
  pub small : bits < 2 ^ 32
  pub same : digits_value_after 10 bits left % 2 ^ 32 ≡ digits_value 10 digits % 2 ^ 32

all_taken : (ds : List ℕ) → take (length ds) ds ≡ ds
all_taken [] = refl
all_taken (d ∷ ds) = ap (λ l. d ∷ l) (all_taken ds)

rest_is : (d : ℕ) (ds : List ℕ) → take (length (d ∷ ds) - 1) (drop 1 (d ∷ ds)) ≡ ds
rest_is d ds = let n : suc (length ds) - 1 ≡ length ds = omega arith in ap (λ m. take m ds) n ∙ all_taken ds

pub one_more : (left digits : List ℕ) (bits more : ℕ) → 1 ≤ length left → more < 2 ^ 32 → more ≡ (bits * 10 + digit_value (get_or left 0 0)) % 2 ^ 32 → Reading left digits bits
    → Reading (take (length left - 1) (drop 1 left)) digits more
one_more [] digits bits more some small e r = absurd (omega (arith, some))
one_more (d ∷ ds) digits bits more some small e r =
    subst (λ l. Reading l digits more) (sym (rest_is d ds))
    (record { small = small; same = ap (λ n. digits_value_after 10 n ds % 2 ^ 32) e ∙ (bits_again ds (bits * 10 + digit_value d) ∙ r.same) })

pub all_read : (left digits : List ℕ) (bits : ℕ) → length left < 1 → Reading left digits bits → bits ≡ digits_value 10 digits % 2 ^ 32
all_read [] digits bits none r = let h = r.small in let s = r.same in omega (arith, h, s)
all_read (d ∷ ds) digits bits none r = absurd (omega (arith, none))
