-- The C's own names end in a number, which tells them apart.
use Rattle.std.proofs.Common.{◌≡◌, ℕ, zero, suc, ◌+◌, ◌*◌, ◌/◌, ◌%◌, ◌^◌, ◌<◌, ◌==◌, Bool, true, false, not, ◌&&◌, ◌||◌, if◌then◌else◌, cond, List, [], ◌∷◌, refl, ap, arith}
use Rattle.std.specs.Prelude.{decimal}
use Rattle.std.specs.Char.{is_ascii_digit}
use Rattle.std.specs.Fmt.{digit_glyph, digits_onto, digits}
use Rattle.std.specs.List.{list_all}
use Rattle.std.specs.Str.Parse.{digits_value}
use Rattle.std.proofs.lemmas.Bool.{and_parts, and_from}
use Rattle.std.proofs.lemmas.Bool.Decides.{nat_tests}
use Rattle.std.proofs.lemmas.Fmt.{decimal_is_IsNumeral}
use Rattle.cc_whole_tokens.specs.Token.{is_word_byte, is_reserved, is_name}

-- ---- digits

glyph-digit : (n : ℕ) → is_ascii_digit (digit_glyph false (n % 10)) ≡ true
glyph-digit n = grind (arith, nat_tests)

onto-digits : (k n : ℕ) (acc : List ℕ) → list_all is_ascii_digit acc ≡ true → list_all is_ascii_digit (digits_onto k 10 false n acc) ≡ true
onto-digits zero n acc h = h
onto-digits (suc k) n acc h = go (onto-digits k (n / 10) (digit_glyph false (n % 10) ∷ acc) more) (n / 10 == 0)
  where
    more : list_all is_ascii_digit (digit_glyph false (n % 10) ∷ acc) ≡ true
    more = and_from (is_ascii_digit (digit_glyph false (n % 10))) (list_all is_ascii_digit acc) (glyph-digit n) h

    go : list_all is_ascii_digit (digits_onto k 10 false (n / 10) (digit_glyph false (n % 10) ∷ acc)) ≡ true → (b : Bool)
        → list_all is_ascii_digit (cond b (digit_glyph false (n % 10) ∷ acc) (digits_onto k 10 false (n / 10) (digit_glyph false (n % 10) ∷ acc))) ≡ true
    go again true = more
    go again false = again

abbrev is_some_list : List ℕ → Bool
is_some_list [] = false
is_some_list (c ∷ cs) = true

onto-some : (k n c : ℕ) (acc : List ℕ) → is_some_list (digits_onto k 10 false n (c ∷ acc)) ≡ true
onto-some zero n c acc = refl
onto-some (suc k) n c acc = go (onto-some k (n / 10) (digit_glyph false (n % 10)) (c ∷ acc)) (n / 10 == 0)
  where
    go : is_some_list (digits_onto k 10 false (n / 10) (digit_glyph false (n % 10) ∷ c ∷ acc)) ≡ true → (b : Bool)
        → is_some_list (cond b (digit_glyph false (n % 10) ∷ c ∷ acc) (digits_onto k 10 false (n / 10) (digit_glyph false (n % 10) ∷ c ∷ acc))) ≡ true
    go again true = refl
    go again false = again

decimal-some : (n : ℕ) → is_some_list (decimal n) ≡ true
unfolding digits
decimal-some n = go (n / 10 == 0)
  where
    go : (b : Bool) → is_some_list (cond b (digit_glyph false (n % 10) ∷ []) (digits_onto 63 10 false (n / 10) (digit_glyph false (n % 10) ∷ []))) ≡ true
    go true = refl
    go false = onto-some 63 (n / 10) (digit_glyph false (n % 10)) []

decimal-digits : (n : ℕ) → list_all is_ascii_digit (decimal n) ≡ true
unfolding digits
decimal-digits n = onto-digits 64 n [] refl

pub record Begins (n : ℕ) : Type 0 where
  pub digit : ℕ
  pub rest : List ℕ
  pub is : decimal n ≡ digit ∷ rest
  pub is_digit : is_ascii_digit digit ≡ true

pub decimal-begins : (n : ℕ) → Begins n
decimal-begins n = go (decimal n) refl (decimal-some n) (decimal-digits n)
  where
    go : (ds : List ℕ) → decimal n ≡ ds → is_some_list ds ≡ true → list_all is_ascii_digit ds ≡ true → Begins n
    go [] e some all = absurd (cc)
    go (d ∷ ds) e some all = record { digit = d; rest = ds; is = e; is_digit = (and_parts (is_ascii_digit d) (list_all is_ascii_digit ds) all).0 }

-- the number that is written
pub number-read : (n : ℕ) → n < 2 ^ 64 → digits_value 10 (decimal n) ≡ n
number-read n lt = (decimal_is_IsNumeral n lt).1

-- ---- names

digit-byte : (d : ℕ) → is_ascii_digit d ≡ true → is_word_byte d ≡ true
digit-byte d e = grind (arith, nat_tests, e)

digits-bytes : (ds : List ℕ) → list_all is_ascii_digit ds ≡ true → list_all is_word_byte ds ≡ true
digits-bytes [] e = refl
digits-bytes (d ∷ ds) e =
    let parts = and_parts (is_ascii_digit d) (list_all is_ascii_digit ds) e in
    and_from (is_word_byte d) (list_all is_word_byte ds) (digit-byte d parts.0) (digits-bytes ds parts.1)

no-word : (a b : Bool) → (a && false || (b && false || false)) ≡ false
no-word true true = refl
no-word true false = refl
no-word false true = refl
no-word false false = refl

-- two `_`, a letter and a number are a name
pub numbered-name : (c n : ℕ) → is_word_byte c ≡ true → is_name (95 ∷ 95 ∷ c ∷ decimal n) ≡ true
numbered-name c n e = go (decimal n) (decimal-some n) (digits-bytes (decimal n) (decimal-digits n))
  where
    go : (ds : List ℕ) → is_some_list ds ≡ true → list_all is_word_byte ds ≡ true → is_name (95 ∷ 95 ∷ c ∷ ds) ≡ true
    go [] some all = absurd (cc)
    go (d ∷ ds) some all =
        and_from (is_word_byte c && list_all is_word_byte (d ∷ ds)) (not (is_reserved (95 ∷ 95 ∷ c ∷ d ∷ ds)))
        (and_from (is_word_byte c) (list_all is_word_byte (d ∷ ds)) e all) (ap not (no-word (101 == c) (102 == c)))

-- ---- ranks: parameters and locals, the three of each register, flags, results

abbrev pub room : ℕ
room = 2 ^ 64

abbrev pub rank_of : ℕ → ℕ → ℕ
rank_of c n =
    if c == 108 then n
    else (if c == 105 then room + 3 * n
    else (if c == 112 then room + (3 * n + 1)
    else (if c == 102 then room + (3 * n + 2)
    else (if c == 119 then 4 * room + n else 5 * room + n))))

abbrev pub rank : List ℕ → ℕ
rank [] = 0
rank (a ∷ []) = 0
rank (a ∷ b ∷ []) = 0
rank (a ∷ b ∷ c ∷ ds) = rank_of c (digits_value 10 ds)

pub ranked : (c n : ℕ) → n < 2 ^ 64 → rank (95 ∷ 95 ∷ c ∷ decimal n) ≡ rank_of c n
ranked c n lt = ap (rank_of c) (number-read n lt)
