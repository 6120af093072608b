-- The bits of a number as an int: a conversion from them is one from the number.
use Rattle.std.proofs.Common.{◌≡◌, ℕ, zero, suc, ◌+◌, ◌-◌, ◌*◌, ◌/◌, ◌%◌, ◌≤◌, ◌<◌, nat_lt, Bool, true, false, ◌||◌, if◌then◌else◌, ℤ, pos, negsuc, refl, sym, ◌∙◌, ap, arith}
use Rattle.std.proofs.lemmas.Bool.Decides.{nat_tests}
use Rattle.std.proofs.Math.Nat.{mod-eq_of_lt, mod-lt, div-add-mod, add-mul-mod_self_left}
use Rattle.cf_base.specs.declared.kind.Kind.{Kind}
use Rattle.cf_base.specs.declared.kind.Kind.TheVariants.{Char, SChar, UChar, Short, UShort, Int, UInt, Long, ULong}
use Rattle.cf_base.specs.Integers.{is_signed, fits, bits_of, value_of_bits, convert}
use Rattle.cf_lower_relate.specs.Map.{is_word}
use Rattle.cf_lower_relate.proofs.Words.{convert-same}

word-below : (n : ℕ) → n % 4294967296 < 4294967296
word-below n = mod-lt n (omega arith)

-- ---- 8 bits

mod-8 : (n : ℕ) → n % 4294967296 % 256 ≡ n % 256
mod-8 n =
    let e = div-add-mod n 4294967296 in
    sym (ap (λ x. x % 256) (let h : n ≡ n % 4294967296 + 256 * (16777216 * (n / 4294967296)) = omega (arith, e) in h)
    ∙ add-mul-mod_self_left (n % 4294967296) 256 (16777216 * (n / 4294967296)))

flip-8 : (u : ℕ) → u < 4294967296 → (4294967296 - suc u) % 256 ≡ 256 - suc (u % 256)
flip-8 u lt =
    let e = div-add-mod u 256 in
    let r : u % 256 < 256 = mod-lt u (omega arith) in
    ap (λ x. x % 256) (let h : 4294967296 - suc u ≡ 256 - suc (u % 256) + 256 * (16777216 - suc (u / 256)) = omega (arith, e, r, lt) in h)
    ∙ add-mul-mod_self_left (256 - suc (u % 256)) 256 (16777216 - suc (u / 256))
    ∙ (let s : 256 - suc (u % 256) < 256 = omega (arith, r) in mod-eq_of_lt s)

-- ---- 16 bits

mod-16 : (n : ℕ) → n % 4294967296 % 65536 ≡ n % 65536
mod-16 n =
    let e = div-add-mod n 4294967296 in
    sym (ap (λ x. x % 65536) (let h : n ≡ n % 4294967296 + 65536 * (65536 * (n / 4294967296)) = omega (arith, e) in h)
    ∙ add-mul-mod_self_left (n % 4294967296) 65536 (65536 * (n / 4294967296)))

flip-16 : (u : ℕ) → u < 4294967296 → (4294967296 - suc u) % 65536 ≡ 65536 - suc (u % 65536)
flip-16 u lt =
    let e = div-add-mod u 65536 in
    let r : u % 65536 < 65536 = mod-lt u (omega arith) in
    ap (λ x. x % 65536) (let h : 4294967296 - suc u ≡ 65536 - suc (u % 65536) + 65536 * (65536 - suc (u / 65536)) = omega (arith, e, r, lt) in h)
    ∙ add-mul-mod_self_left (65536 - suc (u % 65536)) 65536 (65536 - suc (u / 65536))
    ∙ (let s : 65536 - suc (u % 65536) < 65536 = omega (arith, r) in mod-eq_of_lt s)

-- ---- 32 bits

mod-32 : (n : ℕ) → n % 4294967296 % 4294967296 ≡ n % 4294967296
mod-32 n = mod-eq_of_lt (word-below n)

flip-32 : (u : ℕ) → u < 4294967296 → (4294967296 - suc u) % 4294967296 ≡ 4294967296 - suc (u % 4294967296)
flip-32 u lt =
    (let s : 4294967296 - suc u < 4294967296 = omega (arith, lt) in mod-eq_of_lt s)
    ∙ ap (λ x. 4294967296 - suc x) (sym (mod-eq_of_lt lt))

bits-pos-8 : (n : ℕ) (b : Bool) → bits_of 8 (if b then pos (n % 4294967296) else negsuc (4294967296 - suc (n % 4294967296))) ≡ n % 256
bits-pos-8 n true = mod-8 n
bits-pos-8 n false =
    ap (λ x. 256 - suc x) (flip-8 (n % 4294967296) (word-below n))
    ∙ (let r : n % 4294967296 % 256 < 256 = mod-lt (n % 4294967296) (omega arith) in let h : 256 - suc (256 - suc (n % 4294967296 % 256)) ≡ n % 4294967296 % 256 = omega (arith, r) in h)
    ∙ mod-8 n

bits-neg-8 : (n : ℕ) (b : Bool) → bits_of 8 (if b then pos (4294967296 - suc (n % 4294967296)) else negsuc (4294967296 - suc (4294967296 - suc (n % 4294967296)))) ≡ 256 - suc (n % 256)
bits-neg-8 n true = flip-8 (n % 4294967296) (word-below n) ∙ ap (λ x. 256 - suc x) (mod-8 n)
bits-neg-8 n false =
    ap (λ x. 256 - suc (x % 256)) (let lt = word-below n in let h : 4294967296 - suc (4294967296 - suc (n % 4294967296)) ≡ n % 4294967296 = omega (arith, lt) in h)
    ∙ ap (λ x. 256 - suc x) (mod-8 n)

bits-8 : (z : ℤ) → bits_of 8 (convert Int z) ≡ bits_of 8 z
bits-8 (pos n) = bits-pos-8 n (nat_lt (n % 4294967296) 2147483648)
bits-8 (negsuc n) = bits-neg-8 n (nat_lt (4294967296 - suc (n % 4294967296)) 2147483648)

bits-pos-16 : (n : ℕ) (b : Bool) → bits_of 16 (if b then pos (n % 4294967296) else negsuc (4294967296 - suc (n % 4294967296))) ≡ n % 65536
bits-pos-16 n true = mod-16 n
bits-pos-16 n false =
    ap (λ x. 65536 - suc x) (flip-16 (n % 4294967296) (word-below n))
    ∙ (let r : n % 4294967296 % 65536 < 65536 = mod-lt (n % 4294967296) (omega arith) in let h : 65536 - suc (65536 - suc (n % 4294967296 % 65536)) ≡ n % 4294967296 % 65536 = omega (arith, r) in h)
    ∙ mod-16 n

bits-neg-16 : (n : ℕ) (b : Bool) → bits_of 16 (if b then pos (4294967296 - suc (n % 4294967296)) else negsuc (4294967296 - suc (4294967296 - suc (n % 4294967296)))) ≡ 65536 - suc (n % 65536)
bits-neg-16 n true = flip-16 (n % 4294967296) (word-below n) ∙ ap (λ x. 65536 - suc x) (mod-16 n)
bits-neg-16 n false =
    ap (λ x. 65536 - suc (x % 65536)) (let lt = word-below n in let h : 4294967296 - suc (4294967296 - suc (n % 4294967296)) ≡ n % 4294967296 = omega (arith, lt) in h)
    ∙ ap (λ x. 65536 - suc x) (mod-16 n)

bits-16 : (z : ℤ) → bits_of 16 (convert Int z) ≡ bits_of 16 z
bits-16 (pos n) = bits-pos-16 n (nat_lt (n % 4294967296) 2147483648)
bits-16 (negsuc n) = bits-neg-16 n (nat_lt (4294967296 - suc (n % 4294967296)) 2147483648)

bits-pos-32 : (n : ℕ) (b : Bool) → bits_of 32 (if b then pos (n % 4294967296) else negsuc (4294967296 - suc (n % 4294967296))) ≡ n % 4294967296
bits-pos-32 n true = mod-32 n
bits-pos-32 n false =
    ap (λ x. 4294967296 - suc x) (flip-32 (n % 4294967296) (word-below n))
    ∙ (let r : n % 4294967296 % 4294967296 < 4294967296 = mod-lt (n % 4294967296) (omega arith) in let h : 4294967296 - suc (4294967296 - suc (n % 4294967296 % 4294967296)) ≡ n % 4294967296 % 4294967296 = omega (arith, r) in h)
    ∙ mod-32 n

bits-neg-32 : (n : ℕ) (b : Bool) → bits_of 32 (if b then pos (4294967296 - suc (n % 4294967296)) else negsuc (4294967296 - suc (4294967296 - suc (n % 4294967296)))) ≡ 4294967296 - suc (n % 4294967296)
bits-neg-32 n true = flip-32 (n % 4294967296) (word-below n) ∙ ap (λ x. 4294967296 - suc x) (mod-32 n)
bits-neg-32 n false =
    ap (λ x. 4294967296 - suc (x % 4294967296)) (let lt = word-below n in let h : 4294967296 - suc (4294967296 - suc (n % 4294967296)) ≡ n % 4294967296 = omega (arith, lt) in h)
    ∙ ap (λ x. 4294967296 - suc x) (mod-32 n)

bits-32 : (z : ℤ) → bits_of 32 (convert Int z) ≡ bits_of 32 z
bits-32 (pos n) = bits-pos-32 n (nat_lt (n % 4294967296) 2147483648)
bits-32 (negsuc n) = bits-neg-32 n (nat_lt (4294967296 - suc (n % 4294967296)) 2147483648)

-- a conversion from a number's bits as an int is one from the number
pub convert-int : (k : Kind) (z : ℤ) → convert k (convert Int z) ≡ convert k z
convert-int Char z = ap (value_of_bits (is_signed Char) 8) (bits-8 z)
convert-int SChar z = ap (value_of_bits (is_signed SChar) 8) (bits-8 z)
convert-int UChar z = ap (value_of_bits (is_signed UChar) 8) (bits-8 z)
convert-int Short z = ap (value_of_bits (is_signed Short) 16) (bits-16 z)
convert-int UShort z = ap (value_of_bits (is_signed UShort) 16) (bits-16 z)
convert-int Int z = ap (value_of_bits (is_signed Int) 32) (bits-32 z)
convert-int UInt z = ap (value_of_bits (is_signed UInt) 32) (bits-32 z)
convert-int Long z = ap (value_of_bits (is_signed Long) 32) (bits-32 z)
convert-int ULong z = ap (value_of_bits (is_signed ULong) 32) (bits-32 z)

-- ---- values of int and of unsigned int

or-left : (a b : Bool) → a ≡ true → a || b ≡ true
or-left true b h = refl
or-left false b h = absurd (cc)

or-right : (a b : Bool) → b ≡ true → a || b ≡ true
or-right true b h = refl
or-right false b h = h

wider : (n m k : ℕ) → m ≤ k → nat_lt n m ≡ true → nat_lt n k ≡ true
wider n m k le h = grind (arith, nat_tests, le, h)

-- a value of any kind is one of them
pub fits-word : (k : Kind) (z : ℤ) → fits k z ≡ true → is_word z ≡ true
fits-word Char (pos n) h = or-left (fits Int (pos n)) (fits UInt (pos n)) (wider n 128 2147483648 (omega arith) h)
fits-word Char (negsuc n) h = or-left (fits Int (negsuc n)) (fits UInt (negsuc n)) (wider n 128 2147483648 (omega arith) h)
fits-word SChar (pos n) h = or-left (fits Int (pos n)) (fits UInt (pos n)) (wider n 128 2147483648 (omega arith) h)
fits-word SChar (negsuc n) h = or-left (fits Int (negsuc n)) (fits UInt (negsuc n)) (wider n 128 2147483648 (omega arith) h)
fits-word UChar (pos n) h = or-right (fits Int (pos n)) (fits UInt (pos n)) (wider n 256 4294967296 (omega arith) h)
fits-word UChar (negsuc n) h = absurd (cc)
fits-word Short (pos n) h = or-left (fits Int (pos n)) (fits UInt (pos n)) (wider n 32768 2147483648 (omega arith) h)
fits-word Short (negsuc n) h = or-left (fits Int (negsuc n)) (fits UInt (negsuc n)) (wider n 32768 2147483648 (omega arith) h)
fits-word UShort (pos n) h = or-right (fits Int (pos n)) (fits UInt (pos n)) (wider n 65536 4294967296 (omega arith) h)
fits-word UShort (negsuc n) h = absurd (cc)
fits-word Int (pos n) h = or-left (fits Int (pos n)) (fits UInt (pos n)) (wider n 2147483648 2147483648 (omega arith) h)
fits-word Int (negsuc n) h = or-left (fits Int (negsuc n)) (fits UInt (negsuc n)) (wider n 2147483648 2147483648 (omega arith) h)
fits-word UInt (pos n) h = or-right (fits Int (pos n)) (fits UInt (pos n)) (wider n 4294967296 4294967296 (omega arith) h)
fits-word UInt (negsuc n) h = absurd (cc)
fits-word Long (pos n) h = or-left (fits Int (pos n)) (fits UInt (pos n)) (wider n 2147483648 2147483648 (omega arith) h)
fits-word Long (negsuc n) h = or-left (fits Int (negsuc n)) (fits UInt (negsuc n)) (wider n 2147483648 2147483648 (omega arith) h)
fits-word ULong (pos n) h = or-right (fits Int (pos n)) (fits UInt (pos n)) (wider n 4294967296 4294967296 (omega arith) h)
fits-word ULong (negsuc n) h = absurd (cc)

-- whether a number isn't 0
abbrev pub nonzero : ℤ → Bool
nonzero (pos zero) = false
nonzero z = true

word-pos : (n : ℕ) → is_word (pos n) ≡ true → n < 4294967296
word-pos n h = by_test (nat_lt n 2147483648) refl h
  where
    by_test : (b : Bool) → nat_lt n 2147483648 ≡ b → b || nat_lt n 4294967296 ≡ true → n < 4294967296
    by_test true t e = grind (arith, nat_tests, t)
    by_test false t e = grind (arith, nat_tests, e)

nonzero-pos : (n : ℕ) → 0 < n → nonzero (pos n) ≡ true
nonzero-pos zero lt = absurd (omega (arith, lt))
nonzero-pos (suc n) lt = refl

-- a word is 0 where its bits are
pub nonzero-word : (z : ℤ) → is_word z ≡ true → nonzero (convert Int z) ≡ nonzero z
nonzero-word (pos zero) h = refl
nonzero-word (pos (suc n)) h =
    let lt = word-pos (suc n) h in
    ap (λ m. nonzero (if nat_lt m 2147483648 then pos m else negsuc (4294967296 - suc m))) (mod-eq_of_lt lt) ∙ by_test (nat_lt (suc n) 2147483648)
  where
    by_test : (b : Bool) → nonzero (if b then pos (suc n) else negsuc (4294967296 - suc (suc n))) ≡ true
    by_test true = refl
    by_test false = refl
nonzero-word (negsuc n) h = ap nonzero (convert-same Int (negsuc n) (left-of (nat_lt n 2147483648) h))
  where
    left-of : (b : Bool) → b || false ≡ true → b ≡ true
    left-of true e = refl
    left-of false e = e
