-- Numbers of a kind: their conversion to it, and to the small C's kinds.
use Rattle.std.proofs.Common.{◌≡◌, ℕ, suc, ◌+◌, ◌-◌, ◌≤◌, ◌<◌, ◌%◌, nat_lt, true, false, if◌then◌else◌, ℤ, pos, negsuc, refl, ◌∙◌, ap, arith}
use Rattle.std.proofs.lemmas.Bool.Decides.{nat_tests}
use Rattle.std.proofs.Math.Nat.{mod-eq_of_lt}
use Rattle.cf_base.specs.declared.kind.Kind.{Kind}
use Rattle.cf_base.specs.declared.kind.Kind.TheVariants.{Char, SChar, UChar, Short, UShort, Int, UInt, Long, ULong}
use Rattle.cf_base.specs.Integers.{fits, convert}
use Rattle.cf_lower_layout.specs.Sorts.{c_kind}

signed-pos : (half full n : ℕ) → n < half → half ≤ full → (if nat_lt (n % full) half then pos (n % full) else negsuc (full - suc (n % full))) ≡ pos n
signed-pos half full n lt le =
    ap (λ m. if nat_lt m half then pos m else negsuc (full - suc m)) (let below : n < full = omega (arith, lt, le) in mod-eq_of_lt below)
    ∙ ap (λ b. if b then pos n else negsuc (full - suc n)) (let t : nat_lt n half ≡ true = grind (arith, nat_tests, lt) in t)

signed-neg : (half full n : ℕ) → n < half → half + half ≤ full
    → (if nat_lt (full - suc (n % full)) half then pos (full - suc (n % full)) else negsuc (full - suc (full - suc (n % full)))) ≡ negsuc n
signed-neg half full n lt le =
    ap (λ m. if nat_lt (full - suc m) half then pos (full - suc m) else negsuc (full - suc (full - suc m)))
    (let below : n < full = omega (arith, lt, le) in mod-eq_of_lt below)
    ∙ ap (λ b. if b then pos (full - suc n) else negsuc (full - suc (full - suc n)))
    (let t : nat_lt (full - suc n) half ≡ false = grind (arith, nat_tests, lt, le) in t)
    ∙ ap negsuc (let e : full - suc (full - suc n) ≡ n = omega (arith, lt, le) in e)

unsigned-pos : (full n : ℕ) → n < full → pos (n % full) ≡ pos n
unsigned-pos full n lt = ap pos (mod-eq_of_lt lt)

test : (n m : ℕ) → nat_lt n m ≡ true → n < m
test n m h = grind (arith, nat_tests, h)

-- a value of a kind is not changed by a conversion to it
pub convert-same : (k : Kind) (z : ℤ) → fits k z ≡ true → convert k z ≡ z
convert-same Char (pos n) h = signed-pos 128 256 n (test n 128 h) (omega arith)
convert-same Char (negsuc n) h = signed-neg 128 256 n (test n 128 h) (omega arith)
convert-same SChar (pos n) h = signed-pos 128 256 n (test n 128 h) (omega arith)
convert-same SChar (negsuc n) h = signed-neg 128 256 n (test n 128 h) (omega arith)
convert-same UChar (pos n) h = unsigned-pos 256 n (test n 256 h)
convert-same UChar (negsuc n) h = absurd (cc)
convert-same Short (pos n) h = signed-pos 32768 65536 n (test n 32768 h) (omega arith)
convert-same Short (negsuc n) h = signed-neg 32768 65536 n (test n 32768 h) (omega arith)
convert-same UShort (pos n) h = unsigned-pos 65536 n (test n 65536 h)
convert-same UShort (negsuc n) h = absurd (cc)
convert-same Int (pos n) h = signed-pos 2147483648 4294967296 n (test n 2147483648 h) (omega arith)
convert-same Int (negsuc n) h = signed-neg 2147483648 4294967296 n (test n 2147483648 h) (omega arith)
convert-same UInt (pos n) h = unsigned-pos 4294967296 n (test n 4294967296 h)
convert-same UInt (negsuc n) h = absurd (cc)
convert-same Long (pos n) h = signed-pos 2147483648 4294967296 n (test n 2147483648 h) (omega arith)
convert-same Long (negsuc n) h = signed-neg 2147483648 4294967296 n (test n 2147483648 h) (omega arith)
convert-same ULong (pos n) h = unsigned-pos 4294967296 n (test n 4294967296 h)
convert-same ULong (negsuc n) h = absurd (cc)

-- ---- the small C's kinds have the same values

pub convert-c : (k : Kind) (z : ℤ) → convert (c_kind k) z ≡ convert k z
convert-c Char z = refl
convert-c SChar z = refl
convert-c UChar z = refl
convert-c Short z = refl
convert-c UShort z = refl
convert-c Int z = refl
convert-c UInt z = refl
convert-c Long z = refl
convert-c ULong z = refl

pub fits-c : (k : Kind) (z : ℤ) → fits (c_kind k) z ≡ fits k z
fits-c Char z = refl
fits-c SChar z = refl
fits-c UChar z = refl
fits-c Short z = refl
fits-c UShort z = refl
fits-c Int z = refl
fits-c UInt z = refl
fits-c Long z = refl
fits-c ULong z = refl
