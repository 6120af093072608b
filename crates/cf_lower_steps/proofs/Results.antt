-- What an operator gives at values of a type is a value of its result's type. (Elaboration has the same law for its numbers.)
use Rattle.std.proofs.Common.{◌≡◌, ℕ, zero, suc, ◌-◌, ◌*◌, ◌/◌, ◌%◌, ◌<◌, ◌≤◌, ◌^◌, nat_lt, Bool, true, false, ◌||◌, ◌&&◌, if◌then◌else◌, ℤ, pos, negsuc, neg_ℤ, ◌+ℤ◌, ◌-ℤ◌, ◌*ℤ◌, IsTrue, Ok, Err, refl, subst, arith}
use Rattle.std.specs.Prelude.{bit_and, bit_or, bit_xor, int_lt, int_le, int_div, int_rem, unsigned_abs}
use Rattle.std.proofs.lemmas.Bool.Decides.{nat_tests}
use Rattle.std.proofs.lemmas.Nat.{mod_below, pow_pos, shr_le, or_lt, xor_lt, and_le_l}
use Rattle.std.proofs.Math.Nat.{mod-le}
use Rattle.cf_base.specs.declared.kind.Kind.{Kind}
use Rattle.cf_base.specs.declared.kind.Kind.TheVariants.{Char, SChar, UChar, Short, UShort, Int, UInt, Long, ULong}
use Rattle.cf_base.specs.declared.arith.Arith.{Arith}
use Rattle.cf_base.specs.declared.arith.Arith.TheVariants as op
use Rattle.cf_base.specs.Integers.{width, is_signed, fits, fits_bits, bits_of, value_of_bits, convert, int_op, ranged, truth, shifted, left_by, right_by, quotient, remainder, bitwise, overflow, shift_count}
use Rattle.cc_whole_mean.specs.Values.{result_kind}

-- ---- bits

signed_8 : (n : ℕ) → n < 256 → (t : Bool) → nat_lt n 128 ≡ t → fits_bits true 8 (if t then pos n else negsuc (256 - suc n)) ≡ true
signed_8 n lt true e = e
signed_8 n lt false e = grind (arith, nat_tests, lt, e)

signed_16 : (n : ℕ) → n < 65536 → (t : Bool) → nat_lt n 32768 ≡ t → fits_bits true 16 (if t then pos n else negsuc (65536 - suc n)) ≡ true
signed_16 n lt true e = e
signed_16 n lt false e = grind (arith, nat_tests, lt, e)

signed_32 : (n : ℕ) → n < 4294967296 → (t : Bool) → nat_lt n 2147483648 ≡ t → fits_bits true 32 (if t then pos n else negsuc (4294967296 - suc n)) ≡ true
signed_32 n lt true e = e
signed_32 n lt false e = grind (arith, nat_tests, lt, e)

lower : (n m : ℕ) → n < m → nat_lt n m ≡ true
lower n m lt = grind (arith, nat_tests, lt)

-- the value that has as many bits as the type is one of it
bits-fit : (k : Kind) (n : ℕ) → n < 2 ^ width k → IsTrue (fits k (value_of_bits (is_signed k) (width k) n))
bits-fit Char n lt = signed_8 n lt (nat_lt n 128) refl
bits-fit SChar n lt = signed_8 n lt (nat_lt n 128) refl
bits-fit UChar n lt = lower n 256 lt
bits-fit Short n lt = signed_16 n lt (nat_lt n 32768) refl
bits-fit UShort n lt = lower n 65536 lt
bits-fit Int n lt = signed_32 n lt (nat_lt n 2147483648) refl
bits-fit UInt n lt = lower n 4294967296 lt
bits-fit Long n lt = signed_32 n lt (nat_lt n 2147483648) refl
bits-fit ULong n lt = lower n 4294967296 lt

bits-below : (w : ℕ) (z : ℤ) → bits_of w z < 2 ^ w
bits-below w (pos n) = mod_below n (2 ^ w) (pow_pos w)
bits-below w (negsuc n) = let some = pow_pos w in omega (arith, some)

-- a converted number is a value of its type
pub convert-fits : (k : Kind) (z : ℤ) → IsTrue (fits k (convert k z))
convert-fits k z = bits-fit k (bits_of (width k) z) (bits-below (width k) z)

-- ---- numbers nearer to 0

less : (n m top : ℕ) → m ≤ n → IsTrue (nat_lt n top) → IsTrue (nat_lt m top)
less n m top le h = grind (arith, nat_tests, le, h)

pub nearer-pos : (k : Kind) (n m : ℕ) → m ≤ n → IsTrue (fits k (pos n)) → IsTrue (fits k (pos m))
nearer-pos Char n m le h = less n m 128 le h
nearer-pos SChar n m le h = less n m 128 le h
nearer-pos UChar n m le h = less n m 256 le h
nearer-pos Short n m le h = less n m 32768 le h
nearer-pos UShort n m le h = less n m 65536 le h
nearer-pos Int n m le h = less n m 2147483648 le h
nearer-pos UInt n m le h = less n m 4294967296 le h
nearer-pos Long n m le h = less n m 2147483648 le h
nearer-pos ULong n m le h = less n m 4294967296 le h

nearer-negsuc : (k : Kind) (n m : ℕ) → m ≤ n → IsTrue (fits k (negsuc n)) → IsTrue (fits k (negsuc m))
nearer-negsuc Char n m le h = less n m 128 le h
nearer-negsuc SChar n m le h = less n m 128 le h
nearer-negsuc UChar n m le h = cc
nearer-negsuc Short n m le h = less n m 32768 le h
nearer-negsuc UShort n m le h = cc
nearer-negsuc Int n m le h = less n m 2147483648 le h
nearer-negsuc UInt n m le h = cc
nearer-negsuc Long n m le h = less n m 2147483648 le h
nearer-negsuc ULong n m le h = cc

pub zero-fits : (k : Kind) → IsTrue (fits k (pos 0))
zero-fits Char = refl
zero-fits SChar = refl
zero-fits UChar = refl
zero-fits Short = refl
zero-fits UShort = refl
zero-fits Int = refl
zero-fits UInt = refl
zero-fits Long = refl
zero-fits ULong = refl

-- ---- each kind of operator

ranged-step : (k : Kind) (z w : ℤ) (b c : Bool) → fits k z ≡ b → (if b then Ok z else (if c then Err overflow else Ok (convert k z))) ≡ Ok w → IsTrue (fits k w)
ranged-step k z w true c e h = let f : z ≡ w = cc in subst (λ x. IsTrue (fits k x)) f e
ranged-step k z w false true e h = absurd (cc)
ranged-step k z w false false e h = let f : convert k z ≡ w = cc in subst (λ x. IsTrue (fits k x)) f (convert-fits k z)

pub ranged-fits : (k : Kind) (z w : ℤ) → ranged k z ≡ Ok w → IsTrue (fits k w)
ranged-fits k z w h = ranged-step k z w (fits k z) (is_signed k) refl h

quotient-fits : (k : Kind) (a b w : ℤ) → quotient k a b ≡ Ok w → IsTrue (fits k w)
quotient-fits k a (pos zero) w h = absurd (cc)
quotient-fits k a (pos (suc n)) w h = ranged-fits k (int_div a (pos (suc n))) w h
quotient-fits k a (negsuc n) w h = ranged-fits k (int_div a (negsuc n)) w h

negated-fits : (k : Kind) (a r : ℕ) → r ≤ suc a → IsTrue (fits k (negsuc a)) → IsTrue (fits k (neg_ℤ (pos r)))
negated-fits k a zero le h = zero-fits k
negated-fits k a (suc r) le h = nearer-negsuc k a r (omega arith) h

rem-fits : (k : Kind) (a b : ℤ) → IsTrue (fits k a) → IsTrue (fits k (int_rem a b))
rem-fits k (pos a) b h = nearer-pos k a (a % unsigned_abs b) (mod-le a (unsigned_abs b)) h
rem-fits k (negsuc a) b h = negated-fits k a (suc a % unsigned_abs b) (mod-le (suc a) (unsigned_abs b)) h

remainder-fits : (k : Kind) (a b w : ℤ) → IsTrue (fits k a) → remainder a b ≡ Ok w → IsTrue (fits k w)
remainder-fits k a (pos zero) w f h = absurd (cc)
remainder-fits k a (pos (suc n)) w f h = let e : int_rem a (pos (suc n)) ≡ w = cc in subst (λ x. IsTrue (fits k x)) e (rem-fits k a (pos (suc n)) f)
remainder-fits k a (negsuc n) w f h = let e : int_rem a (negsuc n) ≡ w = cc in subst (λ x. IsTrue (fits k x)) e (rem-fits k a (negsuc n) f)

shifted-step : (k : Kind) (z w : ℤ) (b : Bool) → IsTrue (fits k z) → (if b then Ok z else Err shift_count) ≡ Ok w → IsTrue (fits k w)
shifted-step k z w true f h = let e : z ≡ w = cc in subst (λ x. IsTrue (fits k x)) e f
shifted-step k z w false f h = absurd (cc)

shifted-fits : (k : Kind) (f : ℕ → ℤ) (bits : ℕ) (b w : ℤ) → ((n : ℕ) → IsTrue (fits k (f n))) → shifted f bits b ≡ Ok w → IsTrue (fits k w)
shifted-fits k f bits (pos n) w each h = shifted-step k (f n) w (nat_lt n bits) (each n) h
shifted-fits k f bits (negsuc n) w each h = absurd (cc)

right-fits : (k : Kind) (a : ℤ) → IsTrue (fits k a) → (n : ℕ) → IsTrue (fits k (right_by a n))
right-fits k (pos a) h n = nearer-pos k a (a / 2 ^ n) (shr_le a n) h
right-fits k (negsuc a) h n = nearer-negsuc k a (a / 2 ^ n) (shr_le a n) h

left-fits : (k : Kind) (a : ℤ) (n : ℕ) → IsTrue (fits k (left_by k a n))
left-fits k a n = bits-fit k (bits_of (width k) a * 2 ^ n % 2 ^ width k) (mod_below _ (2 ^ width k) (pow_pos (width k)))

truth-fits : (b : Bool) (w : ℤ) → truth b ≡ Ok w → IsTrue (fits Int w)
truth-fits true w h = let e : pos 1 ≡ w = cc in subst (λ x. IsTrue (fits Int x)) e refl
truth-fits false w h = let e : pos 0 ≡ w = cc in subst (λ x. IsTrue (fits Int x)) e refl

bitwise-fits : (f : ℕ → ℕ → ℕ) → ((w a b : ℕ) → a < 2 ^ w → b < 2 ^ w → f a b < 2 ^ w) → (k : Kind) (a b w : ℤ) → bitwise f k a b ≡ Ok w → IsTrue (fits k w)
bitwise-fits f within k a b w h =
    let n = f (bits_of (width k) a) (bits_of (width k) b) in
    let lt : n < 2 ^ width k = within (width k) _ _ (bits-below (width k) a) (bits-below (width k) b) in
    let e : value_of_bits (is_signed k) (width k) n ≡ w = cc in
    subst (λ x. IsTrue (fits k x)) e (bits-fit k n lt)

and-within : (w a b : ℕ) → a < 2 ^ w → b < 2 ^ w → bit_and a b < 2 ^ w
and-within w a b p q = let le = and_le_l a b in omega (arith, le, p)

-- an operator's value is one of its result's type
pub result-fits : (o : Arith) (k : Kind) (a b w : ℤ) → IsTrue (fits k a) → int_op o k a b ≡ Ok w → IsTrue (fits (result_kind o k) w)
result-fits op.Multiply k a b w f h = ranged-fits k (a *ℤ b) w h
result-fits op.Divide k a b w f h = quotient-fits k a b w h
result-fits op.Remainder k a b w f h = remainder-fits k a b w f h
result-fits op.Add k a b w f h = ranged-fits k (a +ℤ b) w h
result-fits op.Subtract k a b w f h = ranged-fits k (a -ℤ b) w h
result-fits op.ShiftLeft k a b w f h = shifted-fits k (left_by k a) (width k) b w (left-fits k a) h
result-fits op.ShiftRight k a b w f h = shifted-fits k (right_by a) (width k) b w (right-fits k a f) h
result-fits op.Less k a b w f h = truth-fits (int_lt a b) w h
result-fits op.Greater k a b w f h = truth-fits (int_lt b a) w h
result-fits op.LessEqual k a b w f h = truth-fits (int_le a b) w h
result-fits op.GreaterEqual k a b w f h = truth-fits (int_le b a) w h
result-fits op.Equal k a b w f h = truth-fits (int_le a b && int_le b a) w h
result-fits op.NotEqual k a b w f h = truth-fits (int_lt a b || int_lt b a) w h
result-fits op.And k a b w f h = bitwise-fits bit_and and-within k a b w h
result-fits op.Xor k a b w f h = bitwise-fits bit_xor xor_lt k a b w h
result-fits op.Or k a b w f h = bitwise-fits bit_or or_lt k a b w h
