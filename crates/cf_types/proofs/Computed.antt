-- What is computed of two stored values, and stored itself.
use Rattle.std.proofs.Common.{◌≡◌, ℕ, zero, suc, ◌≤◌, ◌<◌, ◌^◌, true, ℤ, pos, negsuc, ◌+ℤ◌, ◌-ℤ◌, FitsSigned, to_z, of_z, w64, IsTrue, refl, sym, arith, lit≤, nat_lt, true≢false}
use Rattle.std.proofs.lemmas.Int.{ints}
use Rattle.std.proofs.lemmas.Int.{to_z-of_z, fits_signed_from_abs}
use Rattle.std.proofs.lemmas.Bool.Decides.{nat_tests}
use Rattle.std.specs.Int.RustNames.{int_div, unsigned_abs}
use Rattle.std.proofs.Math.Nat.{div-le_self}
use Rattle.cf_base.specs.declared.kind.Kind.{Kind}
use Rattle.cf_base.specs.declared.kind.Kind.TheVariants as kind
use Rattle.cf_base.specs.Integers.{is_signed, fits, ranged, quotient}

pub stored : {A : Type 0} (f : ℤ → A) (op : ℤ → ℤ → ℤ) (a b : ℤ) → FitsSigned w64 a → FitsSigned w64 b → FitsSigned w64 (op a b)
    → f (to_z w64 (of_z w64 (op (to_z w64 (of_z w64 a)) (to_z w64 (of_z w64 b))))) ≡ f (op a b)
stored f op a b p q r = rw (to_z-of_z w64 a p, to_z-of_z w64 b q, to_z-of_z w64 (op a b) r)

-- a number that the test finds below a small power of 2
below : (m n top : ℕ) → m ≤ top → IsTrue (nat_lt n m) → suc n ≤ top
below m n top few h = let e : n < m = grind (arith, nat_tests) in omega arith

-- a value of any type has an absolute value of at most 2 ^ 32
pub abs_bound : (k : Kind) (z : ℤ) → IsTrue (fits k z) → unsigned_abs z ≤ 2 ^ 32
abs_bound kind.Char (pos n) h = let e = below _ n (2 ^ 32) (lit≤ tt) h in omega arith
abs_bound kind.Char (negsuc n) h = below _ n (2 ^ 32) (lit≤ tt) h
abs_bound kind.SChar (pos n) h = let e = below _ n (2 ^ 32) (lit≤ tt) h in omega arith
abs_bound kind.SChar (negsuc n) h = below _ n (2 ^ 32) (lit≤ tt) h
abs_bound kind.UChar (pos n) h = let e = below _ n (2 ^ 32) (lit≤ tt) h in omega arith
abs_bound kind.UChar (negsuc n) h = cc
abs_bound kind.Short (pos n) h = let e = below _ n (2 ^ 32) (lit≤ tt) h in omega arith
abs_bound kind.Short (negsuc n) h = below _ n (2 ^ 32) (lit≤ tt) h
abs_bound kind.UShort (pos n) h = let e = below _ n (2 ^ 32) (lit≤ tt) h in omega arith
abs_bound kind.UShort (negsuc n) h = cc
abs_bound kind.Int (pos n) h = let e = below _ n (2 ^ 32) (lit≤ tt) h in omega arith
abs_bound kind.Int (negsuc n) h = below _ n (2 ^ 32) (lit≤ tt) h
abs_bound kind.UInt (pos n) h = let e = below _ n (2 ^ 32) (lit≤ tt) h in omega arith
abs_bound kind.UInt (negsuc n) h = cc
abs_bound kind.Long (pos n) h = let e = below _ n (2 ^ 32) (lit≤ tt) h in omega arith
abs_bound kind.Long (negsuc n) h = below _ n (2 ^ 32) (lit≤ tt) h
abs_bound kind.ULong (pos n) h = let e = below _ n (2 ^ 32) (lit≤ tt) h in omega arith
abs_bound kind.ULong (negsuc n) h = cc

-- and of a signed type one of at most 2 ^ 31
pub signed_bound : (k : Kind) (z : ℤ) → is_signed k ≡ true → IsTrue (fits k z) → unsigned_abs z ≤ 2 ^ 31
signed_bound kind.Char (pos n) s h = let e = below _ n (2 ^ 31) (lit≤ tt) h in omega arith
signed_bound kind.Char (negsuc n) s h = below _ n (2 ^ 31) (lit≤ tt) h
signed_bound kind.SChar (pos n) s h = let e = below _ n (2 ^ 31) (lit≤ tt) h in omega arith
signed_bound kind.SChar (negsuc n) s h = below _ n (2 ^ 31) (lit≤ tt) h
signed_bound kind.UChar z s h = absurd (true≢false (sym s))
signed_bound kind.Short (pos n) s h = let e = below _ n (2 ^ 31) (lit≤ tt) h in omega arith
signed_bound kind.Short (negsuc n) s h = below _ n (2 ^ 31) (lit≤ tt) h
signed_bound kind.UShort z s h = absurd (true≢false (sym s))
signed_bound kind.Int (pos n) s h = let e = below _ n (2 ^ 31) (lit≤ tt) h in omega arith
signed_bound kind.Int (negsuc n) s h = below _ n (2 ^ 31) (lit≤ tt) h
signed_bound kind.UInt z s h = absurd (true≢false (sym s))
signed_bound kind.Long (pos n) s h = let e = below _ n (2 ^ 31) (lit≤ tt) h in omega arith
signed_bound kind.Long (negsuc n) s h = below _ n (2 ^ 31) (lit≤ tt) h
signed_bound kind.ULong z s h = absurd (true≢false (sym s))

-- a quotient is no further from 0 than the dividend
abs-quotient : (a b : ℤ) → unsigned_abs (int_div a b) ≤ unsigned_abs a
abs-quotient (pos a) (pos b) = div-le_self a b
abs-quotient (pos a) (negsuc b) = grind (arith, div-le_self a (suc b))
abs-quotient (negsuc a) (pos b) = grind (arith, div-le_self (suc a) b)
abs-quotient (negsuc a) (negsuc b) = grind (arith, div-le_self (suc a) (suc b))

-- where the divisor isn't 0
pub quotient-ranged : (k : Kind) (a b : ℤ) → (of_z w64 b ≡ 0 → ⊥) → quotient k a b ≡ ranged k (int_div a b)
quotient-ranged k a (pos zero) nonzero = absurd (nonzero refl)
quotient-ranged k a (pos (suc n)) nonzero = refl
quotient-ranged k a (negsuc n) nonzero = refl

pub quotient-fits : (k : Kind) (a b : ℤ) → IsTrue (fits k a) → FitsSigned w64 (int_div a b)
quotient-fits k a b h = fits_signed_from_abs w64 (int_div a b) (omega (arith, abs-quotient a b, abs_bound k a h))

pub sum-fits : (k : Kind) (a b : ℤ) → IsTrue (fits k a) → IsTrue (fits k b) → FitsSigned w64 (a +ℤ b)
sum-fits k a b h i = let p = abs_bound k a h in let q = abs_bound k b i in omega (arith, ints)

pub difference-fits : (k : Kind) (a b : ℤ) → IsTrue (fits k a) → IsTrue (fits k b) → FitsSigned w64 (a -ℤ b)
difference-fits k a b h i = let p = abs_bound k a h in let q = abs_bound k b i in omega (arith, ints)
