-- What a load gives behind a store.
use Rattle.std.proofs.Common.{◌≡◌, ℕ, zero, suc, ◌<◌, Bool, true, false, ◌&&◌, ◌==◌, if◌then◌else◌, Some, None, refl, ◌∙◌, ap, arith, inl, inr}
use Rattle.std.proofs.lemmas.Bool.Decides.{nat_tests}
use Rattle.cc_whole_memory.specs.declared.value.Value.{Value}
use Rattle.cc_whole_memory.specs.declared.value.Scalar.{Scalar}
use Rattle.cc_whole_memory.specs.declared.cells.Cell.{Cell}
use Rattle.cc_whole_memory.specs.declared.cells.Cell.TheVariants as cell
use Rattle.cc_whole_memory.specs.Values.{bytes_of, size_of, as_scalar, zero_of}
use Rattle.cc_whole_memory.specs.Cells.{Cells, span, overlap, left, cleared, put, is_zero, zeros, load_from, load}
use Rattle.cf_lower_layout.specs.Layout.{Apart}

pub load-same : (t : Scalar) (v : Value) (q : ℕ) (f : Cells) → size_of v ≡ bytes_of t → load t (put v q f) q ≡ as_scalar t v
load-same t v q f e = by_test (q == q) (grind (arith, nat_tests))
  where
    by_size : (b : Bool) → size_of v == bytes_of t ≡ b → (if b then as_scalar t v else None) ≡ as_scalar t v
    by_size true h = refl
    by_size false h = absurd (grind (arith, nat_tests, e, h))

    by_test : (b : Bool) → b ≡ true → load_from t (put v q f) q (if b then cell.Stored v else cleared q (size_of v) f q) ≡ as_scalar t v
    by_test true h = by_size (size_of v == bytes_of t) refl
    by_test false h = absurd (cc)

-- a byte that lies apart from what is cleared
left-apart : (q n i : ℕ) (c : Cell) → overlap i (span c) q n ≡ false → left q n i c ≡ c
left-apart q n i c h = ap (λ b. if b then cell.Gone else c) h

put-apart : (v : Value) (q i : ℕ) (f : Cells) → i == q ≡ false → put v q f i ≡ left q (size_of v) i (f i)
put-apart v q i f h = ap (λ b. if b then cell.Stored v else cleared q (size_of v) f i) h

apart-number : (p l q n : ℕ) → 0 < l → 0 < n → Apart p l q n → p == q ≡ false
apart-number p l q n some k (inl le) = grind (arith, nat_tests, some, le)
apart-number p l q n some k (inr le) = grind (arith, nat_tests, k, le)

apart-overlap : (p l q n : ℕ) → Apart p l q n → overlap p l q n ≡ false
apart-overlap p l q n (inl le) = grind (arith, nat_tests, le)
apart-overlap p l q n (inr le) = grind (arith, nat_tests, le)

-- ---- bytes that nothing has written

left-zero : (b : Bool) (c : Cell) → b ≡ false → is_zero (if b then cell.Gone else c) ≡ is_zero c
left-zero true c h = absurd (cc)
left-zero false c h = refl

gone-zero : (b : Bool) (c : Cell) → is_zero c ≡ false → is_zero (if b then cell.Gone else c) ≡ false
gone-zero true c h = refl
gone-zero false c h = h

zero-left : (q n i : ℕ) (c : Cell) → Apart i 1 q n → is_zero (left q n i c) ≡ is_zero c
zero-left q n i cell.Zero a = left-zero (overlap i 1 q n) cell.Zero (apart-overlap i 1 q n a)
zero-left q n i cell.Gone a = left-zero (overlap i 1 q n) cell.Gone (apart-overlap i 1 q n a)
zero-left q n i (cell.Stored w) a = gone-zero (overlap i (size_of w) q n) (cell.Stored w) refl

byte-apart : (p k q n : ℕ) → Apart p (suc k) q n → Apart p 1 q n
byte-apart p k q n (inl le) = inl (omega (arith, le))
byte-apart p k q n (inr le) = inr le

rest-apart : (p k q n : ℕ) → Apart p (suc k) q n → Apart (suc p) k q n
rest-apart p k q n (inl le) = inl (omega (arith, le))
rest-apart p k q n (inr le) = inr (omega (arith, le))

zeros-apart : (v : Value) (q p k : ℕ) (f : Cells) → 0 < size_of v → Apart p k q (size_of v) → zeros (put v q f) p k ≡ zeros f p k
zeros-apart v q p zero f some a = refl
zeros-apart v q p (suc k) f some a =
    let one = byte-apart p k q (size_of v) a in
    ap (λ b. b && zeros (put v q f) (suc p) k)
    (ap is_zero (put-apart v q p f (apart-number p 1 q (size_of v) (omega arith) some one)) ∙ zero-left q (size_of v) p (f p) one)
    ∙ ap (λ b. is_zero (f p) && b) (zeros-apart v q (suc p) k f some (rest-apart p k q (size_of v) a))

-- ---- a load apart from a store

of-stored : (t : Scalar) (g : Cells) (q n p : ℕ) (w : Value) (b : Bool) → Apart p (bytes_of t) q n → overlap p (size_of w) q n ≡ b
    → load_from t g p (if b then cell.Gone else cell.Stored w) ≡ load_from t g p (cell.Stored w)
of-stored t g q n p w false a h = refl
of-stored t g q n p w true a h = by_size (size_of w == bytes_of t) refl
  where
    differ : Apart p (bytes_of t) q n → size_of w == bytes_of t ≡ true → ⊥
    differ (inl le) e = grind (arith, nat_tests, le, e, h)
    differ (inr le) e = grind (arith, nat_tests, le, e, h)

    by_size : (b : Bool) → size_of w == bytes_of t ≡ b → None ≡ (if b then as_scalar t w else None)
    by_size true e = absurd (differ a e)
    by_size false e = refl

from-left : (t : Scalar) (v : Value) (q p : ℕ) (f : Cells) (c : Cell) → 0 < size_of v → 0 < bytes_of t → Apart p (bytes_of t) q (size_of v)
    → load_from t (put v q f) p (left q (size_of v) p c) ≡ load_from t f p c
from-left t v q p f cell.Zero some bytes a =
    let byte : Apart p 1 q (size_of v) = first-byte a in
    ap (load_from t (put v q f) p) (left-apart q (size_of v) p cell.Zero (apart-overlap p 1 q (size_of v) byte))
    ∙ ap (λ b. if b then Some (zero_of t) else None) (zeros-apart v q p (bytes_of t) f some a)
  where
    first-byte : Apart p (bytes_of t) q (size_of v) → Apart p 1 q (size_of v)
    first-byte (inl le) = inl (omega (arith, le, bytes))
    first-byte (inr le) = inr le
from-left t v q p f cell.Gone some bytes a = gone-load (overlap p 1 q (size_of v))
  where
    gone-load : (b : Bool) → load_from t (put v q f) p (if b then cell.Gone else cell.Gone) ≡ None
    gone-load true = refl
    gone-load false = refl
from-left t v q p f (cell.Stored w) some bytes a =
    of-stored t (put v q f) q (size_of v) p w (overlap p (size_of w) q (size_of v)) a refl

pub load-apart : (t : Scalar) (v : Value) (q p : ℕ) (f : Cells) → 0 < size_of v → 0 < bytes_of t → Apart p (bytes_of t) q (size_of v)
    → load t (put v q f) p ≡ load t f p
load-apart t v q p f some bytes a =
    ap (load_from t (put v q f) p) (put-apart v q p f (apart-number p (bytes_of t) q (size_of v) bytes some a))
    ∙ from-left t v q p f (f p) some bytes a
