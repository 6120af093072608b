-- Numbers of elements and of bytes: products and quotients that stay within an int.
use Rattle.std.proofs.Common.{◌≡◌, ℕ, zero, suc, ◌+◌, ◌-◌, ◌*◌, ◌/◌, ◌≤◌, ◌<◌, nat_le, nat_lt, Bool, true, false, if◌then◌else◌, Option, Some, None, Ok, Err, ℤ, pos, negsuc, neg_ℤ, ◌+ℤ◌, ◌-ℤ◌, ◌*ℤ◌, refl, sym, ◌∙◌, ap, arith}
use Rattle.std.proofs.Math.Nat.{add-mul, mul-le-mul_right, mul-div_cancel, suc-mul}
use Rattle.std.proofs.lemmas.Bool.Decides.{nat_tests}
use Rattle.cf_base.specs.declared.kind.Kind.TheVariants.{Int}
use Rattle.cf_base.specs.declared.arith.Arith.TheVariants as op
use Rattle.cf_base.specs.Integers.{fits, convert, int_op, ranged, quotient, overflow}
use Rattle.cf_core.specs.Pointers.{further}
use Rattle.cf_lower_relate.proofs.Moves.{less, some-same}
use Rattle.cf_lower_relate.proofs.Words.{convert-same}

-- ---- ints

pub fits-pos : (n : ℕ) → n ≤ 4194304 → fits Int (pos n) ≡ true
fits-pos n le = let h : nat_lt n 2147483648 ≡ true = grind (arith, nat_tests, le) in h

pub fits-negsuc : (n : ℕ) → n ≤ 4194304 → fits Int (negsuc n) ≡ true
fits-negsuc n le = let h : nat_lt n 2147483648 ≡ true = grind (arith, nat_tests, le) in h

fits-neg : (n : ℕ) → n ≤ 4194304 → fits Int (neg_ℤ (pos n)) ≡ true
fits-neg zero le = refl
fits-neg (suc n) le = fits-negsuc n (omega (arith, le))

pub ranged-fits : (z : ℤ) → fits Int z ≡ true → ranged Int z ≡ Ok z
ranged-fits z h = ap (λ b. if b then Ok z else Err overflow) h

-- ---- products

times-one : (k n : ℕ) → 0 < n → k ≤ k * n
times-one k n some = let h : k * 1 ≤ k * n = more-left some in omega (arith, h)
  where
    more-left : 1 ≤ n → k * 1 ≤ k * n
    more-left le = omega (arith, mul-le-mul_right k le)

-- how many elements a pointer is moved by
pub record Steps (z : ℤ) (n : ℕ) : Type 0 where
  pub same : convert Int z ≡ z
  pub product : fits Int (z *ℤ pos n) ≡ true

-- how far a number is from 0
abbrev pub far : ℤ → ℕ
far (pos k) = k
far (negsuc k) = suc k

pub far-neg : (z : ℤ) → far (neg_ℤ z) ≡ far z
far-neg (pos zero) = refl
far-neg (pos (suc k)) = refl
far-neg (negsuc k) = refl

-- a pointer moved within its array is moved by no more elements than that has
pub further-far : (j i b : ℕ) (z : ℤ) → further j z ≡ Some i → i ≤ b → j ≤ b → far z ≤ b
further-far j i b (pos k) e li lj = let is : j + k ≡ i = some-same e in omega (arith, is, li)
further-far j i b (negsuc k) e li lj = by_test (nat_le (suc k) j) refl e
  where
    by_test : (t : Bool) → nat_le (suc k) j ≡ t → (elim t as (λ c. Option ℕ) [ true ↦ Some (j - suc k) | false ↦ None ]) ≡ Some i → suc k ≤ b
    by_test true t e = grind (arith, nat_tests, t, lj)
    by_test false t e = absurd (cc)

pub steps-fit : (z : ℤ) (n b : ℕ) → far z ≤ b → 0 < n → b * n ≤ 4194304 → Steps z n
steps-fit (pos k) n b below some le =
    let product : k * n ≤ b * n = mul-le-mul_right n below in
    let one = times-one k n some in
    record {
      same = convert-same Int (pos k) (fits-pos k (omega (arith, product, one, le)));
      product = fits-pos (k * n) (omega (arith, product, le));
    }
steps-fit (negsuc k) n b below some le =
    let product : suc k * n ≤ b * n = mul-le-mul_right n below in
    let one = times-one (suc k) n some in
    record {
      same = convert-same Int (negsuc k) (fits-negsuc k (omega (arith, product, one, le)));
      product = fits-neg (suc k * n) (omega (arith, product, le));
    }

-- ---- differences

pub more : (x y d : ℕ) → y ≡ x + suc d → pos x +ℤ neg_ℤ (pos y) ≡ negsuc d
more x zero d e = absurd (omega (arith, e))
more x (suc y) d e =
    ap (λ b. if b then negsuc (suc y - suc x) else pos (x - suc y)) (let t : nat_lt x (suc y) ≡ true = grind (arith, nat_tests, e) in t)
    ∙ ap negsuc (let h : suc y - suc x ≡ d = omega (arith, e) in h)

divided-pos : (d n : ℕ) → 0 < n → d ≤ 4194304 → quotient Int (pos (d * n)) (pos n) ≡ Ok (pos d)
divided-pos d zero some le = absurd (omega (arith, some))
divided-pos d (suc n) some le = ap (λ q. ranged Int (pos q)) (mul-div_cancel d some) ∙ ranged-fits (pos d) (fits-pos d le)

neg-suc : (m d n : ℕ) → suc m ≡ suc d * suc n → d ≤ 4194304 → quotient Int (negsuc m) (pos (suc n)) ≡ Ok (negsuc d)
neg-suc m d n e le =
    ap (λ q. ranged Int (neg_ℤ (pos (q / suc n)))) e
    ∙ ap (λ q. ranged Int (neg_ℤ (pos q))) (let some : 0 < suc n = omega arith in mul-div_cancel (suc d) some)
    ∙ ranged-fits (negsuc d) (fits-negsuc d le)

divided-neg : (d n m : ℕ) → 0 < n → d ≤ 4194304 → suc m ≡ suc d * n → quotient Int (negsuc m) (pos n) ≡ Ok (negsuc d)
divided-neg d zero m some le e = absurd (omega (arith, some))
divided-neg d (suc n) m some le e = neg-suc m d n e le

-- the difference of two elements of n bytes, from the bytes before them
pub record Difference (x y n : ℕ) (z : ℤ) : Type 0 where
  pub fit : fits Int (pos x -ℤ pos y) ≡ true
  pub divided : int_op op.Divide Int (pos x -ℤ pos y) (pos n) ≡ Ok z
  pub number : fits Int z ≡ true

pub differences : (a i j n : ℕ) → 0 < n → i * n ≤ 4194304 → j * n ≤ 4194304 → Difference (a + i * n) (a + j * n) n (pos i -ℤ pos j)
differences a i j n some li lj = by_test (nat_le j i) refl
  where
    one-i : i ≤ i * n
    one-i = times-one i n some

    one-j : j ≤ j * n
    one-j = times-one j n some

    forth : j ≤ i → Difference (a + i * n) (a + j * n) n (pos i -ℤ pos j)
    forth le =
        let d = i - j in
        let whole : i ≡ d + j = omega (arith, le) in
        let product = add-mul d j n in
        let sum : i * n ≡ d * n + j * n = ap (λ k. k * n) whole ∙ product in
        let bytes : pos (a + i * n) -ℤ pos (a + j * n) ≡ pos (d * n) = less (a + i * n) (d * n) (a + j * n) (omega (arith, sum)) in
        let number : pos i -ℤ pos j ≡ pos d = less i d j whole in
        let below : d ≤ 4194304 = omega (arith, whole, li, one-i) in
        record {
          fit = ap (fits Int) bytes ∙ fits-pos (d * n) (omega (arith, sum, li));
          divided = ap (λ z. quotient Int z (pos n)) bytes ∙ divided-pos d n some below ∙ ap Ok (sym number);
          number = ap (fits Int) number ∙ fits-pos d below;
        }

    back : i < j → Difference (a + i * n) (a + j * n) n (pos i -ℤ pos j)
    back lt =
        let d = j - suc i in
        let whole : j ≡ i + suc d = omega (arith, lt) in
        let product = add-mul i (suc d) n in
        let sum : j * n ≡ i * n + suc d * n = ap (λ k. k * n) whole ∙ product in
        let steps = times-one (suc d) n some in
        let m = suc d * n - 1 in
        let is : suc m ≡ suc d * n = omega (arith, steps) in
        let bytes : pos (a + i * n) -ℤ pos (a + j * n) ≡ negsuc m = more (a + i * n) (a + j * n) m (omega (arith, sum, is)) in
        let number : pos i -ℤ pos j ≡ negsuc d = more i j d whole in
        let below : d ≤ 4194304 = omega (arith, whole, lj, one-j) in
        record {
          fit = ap (fits Int) bytes ∙ fits-negsuc m (omega (arith, sum, is, lj));
          divided = ap (λ z. quotient Int z (pos n)) bytes ∙ divided-neg d n m some below is ∙ ap Ok (sym number);
          number = ap (fits Int) number ∙ fits-negsuc d below;
        }

    by_test : (t : Bool) → nat_le j i ≡ t → Difference (a + i * n) (a + j * n) n (pos i -ℤ pos j)
    by_test true t = forth (grind (arith, nat_tests, t))
    by_test false t = back (grind (arith, nat_tests, t))

-- ---- order

products : (i j n : ℕ) → i < j → 0 < n → i * n < j * n
products i j n lt some =
    let le : suc i * n ≤ j * n = mul-le-mul_right n lt in
    let e = suc-mul i n in
    omega (arith, le, e, some)

-- the order of the bytes before two elements is that of their numbers
pub less-bytes : (a i j n : ℕ) → 0 < n → nat_lt (a + i * n) (a + j * n) ≡ nat_lt i j
less-bytes a i j n some = by_test (nat_lt i j) refl
  where
    by_test : (t : Bool) → nat_lt i j ≡ t → nat_lt (a + i * n) (a + j * n) ≡ t
    by_test true t = let h = products i j n (grind (arith, nat_tests, t)) some in grind (arith, nat_tests, h)
    by_test false t =
        let le : j ≤ i = grind (arith, nat_tests, t) in
        let h : j * n ≤ i * n = mul-le-mul_right n le in
        grind (arith, nat_tests, h)

pub at-most-bytes : (a i j n : ℕ) → 0 < n → nat_le (a + i * n) (a + j * n) ≡ nat_le i j
at-most-bytes a i j n some = by_test (nat_le i j) refl
  where
    by_test : (t : Bool) → nat_le i j ≡ t → nat_le (a + i * n) (a + j * n) ≡ t
    by_test true t =
        let le : i ≤ j = grind (arith, nat_tests, t) in
        let h : i * n ≤ j * n = mul-le-mul_right n le in
        grind (arith, nat_tests, h)
    by_test false t = let h = products j i n (grind (arith, nat_tests, t)) some in grind (arith, nat_tests, h)
