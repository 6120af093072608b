-- Lists of the locals that are open.
use Rattle.std.proofs.Common.{◌≡◌, ℕ, Bool, true, false, ◌&&◌, ◌||◌, ◌==◌, not, if◌then◌else◌, List, [], ◌∷◌, refl, ◌∙◌, ap, arith}
use Rattle.std.specs.Prelude.{map, ℤ}
use Rattle.std.proofs.lemmas.Bool.Decides.{nat_tests}
use Rattle.cf_plain.specs.Plain.{Register}
use Rattle.cf_lower_kept.specs.Opened.{Opened, Counts, is_local, is_over, is_open_one, is_open, is_listed, closed, is_register, overwritten, valued, tells, told_by, counted, set_in}

pub neither : (a b : Bool) → (a || b) ≡ false → (a ≡ false) × (b ≡ false)
neither true b e = absurd (let k = e in cc)
neither false b e = (refl, e)

pub none-of : (a b : Bool) → a ≡ false → b ≡ false → (a || b) ≡ false
none-of a b e h = ap (λ c. c || b) e ∙ h

-- a register that is set changes none of them
pub is_open-set : (r : Register) (i : ℕ) (xs : List Opened) → is_open i (set_in r xs) ≡ is_open i xs
is_open-set r i [] = refl
is_open-set r i (x ∷ xs) = ap (λ b. is_open_one i x || b) (is_open-set r i xs)

-- nor one that gets a place
pub is_open-placed : (r : Register) (f : Opened → Counts) (i : ℕ) (xs : List Opened) → is_open i (map (λ x. overwritten r (f x) x) xs) ≡ is_open i xs
is_open-placed r f i [] = refl
is_open-placed r f i (x ∷ xs) = ap (λ b. is_open_one i x || b) (is_open-placed r f i xs)

valued-one : (i j : ℕ) (x : Opened) → is_open_one j (valued i x) ≡ is_open_one j x
valued-one i j x = by (is_local i x)
  where
    by : (b : Bool) → is_open_one j (if b then record x { has_value = true } else x) ≡ is_open_one j x
    by true = refl
    by false = refl

-- nor does a first value
pub is_open-valued : (i j : ℕ) (xs : List Opened) → is_open j (map (valued i) xs) ≡ is_open j xs
is_open-valued i j [] = refl
is_open-valued i j (x ∷ xs) =
    ap (λ b. b || is_open j (map (valued i) xs)) (valued-one i j x) ∙ ap (λ b. is_open_one j x || b) (is_open-valued i j xs)

told-one : (r : Register) (n : ℤ) (j : ℕ) (x : Opened) → is_open_one j (told_by r n x) ≡ is_open_one j x
told-one r n j x = by (is_register x.flag r && tells x.stands n)
  where
    by : (b : Bool) → is_open_one j (if b then record x { is_told = true } else x) ≡ is_open_one j x
    by true = refl
    by false = refl

-- nor does what a flag tells
pub is_open-told : (r : Register) (n : ℤ) (j : ℕ) (xs : List Opened) → is_open j (map (told_by r n) xs) ≡ is_open j xs
is_open-told r n j [] = refl
is_open-told r n j (x ∷ xs) =
    ap (λ b. b || is_open j (map (told_by r n) xs)) (told-one r n j x) ∙ ap (λ b. is_open_one j x || b) (is_open-told r n j xs)

-- nor does the number that is in a register
pub is_open-counted : (r : Register) (n : ℤ) (j : ℕ) (xs : List Opened) → is_open j (map (counted r n) xs) ≡ is_open j xs
is_open-counted r n j [] = refl
is_open-counted r n j (x ∷ xs) = ap (λ b. is_open_one j x || b) (is_open-counted r n j xs)

-- where one is closed, another that is not open was not open before
pub open-closed : (i j : ℕ) → j == i ≡ false → (xs : List Opened) → is_open j (closed i xs) ≡ false → is_open j xs ≡ false
open-closed i j ne [] e = refl
open-closed i j ne (x ∷ xs) e = by (open-closed i j ne xs) (x.local == i) refl e
  where
    by : (is_open j (closed i xs) ≡ false → is_open j xs ≡ false) → (b : Bool) → x.local == i ≡ b
        → is_open j (if not b then x ∷ closed i xs else closed i xs) ≡ false → is_open j (x ∷ xs) ≡ false
    by rest true k e =
        let other : x.local == j ≡ false = grind (arith, nat_tests, k, ne) in
        none-of (is_open_one j x) (is_open j xs) (ap (λ b. b && not (is_over x.stands)) other) (rest e)
    by rest false k e = let two = neither (is_open_one j x) (is_open j (closed i xs)) e in none-of (is_open_one j x) (is_open j xs) two.0 (rest two.1)

-- a local of which nothing is told is not open
pub open-listed : (i : ℕ) (xs : List Opened) → is_listed i xs ≡ false → is_open i xs ≡ false
open-listed i [] e = refl
open-listed i (x ∷ xs) e =
    let two = neither (x.local == i) (is_listed i xs) e in
    none-of (is_open_one i x) (is_open i xs) (ap (λ b. b && not (is_over x.stands)) two.0) (open-listed i xs two.1)
