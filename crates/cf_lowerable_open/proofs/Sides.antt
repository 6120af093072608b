-- Lists of locals, in which items are changed one after another, and two lists side by side.
use Rattle.std.proofs.Common.{◌≡◌, ℕ, zero, suc, ◌+◌, ◌<◌, ◌≤◌, ◌==◌, ◌&&◌, Bool, true, false, List, [], ◌∷◌, length, map, drop, get_or, refl, sym, ap, ◌∙◌, arith}
use Rattle.std.specs.Prelude.{slice_set}
use Rattle.std.proofs.lemmas.Bool.Decides.{nat_tests}
use Rattle.std.proofs.lemmas.List.{at_drop_all}
use Rattle.cf_lower_kept.specs.Opened.{Opened, same_open, as_open}
use Rattle.cf_lowerable_open.specs.Lists.{partly, open_at}

module _ {A : Type 0} (f : A → A) where
  pub partly_all : (xs : List A) (n : ℕ) → length xs ≤ n → partly f n xs ≡ map f xs
  partly_all [] zero le = refl
  partly_all [] (suc n) le = refl
  partly_all (x ∷ xs) zero le = absurd (omega arith)
  partly_all (x ∷ xs) (suc n) le = ap (λ l. f x ∷ l) (partly_all xs n (omega arith))

  pub partly_long : (xs : List A) (n : ℕ) → length (partly f n xs) ≡ length xs
  partly_long xs zero = refl
  partly_long [] (suc n) = refl
  partly_long (x ∷ xs) (suc n) = ap suc (partly_long xs n)

  partly_next : (xs : List A) (i : ℕ) (x y : A) → i < length xs → x ≡ get_or (partly f i xs) i x → y ≡ f x → slice_set (partly f i xs) i y ≡ partly f (suc i) xs
  partly_next [] i x y lt at is = absurd (omega arith)
  partly_next (z ∷ zs) zero x y lt at is = ap (λ w. w ∷ zs) (is ∙ ap f at)
  partly_next (z ∷ zs) (suc i) x y lt at is = ap (λ l. f z ∷ l) (partly_next zs i x y (omega arith) at is)

  pub partly_more : (xs here next : List A) (i : ℕ) (x y : A) → here ≡ partly f i xs → i < length here → x ≡ get_or here i x → y ≡ f x → next ≡ slice_set here i y
      → next ≡ partly f (i + 1) xs
  partly_more xs here next i x y so lt at is set =
      let one : suc i ≡ i + 1 = omega arith in
      let long : length here ≡ length xs = ap length so ∙ partly_long xs i in
      let within : i < length xs = omega (arith, lt, long) in
      set ∙ ap (λ l. slice_set l i y) so ∙ partly_next xs i x y within (at ∙ ap (λ l. get_or l i x) so) is ∙ ap (λ k. partly f k xs) one

-- ---- two lists side by side

same_number : (n m : ℕ) → (n == m) ≡ true → n ≡ m
same_number n m e = grind (arith, nat_tests)

other_number : (n m : ℕ) → (n == m) ≡ false → n ≡ m → ⊥
other_number n m e = grind (arith, nat_tests)

pub equally_long : (xs ys : List Opened) (b : Bool) → b ≡ (length xs == length ys) → b ≡ true → length xs ≡ length ys
equally_long xs ys b is e = same_number (length xs) (length ys) (sym is ∙ e)

and_first : (a b : Bool) → a ≡ false → false ≡ (a && b)
and_first true b e = absurd (cc)
and_first false b e = refl

and_second : (a b : Bool) → a ≡ true → b ≡ (a && b)
and_second true b e = refl
and_second false b e = absurd (cc)

split_and : (a b d : Bool) → (a && (b && d)) ≡ ((a && b) && d)
split_and true b d = refl
split_and false b d = refl

opens_at : (xs ys : List Opened) (i : ℕ) → i < length xs → length xs ≡ length ys
    → same_open (drop i xs) (drop i ys) ≡ (open_at xs ys i && same_open (drop (suc i) xs) (drop (suc i) ys))
opens_at [] ys i lt long = absurd (omega arith)
opens_at (x ∷ xs) [] i lt long = absurd (omega arith)
opens_at (x ∷ xs) (y ∷ ys) zero lt long = split_and (x.local == y.local) (as_open x.stands y.stands) (same_open xs ys)
opens_at (x ∷ xs) (y ∷ ys) (suc i) lt long = opens_at xs ys i (omega arith) (omega arith)

and_no : (a b : Bool) → false ≡ b → false ≡ (a && b)
and_no true b e = e
and_no false b e = refl

-- lists of which one is longer are not alike
open_long : (xs ys : List Opened) → (length xs ≡ length ys → ⊥) → false ≡ same_open xs ys
open_long [] [] ne = absurd (ne refl)
open_long [] (y ∷ ys) ne = refl
open_long (x ∷ xs) [] ne = refl
open_long (x ∷ xs) (y ∷ ys) ne = and_no (x.local == y.local) _ (and_no (as_open x.stands y.stands) _ (open_long xs ys (λ e. ne (ap suc e))))

pub open_longer : (xs ys : List Opened) (b : Bool) → b ≡ (length xs == length ys) → b ≡ false → false ≡ same_open xs ys
open_longer xs ys b is e = open_long xs ys (other_number (length xs) (length ys) (sym is ∙ e))

module _ (xs ys : List Opened) (i : ℕ) (lt : i < length xs) (long : length xs ≡ length ys) (b : Bool) where
  one : suc i ≡ i + 1
  one = omega arith

  pub open_stop : b ≡ open_at xs ys i → b ≡ false → same_open (drop i xs) (drop i ys) ≡ same_open xs ys → false ≡ same_open xs ys
  open_stop is e inv = and_first _ _ (sym is ∙ e) ∙ sym (opens_at xs ys i lt long) ∙ inv

  pub open_next : b ≡ open_at xs ys i → b ≡ true → same_open (drop i xs) (drop i ys) ≡ same_open xs ys
      → same_open (drop (i + 1) xs) (drop (i + 1) ys) ≡ same_open xs ys
  open_next is e inv = sym (ap (λ n. same_open (drop n xs) (drop n ys)) one) ∙ and_second _ _ (sym is ∙ e) ∙ sym (opens_at xs ys i lt long) ∙ inv

module _ (xs ys : List Opened) (i : ℕ) (past : length xs ≤ i) (long : length xs ≡ length ys) where
  pub open_end : same_open (drop i xs) (drop i ys) ≡ same_open xs ys → true ≡ same_open xs ys
  open_end inv = sym (at_drop_all (λ l. same_open l (drop i ys)) xs i past ∙ at_drop_all (λ l. same_open [] l) ys i (omega (arith, past, long))) ∙ inv
