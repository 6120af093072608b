-- The arguments of a call are there, where they are open with their values.
use Rattle.std.proofs.Common.{◌≡◌, ℕ, ◌<◌, nat_lt, Bool, true, false, ◌&&◌, ◌||◌, not, ◌==◌, List, [], ◌∷◌, length, refl, sym, ◌∙◌, ap, subst, arith}
use Rattle.std.specs.Prelude.{Some, is_some}
use Rattle.std.specs.List.{list_all, list_any}
use Rattle.std.proofs.lemmas.Bool.Decides.{nat_tests}
use Rattle.cf_base.proofs.Tests.{both}
use Rattle.cf_core.specs.Places.{is_scalar}
use Rattle.cf_core.specs.Run.{State}
use Rattle.cf_lower_layout.specs.Sorts.{sort_of}
use Rattle.cf_plain.specs.Acts.{Registers}
use Rattle.cf_plain_frames.specs.Since.{is_among}
use Rattle.cf_lower.specs.Kept.{Locals, type_of_local, is_argument}
use Rattle.cf_lower_kept.specs.Opened.{Opened, is_local, is_over, is_open_one, has_its_value}
use Rattle.cf_lower_points.specs.BoundsPoints.{Valued, AllOpen}
use Rattle.cf_lower_calls.specs.Arguments.Passing.{is_passed, are_passed, ArgumentThere, ArgumentsThere}

same-local : (i j : ℕ) → i == j ≡ true → i ≡ j
same-local i j e = grind (arith, nat_tests, e)

module _ (count : ℕ) (g : Registers) (s : State) where
  -- an argument that is there, by its object
  pub record OneThere (i : ℕ) : Type 0 where
    pub object : ℕ
    pub there : ArgumentThere s i object

  pub one-there : (i : ℕ) (xs : List Opened) → has_its_value xs i ≡ true → AllOpen count xs g s → OneThere i
  one-there i [] e h = absurd (let k = e in cc)
  one-there i (x ∷ xs) e h = by (λ k. one-there i xs k h.1) (is_open_one i x && x.has_value) refl
    where
      by : (has_its_value xs i ≡ true → OneThere i) → (b : Bool) → is_open_one i x && x.has_value ≡ b → OneThere i
      by rest true k =
          let two = both (is_open_one i x) x.has_value k in
          let same = same-local x.local i (both (is_local i x) (not (is_over x.stands)) two.0).0 in
          let v = subst (λ j. Valued count j s) same (h.0.value two.1) in
          record {
            object = v.one.object;
            there = record { local = v.one.there; stands = v.one.stands; value = v.value.value; held = v.value.held };
          }
      by rest false k = rest (sym (ap (λ b. b || has_its_value xs i) k) ∙ e)

  pub record AllThere (is : List ℕ) : Type 0 where
    pub objects : List ℕ
    pub there : ArgumentsThere s is objects

  pub all-there : (is : List ℕ) (xs : List Opened) → list_all (has_its_value xs) is ≡ true → AllOpen count xs g s → AllThere is
  all-there [] xs e h = record { objects = []; there = tt }
  all-there (i ∷ is) xs e h =
      let two = both (has_its_value xs i) (list_all (has_its_value xs) is) e in
      let one = one-there i xs two.0 h in
      let rest = all-there is xs two.1 h in
      record { objects = one.object ∷ rest.objects; there = (one.there, rest.there) }

-- the object of an argument is that of one of the locals that are passed
pub record OneOf (s : State) (is : List ℕ) (o : ℕ) : Type 0 where
  pub local : ℕ
  pub among : is_among local is ≡ true
  pub there : ArgumentThere s local o

pub one-of : (s : State) (is os : List ℕ) (o : ℕ) → ArgumentsThere s is os → is_among o os ≡ true → OneOf s is o
one-of s [] [] o h e = absurd (let k = e in cc)
one-of s [] (q ∷ qs) o h e = absurd h
one-of s (i ∷ is) [] o h e = absurd h
one-of s (i ∷ is) (q ∷ qs) o h e = by (λ k. one-of s is qs o h.1 k) (q == o) refl
  where
    itself : i == i ≡ true
    itself = grind (arith, nat_tests)

    later : (b : Bool) → (c : Bool) → c ≡ true → (b || c) ≡ true
    later true c k = refl
    later false c k = k

    by : (is_among o qs ≡ true → OneOf s is o) → (b : Bool) → q == o ≡ b → OneOf s (i ∷ is) o
    by rest true k = record {
      local = i;
      among = ap (λ b. b || is_among i is) itself;
      there = subst (λ p. ArgumentThere s i p) (same-local q o k) h.0;
    }
    by rest false k =
        let x = rest (sym (ap (λ b. b || is_among o qs) k) ∙ e) in
        record { local = x.local; among = later (i == x.local) (is_among x.local is) x.among; there = x.there }

-- and each local that is passed has one among them
pub object-among : (s : State) (is os : List ℕ) → ArgumentsThere s is os → (i o : ℕ) → is_among i is ≡ true → s.frame.locals i ≡ Some o → is_among o os ≡ true
object-among s [] os h i o e k = absurd (let q = e in cc)
object-among s (j ∷ is) [] h i o e k = absurd h
object-among s (j ∷ is) (q ∷ qs) h i o e k = by (λ a. object-among s is qs h.1 i o a k) (j == i) refl
  where
    some-same : {a b : ℕ} → Some a ≡ Some b → a ≡ b
    some-same x = cc

    later : (b : Bool) → (c : Bool) → c ≡ true → (b || c) ≡ true
    later true c x = refl
    later false c x = x

    by : (is_among i is ≡ true → is_among o qs ≡ true) → (b : Bool) → j == i ≡ b → is_among o (q ∷ qs) ≡ true
    by rest true x =
        let same : q ≡ o = some-same (sym h.0.local ∙ ap s.frame.locals (same-local j i x) ∙ k) in
        let test : q == o ≡ true = grind (arith, nat_tests, same) in
        ap (λ b. b || is_among o qs) test
    by rest false x = later (q == o) (is_among o qs) (rest (sym (ap (λ b. b || is_among i is) x) ∙ e))

-- a local that is passed is one of the function's
pub passed-below : (locals : Locals) (is : List ℕ) (i : ℕ) → are_passed locals is ≡ true → is_among i is ≡ true → i < length locals.types
passed-below locals [] i pass e = absurd (let k = e in cc)
passed-below locals (j ∷ is) i pass e = by (λ k. passed-below locals is i more k) (j == i) refl
  where
    two : (is_passed locals j ≡ true) × ((not (is_among j is) && are_passed locals is) ≡ true)
    two = both (is_passed locals j) (not (is_among j is) && are_passed locals is) pass

    more : are_passed locals is ≡ true
    more = (both (not (is_among j is)) (are_passed locals is) two.1).1

    first : j < length locals.types
    first =
        let k = (both (nat_lt j (length locals.types)) ((is_argument locals j && is_scalar (type_of_local locals j)) && is_some (sort_of (type_of_local locals j))) two.0).0 in
        grind (arith, nat_tests, k)

    by : (is_among i is ≡ true → i < length locals.types) → (b : Bool) → j == i ≡ b → i < length locals.types
    by rest true k = subst (λ p. p < length locals.types) (same-local j i k) first
    by rest false k = rest (sym (ap (λ b. b || is_among i is) k) ∙ e)
