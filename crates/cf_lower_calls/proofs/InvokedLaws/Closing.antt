-- What stands where some locals are gone.
use Rattle.std.proofs.Common.{◌≡◌, ℕ, Bool, true, false, ◌||◌, ◌==◌, not, if◌then◌else◌, List, [], ◌∷◌, refl, sym, ◌∙◌, ap, arith, ◌⊎◌, inl, inr}
use Rattle.std.specs.Prelude.{filter}
use Rattle.std.specs.List.{list_any}
use Rattle.std.proofs.lemmas.Bool.Decides.{nat_tests}
use Rattle.cf_core.specs.Run.{State}
use Rattle.cf_plain.specs.Acts.{Registers}
use Rattle.cf_plain_frames.specs.Since.{is_among}
use Rattle.cf_lower_kept.specs.Opened.{Opened, is_open, closed, closed_all}
use Rattle.cf_lower_points.specs.BoundsPoints.{IsOpen, AllOpen}
use Rattle.cf_lower_points.proofs.BoundsLists.{none-of, open-closed}

module _ (count : ℕ) (g : Registers) (u : State) where
  -- those that are none of these stand
  abbrev pub OthersOpen : List ℕ → List Opened → Type 0
  OthersOpen is [] = Unit {0}
  OthersOpen is (x ∷ xs) = (is_among x.local is ≡ false → IsOpen count x g u) × OthersOpen is xs

  all-others : (xs : List Opened) → OthersOpen [] xs → AllOpen count xs g u
  all-others [] h = tt
  all-others (x ∷ xs) h = (h.0 refl, all-others xs h.1)

  without-one : (i : ℕ) (is : List ℕ) (xs : List Opened) → OthersOpen (i ∷ is) xs → OthersOpen is (closed i xs)
  without-one i is [] h = tt
  without-one i is (x ∷ xs) h = by (without-one i is xs h.1) (x.local == i) refl
    where
      by : OthersOpen is (closed i xs) → (b : Bool) → x.local == i ≡ b → OthersOpen is (if not b then x ∷ closed i xs else closed i xs)
      by rest true k = rest
      by rest false k = (
        λ none. h.0 (none-of (i == x.local) (is_among x.local is) (let other : i == x.local ≡ false = grind (arith, nat_tests, k) in other) none),
        rest,
      )

  pub all-closed : (is : List ℕ) (xs : List Opened) → OthersOpen is xs → AllOpen count (closed_all is xs) g u
  all-closed [] xs h = all-others xs h
  all-closed (i ∷ is) xs h = all-closed is (closed i xs) (without-one i is xs h)

-- a local that is not open then is one of these, or was not open before
pub was-closed : (is : List ℕ) (xs : List Opened) (j : ℕ) → is_open j (closed_all is xs) ≡ false → (is_among j is ≡ true) ⊎ (is_open j xs ≡ false)
was-closed [] xs j e = inr e
was-closed (i ∷ is) xs j e = by (was-closed is (closed i xs) j e) (i == j) refl
  where
    by : ((is_among j is ≡ true) ⊎ (is_open j (closed i xs) ≡ false)) → (b : Bool) → i == j ≡ b → (is_among j (i ∷ is) ≡ true) ⊎ (is_open j xs ≡ false)
    by rest true k = inl (ap (λ b. b || is_among j is) k)
    by (inl among) false k = inl (ap (λ b. b || is_among j is) k ∙ among)
    by (inr none) false k = inr (open-closed i j (let other : j == i ≡ false = grind (arith, nat_tests, k) in other) xs none)
