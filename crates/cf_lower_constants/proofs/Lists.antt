-- What stands at an index of a list that grows, or in which one item is changed.
use Rattle.std.proofs.Common.{◌≡◌, ℕ, zero, suc, ◌<◌, ◌==◌, Bool, true, false, if◌then◌else◌, List, [], ◌∷◌, ◌++◌, length, refl, ap, ◌∙◌, arith}
use Rattle.std.specs.Prelude.{slice_set}
use Rattle.std.proofs.lemmas.Bool.Decides.{nat_tests}
use Rattle.cf_core.specs.FromTypes.{Tables}
use Rattle.cf_plain.specs.Plain.{Register}
use Rattle.cf_lower.specs.Constants as definition
use Rattle.cf_lower_constants.specs.declared.known.Known.{Known}
use Rattle.cf_lower_constants.specs.declared.known.Fact.TheVariants as fact
use Rattle.cf_lower_constants.specs.declared.registers.Knowns.{Knowns}
use Rattle.cf_lower_constants.specs.Knowing.{nameless, known_at, known_in, knowing}

-- nothing more is known where nothing is put at the end
pub at_longer : (xs : List Known) (q : ℕ) → known_at (xs ++ nameless fact.Nothing ∷ []) q ≡ known_at xs q
at_longer [] zero = refl
at_longer [] (suc q) = refl
at_longer (x ∷ xs) zero = refl
at_longer (x ∷ xs) (suc q) = at_longer xs q

at_set : (xs : List Known) (i : ℕ) (x : Known) (q : ℕ) → i < length xs → known_at (slice_set xs i x) q ≡ (if q == i then x else known_at xs q)
at_set [] i x q lt = absurd (omega arith)
at_set (y ∷ ys) zero x zero lt = refl
at_set (y ∷ ys) zero x (suc q) lt = by (suc q == 0) refl
  where
    by : (b : Bool) → (suc q == 0) ≡ b → known_at ys q ≡ (if b then x else known_at ys q)
    by true e = absurd (grind (arith, nat_tests))
    by false e = refl
at_set (y ∷ ys) (suc i) x zero lt = by (0 == suc i) refl
  where
    by : (b : Bool) → (0 == suc i) ≡ b → y ≡ (if b then x else y)
    by true e = absurd (grind (arith, nat_tests))
    by false e = refl
at_set (y ∷ ys) (suc i) x (suc q) lt = at_set ys i x q (omega arith) ∙ ap (λ b. if b then x else known_at ys q) (same_test q i)
  where
    same_test : (q i : ℕ) → (q == i) ≡ (suc q == suc i)
    same_test q i = grind (arith, nat_tests)

module _ (tables : Tables) where
  abbrev of_list : List Known → Register → definition.Known
  of_list xs r = known_in tables (known_at xs r)

  chosen : (b : Bool) (x y : Known) → known_in tables (if b then x else y) ≡ (if b then known_in tables x else known_in tables y)
  chosen true x y = refl
  chosen false x y = refl

  -- something else is known of one register
  pub known_one : (xs ys zs : List Known) (i r : ℕ) (x : Known) → ((q : ℕ) → known_at ys q ≡ known_at xs q) → i < length ys → i ≡ r → zs ≡ slice_set ys i x
      → of_list zs ≡ definition.know (of_list xs) r (known_in tables x)
  known_one xs ys zs i r x same lt at set = λ j q. point q j
    where
      point : (q : ℕ) → of_list zs q ≡ definition.know (of_list xs) r (known_in tables x) q
      point q =
          ap (λ l. known_in tables (known_at l q)) set ∙ ap (known_in tables) (at_set ys i x q lt) ∙ chosen (q == i) x (known_at ys q)
          ∙ ap (λ h. if q == i then known_in tables x else known_in tables h) (same q)
          ∙ ap (λ k. if q == k then known_in tables x else known_in tables (known_at xs q)) at

  -- nothing is known
  pub none_known : (xs : List Known) → xs ≡ [] → of_list xs ≡ definition.nothing_known
  none_known xs e = ap of_list e

-- of the registers themselves
pub know_one : (tables : Tables) (old new : Knowns) (ys : List Known) (i r : ℕ) (x : Known) → ((q : ℕ) → known_at ys q ≡ known_at old.known.items q) → i < length ys
    → i ≡ r → new.known.items ≡ slice_set ys i x → knowing tables new ≡ definition.know (knowing tables old) r (known_in tables x)
know_one tables old new ys i r x same lt at set = known_one tables old.known.items ys new.known.items i r x same lt at set

pub knows_nothing : (tables : Tables) (ks : Knowns) → ks.known.items ≡ [] → knowing tables ks ≡ definition.nothing_known
knows_nothing tables ks e = none_known tables ks.known.items e
