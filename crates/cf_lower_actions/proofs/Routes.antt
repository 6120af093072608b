-- What lies in a part of an object, and its scalars that are 0 or null.
use Rattle.std.proofs.Common.{◌≡◌, ℕ, ◌+◌, ◌*◌, Bool, true, false, List, [], ◌∷◌, ◌++◌, refl, sym, ◌∙◌, ap, subst, arith}
use Rattle.std.specs.Prelude.{Option, Some, None, is_some, option_map, nat_lt}
use Rattle.std.proofs.lemmas.Bool.Decides.{nat_tests}
use Rattle.cf_core.specs.Types.{SourceType, array, const, plain, element, without_const}
use Rattle.cf_core.specs.Classes.{Class}
use Rattle.cf_core.specs.Core.{Part, item, past, field, within}
use Rattle.cf_core.specs.Places.{Route, route_eq, beyond, part_type, type_at}
use Rattle.cf_core.specs.Size.{size}
use Rattle.cf_lower_layout.specs.Layout.{has_item, has, before, offset, leads}
use Rattle.cf_lower_layout.specs.Sorts.{Sort, scalar_sort, sort_of}
use Rattle.cf_lower_layout.proofs.Laid.{size-without}
use Rattle.cf_lower_layout.proofs.Parts.{leads-step, same-route, route-self}
use Rattle.cf_lower_layout.proofs.Types.{without-twice}
use Rattle.cc_whole_memory.specs.Values.{zero_of}
use Rattle.cc_whole_memory.specs.Cells.{Cells, load}
use Rattle.cf_lower_relate.specs.Scalars.{c_scalar}
use Rattle.cf_lower_actions.proofs.Zeroed.{ZeroIf, Zeroed}

-- ---- what leads from one route to another

some-route : {σ τ : Route} → Some σ ≡ Some τ → σ ≡ τ
some-route e = cc

none-some : {σ : Route} → None ≡ Some σ → ⊥
none-some e = absurd (cc)

tail-some : (s : Part) (π ρ σ : Route) → ((τ : Route) → beyond π ρ ≡ Some τ → π ≡ τ ++ ρ) → beyond (s ∷ π) ρ ≡ Some σ → s ∷ π ≡ σ ++ ρ
tail-some s π ρ σ of-tail = by_test (route_eq (s ∷ π) ρ) refl
  where
    by_tail : (o : Option Route) → beyond π ρ ≡ o → option_map (λ (r : Route). s ∷ r) o ≡ Some σ → s ∷ π ≡ σ ++ ρ
    by_tail None e k = absurd (none-some k)
    by_tail (Some τ) e k = ap (λ r. s ∷ r) (of-tail τ e) ∙ ap (λ r. r ++ ρ) (some-route k)

    by_test : (b : Bool) → route_eq (s ∷ π) ρ ≡ b → beyond (s ∷ π) ρ ≡ Some σ → s ∷ π ≡ σ ++ ρ
    by_test true e = rw e (λ k. same-route (s ∷ π) ρ e ∙ ap (λ τ. τ ++ ρ) (some-route k))
    by_test false e = rw e (λ k. by_tail (beyond π ρ) refl k)

pub beyond-some : (π ρ σ : Route) → beyond π ρ ≡ Some σ → π ≡ σ ++ ρ
beyond-some [] ρ σ = by_test (route_eq [] ρ) refl
  where
    by_test : (b : Bool) → route_eq [] ρ ≡ b → beyond [] ρ ≡ Some σ → [] ≡ σ ++ ρ
    by_test true e = rw e (λ k. same-route [] ρ e ∙ ap (λ τ. τ ++ ρ) (some-route k))
    by_test false e = rw e (λ k. absurd (none-some k))
beyond-some (s ∷ π) ρ σ = tail-some s π ρ σ (λ τ e. beyond-some π ρ τ e)

some-map : (s : Part) (o : Option Route) → is_some (option_map (λ (r : Route). s ∷ r) o) ≡ is_some o
some-map s None = refl
some-map s (Some r) = refl

tail-there : (s : Part) (σ π : Route) → is_some (beyond (σ ++ π) π) ≡ true → is_some (beyond (s ∷ (σ ++ π)) π) ≡ true
tail-there s σ π of-tail = by_test (route_eq (s ∷ (σ ++ π)) π) refl
  where
    by_test : (b : Bool) → route_eq (s ∷ (σ ++ π)) π ≡ b → is_some (beyond (s ∷ (σ ++ π)) π) ≡ true
    by_test true e = rw e refl
    by_test false e = rw e (some-map s (beyond (σ ++ π) π) ∙ of-tail)

pub beyond-there : (σ π : Route) → is_some (beyond (σ ++ π) π) ≡ true
beyond-there [] [] = refl
beyond-there [] (s ∷ π) = rw (route-self (s ∷ π)) refl
beyond-there (s ∷ σ) π = tail-there s σ π (beyond-there σ π)

-- ---- scalars that are 0 or null

module _ (classes : List Class) (cells : Cells) where
  -- const does not matter
  pub zeroed-with : (t : SourceType) (q : ℕ) → Zeroed classes (without_const t) q cells → Zeroed classes t q cells
  zeroed-with (array t n) q z = λ i lt.
      zeroed-with t (q + i * size classes t) (subst (λ s. Zeroed classes (without_const t) (q + i * s) cells) (size-without classes t) (z i lt))
  zeroed-with (const t) q z = zeroed-with t q z
  zeroed-with t q z = subst (λ o. ZeroIf o q cells) (ap scalar_sort (without-twice t)) z

  pub scalar-zero : (t : SourceType) (u : Sort) (q : ℕ) → sort_of t ≡ Some u → Zeroed classes t q cells → load (c_scalar u) cells q ≡ Some (zero_of (c_scalar u))
  scalar-zero (array t n) u q e z = absurd (cc)
  scalar-zero (const t) u q e z = scalar-zero t u q e z
  scalar-zero t u q e z = subst (λ o. ZeroIf o q cells) e z

  element-zeroed : (t : SourceType) (i q : ℕ) → has_item t i ≡ true → Zeroed classes t q cells → Zeroed classes (element t) (q + i * size classes (element t)) cells
  element-zeroed (array t n) i q h z = z i (grind (arith, nat_tests, h))
  element-zeroed t i q h z = absurd (cc)

  plain-zeroed : (t : SourceType) (q : ℕ) → Zeroed classes t q cells → Zeroed classes (plain t) q cells
  plain-zeroed (const t) q z = z
  plain-zeroed t q z = z

  part-zeroed : (t : SourceType) (s : Part) (q : ℕ) → has t s ≡ true → Zeroed classes t q cells → Zeroed classes (part_type classes t s) (q + before classes t s) cells
  part-zeroed t (item i) q h z = element-zeroed (plain t) i q h (plain-zeroed t q z)
  part-zeroed t past q h z = absurd (cc)
  part-zeroed t (field i) q h z = absurd (cc)
  part-zeroed t (within s) q h z = absurd (cc)

  -- of a part that is zeroed, each part is
  pub parts-zeroed : (t : SourceType) (base : ℕ) (π σ : Route) → leads classes t (σ ++ π) ≡ true → Zeroed classes (type_at classes t π) (base + offset classes t π) cells
      → Zeroed classes (type_at classes t (σ ++ π)) (base + offset classes t (σ ++ π)) cells
  parts-zeroed t base π [] h z = z
  parts-zeroed t base π (s ∷ σ) h z =
      let step = leads-step classes t s (σ ++ π) h in
      subst (λ q. Zeroed classes (type_at classes t (s ∷ (σ ++ π))) q cells)
      (let e : base + offset classes t (σ ++ π) + before classes (type_at classes t (σ ++ π)) s ≡ base + offset classes t (s ∷ (σ ++ π)) = omega arith in e)
      (part-zeroed (type_at classes t (σ ++ π)) s (base + offset classes t (σ ++ π)) step.1 (parts-zeroed t base π σ step.0 z))
