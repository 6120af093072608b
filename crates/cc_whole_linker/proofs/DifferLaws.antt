-- Shared definitions that differ, item by item.
use Rattle.std.proofs.Common.{◌≡◌, ◌↔◌, ◌∙◌, ℕ, zero, suc, ◌<◌, Bool, true, false, ◌&&◌, ◌⊎◌, inl, inr, IsTrue, not, List, [], ◌∷◌, length, get_or, refl, sym, subst, arith}
use Rattle.cc_whole_link.specs.Link.{Differs}
use Rattle.cc_whole_link.specs.Placed.{Placed, defines_named, its_name, is_shared}
use Rattle.cc_whole_linker.specs.Rules.{DiffersFrom}

pub no-truth : IsTrue false → ⊥
no-truth x = cc

module _ (i other : Placed) where
  pub differs_where : (same : Bool) → defines_named (its_name i) other ≡ true → (is_shared i && is_shared other) ≡ true → IsTrue same ↔ (i.was ≡ other.was)
      → IsTrue (not same) ↔ DiffersFrom i other
  differs_where true e h g = ((λ x. absurd (no-truth x)), (λ d. absurd (d.differ (g.0 refl))))
  differs_where false e h g = ((λ x. record { same_name = e; both_shared = h; differ = λ s. no-truth (g.1 s) }), (λ d. refl))

  pub no_other_name : defines_named (its_name i) other ≡ false → IsTrue false ↔ DiffersFrom i other
  no_other_name e = ((λ x. absurd (no-truth x)), (λ d. absurd (no-truth (sym e ∙ d.same_name))))

  pub not_shared : (is_shared i && is_shared other) ≡ false → IsTrue false ↔ DiffersFrom i other
  not_shared e = ((λ x. absurd (no-truth x)), (λ d. absurd (no-truth (sym e ∙ d.both_shared))))

pub ruleset differs_from_laws = (differs_where, no_other_name, not_shared)

-- ---- a list of items before it, from its front

module _ (p x : Placed) (xs : List Placed) where
  pub differs_here : DiffersFrom p x → Differs (x ∷ xs) p
  differs_here d = record {
    other = x;
    stands = (zero, omega arith, refl);
    same_name = d.same_name;
    both_shared = d.both_shared;
    differ = d.differ;
  }

  pub differs_behind : Differs xs p → Differs (x ∷ xs) p
  differs_behind d = record {
    other = d.other;
    stands = (suc d.stands.0, omega (arith, d.stands.1), d.stands.2);
    same_name = d.same_name;
    both_shared = d.both_shared;
    differ = d.differ;
  }

  pub differs_either : Differs (x ∷ xs) p → DiffersFrom p x ⊎ Differs xs p
  differs_either d = at d.stands.0 d.stands.1 d.stands.2
    where
      at : (k : ℕ) → k < length (x ∷ xs) → get_or (x ∷ xs) k d.other ≡ d.other → DiffersFrom p x ⊎ Differs xs p
      at zero within is = inl (subst (DiffersFrom p) (sym is) (record { same_name = d.same_name; both_shared = d.both_shared; differ = d.differ }))
      at (suc k) within is = inr (record {
        other = d.other;
        stands = (k, omega (arith, within), is);
        same_name = d.same_name;
        both_shared = d.both_shared;
        differ = d.differ;
      })

pub differs_nowhere : (p : Placed) → Differs [] p → ⊥
differs_nowhere p d = omega (arith, d.stands.1)
