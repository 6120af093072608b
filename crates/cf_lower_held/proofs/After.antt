-- What statements leave in registers does not depend on the kinds of integers there.
use Rattle.std.proofs.Common.{◌≡◌, ◌==◌, Bool, true, false, if◌then◌else◌, refl, sym, ap, ◌∙◌}
use Rattle.cf_plain.specs.Plain.{Register, Action, Plain, Plains, act, set, branch, loop, switch, case_label, default_label, leave, continue, give, parts, nothing, more}
use Rattle.cf_lower.specs.Kept.{Kept, unknown, Keeping, Locals, keep, common, both_kept, kept_by, untouched, after, after_all, all_set}
use Rattle.cf_lower_held.specs.Holds.{erased, erasing}
use Rattle.cf_lower_held.proofs.Erased.{erased_twice, kept_by_erased, both_erased}

pub erasing_twice : (g : Keeping) → erasing (erasing g) ≡ erasing g
erasing_twice g = λ j r. erased_twice (g r) j

-- what is the same for registers without kinds is so for any two that differ in kinds alone
pub alike : {T : Type 0} (P : Keeping → T) → ((g : Keeping) → P (erasing g) ≡ P g) → (g h : Keeping) → erasing g ≡ erasing h → P g ≡ P h
alike P same g h e = sym (same g) ∙ ap P e ∙ same h

module _ (locals : Locals) where
  if_erased : (b : Bool) (x y x' y' : Kept) → erased x ≡ erased x' → erased y ≡ erased y' → erased (if b then x else y) ≡ erased (if b then x' else y')
  if_erased true x y x' y' p q = p
  if_erased false x y x' y' p q = q

  kept_after : (g : Keeping) (r : Register) (a : Action) → erasing (keep (erasing g) r (kept_by locals (erasing g) a)) ≡ erasing (keep g r (kept_by locals g a))
  kept_after g r a = λ j q. if_erased (q == r) _ _ _ _ (kept_by_erased locals g a) (erased_twice (g q)) j

  pub untouched_erased : (ss : Plains) (g : Keeping) → erasing (untouched locals (erasing g) ss) ≡ erasing (untouched locals g ss)
  untouched_erased ss g = λ j q. if_erased (all_set locals q ss) unknown (erased (g q)) unknown (g q) refl (erased_twice (g q)) j

  pub untouched_twice : (ss ts : Plains) (g : Keeping) → erasing (untouched locals (untouched locals (erasing g) ss) ts) ≡ erasing (untouched locals (untouched locals g ss) ts)
  untouched_twice ss ts g =
      λ j q. if_erased (all_set locals q ts) unknown (if all_set locals q ss then unknown else erased (g q)) unknown (if all_set locals q ss then unknown else g q) refl
      (if_erased (all_set locals q ss) unknown (erased (g q)) unknown (g q) refl (erased_twice (g q))) j

  common_same : (f g f' g' : Keeping) → erasing f ≡ erasing f' → erasing g ≡ erasing g' → erasing (common f g) ≡ erasing (common f' g')
  common_same f g f' g' p q =
      (λ j r. sym (both_erased (f r) (g r)) j) ∙ ap (λ h. λ r. erased (both_kept (h r) (erasing g r))) p ∙ ap (λ h. λ r. erased (both_kept (erasing f' r) (h r))) q
      ∙ (λ j r. both_erased (f' r) (g' r) j)

  mutual
    pub after_erased : (s : Plain) (g : Keeping) → erasing (after locals s (erasing g)) ≡ erasing (after locals s g)
    after_erased (act a) g = erasing_twice g
    after_erased (set r a) g = kept_after g r a
    after_erased (branch r ss ts) g = common_same _ _ _ _ (after_all_erased ss g) (after_all_erased ts g)
    after_erased (loop ss ts) g = untouched_twice ss ts g
    after_erased (switch r ss) g = untouched_erased ss g
    after_erased (case_label z) g = erasing_twice g
    after_erased default_label g = erasing_twice g
    after_erased leave g = erasing_twice g
    after_erased continue g = erasing_twice g
    after_erased (give r) g = erasing_twice g
    after_erased (parts ps) g = refl

    pub after_all_erased : (ss : Plains) (g : Keeping) → erasing (after_all locals ss (erasing g)) ≡ erasing (after_all locals ss g)
    after_all_erased nothing g = erasing_twice g
    after_all_erased (more s ss) g =
        alike (λ h. erasing (after_all locals ss h)) (after_all_erased ss) (after locals s (erasing g)) (after locals s g) (after_erased s g)
