-- What plain definitions tell of registers is the same where functions and objects have other names.
use Rattle.std.proofs.Common.{◌≡◌, Bool, false, ◌&&◌, ◌||◌, if◌then◌else◌, List, refl, ◌∙◌, ap}
use Rattle.std.specs.Prelude.{Option, Some, None, is_some}
use Rattle.std.proofs.Math.Path.{fun_ext}
use Rattle.cf_core.specs.Types.{Name, SourceType}
use Rattle.cf_plain.specs.Plain.{Register, Action, call, Plain, Plains, act, set, branch, loop, switch, nothing, more}
use Rattle.cf_plain.specs.Joined.{renamed_action, renamed, renamed_all}
use Rattle.cf_plain_kept.specs.Kept.{Keeping, nothing_set, keep, sets, all_set, untouched, integer_in, kept_by, joined, after, after_all}
use Rattle.cf_lower_kept.specs.Ready.{action_ready, ready, all_ready}

elim-same : (F G : Keeping → Option Keeping) → ((h : Keeping) → F h ≡ G h) → (o : Option Keeping)
    → ◌≡◌ {A = Option Keeping} (elim o [ None ↦ None | Some h ↦ F h ]) (elim o [ None ↦ None | Some h ↦ G h ])
elim-same F G same None = refl
elim-same F G same (Some h) = same h

tests-same : (F G : Keeping → Bool) → ((h : Keeping) → F h ≡ G h) → (o : Option Keeping)
    → ◌≡◌ {A = Bool} (elim o [ None ↦ false | Some h ↦ F h ]) (elim o [ None ↦ false | Some h ↦ G h ])
tests-same F G same None = refl
tests-same F G same (Some h) = same h

module _ (r : Name → Name) where
  mutual
    sets-same : (q : Register) (s : Plain) → sets q (renamed r s) ≡ sets q s
    sets-same q (branch p ss ts) = ap (λ b. b || all_set q (renamed_all r ts)) (all-set-same q ss) ∙ ap (λ b. all_set q ss || b) (all-set-same q ts)
    sets-same q (loop ss ts) = ap (λ b. b || all_set q (renamed_all r ts)) (all-set-same q ss) ∙ ap (λ b. all_set q ss || b) (all-set-same q ts)
    sets-same q (switch p ss) = all-set-same q ss
    sets-same q s = refl

    all-set-same : (q : Register) (ss : Plains) → all_set q (renamed_all r ss) ≡ all_set q ss
    all-set-same q nothing = refl
    all-set-same q (more s ss) = ap (λ b. b || all_set q (renamed_all r ss)) (sets-same q s) ∙ ap (λ b. sets q s || b) (all-set-same q ss)

  untouched-same : (g : Keeping) (ss : Plains) → untouched g (renamed_all r ss) ≡ untouched g ss
  untouched-same g ss = fun_ext (λ q. ap (λ b. if b then None else g q) (all-set-same q ss))

  module _ (T : List SourceType) (R : SourceType) where
    kept-same : (g : Keeping) (a : Action) → kept_by T R g (renamed_action r a) ≡ kept_by T R g a
    kept-same g (call f t None is None) = refl
    kept-same g a = refl

    mutual
      pub after-same : (s : Plain) (g : Keeping) → after T R (renamed r s) g ≡ after T R s g
      after-same (act a) g = ap (λ o. elim o [ None ↦ None | Some x ↦ Some g ]) (kept-same g a)
      after-same (set q a) g = ap (λ o. elim o [ None ↦ None | Some x ↦ Some (keep g q x) ]) (kept-same g a)
      after-same (branch q ss ts) g =
          ap (λ o. if integer_in (g q) then joined T R o (after_all T R (renamed_all r ts) g) else None) (all-after-same ss g)
          ∙ ap (λ o. if integer_in (g q) then joined T R (after_all T R ss g) o else None) (all-after-same ts g)
      after-same (loop ss ts) g =
          ap (λ o. if is_some o && is_some (after_all T R (renamed_all r ts) nothing_set) then Some nothing_set else None) (all-after-same ss nothing_set)
          ∙ ap (λ o. if is_some (after_all T R ss nothing_set) && is_some o then Some nothing_set else None) (all-after-same ts nothing_set)
      after-same (switch q ss) g =
          ap (λ o. if integer_in (g q) && is_some o then Some (untouched g (renamed_all r ss)) else None) (all-after-same ss nothing_set)
          ∙ ap (λ (k : Keeping). if integer_in (g q) && is_some (after_all T R ss nothing_set) then Some k else None) (untouched-same g ss)
      after-same s g = refl

      pub all-after-same : (ss : Plains) (g : Keeping) → after_all T R (renamed_all r ss) g ≡ after_all T R ss g
      all-after-same nothing g = refl
      all-after-same (more s ss) g =
          ap (λ o. elim o [ None ↦ None | Some h ↦ after_all T R (renamed_all r ss) h ]) (after-same s g)
          ∙ elim-same (λ h. after_all T R (renamed_all r ss) h) (λ h. after_all T R ss h) (λ h. all-after-same ss h) (after T R s g)

    -- ---- what lowering asks beyond

    action-ready-same : (g : Keeping) (a : Action) → action_ready T R g (renamed_action r a) ≡ action_ready T R g a
    action-ready-same g (call f t object is into) = refl
    action-ready-same g a = refl

    mutual
      ready-same : (s : Plain) (g : Keeping) → ready T R (renamed r s) g ≡ ready T R s g
      ready-same (act a) g = action-ready-same g a
      ready-same (set q a) g = action-ready-same g a
      ready-same (branch q ss ts) g =
          ap (λ b. b && all_ready T R (renamed_all r ts) g) (all-ready-same ss g) ∙ ap (λ b. all_ready T R ss g && b) (all-ready-same ts g)
      ready-same (loop ss ts) g =
          ap (λ b. b && all_ready T R (renamed_all r ts) nothing_set) (all-ready-same ss nothing_set)
          ∙ ap (λ b. all_ready T R ss nothing_set && b) (all-ready-same ts nothing_set)
      ready-same (switch q ss) g = all-ready-same ss nothing_set
      ready-same s g = refl

      pub all-ready-same : (ss : Plains) (g : Keeping) → all_ready T R (renamed_all r ss) g ≡ all_ready T R ss g
      all-ready-same nothing g = refl
      all-ready-same (more s ss) g =
          ap (λ b. b && elim (after T R (renamed r s) g) [ None ↦ false | Some h ↦ all_ready T R (renamed_all r ss) h ]) (ready-same s g)
          ∙ ap (λ o. ready T R s g && elim o [ None ↦ false | Some h ↦ all_ready T R (renamed_all r ss) h ]) (after-same s g)
          ∙ ap (λ b. ready T R s g && b)
          (tests-same (λ h. all_ready T R (renamed_all r ss) h) (λ h. all_ready T R ss h) (λ h. all-ready-same ss h) (after T R s g))
