-- The form of a node does not depend on the names of functions and objects.
use Rattle.std.proofs.Common.{◌≡◌, List, refl, ap, ap₂, ◌∙◌}
use Rattle.cf_core.specs.Types.{Name, SourceType}
use Rattle.cf_core.specs.Core as core
use Rattle.cf_core.specs.Core.{Core, Cores, none}
use Rattle.cf_core.specs.Joined.{renamed, renamed_all}
use Rattle.cf_core_sound.specs.Forms.{Form, other, points, place_if, loaded, addressed, decayed, or_that, moved_by, stepped_form, form, last_form}

module _ (r : Name → Name) (locals : List SourceType) where
  mutual
    pub same-form : (e : Core) → form locals (renamed r e) ≡ form locals e
    same-form (core.read e) = ap loaded (same-form e)
    same-form (core.address e) = ap addressed (same-form e)
    same-form (core.dereference e) = ap (λ x. place_if (points x)) (same-form e)
    same-form (core.decay e) = ap decayed (same-form e)
    same-form (core.index a b) = ap₂ (λ x y. place_if (points (or_that x y))) (same-form a) (same-form b)
    same-form (core.pointer_operate op a b) = ap₂ (moved_by op) (same-form a) (same-form b)
    same-form (core.conditional c a b) = ap₂ or_that (same-form a) (same-form b)
    same-form (core.comma es) = same-last other es
    same-form (core.store a b) = same-form a
    same-form (core.update a change b) = same-form a
    same-form (core.step is_postfix change e) = ap (stepped_form is_postfix) (same-form e)
    same-form e = refl

    same-last : (x : Form) (es : Cores) → last_form locals x (renamed_all r es) ≡ last_form locals x es
    same-last x none = refl
    same-last x (core.more e es) = ap (λ y. last_form locals y (renamed_all r es)) (same-form e) ∙ same-last (form locals e) es
