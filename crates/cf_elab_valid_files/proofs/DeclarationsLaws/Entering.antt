-- New names in the innermost scope that are none of a class (3.2, 9.2).
use Rattle.std.proofs.Common.{◌≡◌, ℕ, Bool, true, false, not, List, [], ◌∷◌, Option, Some, None, slice_get, is_some, refl, sym, ap, subst}
use Rattle.cf_types.specs.declared.ty.Ty.{Ty}
use Rattle.cf_elab.specs.Answer.{Answer, Made, Refused, Passed, Elab, onward, need}
use Rattle.cf_elab.specs.ClassScope.{in_class, open_class}
use Rattle.cf_elab.specs.Env.{Env, Name, Entity, OpenClass, class_name}
use Rattle.cf_elab_valid.specs.Answers.{Fine}
use Rattle.cf_elab_valid.specs.Scene.{Scene, Steps, Within, EntityFits, TypeFits, Classless, Holds}
use Rattle.cf_elab_valid.proofs.FitRows.{Still}
use Rattle.cf_elab_valid.proofs.Making.{IsType}
use Rattle.cf_elab_valid.proofs.Ways.{begins-get, inside-later, made-fine, within-before, When}
use Rattle.cf_elab_valid_objects.proofs.Naming.{named, named-steps, named-classless, named-holds}

-- no class is open
pub in-no-class : (e : Env) → Classless e → in_class e ≡ false
in-no-class e c = ap (λ (l : List OpenClass). elim l as (λ _. Bool) [ [] ↦ false | o ∷ rest ↦ true ]) c.none_open

pub no-open-class : (e : Env) → Classless e → open_class e ≡ None
no-open-class e c = ap (λ (l : List OpenClass). elim l as (λ _. Option ℕ) [ [] ↦ None | o ∷ rest ↦ Some o.class ]) c.none_open

pub type-later : (v : Ty) (t : ℕ) (a b : Env) → Steps a b → IsType v t a → IsType v t b
type-later v t a b g f = record { inside = inside-later a b t g f.inside; here = begins-get a.types.types b.types.types t v g.types f.here }

pub named-fine : {A : Type 0} (s : Scene) (P : A → Env → Type 0) (a : A) (name : Name) (x : Entity) (e : Env) → ((k : ℕ) → x ≡ class_name k → ⊥) → Classless e → When s e (Holds s e) → When s e (EntityFits s e x) → When s e (TypeFits e x)
    → When s e (P a (named name x e)) → Fine s P e (Made a (named name x e))
named-fine s P a name x e plain c h fit type p = record {
  steps = named-steps name x e;
  classless = named-classless name x e plain c;
  holds = λ w. let early = within-before e (named name x e) s (named-steps name x e) w in named-holds s name x e (fit early) (type early) (h early);
  made = λ w. p (within-before e (named name x e) s (named-steps name x e) w);
}

-- one check after another
pub still-then : {A B : Type 0} (e : Env) (r : Answer A) (go : Env → Answer B) → Still e r → Still e (go e) → Still e (onward r (λ _. go))
still-then e (Made a b) go h next = subst (λ f. Still e (go f)) (sym h) next
still-then e (Refused rule at) go h next = tt
still-then e (Passed bound most) go h next = tt

-- a check alone
pub still-alone : (s : Scene) (e : Env) (r : Answer (Unit {0})) → Still e r → Classless e → When s e (Holds s e) → Fine s (λ u f. Unit {0}) e r
still-alone s e (Made u f) is c h = subst (λ x. Fine s (λ u f. Unit {0}) e (Made u x)) (sym is) (made-fine s (λ u f. Unit {0}) e u c h (λ w. tt))
still-alone s e (Refused rule at) is c h = tt
still-alone s e (Passed bound most) is c h = tt
