-- Parameters that are objects, and `(void)`.
use Rattle.std.proofs.Common.{None, ◌≡◌, Bool, true, false, not, if◌then◌else◌, List, [], ◌∷◌, length, refl, sym, ap, subst, ◌∙◌, arith}
use Rattle.std.proofs.lemmas.List.Elements.{All-cons}
use Rattle.cf_types.specs.Table.{Table}
use Rattle.cf_elab.specs.Answer.{Answer, Made, Refused, onward, need, gives, ◌>>◌}
use Rattle.cf_elab.specs.Declarator as declarator
use Rattle.cf_elab.specs.Env.{Env}
use Rattle.cf_elab.specs.Operand.{sort_of, is_void}
use Rattle.cf_elab.specs.Shape.{Parameter}
use Rattle.cf_elab_env.specs.Holds.{IsType}
use Rattle.cf_elab_shape.specs.Shapes.Holds.{IsParameter, AreObjects}
use Rattle.cf_elab_shape.specs.Shapes.Shut as shut

-- ---- one parameter

pub void_refused : (p : Parameter) (env : Env) → is_void (sort_of env.types p.type) ≡ true → shut.no_void p env ≡ Refused 26 (declarator.named_at p)
unfolding shut.no_void
void_refused p env h = ap (λ b. need (not b) 26 (declarator.named_at p) env) h

pub object_made : (p : Parameter) (env : Env) → is_void (sort_of env.types p.type) ≡ false → shut.no_void p env ≡ Made tt env
unfolding shut.no_void
object_made p env h = ap (λ b. need (not b) 26 (declarator.named_at p) env) h

pub object_is : (types : Table) (p : Parameter) → IsType types p.type → is_void (sort_of types p.type) ≡ false → p.default ≡ None → IsParameter types p
object_is types p typed object none = record { typed = typed; object = object; no_default = none }

-- ---- one alone

module _ (p : Parameter) (env : Env) where
  abbrev by_nothing : Bool → Answer (List Parameter)
  by_nothing b = (if b then gives [] else (declarator.no_void p >> gives (p ∷ []))) env

  pub lone_nothing : (ps : List Parameter) → declarator.is_nothing env p ≡ true → ps ≡ [] → shut.only_parameter p env ≡ Made ps env
  unfolding shut.only_parameter
  lone_nothing ps h is = ap by_nothing h ∙ ap (λ l. Made l env) (sym is)

  pub lone_object : declarator.is_nothing env p ≡ false → shut.only_parameter p env ≡ onward (shut.no_void p env) (λ _ e. Made (p ∷ []) e)
  unfolding shut.only_parameter shut.no_void
  lone_object h = ap by_nothing h

-- ---- what holds of them

pub no_objects : (types : Table) (ps : List Parameter) → ps ≡ [] → AreObjects types ps
no_objects types ps is = λ k d h. absurd (omega (arith, ap length is))

pub one_object : (types : Table) (ps : List Parameter) (p : Parameter) → ps ≡ p ∷ [] → IsParameter types p → AreObjects types ps
one_object types ps p is known = let P : List Parameter → Type 0 = AreObjects types in subst P (sym is) (All-cons (λ p. IsParameter types p) p [] known (no_objects types [] refl))

pub ruleset object_laws = (void_refused, object_made)

pub ruleset void_laws = (object_is)

pub ruleset only_laws = (lone_nothing, lone_object, no_objects, one_object)
