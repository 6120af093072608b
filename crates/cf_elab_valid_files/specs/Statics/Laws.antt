-- What elaboration makes of objects with linkage, of static objects, and of arrays whose initialiser gives the bound.
use Rattle.std.specs.Prelude.{◌≡◌, ℕ, Bool, false, List, [], Option, Some}
use Rattle.cf_core.specs.Types.{is_void}
use Rattle.cf_elab.specs.Answer.{Elab}
use Rattle.cf_elab.specs.Env.{Env, Name}
use Rattle.cf_elab.specs.Declaration.{Initial, bound_given}
use Rattle.cf_elab.specs.Objects.{Says, Written, declare_linked, define_in_file, define_in_function}
use Rattle.cf_elab_valid.specs.Answers.{Fine}
use Rattle.cf_elab_valid.specs.Scene.{Scene, IsScene, tree, OwnerThere, Within, Inside, Classless, Holds}
use Rattle.cf_elab_valid_objects.specs.Declared.{AllReached, AreInitial}
use Rattle.cf_elab_valid_objects.specs.Starts.{NoVoidElements}
use Rattle.cf_elab_valid_files.specs.Statics.Fixed.{AreParts}
use Rattle.cf_elab_valid_files.specs.Statics.Linked.{StandsFor}

pub record StaticsFit (s : Scene) : Type 0 where
  pub linked : (d : Says) (e : Env) → Classless e → (Within e s → Holds s e) → (Within e s → Inside e d.type) → (Within e s → is_void (tree s d.type) ≡ false)
      → Fine s (λ x f. StandsFor d.name d.type f) e (declare_linked d e)
  -- outside of functions
  pub in_file : s.locals ≡ [] → (d : Says) (parts : Elab (Option Written)) (e : Env) → AreInitial s e parts → Classless e → (Within e s → Holds s e)
      → (Within e s → Inside e d.type) → (Within e s → is_void (tree s d.type) ≡ false) → Fine s (λ u f. Unit {0}) e (define_in_file d parts e)
  -- in a function of the file
  pub in_function : (parameters : ℕ) (is_main : Bool) (at : ℕ) (name : Name) (t : ℕ) (parts : Elab (Option Written)) (e : Env) → AreParts s e parts → OwnerThere s (Some e.hand.link)
      → Classless e → (Within e s → Holds s e) → (Within e s → Inside e t) → (Within e s → is_void (tree s t) ≡ false)
      → Fine s (λ rs f. AllReached s parameters is_main rs) e (define_in_function at name t parts e)
  -- an array of elements of this type, whose initialiser gives the bound
  pub unbounded : (at u : ℕ) (w : Option Initial) (e : Env) → Classless e → (Within e s → Holds s e) → Fine s (λ t f. Inside f t) e (bound_given at u w e)

abbrev pub StaticsAreValid : Type 0
StaticsAreValid = (s : Scene) → IsScene s → NoVoidElements s.tables → StaticsFit s
