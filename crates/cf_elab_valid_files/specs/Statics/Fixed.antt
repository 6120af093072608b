-- Initialisers that are constant name no local of the function in which they stand (6.7, 8.4).
use Rattle.std.specs.Prelude.{◌≡◌, ℕ, true, false, Option, Some}
use Rattle.cf_core.specs.Typed.{typing}
use Rattle.cf_core.specs.Types.{SourceType, is_void}
use Rattle.cf_elab.specs.Answer.{Answer, Made, Refused, Passed, Elab}
use Rattle.cf_elab.specs.Env.{Env, Name}
use Rattle.cf_elab.specs.Initial.{Start}
use Rattle.cf_elab.specs.Objects.{Written, static_keeper, start_or_none}
use Rattle.cf_elab_valid.specs.Scene.{Scene, tree, core, typed, file_scope, OwnerThere, Within, Steps, Inside, Classless, Holds}
use Rattle.cf_elab_valid_objects.specs.Declared.{AreInitial}
use Rattle.cf_elab_valid_objects.specs.Starts.{MaybeFits}

-- what a constant starts it starts without the locals too
pub record IsApart (s : Scene) (x : Start) : Type 0 where
  pub apart : x.is_constant ≡ true → (t : SourceType) → (typed s x.node).start t ≡ true → (typing (file_scope s) (core s x.node)).start t ≡ true

abbrev pub ApartIn : Scene → Answer Start → Type 0
ApartIn s (Made x f) = Within f s → IsApart s x
ApartIn s (Refused rule at) = Unit {0}
ApartIn s (Passed bound most) = Unit {0}

-- parts of an initialiser of which static objects of a function are made, where they fit
pub record IsFixed (s : Scene) (w : Option Written) : Type 0 where
  pub starts : (e : Env) → Classless e → (Within e s → Holds s e) → (Within e s → MaybeFits s e w) → (reference owner : Name) → OwnerThere s (Some owner) → (place at t : ℕ)
      → (Within e s → Inside e t) → (Within e s → is_void (tree s t) ≡ false) → ApartIn s (start_or_none (static_keeper reference (Some owner) place) at t w e)

abbrev pub FixedIn : Scene → Answer (Option Written) → Type 0
FixedIn s (Made w f) = Within f s → IsFixed s w
FixedIn s (Refused rule at) = Unit {0}
FixedIn s (Passed bound most) = Unit {0}

-- the parts of an initialiser or of none, from here on
pub record AreParts (s : Scene) (begin : Env) (parts : Elab (Option Written)) : Type 0 where
  pub initial : AreInitial s begin parts
  pub fixed : (e : Env) → Steps begin e → Classless e → (Within e s → Holds s e) → FixedIn s (parts e)
