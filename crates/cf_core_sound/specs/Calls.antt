-- What the bodies of functions give back, where they are entered.
use Rattle.std.specs.Prelude.{◌≡◌, ◌⊎◌, true, false, List, [], ◌++◌, ℕ, Some, slice_get}
use Rattle.cf_core.specs.Types.{Name, SourceType, parameters, result}
use Rattle.cf_core.specs.Core.{Function, Static}
use Rattle.cf_core.specs.Store.{Value, Nothing, Missing}
use Rattle.cf_core.specs.Run.{State}
use Rattle.cf_core.specs.Calls.{Setting, Program, Flow, Falls, Breaks, Continues, Returns, body, Again, function_named}
use Rattle.cf_core.specs.Typing.{is_function}
use Rattle.cf_core_sound.specs.Proper.{is_proper, shape}
use Rattle.cf_core_sound.specs.Values.{IsOf}
use Rattle.cf_core_sound.specs.States.{Sound}
use Rattle.cf_core_sound.specs.Well.{Well}
use Rattle.cf_core_sound.specs.Simple.{is_chain}

-- what is returned by a function of this result: nothing, or a value of its type
abbrev pub IsGiven : Program → State → SourceType → Value → Type 0
IsGiven P s t v = (v ≡ Nothing) ⊎ ((v ≡ Missing) ⊎ IsOf P s (shape t) v)

-- how a body ends: it falls off its end, or returns
abbrev pub IsBack : Program → SourceType → Flow → State → Type 0
IsBack P t Falls s = Unit {0}
IsBack P t Breaks s = ⊥
IsBack P t Continues s = ⊥
IsBack P t (Returns v) s = IsGiven P s t v

-- the types of a function's parameters and locals
abbrev pub frame_types : Function → List SourceType
frame_types f = parameters f.type ++ f.locals

-- each body that is entered in a sound moment gives back what its function's type says
pub record Bodies (P : Program) (again : Again) : Type 0 where
  pub chain : (name : Name) (f : Function) → function_named P name ≡ Some f → is_chain f.type ≡ true
  pub by : (name : Name) (f : Function) → function_named P name ≡ Some f → (s : State) (os : List ℕ) → Sound P (frame_types f) s
      → Well P (frame_types f) s (IsBack P (result f.type)) (again (body f os))

-- what a function's names stand for: its parameters and locals and the static objects are objects of proper types
pub record Around (P : Program) (types : List SourceType) : Type 0 where
  pub locals : (i : ℕ) (t : SourceType) → slice_get types i ≡ Some t → (is_proper t ≡ true) × (is_function t ≡ false)
  pub statics : (i : ℕ) (x : Static) → slice_get P.statics i ≡ Some x → (is_proper x.type ≡ true) × (is_function x.type ≡ false)

-- a program without classes
abbrev pub classless : List Function → List Static → List Setting → List Function → Program
classless fs xs ks inits = record { classes = []; functions = fs; statics = xs; constants = ks; initialisers = inits }
