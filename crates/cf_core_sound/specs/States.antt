-- When a moment of a run is sound: each object is of a proper type, each scalar holds a value of its type or none, and the frame's locals are
-- objects of the types that the function gives them.
use Rattle.std.specs.Prelude.{◌≡◌, ℕ, ◌<◌, ◌≤◌, true, List, [], ◌∷◌, Some, None, slice_get, length}
use Rattle.cf_base.specs.declared.kind.Kind.TheVariants.{Char}
use Rattle.cf_core.specs.Types.{SourceType, integer, array}
use Rattle.cf_core.specs.Core.{Static}
use Rattle.cf_core.specs.Places.{Route, type_at, is_scalar}
use Rattle.cf_core.specs.Store.{Value}
use Rattle.cf_core.specs.Run.{State, Literal}
use Rattle.cf_core.specs.Calls.{Program}
use Rattle.cf_core_sound.specs.Proper.{is_proper, shape}
use Rattle.cf_core_sound.specs.Values.{IsOf}

-- an object that was made, of this shape
pub record Stands (s : State) (t : SourceType) (o : ℕ) : Type 0 where
  pub below : o < s.next
  pub same : shape (s.object o).type ≡ shape t

abbrev pub char_array : SourceType
char_array = array (integer Char) 0

abbrev pub LiteralsStand : State → List Literal → Type 0
LiteralsStand s [] = Unit {0}
LiteralsStand s (x ∷ rest) = Stands s char_array x.object × LiteralsStand s rest

-- of a program, in a function with these parameters and locals
pub record Sound (P : Program) (locals : List SourceType) (s : State) : Type 0 where
  pub statics : (i : ℕ) (x : Static) → slice_get P.statics i ≡ Some x → (i < s.next) × ((s.object i).type ≡ x.type)
  pub proper : (o : ℕ) → o < s.next → is_proper (s.object o).type ≡ true
  pub holds : (o : ℕ) (π : Route) (v : Value) → o < s.next → is_scalar (type_at [] (s.object o).type π) ≡ true
      → (s.object o).held π ≡ Some v → IsOf P s (shape (type_at [] (s.object o).type π)) v
  pub literals : LiteralsStand s s.literals
  pub count : s.frame.count ≡ length locals
  pub result : s.frame.result ≡ None
  pub locals_stand : (i o : ℕ) (t : SourceType) → s.frame.locals i ≡ Some o → slice_get locals i ≡ Some t → Stands s t o

-- a later moment: what was made is there, with its type
pub record Later (s t : State) : Type 0 where
  pub next : s.next ≤ t.next
  pub types : (o : ℕ) → o < s.next → (t.object o).type ≡ (s.object o).type

-- a sound moment behind another one of the same function
pub record Behind (P : Program) (locals : List SourceType) (s t : State) : Type 0 where
  pub later : Later s t
  pub sound : Sound P locals t
