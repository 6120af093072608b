-- What setting static objects with constants does in both programs.
use Rattle.std.specs.Prelude.{◌≡◌, ℕ, ◌≤◌, ◌<◌, true, List, [], Some}
use Rattle.cf_core.specs.Types.{Name, SourceType}
use Rattle.cf_base.specs.World.{Ran, Went, Stops}
use Rattle.cf_core.specs.Core.{Function}
use Rattle.cf_core.specs.Places.{Route, type_at}
use Rattle.cf_core.specs.Run.{State, Did, Gives, Exits, Malformed}
use Rattle.cf_core.specs.Calls.{Program, is_library, function_named}
use Rattle.cf_core.specs.Objects.{static_number, static_type}
use Rattle.cf_core.specs.Size.{size}
use Rattle.cf_core.specs.Store.{zero_of}
use Rattle.cc_whole_memory.specs.Blocks.{Memory}
use Rattle.cc_whole_mean.specs.declared.named.Named.TheVariants as meant
use Rattle.cc_whole_mean.specs.declared.named.Shape.{Shape}
use Rattle.cc_whole_mean.specs.Flow as c
use Rattle.cc_whole_mean.specs.Scope.{Scope}
use Rattle.cf_lower_layout.specs.Layout.{offset, leads}
use Rattle.cf_lower_layout.specs.Sorts.{Sort, sort_of}
use Rattle.cf_lower.specs.Written.{literal_name}
use Rattle.cf_lower_place.specs.Named.{library_type}
use Rattle.cf_lower_relate.specs.Map.{Fixed, Map, is_shown}
use Rattle.cf_lower_relate.specs.Relation.{Rel}
use Rattle.cf_lower_steps.specs.Lowering.{is_function}
use Rattle.cf_lower_turns.specs.Texts.{Text, Texts, NoText, Free, TextsLaid, InTexts}
use Rattle.cf_lower_program.specs.Alike.{Part, clear_of}

-- a static object stands in the variable of its name
pub record NamedThere (P : Program) (F : Map) (names : Scope) (name : Name) (o : ℕ) : Type 0 where
  pub shape : Shape
  pub named : names name ≡ Some (meant.Variable (F.block o) shape)
  pub known : o < F.count
  pub type : F.type o ≡ static_type P name
  pub shown : is_shown (F.stage o) ≡ true
  pub base : F.base o ≡ 0

-- Static objects stand in the variables of their names, functions are those of theirs, and each function has the type that is told of it. There is no class.
pub record NamesStand (P : Program) (function : Name → ℕ) (signature : Name → SourceType) (F : Map) (names : Scope) : Type 0 where
  pub none : P.classes ≡ []
  pub statics : (name : Name) (o : ℕ) → static_number P name ≡ Some o → NamedThere P F names name o
  pub functions : (name : Name) → is_function P name ≡ true → names name ≡ Some (meant.Function (function name))
  pub typed : (name : Name) (f : Function) → function_named P name ≡ Some f → signature name ≡ f.type
  pub library : (name : Name) → is_library name ≡ true → signature name ≡ library_type name

-- the object that an initialiser sets, in the variable of its name
pub record OwnObject (F : Map) (names : Scope) (r : Name → Name) (name : Name) (o : ℕ) : Type 0 where
  pub shape : Shape
  pub named : names (r name) ≡ Some (meant.Variable (F.block o) shape)
  pub known : o < F.count
  pub shown : is_shown (F.stage o) ≡ true

-- A literal of these bytes, which the source has by a number of the function `g` and the C by one of `f`, stands in the variable of its name.
pub record LiteralThere (texts : Texts) (names : Scope) (r : Name → Name) (f g : Name) (j : ℕ) (b : List ℕ) : Type 0 where
  pub text : Text
  pub is : texts g j ≡ Some text
  pub bytes : text.bytes ≡ b
  pub shape : Shape
  pub named : names (r (literal_name f j)) ≡ Some (meant.Variable text.block shape)

-- Objects and literals stand in the memory: none is an argument's, and none has ended.
pub record Standing (K : Fixed) (texts : Texts) (F : Map) (s : State) (m : Memory) : Type 0 where
  pub rel : Rel K F s m
  pub shown : (o : ℕ) → o < F.count → is_shown (F.stage o) ≡ true
  pub laid : TextsLaid K texts m.next
  pub literals : InTexts K texts F s m

-- Each scalar of an object of this type is 0 or null of which no byte is in these parts.
abbrev pub Clear : SourceType → List Part → ℕ → State → Type 0
Clear t parts o s =
    (π : Route) (u : Sort) → leads [] t π ≡ true → sort_of (type_at [] t π) ≡ Some u → clear_of (offset [] t π) (size [] (type_at [] t π)) parts ≡ true
    → (s.object o).held π ≡ Some (zero_of (type_at [] t π))

-- Nothing but what objects hold has changed, and what is reached.
pub record Since (K : Fixed) (F : Map) (s : State) (m : Memory) (t : State) (n : Memory) : Type 0 where
  pub rel : Rel K F t n
  pub next : n.next ≡ m.next
  pub elsewhere : (b : ℕ) → Free F b → n.block b ≡ m.block b
  pub frame : t.frame ≡ s.frame
  pub literals : t.literals ≡ s.literals
  pub finished : t.finished ≡ s.finished

-- A map with more objects, which are those of literals: objects stay where they are, and blocks of no literal that are free stay so.
pub record Wider (texts : Texts) (F G : Map) : Type 0 where
  pub count : F.count ≤ G.count
  pub block : (o : ℕ) → o < F.count → G.block o ≡ F.block o
  pub base : (o : ℕ) → o < F.count → G.base o ≡ F.base o
  pub type : (o : ℕ) → o < F.count → G.type o ≡ F.type o
  pub stage : (o : ℕ) → o < F.count → G.stage o ≡ F.stage o
  pub free : (b : ℕ) → NoText texts b → Free F b → Free G b

-- Nothing has changed but what objects hold, what is reached, and which literals have objects.
pub record Later (K : Fixed) (texts : Texts) (F : Map) (s : State) (m : Memory) (G : Map) (t : State) (n : Memory) : Type 0 where
  pub wider : Wider texts F G
  pub standing : Standing K texts G t n
  pub next : n.next ≡ m.next
  pub elsewhere : (b : ℕ) → Free G b → n.block b ≡ m.block b
  pub depth : t.frame.depth ≡ s.frame.depth
  pub finished : t.finished ≡ s.finished

-- and the C has fallen through
pub record SetAs (K : Fixed) (texts : Texts) (F : Map) (s : State) (m : Memory) (t : State) (flow : c.Flow) : Type 0 where
  pub after : c.State
  pub is : flow ≡ c.Falls after
  pub map : Map
  pub later : Later K texts F s m map t after.memory

-- `exit` was not called
abbrev pub NoExitFrom : {A : Type 0} → Ran (Did A) → Type 0
NoExitFrom (Went (Gives a s) w) = Unit {0}
NoExitFrom (Went (Exits z s) w) = ⊥
NoExitFrom (Went Malformed w) = Unit {0}
NoExitFrom (Stops end trace) = Unit {0}

pub record NoExit {A : Type 0} (x : Ran (Did A)) : Type 0 where
  pub by : NoExitFrom x
