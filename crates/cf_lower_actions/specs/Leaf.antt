-- Which statements are leaves that their C does alike, in a function of both programs, by what registers hold before them; and what has to be so of the source's objects.
use Rattle.std.specs.Prelude.{◌≡◌, ℕ, Bool, true, false, ◌&&◌, ◌||◌, not, List, [], Option, Some, None, bytes_eq}
use Rattle.cf_base.specs.World.{World}
use Rattle.cf_core.specs.Types.{Name, SourceType, type_eq, without_const}
use Rattle.cf_core.specs.Classes.{Class}
use Rattle.cf_core.specs.Places.{Place}
use Rattle.cf_core.specs.Store as source
use Rattle.cf_core.specs.Run.{State}
use Rattle.cf_core.specs.Calls.{is_library}
use Rattle.cf_lower_layout.specs.Layout.{leads}
use Rattle.cf_plain.specs.Plain as plain
use Rattle.cf_plain.specs.Plain.{Register, Action, Plain, act, set}
use Rattle.cf_plain.specs.Acts.{Registers}
use Rattle.cf_plain.specs.Running.{does}
use Rattle.cc_whole_mean.specs.Flow as c
use Rattle.cf_lower.specs.Kept.{Kept, argument, Keeping, after}
use Rattle.cf_lower.specs.Statements.{lowered}
use Rattle.cf_lower_steps.specs.Flows.{Simulates}
use Rattle.cf_lower_steps.specs.Lowering.{is_function}
use Rattle.cf_lower_turns.specs.Around.{Around, depth_of, inside_at}
use Rattle.cf_lower_turns.specs.Here.{Here}
use Rattle.cf_lower_turns.specs.Texts.{Text}
use Rattle.cf_lower_turns.specs.Ways.{ends}
use Rattle.cf_lower_turns.specs.Scene.{Scene, GivesBack, fixed_in, again_at, list_at}
use Rattle.cf_lower_place.specs.View.{View}
use Rattle.cf_lower_place.specs.Leaf as place
pub use Rattle.cf_lower_place.specs.Leaf.{are_chars, const_on_none, gives_nothing, have_order, is_address, is_integer, is_laid, is_local, is_object_local, is_object_type, is_own, is_pointer, is_promoted, is_promoted_change, is_reference_local, is_scalars_place, is_tested, may_add, may_change, may_convert, may_first, may_give, may_hold, may_move, may_operate, may_store, may_subtract, may_zero}

-- ---- what names and literals stand for

-- a function of the program, or one of the library's of its type
abbrev pub names_function : Scene → Name → SourceType → Bool
names_function z name t = is_function z.program name && (not (is_library name) || type_eq (without_const (z.signature name)) (without_const t))

-- a literal of the function with these bytes
abbrev pub is_text : Option Text → List ℕ → Bool
is_text None bytes = false
is_text (Some x) bytes = bytes_eq x.bytes bytes

abbrev pub view_of : Scene → View
view_of z = record {
  locals = z.body.own.locals;
  bound = z.body.own.bound;
  result = z.result;
  classes = z.program.classes;
  texts = λ j bytes. is_text (z.body.texts z.inside.function j) bytes;
  names = λ name t. names_function z name t;
}

-- ---- statements

abbrev pub may_begin : Scene → ℕ → SourceType → Bool
may_begin z i t = place.may_begin (view_of z) i t

-- actions that give a value and change nothing
abbrev pub gives_value : Scene → Keeping → Action → Bool
gives_value z p a = place.gives_value (view_of z) p a

-- what is set, by an action that gives a value or nothing, or makes an object
abbrev pub may_set : Scene → Keeping → Action → Bool
may_set z p a = place.may_set (view_of z) p a

abbrev pub may_do : Scene → Keeping → Action → Bool
may_do z p a = place.may_do (view_of z) p a

-- the statements that are leaves
abbrev pub is_leaf : Scene → Keeping → Plain → Bool
is_leaf z p s = place.is_leaf (view_of z) p s

-- ---- what is so of the source before them

-- no object of a local stands
abbrev pub IsOver : State → ℕ → Type 0
IsOver s i = (o : ℕ) → s.frame.locals i ≡ Some o → (s.object o).is_gone ≡ true

-- the place in a register is a part of an object that stands
abbrev pub IsThere : List Class → Registers → State → Register → Type 0
IsThere classes g s r = (p : Place) → g r ≡ Some (source.At p) → ((s.object p.object).is_gone ≡ false) × (leads classes (s.object p.object).type p.route ≡ true)

-- the place in a register is the object of a local, which stands
abbrev pub IsLocals : Registers → State → Register → ℕ → Type 0
IsLocals g s r i =
    (p : Place) → g r ≡ Some (source.At p) → (p.route ≡ []) × ((s.frame.locals i ≡ Some p.object) × ((s.object p.object).is_gone ≡ false))

abbrev pub FirstThere : List Class → Kept → Registers → State → Register → Type 0
FirstThere classes (argument i t) g s r = IsLocals g s r i
FirstThere classes x g s r = IsThere classes g s r

abbrev pub DoneBefore : Scene → Keeping → Action → Registers → State → Type 0
DoneBefore z p (plain.text j bytes) g s = s.frame.function ≡ z.inside.function
DoneBefore z p (plain.declare i t) g s = IsOver s i
DoneBefore z p (plain.first r q) g s = FirstThere z.program.classes (p r) g s r
DoneBefore z p (plain.zeros r) g s = IsThere z.program.classes g s r
DoneBefore z p (plain.bytes r b) g s = IsThere z.program.classes g s r
DoneBefore z p a g s = Unit {0}

-- a literal is the function's whose frame it is, a local begins where no object of it stands, and a first value is stored in an object that does
abbrev pub Before : Scene → Keeping → Plain → Registers → State → Type 0
Before z p (set r a) g s = DoneBefore z p a g s
Before z p (act a) g s = DoneBefore z p a g s
Before z p st g s = Unit {0}

-- the statement and its C do the same, at this bound of ticks
abbrev pub AlikeAt : Scene → Around Keeping → Keeping → Plain → ℕ → Registers → State → c.State → World → Type 0
AlikeAt z around p st n g s t w =
    Simulates (ends Keeping z.body.scope (Here (fixed_in z) z.body) (GivesBack (fixed_in z) z.body z.result) around (after z.inside.locals st p))
    (does (again_at z n) z.program st g s w) (list_at z n (lowered st (inside_at z.inside around) p) t w)

-- at every bound
abbrev pub RunsAlike : Scene → Around Keeping → Keeping → Plain → Type 0
RunsAlike z around p st =
    (n : ℕ) (g : Registers) (s : State) (t : c.State) (w : World) → Here (fixed_in z) z.body p (depth_of around) g s t → Before z p st g s
    → AlikeAt z around p st n g s t w
