-- Between two statements of a function: what registers hold, which of its parameters and locals have an object that stands, and what is so of both programs.
use Rattle.std.specs.Prelude.{◌≡◌, ℕ, ◌+◌, ◌<◌, Bool, true, false, List, [], ◌∷◌, length, ℤ, Option, Some, None}
use Rattle.cf_core.specs.Types.{Name}
use Rattle.cf_core.specs.Places.{Route, type_at}
use Rattle.cf_core.specs.Pointers.{element_of, route_of}
use Rattle.cf_core.specs.Store as source
use Rattle.cf_core.specs.Run.{State}
use Rattle.cf_core.specs.Calls.{root}
use Rattle.cf_core.specs.Objects.{static_number}
use Rattle.cf_lower_layout.specs.Layout.{leads, const_once}
use Rattle.cf_plain.specs.Plain.{Register}
use Rattle.cf_plain.specs.Acts.{Registers}
use Rattle.cf_plain_frames.specs.Since.{HasValue}
use Rattle.cc_whole_mean.specs.Flow as c
use Rattle.cf_lower.specs.Kept.{Keeping}
use Rattle.cf_lower_kept.specs.Opened.{Opened, Counts, rows_of, is_open, flag_number}
use Rattle.cf_lower_turns.specs.Here.{Here}
use Rattle.cf_lower_turns.specs.Scene.{Scene, GivesBack, fixed_in}

-- ---- which locals stand

pub data Standing : Type 0 where
  never : Standing  -- control does not come here
  these : List Opened → Standing
  by_number : Register → (ℤ → Option (List Opened)) → Standing  -- by the number that a register holds, where a switch follows of which labels pass locals (6.7)

-- the object of one of so many parameters and locals stands
pub record Stands (count i : ℕ) (s : State) : Type 0 where
  pub below : i < count
  pub object : ℕ
  pub there : s.frame.locals i ≡ Some object
  pub stands : (s.object object).is_gone ≡ false

-- and a register has its place
pub record Begun (count i : ℕ) (r : Register) (g : Registers) (s : State) : Type 0 where
  pub one : Stands count i s
  pub place : g r ≡ Some (source.At (root one.object))

-- and it holds a value
pub record Valued (count i : ℕ) (s : State) : Type 0 where
  pub one : Stands count i s
  pub value : HasValue (s.object one.object)

-- so many elements further in the array (5.7)
abbrev pub moved_route : ℕ → Route → Route
moved_route k π = route_of (element_of π) ((element_of π).index + k)

-- and a register has a place in it: so many elements further an object stands, of as many elements in turn as are told
pub record Part (count i : ℕ) (r : Register) (k : ℕ) (ns : Counts) (g : Registers) (s : State) : Type 0 where
  pub one : Stands count i s
  pub route : Route
  pub place : g r ≡ Some (source.At (record { object = one.object; route = route }))
  pub inside : leads [] (s.object one.object).type (moved_route k route) ≡ true
  pub rows : rows_of (type_at [] (s.object one.object).type route) ≡ ns
  pub once : const_once (type_at [] (s.object one.object).type route) ≡ true

-- what is told of a place in it
abbrev pub Parts : ℕ → ℕ → Register → Counts → Registers → State → Type 0
Parts count i r [] g s = Unit {0}
Parts count i r (n ∷ ns) g s = (k : ℕ) → k < n → Part count i r k ns g s

-- one of so many parameters and locals whose object does not stand
abbrev pub IsOver : ℕ → ℕ → State → Type 0
IsOver count i s = (o : ℕ) → i < count → s.frame.locals i ≡ Some o → (s.object o).is_gone ≡ true

abbrev pub IsTold : Option Bool → Bool → Type 0
IsTold None b = Unit {0}
IsTold (Some a) b = a ≡ b

-- The object stands or not, as is told; the register that it was declared in has its place until the first value, and once it has one it holds a value; a flag of which that is told
-- tells whether it stands; registers have places in it as is told; and one holds the number that it was set to.
pub record IsOpen (count : ℕ) (x : Opened) (g : Registers) (s : State) : Type 0 where
  pub way : Bool  -- whether it stands
  pub told : IsTold x.stands way
  pub there : way ≡ true → Stands count x.local s
  pub over : way ≡ false → IsOver count x.local s
  pub begun : (r : Register) → x.begun ≡ Some r → Begun count x.local r g s
  pub value : x.has_value ≡ true → Valued count x.local s
  pub flag : x.is_told ≡ true → (r : Register) → x.flag ≡ Some r → g r ≡ Some (source.Number (flag_number way))
  pub parts : (r : Register) → Parts count x.local r (x.places r) g s
  pub last : (r : Register) (n : ℤ) → x.last ≡ Some (r, n) → g r ≡ Some (source.Number n)

abbrev pub AllOpen : ℕ → List Opened → Registers → State → Type 0
AllOpen count [] g s = Unit {0}
AllOpen count (x ∷ xs) g s = IsOpen count x g s × AllOpen count xs g s

-- these stand as is told, and no others
pub record Open (count : ℕ) (xs : List Opened) (g : Registers) (s : State) : Type 0 where
  pub each : AllOpen count xs g s
  pub over : (i o : ℕ) → i < count → is_open i xs ≡ false → s.frame.locals i ≡ Some o → (s.object o).is_gone ≡ true

-- these stand, if control comes here
abbrev pub OpenIf : ℕ → Option (List Opened) → Registers → State → Type 0
OpenIf count None g s = ⊥
OpenIf count (Some xs) g s = Open count xs g s

-- the register holds a number, and what goes by it stands
pub record OpenBy (count : ℕ) (r : Register) (xs : ℤ → Option (List Opened)) (g : Registers) (s : State) : Type 0 where
  pub number : ℤ
  pub holds : g r ≡ Some (source.Number number)
  pub stands : OpenIf count (xs number) g s

abbrev pub StandsAs : ℕ → Standing → Registers → State → Type 0
StandsAs count never g s = ⊥
StandsAs count (these xs) g s = Open count xs g s
StandsAs count (by_number r xs) g s = OpenBy count r xs g s

-- ---- points

pub record Point : Type 0 where
  pub kept : Keeping
  pub standing : Standing

-- where these are open, and where control does not come
abbrev pub point_at : Keeping → List Opened → Point
point_at h xs = record { kept = h; standing = these xs }

abbrev pub point_never : Keeping → Point
point_never h = record { kept = h; standing = never }

abbrev pub point_by : Keeping → Register → (ℤ → Option (List Opened)) → Point
point_by h r xs = record { kept = h; standing = by_number r xs }

-- a static object stands, and is no local's
pub record StaticStands (s : State) (o : ℕ) : Type 0 where
  pub stands : (s.object o).is_gone ≡ false
  pub apart : (i : ℕ) → s.frame.locals i ≡ Some o → ⊥

-- the frame is the function's, as deep as the C's calls, and static objects stand
pub record InFrame (z : Scene) (s : State) : Type 0 where
  pub function : s.frame.function ≡ z.inside.function
  pub depth : s.frame.depth ≡ z.depth
  pub statics : (name : Name) (o : ℕ) → static_number z.program name ≡ Some o → StaticStands s o

-- how many parameters and locals the function has
abbrev pub local_count : Scene → ℕ
local_count z = length z.body.own.locals.types

-- both programs are at this point, and so many flags are 0
pub record At (z : Scene) (p : Point) (d : ℕ) (g : Registers) (s : State) (t : c.State) : Type 0 where
  pub here : Here (fixed_in z) z.body p.kept d g s t
  pub frame : InFrame z s
  pub standing : StandsAs (local_count z) p.standing g s

-- both return, and no object of the function's parameters and locals stands
pub record Returned (z : Scene) (v : source.Value) (s : State) (flow : c.Flow) : Type 0 where
  pub back : GivesBack (fixed_in z) z.body z.result v s flow
  pub frame : InFrame z s
  pub over : (i o : ℕ) → i < local_count z → s.frame.locals i ≡ Some o → (s.object o).is_gone ≡ true
