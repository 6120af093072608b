-- What a call of a function of the program needs, where it stands in another.
use Rattle.std.specs.Prelude.{◌≡◌, ℕ, ◌<◌, Bool, true, false, List, [], ◌∷◌, Some}
use Rattle.std.specs.List.{list_all}
use Rattle.cf_core.specs.Types.{Name, SourceType, without_const, parameters, result as result_type}
use Rattle.cf_core.specs.Core.{Function}
use Rattle.cf_core.specs.Run.{State}
use Rattle.cf_core.specs.Objects.{static_number, static_type}
use Rattle.cf_lower_layout.specs.Sorts.{Sort, sort_of}
use Rattle.cf_plain.specs.Plain.{Register}
use Rattle.cc_whole.specs.declared.types.CType.{CType}
use Rattle.cc_whole_mean.specs.declared.named.Named.TheVariants as meant
use Rattle.cc_whole_mean.specs.declared.named.Shape.{Shape}
use Rattle.cf_lower.specs.Kept.{Keeping, Locals, type_of_local, keep, of_type}
use Rattle.cf_lower.specs.Written.{c_type}
use Rattle.cf_lower_relate.specs.Map.{is_hidden}
use Rattle.cf_lower_kept.specs.Opened.{Opened, has_its_value, closed_all, set_in}
use Rattle.cf_lower_points.specs.BoundsPoints.{these, Point}
use Rattle.cf_lower_turns.specs.Scene.{Scene}
use Rattle.cf_lower_calls.specs.Arguments.Passing.{are_passed, Shaped, ArgumentsThere}
use Rattle.cf_lower_calls.specs.Returns.Called.{Programs}

-- both programs, of a function of them
abbrev pub programs_of : Scene → Programs
programs_of z = record {
  program = z.program;
  functions = z.functions;
  function = z.function;
  signature = z.signature;
  c_program = z.c_program;
  texts = z.body.texts;
}

-- locals of these types, which may differ in const
abbrev pub HaveLocalTypes : Locals → List ℕ → List SourceType → Type 0
HaveLocalTypes locals [] [] = Unit {0}
HaveLocalTypes locals [] (t ∷ ts) = ⊥
HaveLocalTypes locals (i ∷ is) [] = ⊥
HaveLocalTypes locals (i ∷ is) (t ∷ ts) = (without_const (type_of_local locals i) ≡ without_const t) × HaveLocalTypes locals is ts

-- a static object stood in its variable when the function was entered
pub record StartStatic (z : Scene) (name : Name) (o : ℕ) : Type 0 where
  pub shape : Shape
  pub named : z.c_program.names name ≡ Some (meant.Variable (z.body.start.block o) shape)
  pub known : o < z.body.start.count
  pub type : z.body.start.type o ≡ static_type z.program name
  pub visible : is_hidden (z.body.start.stage o) ≡ false
  pub base : z.body.start.base o ≡ 0

-- the function, and the locals that are passed
pub record Invokes (z : Scene) (f : Function) (is : List ℕ) : Type 0 where
  pub passed : are_passed z.body.own.locals is ≡ true
  pub typed : HaveLocalTypes z.body.own.locals is (parameters f.type)
  pub shaped : Shaped z.body.own z.body.scope
  pub statics : (name : Name) (o : ℕ) → static_number z.program name ≡ Some o → StartStatic z name o

-- what has to be so of the source: the arguments are there, static objects stand, and as many functions may be entered as in the C
pub record InvokedBefore (z : Scene) (is os : List ℕ) (s : State) : Type 0 where
  pub there : ArgumentsThere s is os
  pub depth : s.frame.depth ≡ z.depth
  pub statics : (name : Name) (o : ℕ) → static_number z.program name ≡ Some o → (s.object o).is_gone ≡ false

-- results of this type go through a C local
pub record HasLocal (z : Scene) (t : CType) : Type 0 where
  pub block : ℕ
  pub is : z.body.flags.result t ≡ Some block

-- the result of a call by this type is kept in a register; nothing is where it is void
pub record KeepsResult (z : Scene) (f : Function) (t : SourceType) (r : Register) : Type 0 where
  pub bound : r < z.body.own.bound
  pub sorts : sort_of (result_type f.type) ≡ sort_of (result_type t)
  pub local : (u : Sort) → sort_of (result_type t) ≡ Some u → HasLocal z (c_type u)

-- where these are open each argument has its value
abbrev pub all_valued : List ℕ → List Opened → Bool
all_valued is xs = list_all (has_its_value xs) is

-- the point behind a call: the objects of the arguments are gone
abbrev pub point_called : Keeping → List ℕ → List Opened → Point
point_called h is xs = record { kept = h; standing = these (closed_all is xs) }

-- and its result is kept in a register
abbrev pub point_kept : Keeping → Register → SourceType → List ℕ → List Opened → Point
point_kept h r t is xs = record { kept = keep h r (of_type (result_type t)); standing = these (closed_all is (set_in r xs)) }
