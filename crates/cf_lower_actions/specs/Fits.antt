-- What the laws of leaves ask of a function of both programs: the C is made for this function, and functions have numbers of their own.
use Rattle.std.specs.Prelude.{◌≡◌, ℕ, ◌<◌, true, false, Some, length}
use Rattle.cf_core.specs.Types.{Name}
use Rattle.cf_core.specs.Core.{Function}
use Rattle.cf_core.specs.Calls.{function_named}
use Rattle.cf_core.specs.Objects.{static_number, static_type}
use Rattle.cf_lower_layout.specs.Sorts.{Sort, sort_of}
use Rattle.cc_whole_mean.specs.declared.named.Named.TheVariants as meant
use Rattle.cc_whole_mean.specs.declared.named.Shape.{Shape}
use Rattle.cc_whole_mean.specs.declared.named.Shape.TheVariants.{Single as single, Array as array}
use Rattle.cc_whole_mean.specs.Types.{scalar_of}
use Rattle.cf_lower.specs.Kept.{type_of_local}
use Rattle.cf_lower.specs.Written.{c_type, local_name, literal_name}
use Rattle.cf_lower_relate.specs.Map.{Numbered, is_hidden}
use Rattle.cf_lower_steps.specs.Lowering.{is_function}
use Rattle.cf_lower_turns.specs.Texts.{Text}
use Rattle.cf_lower_turns.specs.Scene.{Scene, fixed_in}

-- a static object stands in its variable since the function was entered
pub record StaticObject (z : Scene) (name : Name) (o : ℕ) : Type 0 where
  pub shape : Shape
  pub named : z.body.scope name ≡ Some (meant.Variable (z.body.start.block o) shape)
  pub known : o < z.body.start.count
  pub type : z.body.start.type o ≡ static_type z.program name
  pub visible : is_hidden (z.body.start.stage o) ≡ false
  pub base : z.body.start.base o ≡ 0

pub record Fits (z : Scene) : Type 0 where
  pub classes : z.inside.classes ≡ z.program.classes
  pub locals : z.inside.locals ≡ z.body.own.locals
  pub result : sort_of z.inside.result ≡ z.result
  pub numbered : Numbered (fixed_in z)
  pub named : (name : Name) → is_function z.program name ≡ true → z.body.scope name ≡ Some (meant.Function (z.function name))
  pub typed : (name : Name) (f : Function) → function_named z.program name ≡ Some f → z.signature name ≡ f.type
  -- a scalar's C local is one
  pub shaped : (i : ℕ) → i < length z.body.own.locals.types → (u : Sort) → sort_of (type_of_local z.body.own.locals i) ≡ Some u
      → z.body.scope (local_name i) ≡ Some (meant.Variable (z.body.own.local i) (single (scalar_of (c_type u))))
  pub statics : (name : Name) (o : ℕ) → static_number z.program name ≡ Some o → StaticObject z name o
  pub literals : (j : ℕ) (x : Text) → z.body.texts z.inside.function j ≡ Some x → z.body.scope (literal_name z.inside.function j) ≡ Some (meant.Variable x.block array)
