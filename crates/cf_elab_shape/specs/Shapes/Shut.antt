-- The rows of declarators, each under a name of its own that does not unfold. `Rattle.cf_elab_shape.proofs.ShapesLaws` says what each is.
use Rattle.std.specs.Prelude.{ℕ, Bool, not, ◌||◌, List, [], ◌∷◌, Option, None, Some, is_some}
use Rattle.cf_types.specs.Table.{Table}
use Rattle.cf_syntax.specs.declared.specifier.Pointer.{Pointer}
use Rattle.cf_elab.specs.Answer.{Elab, ◌>>=◌, ◌>>◌, gives, done, need, known, each}
use Rattle.cf_elab.specs.Declarator as declarator
use Rattle.cf_elab.specs.Definition as definition
use Rattle.cf_elab.specs.Made.{pointer_to, reference_to, array_of, const_if, function_type}
use Rattle.cf_elab.specs.Operand.{Value, sort_of, is_array, is_function, is_void, is_reference}
use Rattle.cf_elab.specs.Shape as shape
use Rattle.cf_elab.specs.Shape.{Parameter, Shape, Shaped, Position}

-- ---- what a type may be made into (8.2)

unfoldable pub points : Table → ℕ → Bool
points types t = not (is_reference (sort_of types t))

unfoldable pub refers : Table → ℕ → Bool
refers types t = not (is_reference (sort_of types t) || is_void (sort_of types t))

unfoldable pub returned : Table → ℕ → Bool
returned types t = not (is_array (sort_of types t) || is_function (sort_of types t))

unfoldable pub held : Table → ℕ → Bool
held types t = not (is_reference (sort_of types t) || is_void (sort_of types t) || is_function (sort_of types t))

unfoldable pub need_at : Bool → ℕ → Elab (Unit {0})
need_at = shape.need_at

-- ---- the type behind one operator of a declarator, from the outside

unfoldable pub pointing : ℕ → Bool → ℕ → Elab ℕ
pointing at is_const t = do
  env ← known
  shape.need_at (not (is_reference (sort_of env.types t))) at
  p ← pointer_to t
  const_if is_const p

unfoldable pub referring : ℕ → ℕ → Elab ℕ
referring at t = do
  env ← known
  shape.need_at (not (is_reference (sort_of env.types t) || is_void (sort_of env.types t))) at
  reference_to t

unfoldable pub parameter_type : ℕ → Elab ℕ
parameter_type = shape.parameter_type

unfoldable pub parameter_types : List Parameter → Elab (List ℕ)
parameter_types ps = each (λ (p : Parameter). shape.parameter_type p.type) ps

-- `may` says whether `const` may stand behind the parameters
unfoldable pub taking : ℕ → List Parameter → Bool → Bool → ℕ → Elab ℕ
taking at ps is_const may t = do
  env ← known
  shape.need_at (not (is_array (sort_of env.types t) || is_function (sort_of env.types t))) at
  shape.need_at (not is_const || may) at
  qs ← each (λ (p : Parameter). shape.parameter_type p.type) ps
  function_type t qs is_const

unfoldable pub holding : ℕ → Value → ℕ → Elab ℕ
holding at b t = do
  env ← known
  shape.need_at (not (is_reference (sort_of env.types t) || is_void (sort_of env.types t) || is_function (sort_of env.types t))) at
  shape.need_at (shape.fine_bound b.number) at
  array_of t (shape.count_of b.number)

-- `may` says whether the bound may be left out
unfoldable pub unbounded : ℕ → Bool → ℕ → Elab Shaped
unbounded at may t = do
  env ← known
  shape.need_at (not (is_reference (sort_of env.types t) || is_void (sort_of env.types t) || is_function (sort_of env.types t))) at
  shape.need_at may at
  gives (shape.unbounded t)

unfoldable pub typed : Position → Shape → ℕ → Elab Shaped
typed = shape.typed

-- ---- bounds

unfoldable pub bounds_constant : Shape → Elab (Unit {0})
bounds_constant = shape.bounds_constant

-- a bound, if there is one
abbrev constant : ℕ → Option Value → Elab (Unit {0})
constant at None = done
constant at (Some b) = need (is_some b.number) 19 at

unfoldable pub known_bound : ℕ → Option Value → Elab (Unit {0})
known_bound = constant

-- ---- parameters

unfoldable pub no_void : Parameter → Elab (Unit {0})
no_void = declarator.no_void

-- one alone, which may be `(void)`
unfoldable pub only_parameter : Parameter → Elab (List Parameter)
only_parameter = declarator.only_parameter

unfoldable pub as_object : Shaped → Elab ℕ
as_object = declarator.as_object

-- of a whole type
unfoldable pub adjusted : ℕ → Elab ℕ
adjusted t = declarator.as_object (shape.whole t)

-- ---- the type of what is declared, where no bound is left out, and where one may be

unfoldable pub only_whole : Shaped → Elab ℕ
only_whole = declarator.only_whole

unfoldable pub type_of_shaped : Shaped → Elab ℕ
type_of_shaped = definition.type_of_shaped

-- ---- operators before the name

unfoldable pub pointed : Pointer → Shape → Elab Shape
pointed = declarator.pointed
