-- The rows of declarators with their initialisers, each under a name of its own that does not unfold. `Rattle.cf_elab_declaration.proofs.DeclaratorsLaws` says what each is.
use Rattle.std.specs.Prelude.{ℕ, Bool, List, Option}
use Rattle.cf_syntax.specs.declared.name.Name.{Name as WrittenName}
use Rattle.cf_unit.specs.declared.initialiser.Initialiser.{Initialiser}
use Rattle.cf_elab.specs.Answer.{Elab, ◌>>=◌}
use Rattle.cf_elab.specs.Declaration as declaration
use Rattle.cf_elab.specs.Env.{Name}
use Rattle.cf_elab.specs.Objects.{Says, Reached}
use Rattle.cf_elab.specs.Shape as shape
use Rattle.cf_elab.specs.Shape.{Shape, Shaped}
use Rattle.cf_elab.specs.Specifiers.{Gathered}
use Rattle.cf_elab_declare.specs.Declares.Shut as declare
use Rattle.cf_elab_objects.specs.Objects.Shut as objects
use Rattle.cf_elab_declaration.specs.WrittenTrees.Given.{given, place_of}
use Rattle.cf_elab_declaration.specs.WrittenTrees.Shut as written

-- an object before its initialiser, the initialiser, and the object behind it
unfoldable pub nodes : Bool → Says → Option Initialiser → Elab (List Reached)
nodes in_file d i = do
  b ← declare.begin in_file d
  w ← written.parts_of i
  declare.finish b d (place_of i) w

unfoldable pub object_row : Bool → Gathered → WrittenName → ℕ → Option Initialiser → Elab (List Reached)
object_row in_file g n t i = do
  name ← declaration.plain_name n n.last
  declaration.object_row in_file g name n.last_at t (declaration.parts_of (given i)) (given i)

-- an array whose initialiser gives the bound
unfoldable pub unbounded : Bool → Gathered → WrittenName → Option Initialiser → ℕ → Elab (List Reached)
unbounded in_file g n i u = declaration.by_shape in_file g n shape.inner (given i) (shape.unbounded u)

-- an initialiser that may not stand: its parts, and then K28
unfoldable pub not_initialised : Option Initialiser → Elab (Unit {0})
not_initialised i = do
  w ← written.parts_of i
  objects.no_initialiser (place_of i)

unfoldable pub typedef_row : Name → ℕ → ℕ → Option Initialiser → Elab (Unit {0})
typedef_row name at t i = declaration.typedef_row name at t (given i)

unfoldable pub function_row : Gathered → WrittenName → ℕ → Shape → Option Initialiser → Elab (Unit {0})
function_row g n t s i = declaration.function_row g n t s (given i)

unfoldable pub by_kind : Bool → Gathered → WrittenName → Shape → Option Initialiser → ℕ → Elab (List Reached)
by_kind in_file g n s i t = declaration.by_kind in_file g n s (given i) t

unfoldable pub by_shape : Bool → Gathered → WrittenName → Shape → Option Initialiser → Shaped → Elab (List Reached)
by_shape in_file g n s i t = declaration.by_shape in_file g n s (given i) t

unfoldable pub named_declarator : Gathered → ℕ → Option Initialiser → Shape → WrittenName → Elab (List Reached)
named_declarator g at i s n = declaration.named_declarator g at (given i) s n
