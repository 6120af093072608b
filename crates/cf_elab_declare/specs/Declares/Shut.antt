-- The rows of declarators behind their parts, each under a name of its own that does not unfold. `Rattle.cf_elab_declare.proofs.DeclaresLaws` says what each is.
use Rattle.std.specs.Prelude.{ℕ, Bool, false, not, ◌&&◌, if◌then◌else◌, List, [], ◌∷◌, Option}
use Rattle.cf_syntax.specs.declared.name.Name.{Name as WrittenName}
use Rattle.cf_elab.specs.Answer.{Elab, ◌>>=◌, ◌>>◌, gives, done, known, need, none_at}
use Rattle.cf_elab.specs.Complete.{complete}
use Rattle.cf_elab.specs.Declaration as declaration
use Rattle.cf_elab.specs.Declaration.{conflict, declares_function}
use Rattle.cf_elab.specs.Made.{int}
use Rattle.cf_elab.specs.Names.{is_file_scope}
use Rattle.cf_elab.specs.Objects.{Says, Written, Reached}
use Rattle.cf_elab.specs.Operand.{sort_of, is_void}
use Rattle.cf_elab.specs.Shape.{Position, Shape, typed, bounds_constant}
use Rattle.cf_elab.specs.Specifiers.{Gathered, base_type, is_typedef}
use Rattle.cf_elab_declare.specs.Declares.Begun.{Begun, only_declared, of_file, static_local, local}
use Rattle.cf_elab_declare.specs.Declares.Headed.{Headed}
use Rattle.cf_elab_declare.specs.Defines.Shut as define
use Rattle.cf_elab_functions.specs.Shut as functions
use Rattle.cf_elab_objects.specs.Objects.Shut as objects

-- ---- what specifiers and bounds say

unfoldable pub no_conflict : Bool → Bool → ℕ → Gathered → Elab (Unit {0})
no_conflict in_file is_function at g = none_at (conflict in_file is_function at g) 24

unfoldable pub no_definition : Gathered → Shape → Elab (Unit {0})
no_definition = declaration.no_definition

-- where an initialiser stands, it gives the bound of an array
abbrev pub position : Gathered → Bool → Position
position g given = record { unbounded = given && not (is_typedef g); const_function = false }

unfoldable pub head : Gathered → ℕ → Shape → Bool → Elab Headed
head g at s given = do
  base ← base_type g
  env ← known
  no_conflict (is_file_scope env.scopes) (declares_function env base s) at g
  no_definition g s
  t ← typed (position g given) s base
  bounds_constant s
  gives (record { in_file = is_file_scope env.scopes; shaped = t })

-- ---- functions

-- without a body; whether an initialiser stands behind it is given
unfoldable pub function_declared : Gathered → WrittenName → ℕ → Shape → Bool → Elab (Unit {0})
function_declared g n t s initialised = do
  declaration.need_plain_name n.last n.last_at
  i ← int
  k ← functions.declare_function i (declaration.function_says g n t s false initialised)
  done

-- ---- objects

unfoldable pub check_object : ℕ → ℕ → Elab (Unit {0})
check_object at t = do
  env ← known
  need (not (is_void (sort_of env.types t))) 26 at
  need (complete env t) 30 at

unfoldable pub begin_in_block : Says → Elab Begun
begin_in_block d =
    if d.is_static then (define.begin_static_local d.at d.name d.type >>= (λ n. gives (static_local n)))
    else (define.begin_local d.at d.name d.type >>= (λ i. gives (local i)))

-- before the initialiser
unfoldable pub begin : Bool → Says → Elab Begun
begin in_file d =
    if d.is_extern && not d.defines then (objects.declare_linked d >> gives only_declared)
    else (if in_file then (objects.declare_linked d >>= (λ internal. gives (of_file internal))) else begin_in_block d)

-- behind the initialiser, which stands at this place if there is one
abbrev by_begun : Begun → Says → Option ℕ → Option Written → Elab (List Reached)
by_begun only_declared d at w = objects.no_initialiser at >> gives []
by_begun (of_file internal) d at w = define.file_defined d internal w >> gives []
by_begun (static_local n) d at w = define.static_defined d.at d.name d.type n w
by_begun (local i) d at w = define.local_defined d.at d.name d.type i w >>= (λ x. gives (x ∷ []))

unfoldable pub finish : Begun → Says → Option ℕ → Option Written → Elab (List Reached)
finish = by_begun
