-- The rows of the definitions of elaboration that this crate does, each under a name of its own that does not unfold, so that the proof of a
-- function that calls several of them sees each as one step. `Rattle.cf_elab_env.proofs.Opened` says what each is.
use Rattle.std.specs.Prelude.{ℕ, Bool, List}
use Rattle.cf_base.specs.declared.kind.Kind.{Kind}
use Rattle.cf_types.specs.declared.ty.Ty.{Ty}
use Rattle.cf_types.specs.declared.ty.Fun.{Fun}
use Rattle.cf_elab.specs.Answer.{Elab}
use Rattle.cf_core.specs.declared.unit.CoreStatic.{CoreStatic}
use Rattle.cf_elab.specs.Env.{Name, Entity, FunctionEntry}
use Rattle.cf_elab.specs.Enumeration as enumeration
use Rattle.cf_elab.specs.Functions as functions
use Rattle.cf_elab.specs.Made as made
use Rattle.cf_elab.specs.Names as names
use Rattle.cf_elab.specs.Objects as objects

unfoldable pub intern : Ty → Elab ℕ
intern = made.intern

unfoldable pub intern_fun : Fun → Elab ℕ
intern_fun = made.intern_fun

unfoldable pub of_kind : Kind → Elab ℕ
of_kind = made.of_kind

unfoldable pub int : Elab ℕ
int = made.int

unfoldable pub unsigned_int : Elab ℕ
unsigned_int = made.unsigned_int

unfoldable pub void : Elab ℕ
void = made.void

unfoldable pub pointer_to : ℕ → Elab ℕ
pointer_to = made.pointer_to

unfoldable pub reference_to : ℕ → Elab ℕ
reference_to = made.reference_to

unfoldable pub array_of : ℕ → ℕ → Elab ℕ
array_of = made.array_of

unfoldable pub const_of : ℕ → Elab ℕ
const_of = made.const_of

unfoldable pub const_if : Bool → ℕ → Elab ℕ
const_if = made.const_if

unfoldable pub function_type : ℕ → List ℕ → Bool → Elab ℕ
function_type = made.function_type

unfoldable pub enter_scope : Elab (Unit {0})
enter_scope = names.enter_scope

unfoldable pub leave_scope : Elab (Unit {0})
leave_scope = names.leave_scope

unfoldable pub declare : Name → Entity → Elab (Unit {0})
declare = names.declare

unfoldable pub bind_name : Name → ℕ → Elab (Unit {0})
bind_name = names.bind_name

unfoldable pub redeclare : ℕ → Entity → Elab (Unit {0})
redeclare = names.redeclare

unfoldable pub new_local : ℕ → Elab ℕ
new_local = objects.new_local

unfoldable pub define_static : CoreStatic → Elab (Unit {0})
define_static = objects.define_static

unfoldable pub set_entry : ℕ → FunctionEntry → Elab (Unit {0})
set_entry = functions.set_entry

unfoldable pub new_enum : Name → Elab ℕ
new_enum = enumeration.new_enum
