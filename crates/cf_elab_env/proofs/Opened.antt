-- What each row under a shut name is: the row of the definitions of elaboration.
use Rattle.std.proofs.Common.{◌≡◌, ℕ, Bool, List, refl}
use Rattle.cf_base.specs.declared.kind.Kind.{Kind}
use Rattle.cf_types.specs.declared.ty.Ty.{Ty}
use Rattle.cf_types.specs.declared.ty.Fun.{Fun}
use Rattle.cf_core.specs.declared.unit.CoreStatic.{CoreStatic}
use Rattle.cf_elab.specs.Env.{Name, Entity, FunctionEntry}
use Rattle.cf_elab.specs.Enumeration as enumeration
use Rattle.cf_elab.specs.Functions as functions
use Rattle.cf_elab.specs.Made as made
use Rattle.cf_elab.specs.Names as names
use Rattle.cf_elab.specs.Objects as objects
use Rattle.cf_elab_env.specs.Shut as shut

pub intern : (u : Ty) → shut.intern u ≡ made.intern u
unfolding shut.intern
intern u = refl

pub intern_fun : (f : Fun) → shut.intern_fun f ≡ made.intern_fun f
unfolding shut.intern_fun
intern_fun f = refl

pub of_kind : (k : Kind) → shut.of_kind k ≡ made.of_kind k
unfolding shut.of_kind
of_kind k = refl

pub int : shut.int ≡ made.int
unfolding shut.int
int = refl

pub unsigned_int : shut.unsigned_int ≡ made.unsigned_int
unfolding shut.unsigned_int
unsigned_int = refl

pub void : shut.void ≡ made.void
unfolding shut.void
void = refl

pub pointer_to : (t : ℕ) → shut.pointer_to t ≡ made.pointer_to t
unfolding shut.pointer_to
pointer_to t = refl

pub reference_to : (t : ℕ) → shut.reference_to t ≡ made.reference_to t
unfolding shut.reference_to
reference_to t = refl

pub array_of : (t n : ℕ) → shut.array_of t n ≡ made.array_of t n
unfolding shut.array_of
array_of t n = refl

pub const_of : (t : ℕ) → shut.const_of t ≡ made.const_of t
unfolding shut.const_of
const_of t = refl

pub const_if : (b : Bool) (t : ℕ) → shut.const_if b t ≡ made.const_if b t
unfolding shut.const_if
const_if b t = refl

pub function_type : (t : ℕ) (ps : List ℕ) (b : Bool) → shut.function_type t ps b ≡ made.function_type t ps b
unfolding shut.function_type
function_type t ps b = refl

pub enter_scope : shut.enter_scope ≡ names.enter_scope
unfolding shut.enter_scope
enter_scope = refl

pub leave_scope : shut.leave_scope ≡ names.leave_scope
unfolding shut.leave_scope
leave_scope = refl

pub declare : (n : Name) (e : Entity) → shut.declare n e ≡ names.declare n e
unfolding shut.declare
declare n e = refl

pub redeclare : (n : ℕ) (e : Entity) → shut.redeclare n e ≡ names.redeclare n e
unfolding shut.redeclare
redeclare n e = refl

pub bind_name : (n : Name) (e : ℕ) → shut.bind_name n e ≡ names.bind_name n e
unfolding shut.bind_name
bind_name n e = refl

pub new_local : (t : ℕ) → shut.new_local t ≡ objects.new_local t
unfolding shut.new_local
new_local t = refl

pub define_static : (x : CoreStatic) → shut.define_static x ≡ objects.define_static x
unfolding shut.define_static
define_static x = refl

pub set_entry : (n : ℕ) (f : FunctionEntry) → shut.set_entry n f ≡ functions.set_entry n f
unfolding shut.set_entry
set_entry n f = refl

pub new_enum : (n : Name) → shut.new_enum n ≡ enumeration.new_enum n
unfolding shut.new_enum
new_enum n = refl
