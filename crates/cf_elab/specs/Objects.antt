-- Declarations of objects and references (3.3, 6.7, 7.1, 8.4).
use Rattle.std.specs.Prelude.{ℕ, ◌+◌, Bool, true, false, not, ◌==◌, ◌&&◌, ◌||◌, if◌then◌else◌, List, [], ◌∷◌, ◌++◌, length, ℤ, Option, None, Some, slice_get, is_some, bytes_eq}
use Rattle.std.specs.List.{list_any}
use Rattle.std.specs.Option.{option_map_or}
use Rattle.cf_types.specs.declared.ty.Ty.{Ty}
use Rattle.cf_types.specs.declared.ty.Ty.TheVariants as ty
use Rattle.cf_convert.specs.Constness.{type_at, is_const}
use Rattle.cf_classes.specs.LinkName.{Variable, none, link_name}
use Rattle.cf_classes.specs.OwnedName.{local_static_name, temporary_name}
use Rattle.cf_lookup.specs.Scope.{in_scope}
use Rattle.cf_core.specs.declared.node.Core.{Core as Node}
use Rattle.cf_core.specs.declared.node.Core.TheVariants as node
use Rattle.cf_core.specs.declared.node.Holder.TheVariants as holder
use Rattle.cf_core.specs.declared.unit.CoreStatic.{CoreStatic}
use Rattle.cf_elab.specs.Env.{Env, Name, Entity, object, Object, Home, local_home, static_home}
use Rattle.cf_elab.specs.Answer.{Elab, ◌>>=◌, ◌>>◌, gives, done, breaks, need, known, changed, hand_changed, each}
use Rattle.cf_elab.specs.Made.{intern}
use Rattle.cf_elab.specs.Operand.{Value, value_of, defs, sort_of, is_arithmetic, is_reference}
use Rattle.cf_elab.specs.Names.{declared_here, bind_name, declare, redeclare}
use Rattle.cf_elab.specs.Initial.{Start, fixed_start, Keeper, kept}
use Rattle.cf_elab.specs.Lists.{Tree, leaf, text, branch, start_by}
use Rattle.cf_elab.specs.Construct.{constructed, has_constructor, default_start, need_object_class, need_destructor}
use Rattle.cf_elab.specs.UserFit.{fit}
use Rattle.cf_elab.specs.Copying.{is_of}
use Rattle.cf_elab.specs.Expression.{literal}
use Rattle.cf_elab.specs.Members.{class_number}
use Rattle.cf_classes.specs.Special.{Made, Declared, Generated, specials}
use Rattle.cf_classes.specs.TypeTree.{class_in}
use Rattle.cf_elab.specs.Complete.{name_within}

-- an initialiser whose parts are elaborated: behind `=`, or arguments in brackets, with its place
pub data Written : Type 0 where
  equals : ℕ → Tree → Written
  bracketed : ℕ → List Tree → Written

abbrev pub written_place : Written → ℕ
written_place (equals at t) = at
written_place (bracketed at ts) = at

-- Several arguments, a list in brackets or a bracketed value of an array initialise nothing that is no class's, K28.
abbrev pub one_tree : Written → Elab Tree
one_tree (equals at t) = gives t
one_tree (bracketed at (t ∷ [])) = gives t
one_tree (bracketed at ts) = breaks 28 at

abbrev pub is_array_ty : Ty → Bool
is_array_ty (ty.Array t n) = true
is_array_ty other = false

abbrev pub no_array : Env → ℕ → Written → Elab (Unit {0})
no_array env t (equals at x) = done
no_array env t (bracketed at ts) = need (not (is_array_ty (type_at env.types t))) 28 at

abbrev pub other_initialised : (ℕ → Elab Keeper) → ℕ → Written → Elab Start
other_initialised keeper t w = do
  env ← known
  no_array env t w
  x ← one_tree w
  start_by keeper (written_place w) t x

-- ---- objects of classes (8.4, 12.6)

abbrev pub tree_value : Tree → Elab Value
tree_value (leaf at v) = gives v
tree_value (text at n bytes) = literal n bytes >>= value_of
tree_value (branch at ts) = breaks 28 at

-- K30, K37; arguments of a class without constructors are K28, other than one of its own
abbrev pub by_arguments : ℕ → ℕ → List Value → Elab Start
by_arguments at c vs = do
  need_object_class at c
  env ← known
  need (has_constructor env c || one_of_class env c vs) 28 at
  constructed at c vs >>= (λ n. gives (fixed_start n false))
  where
    one_of_class : Env → ℕ → List Value → Bool
    one_of_class env c (v ∷ []) = is_of env c (class_number (sort_of env.types v.type))
    one_of_class env c vs = false

-- behind `=` an object of the class is copied, and another value converted
abbrev pub equals_value : ℕ → ℕ → Value → Elab Start
equals_value at c v = do
  env ← known
  if is_of env c (class_number (sort_of env.types v.type)) then by_arguments at c (v ∷ []) else converted_value
  where
    converted_value : Elab Start
    converted_value = do
      need_object_class at c
      t ← intern (ty.Class c)
      x ← fit at v t
      need_destructor at c
      gives (fixed_start x.node false)

abbrev pub class_initialised : ℕ → Written → Elab Start
class_initialised c (equals at (branch b ts)) = breaks 48 b
class_initialised c (equals at x) = tree_value x >>= equals_value at c
class_initialised c (bracketed at ts) = each tree_value ts >>= by_arguments at c

abbrev pub by_class : (ℕ → Elab Keeper) → ℕ → Written → Option ℕ → Elab Start
by_class keeper t w None = other_initialised keeper t w
by_class keeper t w (Some c) = class_initialised c w

abbrev pub initialised : (ℕ → Elab Keeper) → ℕ → Written → Elab Start
initialised keeper t w = known >>= (λ env. by_class keeper t w (class_number (sort_of env.types t)))

-- without an initialiser: constant where no constructor and no destructor is entered
abbrev pub is_entered : Made → Bool
is_entered Declared = true
is_entered Generated = true
is_entered other = false

abbrev pub is_plain_class : Env → Option ℕ → Bool
is_plain_class env None = true
is_plain_class env (Some c) = not (is_entered (specials env.types (defs env) c).constructor) && not (is_entered (specials env.types (defs env) c).destructor)

abbrev pub default_object : ℕ → ℕ → Elab Start
default_object at t = do
  n ← default_start at t
  env ← known
  gives (fixed_start n (is_plain_class env (class_in env.types t)))

-- ---- link names

abbrev pub variable_link : Name → Name
variable_link name = link_name (record { scope = []; what = Variable name; params = none; is_const = false; is_static = false })

-- ---- what is declared with linkage (3.3)

-- how a declaration says its object's name: `static`, `extern`, or neither, and whether it defines it
pub record Says : Type 0 where
  pub name : Name
  pub at : ℕ
  pub type : ℕ
  pub is_static : Bool
  pub is_extern : Bool
  pub defines : Bool
  pub is_initialised : Bool  -- whether an initialiser stands behind it

-- local to the file where it says `static`, or is const and no declaration so far says `extern`
abbrev pub says_internal : Env → Says → Bool
says_internal env d = d.is_static || (is_const env.types d.type && not d.is_extern)

abbrev pub new_object : Env → Says → Object
new_object env d = record {
  type = d.type;
  home = static_home (variable_link d.name);
  number = None;
  at = d.at;
  is_defined = d.defines;
  is_internal = says_internal env d;
  is_extern = d.is_extern;
}

-- the same object again, K8 where its type is another one or it is defined twice; then K9 where `static` or const makes an external name internal
abbrev pub conflicts_linkage : Says → Object → Bool
conflicts_linkage d x = d.is_static && not x.is_internal

abbrev pub again : Says → Object → Object
again d x = record x { is_defined = x.is_defined || d.defines; is_extern = x.is_extern || d.is_extern }

abbrev pub is_static_home : Home → Bool
is_static_home (static_home name) = true
is_static_home (local_home i) = false

abbrev pub redeclared : Says → ℕ → Object → Elab Object
redeclared d e x = do
  need (is_static_home x.home && (x.type == d.type) && not (x.is_defined && d.defines)) 8 d.at
  need (not (conflicts_linkage d x)) 9 d.at
  redeclare e (object (again d x))
  gives (again d x)

-- while definitions in other files are not built, the file itself defines what it declares; an initialiser that may not stand comes first
abbrev pub need_definition : Env → Says → Elab (Unit {0})
need_definition env d = need (env.extent.elsewhere || d.defines || d.is_initialised || list_any (bytes_eq d.name) env.defines) 48 d.at

abbrev pub first_declared : Says → Elab Object
first_declared d = do
  env ← known
  need_definition env d
  name_within (variable_link d.name)
  declare d.name (object (new_object env d))
  changed (λ e. record e { linked = e.linked ++ (d.name, length env.entities) ∷ [] })
  gives (new_object env d)

abbrev pub with_entity : Says → ℕ → Option Entity → Elab Object
with_entity d e (Some (object x)) = redeclared d e x
with_entity d e other = breaks 8 d.at

-- a block or an earlier scope declared it
abbrev pub from_elsewhere : Says → Option ℕ → Elab Object
from_elsewhere d None = first_declared d
from_elsewhere d (Some e) = do
  env ← known
  x ← with_entity d e (slice_get env.entities e)
  bind_name d.name e
  gives x

abbrev pub linked_object : Says → Option ℕ → Elab Object
linked_object d None = known >>= (λ env. from_elsewhere d (in_scope d.name env.linked))
linked_object d (Some e) = known >>= (λ env. with_entity d e (slice_get env.entities e))

-- an object with linkage: the same as one that is declared, else a new one
abbrev pub declare_linked : Says → Elab Object
declare_linked d = known >>= (λ env. linked_object d (declared_here env d.name))

-- ---- objects of a block

abbrev pub new_local : ℕ → Elab ℕ
new_local t = do
  env ← known
  hand_changed (λ h. record h { locals = h.locals ++ t ∷ [] })
  gives (length env.hand.locals)

abbrev pub block_object : ℕ → Home → ℕ → Object
block_object t home at = record { type = t; home = home; number = None; at = at; is_defined = true; is_internal = true; is_extern = false }

-- nothing of the name may be declared in the block, K8
abbrev pub declare_in_block : Name → ℕ → Object → Elab (Unit {0})
declare_in_block name at x = do
  env ← known
  need (not (is_some (declared_here env name))) 8 at
  declare name (object x)

-- the value of a const integer that a constant initialises is known from there on (5.19)
abbrev pub constant_number : Env → ℕ → Option ℤ → Option ℤ
constant_number env t z = if is_const env.types t && is_arithmetic (sort_of env.types t) then z else None

abbrev pub with_number : Option ℤ → Option Entity → Option Entity
with_number z (Some (object x)) = Some (object (record x { number = z }))
with_number z other = other

abbrev pub set_entity : ℕ → Option Entity → Elab (Unit {0})
set_entity e None = done
set_entity e (Some x) = redeclare e x

abbrev pub number_known : Name → Option ℤ → Elab (Unit {0})
number_known name z = do
  env ← known
  by_number (declared_here env name) env
  where
    by_number : Option ℕ → Env → Elab (Unit {0})
    by_number None env = done
    by_number (Some e) env = set_entity e (with_number z (slice_get env.entities e))

-- ---- what keeps a temporary that a reference binds

abbrev pub local_keeper : ℕ → Elab Keeper
local_keeper u = do
  i ← new_local u
  gives (kept (holder.LocalTemporary i u))

abbrev pub static_of : Name → ℕ → Node → Option Name → Bool → Bool → CoreStatic
static_of name t start owner constant internal = record {
  name = name;
  ty = t;
  start = start;
  owner = owner;
  is_constant = constant;
  is_shared = false;
  is_local = internal;
}

abbrev pub define_static : CoreStatic → Elab (Unit {0})
define_static x = changed (λ env. record env { statics = env.statics ++ x ∷ [] })

-- the temporary of a static reference is an object of the file, which that reference's initialiser builds
abbrev pub static_keeper : Name → Option Name → ℕ → ℕ → Elab Keeper
static_keeper reference owner at u = do
  name_within (temporary_name reference)
  define_static (static_of (temporary_name reference) u (node.Blank at) owner true true)
  gives (kept (holder.StaticTemporary (temporary_name reference)))

-- ---- definitions; the parts of the initialiser are elaborated once the name is known (3.2)

-- a const object or a reference has an initialiser, K28
abbrev pub needs_initialiser : Env → ℕ → Bool
needs_initialiser env t = is_const env.types t || is_reference (sort_of env.types t)

abbrev pub start_or_none : (ℕ → Elab Keeper) → ℕ → ℕ → Option Written → Elab Start
start_or_none keeper at t None = do
  env ← known
  need (is_some (class_in env.types t) || not (needs_initialiser env t)) 28 at
  default_object at t
start_or_none keeper at t (Some w) = initialised keeper t w

abbrev pub started : (ℕ → Elab Keeper) → Name → ℕ → ℕ → Option Written → Elab Start
started keeper name at t w = do
  s ← start_or_none keeper at t w
  env ← known
  number_known name (constant_number env t s.number)
  gives s

-- where only constants are built, the place is that of the initialiser
abbrev pub need_constant : ℕ → Option Written → Start → Elab (Unit {0})
need_constant at w s = do
  env ← known
  need (env.extent.computed || s.is_constant) 48 (option_map_or written_place w at)

-- an object of the file
abbrev pub define_in_file : Says → Elab (Option Written) → Elab (Unit {0})
define_in_file d parts = do
  x ← declare_linked d
  w ← parts
  s ← started (static_keeper (variable_link d.name) None d.at) d.name d.at d.type w
  need_constant d.at w s
  define_static (static_of (variable_link d.name) d.type s.node None s.is_constant x.is_internal)

-- a statement that a declaration makes, and whether it initialises an automatic object (6.7)
pub record Reached : Type 0 where
  pub node : Node
  pub initialises : Bool

-- a static object of a block: a constant initialiser takes effect before any function, and any other one when it is reached (6.7)
abbrev pub reached : ℕ → Name → Start → List Reached
reached at link s = if s.is_constant then [] else record { node = node.Once at link s.node; initialises = false } ∷ []

abbrev pub define_static_local : ℕ → Name → ℕ → Elab (Option Written) → Name → Name → Elab (List Reached)
define_static_local at name t parts link owner = do
  hand_changed (λ h. record h { statics = h.statics + 1 })
  declare_in_block name at (block_object t (static_home link) at)
  w ← parts
  s ← started (static_keeper link (Some owner) at) name at t w
  need_constant at w s
  name_within link
  define_static (static_of link t (if s.is_constant then s.node else node.Blank at) (Some owner) s.is_constant true)
  gives (reached at link s)

abbrev pub define_in_function : ℕ → Name → ℕ → Elab (Option Written) → Elab (List Reached)
define_in_function at name t parts = known >>= (λ env. define_static_local at name t parts (local_static_name name env.hand.statics env.hand.link) env.hand.link)

-- an automatic object (6.7)
abbrev pub define_local : ℕ → Name → ℕ → Elab (Option Written) → Elab (List Reached)
define_local at name t parts = do
  i ← new_local t
  declare_in_block name at (block_object t (local_home i) at)
  w ← parts
  s ← started local_keeper name at t w
  gives (record { node = node.Declare at i t s.node; initialises = is_some w || not s.is_constant } ∷ [])
