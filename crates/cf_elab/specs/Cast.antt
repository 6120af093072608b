-- Casts (5.4), and a type with arguments (5.2.3), for types that are no classes.
use Rattle.std.specs.Prelude.{ℕ, Bool, true, false, ◌==◌, ◌&&◌, if◌then◌else◌, pos, List, [], ◌∷◌, None, not, Some, Option}
use Rattle.std.specs.Option.{option_map}
use Rattle.cf_base.specs.declared.kind.Kind.TheVariants as kind
use Rattle.cf_base.specs.Integers.{convert}
use Rattle.cf_convert.specs.Constness.{bare}
use Rattle.cf_convert.specs.Converts.{base_path}
use Rattle.cf_classes.specs.declared.path.Step.{Step}
use Rattle.cf_classes.specs.declared.path.Step.TheVariants.{Base, VBase}
use Rattle.cf_core.specs.FromTypes.{Tables, type_of}
use Rattle.cf_core.specs.Types.{same_but_const}
use Rattle.cf_core.specs.declared.node.Core.TheVariants as node
use Rattle.cf_elab.specs.Env.{Env}
use Rattle.cf_elab.specs.Members.{class_defs, class_number, need_base}
use Rattle.cf_elab.specs.MethodNode.{unused}
use Rattle.cf_elab.specs.Answer.{Elab, ◌>>=◌, ◌>>◌, gives, breaks, need, known}
use Rattle.cf_elab.specs.Operand.{Value, computed, constant, is_zero, plain, Sort, sort_of, integral, enumeral, object_pointer, void_pointer, function_pointer, data_pointer, method_pointer, void_sort, reference_sort}
use Rattle.cf_elab.specs.Fit.{fit, null_of}

-- whether two types are the same otherwise than in const, at every level
abbrev pub same_types : Env → ℕ → ℕ → Bool
same_types env t u =
    let tables : Tables = record { types = env.types; classes = env.classes } in
    same_but_const (type_of tables t) (type_of tables u)

-- one of the type, without a step, or an integer that is converted
abbrev pub as_enumeration : ℕ → ℕ → Value → Value
as_enumeration at t x = record x { at = at; node = node.Convert at t x.node; type = t; number = option_map (convert kind.Int) x.number }

-- a pointer or a pointer to member as one of a type that is the same but for const
abbrev pub retyped : ℕ → ℕ → Value → Elab Value
retyped at t x = known >>= (λ env. if same_types env x.type t then gives (record x { type = t; number = None }) else breaks 17 at)

-- between classes: up to a base, and down to a derived class, but not from a virtual base; the base is one and accessible, K14
abbrev pub has_virtual : List Step → Bool
has_virtual [] = false
has_virtual (Base i ∷ p) = has_virtual p
has_virtual (VBase v ∷ p) = true

abbrev pub up_from : ℕ → ℕ → Value → ℕ → ℕ → List Step → Elab Value
up_from at t x d b p = need_base at d b >> gives (record x { at = at; node = node.Up at p x.node; type = t; number = None })

abbrev pub down_to : ℕ → ℕ → Value → ℕ → ℕ → List Step → Elab Value
down_to at t x d b p = do
  need (not (has_virtual p)) 17 at
  need_base at d b
  gives (record x { at = at; node = node.Down at d p x.node; type = t; number = None })

abbrev pub between_classes : ℕ → ℕ → Value → ℕ → ℕ → Option (List Step) → Option (List Step) → Elab Value
between_classes at t x c d (Some p) other = up_from at t x c d p
between_classes at t x c d None (Some p) = down_to at t x d c p
between_classes at t x c d None None = breaks 17 at

-- of one class to another; any other type stays the same but for const
abbrev pub cast_classes : ℕ → ℕ → Value → Option ℕ → Option ℕ → Elab Value
cast_classes at t x (Some c) (Some d) = do
  env ← known
  if c == d then retyped at t x else between_classes at t x c d (base_path (class_defs env) c d) (base_path (class_defs env) d c)
cast_classes at t x c d = retyped at t x

-- a pointer to the first type, whose operand points to the second
abbrev pub cast_pointer : ℕ → ℕ → Value → ℕ → ℕ → Elab Value
cast_pointer at t x u v = known >>= (λ env. cast_classes at t x (class_number (sort_of env.types v)) (class_number (sort_of env.types u)))

abbrev pub from_void : ℕ → ℕ → ℕ → Value → Value
from_void at t u x = computed at (node.FromVoid at u x.node) t

abbrev pub to_void : ℕ → ℕ → Value → Value
to_void at t x = record (computed at (node.Convert at t x.node) t) { is_fixed = x.is_fixed }

-- to the type t, of this sort, from a value of another sort: from integers to integers and enumerations, and from pointers to pointers
abbrev pub cast_scalar : ℕ → ℕ → Value → Sort → Sort → Elab Value
cast_scalar at t x (integral k) (integral l) = fit at x t
cast_scalar at t x (integral k) (enumeral e) = fit at x t
cast_scalar at t x (enumeral e) (integral k) = gives (as_enumeration at t x)
cast_scalar at t x (enumeral e) (enumeral f) = if e == f then gives (record x { type = t }) else gives (as_enumeration at t x)
cast_scalar at t x (object_pointer u) (object_pointer v) = cast_pointer at t x u v
cast_scalar at t x (object_pointer u) void_pointer = gives (from_void at t u x)
cast_scalar at t x void_pointer (object_pointer v) = gives (to_void at t x)
cast_scalar at t x void_pointer void_pointer = gives (record x { type = t })
cast_scalar at t x (function_pointer u) (function_pointer v) = retyped at t x
cast_scalar at t x (data_pointer c u) (data_pointer d v) = retyped at t x
cast_scalar at t x (method_pointer c f) (method_pointer d g) = retyped at t x
cast_scalar at t x s r = breaks 17 at

abbrev pub takes_null : Sort → Bool
takes_null (object_pointer t) = true
takes_null void_pointer = true
takes_null (function_pointer t) = true
takes_null (data_pointer c t) = true
takes_null (method_pointer c f) = true
takes_null other = false

-- what is cast stands at the cast, and so do its conversions; the constant 0 is a null pointer of every kind
abbrev pub cast_plain : ℕ → ℕ → Sort → Value → Elab Value
cast_plain at t s x = known >>= (λ env. if is_zero x.number && takes_null s then gives (null_of t x) else cast_scalar at t x s (sort_of env.types x.type))

abbrev pub cast_value : ℕ → ℕ → Sort → Value → Elab Value
cast_value at t s v = plain v >>= (λ x. cast_plain at t s (record x { at = at }))

-- to void the value is not read
abbrev pub to_nothing : Env → ℕ → ℕ → Value → Value
to_nothing env at t v = computed at (node.Convert at t (unused env v)) t

-- an lvalue as one of the type that a reference refers to; it stands at the cast
abbrev pub as_place : ℕ → ℕ → Value → Elab Value
as_place at u v = do
  need v.is_lvalue 17 at
  env ← known
  cast_classes at u v (class_number (sort_of env.types v.type)) (class_number (sort_of env.types u))

abbrev pub cast_sort : ℕ → ℕ → Value → Sort → Elab Value
cast_sort at t v void_sort = known >>= (λ env. gives (to_nothing env at t v))
cast_sort at t v (reference_sort u) = as_place at u (record v { at = at })
cast_sort at t v s = cast_value at t s v

-- a cast to a type that is no class, of a value that is none
abbrev pub cast : ℕ → ℕ → Value → Elab Value
cast at t v = known >>= (λ env. cast_sort at (bare env.types t) v (sort_of env.types t))

-- T(): a zero of the type
abbrev pub zero_value : ℕ → ℕ → Elab Value
zero_value at t = do
  env ← known
  zero_sort (sort_of env.types t) (bare env.types t) (constant at (pos 0) t)
  where
    zero_sort : Sort → ℕ → Value → Elab Value
    zero_sort (integral k) u z = gives (record z { type = u })
    zero_sort (enumeral e) u z = gives (as_enumeration at u z)
    zero_sort void_sort u z = known >>= (λ env. gives (to_nothing env at u z))
    zero_sort s u z = if takes_null s then gives (null_of u z) else breaks 17 at

-- T(args): one argument as a cast, none gives 0, several are too many
abbrev pub from_arguments : ℕ → ℕ → List Value → Elab Value
from_arguments at t [] = zero_value at t
from_arguments at t (x ∷ []) = cast at t x
from_arguments at t (x ∷ y ∷ rest) = breaks 15 at
