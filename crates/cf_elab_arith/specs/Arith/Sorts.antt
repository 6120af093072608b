-- What operators ask of the type of an operand, each under a name that does not unfold.
use Rattle.std.specs.Prelude.{ℕ, Bool, true, false, Option, None, Some}
use Rattle.cf_base.specs.declared.kind.Kind.{Kind}
use Rattle.cf_types.specs.Table.{Table}
use Rattle.cf_elab.specs.Complete.{complete}
use Rattle.cf_elab.specs.Env.{Env}
use Rattle.cf_elab.specs.Operand.{Sort, sort_of, arithmetic, integral, enumeral, object_pointer, void_pointer, function_pointer, data_pointer, method_pointer}

-- the integer type that it is itself, not promoted
abbrev pub integral_of : Sort → Option Kind
integral_of (integral k) = Some k
integral_of other = None

-- the type of the object that a pointer leads to
abbrev pub object_of : Sort → Option ℕ
object_of (object_pointer t) = Some t
object_of other = None

-- the type of the object or function that a pointer leads to
abbrev pub target_of : Sort → Option ℕ
target_of (object_pointer t) = Some t
target_of (function_pointer t) = Some t
target_of other = None

abbrev pub is_pointer : Sort → Bool
is_pointer (object_pointer t) = true
is_pointer void_pointer = true
is_pointer (function_pointer t) = true
is_pointer other = false

abbrev pub is_enumeral : Sort → Bool
is_enumeral (enumeral e) = true
is_enumeral other = false

abbrev pub is_void_pointer : Sort → Bool
is_void_pointer void_pointer = true
is_void_pointer other = false

-- a pointer to a member, which there is none of without classes
abbrev pub is_member : Sort → Bool
is_member (data_pointer c t) = true
is_member (method_pointer c f) = true
is_member other = false

-- ---- of a type by its number

-- the promoted type of an integer or an enumeration
unfoldable pub kind_at : Table → ℕ → Option Kind
kind_at types t = arithmetic (sort_of types t)

unfoldable pub integral_at : Table → ℕ → Option Kind
integral_at types t = integral_of (sort_of types t)

unfoldable pub object_at : Table → ℕ → Option ℕ
object_at types t = object_of (sort_of types t)

unfoldable pub target_at : Table → ℕ → Option ℕ
target_at types t = target_of (sort_of types t)

unfoldable pub pointer_at : Table → ℕ → Bool
pointer_at types t = is_pointer (sort_of types t)

unfoldable pub enum_at : Table → ℕ → Bool
enum_at types t = is_enumeral (sort_of types t)

unfoldable pub void_at : Table → ℕ → Bool
void_at types t = is_void_pointer (sort_of types t)

unfoldable pub member_at : Table → ℕ → Bool
member_at types t = is_member (sort_of types t)

unfoldable pub complete_at : Env → ℕ → Bool
complete_at = complete
