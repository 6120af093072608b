-- Pointers to members, and members through them (5.3, 5.5).
use Rattle.std.specs.Prelude.{ℕ, true, false, not, ◌==◌, ◌||◌, if◌then◌else◌, List, [], ◌∷◌, length, Option, None, Some, slice_get}
use Rattle.std.specs.Option.{option_map_or}
use Rattle.cf_types.specs.declared.ty.Fun.{Fun}
use Rattle.cf_types.specs.declared.ty.Ty.{Ty}
use Rattle.cf_types.specs.declared.ty.Ty.TheVariants as ty
use Rattle.cf_types.specs.Table.{Table}
use Rattle.cf_convert.specs.Constness.{type_at, is_const}
use Rattle.cf_convert.specs.Converts.{base_path}
use Rattle.cf_classes.specs.declared.class.MemberDef.{MemberDef}
use Rattle.cf_classes.specs.declared.class.MemberRef.{MemberRef}
use Rattle.cf_classes.specs.TypeTree.{params_of, is_const_fun}
use Rattle.cf_core.specs.declared.node.Core.TheVariants as node
use Rattle.cf_core.specs.declared.node.Target.{Target}
use Rattle.cf_core.specs.declared.node.Target.TheVariants as target
use Rattle.cf_elab.specs.Env.{Env}
use Rattle.cf_elab.specs.MethodNode.{member_at, is_virtual, method_link, object_place}
use Rattle.cf_elab.specs.Arguments.{result_of}
use Rattle.cf_elab.specs.UserFit.{arguments}
use Rattle.cf_elab.specs.Answer.{Elab, ◌>>=◌, ◌>>◌, gives, breaks, need, known}
use Rattle.cf_elab.specs.Made.{intern}
use Rattle.cf_elab.specs.Operand.{Value, Operand, value, methods, field_name, bound_method, Methods, computed, place_of, value_of, plain, Sort, sort_of, data_pointer, method_pointer}
use Rattle.cf_elab.specs.Call.{called, pick}
use Rattle.cf_elab.specs.Members.{class_defs, need_use, need_base, base_at, class_number, field_number, field_type_step}
use Rattle.cf_elab.specs.MethodCall.{arrow_object}
use Rattle.cf_elab.specs.Unary.{address_of}

-- ---- &C::x of a nonstatic member: a pointer to a member of the class that declares it; access is as of an object of C (11.5)

abbrev pub pointer_to_field : ℕ → MemberRef → Option MemberDef → Elab Value
pointer_to_field at m None = breaks 18 at
pointer_to_field at m (Some d) = do
  env ← known
  t ← intern (ty.MemData m.class d.ty)
  gives (computed at (node.DataPointer at (field_number env m)) t)

abbrev pub target_of : Env → MemberRef → MemberDef → Target
target_of env m d = if is_virtual env m d then target.Dispatched m else target.Direct (method_link env m d)

abbrev pub method_type : ℕ → Ty → Ty
method_type c (ty.Fun f) = ty.MemFun c f
method_type c other = other

-- a static member function is a function as any other
abbrev pub pointer_to_method : ℕ → MemberRef → Option MemberDef → Elab Value
pointer_to_method at m None = breaks 46 at
pointer_to_method at m (Some d) = do
  env ← known
  if d.is_static then address_of at (place_of at (node.Function at (method_link env m d) d.ty) d.ty true) else member_function env
  where
    member_function : Env → Elab Value
    member_function env = do
      t ← intern (method_type m.class (type_at env.types d.ty))
      gives (computed at (node.FunctionPointer at (target_of env m d)) t)

abbrev pub address_of_methods : ℕ → Methods → List MemberRef → Elab Value
address_of_methods at ms (m ∷ []) = do
  env ← known
  need_use ms.at m ms.naming (Some ms.naming)
  pointer_to_method at m (member_at env m)
address_of_methods at ms other = breaks 46 ms.at

abbrev pub address_of_operand : ℕ → Operand → Elab Value
address_of_operand at (field_name n c p m) = do
  need_use n m c (Some c)
  env ← known
  pointer_to_field at m (member_at env m)
address_of_operand at (methods ms) = address_of_methods at ms ms.found
address_of_operand at o = value_of o >>= address_of at

-- ---- .* and ->*

-- the object as one of the class that the pointer is of, K14
abbrev pub object_as : ℕ → Value → ℕ → Option ℕ → Elab Value
object_as at v c None = breaks 18 at
object_as at v c (Some d) = do
  need_base at d c
  env ← known
  base_at at (if d == c then [] else option_map_or (λ p. p) (base_path (class_defs env) d c) []) v

abbrev pub through_data : ℕ → Value → Value → ℕ → Elab Operand
through_data at o p t = do
  env ← known
  u ← field_type_step t (is_const env.types o.type) (type_at env.types t)
  gives (value (place_of at (node.Through at o.node p.node) u false))

abbrev pub fun_number : Table → ℕ → Option Fun
fun_number types f = slice_get types.funs f

-- a function that is not const is not called on a const object, K31
abbrev pub through_sort : ℕ → Value → Value → Sort → Elab Operand
through_sort at v p (data_pointer c t) = do
  env ← known
  o ← object_as at v c (class_number (sort_of env.types v.type))
  through_data at o p t
through_sort at v p (method_pointer c f) = do
  env ← known
  o ← object_as at v c (class_number (sort_of env.types v.type))
  need (not (is_const env.types o.type) || is_const_fun (fun_number env.types f)) 31 at
  gives (bound_method o p f)
through_sort at v p s = breaks 18 at

abbrev pub through_row : ℕ → Value → Value → Elab Operand
through_row at v x = do
  p ← plain x
  env ← known
  through_sort at (object_place v) p (sort_of env.types p.type)

abbrev pub arrow_through_row : ℕ → Value → Value → Elab Operand
arrow_through_row at v x = arrow_object at v >>= (λ o. through_row at o x)

-- ---- a call through one

abbrev pub call_bound : ℕ → Value → Value → ℕ → List Value → Elab Value
call_bound at o p f vs = do
  env ← known
  let ps = params_of (fun_number env.types f) in pick at (record { params = ps; least = length ps } ∷ []) vs
  args ← arguments at (params_of (fun_number env.types f)) [] vs
  t ← intern (ty.Fun f)
  called at (result_of (fun_number env.types f)) (node.PointerCall at (Some o.node) p.node t args)
