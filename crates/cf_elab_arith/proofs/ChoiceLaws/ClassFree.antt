-- No value is a class object where no type is a class.
use Rattle.std.proofs.Common.{◌≡◌, ℕ, ◌<◌, Bool, true, false, length, Some, slice_get, IsTrue, if◌then◌else◌, refl, sym, ap, ◌∙◌, true≢false}
use Rattle.cf_types.specs.declared.ty.Ty.{Ty}
use Rattle.cf_types.specs.declared.ty.Ty.TheVariants as ty
use Rattle.cf_types.specs.Table.{Table, IsTable}
use Rattle.cf_convert.specs.Constness.{type_at, bare}
use Rattle.cf_elab.specs.Env.{Env}
use Rattle.cf_elab.specs.MethodNode.{unused, object_place}
use Rattle.cf_elab.specs.Operand.{Value, Sort, ty_sort, pointer_sort, sort_of, is_class}
use Rattle.cf_elab_env.specs.Holds.{HasNoClass, IsEnv, IsType, without_class}
use Rattle.cf_elab_env.proofs.Growth.{bare-known, here}
use Rattle.cf_elab_env.proofs.Sorts.{no_class_at}

no_class_pointer : (t : ℕ) (v : Ty) → is_class (pointer_sort t v) ≡ false
no_class_pointer t ty.Void = refl
no_class_pointer t (ty.Int k) = refl
no_class_pointer t (ty.Enum e) = refl
no_class_pointer t (ty.Class c) = refl
no_class_pointer t (ty.Ptr u) = refl
no_class_pointer t (ty.Ref u) = refl
no_class_pointer t (ty.Array u n) = refl
no_class_pointer t (ty.Fun f) = refl
no_class_pointer t (ty.MemData c u) = refl
no_class_pointer t (ty.MemFun c f) = refl
no_class_pointer t (ty.Const u) = refl

no_class_type : (types : Table) (v : Ty) → IsTrue (without_class v) → is_class (ty_sort types v) ≡ false
no_class_type types ty.Void h = refl
no_class_type types (ty.Int k) h = refl
no_class_type types (ty.Enum e) h = refl
no_class_type types (ty.Class c) h = absurd (true≢false (sym h))
no_class_type types (ty.Ptr t) h = no_class_pointer t (type_at types (bare types t))
no_class_type types (ty.Ref t) h = refl
no_class_type types (ty.Array t n) h = refl
no_class_type types (ty.Fun f) h = refl
no_class_type types (ty.MemData c t) h = refl
no_class_type types (ty.MemFun c f) h = refl
no_class_type types (ty.Const t) h = refl

pub no_class : (types : Table) (t : ℕ) → IsTable types → HasNoClass types → IsType types t → is_class (sort_of types t) ≡ false
no_class types t table all known =
    let b = bare types t in
    no_class_type types (type_at types b) (no_class_at types b (type_at types b) all (here types b (bare-known types t table known)))

-- a value that nothing takes is its node
pub unused_node : (env : Env) (v : Value) → IsEnv env → IsType env.types v.type → unused env v ≡ v.node
unused_node env v e known = ap (λ b. if b then (object_place v).node else v.node) (no_class env.types v.type e.table e.no_class_type known)
