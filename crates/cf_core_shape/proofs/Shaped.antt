-- What shapes and signatures are by what a type's number leads to.
use Rattle.std.proofs.Common.{◌≡◌, ℕ, suc, ◌<◌, length, All, arith, subst, true, false, List, [], ◌∷◌, ◌++◌, Option, None, Some, slice_get, refl, ap, sym, ◌∙◌, append_assoc, append-nil}
use Rattle.std.specs.Option.{option_map, option_and_then}
use Rattle.cf_types.specs.declared.ty.Ty.{Ty}
use Rattle.cf_types.specs.declared.ty.Ty.TheVariants as ty
use Rattle.cf_types.specs.declared.ty.Fun.{Fun}
use Rattle.cf_types.specs.Table.{Table, NamesBelow, Names, fun_parts, parts_of_fun}
use Rattle.cf_core_shape.specs.Shapes.{form_of, shaped, shape_in, shape_of, row_in, array_of, object_in, object_type_of}

pub shape_of_const : (types : List Ty) (t u : ℕ) (v : Ty) → slice_get types t ≡ Some (ty.Const u) → slice_get types u ≡ Some v
    → shape_of types t ≡ option_map (shaped true) (form_of v)
shape_of_const types t u v h k = ap (option_and_then (shape_in types)) h ∙ ap (λ o. option_map (shaped true) (option_and_then form_of o)) k

shape_in_other : (types : List Ty) (v : Ty) → ((u : ℕ) → v ≡ ty.Const u → ⊥) → shape_in types v ≡ option_map (shaped false) (form_of v)
shape_in_other types (ty.Const u) h = absurd (h u refl)
shape_in_other types v h = refl

pub shape_of_other : (types : List Ty) (t : ℕ) (v : Ty) → slice_get types t ≡ Some v → ((u : ℕ) → v ≡ ty.Const u → ⊥)
    → shape_of types t ≡ option_map (shaped false) (form_of v)
shape_of_other types t v h k = ap (option_and_then (shape_in types)) h ∙ shape_in_other types v k

-- an object's type, by what its number leads to
pub object_at : (types : Table) (t : ℕ) (v : Ty) → slice_get types.types t ≡ Some v → object_type_of types t ≡ object_in types.types t v
object_at types t v h = ap (option_and_then (object_in types.types t)) h

pub row_at : (types : List Ty) (n t : ℕ) (v : Ty) → slice_get types t ≡ Some v → array_of types n t ≡ row_in types n t v
row_at types n t v h = ap (option_and_then (row_in types n t)) h

-- what the parts of a function type are known as
pub params_known : (f : Fun) (n : ℕ) → All (λ t. t < n) (fun_parts f) → All (λ t. t < n) f.params
params_known f n h k d lt = h (suc k) d (omega arith)

pub function_known : (types : Table) (t f : ℕ) (v : Ty) (fun : Fun) → t < length types.types → Names types.funs t (length types.funs) v → v ≡ ty.Fun f
    → slice_get types.funs f ≡ Some fun → All (λ p. p < length types.types) (fun_parts fun)
function_known types t f v fun within names is found =
    let named : Names types.funs t (length types.funs) (ty.Fun f) = subst (Names types.funs t (length types.funs)) is names in
    let all : All (λ p. p < t) (fun_parts fun) = subst (λ o. All (λ p. p < t) (parts_of_fun o)) found named.parts_known in
    λ k d lt. let below = all k d lt in omega (arith, below, within)
