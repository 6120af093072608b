-- Types as trees: what holds of a type, made from what holds of the types that it names, which stand before it in the table.
use Rattle.std.specs.Prelude.{ℕ, Bool, true, false, ◌==◌, List, [], ◌∷◌, reverse, length, Option, None, Some, slice_get}
use Rattle.cf_types.specs.declared.ty.Ty.{Ty}
use Rattle.cf_types.specs.declared.ty.Ty.TheVariants as ty
use Rattle.cf_types.specs.declared.ty.Fun.{Fun}
use Rattle.cf_types.specs.Table.{Table}

-- of the types latest first
abbrev pub of_types : {A : Type 0} → A → ((ℕ → A) → Ty → A) → List Ty → ℕ → A
of_types none make [] t = none
of_types {A} none make (ty ∷ older) t = elim (t == length older) as (λ _. A) [ true ↦ make (of_types none make older) ty | false ↦ of_types none make older t ]

abbrev pub of_type : {A : Type 0} → A → ((ℕ → A) → Ty → A) → Table → ℕ → A
of_type none make types t = of_types none make (reverse types.types) t

-- the function type that a type is
abbrev pub fun_of : Table → Option Ty → Option Fun
fun_of types (Some (ty.Fun f)) = slice_get types.funs f
fun_of types other = None

-- the parameters of a function type, and whether it is that of a const member function
abbrev pub params_of : Option Fun → List ℕ
params_of None = []
params_of (Some fun) = fun.params

abbrev pub is_const_fun : Option Fun → Bool
is_const_fun None = false
is_const_fun (Some fun) = fun.is_const

-- the class that an object of this type holds: itself, or as the elements of an array; const or not
abbrev pub class_step : (ℕ → Option ℕ) → Ty → Option ℕ
class_step rec (ty.Class c) = Some c
class_step rec (ty.Array t n) = rec t
class_step rec (ty.Const t) = rec t
class_step rec other = None

abbrev pub class_in : Table → ℕ → Option ℕ
class_in types t = of_type None class_step types t

-- whether an object of this type may not be assigned to: const, a reference, or an array of const
abbrev pub fixed_step : (ℕ → Bool) → Ty → Bool
fixed_step rec (ty.Const t) = true
fixed_step rec (ty.Ref t) = true
fixed_step rec (ty.Array t n) = rec t
fixed_step rec other = false

abbrev pub is_fixed : Table → ℕ → Bool
is_fixed types t = of_type false fixed_step types t
