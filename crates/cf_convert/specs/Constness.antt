-- Const of types, and types that are the same but for const.
use Rattle.std.specs.Prelude.{ℕ, Bool, true, false, ◌==◌, ◌&&◌, slice_get, unwrap_or}
use Rattle.cf_types.specs.declared.ty.Ty.{Ty}
use Rattle.cf_types.specs.declared.ty.Ty.TheVariants as ty
use Rattle.cf_types.specs.Table.{Table}
use Rattle.cf_classes.specs.TypeTree.{of_type}

-- a type by its number
abbrev pub type_at : Table → ℕ → Ty
type_at types t = unwrap_or (slice_get types.types t) ty.Void

-- whether objects of a type are const: an array is const where its elements are (7.1.6)
abbrev pub const_step : (ℕ → Bool) → Ty → Bool
const_step rec (ty.Const t) = true
const_step rec (ty.Array t n) = rec t
const_step rec other = false

abbrev pub is_const : Table → ℕ → Bool
is_const types t = of_type false const_step types t

abbrev inside_const : ℕ → Ty → ℕ
inside_const t (ty.Const u) = u
inside_const t other = t

-- the type without a const that stands on it
abbrev pub bare : Table → ℕ → ℕ
bare types t = inside_const t (type_at types t)

abbrev pub alike_array : (ℕ → Bool) → ℕ → Ty → Bool
alike_array rec n (ty.Array t m) = n == m && rec t
alike_array rec n other = false

-- whether a type, by itself and by its number, is the same as another but for const
abbrev pub alike_step : Table → (ℕ → ℕ → ℕ → Bool) → Ty → ℕ → ℕ → Bool
alike_step types rec (ty.Const t) own u = rec t t u
alike_step types rec (ty.Array t n) own u = alike_array (rec t t) n (type_at types (bare types u))
alike_step types rec other own u = own == bare types u

-- whether two types are the same but for const on them or, where they are arrays, on their elements; const further inside counts
abbrev pub is_alike : Table → ℕ → ℕ → Bool
is_alike types t u = of_type (λ own v. false) (alike_step types) types t t u
