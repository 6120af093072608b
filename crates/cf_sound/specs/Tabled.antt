-- A table that tells of each type by its number whether it is as elaboration makes it.
use Rattle.std.specs.Prelude.{◌≡◌, ℕ, ◌<◌, Bool, true, ◌&&◌, not, nat_le, List, length, get_or, Option, Some, None, slice_get}
use Rattle.std.specs.List.{list_all}
use Rattle.cf_types.specs.declared.ty.Ty.{Ty}
use Rattle.cf_types.specs.declared.ty.Ty.TheVariants as ty
use Rattle.cf_types.specs.declared.ty.Fun.{Fun}
use Rattle.cf_core.specs.FromTypes.{Tables, type_of}
use Rattle.cf_core.specs.Places.{is_reference}
use Rattle.cf_core.specs.Typing.{is_function}
use Rattle.cf_core_typed.specs.Same.{takes_const}
use Rattle.cf_core_sound.specs.Proper.{most, is_proper}

-- of the first types, so many
pub record AreKnown (tables : Tables) (n : ℕ) (known : List Bool) : Type 0 where
  pub size : length known ≡ n
  pub at : (t : ℕ) → t < n → get_or known t true ≡ is_proper (type_of tables t)

-- of all types; a number that the file's table does not have stands for `void`
pub record AreProper (tables : Tables) (known : List Bool) : Type 0 where
  pub at : (t : ℕ) → get_or known t true ≡ is_proper (type_of tables t)

abbrev pub signature_known : List Bool → Option Fun → Bool
signature_known known None = true
signature_known known (Some f) = list_all (λ t. get_or known t true) f.params && get_or known f.result true

-- what it tells of a type of this form, by the types that it names
module _ (tables : Tables) (known : List Bool) where
  abbrev pub target_known : ℕ → Bool
  target_known t = not (is_reference (type_of tables t)) && get_or known t true

  abbrev pub entry_known : Ty → Bool
  entry_known ty.Void = true
  entry_known (ty.Int k) = true
  entry_known (ty.Enum e) = true
  entry_known (ty.Class c) = true
  entry_known (ty.Ptr t) = target_known t
  entry_known (ty.Ref t) = target_known t
  entry_known (ty.Array t n) =
      not (is_reference (type_of tables t)) && (get_or known t true && (not (is_function (type_of tables t)) && nat_le n most))
  entry_known (ty.Fun f) = signature_known known (slice_get tables.types.funs f)
  entry_known (ty.MemData c t) = get_or known t true
  entry_known (ty.MemFun c f) = signature_known known (slice_get tables.types.funs f)
  entry_known (ty.Const t) = takes_const (type_of tables t) && get_or known t true
