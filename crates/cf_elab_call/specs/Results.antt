-- What a call gives, by the type that it returns.
use Rattle.std.specs.Prelude.{ℕ, false}
use Rattle.cf_types.specs.declared.ty.Ty.{Ty}
use Rattle.cf_types.specs.declared.ty.Ty.TheVariants as ty
use Rattle.cf_types.specs.Table.{Table}
use Rattle.cf_convert.specs.Constness.{type_at, bare}
use Rattle.cf_core.specs.declared.node.Core.{Core as Node}
use Rattle.cf_elab.specs.Operand.{Value, computed, place_of}

-- of a reference the object (8.4.3), and else a value without a const of its own
abbrev pub returned_as : Table → ℕ → ℕ → Node → Ty → Value
returned_as types at t n (ty.Ref u) = place_of at n u false
returned_as types at t n other = computed at n (bare types t)

unfoldable pub returned : Table → ℕ → ℕ → Node → Value
returned types at t n = returned_as types at t n (type_at types t)
