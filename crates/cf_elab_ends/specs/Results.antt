-- What functions of a table give.
use Rattle.std.specs.Prelude.{◌≡◌, ℕ, Some, slice_get}
use Rattle.std.specs.Option.{option_map}
use Rattle.cf_types.specs.Table.{Table}
use Rattle.cf_types.specs.declared.ty.Fun.{Fun}

-- the function type of this number gives this type
abbrev pub GivesType : Table → ℕ → ℕ → Type 0
GivesType types f t = option_map (λ (g : Fun). g.result) (slice_get types.funs f) ≡ Some t
