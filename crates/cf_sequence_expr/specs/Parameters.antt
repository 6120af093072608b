-- The parameters of function types, by the numbers of types.
use Rattle.std.specs.Prelude.{ℕ, zero, suc, Bool, List, [], ◌∷◌, slice_get}
use Rattle.cf_types.specs.Table.{Table}
use Rattle.cf_core.specs.FromTypes.{Tables}
use Rattle.cf_core.specs.Numbers.{known_step, known_part}
use Rattle.cf_core.specs.declared.node.PartStart.{PartStart, fold-PartStart}
use Rattle.cf_classes.specs.TypeTree.{fun_of, params_of}

-- the types of the parameters of the function type of this number; none of another type
abbrev pub parameters_at : Table → ℕ → List ℕ
parameters_at types t = params_of (fun_of types (slice_get types.types t))

-- whether every number in the initialiser of a base or data member is there in the tables
abbrev pub part_known : Tables → PartStart → Bool
part_known tables = fold-PartStart Bool Bool (known_step tables) (known_part tables)

-- so many numbers from the first
abbrev pub counted : ℕ → ℕ → List ℕ
counted k zero = []
counted k (suc n) = k ∷ counted (suc k) n
