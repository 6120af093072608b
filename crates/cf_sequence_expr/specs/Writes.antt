-- How what is written of a function goes on, statement by statement.
use Rattle.std.specs.Prelude.{ℕ, ◌+◌, ◌-◌, List, [], ◌∷◌, ◌++◌}
use Rattle.cf_plain.specs.declared.action.Action.{Action}
use Rattle.cf_plain.specs.declared.action.Action.TheVariants as action
use Rattle.cf_plain.specs.declared.statement.Plain.{Plain}
use Rattle.cf_plain.specs.declared.statement.Plain.TheVariants as plain
use Rattle.cf_sequence_expr.specs.declared.writing.Full.{Full}
use Rattle.cf_sequence_expr.specs.declared.writing.Writing.{Writing}

-- the register of a local's flag, which tells whether the temporary is there (12.2)
unfoldable pub flag : Full → ℕ → ℕ
flag x local = x.base + (local - x.first)

-- a statement behind those so far
unfoldable pub put : Plain → Writing → Writing
put s w = record w { code = w.code ++ s ∷ [] }

unfoldable pub set : ℕ → Action → Writing → Writing
set n a w = put (plain.Set n a) w

unfoldable pub act : Action → Writing → Writing
act a w = put (plain.Act a) w

-- a value is looked at where it is used (6.6.3)
unfoldable pub used : ℕ → Writing → Writing
used n w = act (action.Truth n) w

-- the same without statements
unfoldable pub emptied : Writing → Writing
emptied w = record w { code = [] }

-- a branch by the number in a register: statements before it, those where it is not 0, and what was written last
unfoldable pub branched : ℕ → List Plain → List Plain → Writing → Writing
branched n before chosen w = record w { code = before ++ plain.If n chosen w.code ∷ [] }

-- what is written within a branch, and then the branch behind the statements so far
abbrev pub within : ℕ → (Writing → Writing) → (Writing → Writing) → Writing → Writing
within n chosen other w =
    let first = chosen (emptied w) in
    branched n w.code first.code (other (emptied first))

-- so many locals were added
unfoldable pub passed : ℕ → Writing → Writing
passed count w = record w { next = w.next + count }
