-- Inputs of bytes: of a number past int the source keeps all, and a C local the lowest 32 bits.
use Rattle.std.specs.Prelude.{ℕ, ◌<◌, List, All}

abbrev pub IsInput : List ℕ → Type 0
IsInput input = All (λ b. b < 256) input
