-- The calls that failed, by their names.
use Rattle.std.specs.Prelude.{ℕ, List, count_by, bytes_eq}

-- how many of the names are this one
abbrev pub times : List (List ℕ) → List ℕ → ℕ
times names name = count_by (λ other. bytes_eq other name) names
