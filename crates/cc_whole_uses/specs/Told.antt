-- Names that stand in memory.
use Rattle.std.specs.Prelude.{ℕ, List, map}
use Rattle.std.specs.Borrow.{Bor}

abbrev pub told : List (Bor (List ℕ)) → List (List ℕ)
told names = map (λ n. n.now) names
