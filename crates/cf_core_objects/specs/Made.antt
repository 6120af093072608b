-- How the object of a string literal is made.
use Rattle.std.specs.Prelude.{ℕ, List, ◌∷◌}
use Rattle.cf_core.specs.Types.{Name}
use Rattle.cf_core.specs.Run.{Act, ◌>>=◌, ◌>>◌, gives, born, changed}
use Rattle.cf_core.specs.Objects.{literal_of}

abbrev pub new_literal : ℕ → List ℕ → Name → Act ℕ
new_literal j bytes f = do
  o ← born (literal_of bytes)
  changed (λ s. record s { literals = record { function = f; number = j; object = o } ∷ s.literals })
  gives o
