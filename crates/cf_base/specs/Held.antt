-- What a list of named files holds.
use Rattle.std.specs.Prelude.{ℕ, List, Option, Some, find, option_map, unwrap_or, bytes_eq, [], string_bytes, Vec, String}
use Rattle.std.specs.Global.{Global}

abbrev pub Named : Type 0
Named = String Global × Vec ℕ Global

-- the bytes of the first file of this name, if there is one
abbrev pub held : List Named → List ℕ → Option (List ℕ)
held files name = option_map (λ file. file.1.items) (find (λ file. bytes_eq (string_bytes file.0) name) files)

-- the same, where a name without a file is an empty file
abbrev pub held_or_empty : List Named → List ℕ → Option (List ℕ)
held_or_empty files name = Some (unwrap_or (held files name) [])
