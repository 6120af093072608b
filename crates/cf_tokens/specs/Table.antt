-- Tables of spellings.
use Rattle.std.specs.Prelude.{ℕ, List, Bool, Option}
use Rattle.std.specs.List.{position, list_any}
use Rattle.std.specs.Str.{bytes_eq}

-- the number, from 0, of the first entry of a table that is spelled so
unfoldable pub index_in : List (List ℕ) → List ℕ → Option ℕ
index_in table spelling = position (λ entry. bytes_eq entry spelling) table

-- whether an entry of a table is spelled so
unfoldable pub stands_in : List (List ℕ) → List ℕ → Bool
stands_in table spelling = list_any (λ entry. bytes_eq entry spelling) table
