use Rattle.std.proofs.Common.{◌≡◌, ℕ, List, take}
use Rattle.std.specs.Prelude.{bytes_eq}
use Rattle.std.specs.List.{list_any}
use Rattle.cf_name_table.proofs.name_table.table_of.Given as goal

abbrev pub invariant-loop-name : goal.invariant-loop-name
invariant-loop-name l = (q : List ℕ) → list_any (λ k. bytes_eq q k.items) l.table.keys ≡ list_any (bytes_eq q) (take l.name-index l.names)
