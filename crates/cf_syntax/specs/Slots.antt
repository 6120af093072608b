-- A table of entries by their names: each name has a slot, whose entries answer for it.
use Rattle.std.specs.Prelude.{◌≡◌, ℕ, ◌+◌, ◌*◌, ◌%◌, List, [], ◌∷◌, ◌++◌, bytes_eq, not, unwrap_or}
use Rattle.std.specs.List.{filter}
use Rattle.cf_shared.specs.declared.tree.Tree.{Tree}
use Rattle.cf_shared.specs.At.{at}
use Rattle.cf_syntax.specs.declared.type_names.Entry.{Entry}
use Rattle.cf_syntax.specs.Kinds.{kind_of}

-- the bytes as digits to the base 31, modulo a prime, behind those of which this much is known
abbrev pub slot_behind : ℕ → List ℕ → ℕ
slot_behind slot [] = slot
slot_behind slot (b ∷ bs) = slot_behind ((slot * 31 + b) % 65521) bs

abbrev pub slot_of : List ℕ → ℕ
slot_of name = slot_behind 0 name

abbrev pub entries_at : Tree (List Entry) → ℕ → List Entry
entries_at slots slot = unwrap_or (at slots slot) []

-- the slot of each name says what the list says
abbrev pub IsTable : Tree (List Entry) → List Entry → Type 0
IsTable slots all = (name : List ℕ) → kind_of (entries_at slots (slot_of name)) name ≡ kind_of all name

-- the entries of other names
abbrev pub others : List ℕ → List Entry → List Entry
others name entries = filter (λ e. not (bytes_eq e.name name)) entries

-- the entry as the newest and only one of its name
abbrev pub renewed : List Entry → Entry → List Entry
renewed entries e = others e.name entries ++ e ∷ []
