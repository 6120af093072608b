-- Scopes that are closed and opened again (3.2).
use Rattle.std.specs.Prelude.{ℕ, take, drop, length, ◌++◌}
use Rattle.cf_syntax.specs.NamesData.{Names}

-- the names with so many scopes open inside the file's
abbrev pub closed_to : ℕ → Names → Names
closed_to n names = record { classes = names.classes; file = names.file; inner = take n names.inner }

-- the names with the scopes that are open in the other ones beyond theirs
abbrev pub opened_beyond : Names → Names → Names
opened_beyond names other = record { classes = names.classes; file = names.file; inner = names.inner ++ drop (length names.inner) other.inner }
