-- How the temporaries of a full expression are found, node by node, in the order in which they are there (12.2).
use Rattle.std.specs.Prelude.{ℕ, ◌+◌, Bool, [], ◌∷◌, ◌++◌}
use Rattle.cf_sequence_expr.specs.declared.temporaries.Found.{Found}

-- so many locals are passed
unfoldable pub skipped : ℕ → Found → Found
skipped count f = record f { next = f.next + count }

-- a temporary is there
unfoldable pub listed : ℕ → ℕ → Bool → Found → Found
listed local t b f = record f { made = f.made ++ record { local = local; ty = t; in_branch = b } ∷ [] }
