-- The text of a link name as it is written: none once it is longer than a link name may be.
use Rattle.std.specs.Prelude.{ℕ, nat_le, if◌then◌else◌, List, [], ◌∷◌, ◌++◌, length, Option, None, Some}
use Rattle.cf_elab.specs.Complete.{most_name}

unfoldable pub capped : List ℕ → Option (List ℕ)
capped text = if nat_le (length text) most_name then Some text else None

abbrev behind : List ℕ → Option (List ℕ) → Option (List ℕ)
behind [] t = t
behind (b ∷ bs) None = None
behind (b ∷ bs) (Some text) = capped (text ++ b ∷ bs)

-- with a piece at its end
unfoldable pub added : List ℕ → Option (List ℕ) → Option (List ℕ)
added = behind
