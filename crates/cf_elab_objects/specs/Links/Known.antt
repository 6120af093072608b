-- The names that the C knows without a declaration.
use Rattle.std.specs.Prelude.{ℕ, Bool, nat_eq, List}
use Rattle.std.specs.Cmp.Lexicographic.{pointwise}
use Rattle.std.specs.List.{list_any}
use Rattle.cf_classes.specs.LinkName.{known_names}

unfoldable pub is_known : List ℕ → Bool
is_known name = list_any (pointwise nat_eq name) known_names
