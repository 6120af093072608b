-- What a declaration initialises its object by.
use Rattle.std.specs.Prelude.{ℕ, Bool, true, false, List, [], ◌∷◌, Option, None, Some}
use Rattle.std.specs.Option.{option_map_or}
use Rattle.cf_types.specs.Table.{Table}
use Rattle.cf_elab.specs.Lists.{Tree}
use Rattle.cf_elab.specs.Objects as objects
use Rattle.cf_elab.specs.Objects.{written_place}
use Rattle.cf_elab_initial.specs.Lists.Seen.{tree_seen, trees_seen}
use Rattle.cf_elab_initial.specs.Lists.Known.{TreeKnown, TreesKnown}
use Rattle.cf_elab_declare.specs.declared.starts.written.Written.{Written}
use Rattle.cf_elab_declare.specs.declared.starts.written.Written.TheVariants.{Equals, Bracketed}

abbrev pub written_seen : Written → objects.Written
written_seen (Equals at t) = objects.equals at (tree_seen t)
written_seen (Bracketed at ts) = objects.bracketed at (trees_seen ts)

abbrev pub is_bracketed : objects.Written → Bool
is_bracketed (objects.equals at t) = false
is_bracketed (objects.bracketed at ts) = true

abbrev pub alone : List Tree → Option Tree
alone (t ∷ []) = Some t
alone ts = None

-- the one initialiser that it is
abbrev pub one_of : objects.Written → Option Tree
one_of (objects.equals at t) = Some t
one_of (objects.bracketed at ts) = alone ts

abbrev pub start_place : Option objects.Written → ℕ → ℕ
start_place w at = option_map_or written_place w at

abbrev pub WrittenKnown : Table → objects.Written → Type 0
WrittenKnown types (objects.equals at t) = TreeKnown types t
WrittenKnown types (objects.bracketed at ts) = TreesKnown types ts

abbrev pub GivenKnown : Table → Option objects.Written → Type 0
GivenKnown types None = Unit {0}
GivenKnown types (Some w) = WrittenKnown types w
