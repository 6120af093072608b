-- An initialiser of a declarator, if it has one.
use Rattle.std.specs.Prelude.{ℕ, Option}
use Rattle.std.specs.Option.{option_map}
use Rattle.cf_unit.specs.declared.initialiser.Initialiser.{Initialiser}
use Rattle.cf_elab.specs.Declaration.{Initial, initial_of, initial_place}
use Rattle.cf_elab.specs.Objects as objects
use Rattle.cf_elab_declare.specs.Starts.Written.{written_seen}
use Rattle.cf_elab_declare.specs.declared.starts.written.Written.{Written}

-- as the definitions of elaboration see it
abbrev pub given : Option Initialiser → Option Initial
given = option_map initial_of

abbrev pub given_seen : Option Written → Option objects.Written
given_seen = option_map written_seen

abbrev pub place_of : Option Initialiser → Option ℕ
place_of i = option_map initial_place (given i)
