use Rattle.std.proofs.Common.{◌≡◌, map, drop}
use Rattle.cf_core.specs.FromTypes.{Tables}
use Rattle.cf_sequence_built.specs.Unbuilt.{test, next_of_all}
use Rattle.cf_sequence_built.proofs.statements.+nexts.Given as goal

abbrev pub invariant-next_of_all-loop-s : goal.invariant-next_of_all-loop-s
invariant-next_of_all-loop-s l =
    (tables : Tables) → next_of_all l.behind (map (test tables) (drop l.s-index l.initial.all)) ≡ next_of_all l.below (map (test tables) l.initial.all)
