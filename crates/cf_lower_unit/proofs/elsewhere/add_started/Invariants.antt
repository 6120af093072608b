use Rattle.std.proofs.Common.{◌≡◌, ◌++◌, drop}
use Rattle.cf_lower_fn.specs.Walks.{told}
use Rattle.cf_lower_unit.specs.Pieces.{all_started}
use Rattle.cf_lower_unit.proofs.elsewhere.add_started.Given as goal

abbrev pub invariant-loop-x : goal.invariant-loop-x
invariant-loop-x l =
    told l.tables l.out.items ++ all_started l.tables (drop l.x-index l.statics) ≡ told l.tables l.initial.out.items ++ all_started l.tables l.statics
