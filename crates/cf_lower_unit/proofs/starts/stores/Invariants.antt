use Rattle.std.proofs.Common.{◌≡◌, ◌++◌, drop}
use Rattle.cf_lower_stmt.specs.Steps.{written}
use Rattle.cf_lower_unit.specs.Pieces.{all_starts}
use Rattle.cf_lower_unit.proofs.starts.stores.Given as goal

abbrev pub invariant-loop-x : goal.invariant-loop-x
invariant-loop-x l = written l.code ++ all_starts l.tables (drop l.x-index l.all) ≡ all_starts l.tables l.all
