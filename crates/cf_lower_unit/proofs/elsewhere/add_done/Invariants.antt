use Rattle.std.proofs.Common.{◌≡◌, ◌++◌, drop}
use Rattle.cf_lower_fn.specs.Walks.{told}
use Rattle.cf_lower_unit.specs.Pieces.{all_done}
use Rattle.cf_lower_unit.proofs.elsewhere.add_done.Given as goal

abbrev pub invariant-loop-f : goal.invariant-loop-f
invariant-loop-f l =
    told l.tables l.out.items ++ all_done l.tables (drop l.f-index l.functions) ≡ told l.tables l.initial.out.items ++ all_done l.tables l.functions
