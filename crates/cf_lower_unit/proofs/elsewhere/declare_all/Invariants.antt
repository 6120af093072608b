use Rattle.std.proofs.Common.{◌≡◌, ◌++◌, drop}
use Rattle.cc_whole.specs.Plain.{items_of}
use Rattle.cf_lower.specs.Functions.{other_names}
use Rattle.cf_lower_fn.specs.Walks.{told}
use Rattle.cf_lower_unit.specs.Pieces.{named_by}
use Rattle.cf_lower_unit.proofs.elsewhere.declare_all.Given as goal

abbrev pub invariant-loop-action : goal.invariant-loop-action
invariant-loop-action l =
    items_of l.made ++ other_names l.names (named_by l.tables (told l.tables (drop l.action-index l.all)))
    ≡ other_names l.initial.names (named_by l.tables (told l.tables l.all))
