use Rattle.std.proofs.Common.{◌≡◌, ◌+◌, length, drop}
use Rattle.cf_core.specs.FromUnit.{tables_of}
use Rattle.cf_sequence.specs.Made.{added}
use Rattle.cf_core_nodes.specs.Views.{shown}
use Rattle.cf_lowerable_core.proofs.files.are_few.Given as goal

abbrev pub invariant-loop-e : goal.invariant-loop-e
invariant-loop-e l =
    l.count + length (added (shown (tables_of l.unit) (drop l.e-index l.nodes))) ≡ l.others + length (added (shown (tables_of l.unit) l.nodes))
