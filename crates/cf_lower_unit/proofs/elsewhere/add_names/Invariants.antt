use Rattle.std.proofs.Common.{◌≡◌, ◌++◌, length, map}
use Rattle.cc_whole.specs.Plain.{items_of, name_of}
use Rattle.cf_lower_unit.proofs.elsewhere.add_names.Given as goal

abbrev pub invariant-loop-item : goal.invariant-loop-item
invariant-loop-item l = map name_of (items_of l.rest) ++ l.names ≡ map name_of (items_of l.items) ++ l.initial.names

abbrev pub decreases-loop-item : goal.decreases-loop-item
decreases-loop-item l = length l.rest
