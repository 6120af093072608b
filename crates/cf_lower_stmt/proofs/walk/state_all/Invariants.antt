use Rattle.std.proofs.Common.{◌≡◌, ◌++◌, drop, length, map}
use Rattle.cc_whole.specs.Plain.{inner}
use Rattle.cf_lower_stmt.specs.Steps.{written, written_items}
use Rattle.cf_lower_stmt.proofs.walk.state_all.Given as goal

abbrev pub invariant-loop-statement : goal.invariant-loop-statement
invariant-loop-statement l =
    written_items l.items ++ map inner (written (drop (length l.yielded) l.fn.statements)) ≡ written_items l.initial.items ++ map inner (written l.fn.statements)
