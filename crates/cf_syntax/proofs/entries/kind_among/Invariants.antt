use Rattle.std.proofs.Common.{◌≡◌, ◌≤◌, length, drop, None}
use Rattle.cf_syntax.specs.Names.{kind_of}
use Rattle.cf_syntax.proofs.entries.kind_among.Given as goal

abbrev pub invariant-loop-left : goal.invariant-loop-left
invariant-loop-left l = record { within : l.left ≤ length l.entries; none : kind_of (drop l.left l.entries) l.name ≡ None }

abbrev pub decreases-loop-left : goal.decreases-loop-left
decreases-loop-left l = l.left
