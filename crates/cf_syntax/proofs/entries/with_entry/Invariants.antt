use Rattle.std.proofs.Common.{◌≡◌, take}
use Rattle.cf_syntax.specs.Slots.{others}
use Rattle.cf_syntax.proofs.entries.with_entry.Given as goal

abbrev pub invariant-loop-one : goal.invariant-loop-one
invariant-loop-one l = l.made ≡ others l.name (take l.one-index l.entries)
