use Rattle.std.proofs.Common.{◌≡◌, ◌++◌, drop}
use Rattle.cf_lowerable_open.specs.Located.{shared_at}
use Rattle.cf_lowerable_open.proofs.located.add_shared.Given as goal

abbrev pub invariant-loop-place : goal.invariant-loop-place
invariant-loop-place l = l.made.items ++ shared_at (drop l.place-index l.registers) l.left l.right ≡ l.initial.made.items ++ shared_at l.registers l.left l.right
