use Rattle.std.proofs.Common.{◌≡◌, ◌≤◌, max, drop}
use Rattle.cf_convert.specs.Converts.{rank}
use Rattle.cf_convert.proofs.implicit.rank.Given as goal

-- the worst so far, and what is left
abbrev pub invariant-loop-step : goal.invariant-loop-step
invariant-loop-step l = (1 ≤ l.worst) × (max l.worst (rank (drop l.step-index l.steps)) ≡ rank l.steps)
