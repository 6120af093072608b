use Rattle.std.proofs.Common.{length, ◌-◌}
use Rattle.cf_tokens.proofs.Cuts.{CutSoFar}
use Rattle.cf_tokens.proofs.lexer.cut.Given as goal

abbrev pub invariant-loop-at : goal.invariant-loop-at
invariant-loop-at l = CutSoFar l.text l.at l.found.items

abbrev pub decreases-loop-at : goal.decreases-loop-at
decreases-loop-at l = length l.text - l.at
