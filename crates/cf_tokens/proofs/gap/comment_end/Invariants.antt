use Rattle.std.proofs.Common.{◌≡◌, ◌+◌, ◌≤◌, length}
use Rattle.cf_tokens.specs.Gap.{comment_end}
use Rattle.cf_tokens.proofs.gap.comment_end.Given as goal

abbrev pub invariant-loop-rest : goal.invariant-loop-rest
invariant-loop-rest l = (comment_end l.n l.rest ≡ comment_end 2 l.bytes) × (l.n + length l.rest ≡ length l.bytes + 2) × (2 ≤ l.n)

abbrev pub decreases-loop-rest : goal.decreases-loop-rest
decreases-loop-rest l = length l.rest
