use Rattle.cc_whole_wide.proofs.Counting.{Counted}
use Rattle.cc_whole_wide.proofs.tokens.first_wide.Given as goal

abbrev pub invariant-loop-token : goal.invariant-loop-token
invariant-loop-token l = Counted l.tokens l.token-index l.count l.before
