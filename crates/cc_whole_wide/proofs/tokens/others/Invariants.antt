use Rattle.std.proofs.Common.{◌≡◌, ◌++◌, drop}
use Rattle.cc_whole_wide.specs.Others.{others_from, others}
use Rattle.cc_whole_wide.proofs.tokens.others.Given as goal

-- what stands for the tokens behind goes on
abbrev pub invariant-loop-token : goal.invariant-loop-token
invariant-loop-token l = l.made.items ++ others_from (drop l.token-index l.tokens) l.before l.role ≡ others l.tokens
