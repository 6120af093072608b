use Rattle.std.proofs.Common.{◌≡◌, drop}
use Rattle.cc_whole_fitting.specs.Numbers.{fit_from, numbers_fit}
use Rattle.cc_whole_fitting.proofs.numbers.numbers_fit.Given as goal

-- the tokens behind decide
abbrev pub invariant-loop-token : goal.invariant-loop-token
invariant-loop-token l = fit_from (drop l.token-index l.tokens) l.before ≡ numbers_fit l.tokens
