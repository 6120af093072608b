use Rattle.std.proofs.Common.{◌≡◌, length}
use Rattle.cf_syntax.specs.Grammar.{begins}
use Rattle.cf_parse_expr.proofs.words.begins.Given as goal

abbrev pub invariant-loop-rest : goal.invariant-loop-rest
invariant-loop-rest l = begins l.rest l.c ≡ begins l.words l.c

abbrev pub decreases-loop-rest : goal.decreases-loop-rest
decreases-loop-rest l = length l.rest
