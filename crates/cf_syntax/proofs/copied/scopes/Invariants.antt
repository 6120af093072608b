use Rattle.std.proofs.Common.{◌≡◌, take}
use Rattle.cf_syntax.proofs.copied.scopes.Given as goal

abbrev pub invariant-loop-one : goal.invariant-loop-one
invariant-loop-one l = l.made.items ≡ take l.one-index l.all
