use Rattle.std.proofs.Common.{◌≡◌, ◌++◌, ◌∷◌, drop}
use Rattle.cf_lowerable_open.proofs.located.behind.Given as goal

abbrev pub invariant-loop-other : goal.invariant-loop-other
invariant-loop-other l = l.made ++ drop l.other-index l.rest ≡ l.count ∷ l.rest
