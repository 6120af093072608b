use Rattle.std.proofs.Common.{◌≡◌, drop}
use Rattle.cf_lowerable_ready.specs.Scenes.{knowing, statements_in}
use Rattle.cf_lowerable_ready.specs.Steps.{steps_in}
use Rattle.cf_lowerable_ready.proofs.statements.+statements.Given as goal

abbrev pub invariant-statements-loop-s : goal.invariant-statements-loop-s
invariant-statements-loop-s l =
    steps_in l.x (statements_in l.x (drop l.s-index l.s-items)) (knowing l.x l.cs) ≡ steps_in l.x (statements_in l.x l.s-items) (knowing l.x l.initial.cs)
