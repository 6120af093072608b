use Rattle.std.proofs.Common.{◌≡◌, drop}
use Rattle.cf_lower_kept.specs.Opened.{ended_by}
use Rattle.cf_lowerable_open.specs.Views.{statements_in}
use Rattle.cf_lowerable_open.proofs.flags.ended_by.Given as goal

abbrev pub invariant-loop-s : goal.invariant-loop-s
invariant-loop-s l = ended_by l.register (statements_in l.x (drop l.s-index l.rest)) ≡ ended_by l.register (statements_in l.x l.rest)
