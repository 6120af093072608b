use Rattle.std.proofs.Common.{◌≡◌, drop}
use Rattle.cf_lowerable_open.specs.Objects.{behind_all}
use Rattle.cf_lowerable_open.specs.Views.{holding, statements_in}
use Rattle.cf_lowerable_open.proofs.behind.+behind.Given as goal

abbrev pub invariant-go_behind_all-loop-s : goal.invariant-go_behind_all-loop-s
invariant-go_behind_all-loop-s l = behind_all (statements_in l.x (drop l.s-index l.s-items)) (holding l.g) ≡ behind_all (statements_in l.x l.s-items) (holding l.initial.g)
