use Rattle.std.proofs.Common.{◌≡◌, drop}
use Rattle.cf_plain_kept.specs.Kept.{all_set}
use Rattle.cf_lowerable_ready.specs.Contents.{without}
use Rattle.cf_lowerable_ready.specs.Scenes.{knowing, statements_in}
use Rattle.cf_lowerable_ready.proofs.forgets.+forgets.Given as goal

abbrev pub invariant-forget-loop-s : goal.invariant-forget-loop-s
invariant-forget-loop-s l =
    without (λ r. all_set r (statements_in l.x (drop l.s-index l.s-items))) (knowing l.x l.cs)
    ≡ without (λ r. all_set r (statements_in l.x l.s-items)) (knowing l.x l.initial.cs)
