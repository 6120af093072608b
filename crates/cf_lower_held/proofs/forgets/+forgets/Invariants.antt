use Rattle.std.proofs.Common.{◌≡◌, drop, map}
use Rattle.cf_plain.specs.View.{parts_in_order}
use Rattle.cf_lower.specs.Kept.{all_set, parts_set}
use Rattle.cf_lower_held.specs.Holds.{without}
use Rattle.cf_lower_held.specs.Scenes.{built_in, holding, locals_in, statements_in}
use Rattle.cf_lower_held.proofs.forgets.+forgets.Given as goal

abbrev pub invariant-forget-loop-s : goal.invariant-forget-loop-s
invariant-forget-loop-s l =
    without (λ r. all_set (locals_in l.x) r (statements_in l.x (drop l.s-index l.s-items))) (holding l.x l.rs)
    ≡ without (λ r. all_set (locals_in l.x) r (statements_in l.x l.s-items)) (holding l.x l.initial.rs)

abbrev pub invariant-forget_parts-loop-part : goal.invariant-forget_parts-loop-part
invariant-forget_parts-loop-part l =
    without (λ r. parts_set (locals_in l.x) r (parts_in_order (map (built_in l.x) (drop l.part-index l.part-items)))) (holding l.x l.rs)
    ≡ without (λ r. parts_set (locals_in l.x) r (parts_in_order (map (built_in l.x) l.part-items))) (holding l.x l.initial.rs)
