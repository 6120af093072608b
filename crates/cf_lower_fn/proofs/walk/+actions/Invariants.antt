use Rattle.std.proofs.Common.{◌≡◌, ◌++◌, drop, map}
use Rattle.cf_plain.specs.Named.{all_actions, part_actions}
use Rattle.cf_plain.specs.View.{parts_in_order}
use Rattle.cf_lower_fn.specs.Walks.{built_at, statements_at, told}
use Rattle.cf_lower_fn.proofs.walk.+actions.Given as goal

abbrev pub invariant-actions-loop-s : goal.invariant-actions-loop-s
invariant-actions-loop-s l =
    told l.tables l.out.items ++ all_actions (statements_at l.tables (drop l.s-index l.s-items))
    ≡ told l.tables l.initial.out.items ++ all_actions (statements_at l.tables l.s-items)

abbrev pub invariant-of_parts-loop-part : goal.invariant-of_parts-loop-part
invariant-of_parts-loop-part l =
    told l.tables l.out.items ++ part_actions (parts_in_order (map (built_at l.tables) (drop l.part-index l.part-items)))
    ≡ told l.tables l.initial.out.items ++ part_actions (parts_in_order (map (built_at l.tables) l.part-items))
