use Rattle.std.proofs.Common.{◌≡◌, drop, map, max}
use Rattle.cf_lower.specs.Functions.{all_bound, parts_bound}
use Rattle.cf_plain.specs.View.{parts_in_order}
use Rattle.cf_lower_fn.specs.Walks.{built_at, statements_at}
use Rattle.cf_lower_fn.proofs.counts.+bounds.Given as goal

abbrev pub invariant-bound-loop-s : goal.invariant-bound-loop-s
invariant-bound-loop-s l = max l.most (all_bound (statements_at l.tables (drop l.s-index l.s-items))) ≡ all_bound (statements_at l.tables l.s-items)

abbrev pub invariant-parts_bound-loop-part : goal.invariant-parts_bound-loop-part
invariant-parts_bound-loop-part l =
    max l.most (parts_bound (parts_in_order (map (built_at l.tables) (drop l.part-index l.part-items))))
    ≡ parts_bound (parts_in_order (map (built_at l.tables) l.part-items))
