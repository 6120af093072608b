use Rattle.std.proofs.Common.{◌≡◌, drop, max}
use Rattle.cf_lower.specs.Functions.{all_nesting}
use Rattle.cf_lower_fn.specs.Walks.{statements_at}
use Rattle.cf_lower_fn.proofs.counts.+nestings.Given as goal

abbrev pub invariant-nesting-loop-s : goal.invariant-nesting-loop-s
invariant-nesting-loop-s l = max l.most (all_nesting (statements_at l.tables (drop l.s-index l.s-items))) ≡ all_nesting (statements_at l.tables l.s-items)
