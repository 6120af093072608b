use Rattle.std.proofs.Common.{◌≡◌, map, drop}
use Rattle.cf_frame.specs.Costed.{costed, costed_part, nothing, all_after}
use Rattle.cf_frame.proofs.walk.+costs.Given as goal

abbrev pub invariant-costs_of_all-loop-core : goal.invariant-costs_of_all-loop-core
invariant-costs_of_all-loop-core l = all_after l.total (map costed (drop l.core-index l.initial.cores)) ≡ all_after nothing (map costed l.initial.cores)

abbrev pub invariant-costs_of_starts-loop-part : goal.invariant-costs_of_starts-loop-part
invariant-costs_of_starts-loop-part l = all_after l.total (map costed_part (drop l.part-index l.initial.parts)) ≡ all_after nothing (map costed_part l.initial.parts)
