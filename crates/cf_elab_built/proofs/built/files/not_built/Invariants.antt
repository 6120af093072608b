use Rattle.std.proofs.Common.{◌≡◌, map, drop}
use Rattle.cf_elab.specs.Built.{first, first_of, of_item}
use Rattle.cf_elab_built.proofs.built.files.not_built.Given as goal

abbrev pub invariant-loop-i : goal.invariant-loop-i
invariant-loop-i l = first l.found (first_of (map of_item (drop l.i-index l.i-items))) ≡ first_of (map of_item l.i-items)
