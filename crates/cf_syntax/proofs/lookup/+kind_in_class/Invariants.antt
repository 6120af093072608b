use Rattle.std.proofs.Common.{◌≡◌, ◌-◌, drop}
use Rattle.cf_syntax.specs.Names.{in_class_to, oldest}
use Rattle.cf_syntax.proofs.lookup.+kind_in_class.Given as goal

abbrev pub decreases-kind_in_class : goal.decreases-kind_in_class
decreases-kind_in_class l = l.depth

abbrev pub invariant-loop-base : goal.invariant-loop-base
invariant-loop-base l =
    oldest (in_class_to (l.depth - 1) l.classes l.name) l.base-items ≡ oldest (in_class_to (l.depth - 1) l.classes l.name) (drop l.base-index l.base-items)
