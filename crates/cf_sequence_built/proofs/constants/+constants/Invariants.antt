use Rattle.std.proofs.Common.{◌≡◌, map, drop}
use Rattle.cf_core.specs.FromTypes.{type_of}
use Rattle.cf_core.specs.FromUnit.{tables_of}
use Rattle.cf_sequence_built.specs.Unbuilt.{constant, each_sets}
use Rattle.cf_sequence_built.proofs.constants.+constants.Given as goal

abbrev pub invariant-each_sets-loop-e : goal.invariant-each_sets-loop-e
invariant-each_sets-loop-e l =
    each_sets (type_of (tables_of l.unit) l.ty) (map constant (drop l.e-index l.initial.all)) ≡ each_sets (type_of (tables_of l.unit) l.ty) (map constant l.initial.all)
