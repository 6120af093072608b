use Rattle.std.proofs.Common.{◌≡◌, drop}
use Rattle.cf_core_shape.specs.Shapes.{shape_of, each, in_front}
use Rattle.cf_core_shape.proofs.function.shapes.Given as goal

abbrev pub invariant-loop-id : goal.invariant-loop-id
invariant-loop-id l = in_front l.found (each (shape_of l.unit.types.types) (drop l.id-index l.ids)) ≡ each (shape_of l.unit.types.types) l.ids
