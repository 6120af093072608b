use Rattle.std.proofs.Common.{◌≡◌, drop}
use Rattle.cf_core_shape.specs.Shapes.{object_type_of, each, in_front}
use Rattle.cf_core_shape.proofs.object.object_types.Given as goal

abbrev pub invariant-loop-id : goal.invariant-loop-id
invariant-loop-id l = in_front l.found (each (object_type_of l.unit.types) (drop l.id-index l.ids)) ≡ each (object_type_of l.unit.types) l.ids
