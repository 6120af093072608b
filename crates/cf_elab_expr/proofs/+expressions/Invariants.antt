use Rattle.std.proofs.Common.{◌≡◌, map, drop, All}
use Rattle.cf_elab_env.specs.Holds.{Grows}
use Rattle.cf_elab_env.specs.SeenOperand.{operand_seen}
use Rattle.cf_elab_operand.specs.Operands.{IsOperand}
use Rattle.cf_elab_shape.specs.Shapes.Holds.{AreObjects}
use Rattle.cf_elab_expr.specs.Shut as shut
use Rattle.cf_elab_env.proofs.InOrder.{behind}
use Rattle.cf_elab_expr.proofs.+expressions.Given as goal

abbrev pub invariant-lists::run-loop-e : goal.invariant-lists::run-loop-e
invariant-lists::run-loop-e l = record {
  made : shut.runs l.all l.fn.env ≡ behind (map operand_seen l.found) (shut.runs (drop l.e-index l.all) l.env);
  known : All (λ o. IsOperand l.env.types o) l.found;
  grows : Grows l.fn.env.types l.env.types;
}

abbrev pub invariant-declarators::object_parameters-loop-p : goal.invariant-declarators::object_parameters-loop-p
invariant-declarators::object_parameters-loop-p l = record {
  made : shut.object_parameters l.all l.fn.env ≡ behind l.found (shut.object_parameters (drop l.p-index l.all) l.env);
  known : AreObjects l.env.types l.found;
  grows : Grows l.fn.env.types l.env.types;
}
