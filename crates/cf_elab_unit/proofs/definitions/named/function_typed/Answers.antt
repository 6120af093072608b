use Rattle.cf_elab_shape.specs.Shapes.Seen.{shape_seen, shaped_seen}
use Rattle.cf_elab_unit.proofs.DefinitionsLaws.NamedLaws.{function_made}
use Rattle.cf_elab_unit.proofs.definitions.named.function_typed.Goals as goal

pub returns-clause-function : goal.returns-clause-function
returns-clause-function c =
    function_made (shape_seen c.args.shape.now) c.in_ok-base.base c.ty.result c.base_type.new.env c.typed.new.env (shaped_seen c.in_ok-shaped.shaped) c.in_ok-shaped.ensures.made c.ty.ensures
