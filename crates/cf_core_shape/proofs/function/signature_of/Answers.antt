use Rattle.cf_core_shape.proofs.Shaped.{function_known}
use Rattle.cf_core_shape.proofs.function.signature_of.Goals as goal

pub function_signature-requires : goal.function_signature-requires
function_signature-requires c =
    function_known c.args.unit.now.types c.args.id c.in-Fun.number c.ty.result.now c.fun.result.now c.requires c.ty.ensures.names c.in-Fun.is c.fun.ensures
