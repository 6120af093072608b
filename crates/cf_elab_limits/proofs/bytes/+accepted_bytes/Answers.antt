use Rattle.cf_elab_limits.proofs.ByteLaws.{array_is}
use Rattle.cf_elab_limits.proofs.bytes.+accepted_bytes.Goals as goal

pub returns-in-Array : goal.returns-in-Array
returns-in-Array t c =
    array_is c.args.types.now c.args.ty c.get.result.now c.get.ensures.kept c.get.ensures.earlier c.in-Array.element c.in-Array.count c.accepted_bytes.result c.times.result
    c.in-Array.is c.accepted_bytes.ensures c.times.ensures
