use Rattle.cf_core.specs.Scalars.{signed}
use Rattle.cf_core_objects.specs.Store.{value_of}
use Rattle.cf_core_store.proofs.StoreLaws.{told-number}
use Rattle.cf_core_store.proofs.results.signed_value.Goals as goal

pub returns : goal.returns
returns c = λ s w. told-number c.signed.result c.number.result s w (signed c.args.op c.args.kind (value_of c.args.v) s w) c.number.ensures (c.signed.ensures s w)
