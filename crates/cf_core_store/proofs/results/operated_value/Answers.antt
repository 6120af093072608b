use Rattle.cf_core.specs.Scalars.{operated}
use Rattle.cf_core_objects.specs.Store.{value_of}
use Rattle.cf_core_store.proofs.StoreLaws.{told-number}
use Rattle.cf_core_store.proofs.results.operated_value.Goals as goal

pub returns : goal.returns
returns c = λ s w. told-number c.operated.result c.number.result s w (operated c.args.op c.args.kind (value_of c.args.x) (value_of c.args.y) s w) c.number.ensures (c.operated.ensures s w)
