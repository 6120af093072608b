use Rattle.cf_elab_arith.proofs.ChoiceLaws.AskedLaws.{void_is}
use Rattle.cf_elab_arith.proofs.choice.asked.is_void.Goals as goal

pub returns : goal.returns
returns c = void_is c.args.env.now.types c.args.x.now.type c.ty.result c.sort_of.result c.is_void_sort.result c.ty.ensures c.sort_of.ensures.value c.is_void_sort.ensures
