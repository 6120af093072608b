use Rattle.cf_elab_arith.proofs.ChoiceLaws.AskedLaws.{pointer_is}
use Rattle.cf_elab_arith.proofs.choice.asked.is_pointer.Goals as goal

pub returns : goal.returns
returns c =
    pointer_is c.args.env.now.types c.args.x.now.type c.ty.result c.sort_of.result c.is_pointer_sort.result c.ty.ensures c.sort_of.ensures.value c.is_pointer_sort.ensures
