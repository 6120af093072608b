use Rattle.cf_lower_fn.proofs.ResultLaws.{rest_more}
use Rattle.cf_lower_fn.proofs.results.add_each.Goals as goal

pub loop-ty-preserved : goal.loop-ty-preserved
loop-ty-preserved c =
    rest_more c.loop-ty.rest.now c.in-Some.others.now c.in-Some.ty.now c.loop-ty.made c.add_once.new.made _ c.in-Some.ensures.cases.0 c.loop-ty.invariant c.in_ok-add_once.ensures
