use Rattle.cf_lowerable_open.specs.Views.{tables_in}
use Rattle.cf_lowerable_open.proofs.Files.{all_done, one_fails, one_more}
use Rattle.cf_lowerable_open.proofs.functions.all_functions_open.Goals as goal

pub returns-then-not-branch : goal.returns-then-not-branch
returns-then-not-branch c =
    one_fails (tables_in c.args.x.now) c.args.functions.now c.loop-f.f-index _ c.f-item.result c.loop-f-test.true c.f-item.is _ c.in_ok-function_opens.ensures c.if-not-branch.true
    c.loop-f.invariant

pub loop-f-preserved : goal.loop-f-preserved
loop-f-preserved c =
    one_more (tables_in c.args.x.now) c.args.functions.now c.loop-f.f-index _ c.f-item.result c.loop-f-test.true c.f-item.is _ c.in_ok-function_opens.ensures c.if-not-branch.false
    c.loop-f.invariant

pub returns : goal.returns
returns c = all_done (tables_in c.args.x.now) c.args.functions.now c.loop-f.f-index _ c.loop-f-test.false c.loop-f.invariant
