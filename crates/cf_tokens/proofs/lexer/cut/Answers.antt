use Rattle.cf_tokens.proofs.Cuts.{cut_more, cut_all}
use Rattle.cf_tokens.proofs.lexer.cut.Goals as goal

pub loop-at-preserved : goal.loop-at-preserved
loop-at-preserved c =
    cut_more c.args.text.now c.loop-at.at c.loop-at.found.items c.in_ok-at.at c.step.new.found.items c.in_ok-at.ensures
    c.loop-at-test.true c.loop-at.invariant

pub returns : goal.returns
returns c = cut_all c.args.text.now c.loop-at.at c.loop-at.found.items c.loop-at.invariant c.loop-at-test.false
