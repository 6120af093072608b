use Rattle.cf_lowerable_starts.proofs.PartLaws.{clear_more, clear_not}
use Rattle.cf_lowerable_starts.proofs.parts.is_clear_of.Goals as goal

pub loop-part-preserved : goal.loop-part-preserved
loop-part-preserved c =
    clear_more c.args.start c.args.size c.loop-part.rest.now c.in-Some.front.now c.in-Some.part.now c.in-Some.ensures.cases.0 c.in_ok-is_apart.field-0 _
    c.in_ok-is_apart.ensures c.loop-part.invariant c.if-not-branch.false

pub returns-then-not-branch : goal.returns-then-not-branch
returns-then-not-branch c =
    clear_not c.args.start c.args.size c.loop-part.rest.now c.in-Some.front.now c.in-Some.part.now c.in-Some.ensures.cases.0 c.in_ok-is_apart.field-0 _
    c.in_ok-is_apart.ensures c.loop-part.invariant c.if-not-branch.true
