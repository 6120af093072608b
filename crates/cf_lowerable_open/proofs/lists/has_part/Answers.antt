use Rattle.std.proofs.Common.{ap, ◌∙◌}
use Rattle.cf_lower_kept.specs.Opened.{has_object}
use Rattle.cf_lowerable_open.proofs.Telling.{any_found, any_none, any_past}
use Rattle.cf_lowerable_open.proofs.lists.has_part.Goals as goal

pub returns-then-has_object : goal.returns-then-has_object
returns-then-has_object c =
    any_found (λ x. has_object (x.places c.args.register)) c.args.all.now c.loop-x.x-index _ c.loop-x.invariant c.x-item.result c.loop-x-test.true c.x-item.is c.has_object.result (c.has_object.ensures ∙ ap has_object c.counts.ensures) c.if-has_object.true

pub loop-x-preserved : goal.loop-x-preserved
loop-x-preserved c =
    any_past (λ x. has_object (x.places c.args.register)) c.args.all.now c.loop-x.x-index _ c.loop-x.invariant c.x-item.result c.loop-x-test.true c.x-item.is c.has_object.result (c.has_object.ensures ∙ ap has_object c.counts.ensures) c.if-has_object.false

pub returns : goal.returns
returns c = any_none (λ x. has_object (x.places c.args.register)) c.args.all.now c.loop-x.x-index _ c.loop-x.invariant c.loop-x-test.false
