use Rattle.std.proofs.Common.{length}
use Rattle.cc_whole_cut.proofs.Strings.{within_start, within_more, within_closed, within_stray, within_end}
use Rattle.cc_whole_cut.proofs.string.inside.Goals as goal

pub loop-turn-init : goal.loop-turn-init
loop-turn-init c = rw c.new-bytes.ensures (within_start c.args.text.now)

pub returns-in-Close : goal.returns-in-Close
returns-in-Close c =
    within_closed c.args.text.now c.loop-turn.rest.now c.loop-turn.bytes c.loop-turn.len c.loop-turn._turn (length c.args.text.now)
    c.loop-turn.invariant c.loop-turn-test.true c.in-Close.ensures.value

pub returns-in-Stray : goal.returns-in-Stray
returns-in-Stray c =
    within_stray c.args.text.now c.loop-turn.rest.now c.loop-turn.bytes c.loop-turn.len c.loop-turn._turn (length c.args.text.now)
    c.loop-turn.invariant c.loop-turn-test.true c.in-Stray.ensures.value

pub loop-turn-preserved : goal.loop-turn-preserved
loop-turn-preserved c =
    rw (c.rest_of-rest.ensures, c.in_ok-push-in-Byte.ensures.ok)
    (within_more c.args.text.now c.loop-turn.rest.now c.loop-turn.bytes c.loop-turn.len c.loop-turn._turn (length c.args.text.now)
    c.in-Byte.byte c.in-Byte.by c.loop-turn.invariant c.loop-turn-test.true c.in-Byte.ensures.value c.in-Byte.ensures.within)

pub returns : goal.returns
returns c =
    within_end c.args.text.now c.loop-turn.rest.now c.loop-turn.bytes c.loop-turn.len c.loop-turn._turn (length c.args.text.now)
    c.loop-turn.invariant c.loop-turn-test.false
