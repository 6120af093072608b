use Rattle.cc_whole_print.specs.Initialisers.{pair_text}
use Rattle.cc_whole_print.proofs.Pieces.{commas_step}
use Rattle.cc_whole_print.proofs.initialiser.pairs.Goals as goal

pub loop-at-preserved : goal.loop-at-preserved
loop-at-preserved c =
    commas_step pair_text c.as_slice-one-items.result.now c.loop-at.at c.one-item.result c.args.out.now.items c.loop-at.out.items c.put_if.new.out.items
    c.pair.new.out.items c.loop-at-test.true c.one-item.is c.loop-at.invariant c.in_ok-put_if.ensures c.in_ok-pair.ensures
