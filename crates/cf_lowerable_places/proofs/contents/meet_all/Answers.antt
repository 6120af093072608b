use Rattle.std.proofs.Common.{◌≡◌, ◌<◌, List, length, ap, ◌∙◌, arith}
use Rattle.cf_lowerable_types.specs.declared.kinds.Kinds.{Kinds}
use Rattle.cf_lowerable_places.specs.Contents.{kinds_at}
use Rattle.cf_lowerable_places.proofs.Holding.{met_all, met_long, met_more}
use Rattle.cf_lowerable_places.proofs.contents.meet_all.Goals as goal

pub loop-index-preserved : goal.loop-index-preserved
loop-index-preserved c =
    let first = c.args.all.now.items in
    let second = c.args.other.now in
    let here = c.loop-index.all.items in
    let i = c.loop-index.index in
    let within : i < length here = omega (arith, c.loop-index-test.true, c.len-index-end.ensures, c.loop-index.invariant.long) in
    record {
      long = met_long (length first) i here c.put.new.all.items c.meet_kinds.result c.loop-index.invariant.long c.put.ensures;
      met = met_more first second i here c.put.new.all.items c.meet_kinds.result c.at-here.result c.at-there.result c.loop-index.invariant.met within
          (c.at-here.ensures ∙ ap (λ (l : List Kinds). kinds_at l i) c.as_slice.ensures.value) c.at-there.ensures c.meet_kinds.ensures c.put.ensures;
    }

pub returns : goal.returns
returns c =
    let all : c.loop-index.index ≡ length c.args.all.now.items = omega (arith, c.loop-index-test.false, c.loop-index.auto.index-end, c.len-index-end.ensures) in
    met_all c.args.all.now.items c.args.other.now c.loop-index.index c.loop-index.all.items all c.loop-index.invariant.met
