use Rattle.std.proofs.Common.{◌≡◌, ◌<◌, List, length, ap, ◌∙◌, arith}
use Rattle.cf_lowerable_ready.specs.declared.content.Content.{Content}
use Rattle.cf_lowerable_ready.specs.Contents.{content_at}
use Rattle.cf_lowerable_ready.proofs.Keepings.{met_all, met_long, met_more}
use Rattle.cf_lowerable_ready.proofs.contents.Contents.meet.Goals as goal

pub loop-index-preserved : goal.loop-index-preserved
loop-index-preserved c =
    let tables = c.args.tables.now in
    let first = c.args.self.now.held.items in
    let second = c.args.other.now.held.items in
    let here = c.loop-index.self.held.items in
    let i = c.loop-index.index in
    let within : i < length here = omega (arith, c.loop-index-test.true, c.len-index-end.ensures, c.loop-index.invariant.long) in
    record {
      long = met_long (length first) i here c.put.new.all.items c.in_ok-content.content c.loop-index.invariant.long c.put.ensures;
      met = met_more tables first second i here c.put.new.all.items c.in_ok-content.content c.at-here.result c.at-there.result c.loop-index.invariant.met within
          (c.at-here.ensures ∙ ap (λ (l : List Content). content_at l i) c.as_slice.ensures.value)
          (c.at-there.ensures ∙ ap (λ (l : List Content). content_at l i) c.as_slice-in-loop-index.ensures.value) c.in_ok-content.ensures c.put.ensures;
    }

pub returns : goal.returns
returns c =
    let all : c.loop-index.index ≡ length c.args.self.now.held.items = omega (arith, c.loop-index-test.false, c.loop-index.auto.index-end, c.len-index-end.ensures) in
    met_all c.args.tables.now c.args.self.now.held.items c.args.other.now.held.items c.loop-index.index c.loop-index.self.held.items all c.loop-index.invariant.met
