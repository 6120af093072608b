use Rattle.std.proofs.Common.{◌≡◌, ◌<◌, ℕ, List, Option, length, ap, ◌∙◌, arith}
use Rattle.cf_lowerable_open.specs.Views.{object_at}
use Rattle.cf_lowerable_open.proofs.Holding.{met_all, met_long, met_more}
use Rattle.cf_lowerable_open.proofs.objects.Objects.share.Goals as goal

pub loop-index-preserved : goal.loop-index-preserved
loop-index-preserved c =
    let first = c.args.self.now.held.items in
    let second = c.args.other.now.held.items in
    let here = c.loop-index.self.held.items in
    let i = c.loop-index.index in
    let within : i < length here = omega (arith, c.loop-index-test.true, c.len-index-end.ensures, c.loop-index.invariant.long) in
    record {
      long = met_long (length first) i here c.put.new.all.items c.same_begun.result c.loop-index.invariant.long c.put.ensures;
      met = met_more first second i here c.put.new.all.items c.same_begun.result c.at-here.result c.at-there.result c.loop-index.invariant.met within
          (c.at-here.ensures ∙ ap (λ (l : List (Option ℕ)). object_at l i) c.as_slice.ensures.value)
          (c.at-there.ensures ∙ ap (λ (l : List (Option ℕ)). object_at l i) c.as_slice-in-loop-index.ensures.value) c.same_begun.ensures c.put.ensures;
    }

pub returns : goal.returns
returns c =
    let all : c.loop-index.index ≡ length c.args.self.now.held.items = omega (arith, c.loop-index-test.false, c.loop-index.auto.index-end, c.len-index-end.ensures) in
    met_all c.args.self.now.held.items c.args.other.now.held.items c.loop-index.index c.loop-index.self.held.items all c.loop-index.invariant.met
