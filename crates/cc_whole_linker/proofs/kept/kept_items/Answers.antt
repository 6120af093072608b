use Rattle.std.proofs.Common.{◌∙◌, ap, sym}
use Rattle.cc_whole_link.specs.Link.{repeats}
use Rattle.cc_whole_placed.specs.Seen.{placed_of}
use Rattle.cc_whole_linker.specs.Rules.{seen}
use Rattle.cc_whole_linker.proofs.KeptLaws.{last_kept, last_left_out, fewer-chained}
use Rattle.cc_whole_linker.proofs.kept.kept_items.Goals as goal

pub loop-last-preserved-then-not-repeats : goal.loop-last-preserved-then-not-repeats
loop-last-preserved-then-not-repeats c =
    let again = ap (λ l. repeats (seen l) (placed_of c.in-Some.last)) (sym c.as_slice-before.ensures.value) ∙ sym c.repeats.ensures ∙ c.if-not-repeats.true in
    record {
      chained = fewer-chained c.loop-last.left.items c.pop.new.self.items c.in-Some.last c.in-Some.ensures.items c.in_ok-places.places.items c.loop-last.invariant.chained;
      kept = last_kept c.loop-last.left.items c.pop.new.self.items c.in-Some.last c.loop-last.kept.items _ c.in-Some.ensures.items c.loop-last.invariant.kept
          c.push.new.self.items again c.in_ok-push.ensures.items;
    }

pub loop-last-preserved : goal.loop-last-preserved
loop-last-preserved c =
    let again = ap (λ l. repeats (seen l) (placed_of c.in-Some.last)) (sym c.as_slice-before.ensures.value) ∙ sym c.repeats.ensures ∙ c.if-not-repeats.false in
    record {
      chained = fewer-chained c.loop-last.left.items c.pop.new.self.items c.in-Some.last c.in-Some.ensures.items c.in_ok-places.places.items c.loop-last.invariant.chained;
      kept = last_left_out c.loop-last.left.items c.pop.new.self.items c.in-Some.last c.loop-last.kept.items _ c.in-Some.ensures.items c.loop-last.invariant.kept again;
    }
