use Rattle.std.proofs.Common.{◌≡◌, ◌∙◌, ◌+◌, ◌++◌, [], ◌∷◌, List, Option, ℕ, ap, sym, subst, take}
use Rattle.cc_whole_link.specs.Placed.{Placed, its_name}
use Rattle.cc_whole_placed.specs.Seen.{placed_of}
use Rattle.cf_name_places.specs.Places.{last_place}
use Rattle.cc_whole_linker.specs.Earlier.{Chained, names_of, last_named}
use Rattle.cc_whole_linker.specs.Rules.{seen}
use Rattle.cc_whole_linker.proofs.LastLaws.{names-behind, chained-more, long-more}
use Rattle.cc_whole_linker.proofs.SeenLaws.{seen_more}
use Rattle.cc_whole_linker.proofs.earlier.earlier_places.Goals as goal

pub loop-placed-preserved : goal.loop-placed-preserved
loop-placed-preserved c =
    let front = seen (take c.loop-placed.placed-index c.args.all.now) in
    let whole = seen (take (c.loop-placed.placed-index + 1) c.args.all.now) in
    let item = placed_of c.placed-item.result in
    let places = c.loop-placed.earlier.items in
    let more : whole ≡ front ++ item ∷ [] = seen_more c.args.all.now c.loop-placed.placed-index c.placed-item.result c.loop-placed-test.true c.placed-item.is in
    let place : c.find.result ≡ last_named (its_name item) front =
    c.find.ensures ∙ ap (λ n. last_place n c.loop-placed.names) c.name_of-name.ensures ∙ ap (last_place (its_name item)) c.loop-placed.invariant.names in
    record {
      names =
          c.in_ok-add.ensures.ok ∙ ap (λ n. n ∷ c.loop-placed.names) c.name_of-name.ensures ∙ ap (λ l. its_name item ∷ l) c.loop-placed.invariant.names
          ∙ sym (names-behind front item) ∙ ap names_of (sym more);
      chained = subst (λ (l : List Placed). Chained l c.push.new.self.items) (sym more)
          (subst (λ (l : List (Option ℕ)). Chained (front ++ item ∷ []) l) (sym c.in_ok-push.ensures.items)
          (chained-more front item places c.find.result c.loop-placed.invariant.chained c.loop-placed.invariant.long place));
      long = long-more front whole item places c.push.new.self.items c.find.result more c.in_ok-push.ensures.items c.loop-placed.invariant.long;
    }
