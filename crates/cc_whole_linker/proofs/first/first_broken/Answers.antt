use Rattle.std.proofs.Common.{◌++◌, [], ◌∷◌, List, ℕ, sym, subst, take, Some, None, Option}
use Rattle.std.specs.Prelude.{option_map}
use Rattle.cc_whole_link.specs.Link.{Breaks}
use Rattle.cc_whole_placed.specs.Seen.{placed_of}
use Rattle.cc_whole_linker.specs.Answers.{refusal_of}
use Rattle.cc_whole_linker.specs.declared.error.BrokenRule.{BrokenRule}
use Rattle.cc_whole_linker.specs.Rules.{seen}
use Rattle.cc_whole_linker.specs.Earlier.{Chained}
use Rattle.cc_whole_linker.proofs.FirstLaws.{broken_here, broken_later, broken_nowhere, chained-here}
use Rattle.cc_whole_linker.proofs.first.first_broken.Goals as goal

pub broken_at-requires-clause-places : goal.broken_at-requires-clause-places
broken_at-requires-clause-places c =
    let p = c.index-all-index.result in
    subst (λ (l : List (Option ℕ)). Chained (seen (take c.loop-index.index c.args.all.now) ++ placed_of p ∷ []) l) (sym c.as_slice.ensures.value)
    (chained-here c.args.all.now c.loop-index.index p c.in_ok-places.places.items c.loop-index-test.true c.index-all-index.is c.in_ok-places.ensures)

pub returns-in-Some : goal.returns-in-Some
returns-in-Some c =
    let all = c.args.all.now in
    let i = c.loop-index.index in
    let p = c.index-all-index.result in
    let breaks = subst (λ (o : Option BrokenRule). Breaks (seen all) (seen (take i all)) (placed_of p) (option_map refusal_of o)) c.in-Some.is c.in_ok-broken.ensures in
    c.loop-index.invariant (Some (refusal_of c.in-Some.broken)) (broken_here all i p c.loop-index-test.true c.index-all-index.is (refusal_of c.in-Some.broken) breaks)

pub loop-index-preserved : goal.loop-index-preserved
loop-index-preserved c =
    let all = c.args.all.now in
    let i = c.loop-index.index in
    let p = c.index-all-index.result in
    let breaks = subst (λ (o : Option BrokenRule). Breaks (seen all) (seen (take i all)) (placed_of p) (option_map refusal_of o)) c.in-None.is c.in_ok-broken.ensures in
    λ r rest. c.loop-index.invariant r (broken_later all i p c.loop-index-test.true c.index-all-index.is r breaks rest)

pub returns : goal.returns
returns c = c.loop-index.invariant None (broken_nowhere c.args.all.now c.loop-index.index c.loop-index-test.false)
