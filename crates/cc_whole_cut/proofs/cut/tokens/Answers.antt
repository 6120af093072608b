use Rattle.std.proofs.Common.{◌≡◌, ◌<◌, ◌≤◌, [], ◌∷◌, ◌++◌, length, None, Some, sym, ◌∙◌, rules, arith}
use Rattle.std.proofs.lemmas.Grind.{common_steps}
use Rattle.cc_whole_cut.specs.First.{first}
use Rattle.cc_whole_cut.proofs.Cuts.{at_start, one_more, strays, at_end}
use Rattle.cc_whole_cut.proofs.cut.tokens.Goals as goal

pub loop-rest-init : goal.loop-rest-init
loop-rest-init c = rw (c.new-list.ensures.items, c.without_blanks-rest.ensures.value) (at_start c.args.text.now)

pub returns-in-None : goal.returns-in-None
returns-in-None c =
    let some : 0 < length c.loop-rest.rest.now = first_of (search rules, grind (arith, common_steps)) in
    let none : first c.loop-rest.rest.now ≡ None = sym c.in_ok-found.ensures.value ∙ c.in-None.is in
    strays c.args.text.now c.loop-rest.rest.now c.loop-rest.list.items c.loop-rest.invariant some none

pub loop-rest-preserved : goal.loop-rest-preserved
loop-rest-preserved c =
    let added : c.add.new.list.items ≡ c.loop-rest.list.items ++ c.in-Some.token ∷ [] = c.in_ok-add-in-Some.ensures in
    let e : first c.loop-rest.rest.now ≡ Some (c.in-Some.token, c.in-Some.len) = sym c.in_ok-found.ensures.value ∙ c.in-Some.is in
    rw (c.without_blanks-rest-in-Some.ensures.value, c.rest_of.ensures, added)
    (one_more c.args.text.now c.loop-rest.rest.now c.loop-rest.list.items (c.in-Some.token, c.in-Some.len) c.loop-rest.invariant e)

pub returns : goal.returns
returns c =
    let none : length c.loop-rest.rest.now ≤ 0 = first_of (search rules, grind (arith, common_steps)) in
    at_end c.args.text.now c.loop-rest.rest.now c.loop-rest.list.items c.loop-rest.invariant none
