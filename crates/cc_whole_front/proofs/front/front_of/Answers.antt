use Rattle.std.proofs.Common.{◌≡◌, ◌+◌, ◌-◌, ◌<◌, ◌≤◌, [], ◌∷◌, ◌++◌, length, None, Some, refl, sym, ◌∙◌, rules, arith}
use Rattle.std.proofs.lemmas.Grind.{common_steps}
use Rattle.cc_whole_cut.specs.First.{first}
use Rattle.cc_whole_front.proofs.Turns.{at_start, one_more, strays, at_end}
use Rattle.cc_whole_front.proofs.front.front_of.Goals as goal

pub loop-rest-init : goal.loop-rest-init
loop-rest-init c =
    rw (c.new-tokens.ensures.items, c.new-places.ensures.items, c.without_blanks-rest.ensures.value) (at_start (c.args.before + length c.args.bytes.now) c.args.bytes.now)

pub returns-in-None : goal.returns-in-None
returns-in-None c =
    let some : 0 < length c.loop-rest.rest.now = first_of (search rules, grind (arith, common_steps)) in
    let none : first c.loop-rest.rest.now ≡ None = sym c.in_ok-found.ensures.value ∙ c.in-None.is in
    let within = c.loop-rest.invariant.within in
    let place : (c.args.before + (length c.args.bytes.now - length c.loop-rest.rest.now)) + length c.loop-rest.rest.now ≡ c.args.before + length c.args.bytes.now =
    omega (arith, within) in
    strays c.args.before c.args.bytes.now c.loop-rest.rest.now _ c.loop-rest.invariant some none place refl

pub loop-rest-preserved : goal.loop-rest-preserved
loop-rest-preserved c =
    let at = c.args.before + (length c.args.bytes.now - length c.loop-rest.rest.now) in
    let tokens : c.add.new.tokens.items ≡ c.loop-rest.tokens.items ++ c.in-Some.token ∷ [] = c.in_ok-add-in-Some.ensures.tokens in
    let places : c.add.new.places.items ≡ c.loop-rest.places.items ++ at ∷ [] = c.in_ok-add-in-Some.ensures.places in
    let e : first c.loop-rest.rest.now ≡ Some (c.in-Some.token, c.in-Some.len) = sym c.in_ok-found.ensures.value ∙ c.in-Some.is in
    let within = c.loop-rest.invariant.within in
    let place : at + length c.loop-rest.rest.now ≡ c.args.before + length c.args.bytes.now = omega (arith, within) in
    rw (c.without_blanks-rest-in-Some.ensures.value, c.rest_of.ensures, tokens, places)
    (one_more (c.args.before + length c.args.bytes.now) c.args.bytes.now c.loop-rest.rest.now c.loop-rest.tokens.items c.loop-rest.places.items (c.in-Some.token, c.in-Some.len) at
    c.loop-rest.invariant e place)

pub returns : goal.returns
returns c =
    let none : length c.loop-rest.rest.now ≤ 0 = first_of (search rules, grind (arith, common_steps)) in
    at_end c.args.before c.args.bytes.now c.loop-rest.rest.now _ c.loop-rest.invariant none refl refl
