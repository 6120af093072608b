use Rattle.std.proofs.Common.{◌≡◌, arith, sym, length, get_or, nat_eq, false, true}
use Rattle.std.proofs.lemmas.Bool.Decides.{nat_tests}
use Rattle.cf_tokens.proofs.Literals.{read_nothing, read_more, read_all, read_none, read_out}
use Rattle.cf_tokens.proofs.literal.characters.Goals as goal

pub loop-turn-init : goal.loop-turn-init
loop-turn-init c = rw c.new-values.ensures (read_nothing c.args.bytes.now)

pub rest_of-rest-requires : goal.rest_of-rest-requires
rest_of-rest-requires c = c.loop-turn.invariant.within

pub returns-then-byte_at-eq34-clause-found : goal.returns-then-byte_at-eq34-clause-found
returns-then-byte_at-eq34-clause-found c =
    let end : nat_eq (get_or c.rest_of-rest.result.now 0 0) 34 ≡ true = grind (arith, nat_tests) in
    read_all c.args.bytes.now c.loop-turn.values c.rest_of-rest.result.now c.loop-turn.at c.loop-turn._turn (length c.args.bytes.now)
    c.loop-turn.invariant c.loop-turn-test.true c.rest_of-rest.ensures end

pub returns-in-None-clause-found : goal.returns-in-None-clause-found
returns-in-None-clause-found c =
    let no_end : nat_eq (get_or c.rest_of-rest.result.now 0 0) 34 ≡ false = grind (arith, nat_tests) in
    read_none c.args.bytes.now c.loop-turn.values c.rest_of-rest.result.now c.loop-turn.at c.loop-turn._turn (length c.args.bytes.now)
    c.loop-turn.invariant c.loop-turn-test.true c.rest_of-rest.ensures no_end (sym c.in-None.ensures.unit)

pub loop-turn-preserved : goal.loop-turn-preserved
loop-turn-preserved c =
    let no_end : nat_eq (get_or c.rest_of-rest.result.now 0 0) 34 ≡ false = grind (arith, nat_tests) in
    rw c.in_ok-push-in-Some.ensures.ok
    (read_more c.args.bytes.now c.loop-turn.values c.rest_of-rest.result.now c.loop-turn.at c.loop-turn._turn (length c.args.bytes.now)
    c.in-Some.value c.in-Some.n c.loop-turn.invariant c.loop-turn-test.true c.rest_of-rest.ensures no_end
    (sym c.in-Some.ensures.unit) c.in-Some.ensures.within)

pub returns-clause-found : goal.returns-clause-found
returns-clause-found c =
    read_out c.args.bytes.now c.loop-turn.values c.loop-turn.at c.loop-turn._turn (length c.args.bytes.now)
    c.loop-turn.invariant c.loop-turn-test.false
