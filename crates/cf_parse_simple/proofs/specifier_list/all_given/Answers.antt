use Rattle.std.proofs.Common.{◌-◌, length, Ok, subst}
use Rattle.cf_syntax.specs.Parse.{Parse}
use Rattle.cf_parse_decl.specs.Insides.{insides}
use Rattle.cf_parse_simple.specs.Specifiers.{one_given, specifiers, Takes}
use Rattle.cf_parse_simple.proofs.Turns.{stops, goes-on, ends}
use Rattle.cf_unit.specs.declared.reading.Given.{Given}
use Rattle.cf_unit.specs.Enters.{nothing_given}
use Rattle.cf_unit.specs.Known.{Known}
use Rattle.cf_unit.specs.Read.{taking, row}
use Rattle.cf_parse_simple.proofs.specifier_list.all_given.Goals as goal

pub returns-then-not-branch : goal.returns-then-not-branch
unfolding specifiers
returns-then-not-branch g c =
    let step : Given × Known → Parse (Given × Known) = λ s us. taking (one_given (insides c.args.grammar.now.depth) s us) us in
    stops step (c.len-turn-end.result - c.loop-turn._turn) (c.loop-turn.given, c.loop-turn.known) (c.one_given.new.given, c.one_given.new.known) c.loop-turn.c c.one_given.new.c
    (row step (length c.args.c.now) (nothing_given, c.args.known.now) c.args.c.now)
    (subst (λ b. Takes (step (c.loop-turn.given, c.loop-turn.known) c.loop-turn.c) (Ok b) (c.loop-turn.given, c.loop-turn.known) c.loop-turn.c (c.one_given.new.given, c.one_given.new.known) c.one_given.new.c)
    c.if-not-branch.true c.in_ok-one_given.ensures) c.loop-turn.invariant

pub loop-turn-preserved : goal.loop-turn-preserved
loop-turn-preserved g c =
    let step : Given × Known → Parse (Given × Known) = λ s us. taking (one_given (insides c.args.grammar.now.depth) s us) us in
    goes-on step c.len-turn-end.result c.loop-turn._turn (c.loop-turn.given, c.loop-turn.known) (c.one_given.new.given, c.one_given.new.known) c.loop-turn.c c.one_given.new.c
    (row step (length c.args.c.now) (nothing_given, c.args.known.now) c.args.c.now) c.loop-turn-test.true
    (subst (λ b. Takes (step (c.loop-turn.given, c.loop-turn.known) c.loop-turn.c) (Ok b) (c.loop-turn.given, c.loop-turn.known) c.loop-turn.c (c.one_given.new.given, c.one_given.new.known) c.one_given.new.c)
    c.if-not-branch.false c.in_ok-one_given.ensures) c.loop-turn.invariant

pub returns : goal.returns
unfolding specifiers
returns g c =
    let step : Given × Known → Parse (Given × Known) = λ s us. taking (one_given (insides c.args.grammar.now.depth) s us) us in
    ends step c.len-turn-end.result c.loop-turn._turn (c.loop-turn.given, c.loop-turn.known) c.loop-turn.c
    (row step (length c.args.c.now) (nothing_given, c.args.known.now) c.args.c.now) c.loop-turn-test.false c.loop-turn.invariant
