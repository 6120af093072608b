use Rattle.std.proofs.Common.{rules, ◌≤◌, length, get_or, refl}
use Rattle.cf_elab_functions.proofs.EntryLaws.{none_fits, one_fits, other_is}
use Rattle.cf_elab_functions.proofs.entries.first_of.Goals as goal

pub entry-requires : goal.entry-requires
entry-requires c = c.requires.inside c.loop-number.number-index 0 c.loop-number-test.true

pub returns-then-have_same-clause-value : goal.returns-then-have_same-clause-value
returns-then-have_same-clause-value c =
    one_fits c.args.env.now.types c.args.env.now.entries c.args.says.now.ty c.loop-number.number-index c.args.numbers.now c.loop-number.invariant
    (get_or c.args.numbers.now c.loop-number.number-index 0) 0 c.entry.result.now c.have_same.result c.loop-number-test.true refl c.entry.ensures.value c.have_same.ensures
    c.if-have_same.true

pub loop-number-preserved : goal.loop-number-preserved
loop-number-preserved c =
    other_is c.args.env.now.types c.args.env.now.entries c.args.says.now.ty c.loop-number.number-index c.args.numbers.now c.loop-number.invariant
    (get_or c.args.numbers.now c.loop-number.number-index 0) 0 c.entry.result.now c.have_same.result c.loop-number-test.true refl c.entry.ensures.value c.have_same.ensures
    c.if-have_same.false

pub returns-clause-value : goal.returns-clause-value
returns-clause-value c =
    let past : length c.args.numbers.now ≤ c.loop-number.number-index = search rules in
    none_fits c.args.env.now.types c.args.env.now.entries c.args.says.now.ty c.loop-number.number-index c.args.numbers.now c.loop-number.invariant past
