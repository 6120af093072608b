use Rattle.std.proofs.Common.{sym, ◌∙◌}
use Rattle.cf_base.specs.Integers.{fits}
use Rattle.cf_base.specs.declared.kind.Kind.TheVariants.{Int}
use Rattle.cf_lowerable_core.proofs.LabelLaws.{label_fails, label_passed, labels_end}
use Rattle.cf_lowerable_core.proofs.nodes.are_ints.Goals as goal

pub returns-then-not-label_is_int : goal.returns-then-not-label_is_int
returns-then-not-label_is_int c = λ tables.
    label_fails (fits Int) tables c.args.body.now c.loop-s.s-index c.s-item.result c.loop-s-test.true c.s-item.is
    (sym (c.label_is_int.ensures tables) ∙ c.if-not-label_is_int.true) (c.loop-s.invariant tables)

pub loop-s-preserved : goal.loop-s-preserved
loop-s-preserved c = λ tables.
    label_passed (fits Int) tables c.args.body.now c.loop-s.s-index c.s-item.result c.loop-s-test.true c.s-item.is
    (sym (c.label_is_int.ensures tables) ∙ c.if-not-label_is_int.false) (c.loop-s.invariant tables)

pub returns : goal.returns
returns c = λ tables. labels_end (fits Int) tables c.args.body.now c.loop-s.s-index c.loop-s-test.false (c.loop-s.invariant tables)
