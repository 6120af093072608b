use Rattle.std.proofs.Common.{sym, ◌∙◌}
use Rattle.cf_core.specs.FromUnit.{tables_of}
use Rattle.cf_sound.proofs.MainLaws.{main_here, main_later, main_nowhere}
use Rattle.cf_sound.proofs.files.has_main.Goals as goal

pub returns-then-stands_for_main : goal.returns-then-stands_for_main
returns-then-stands_for_main c =
    main_here (tables_of c.args.unit.now) c.args.functions.now c.loop-f.f-index c.f-item.result c.loop-f-test.true c.f-item.is c.is_main.result
    (sym c.stands_for_main.ensures ∙ c.if-stands_for_main.true) c.is_main.ensures c.loop-f.invariant

pub loop-f-preserved : goal.loop-f-preserved
loop-f-preserved c =
    main_later (tables_of c.args.unit.now) c.args.functions.now c.loop-f.f-index c.f-item.result c.loop-f-test.true c.f-item.is
    (sym c.stands_for_main.ensures ∙ c.if-stands_for_main.false) c.loop-f.invariant

pub returns : goal.returns
returns c = main_nowhere (tables_of c.args.unit.now) c.args.functions.now c.loop-f.f-index c.loop-f-test.false c.loop-f.invariant
