use Rattle.std.proofs.Common.{rules, ◌≤◌, ◌∙◌, length}
use Rattle.std.proofs.lemmas.Result.{err_from_is_err_and}
use Rattle.cf_elab_unit.specs.Unit.Shut as shut
use Rattle.cf_elab_unit.proofs.UnitLaws.ItemRows.{one_built, at_end, stopped, going}
use Rattle.cf_elab_unit.proofs.unit.items.each.Goals as goal

pub item-requires : goal.item-requires
item-requires c = one_built c.args.items.now c.loop-i.i-index c.i-item.result c.requires c.loop-i-test.true c.i-item.is

pub returns-in_err-item : goal.returns-in_err-item
returns-in_err-item c =
    let p = err_from_is_err_and c.from_residual.result c.from_residual.ensures.1 in
    rw (p.1, p.2)
    (stopped (shut.items c.args.items.now c.args.env.now) c.args.items.now c.loop-i.i-index c.i-item.result c.loop-i.env c.loop-i.invariant c.loop-i-test.true c.i-item.is
    c.in_err-item.field-0.0 c.in_err-item.ensures)

pub loop-i-preserved : goal.loop-i-preserved
loop-i-preserved c =
    going (shut.items c.args.items.now c.args.env.now) c.args.items.now c.loop-i.i-index c.i-item.result c.loop-i.env c.loop-i.invariant c.loop-i-test.true c.i-item.is
    c.item.new.env c.in_ok-item.ensures

pub returns : goal.returns
returns c =
    let past : length c.args.items.now ≤ c.loop-i.i-index = search rules in
    c.loop-i.invariant ∙ at_end c.args.items.now c.loop-i.i-index c.loop-i.env past
