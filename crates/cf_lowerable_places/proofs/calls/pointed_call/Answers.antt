use Rattle.cf_core.specs.FromTypes.{type_of}
use Rattle.cf_lower_held.specs.Scenes.{locals_in}
use Rattle.cf_lower_types.specs.Bare.{classes_of}
use Rattle.cf_lowerable_places.specs.Contents.{known}
use Rattle.cf_lowerable_places.specs.Fits.{given_in}
use Rattle.cf_lowerable_places.proofs.CallLaws.{pointed_all, pointed_not_own}
use Rattle.cf_lowerable_places.proofs.calls.pointed_call.Goals as goal

pub returns-then-not-branch-2 : goal.returns-then-not-branch-2
returns-then-not-branch-2 c =
    let x = c.args.x.now in
    pointed_not_own (locals_in x) (given_in x) (classes_of x.tables.now) (known x.tables.now c.args.pointer.now) (type_of x.tables.now c.args.ty) c.args.arguments.now c.in_ok-own_call.field-0
    c.in_ok-own_call.ensures c.if-not-branch-2.true

pub returns : goal.returns
returns c =
    let x = c.args.x.now in
    pointed_all (locals_in x) (given_in x) (classes_of x.tables.now) (known x.tables.now c.args.pointer.now) (type_of x.tables.now c.args.ty) c.args.arguments.now c.in_ok-is_code_for.field-0
    c.in_ok-own_call.field-0 c.may_lead_to_each.result c.in_ok-is_code_for.ensures c.if-not-branch.false c.in_ok-own_call.ensures c.if-not-branch-2.false c.may_lead_to_each.ensures
