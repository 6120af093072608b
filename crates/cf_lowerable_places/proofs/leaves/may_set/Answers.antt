use Rattle.std.proofs.Common.{◌≡◌, sym, subst}
use Rattle.std.specs.Prelude.{IfOk}
use Rattle.cf_core.specs.FromTypes.{type_of}
use Rattle.cf_plain.specs.Plain.{pointer_call}
use Rattle.cf_lower_held.specs.Scenes.{action_in, locals_in}
use Rattle.cf_lower_types.specs.Bare.{classes_of}
use Rattle.cf_lowerable_places.specs.Contents.{knowing}
use Rattle.cf_lowerable_places.specs.Fits.{given_in, set_fits}
use Rattle.cf_lowerable_places.proofs.leaves.may_set.Goals as goal

pub returns-in-PointerCall : goal.returns-in-PointerCall
returns-in-PointerCall c =
    let x = c.args.x.now in
    let g = knowing x c.args.cs.now in
    subst (λ a. IfOk c.set_by_pointer.result (λ may. may ≡ set_fits (locals_in x) (given_in x) (classes_of x.tables.now) g (action_in x a))) (sym c.in-PointerCall.is)
    (subst (λ l. IfOk c.set_by_pointer.result (λ may. may ≡ set_fits (locals_in x) (given_in x) (classes_of x.tables.now) g
    (pointer_call c.in-PointerCall.object c.in-PointerCall.pointer (type_of x.tables.now c.in-PointerCall.ty) l c.in-PointerCall.result))) c.as_slice-in-PointerCall.ensures
    (c.set_by_pointer.ensures g c.held.ensures))
