use Rattle.std.proofs.Common.{◌≡◌, [], ℤ, FitsSigned, to_z, of_z, to_z-of_z, rules, sym, subst}
use Rattle.std.specs.Int.{w128}
use Rattle.cf_core.specs.Pointers as pointers
use Rattle.cf_core_place.specs.Routes.{place_of}
use Rattle.cf_core_objects.specs.declared.answer.Value.{Value as Given}
use Rattle.cf_core_objects.specs.Answer.{Told}
use Rattle.cf_core_objects.specs.Store.{state_of, value_of}
use Rattle.cf_core_store.proofs.moving.moved_value.Goals as goal

pub returns-in-At : goal.returns-in-At
returns-in-At c = λ T e w.
    let eb : to_z w128 (of_z w128 c.args.by) ≡ c.args.by = let fits : FitsSigned w128 c.args.by = search rules in to_z-of_z {w = w128} {z = c.args.by} fits in
    subst (λ (x : Given). Told value_of c.moved_place.result (state_of T e c.args.objects.now) w (pointers.moved_value [] (value_of x) c.args.by (state_of T e c.args.objects.now) w)) (sym c.in-At.is)
    (subst (λ (z : ℤ). Told value_of c.moved_place.result (state_of T e c.args.objects.now) w (pointers.moved_place [] (place_of c.in-At.place) z (state_of T e c.args.objects.now) w)) eb (c.moved_place.ensures T e w))
