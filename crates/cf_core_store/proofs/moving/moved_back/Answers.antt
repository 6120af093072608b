use Rattle.std.proofs.Common.{◌≡◌, ◌∙◌, [], ℤ, pos, ◌-ℤ◌, FitsSigned, to_z, of_z, to_z-of_z, rules, ap, sym, subst}
use Rattle.std.specs.Int.{w128}
use Rattle.std.specs.Prelude.{neg_ℤ}
use Rattle.cf_core.specs.Pointers as pointers
use Rattle.cf_core_objects.specs.declared.answer.Value.{Value as Given}
use Rattle.cf_core_objects.specs.Answer.{Told}
use Rattle.cf_core_objects.specs.Store.{state_of, value_of}
use Rattle.cf_core_store.proofs.moving.moved_back.Goals as goal

pub returns-in-Number : goal.returns-in-Number
returns-in-Number c = λ T e w.
    let inner_fits : FitsSigned w128 c.from.result = search rules in
    let from : c.from.result ≡ c.in-Number.number = search rules in
    let inner : to_z w128 (of_z w128 c.from.result) ≡ c.in-Number.number = to_z-of_z {w = w128} {z = c.from.result} inner_fits ∙ from in
    let fits : FitsSigned w128 (pos 0 -ℤ to_z w128 (of_z w128 c.from.result)) = search rules in
    let minus : (pos 0 -ℤ c.in-Number.number) ≡ neg_ℤ c.in-Number.number = search rules in
    let eb : to_z w128 (of_z w128 (pos 0 -ℤ to_z w128 (of_z w128 c.from.result))) ≡ neg_ℤ c.in-Number.number =
    to_z-of_z {w = w128} {z = pos 0 -ℤ to_z w128 (of_z w128 c.from.result)} fits ∙ ap (λ z. pos 0 -ℤ z) inner ∙ minus in
    subst (λ (x : Given). Told value_of c.moved_value.result (state_of T e c.args.objects.now) w (pointers.moved_back [] (value_of c.args.v) (value_of x) (state_of T e c.args.objects.now) w)) (sym c.in-Number.is)
    (subst (λ (n : ℤ). Told value_of c.moved_value.result (state_of T e c.args.objects.now) w (pointers.moved_value [] (value_of c.args.v) n (state_of T e c.args.objects.now) w)) eb (c.moved_value.ensures T e w))
