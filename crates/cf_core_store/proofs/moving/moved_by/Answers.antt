use Rattle.std.proofs.Common.{◌≡◌, ◌∙◌, [], ℤ, FitsSigned, to_z, of_z, to_z-of_z, rules, sym, subst}
use Rattle.std.specs.Int.{w128}
use Rattle.cf_core.specs.Pointers as pointers
use Rattle.cf_core.specs.Scalars as scalars
use Rattle.cf_core_objects.specs.declared.answer.Value.{Value as Given}
use Rattle.cf_core_objects.specs.Answer.{Told}
use Rattle.cf_core_objects.specs.Store.{state_of, value_of}
use Rattle.cf_core_store.proofs.moving.moved_by.Goals as goal

pub returns-in-Number : goal.returns-in-Number
returns-in-Number c = λ T e w.
    let fits : FitsSigned w128 c.from.result = search rules in
    let from : c.from.result ≡ c.in-Number.by = search rules in
    let eb : to_z w128 (of_z w128 c.from.result) ≡ c.in-Number.by = to_z-of_z {w = w128} {z = c.from.result} fits ∙ from in
    subst (λ (x : Given). Told value_of c.moved_value.result (state_of T e c.args.objects.now) w (scalars.moved_by [] (value_of c.args.v) (value_of x) (state_of T e c.args.objects.now) w)) (sym c.in-Number.is)
    (subst (λ (z : ℤ). Told value_of c.moved_value.result (state_of T e c.args.objects.now) w (pointers.moved_value [] (value_of c.args.v) z (state_of T e c.args.objects.now) w)) eb (c.moved_value.ensures T e w))
