use Rattle.std.proofs.Common.{◌≡◌, ◌∙◌, [], ℤ, FitsSigned, to_z, of_z, to_z-of_z, rules, sym, subst}
use Rattle.std.specs.Int.{w128}
use Rattle.cf_base.specs.World.{Ran}
use Rattle.cf_core.specs.Pointers as pointers
use Rattle.cf_core.specs.Run.{Did}
use Rattle.cf_core.specs.Scalars as scalars
use Rattle.cf_core.specs.Store.{Value}
use Rattle.cf_core_objects.specs.declared.answer.Value.{Value as Given}
use Rattle.cf_core_objects.specs.Answer.{Told}
use Rattle.cf_core_objects.specs.Store.{state_of, value_of}
use Rattle.cf_core_store.proofs.StoreLaws.{indexed-other}
use Rattle.cf_core_store.proofs.moving.indexed.Goals as goal

pub returns-in-Number : goal.returns-in-Number
returns-in-Number c = λ T e w.
    let fits : FitsSigned w128 c.from.result = search rules in
    let from : c.from.result ≡ c.in-Number.by = search rules in
    let eb : to_z w128 (of_z w128 c.from.result) ≡ c.in-Number.by = to_z-of_z {w = w128} {z = c.from.result} fits ∙ from in
    subst (λ (x : Given). Told value_of c.moved_value.result (state_of T e c.args.objects.now) w (scalars.indexed [] (value_of x) (value_of c.args.y) (state_of T e c.args.objects.now) w)) (sym c.in-Number.is)
    (subst (λ (z : ℤ). Told value_of c.moved_value.result (state_of T e c.args.objects.now) w (pointers.moved_value [] (value_of c.args.y) z (state_of T e c.args.objects.now) w)) eb (c.moved_value.ensures T e w))

pub returns-in_default : goal.returns-in_default
returns-in_default c = λ T e w.
    subst (λ (r : Ran (Did Value)). Told value_of c.moved_by.result (state_of T e c.args.objects.now) w r) (sym (indexed-other c.args.x (value_of c.args.y) (state_of T e c.args.objects.now) w c.in_default.not-Number)) (c.moved_by.ensures T e w)
