use Rattle.std.proofs.Common.{◌≡◌, [], ℤ, FitsSigned, w64, to_z, of_z, to_z-of_z, rules, sym, subst}
use Rattle.cf_core.specs.Scalars as scalars
use Rattle.cf_core.specs.Store.{Number}
use Rattle.cf_core_objects.specs.declared.answer.Value.{Value as Given}
use Rattle.cf_core_objects.specs.Answer.{Told}
use Rattle.cf_core_objects.specs.Store.{value_of}
use Rattle.cf_core.specs.Core.{arithmetic}
use Rattle.cf_core_store.proofs.StoreLaws.{told-number}
use Rattle.cf_core_store.proofs.results.changed_number.Goals as goal

pub returns-in-Number : goal.returns-in-Number
returns-in-Number c = λ s w.
    let ex : to_z w64 (of_z w64 c.in-Number.x) ≡ c.in-Number.x = let fits : FitsSigned w64 c.in-Number.x = search rules in to_z-of_z {w = w64} {z = c.in-Number.x} fits in
    let by = arithmetic c.args.by.op c.args.by.at c.args.by.to in
    subst (λ (x : Given). Told value_of c.number.result s w (scalars.changed_value [] by (value_of x) (value_of c.args.y) s w)) (sym c.in-Number.is)
    (told-number c.changed.result c.number.result s w (scalars.changed_value [] by (Number c.in-Number.x) (value_of c.args.y) s w) c.number.ensures
    (subst (λ (x : ℤ). Told Number c.changed.result s w (scalars.changed_value [] by (Number x) (value_of c.args.y) s w)) ex (c.changed.ensures s w)))
