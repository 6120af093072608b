use Rattle.std.proofs.Common.{◌≡◌, ℤ, FitsSigned, w64, to_z, of_z, to_z-of_z, rules, subst}
use Rattle.cf_core.specs.Scalars as scalars
use Rattle.cf_core.specs.Store.{Number}
use Rattle.cf_core_objects.specs.Answer.{Told}
use Rattle.cf_core_store.proofs.Steps.{operated-at}
use Rattle.cf_core_store.proofs.arithmetic.operated.Goals as goal

pub returns-in-Number-y : goal.returns-in-Number-y
returns-in-Number-y c = λ s w.
    let ea : to_z w64 (of_z w64 c.in-Number.a) ≡ c.in-Number.a = let fits : FitsSigned w64 c.in-Number.a = search rules in to_z-of_z {w = w64} {z = c.in-Number.a} fits in
    let eb : to_z w64 (of_z w64 c.in-Number-y.b) ≡ c.in-Number-y.b = let fits : FitsSigned w64 c.in-Number-y.b = search rules in to_z-of_z {w = w64} {z = c.in-Number-y.b} fits in
    operated-at c.args.op c.args.kind c.args.x c.args.y c.in-Number.a c.in-Number-y.b c.operated_numbers.result s w c.in-Number.is c.in-Number-y.is
    (subst (λ (y : ℤ). Told Number c.operated_numbers.result s w (scalars.operated c.args.op c.args.kind (Number c.in-Number.a) (Number y) s w)) eb
    (subst (λ (x : ℤ). Told Number c.operated_numbers.result s w (scalars.operated c.args.op c.args.kind (Number x) (Number (to_z w64 (of_z w64 c.in-Number-y.b))) s w)) ea (c.operated_numbers.ensures s w)))
