use Rattle.std.proofs.Common.{◌≡◌, ◌∙◌, ℤ, FitsSigned, w64, to_z, of_z, to_z-of_z, rules, sym, subst}
use Rattle.cf_core.specs.Scalars as scalars
use Rattle.cf_core.specs.Store.{Number}
use Rattle.cf_core_objects.specs.Answer.{Told}
use Rattle.cf_core_objects.specs.Store.{value_of}
use Rattle.cf_base.specs.declared.arith.Arith.TheVariants as arith
use Rattle.cf_core.specs.declared.operators.UnaryOperator.{UnaryOperator}
use Rattle.cf_core_store.proofs.arithmetic.signed.Goals as goal

pub returns-in-Complement : goal.returns-in-Complement
returns-in-Complement c = λ s w.
    let eo : to_z w64 (of_z w64 c.convert-ones.result) ≡ c.convert-ones.result = let fits : FitsSigned w64 c.convert-ones.result = search rules in to_z-of_z {w = w64} {z = c.convert-ones.result} fits in
    subst (λ (o : UnaryOperator). Told Number c.operated-in-Complement.result s w (scalars.signed o c.args.kind (value_of c.args.v) s w)) (sym c.in-Complement.is)
    (subst (λ (y : ℤ). Told Number c.operated-in-Complement.result s w (scalars.operated arith.Xor c.args.kind (value_of c.args.v) (Number y) s w)) (eo ∙ c.convert-ones.ensures) (c.operated-in-Complement.ensures s w))
