use Rattle.std.proofs.Common.{◌≡◌, ◌∙◌, ℤ, FitsSigned, w64, to_z, of_z, to_z-of_z, rules, ap, sym}
use Rattle.std.proofs.Common.{Err}
use Rattle.std.specs.Result.{result_ok}
use Rattle.cf_base.specs.Integers.{int_op}
use Rattle.cf_core_store.specs.Acts.{act_of}
use Rattle.cf_core_store.proofs.Acts.{no-value}
use Rattle.cf_core_store.proofs.arithmetic.result_of.Goals as goal

pub returns-in-None : goal.returns-in-None
returns-in-None c =
    let ea : to_z w64 (of_z w64 c.args.a) ≡ c.args.a = let fits : FitsSigned w64 c.args.a = search rules in to_z-of_z {w = w64} {z = c.args.a} fits in
    let eb : to_z w64 (of_z w64 c.args.b) ≡ c.args.b = let fits : FitsSigned w64 c.args.b = search rules in to_z-of_z {w = w64} {z = c.args.b} fits in
    ap Err (c.act_of.ensures ∙ ap (act_of c.args.op) eb)
    ∙ sym (no-value c.args.op c.args.kind c.args.a c.args.b
    (sym (c.value_of_op.ensures ∙ ap (λ (x : ℤ). result_ok (int_op c.args.op c.args.kind x (to_z w64 (of_z w64 c.args.b)))) ea ∙ ap (λ (y : ℤ). result_ok (int_op c.args.op c.args.kind c.args.a y)) eb)
    ∙ c.in-None.is))
