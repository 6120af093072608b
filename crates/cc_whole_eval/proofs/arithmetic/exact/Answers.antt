use Rattle.std.proofs.Common.{◌≡◌, Err, ap, sym, ◌∙◌, rules, to_z, of_z, to_z-of_z, w64, FitsSigned, None}
use Rattle.std.specs.Result.{result_ok}
use Rattle.cf_base.specs.Integers.{int_op}
use Rattle.cc_whole_memory.specs.Store.{act_number}
use Rattle.cc_whole_eval.specs.Acts.{act_of}
use Rattle.cc_whole_eval.proofs.Acts.{no-value}
use Rattle.cc_whole_eval.proofs.arithmetic.exact.Goals as goal

pub returns-in-None : goal.returns-in-None
returns-in-None c =
    let fa : FitsSigned w64 c.args.a = search rules in
    let fb : FitsSigned w64 c.args.b = search rules in
    let a = to_z-of_z {w = w64} {z = c.args.a} fa in
    let b = to_z-of_z {w = w64} {z = c.args.b} fb in
    let none : result_ok (int_op c.args.op c.args.kind c.args.a c.args.b) ≡ None =
    ap (λ x. result_ok (int_op c.args.op c.args.kind x c.args.b)) (sym a)
    ∙ ap (λ y. result_ok (int_op c.args.op c.args.kind (to_z w64 (of_z w64 c.args.a)) y)) (sym b)
    ∙ sym c.int_op.ensures ∙ c.in-None.is in
    let act : act_number c.act_of.result ≡ act_of c.args.op c.args.b = search rules in
    ap Err act ∙ sym (no-value c.args.op c.args.kind c.args.a c.args.b none)
