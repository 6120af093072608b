use Rattle.std.proofs.Common.{◌≡◌, rules, to_z, of_z, w64}
use Rattle.cf_base.specs.Integers.{convert}
use Rattle.cc_whole_eval.proofs.Converted.{converted-taken}
use Rattle.cc_whole_eval.proofs.arithmetic.operated.Goals as goal

pub exact-requires : goal.exact-requires
exact-requires c =
    let e : to_z w64 (of_z w64 c.convert_int-left.result) ≡ convert c.args.kind c.args.a = search rules in
    let f : to_z w64 (of_z w64 c.convert_int-right.result) ≡ convert c.args.kind c.args.b = search rules in
    converted-taken c.args.op c.args.kind c.args.a c.args.b (to_z w64 (of_z w64 c.convert_int-left.result)) (to_z w64 (of_z w64 c.convert_int-right.result)) e f
