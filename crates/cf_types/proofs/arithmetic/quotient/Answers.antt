use Rattle.std.proofs.Common.{◌∙◌, sym, ap}
use Rattle.std.specs.Result.{result_ok}
use Rattle.cf_base.specs.Integers.{ranged}
use Rattle.cf_types.proofs.Computed.{stored, quotient-fits, quotient-ranged}
use Rattle.std.specs.Int.RustNames.{int_div}
use Rattle.cf_types.proofs.arithmetic.quotient.Goals as goal

pub returns-else-b-eq0 : goal.returns-else-b-eq0
returns-else-b-eq0 c =
    c.ranged.ensures
    ∙ stored (λ z. result_ok (ranged c.args.kind z)) int_div c.args.a c.args.b c.ranges.a c.ranges.b (quotient-fits c.args.kind c.args.a c.args.b c.requires.left)
    ∙ ap result_ok (sym (quotient-ranged c.args.kind c.args.a c.args.b c.if-b-eq0.false))
