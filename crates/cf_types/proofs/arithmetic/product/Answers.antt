use Rattle.std.proofs.Common.{◌*ℤ◌, w64, ◌^◌, ◌∙◌, sym, lit<}
use Rattle.std.specs.Result.{result_ok}
use Rattle.cf_base.specs.Integers.{ranged}
use Rattle.std.proofs.lemmas.Int.{fits_signed_mul}
use Rattle.cf_types.proofs.Computed.{stored, signed_bound}
use Rattle.cf_types.proofs.arithmetic.product.Goals as goal

pub returns-then-is_signed : goal.returns-then-is_signed
returns-then-is_signed c =
    let signed = sym c.is_signed.ensures ∙ c.if-is_signed.true in
    let within = fits_signed_mul w64 c.args.a c.args.b (2 ^ 31) (2 ^ 31) (signed_bound c.args.kind c.args.a signed c.requires.left) (signed_bound c.args.kind c.args.b signed c.requires.right) (lit< tt) in
    c.ranged.ensures ∙ stored (λ z. result_ok (ranged c.args.kind z)) (λ x y. x *ℤ y) c.args.a c.args.b c.ranges.a c.ranges.b within
