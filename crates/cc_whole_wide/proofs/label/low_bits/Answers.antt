use Rattle.std.proofs.Common.{refl, arith}
use Rattle.cc_whole_wide.proofs.Bits.{one_more, all_read}
use Rattle.cc_whole_wide.proofs.label.low_bits.Goals as goal

pub loop-rest-init : goal.loop-rest-init
loop-rest-init c = record { small = omega arith; same = refl }

pub loop-rest-preserved : goal.loop-rest-preserved
loop-rest-preserved c =
    one_more c.loop-rest.rest.now c.args.digits.now c.loop-rest.value c.with_digit-value.result c.in-len1-up.len_at_least c.with_digit-value.type_inv
    c.with_digit-value.ensures c.loop-rest.invariant

pub returns : goal.returns
returns c = all_read c.loop-rest.rest.now c.args.digits.now c.loop-rest.value c.in_default.len_below c.loop-rest.invariant
