-- Sums that end at the greatest number of 64 bits.
use Rattle.std.proofs.Common.{◌≡◌, ℕ, arith}
use Rattle.std.specs.Prelude.{max}
use Rattle.cc_whole_limits.specs.Sums.{plus, capped, capped_plus}

pub right : (a b x : ℕ) → x ≡ capped b → capped_plus a x ≡ capped (plus a b)
right a b x e = omega (arith, e)

pub both : (a b x y : ℕ) → x ≡ capped a → y ≡ capped b → capped_plus x y ≡ capped (plus a b)
both a b x y e h = omega (arith, e, h)

pub greater : (a b x y : ℕ) → x ≡ capped a → y ≡ capped b → max x y ≡ capped (max a b)
greater a b x y e h = omega (arith, e, h)

pub left : (a b x : ℕ) → x ≡ capped a → capped_plus x b ≡ capped (plus a b)
left a b x e = omega (arith, e)
