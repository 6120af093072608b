-- Where an operator gives no value, it is the act of its kind.
use Rattle.std.proofs.Common.{◌≡◌, ℕ, zero, suc, Bool, true, false, if◌then◌else◌, ℤ, pos, negsuc, None, Ok, Err, refl, nat_lt}
use Rattle.std.specs.Result.{result_ok}
use Rattle.std.specs.Prelude.{◌&&◌, ◌||◌, ◌*ℤ◌, ◌+ℤ◌, ◌-ℤ◌, int_lt, int_le, int_div}
use Rattle.cf_base.specs.declared.kind.Kind.{Kind}
use Rattle.cf_base.specs.declared.arith.Arith.{Arith}
use Rattle.cf_base.specs.declared.arith.Arith.TheVariants as op
use Rattle.cf_base.specs.Integers.{int_op, ranged, truth, shifted, left_by, right_by, fits, is_signed, convert, width, overflow, shift_count}
use Rattle.cc_whole_eval.specs.Acts.{act_of}

kept : (b c : Bool) (y z : ℤ) → result_ok (if b then Ok z else (if c then Err overflow else Ok y)) ≡ None
    → (if b then Ok z else (if c then Err overflow else Ok y)) ≡ Err overflow
kept true c y z e = absurd (cc)
kept false true y z e = refl
kept false false y z e = absurd (cc)

ranged-none : (k : Kind) (z : ℤ) → result_ok (ranged k z) ≡ None → ranged k z ≡ Err overflow
ranged-none k z e = kept (fits k z) (is_signed k) (convert k z) z e

truth-none : (b : Bool) (n : ℕ) → result_ok (truth b) ≡ None → truth b ≡ Err n
truth-none true n e = absurd (cc)
truth-none false n e = absurd (cc)

within : (b : Bool) (z : ℤ) → result_ok (if b then Ok z else Err shift_count) ≡ None → (if b then Ok z else Err shift_count) ≡ Err shift_count
within true z e = absurd (cc)
within false z e = refl

shifted-none : (f : ℕ → ℤ) (w : ℕ) (b : ℤ) → result_ok (shifted f w b) ≡ None → shifted f w b ≡ Err shift_count
shifted-none f w (pos n) e = within (nat_lt n w) (f n) e
shifted-none f w (negsuc n) e = refl

pub no-value : (o : Arith) (k : Kind) (a b : ℤ) → result_ok (int_op o k a b) ≡ None → int_op o k a b ≡ Err (act_of o b)
no-value op.Multiply k a b e = ranged-none k (a *ℤ b) e
no-value op.Divide k a (pos zero) e = refl
no-value op.Divide k a (pos (suc n)) e = ranged-none k (int_div a (pos (suc n))) e
no-value op.Divide k a (negsuc n) e = ranged-none k (int_div a (negsuc n)) e
no-value op.Remainder k a (pos zero) e = refl
no-value op.Remainder k a (pos (suc n)) e = absurd (cc)
no-value op.Remainder k a (negsuc n) e = absurd (cc)
no-value op.Add k a b e = ranged-none k (a +ℤ b) e
no-value op.Subtract k a b e = ranged-none k (a -ℤ b) e
no-value op.ShiftLeft k a b e = shifted-none (left_by k a) (width k) b e
no-value op.ShiftRight k a b e = shifted-none (right_by a) (width k) b e
no-value op.Less k a b e = truth-none (int_lt a b) _ e
no-value op.Greater k a b e = truth-none (int_lt b a) _ e
no-value op.LessEqual k a b e = truth-none (int_le a b) _ e
no-value op.GreaterEqual k a b e = truth-none (int_le b a) _ e
no-value op.Equal k a b e = truth-none (int_le a b && int_le b a) _ e
no-value op.NotEqual k a b e = truth-none (int_lt a b || int_lt b a) _ e
no-value op.And k a b e = absurd (cc)
no-value op.Xor k a b e = absurd (cc)
no-value op.Or k a b e = absurd (cc)
