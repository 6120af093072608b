-- What operators and conversions make of known numbers.
use Rattle.std.proofs.Common.{◌≡◌, ℤ, pos, ◌-ℤ◌, IsTrue, Result, Ok, Err, ℕ, Option, Some, None, refl, subst, sym}
use Rattle.std.specs.Result.{result_ok}
use Rattle.cf_base.specs.declared.kind.Kind.{Kind}
use Rattle.cf_base.specs.declared.arith.Arith.{Arith}
use Rattle.cf_base.specs.Integers.{fits, int_op, ranged, convert}
use Rattle.cf_elab.specs.Operand.{known_number}
use Rattle.cf_elab.specs.Arithmetic.{result_kind}
use Rattle.cf_elab_numbers.specs.Numbers.{NumberOf}
use Rattle.cf_elab_numbers.proofs.Fits.{result-fits, ranged-fits, convert-fits, zero-fits}

pub known_is : (z : ℤ) (r : Result ℤ ℕ) → known_number (Some z) r ≡ result_ok r
known_is z (Ok w) = refl
known_is z (Err e) = refl

of_result : (k : Kind) (r : Result ℤ ℕ) → ((w : ℤ) → r ≡ Ok w → IsTrue (fits k w)) → NumberOf k (result_ok r)
of_result k (Ok w) each = each w refl
of_result k (Err e) each = tt

pub operated_fits : (o : Arith) (k : Kind) (a b : ℤ) → IsTrue (fits k a) → NumberOf (result_kind o k) (result_ok (int_op o k a b))
operated_fits o k a b f = of_result (result_kind o k) (int_op o k a b) (λ w e. result-fits o k a b w f e)

pub fits_of_result : (o : Arith) (k : Kind) (a b : ℤ) (r : Option ℤ) → IsTrue (fits k a) → r ≡ result_ok (int_op o k a b) → NumberOf (result_kind o k) r
fits_of_result o k a b r f e = subst (λ n. NumberOf (result_kind o k) n) (sym e) (operated_fits o k a b f)

pub zero_fits : (k : Kind) → IsTrue (fits k (pos 0))
zero_fits k = zero-fits k

pub negative_fits : (k : Kind) (a : ℤ) → NumberOf k (result_ok (ranged k (pos 0 -ℤ a)))
negative_fits k a = of_result k (ranged k (pos 0 -ℤ a)) (λ w e. ranged-fits k (pos 0 -ℤ a) w e)

pub converted_fits : (k : Kind) (z : ℤ) → IsTrue (fits k (convert k z))
converted_fits k z = convert-fits k z

pub ruleset negative_laws = (known_is, negative_fits, zero_fits)

pub ruleset converted_laws = (converted_fits)
