-- Which numbers int and unsigned int have.
use Rattle.std.proofs.Common.{◌≡◌, Bool, true, false, ◌&&◌, nat_lt, nat_le, refl, ap, arith}
use Rattle.std.specs.Prelude.{ℤ, pos, negsuc, int_le, int_lt}
use Rattle.std.proofs.Math.Dec.{leb-zero}
use Rattle.std.proofs.lemmas.Bool.Decides.{nat_tests}
use Rattle.cf_base.specs.declared.kind.Kind.TheVariants.{Int, UInt}
use Rattle.cf_base.specs.Integers.{fits}

pub of_int : (z : ℤ) → (int_le (negsuc 2147483647) z && int_lt z (pos 2147483648)) ≡ fits Int z
of_int (pos n) = refl
of_int (negsuc n) = by (nat_le n 2147483647) refl
  where
    by : (b : Bool) → nat_le n 2147483647 ≡ b → (b && true) ≡ nat_lt n 2147483648
    by true e = grind (arith, nat_tests)
    by false e = grind (arith, nat_tests)

pub of_unsigned : (z : ℤ) → (int_le (pos 0) z && int_lt z (pos 4294967296)) ≡ fits UInt z
of_unsigned (pos n) = ap (λ b. b && nat_lt n 4294967296) (leb-zero n)
of_unsigned (negsuc n) = refl
