-- What is converted to an int fits an int.
use Rattle.std.proofs.Common.{◌≡◌, ℕ, suc, ◌+◌, ◌-◌, ◌*◌, ◌%◌, ◌^◌, ◌<◌, ◌≤◌, Bool, true, false, if◌then◌else◌, nat_lt, refl, arith}
use Rattle.std.specs.Prelude.{ℤ, pos, negsuc}
use Rattle.std.proofs.lemmas.Bool.Decides.{nat_tests}
use Rattle.std.proofs.lemmas.Nat.{mod_below}
use Rattle.cf_base.specs.declared.kind.Kind.TheVariants.{Int}
use Rattle.cf_base.specs.Integers.{fits, convert, bits_of}

below : (n : ℕ) → n < 4294967296 → fits Int (if nat_lt n 2147483648 then pos n else negsuc (4294967296 - suc n)) ≡ true
below n lt = by (nat_lt n 2147483648) refl
  where
    by : (b : Bool) → nat_lt n 2147483648 ≡ b → fits Int (if b then pos n else negsuc (4294967296 - suc n)) ≡ true
    by true e = e
    by false e = grind (arith, nat_tests, e, lt)

word : (z : ℤ) → bits_of 32 z < 4294967296
word (pos n) = mod_below n 4294967296 (omega arith)
word (negsuc n) = let r : n % 4294967296 < 4294967296 = mod_below n 4294967296 (omega arith) in omega (arith, r)

pub int-fits : (z : ℤ) → fits Int (convert Int z) ≡ true
int-fits z = below (bits_of 32 z) (word z)
