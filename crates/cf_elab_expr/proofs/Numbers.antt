-- A number that conversion leaves alone is one of its type.
use Rattle.std.proofs.Common.{◌≡◌, IsTrue, ℤ, subst}
use Rattle.cf_base.specs.Integers.{fits, convert}
use Rattle.cf_base.specs.declared.kind.Kind.{Kind}
use Rattle.cf_elab_numbers.proofs.Fits.{convert-fits}

pub fits_same : (k : Kind) (z : ℤ) → convert k z ≡ z → IsTrue (fits k z)
fits_same k z e = subst (λ w. IsTrue (fits k w)) e (convert-fits k z)
