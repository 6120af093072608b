-- A type is the same as itself.
use Rattle.std.proofs.Common.{◌≡◌, ℕ, Bool, true, false, refl, arith}
use Rattle.std.specs.Prelude.{bytes_eq, ◌==◌}
use Rattle.std.proofs.lemmas.Bool.Decides.{nat_tests}
use Rattle.cf_base.proofs.Tests.{all_of, bytes_same}
use Rattle.cf_base.specs.declared.kind.Kind.{Kind}
use Rattle.cf_base.specs.declared.kind.Kind.TheVariants.{Char, SChar, UChar, Short, UShort, Int, UInt, Long, ULong}
use Rattle.cf_core.specs.Types.{SourceType, void, integer, enumeration, class, pointer, reference, array, takes, gives, data_member, function_member, const, kind_number, bool_eq, type_eq, without_const, same_but_const}

kind-same : (k : Kind) → (kind_number k == kind_number k) ≡ true
kind-same Char = refl
kind-same SChar = refl
kind-same UChar = refl
kind-same Short = refl
kind-same UShort = refl
kind-same Int = refl
kind-same UInt = refl
kind-same Long = refl
kind-same ULong = refl

flag-same : (b : Bool) → bool_eq b b ≡ true
flag-same true = refl
flag-same false = refl

nat-same : (n : ℕ) → (n == n) ≡ true
nat-same n = grind (arith, nat_tests)

pub type-same : (t : SourceType) → type_eq t t ≡ true
type-same void = refl
type-same (integer k) = kind-same k
type-same (enumeration e) = bytes_same e e refl
type-same (class c) = bytes_same c c refl
type-same (pointer t) = type-same t
type-same (reference t) = type-same t
type-same (array t n) = all_of (type_eq t t) (n == n) (type-same t) (nat-same n)
type-same (takes p t) = all_of (type_eq p p) (type_eq t t) (type-same p) (type-same t)
type-same (gives t c) = all_of (type_eq t t) (bool_eq c c) (type-same t) (flag-same c)
type-same (data_member c t) = all_of (bytes_eq c c) (type_eq t t) (bytes_same c c refl) (type-same t)
type-same (function_member c t) = all_of (bytes_eq c c) (type_eq t t) (bytes_same c c refl) (type-same t)
type-same (const t) = type-same t

-- also otherwise than in const
pub same-itself : (t : SourceType) → same_but_const t t ≡ true
same-itself t = type-same (without_const t)
