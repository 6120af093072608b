-- A type is the same as itself.
use Rattle.std.proofs.Common.{◌≡◌, ℕ, Bool, true, false, ◌==◌, refl, arith}
use Rattle.std.proofs.lemmas.Bool.Decides.{nat_tests}
use Rattle.std.specs.Prelude.{bytes_eq}
use Rattle.cf_base.proofs.Tests.{all_of, bytes_same}
use Rattle.cf_core.specs.Types.{SourceType, void, integer, enumeration, class, pointer, reference, array, takes, gives, data_member, function_member, const, kind_number, bool_eq, type_eq}

pub number-self : (i : ℕ) → i == i ≡ true
number-self i = grind (arith, nat_tests)

pub same-number : (i j : ℕ) → i == j ≡ true → i ≡ j
same-number i j e = grind (arith, nat_tests, e)

bool-self : (b : Bool) → bool_eq b b ≡ true
bool-self true = refl
bool-self false = refl

pub type-self : (t : SourceType) → type_eq t t ≡ true
type-self void = refl
type-self (integer k) = number-self (kind_number k)
type-self (enumeration e) = bytes_same e e refl
type-self (class c) = bytes_same c c refl
type-self (pointer t) = type-self t
type-self (reference t) = type-self t
type-self (array t n) = all_of (type_eq t t) (n == n) (type-self t) (number-self n)
type-self (takes p t) = all_of (type_eq p p) (type_eq t t) (type-self p) (type-self t)
type-self (gives t c) = all_of (type_eq t t) (bool_eq c c) (type-self t) (bool-self c)
type-self (data_member c t) = all_of (bytes_eq c c) (type_eq t t) (bytes_same c c refl) (type-self t)
type-self (function_member c t) = all_of (bytes_eq c c) (type_eq t t) (bytes_same c c refl) (type-self t)
type-self (const t) = type-self t
