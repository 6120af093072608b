-- A type is the same as itself.
use Rattle.std.proofs.Common.{◌≡◌, ℕ, Bool, true, false, ◌&&◌, List, [], ◌∷◌, refl, arith, ◌==◌, bytes_eq, nat_eq}
use Rattle.std.proofs.lemmas.Bool.Decides.{nat_tests}
use Rattle.cf_base.specs.declared.kind.Kind.{Kind}
use Rattle.cf_core.specs.Types.{SourceType, void, integer, enumeration, class, pointer, reference, array, takes, gives, data_member, function_member, const, type_eq, kind_number, bool_eq, same_but_const, without_const}

nat-same : (n : ℕ) → (n == n) ≡ true
nat-same n = grind (arith, nat_tests)

and-both : (a b : Bool) → a ≡ true → b ≡ true → (a && b) ≡ true
and-both true b h k = k
and-both false b h k = h

bytes-same : (xs : List ℕ) → bytes_eq xs xs ≡ true
bytes-same [] = refl
bytes-same (x ∷ xs) = and-both (nat_eq x x) (bytes_eq xs xs) (let h : nat_eq x x ≡ true = grind (arith, nat_tests) in h) (bytes-same xs)

kind-same : (k : Kind) → (kind_number k == kind_number k) ≡ true
kind-same k = nat-same (kind_number k)

bool-same : (b : Bool) → bool_eq b b ≡ true
bool-same true = refl
bool-same false = refl

type-same : (t : SourceType) → type_eq t t ≡ true
type-same void = refl
type-same (integer k) = kind-same k
type-same (enumeration e) = bytes-same e
type-same (class c) = bytes-same c
type-same (pointer t) = type-same t
type-same (reference t) = type-same t
type-same (array t n) = and-both (type_eq t t) (n == n) (type-same t) (nat-same n)
type-same (takes p t) = and-both (type_eq p p) (type_eq t t) (type-same p) (type-same t)
type-same (gives t c) = and-both (type_eq t t) (bool_eq c c) (type-same t) (bool-same c)
type-same (data_member c t) = and-both (bytes_eq c c) (type_eq t t) (bytes-same c) (type-same t)
type-same (function_member c t) = and-both (bytes_eq c c) (type_eq t t) (bytes-same c) (type-same t)
type-same (const t) = type-same t

pub same-itself : (t : SourceType) → same_but_const t t ≡ true
same-itself t = type-same (without_const t)
