-- Types that are found to be the same are.
use Rattle.std.proofs.Common.{◌≡◌, ℕ, Bool, true, false, ◌==◌, if◌then◌else◌, refl, sym, ◌∙◌, ap, arith}
use Rattle.std.proofs.lemmas.Bool.Decides.{nat_tests}
use Rattle.cf_base.specs.declared.kind.Kind.{Kind}
use Rattle.cf_base.specs.declared.kind.Kind.TheVariants.{Char, SChar, UChar, Short, UShort, Int, UInt, Long, ULong}
use Rattle.cf_base.proofs.Tests.{both, same_bytes}
use Rattle.cf_core.specs.Types.{SourceType, void, integer, enumeration, class, pointer, reference, array, takes, gives, data_member, function_member, const, kind_number, bool_eq, type_eq, without_const, same_but_const}

abbrev kind-of : ℕ → Kind
kind-of n = if n == 0 then Char else (if n == 1 then SChar else (if n == 2 then UChar else (if n == 3 then Short else (if n == 4 then UShort else (if n == 5 then Int else (if n == 6 then UInt else (if n == 7 then Long else ULong)))))))

of-number : (k : Kind) → kind-of (kind_number k) ≡ k
of-number Char = refl
of-number SChar = refl
of-number UChar = refl
of-number Short = refl
of-number UShort = refl
of-number Int = refl
of-number UInt = refl
of-number Long = refl
of-number ULong = refl

same-kind : (k l : Kind) → kind_number k == kind_number l ≡ true → k ≡ l
same-kind k l e = sym (of-number k) ∙ ap kind-of (let h : kind_number k ≡ kind_number l = grind (arith, nat_tests, e) in h) ∙ of-number l

same-bool : (b c : Bool) → bool_eq b c ≡ true → b ≡ c
same-bool true c e = sym e
same-bool false true e = absurd (cc)
same-bool false false e = refl

pub same-type : (t u : SourceType) → type_eq t u ≡ true → t ≡ u
same-type void void e = refl
same-type (integer k) (integer l) e = ap integer (same-kind k l e)
same-type (enumeration n) (enumeration m) e = ap enumeration (same_bytes n m e)
same-type (class c) (class d) e = ap class (same_bytes c d e)
same-type (pointer t) (pointer u) e = ap pointer (same-type t u e)
same-type (reference t) (reference u) e = ap reference (same-type t u e)
same-type (array t n) (array u m) e =
    let parts = both (type_eq t u) (n == m) e in
    ap (λ v. array v n) (same-type t u parts.0) ∙ ap (array u) (let p = parts.1 in let h : n ≡ m = grind (arith, nat_tests, p) in h)
same-type (takes p t) (takes q u) e =
    let parts = both (type_eq p q) (type_eq t u) e in
    ap (λ v. takes v t) (same-type p q parts.0) ∙ ap (takes q) (same-type t u parts.1)
same-type (gives t b) (gives u c) e =
    let parts = both (type_eq t u) (bool_eq b c) e in
    ap (λ v. gives v b) (same-type t u parts.0) ∙ ap (gives u) (same-bool b c parts.1)
same-type (data_member c t) (data_member d u) e =
    let parts = both _ (type_eq t u) e in
    ap (λ v. data_member v t) (same_bytes c d parts.0) ∙ ap (data_member d) (same-type t u parts.1)
same-type (function_member c t) (function_member d u) e =
    let parts = both _ (type_eq t u) e in
    ap (λ v. function_member v t) (same_bytes c d parts.0) ∙ ap (function_member d) (same-type t u parts.1)
same-type (const t) (const u) e = ap const (same-type t u e)
same-type t u e = absurd (cc)

pub same-without_const : (t u : SourceType) → same_but_const t u ≡ true → without_const t ≡ without_const u
same-without_const t u e = same-type (without_const t) (without_const u) e

-- const is left out once
pub without-twice : (t : SourceType) → without_const (without_const t) ≡ without_const t
without-twice void = refl
without-twice (integer k) = refl
without-twice (enumeration e) = refl
without-twice (class c) = refl
without-twice (pointer t) = ap pointer (without-twice t)
without-twice (reference t) = ap reference (without-twice t)
without-twice (array t n) = ap (λ u. array u n) (without-twice t)
without-twice (takes p t) = ap (λ q. takes q (without_const (without_const t))) (without-twice p) ∙ ap (takes (without_const p)) (without-twice t)
without-twice (gives t c) = ap (λ u. gives u false) (without-twice t)
without-twice (data_member c t) = ap (data_member c) (without-twice t)
without-twice (function_member c t) = ap (function_member c) (without-twice t)
without-twice (const t) = without-twice t
