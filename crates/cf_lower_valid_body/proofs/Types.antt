-- Types that are lowered: their parts are too, and their objects are small.
use Rattle.std.proofs.Common.{◌≡◌, ℕ, zero, suc, ◌≤◌, ◌<◌, ◌^◌, ◌*◌, Bool, true, false, not, ◌&&◌, nat_lt, nat_le, List, [], ◌∷◌, length, refl, sym, ◌∙◌, ap, subst, arith}
use Rattle.std.specs.Prelude.{Option, Some, None, is_some, slice_get}
use Rattle.std.specs.List.{list_all}
use Rattle.std.proofs.lemmas.Bool.Decides.{nat_tests}
use Rattle.cf_base.specs.declared.kind.Kind.TheVariants.{Char, SChar, UChar, Short, UShort, Int, UInt, Long, ULong}
use Rattle.cf_base.proofs.Tests.{both, all_of}
use Rattle.cf_core.specs.Types.{SourceType, void, integer, enumeration, class, pointer, reference, array, takes, gives, data_member, function_member, const, without_const, same_but_const, element, result}
use Rattle.cf_core.specs.Size.{size}
use Rattle.cf_lower_layout.specs.Layout.{has_bytes, const_once}
use Rattle.cf_lower_layout.specs.Sorts.{Sort, address, code, sort_to, scalar_sort, sort_of}
use Rattle.cf_lower_layout.proofs.Types.{same-without_const, without-twice}
use Rattle.cf_lower_layout.proofs.Laid.{size-without}
use Rattle.cf_lower.specs.Written.{c_type, register_type}
use Rattle.cf_lower_kept.specs.Ready.{is_code}
use Rattle.cf_lower_program.specs.Types.{is_laid, is_lowered}
use Rattle.cf_lower_program.specs.Starts.{is_text}

pub no-not : (b : Bool) → not b ≡ true → b ≡ false
no-not true e = absurd (cc)
no-not false e = refl

some-is : {A : Type 0} (a b : A) → Some a ≡ Some b → a ≡ b
some-is a b h = cc

pub item-passes : {A : Type 0} (p : A → Bool) (xs : List A) (i : ℕ) (x : A) → list_all p xs ≡ true → slice_get xs i ≡ Some x → p x ≡ true
item-passes p [] i x e s = absurd (cc)
item-passes p (y ∷ ys) zero x e s = subst (λ z. p z ≡ true) (some-is y x s) (both (p y) (list_all p ys) e).0
item-passes p (y ∷ ys) (suc i) x e s = item-passes p ys i x (both (p y) (list_all p ys) e).1 s

-- ---- sizes

pub laid-small : (t : SourceType) → is_laid t ≡ true → size [] t ≤ 2 ^ 22
laid-small t e =
    let h = (both (nat_le (size [] t) (2 ^ 22)) (has_bytes t) (both (nat_le (size [] t) (2 ^ 22) && has_bytes t) (const_once t) e).0).0 in
    grind (arith, nat_tests, h)

pub lowered-small : (t : SourceType) → is_lowered t ≡ true → size [] t ≤ 2 ^ 22
lowered-small void e = omega arith
lowered-small (integer Char) e = omega arith
lowered-small (integer SChar) e = omega arith
lowered-small (integer UChar) e = omega arith
lowered-small (integer Short) e = omega arith
lowered-small (integer UShort) e = omega arith
lowered-small (integer Int) e = omega arith
lowered-small (integer UInt) e = omega arith
lowered-small (integer Long) e = omega arith
lowered-small (integer ULong) e = omega arith
lowered-small (enumeration n) e = omega arith
lowered-small (class c) e = omega arith
lowered-small (pointer t) e = omega arith
lowered-small (reference t) e = omega arith
lowered-small (array t n) e = laid-small (array t n) (both (is_laid (array t n)) (is_lowered t) e).0
lowered-small (takes p t) e = omega arith
lowered-small (gives t c) e = omega arith
lowered-small (data_member c t) e = absurd (cc)
lowered-small (function_member c t) e = absurd (cc)
lowered-small (const t) e = lowered-small t (both (not (is_code t)) (is_lowered t) e).1

-- of the same type without const
pub bare-small : (t : SourceType) → is_lowered t ≡ true → size [] (without_const t) ≤ 2 ^ 22
bare-small t e = subst (λ n. n ≤ 2 ^ 22) (sym (size-without [] t)) (lowered-small t e)

-- an array of the bytes of a literal
pub text-lowered : (b : List ℕ) → is_text b ≡ true → nat_le (length b) (2 ^ 22) ≡ true → is_lowered (array (integer Char) (length b)) ≡ true
text-lowered [] e h = absurd (cc)
text-lowered (c ∷ b) e h =
    let n = length (c ∷ b) in
    all_of (is_laid (array (integer Char) n)) true
    (all_of (nat_le (size [] (array (integer Char) n)) (2 ^ 22) && has_bytes (array (integer Char) n)) true
    (all_of (nat_le (size [] (array (integer Char) n)) (2 ^ 22)) (has_bytes (array (integer Char) n)) (small n h) (some (length b))) refl) refl
  where
    small : (n : ℕ) → nat_le n (2 ^ 22) ≡ true → nat_le (n * 1) (2 ^ 22) ≡ true
    small n k = grind (arith, nat_tests, k)

    some : (n : ℕ) → nat_lt 0 (suc n) && true ≡ true
    some n = all_of (nat_lt 0 (suc n)) true (let l : nat_lt 0 (suc n) ≡ true = grind (arith, nat_tests) in l) refl

-- ---- parts

pub result-lowered : (t : SourceType) → is_lowered t ≡ true → is_lowered (result t) ≡ true
result-lowered (takes p t) e = result-lowered t (both (is_lowered p) (is_lowered t) e).1
result-lowered (gives t c) e = e
result-lowered t e = refl

-- ---- sorts

pub sort-same : (t u : SourceType) → same_but_const t u ≡ true → sort_of t ≡ sort_of u
sort-same t u e = ap scalar_sort (same-without_const t u e)

pub sort-bare : (t : SourceType) → sort_of (without_const t) ≡ sort_of t
sort-bare t = ap scalar_sort (without-twice t)

-- what points to a type is alike in a register and in memory, and the same without const
pub pointer-type : (t : SourceType) → register_type (sort_to t) ≡ c_type (sort_to t)
pointer-type (takes p t) = refl
pointer-type (gives t c) = refl
pointer-type t = refl

pub bare-type : (t : SourceType) → is_lowered t ≡ true → register_type (sort_to (without_const t)) ≡ register_type (sort_to t)
bare-type (const t) e = plain-one t (no-not (is_code t) (both (not (is_code t)) (is_lowered t) e).0)
  where
    plain-one : (u : SourceType) → is_code u ≡ false → register_type (sort_to (without_const u)) ≡ c_type (address (const u))
    plain-one (takes p u) h = absurd (cc)
    plain-one (gives u c) h = absurd (cc)
    plain-one (const u) h = plain-one u h
    plain-one u h = refl
bare-type t e = refl

pub object-sort : (t : SourceType) → is_code t ≡ false → sort_to (without_const t) ≡ address (without_const t)
object-sort (takes p t) e = absurd (cc)
object-sort (gives t c) e = absurd (cc)
object-sort (const t) e = object-sort t e
object-sort t e = refl
