-- What the tests on the names and the types of a function give for each of its parameters and locals.
use Rattle.std.proofs.Common.{◌≡◌, ℕ, zero, suc, ◌+◌, ◌*◌, ◌/◌, ◌%◌, ◌<◌, ◌≤◌, nat_le, Bool, true, false, ◌&&◌, ◌||◌, ◌==◌, not, List, [], ◌∷◌, slice_get, refl, sym, ◌∙◌, ap, subst, arith}
use Rattle.std.specs.Prelude.{Option, Some, None}
use Rattle.std.specs.List.{list_all, list_any}
use Rattle.std.proofs.Math.Nat.{div-add-mod, mod-lt}
use Rattle.std.proofs.lemmas.Bool.Decides.{nat_tests}
use Rattle.cf_base.proofs.Tests.{both}
use Rattle.cf_core.specs.Types.{SourceType}
use Rattle.cf_core.specs.Classes.{Class}
use Rattle.cf_core.specs.Size.{size}
use Rattle.cf_lower_layout.specs.Sorts.{Sort, number, address, code, sort_of}
use Rattle.cc_whole.specs.declared.statement.CLocal.{CLocal}
use Rattle.cc_whole.specs.declared.types.CLocalType.TheVariants as local
use Rattle.cc_whole.specs.declared.unit.CParameter.{CParameter}
use Rattle.cc_whole_locals.specs.Names.{is_local}
use Rattle.cc_whole_memory.specs.Values.{bytes_of}
use Rattle.cc_whole_mean.specs.Types.{scalar_of, local_size}
use Rattle.cf_lower.specs.Written.{if_scalar, c_type, register_type, local_type, words}
use Rattle.cf_lower_relate.proofs.Sorts.{sort-bytes}
use Rattle.cf_lower_steps.specs.Own.{class_of}
use Rattle.cf_lower_steps.proofs.Values.{stored-scalar}
use Rattle.cf_lower_calls.specs.Born.Laid.{names_apart}

some-parameter : {a b : CParameter} → Some a ≡ Some b → a ≡ b
some-parameter k = cc

is-false : (b : Bool) → not b ≡ true → b ≡ false
is-false true h = absurd (let k = h in cc)
is-false false h = refl

pub apart-at : (ps : List CParameter) (xs : List CLocal) → names_apart ps xs ≡ true → (i : ℕ) (p : CParameter) → slice_get ps i ≡ Some p → is_local p.name xs ≡ false
apart-at [] xs h i p e = absurd (let k = e in cc)
apart-at (q ∷ qs) xs h zero p e =
    subst (λ (x : CParameter). is_local x.name xs ≡ false) (some-parameter e) (is-false (is_local q.name xs) (both (not (is_local q.name xs)) (names_apart qs xs) h).0)
apart-at (q ∷ qs) xs h (suc i) p e = apart-at qs xs (both (not (is_local q.name xs)) (names_apart qs xs) h).1 i p e

-- numbers that are all this great are none that is less
pub none-less : (n i : ℕ) (js : List ℕ) → list_all (λ j. nat_le n j) js ≡ true → i < n → list_any (λ (j : ℕ). j == i) js ≡ false
none-less n i [] h lt = refl
none-less n i (j ∷ js) h lt =
    let two = both (nat_le n j) (list_all (λ j. nat_le n j) js) h in
    let first = two.0 in
    let other : j == i ≡ false = grind (arith, nat_tests, first, lt) in
    ap (λ (b : Bool). b || list_any (λ (j : ℕ). j == i) js) other ∙ none-less n i js two.1 lt

-- ---- sizes

pub class-small : (t : Sort) → class_of t ≤ 2
class-small (number k) = omega arith
class-small (address t) = omega arith
class-small (code t) = omega arith

pub four-bytes : (t : Sort) → bytes_of (scalar_of (register_type t)) ≡ 4
four-bytes (number k) = refl
four-bytes (address t) = refl
four-bytes (code t) = refl

-- the C local of a local has room for it
pub local-room : (classes : List Class) (t : SourceType) → size classes t ≤ local_size (local_type classes t)
local-room classes t = by_sort (sort_of t) refl
  where
    by_sort : (o : Option Sort) → sort_of t ≡ o → size classes t ≤ local_size (if_scalar o (local.Ints (words classes t)) (λ s. local.Scalar (c_type s)))
    by_sort None e =
        let sum = div-add-mod (size classes t + 3) 4 in
        let less : (size classes t + 3) % 4 < 4 = mod-lt (size classes t + 3) (omega arith) in
        omega (arith, sum, less)
    by_sort (Some s) e =
        let bytes = sort-bytes classes t s e in
        let same = ap bytes_of (stored-scalar s) in
        omega (arith, bytes, same)
