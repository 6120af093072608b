-- Objects of types that are laid out have from 1 to 2^22 bytes, so their C has a size.
use Rattle.std.proofs.Common.{◌≡◌, ℕ, zero, suc, ◌+◌, ◌/◌, ◌%◌, ◌^◌, ◌≤◌, ◌<◌, nat_lt, nat_le, true, ◌&&◌, List, [], ◌∷◌, ◌++◌, refl, subst, inl, inr, arith}
use Rattle.std.specs.Prelude.{Option, Some, None}
use Rattle.std.specs.List.{list_all, flat_map}
use Rattle.std.proofs.Math.Nat.{div-add-mod, mod-lt}
use Rattle.std.proofs.lemmas.Bool.{lt-ltb}
use Rattle.cf_base.proofs.Tests.{both, all_of}
use Rattle.cf_core.specs.Types.{SourceType}
use Rattle.cf_core.specs.Size.{size}
use Rattle.cf_lower_layout.specs.Layout.{has_bytes, const_once}
use Rattle.cf_lower_layout.specs.Sorts.{Sort, sort_of}
use Rattle.cf_lower_layout.proofs.Sizes.{size-some}
use Rattle.cf_plain.specs.Plain.{Action}
use Rattle.cc_whole.specs.declared.types.CType.{CType}
use Rattle.cc_whole.specs.declared.types.CType.TheVariants as ty
use Rattle.cc_whole.specs.declared.types.CLocalType.TheVariants as local
use Rattle.cc_whole.specs.declared.types.CVariableType.TheVariants as variable
use Rattle.cc_whole.specs.Numbers.{is_size}
use Rattle.cc_whole.specs.Types.{local_type}
use Rattle.cc_whole.specs.Statements.{has_size}
use Rattle.cf_lower.specs.Written.{if_scalar, c_type, int_constant, words, variable_type, flag_name, result_name}
use Rattle.cf_lower.specs.Written as written
use Rattle.cf_lower.specs.Functions.{scalar, own_locals, registers, flags, result_at, each_once, results}
use Rattle.cf_lower_program.specs.Types.{is_laid}
use Rattle.cf_lower_valid_body.proofs.Types.{laid-small}
use Rattle.cc_whole_sections.specs.Sections.{Every}
use Rattle.cf_lower_valid.proofs.Differ.{Sized}
use Rattle.cf_lower_valid.proofs.Inner.{every-mapped, every-append}
use Rattle.cf_lower_valid.proofs.Spans.{three, locals_after}

pub count-size : (n : ℕ) → 0 < n → n ≤ 2 ^ 22 → is_size (int_constant n) ≡ true
count-size n some le = all_of (nat_lt 0 n) (nat_lt n (2 ^ 22 + 1)) (lt-ltb 0 n some) (lt-ltb n (2 ^ 22 + 1) (omega (arith, le)))

words-count : (n : ℕ) → 0 < n → n ≤ 2 ^ 22 → is_size (int_constant ((n + 3) / 4)) ≡ true
words-count n some le =
    let sum = div-add-mod (n + 3) 4 in
    let less : (n + 3) % 4 < 4 = mod-lt (n + 3) (omega arith) in
    count-size ((n + 3) / 4) (omega (arith, sum, less, some)) (omega (arith, sum, less, le))

laid-some : (t : SourceType) → is_laid t ≡ true → 0 < size [] t
laid-some t e =
    size-some [] t (both (nat_le (size [] t) (2 ^ 22)) (has_bytes t) (both (nat_le (size [] t) (2 ^ 22) && has_bytes t) (const_once t) e).0).1

pub laid-words : (t : SourceType) → is_laid t ≡ true → is_size (words [] t) ≡ true
laid-words t e = words-count (size [] t) (laid-some t e) (laid-small t e)

pub laid-local : (t : SourceType) → is_laid t ≡ true → has_size (local_type (written.local_type [] t)) ≡ true
laid-local t e = go (sort_of t)
  where
    go : (o : Option Sort) → has_size (local_type (if_scalar o (local.Ints (words [] t)) (λ s. local.Scalar (c_type s)))) ≡ true
    go None = laid-words t e
    go (Some s) = refl

pub laid-variable : (t : SourceType) → is_laid t ≡ true → has_size (variable_type [] t) ≡ true
laid-variable t e = go (sort_of t)
  where
    go : (o : Option Sort) → has_size (if_scalar o (variable.Ints (words [] t)) (λ s. variable.Scalar (c_type s))) ≡ true
    go None = laid-words t e
    go (Some s) = refl

-- ---- the C locals of a function

own-sized : (i : ℕ) (ts : List SourceType) → list_all is_laid ts ≡ true → Every Sized (own_locals [] i ts)
own-sized i [] h x k = absurd k
own-sized i (t ∷ ts) h x (inl e) = subst Sized e (laid-local t (both (is_laid t) (list_all is_laid ts) h).0)
own-sized i (t ∷ ts) h x (inr k) = own-sized (suc i) ts (both (is_laid t) (list_all is_laid ts) h).1 x k

three-sized : (r : ℕ) → Every Sized (three r)
three-sized r x (inl e) = subst Sized e refl
three-sized r x (inr (inl e)) = subst Sized e refl
three-sized r x (inr (inr (inl e))) = subst Sized e refl
three-sized r x (inr (inr (inr h))) = absurd h

one-sized : (d : ℕ) → Every Sized (scalar ty.Int (flag_name d) ∷ [])
one-sized d x (inl e) = subst Sized e refl
one-sized d x (inr h) = absurd h

registers-sized : (n : ℕ) → Every Sized (registers n)
registers-sized zero x h = absurd h
registers-sized (suc r) x h = every-append Sized (registers r) (three r) (registers-sized r) (three-sized r) x h

flags-sized : (d : ℕ) → Every Sized (flags d)
flags-sized zero x h = absurd h
flags-sized (suc d) x h = every-append Sized (flags d) (scalar ty.Int (flag_name d) ∷ []) (flags-sized d) (one-sized d) x h

pub locals-sized : (k : ℕ) (ls : List SourceType) (n d : ℕ) (actions : List Action) → list_all is_laid ls ≡ true → Every Sized (locals_after k ls n d actions)
locals-sized k ls n d actions h =
    every-append Sized (own_locals [] k ls ++ registers n ++ flags d) (results actions)
    (every-append Sized (own_locals [] k ls ++ registers n) (flags d)
    (every-append Sized (own_locals [] k ls) (registers n) (own-sized k ls h) (registers-sized n)) (flags-sized d))
    (every-mapped Sized (λ (t : CType). scalar t (result_name t)) (each_once (flat_map result_at actions)) (λ t h. refl))
