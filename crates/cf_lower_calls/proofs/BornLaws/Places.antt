-- Which C local stands at which number.
use Rattle.std.proofs.Common.{◌≡◌, ℕ, zero, suc, ◌+◌, ◌*◌, ◌<◌, ◌≤◌, nat_lt, Bool, true, false, ◌==◌, if◌then◌else◌, List, [], ◌∷◌, ◌++◌, length, slice_get, refl, sym, ◌∙◌, ap, subst, arith}
use Rattle.std.specs.Prelude.{Option, Some, None, option_map, is_some, map}
use Rattle.std.specs.List.{list_all}
use Rattle.std.proofs.lemmas.Bool.Decides.{nat_tests}
use Rattle.std.proofs.lemmas.List.{length-append, append_assoc}
use Rattle.cf_base.specs.declared.kind.Kind.TheVariants.{Int}
use Rattle.cf_base.proofs.Tests.{both}
use Rattle.cf_core.specs.Types.{SourceType, void, parameters}
use Rattle.cf_core.specs.Classes.{Class}
use Rattle.cf_lower_layout.specs.Sorts.{Sort, number, address, code, sort_of}
use Rattle.cf_plain.specs.Plain.{Register, PlainFunction}
use Rattle.cf_plain.specs.Named.{all_actions}
use Rattle.cc_whole.specs.declared.types.CType.{CType}
use Rattle.cc_whole.specs.declared.types.CType.TheVariants as ty
use Rattle.cc_whole.specs.declared.statement.CLocal.{CLocal}
use Rattle.cc_whole.specs.declared.unit.CParameter.{CParameter}
use Rattle.cf_lower.specs.Written.{if_scalar, c_type, local_type, register_type, local_name, register_name, flag_name, result_name, type_number}
use Rattle.cf_lower.specs.Functions.{scalar, own_locals, registers, flags, results, all_bound, all_nesting, lowered_parameters}
use Rattle.cf_lower_steps.specs.Own.{class_of}
use Rattle.cf_lower_calls.specs.Born.Laid.{c_locals, result_types, place_of_type, registers_from, flags_from, results_from}
use Rattle.cf_lower_calls.proofs.BornLaws.Lists.{slice-left, slice-behind}

-- ---- one kind after another

own-length : (classes : List Class) (i : ℕ) (ts : List SourceType) → length (own_locals classes i ts) ≡ length ts
own-length classes i [] = refl
own-length classes i (t ∷ ts) = ap (λ (n : ℕ). suc n) (own-length classes (suc i) ts)

own-at : (classes : List Class) (i : ℕ) (ts : List SourceType) (j : ℕ) (t : SourceType) → slice_get ts j ≡ Some t
    → slice_get (own_locals classes i ts) j ≡ Some (record { ty = local_type classes t; name = local_name (i + j) })
own-at classes i [] j t e = absurd (let k = e in cc)
own-at classes i (u ∷ us) zero t e =
    ap (λ (n : ℕ). Some (record { ty = local_type classes u; name = local_name n })) (let n : i ≡ i + 0 = omega arith in n)
    ∙ ap (λ (v : SourceType). Some (record { ty = local_type classes v; name = local_name (i + 0) })) (some-type e)
  where
    some-type : {a b : SourceType} → Some a ≡ Some b → a ≡ b
    some-type k = cc
own-at classes i (u ∷ us) (suc j) t e =
    own-at classes (suc i) us j t e ∙ ap (λ (n : ℕ). Some (record { ty = local_type classes t; name = local_name n })) (let n : suc i + j ≡ i + suc j = omega arith in n)

abbrev pub register_local : Sort → Register → CLocal
register_local t r = scalar (register_type t) (register_name t r)

abbrev three : Register → List CLocal
three r =
    scalar ty.Int (register_name (number Int) r) ∷ scalar ty.Pointer (register_name (address void) r) ∷ scalar ty.FunctionPointer (register_name (code void) r) ∷ []

registers-length : (b : ℕ) → length (registers b) ≡ 3 * b
registers-length zero = refl
registers-length (suc b) =
    let more = length-append (registers b) (three b) in
    let before = registers-length b in
    let sum : length (registers b) + 3 ≡ 3 * suc b = omega (arith, before) in
    more ∙ sum

one-of-three : (t : Sort) (r : Register) → slice_get (three r) (class_of t) ≡ Some (register_local t r)
one-of-three (number k) r = refl
one-of-three (address t) r = refl
one-of-three (code t) r = refl

registers-at : (b : ℕ) (t : Sort) (r : Register) → r < b → slice_get (registers b) (3 * r + class_of t) ≡ Some (register_local t r)
registers-at zero t r lt = absurd (omega (arith, lt))
registers-at (suc b) t r lt = by_test (λ less. registers-at b t r less) (nat_lt r b) refl
  where
    by_test : (r < b → slice_get (registers b) (3 * r + class_of t) ≡ Some (register_local t r)) → (q : Bool) → nat_lt r b ≡ q
        → slice_get (registers b ++ three b) (3 * r + class_of t) ≡ Some (register_local t r)
    by_test before true q = slice-left (registers b) (three b) (3 * r + class_of t) (register_local t r) (before (grind (arith, nat_tests, q)))
    by_test before false q =
        let same : r ≡ b = grind (arith, nat_tests, q, lt) in
        subst (λ (i : ℕ). slice_get (registers b ++ three b) (3 * i + class_of t) ≡ Some (register_local t i)) (sym same)
        (slice-behind (registers b) (three b) (3 * b) (class_of t) (register_local t b) (registers-length b) (one-of-three t b))

abbrev flag_local : ℕ → List CLocal
flag_local d = scalar ty.Int (flag_name d) ∷ []

flags-length : (b : ℕ) → length (flags b) ≡ b
flags-length zero = refl
flags-length (suc b) =
    let more = length-append (flags b) (flag_local b) in
    let before = flags-length b in
    let sum : length (flags b) + 1 ≡ suc b = omega (arith, before) in
    more ∙ sum

flags-at : (b d : ℕ) → d < b → slice_get (flags b) d ≡ Some (scalar ty.Int (flag_name d))
flags-at zero d lt = absurd (omega (arith, lt))
flags-at (suc b) d lt = by_test (λ less. flags-at b d less) (nat_lt d b) refl
  where
    by_test : (d < b → slice_get (flags b) d ≡ Some (scalar ty.Int (flag_name d))) → (q : Bool) → nat_lt d b ≡ q
        → slice_get (flags b ++ flag_local b) d ≡ Some (scalar ty.Int (flag_name d))
    by_test before true q = slice-left (flags b) (flag_local b) d (scalar ty.Int (flag_name d)) (before (grind (arith, nat_tests, q)))
    by_test before false q =
        let same : b + 0 ≡ d = grind (arith, nat_tests, q, lt) in
        subst (λ (i : ℕ). slice_get (flags b ++ flag_local b) i ≡ Some (scalar ty.Int (flag_name i))) same
        (subst (λ (i : ℕ). slice_get (flags b ++ flag_local b) (b + 0) ≡ Some (scalar ty.Int (flag_name i))) (let n : b ≡ b + 0 = omega arith in n)
        (slice-behind (flags b) (flag_local b) b 0 (scalar ty.Int (flag_name b)) (flags-length b) refl))

-- ---- results

abbrev of_number : ℕ → CType
of_number zero = ty.Char
of_number (suc zero) = ty.UChar
of_number (suc (suc zero)) = ty.Short
of_number (suc (suc (suc zero))) = ty.UShort
of_number (suc (suc (suc (suc zero)))) = ty.Int
of_number (suc (suc (suc (suc (suc zero))))) = ty.UInt
of_number (suc (suc (suc (suc (suc (suc zero)))))) = ty.Pointer
of_number (suc (suc (suc (suc (suc (suc (suc n))))))) = ty.FunctionPointer

numbered : (t : CType) → of_number (type_number t) ≡ t
numbered ty.Char = refl
numbered ty.UChar = refl
numbered ty.Short = refl
numbered ty.UShort = refl
numbered ty.Int = refl
numbered ty.UInt = refl
numbered ty.Pointer = refl
numbered ty.FunctionPointer = refl

type-same : (u t : CType) → type_number u == type_number t ≡ true → u ≡ t
type-same u t e = sym (numbered u) ∙ ap of_number (let n : type_number u ≡ type_number t = grind (arith, nat_tests, e) in n) ∙ numbered t

abbrev result_local : CType → CLocal
result_local t = scalar t (result_name t)

results-at : (ts : List CType) (t : CType) (j : ℕ) → place_of_type t ts ≡ Some j → slice_get (map result_local ts) j ≡ Some (result_local t)
results-at [] t j e = absurd (let k = e in cc)
results-at (u ∷ us) t j e = by_test (λ i k. results-at us t i k) (type_number u == type_number t) refl e
  where
    some-number : {a b : ℕ} → Some a ≡ Some b → a ≡ b
    some-number k = cc

    later : ((i : ℕ) → place_of_type t us ≡ Some i → slice_get (map result_local us) i ≡ Some (result_local t)) → (o : Option ℕ) → place_of_type t us ≡ o
        → option_map (λ (i : ℕ). suc i) o ≡ Some j → slice_get (map result_local (u ∷ us)) j ≡ Some (result_local t)
    later rest None q k = absurd (let n = k in cc)
    later rest (Some i) q k =
        subst (λ (n : ℕ). slice_get (map result_local (u ∷ us)) n ≡ Some (result_local t)) (some-number k) (rest i q)

    by_test : ((i : ℕ) → place_of_type t us ≡ Some i → slice_get (map result_local us) i ≡ Some (result_local t)) → (b : Bool) → type_number u == type_number t ≡ b
        → (if b then Some 0 else option_map (λ (i : ℕ). suc i) (place_of_type t us)) ≡ Some j → slice_get (map result_local (u ∷ us)) j ≡ Some (result_local t)
    by_test rest true q k =
        subst (λ (n : ℕ). slice_get (map result_local (u ∷ us)) n ≡ Some (result_local t)) (some-number k) (ap (λ (v : CType). Some (result_local v)) (type-same u t q))
    by_test rest false q k = later rest (place_of_type t us) refl k

-- ---- in the whole list

module _ (classes : List Class) (f : PlainFunction) where
  abbrev own : List CLocal
  own = own_locals classes (length (parameters f.type)) f.locals

  abbrev behind_flags : List CLocal
  behind_flags = results (all_actions f.body)

  abbrev behind_registers : List CLocal
  behind_registers = flags (all_nesting f.body) ++ behind_flags

  abbrev behind_own : List CLocal
  behind_own = registers (all_bound f.body) ++ behind_registers

  -- the list as it is nested to the right
  abbrev nested : List CLocal
  nested = own ++ behind_own

  nests : c_locals classes f ≡ nested
  nests =
      append_assoc (own ++ registers (all_bound f.body)) (flags (all_nesting f.body)) behind_flags ∙ append_assoc own (registers (all_bound f.body)) behind_registers

  in-list : (i : ℕ) (x : CLocal) → slice_get nested i ≡ Some x → slice_get (c_locals classes f) i ≡ Some x
  in-list i x e = ap (λ (l : List CLocal). slice_get l i) nests ∙ e

  pub local-place : (j : ℕ) (t : SourceType) → slice_get f.locals j ≡ Some t
      → slice_get (c_locals classes f) j ≡ Some (record { ty = local_type classes t; name = local_name (length (parameters f.type) + j) })
  local-place j t e =
      in-list j (record { ty = local_type classes t; name = local_name (length (parameters f.type) + j) })
      (slice-left own behind_own j (record { ty = local_type classes t; name = local_name (length (parameters f.type) + j) })
      (own-at classes (length (parameters f.type)) f.locals j t e))

  pub register-place : (t : Sort) (r : Register) → r < all_bound f.body
      → slice_get (c_locals classes f) (registers_from f + (3 * r + class_of t)) ≡ Some (register_local t r)
  register-place t r lt =
      in-list (registers_from f + (3 * r + class_of t)) (register_local t r)
      (slice-behind own behind_own (length f.locals) (3 * r + class_of t) (register_local t r) (own-length classes (length (parameters f.type)) f.locals)
      (slice-left (registers (all_bound f.body)) behind_registers (3 * r + class_of t) (register_local t r) (registers-at (all_bound f.body) t r lt)))

  pub flag-place : (d : ℕ) → d < all_nesting f.body → slice_get (c_locals classes f) (flags_from f + d) ≡ Some (scalar ty.Int (flag_name d))
  flag-place d lt =
      ap (λ (n : ℕ). slice_get (c_locals classes f) n) (let n : flags_from f + d ≡ length f.locals + (3 * all_bound f.body + d) = omega arith in n)
      ∙ in-list (length f.locals + (3 * all_bound f.body + d)) (scalar ty.Int (flag_name d))
      (slice-behind own behind_own (length f.locals) (3 * all_bound f.body + d) (scalar ty.Int (flag_name d)) (own-length classes (length (parameters f.type)) f.locals)
      (slice-behind (registers (all_bound f.body)) behind_registers (3 * all_bound f.body) d (scalar ty.Int (flag_name d)) (registers-length (all_bound f.body))
      (slice-left (flags (all_nesting f.body)) behind_flags d (scalar ty.Int (flag_name d)) (flags-at (all_nesting f.body) d lt))))

  pub result-place : (t : CType) (j : ℕ) → place_of_type t (result_types f) ≡ Some j
      → slice_get (c_locals classes f) (results_from f + j) ≡ Some (scalar t (result_name t))
  result-place t j e =
      ap (λ (n : ℕ). slice_get (c_locals classes f) n)
      (let n : results_from f + j ≡ length f.locals + (3 * all_bound f.body + (all_nesting f.body + j)) = omega arith in n)
      ∙ in-list (length f.locals + (3 * all_bound f.body + (all_nesting f.body + j))) (scalar t (result_name t))
      (slice-behind own behind_own (length f.locals) (3 * all_bound f.body + (all_nesting f.body + j)) (scalar t (result_name t))
      (own-length classes (length (parameters f.type)) f.locals)
      (slice-behind (registers (all_bound f.body)) behind_registers (3 * all_bound f.body) (all_nesting f.body + j) (scalar t (result_name t)) (registers-length (all_bound f.body))
      (slice-behind (flags (all_nesting f.body)) behind_flags (all_nesting f.body) j (scalar t (result_name t)) (flags-length (all_nesting f.body))
      (results-at (result_types f) t j e))))

-- ---- parameters

-- the C parameter of this number, from a number on
pub record ParameterAt (i : ℕ) (ts : List SourceType) (j : ℕ) (t : SourceType) : Type 0 where
  pub sort : Sort
  pub sorted : sort_of t ≡ Some sort
  pub is : slice_get (lowered_parameters i ts) j ≡ Some (record { ty = c_type sort; name = local_name (i + j) })

abbrev lowered_by : ℕ → List SourceType → Option Sort → List CParameter
lowered_by i us o = if_scalar o (lowered_parameters (suc i) us) (λ s. record { ty = c_type s; name = local_name i } ∷ lowered_parameters (suc i) us)

pub parameter-place : (i : ℕ) (ts : List SourceType) → list_all (λ t. is_some (sort_of t)) ts ≡ true → (j : ℕ) (t : SourceType) → slice_get ts j ≡ Some t → ParameterAt i ts j t
parameter-place i [] all j t e = absurd (let k = e in cc)
parameter-place i (u ∷ us) all j t e = by_sort (λ q v k. parameter-place (suc i) us two.1 q v k) two.0 (sort_of u) refl j t e
  where
    two : (is_some (sort_of u) ≡ true) × (list_all (λ t. is_some (sort_of t)) us ≡ true)
    two = both (is_some (sort_of u)) (list_all (λ t. is_some (sort_of t)) us) all

    some-type : {a b : SourceType} → Some a ≡ Some b → a ≡ b
    some-type k = cc

    by_sort : ((q : ℕ) (v : SourceType) → slice_get us q ≡ Some v → ParameterAt (suc i) us q v) → is_some (sort_of u) ≡ true → (o : Option Sort) → sort_of u ≡ o → (j : ℕ)
        (t : SourceType) → slice_get (u ∷ us) j ≡ Some t → ParameterAt i (u ∷ us) j t
    by_sort rest some None q j t e = absurd (let k = sym (ap is_some q) ∙ some in cc)
    by_sort rest some (Some s) q zero t e = record {
      sort = s;
      sorted = ap sort_of (sym (some-type e)) ∙ q;
      is = ap (λ (o : Option Sort). slice_get (lowered_by i us o) 0) q
          ∙ ap (λ (n : ℕ). Some (record { ty = c_type s; name = local_name n })) (let n : i ≡ i + 0 = omega arith in n);
    }
    by_sort rest some (Some s) q (suc j) t e =
        let x = rest j t e in
        record {
          sort = x.sort;
          sorted = x.sorted;
          is = ap (λ (o : Option Sort). slice_get (lowered_by i us o) (suc j)) q ∙ x.is
              ∙ ap (λ (n : ℕ). Some (record { ty = c_type x.sort; name = local_name n })) (let n : suc i + j ≡ i + suc j = omega arith in n);
        }
