-- Types of functions that are the same otherwise than in const take the same locals, give the same, and are one type in C.
use Rattle.std.proofs.Common.{◌≡◌, ℕ, Bool, true, false, ◌&&◌, ◌==◌, List, [], ◌∷◌, refl, sym, ◌∙◌, ap, subst}
use Rattle.std.specs.Prelude.{map, Option, Some, None}
use Rattle.cf_base.proofs.Tests.{both, all_of}
use Rattle.cf_core.specs.Types.{SourceType, takes, gives, without_const, type_eq, same_but_const, parameters, result as result_type}
use Rattle.cf_lower_layout.specs.Sorts.{sort_of, scalar_sort}
use Rattle.cf_lower_layout.proofs.Types.{same-without_const}
use Rattle.cc_whole.specs.declared.types.CType.{CType}
use Rattle.cc_whole_mean.specs.Callee.{type_number, same_result, same_types}
use Rattle.cf_lower.specs.Kept.{Locals, type_of_local}
use Rattle.cf_lower.specs.Statements.{c_types, signature}
use Rattle.cf_lower.specs.Written.{if_scalar, c_type}
use Rattle.cf_lower_kept.proofs.Types.{number-self, type-self}
use Rattle.cf_lower_place.specs.Calls.{types_passed, same_signature}
use Rattle.cf_lower_place.specs.Named.{is_signature, takes_locals}

-- ---- types without const

bare-parameters : (t : SourceType) → is_signature t ≡ true → map without_const (parameters t) ≡ parameters (without_const t)
bare-parameters (takes p t) e = ap (λ ts. without_const p ∷ ts) (bare-parameters t e)
bare-parameters (gives t c) e = refl
bare-parameters t e = absurd (let k = e in cc)

bare-result : (t : SourceType) → is_signature t ≡ true → without_const (result_type t) ≡ result_type (without_const t)
bare-result (takes p t) e = bare-result t e
bare-result (gives t c) e = refl
bare-result t e = absurd (let k = e in cc)

-- ---- by parameters without const

abbrev bare_passed : Locals → List ℕ → List SourceType → Bool
bare_passed locals [] [] = true
bare_passed locals [] (t ∷ ts) = false
bare_passed locals (i ∷ is) [] = false
bare_passed locals (i ∷ is) (t ∷ ts) = type_eq (without_const (type_of_local locals i)) t && bare_passed locals is ts

passed-bare : (locals : Locals) (is : List ℕ) (ts : List SourceType) → types_passed locals is ts ≡ bare_passed locals is (map without_const ts)
passed-bare locals [] [] = refl
passed-bare locals [] (t ∷ ts) = refl
passed-bare locals (i ∷ is) [] = refl
passed-bare locals (i ∷ is) (t ∷ ts) = ap (λ b. same_but_const (type_of_local locals i) t && b) (passed-bare locals is ts)

abbrev bare_types : List SourceType → List CType
bare_types [] = []
bare_types (t ∷ ts) = if_scalar (scalar_sort t) (bare_types ts) (λ s. c_type s ∷ bare_types ts)

types-bare : (ts : List SourceType) → c_types ts ≡ bare_types (map without_const ts)
types-bare [] = refl
types-bare (t ∷ ts) = ap (λ us. if_scalar (sort_of t) us (λ s. c_type s ∷ us)) (types-bare ts)

types-itself : (ts : List CType) → same_types ts ts ≡ true
types-itself [] = refl
types-itself (t ∷ ts) = all_of (type_number t == type_number t) (same_types ts ts) (number-self (type_number t)) (types-itself ts)

result-itself : (o : Option CType) → same_result o o ≡ true
result-itself None = refl
result-itself (Some t) = number-self (type_number t)

module _ (t u : SourceType) (well : is_signature t ≡ true) (shaped : is_signature u ≡ true) (same : same_but_const u t ≡ true) where
  abbrev Bare : Type 0
  Bare = without_const t ≡ without_const u

  bare : Bare
  bare = sym (same-without_const u t same)

  parameters-same : map without_const (parameters t) ≡ map without_const (parameters u)
  parameters-same = bare-parameters t well ∙ ap parameters bare ∙ sym (bare-parameters u shaped)

  results-same : without_const (result_type t) ≡ without_const (result_type u)
  results-same = bare-result t well ∙ ap result_type bare ∙ sym (bare-result u shaped)

  pub passes-same : (locals : Locals) (is : List ℕ) → types_passed locals is (parameters t) ≡ true → types_passed locals is (parameters u) ≡ true
  passes-same locals is e =
      passed-bare locals is (parameters u) ∙ ap (bare_passed locals is) (sym parameters-same) ∙ sym (passed-bare locals is (parameters t)) ∙ e

  pub gives-same : same_but_const (result_type u) (result_type t) ≡ true
  gives-same = subst (λ v. type_eq v (without_const (result_type t)) ≡ true) results-same (type-self (without_const (result_type t)))

  pub signature-same : same_signature t u ≡ true
  signature-same =
      let sorts : sort_of (result_type t) ≡ sort_of (result_type u) = ap scalar_sort results-same in
      let types : c_types (parameters t) ≡ c_types (parameters u) =
      types-bare (parameters t) ∙ ap bare_types parameters-same ∙ sym (types-bare (parameters u)) in
      all_of (same_result (signature t).result (signature u).result) (same_types (signature t).parameters (signature u).parameters)
      (subst (λ o. same_result (signature t).result o ≡ true) (ap (λ o. if_scalar o None (λ s. Some (c_type s))) sorts) (result-itself (signature t).result))
      (subst (λ ts. same_types (c_types (parameters t)) ts ≡ true) types (types-itself (c_types (parameters t))))

-- a call of this type takes the locals that a function of a type that is the same otherwise than in const does
pub takes-there : (locals : Locals) (t u : SourceType) (is : List ℕ) → is_signature u ≡ true → takes_locals locals t is ≡ true → same_but_const u t ≡ true
    → (types_passed locals is (parameters u) ≡ true) × (same_but_const (result_type u) (result_type t) ≡ true)
takes-there locals t u is shaped e same =
    let two = both (is_signature t) (types_passed locals is (parameters t)) e in
    (passes-same t u two.0 shaped same locals is two.1, gives-same t u two.0 shaped same)
