-- The C types of objects, by whether they are scalars.
use Rattle.std.proofs.Common.{◌≡◌, ℕ, List, [], ◌∷◌, ◌++◌, Option, Some, None, refl, sym, ap, ◌∙◌, append-nil}
use Rattle.cc_whole.specs.declared.types.CType.{CType}
use Rattle.cc_whole.specs.declared.types.CConstant.{CConstant}
use Rattle.cc_whole.specs.declared.types.CLocalType.{CLocalType}
use Rattle.cc_whole.specs.declared.types.CLocalType.TheVariants as local
use Rattle.cc_whole.specs.declared.types.CVariableType.{CVariableType}
use Rattle.cc_whole.specs.declared.types.CVariableType.TheVariants as variable
use Rattle.cc_whole.specs.declared.unit.CParameter.{CParameter}
use Rattle.cf_core.specs.Classes.{Class}
use Rattle.cf_core.specs.Types.{Name, SourceType}
use Rattle.cf_lower.specs.Written.{c_type, if_scalar, local_name, local_type, variable_type, words}
use Rattle.cf_lower_layout.specs.Sorts.{Sort, sort_of}
use Rattle.cf_lower_stmt.specs.Calls.{type_or_none}
use Rattle.cf_lower_fn.specs.Parts.{one_parameter}

same_type : (a b : CType) → Some a ≡ Some b → a ≡ b
same_type a b e = cc

module _ (cs : List Class) (t : SourceType) where
  pub local_none : (k : CConstant) → None ≡ type_or_none (sort_of t) → k ≡ words cs t → local.Ints k ≡ local_type cs t
  local_none k e is = ap local.Ints is ∙ by (sort_of t) e
    where
      by : (s : Option Sort) → None ≡ type_or_none s → local.Ints (words cs t) ≡ if_scalar s (local.Ints (words cs t)) (λ u. local.Scalar (c_type u))
      by None e = refl
      by (Some s) e = cc

  pub local_some : (k : CType) → Some k ≡ type_or_none (sort_of t) → local.Scalar k ≡ local_type cs t
  local_some k e = by (sort_of t) e
    where
      by : (s : Option Sort) → Some k ≡ type_or_none s → local.Scalar k ≡ if_scalar s (local.Ints (words cs t)) (λ u. local.Scalar (c_type u))
      by None e = cc
      by (Some s) e = ap local.Scalar (same_type k (c_type s) e)

  pub variable_none : (k : CConstant) → None ≡ type_or_none (sort_of t) → k ≡ words cs t → variable.Ints k ≡ variable_type cs t
  variable_none k e is = ap variable.Ints is ∙ by (sort_of t) e
    where
      by : (s : Option Sort) → None ≡ type_or_none s → variable.Ints (words cs t) ≡ if_scalar s (variable.Ints (words cs t)) (λ u. variable.Scalar (c_type u))
      by None e = refl
      by (Some s) e = cc

  pub variable_some : (k : CType) → Some k ≡ type_or_none (sort_of t) → variable.Scalar k ≡ variable_type cs t
  variable_some k e = by (sort_of t) e
    where
      by : (s : Option Sort) → Some k ≡ type_or_none s → variable.Scalar k ≡ if_scalar s (variable.Ints (words cs t)) (λ u. variable.Scalar (c_type u))
      by None e = cc
      by (Some s) e = ap variable.Scalar (same_type k (c_type s) e)

-- ---- a parameter

abbrev of_type : CType → Name → CParameter
of_type k n = record { ty = k; name = n }

pub parameter_none : (s : Option Sort) (i : ℕ) (w : List CParameter) → None ≡ type_or_none s → w ≡ w ++ one_parameter i s
parameter_none None i w e = sym (append-nil w)
parameter_none (Some s) i w e = cc

pub parameter_some : (s : Option Sort) (i : ℕ) (k : CType) (n : Name) (w v : List CParameter) → Some k ≡ type_or_none s → n ≡ local_name i → v ≡ w ++ of_type k n ∷ []
    → v ≡ w ++ one_parameter i s
parameter_some None i k n w v e name pushed = cc
parameter_some (Some s) i k n w v e name pushed =
    pushed ∙ ap (λ t. w ++ of_type t n ∷ []) (same_type k (c_type s) e) ∙ ap (λ m. w ++ of_type (c_type s) m ∷ []) name
