-- Declarations that agree stand for the same; a function's declaration has its type.
use Rattle.std.proofs.Common.{◌≡◌, ℕ, suc, Bool, true, List, [], ◌∷◌, Option, Some, None, refl, ap, subst, ◌∙◌, rules}
use Rattle.std.specs.Prelude.{is_some}
use denote.Enum.Bare.{same_true}
use Rattle.cf_base.proofs.Tests.{both}
use Rattle.cc_whole.specs.contracts.types.CType.{the_type}
use Rattle.cc_whole.specs.declared.types.CType.{CType}
use Rattle.cc_whole.specs.declared.types.CSignature.{CSignature}
use Rattle.cc_whole.specs.declared.types.CVariableType.{CVariableType}
use Rattle.cc_whole.specs.declared.types.CVariableType.TheVariants as variable
use Rattle.cc_whole.specs.declared.unit.CPrototype.{CPrototype}
use Rattle.cc_whole.specs.Types.{same_type, same_types, same_result, same_signature, same_variable, parameter_types, signature_of, value_type}
use Rattle.cc_whole.specs.Known.{Meant, function, object}
use Rattle.cc_whole.specs.Valid.{agrees, has_type}
use Rattle.cf_core.specs.Types.{Name, SourceType, parameters, result as result_type}
use Rattle.cf_lower_layout.specs.Sorts.{Sort, sort_of}
use Rattle.cf_lower.specs.Written.{if_scalar, c_type, result_of, local_name}
use Rattle.cf_lower.specs.Statements.{c_types, signature}
use Rattle.cf_lower.specs.Functions.{lowered_parameters, prototype_of}

one-type : (s t : CType) → same_type s t ≡ true → s ≡ t
unfolding same_type
one-type s t e = same_true the_type (search rules) s t e

all-types : (ss ts : List CType) → same_types ss ts ≡ true → ss ≡ ts
all-types [] [] e = refl
all-types [] (t ∷ ts) e = absurd (cc)
all-types (s ∷ ss) [] e = absurd (cc)
all-types (s ∷ ss) (t ∷ ts) e =
    let two = both (same_type s t) (same_types ss ts) e in ap (λ (x : CType). x ∷ ss) (one-type s t two.0) ∙ ap (λ (l : List CType). t ∷ l) (all-types ss ts two.1)

one-result : (r s : Option CType) → same_result r s ≡ true → r ≡ s
one-result None None e = refl
one-result None (Some s) e = absurd (cc)
one-result (Some r) None e = absurd (cc)
one-result (Some r) (Some s) e = ap (λ (t : CType). Some t) (one-type r s e)

abbrev with_parts : Option CType → List CType → CSignature
with_parts result parameters = record { result = result; parameters = parameters }

pub one-signature : (s t : CSignature) → same_signature s t ≡ true → s ≡ t
one-signature s t e =
    let two = both (same_result s.result t.result) (same_types s.parameters t.parameters) e in
    ap (λ r. with_parts r s.parameters) (one-result s.result t.result two.0) ∙ ap (with_parts t.result) (all-types s.parameters t.parameters two.1)

same-value : (s t : CVariableType) → same_variable s t ≡ true → value_type s ≡ value_type t
same-value (variable.Scalar s) (variable.Scalar t) e = one-type s t e
same-value (variable.Ints c) (variable.Ints d) e = refl
same-value (variable.Chars c) (variable.Chars d) e = refl
same-value (variable.Pairs c) (variable.Pairs d) e = refl
same-value (variable.Scalar s) (variable.Ints d) e = absurd (cc)
same-value (variable.Scalar s) (variable.Chars d) e = absurd (cc)
same-value (variable.Scalar s) (variable.Pairs d) e = absurd (cc)
same-value (variable.Ints c) (variable.Scalar t) e = absurd (cc)
same-value (variable.Ints c) (variable.Chars d) e = absurd (cc)
same-value (variable.Ints c) (variable.Pairs d) e = absurd (cc)
same-value (variable.Chars c) (variable.Scalar t) e = absurd (cc)
same-value (variable.Chars c) (variable.Ints d) e = absurd (cc)
same-value (variable.Chars c) (variable.Pairs d) e = absurd (cc)
same-value (variable.Pairs c) (variable.Scalar t) e = absurd (cc)
same-value (variable.Pairs c) (variable.Ints d) e = absurd (cc)
same-value (variable.Pairs c) (variable.Chars d) e = absurd (cc)

-- what agrees with an object is one, with a value of the same type
pub record IsObject (m : Meant) (t : CVariableType) : Type 0 where
  pub type : CVariableType
  pub is : m ≡ object type
  pub value : value_type type ≡ value_type t

pub is-object : (m : Meant) (t : CVariableType) → agrees (Some m) (object t) ≡ true → IsObject m t
is-object (object s) t e = record { type = s; is = refl; value = same-value s t e }
is-object (function p) t e = absurd (cc)

-- what agrees with a function is one of the same type
pub record IsFunctionOf (m : Meant) (q : CPrototype) : Type 0 where
  pub prototype : CPrototype
  pub is : m ≡ function prototype
  pub signature : signature_of prototype ≡ signature_of q

pub is-function : (m : Meant) (q : CPrototype) → agrees (Some m) (function q) ≡ true → IsFunctionOf m q
is-function (function p) q e = record { prototype = p; is = refl; signature = one-signature (signature_of p) (signature_of q) e }
is-function (object s) q e = absurd (cc)

-- what has a type of its own has one type
pub own-agrees : (o : Option CSignature) (m n : Meant) → is_some o ≡ true → has_type o m ≡ true → has_type o n ≡ true → agrees (Some m) n ≡ true
own-agrees None m n s e h = absurd (cc)
own-agrees (Some x) (function p) (function q) s e h =
    subst (λ (y : CSignature). same_signature y (signature_of q) ≡ true) (one-signature x (signature_of p) e) h
own-agrees (Some x) (function p) (object t) s e h = absurd (cc)
own-agrees (Some x) (object t) n s e h = absurd (cc)

-- ---- types of functions

same-parameters : (i : ℕ) (ts : List SourceType) → parameter_types (lowered_parameters i ts) ≡ c_types ts
same-parameters i [] = refl
same-parameters i (t ∷ ts) = go (sort_of t) (same-parameters (suc i) ts)
  where
    go : (o : Option Sort) → parameter_types (lowered_parameters (suc i) ts) ≡ c_types ts
        → parameter_types (if_scalar o (lowered_parameters (suc i) ts) (λ s. record { ty = c_type s; name = local_name i } ∷ lowered_parameters (suc i) ts))
        ≡ if_scalar o (c_types ts) (λ s. c_type s ∷ c_types ts)
    go None e = e
    go (Some s) e = ap (λ (l : List CType). c_type s ∷ l) e

abbrev with_types : Option CType → List CType → CSignature
with_types r ts = record { result = r; parameters = ts }

pub same-signature : (b : Bool) (name : Name) (t : SourceType) → signature_of (prototype_of b name t) ≡ signature t
same-signature b name t = ap (with_types (result_of (result_type t))) (same-parameters 0 (parameters t))
