-- Meanings agree where they have one shape.
use Rattle.std.proofs.Common.{◌≡◌, ℕ, true, ◌==◌, List, [], ◌∷◌, Option, Some, None, refl, sym, ap, subst, ◌∙◌, arith, rules}
use Rattle.std.specs.Prelude.{is_some}
use Rattle.std.proofs.lemmas.Bool.Decides.{nat_tests}
use denote.Enum.Bare.{same_true}
use Rattle.cf_base.proofs.Tests.{both, all_of}
use Rattle.cc_whole.specs.contracts.types.CType.{the_type}
use Rattle.cc_whole.specs.declared.types.CType.{CType}
use Rattle.cc_whole.specs.declared.types.CType.TheVariants as ty
use Rattle.cc_whole.specs.declared.types.CSignature.{CSignature}
use Rattle.cc_whole.specs.declared.types.CVariableType.{CVariableType}
use Rattle.cc_whole.specs.declared.types.CVariableType.TheVariants as variable
use Rattle.cc_whole.specs.Known.{Meant, function, object}
use Rattle.cc_whole.specs.Numbers.{size_of}
use Rattle.cc_whole.specs.Types.{same_type, same_types, same_result, same_signature, same_variable, signature_of}
use Rattle.cc_whole.specs.Valid.{agrees, has_type}

pub data Shape : Type 0 where
  of_function : CSignature → Shape
  of_scalar : CType → Shape
  of_ints : ℕ → Shape
  of_chars : ℕ → Shape
  of_pairs : ℕ → Shape

abbrev pub variable_shape : CVariableType → Shape
variable_shape (variable.Scalar t) = of_scalar t
variable_shape (variable.Ints c) = of_ints (size_of c)
variable_shape (variable.Chars c) = of_chars (size_of c)
variable_shape (variable.Pairs c) = of_pairs (size_of c)

abbrev pub shape : Meant → Shape
shape (function p) = of_function (signature_of p)
shape (object t) = variable_shape t

-- ---- what agrees has one shape

one-type : (s t : CType) → same_type s t ≡ true → s ≡ t
unfolding same_type
one-type s t e = same_true the_type (search rules) s t e

all-types : (ss ts : List CType) → same_types ss ts ≡ true → ss ≡ ts
all-types [] [] e = refl
all-types [] (t ∷ ts) e = absurd (cc)
all-types (s ∷ ss) [] e = absurd (cc)
all-types (s ∷ ss) (t ∷ ts) e =
    let two = both (same_type s t) (same_types ss ts) e in ap (λ (x : CType). x ∷ ss) (one-type s t two.0) ∙ ap (λ (l : List CType). t ∷ l) (all-types ss ts two.1)

one-result : (r s : Option CType) → same_result r s ≡ true → r ≡ s
one-result None None e = refl
one-result None (Some s) e = absurd (cc)
one-result (Some r) None e = absurd (cc)
one-result (Some r) (Some s) e = ap (λ (t : CType). Some t) (one-type r s e)

abbrev with_parts : Option CType → List CType → CSignature
with_parts result parameters = record { result = result; parameters = parameters }

one-signature : (s t : CSignature) → same_signature s t ≡ true → s ≡ t
one-signature s t e =
    let two = both (same_result s.result t.result) (same_types s.parameters t.parameters) e in
    ap (λ r. with_parts r s.parameters) (one-result s.result t.result two.0) ∙ ap (with_parts t.result) (all-types s.parameters t.parameters two.1)

one-number : (a b : ℕ) → (a == b) ≡ true → a ≡ b
one-number a b e = grind (arith, nat_tests, e)

one-variable : (s t : CVariableType) → same_variable s t ≡ true → variable_shape s ≡ variable_shape t
one-variable (variable.Scalar s) (variable.Scalar t) e = ap of_scalar (one-type s t e)
one-variable (variable.Ints c) (variable.Ints d) e = ap of_ints (one-number (size_of c) (size_of d) e)
one-variable (variable.Chars c) (variable.Chars d) e = ap of_chars (one-number (size_of c) (size_of d) e)
one-variable (variable.Pairs c) (variable.Pairs d) e = ap of_pairs (one-number (size_of c) (size_of d) e)
one-variable (variable.Scalar s) (variable.Ints d) e = absurd (cc)
one-variable (variable.Scalar s) (variable.Chars d) e = absurd (cc)
one-variable (variable.Scalar s) (variable.Pairs d) e = absurd (cc)
one-variable (variable.Ints c) (variable.Scalar t) e = absurd (cc)
one-variable (variable.Ints c) (variable.Chars d) e = absurd (cc)
one-variable (variable.Ints c) (variable.Pairs d) e = absurd (cc)
one-variable (variable.Chars c) (variable.Scalar t) e = absurd (cc)
one-variable (variable.Chars c) (variable.Ints d) e = absurd (cc)
one-variable (variable.Chars c) (variable.Pairs d) e = absurd (cc)
one-variable (variable.Pairs c) (variable.Scalar t) e = absurd (cc)
one-variable (variable.Pairs c) (variable.Ints d) e = absurd (cc)
one-variable (variable.Pairs c) (variable.Chars d) e = absurd (cc)

pub one-shape : (a b : Meant) → agrees (Some a) b ≡ true → shape a ≡ shape b
one-shape (function p) (function q) e = ap of_function (one-signature (signature_of p) (signature_of q) e)
one-shape (function p) (object t) e = absurd (cc)
one-shape (object s) (function q) e = absurd (cc)
one-shape (object s) (object t) e = one-variable s t e

-- ---- what has one shape agrees

type-self : (t : CType) → same_type t t ≡ true
unfolding same_type
type-self ty.Char = refl
type-self ty.UChar = refl
type-self ty.Short = refl
type-self ty.UShort = refl
type-self ty.Int = refl
type-self ty.UInt = refl
type-self ty.Pointer = refl
type-self ty.FunctionPointer = refl

types-self : (ts : List CType) → same_types ts ts ≡ true
types-self [] = refl
types-self (t ∷ ts) = all_of (same_type t t) (same_types ts ts) (type-self t) (types-self ts)

result-self : (r : Option CType) → same_result r r ≡ true
result-self None = refl
result-self (Some t) = type-self t

signature-self : (s : CSignature) → same_signature s s ≡ true
signature-self s = all_of (same_result s.result s.result) (same_types s.parameters s.parameters) (result-self s.result) (types-self s.parameters)

number-self : (a b : ℕ) → a ≡ b → (a == b) ≡ true
number-self a b e = grind (arith, nat_tests, e)

variable-agrees : (s t : CVariableType) → variable_shape s ≡ variable_shape t → same_variable s t ≡ true
variable-agrees (variable.Scalar s) (variable.Scalar t) e = let same : s ≡ t = cc in subst (λ x. same_type s x ≡ true) same (type-self s)
variable-agrees (variable.Ints c) (variable.Ints d) e = let same : size_of c ≡ size_of d = cc in number-self (size_of c) (size_of d) same
variable-agrees (variable.Chars c) (variable.Chars d) e = let same : size_of c ≡ size_of d = cc in number-self (size_of c) (size_of d) same
variable-agrees (variable.Pairs c) (variable.Pairs d) e = let same : size_of c ≡ size_of d = cc in number-self (size_of c) (size_of d) same
variable-agrees (variable.Scalar s) (variable.Ints d) e = absurd (cc)
variable-agrees (variable.Scalar s) (variable.Chars d) e = absurd (cc)
variable-agrees (variable.Scalar s) (variable.Pairs d) e = absurd (cc)
variable-agrees (variable.Ints c) (variable.Scalar t) e = absurd (cc)
variable-agrees (variable.Ints c) (variable.Chars d) e = absurd (cc)
variable-agrees (variable.Ints c) (variable.Pairs d) e = absurd (cc)
variable-agrees (variable.Chars c) (variable.Scalar t) e = absurd (cc)
variable-agrees (variable.Chars c) (variable.Ints d) e = absurd (cc)
variable-agrees (variable.Chars c) (variable.Pairs d) e = absurd (cc)
variable-agrees (variable.Pairs c) (variable.Scalar t) e = absurd (cc)
variable-agrees (variable.Pairs c) (variable.Ints d) e = absurd (cc)
variable-agrees (variable.Pairs c) (variable.Chars d) e = absurd (cc)

no-function : (s : CSignature) (t : CVariableType) → of_function s ≡ variable_shape t → ⊥
no-function s (variable.Scalar t) e = cc
no-function s (variable.Ints c) e = cc
no-function s (variable.Chars c) e = cc
no-function s (variable.Pairs c) e = cc

pub agree : (a b : Meant) → shape a ≡ shape b → agrees (Some a) b ≡ true
agree (function p) (function q) e =
    let same : signature_of p ≡ signature_of q = cc in subst (λ s. same_signature (signature_of p) s ≡ true) same (signature-self (signature_of p))
agree (function p) (object t) e = absurd (no-function (signature_of p) t e)
agree (object s) (function q) e = absurd (no-function (signature_of q) s (sym e))
agree (object s) (object t) e = variable-agrees s t e

-- ---- names that have a type of their own

own-shape : (s : CSignature) (m : Meant) → has_type (Some s) m ≡ true → shape m ≡ of_function s
own-shape s (function p) e = ap of_function (sym (one-signature s (signature_of p) e))
own-shape s (object t) e = absurd (cc)

pub own-shapes : (o : Option CSignature) (a b : Meant) → is_some o ≡ true → has_type o a ≡ true → has_type o b ≡ true → shape a ≡ shape b
own-shapes None a b some e h = absurd (cc)
own-shapes (Some s) a b some e h = own-shape s a e ∙ sym (own-shape s b h)
