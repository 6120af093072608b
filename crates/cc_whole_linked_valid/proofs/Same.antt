-- Meanings of names that look the same to who uses the name.
use Rattle.std.proofs.Common.{◌≡◌, true, List, [], ◌∷◌, Option, Some, None, refl, ap, sym, ◌∙◌, rules}
use denote.Enum.Bare.{same_true}
use Rattle.std.proofs.lemmas.Bool.{and_parts}
use Rattle.cc_whole.specs.contracts.types.CType.{the_type}
use Rattle.cc_whole.specs.declared.types.CType.{CType}
use Rattle.cc_whole.specs.declared.types.CSignature.{CSignature}
use Rattle.cc_whole.specs.declared.types.CVariableType.{CVariableType}
use Rattle.cc_whole.specs.declared.types.CVariableType.TheVariants as variable
use Rattle.cc_whole.specs.declared.unit.CPrototype.{CPrototype}
use Rattle.cc_whole.specs.Types.{same_type, same_types, same_result, same_signature, same_variable, signature_of, value_type, stored_type}
use Rattle.cc_whole.specs.Known.{Meant, function, object}
use Rattle.cc_whole.specs.Valid.{agrees}

-- functions of one type, or variables that give and take values of one type
pub data Same : Meant → Meant → Type 0 where
  functions : (p q : CPrototype) → signature_of p ≡ signature_of q → Same (function p) (function q)
  objects : (s t : CVariableType) → value_type s ≡ value_type t → stored_type s ≡ stored_type t → Same (object s) (object t)

pub same_self : (m : Meant) → Same m m
same_self (function p) = functions p p refl
same_self (object t) = objects t t refl refl

pub same_through : {a b c : Meant} → Same a b → Same b c → Same a c
same_through (functions p q e) (functions _ r h) = functions p r (e ∙ h)
same_through (objects s t e f) (objects _ u h k) = objects s u (e ∙ h) (f ∙ k)

pub same_sym : {a b : Meant} → Same a b → Same b a
same_sym (functions p q e) = functions q p (sym e)
same_sym (objects s t e f) = objects t s (sym e) (sym f)

-- ---- declarations that agree

one_type : (s t : CType) → same_type s t ≡ true → s ≡ t
unfolding same_type
one_type s t e = same_true the_type (search rules) s t e

all_types : (ss ts : List CType) → same_types ss ts ≡ true → ss ≡ ts
all_types [] [] e = refl
all_types [] (t ∷ ts) e = absurd (cc)
all_types (s ∷ ss) [] e = absurd (cc)
all_types (s ∷ ss) (t ∷ ts) e =
    let parts = and_parts (same_type s t) (same_types ss ts) e in ap (λ x. x ∷ ss) (one_type s t parts.0) ∙ ap (λ l. t ∷ l) (all_types ss ts parts.1)

one_result : (r s : Option CType) → same_result r s ≡ true → r ≡ s
one_result None None e = refl
one_result None (Some s) e = absurd (cc)
one_result (Some r) None e = absurd (cc)
one_result (Some r) (Some s) e = ap Some (one_type r s e)

abbrev signature : Option CType → List CType → CSignature
signature result parameters = record { result = result; parameters = parameters }

pub one_signature : (s t : CSignature) → same_signature s t ≡ true → s ≡ t
one_signature s t e =
    let parts = and_parts (same_result s.result t.result) (same_types s.parameters t.parameters) e in
    ap (λ x. signature x s.parameters) (one_result s.result t.result parts.0) ∙ ap (signature t.result) (all_types s.parameters t.parameters parts.1)

one_variable : (s t : CVariableType) → same_variable s t ≡ true → Same (object s) (object t)
one_variable (variable.Scalar s) (variable.Scalar t) e = objects (variable.Scalar s) (variable.Scalar t) (one_type s t e) (ap Some (one_type s t e))
one_variable (variable.Ints c) (variable.Ints d) e = objects (variable.Ints c) (variable.Ints d) refl refl
one_variable (variable.Chars c) (variable.Chars d) e = objects (variable.Chars c) (variable.Chars d) refl refl
one_variable (variable.Pairs c) (variable.Pairs d) e = objects (variable.Pairs c) (variable.Pairs d) refl refl
one_variable (variable.Scalar s) (variable.Ints d) e = absurd (cc)
one_variable (variable.Scalar s) (variable.Chars d) e = absurd (cc)
one_variable (variable.Scalar s) (variable.Pairs d) e = absurd (cc)
one_variable (variable.Ints c) (variable.Scalar t) e = absurd (cc)
one_variable (variable.Ints c) (variable.Chars d) e = absurd (cc)
one_variable (variable.Ints c) (variable.Pairs d) e = absurd (cc)
one_variable (variable.Chars c) (variable.Scalar t) e = absurd (cc)
one_variable (variable.Chars c) (variable.Ints d) e = absurd (cc)
one_variable (variable.Chars c) (variable.Pairs d) e = absurd (cc)
one_variable (variable.Pairs c) (variable.Scalar t) e = absurd (cc)
one_variable (variable.Pairs c) (variable.Ints d) e = absurd (cc)
one_variable (variable.Pairs c) (variable.Chars d) e = absurd (cc)

pub same_where_agree : (m n : Meant) → agrees (Some m) n ≡ true → Same m n
same_where_agree (function p) (function q) e = functions p q (one_signature (signature_of p) (signature_of q) e)
same_where_agree (function p) (object t) e = absurd (cc)
same_where_agree (object s) (function q) e = absurd (cc)
same_where_agree (object s) (object t) e = one_variable s t e

-- ---- what names mean

pub data Meets : Option Meant → Option Meant → Type 0 where
  nothing : (o : Option Meant) → Meets None o
  both : (m n : Meant) → Same m n → Meets (Some m) (Some n)

pub meets_itself : (o : Option Meant) → Meets o o
meets_itself None = nothing None
meets_itself (Some m) = both m m (same_self m)
