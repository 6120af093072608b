-- Declarations that agree in type agree with one another.
use Rattle.std.proofs.Common.{◌≡◌, ℕ, Bool, true, false, ◌&&◌, ◌==◌, List, [], ◌∷◌, Option, Some, None, refl, ap, sym, subst, ◌∙◌, arith, rules}
use denote.Enum.Bare.{same_true}
use Rattle.std.proofs.lemmas.Bool.Decides.{nat_tests}
use Rattle.cc_whole.specs.contracts.types.CType.{the_type}
use Rattle.cc_whole.specs.declared.types.CType.{CType}
use Rattle.cc_whole.specs.declared.types.CSignature.{CSignature}
use Rattle.cc_whole.specs.declared.types.CVariableType.{CVariableType}
use Rattle.cc_whole.specs.declared.types.CVariableType.TheVariants as variable
use Rattle.cc_whole.specs.Numbers.{size_of}
use Rattle.cc_whole.specs.Types.{same_type, same_types, same_result, same_signature, same_variable, signature_of}
use Rattle.cc_whole.specs.Known.{Meant, function, object}
use Rattle.cc_whole.specs.Valid.{agrees}

pub both-left : (a b : Bool) → (a && b) ≡ true → a ≡ true
both-left true b e = refl
both-left false b e = absurd (cc)

pub both-right : (a b : Bool) → (a && b) ≡ true → b ≡ true
both-right true b e = e
both-right false b e = absurd (cc)

both : (a b : Bool) → a ≡ true → b ≡ true → (a && b) ≡ true
both a b e h = ap (λ t. t && b) e ∙ h

type-through : (s t u : CType) → same_type s t ≡ true → same_type t u ≡ true → same_type s u ≡ true
unfolding same_type
type-through s t u e h = subst (λ x. same_type x u ≡ true) (sym (same_true the_type (search rules) s t e)) h

types-through : (ss ts us : List CType) → same_types ss ts ≡ true → same_types ts us ≡ true → same_types ss us ≡ true
types-through [] [] us e h = h
types-through [] (t ∷ ts) us e h = absurd (cc)
types-through (s ∷ ss) [] us e h = absurd (cc)
types-through (s ∷ ss) (t ∷ ts) [] e h = absurd (cc)
types-through (s ∷ ss) (t ∷ ts) (u ∷ us) e h =
    both (same_type s u) (same_types ss us)
    (type-through s t u (both-left (same_type s t) (same_types ss ts) e) (both-left (same_type t u) (same_types ts us) h))
    (types-through ss ts us (both-right (same_type s t) (same_types ss ts) e) (both-right (same_type t u) (same_types ts us) h))

result-through : (r s t : Option CType) → same_result r s ≡ true → same_result s t ≡ true → same_result r t ≡ true
result-through None None t e h = h
result-through None (Some s) t e h = absurd (cc)
result-through (Some r) None t e h = absurd (cc)
result-through (Some r) (Some s) None e h = absurd (cc)
result-through (Some r) (Some s) (Some t) e h = type-through r s t e h

signature-through : (r s t : CSignature) → same_signature r s ≡ true → same_signature s t ≡ true → same_signature r t ≡ true
signature-through r s t e h =
    both (same_result r.result t.result) (same_types r.parameters t.parameters)
    (result-through r.result s.result t.result (both-left (same_result r.result s.result) (same_types r.parameters s.parameters) e)
    (both-left (same_result s.result t.result) (same_types s.parameters t.parameters) h))
    (types-through r.parameters s.parameters t.parameters (both-right (same_result r.result s.result) (same_types r.parameters s.parameters) e)
    (both-right (same_result s.result t.result) (same_types s.parameters t.parameters) h))

number-through : (a b c : ℕ) → (a == b) ≡ true → (b == c) ≡ true → (a == c) ≡ true
number-through a b c e h = grind (arith, nat_tests, e, h)

variable-through : (r s t : CVariableType) → same_variable r s ≡ true → same_variable s t ≡ true → same_variable r t ≡ true
variable-through (variable.Scalar r) (variable.Scalar s) (variable.Scalar t) e h = type-through r s t e h
variable-through (variable.Ints b) (variable.Ints c) (variable.Ints d) e h = number-through (size_of b) (size_of c) (size_of d) e h
variable-through (variable.Chars b) (variable.Chars c) (variable.Chars d) e h = number-through (size_of b) (size_of c) (size_of d) e h
variable-through (variable.Pairs b) (variable.Pairs c) (variable.Pairs d) e h = number-through (size_of b) (size_of c) (size_of d) e h
variable-through (variable.Scalar r) (variable.Scalar s) (variable.Ints d) e h = absurd (cc)
variable-through (variable.Scalar r) (variable.Scalar s) (variable.Chars d) e h = absurd (cc)
variable-through (variable.Scalar r) (variable.Scalar s) (variable.Pairs d) e h = absurd (cc)
variable-through (variable.Scalar r) (variable.Ints c) t e h = absurd (cc)
variable-through (variable.Scalar r) (variable.Chars c) t e h = absurd (cc)
variable-through (variable.Scalar r) (variable.Pairs c) t e h = absurd (cc)
variable-through (variable.Ints b) (variable.Ints c) (variable.Scalar t) e h = absurd (cc)
variable-through (variable.Ints b) (variable.Ints c) (variable.Chars d) e h = absurd (cc)
variable-through (variable.Ints b) (variable.Ints c) (variable.Pairs d) e h = absurd (cc)
variable-through (variable.Ints b) (variable.Scalar s) t e h = absurd (cc)
variable-through (variable.Ints b) (variable.Chars c) t e h = absurd (cc)
variable-through (variable.Ints b) (variable.Pairs c) t e h = absurd (cc)
variable-through (variable.Chars b) (variable.Chars c) (variable.Scalar t) e h = absurd (cc)
variable-through (variable.Chars b) (variable.Chars c) (variable.Ints d) e h = absurd (cc)
variable-through (variable.Chars b) (variable.Chars c) (variable.Pairs d) e h = absurd (cc)
variable-through (variable.Chars b) (variable.Scalar s) t e h = absurd (cc)
variable-through (variable.Chars b) (variable.Ints c) t e h = absurd (cc)
variable-through (variable.Chars b) (variable.Pairs c) t e h = absurd (cc)
variable-through (variable.Pairs b) (variable.Pairs c) (variable.Scalar t) e h = absurd (cc)
variable-through (variable.Pairs b) (variable.Pairs c) (variable.Ints d) e h = absurd (cc)
variable-through (variable.Pairs b) (variable.Pairs c) (variable.Chars d) e h = absurd (cc)
variable-through (variable.Pairs b) (variable.Scalar s) t e h = absurd (cc)
variable-through (variable.Pairs b) (variable.Ints c) t e h = absurd (cc)
variable-through (variable.Pairs b) (variable.Chars c) t e h = absurd (cc)

pub agrees-through : (a b c : Meant) → agrees (Some a) b ≡ true → agrees (Some b) c ≡ true → agrees (Some a) c ≡ true
agrees-through (function p) (function q) (function r) e h = signature-through (signature_of p) (signature_of q) (signature_of r) e h
agrees-through (function p) (function q) (object t) e h = absurd (cc)
agrees-through (function p) (object s) c e h = absurd (cc)
agrees-through (object r) (object s) (object t) e h = variable-through r s t e h
agrees-through (object r) (object s) (function q) e h = absurd (cc)
agrees-through (object r) (function q) c e h = absurd (cc)
