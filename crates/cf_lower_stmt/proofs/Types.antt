-- The C types of parameters, one more.
use Rattle.std.proofs.Common.{◌≡◌, ℕ, ◌+◌, ◌<◌, List, [], ◌∷◌, ◌++◌, length, map, drop, get_or, Option, Some, None, refl, sym, ap, ◌∙◌, append_assoc, append-nil}
use Rattle.cc_whole.specs.declared.types.CType.{CType}
use Rattle.cc_whole.specs.declared.types.CSignature.{CSignature}
use Rattle.cf_core.specs.Types.{SourceType, parameters, result}
use Rattle.cf_core.specs.FromTypes.{Tables, type_of}
use Rattle.cf_lower.specs.Statements.{c_types, signature}
use Rattle.cf_lower.specs.Written.{c_type, if_scalar}
use Rattle.cf_lower_held.proofs.Forgotten.{drop_item}
use Rattle.cf_lower_layout.specs.Sorts.{Sort, sort_of}
use Rattle.cf_lower_stmt.specs.Calls.{one_type, type_or_none}

-- by the C type of a scalar

pub one_none : (s : Option Sort) (w : List CType) → None ≡ type_or_none s → w ≡ w ++ one_type s
one_none None w e = sym (append-nil w)
one_none (Some s) w e = cc

pub one_some : (s : Option Sort) (k : CType) (w v : List CType) → Some k ≡ type_or_none s → v ≡ w ++ k ∷ [] → v ≡ w ++ one_type s
one_some None k w v e pushed = cc
one_some (Some s) k w v e pushed = pushed ∙ ap (λ t. w ++ t ∷ []) (same_type k (c_type s) e)
  where
    same_type : (a b : CType) → Some a ≡ Some b → a ≡ b
    same_type a b e = cc

-- a type of functions
abbrev pub parts_of : Option CType → List CType → CSignature
parts_of given all = record { result = given; parameters = all }

-- with the first of more

with_first : (t : SourceType) (ts : List SourceType) → one_type (sort_of t) ++ c_types ts ≡ c_types (t ∷ ts)
with_first t ts = by (sort_of t)
  where
    by : (s : Option Sort) → one_type s ++ c_types ts ≡ if_scalar s (c_types ts) (λ s. c_type s ∷ c_types ts)
    by None = refl
    by (Some s) = refl

pub one_more : (tables : Tables) (all : List ℕ) (i t : ℕ) (made more whole : List CType) → i < length all → t ≡ get_or all i t
    → made ++ c_types (map (type_of tables) (drop i all)) ≡ whole → more ≡ made ++ one_type (sort_of (type_of tables t))
    → more ++ c_types (map (type_of tables) (drop (i + 1) all)) ≡ whole
one_more tables all i t made more whole within is so_far pushed =
    let rest = map (type_of tables) (drop (i + 1) all) in
    ap (λ l. l ++ c_types rest) pushed ∙ append_assoc made (one_type (sort_of (type_of tables t))) (c_types rest)
    ∙ ap (λ l. made ++ l) (with_first (type_of tables t) rest) ∙ sym (ap (λ l. made ++ c_types (map (type_of tables) l)) (drop_item all i t within is)) ∙ so_far

-- the type of a function by its parts
pub signature_is : (t : SourceType) (ts : List SourceType) (given : Option CType) (made : List CType) → ts ≡ parameters t → given ≡ type_or_none (sort_of (result t)) → made ≡ c_types ts
    → parts_of given made ≡ signature t
signature_is t ts given made types is all = ap (λ r. parts_of r made) is ∙ ap (parts_of (type_or_none (sort_of (result t)))) (all ∙ ap c_types types)
