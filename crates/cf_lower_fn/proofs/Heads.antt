-- Heads of functions, by their parts.
use Rattle.std.proofs.Common.{◌≡◌, ℕ, ◌+◌, ◌<◌, suc, Bool, false, List, [], ◌∷◌, ◌++◌, length, map, drop, get_or, Option, Some, None, refl, sym, ap, ◌∙◌, arith, append_assoc}
use Rattle.cc_whole.specs.declared.unit.CParameter.{CParameter}
use Rattle.cc_whole.specs.declared.unit.CPrototype.{CPrototype}
use Rattle.cf_core.specs.FromTypes.{Tables, type_of, taking}
use Rattle.cf_core.specs.Types.{Name, SourceType, gives, parameters, result}
use Rattle.cf_lower.specs.Functions.{lowered_parameters, prototype, prototype_of}
use Rattle.cf_lower.specs.Written.{c_type, if_scalar, local_name}
use Rattle.cf_lower_held.proofs.Forgotten.{drop_item}
use Rattle.cf_lower_layout.specs.Sorts.{Sort, sort_of}
use Rattle.cf_lower_types.proofs.FunctionLaws.{parameters_taking, result_taking}
use Rattle.cf_plain.specs.declared.unit.PlainFn.{PlainFn}
use Rattle.cf_plain.specs.View.{function_of}
use Rattle.cc_whole.specs.declared.types.CType.{CType}
use Rattle.cf_lower_stmt.specs.Calls.{type_or_none}
use Rattle.cf_lower_fn.specs.Parts.{head, one_parameter}

by_parts : (l : Bool) (n : Name) (t : SourceType) (ts : List SourceType) (s : Option CType) (made : CPrototype) → ts ≡ parameters t → s ≡ type_or_none (sort_of (result t)) → made ≡ head l n ts s
    → made ≡ prototype_of l n t
by_parts l n t ts s made types given is = is ∙ ap (λ us. head l n us s) types ∙ ap (head l n (parameters t)) given

module _ (tables : Tables) where
  pub other_head : (n : Name) (t : ℕ) (ts : List ℕ) (s : Option CType) (made : CPrototype) → map (type_of tables) ts ≡ parameters (type_of tables t)
      → s ≡ type_or_none (sort_of (result (type_of tables t))) → made ≡ head false n (map (type_of tables) ts) s → made ≡ prototype_of false n (type_of tables t)
  other_head n t ts s made types given is = by_parts false n (type_of tables t) (map (type_of tables) ts) s made types given is

  pub own_head : (f : PlainFn) (s : Option CType) (made : CPrototype) → s ≡ type_or_none (sort_of (type_of tables f.result)) → made ≡ head f.is_local f.name (map (type_of tables) f.params) s
      → made ≡ prototype (function_of tables f)
  own_head f s made given is =
      let ps = map (type_of tables) f.params in
      let t = taking ps (gives (type_of tables f.result) false) in
      by_parts f.is_local f.name t ps s made (sym (parameters_taking ps (type_of tables f.result) false))
      (given ∙ ap (λ u. type_or_none (sort_of u)) (sym (result_taking ps (type_of tables f.result) false))) is

  -- parameters, one more
  first_parameter : (i : ℕ) (t : SourceType) (ts : List SourceType) → one_parameter i (sort_of t) ++ lowered_parameters (suc i) ts ≡ lowered_parameters i (t ∷ ts)
  first_parameter i t ts = by (sort_of t)
    where
      by : (s : Option Sort)
          → one_parameter i s ++ lowered_parameters (suc i) ts
          ≡ if_scalar s (lowered_parameters (suc i) ts) (λ s. (let p : CParameter = record { ty = c_type s; name = local_name i } in p) ∷ lowered_parameters (suc i) ts)
      by None = refl
      by (Some s) = refl

  pub parameter_more : (all : List ℕ) (i t n : ℕ) (made more whole : List CParameter) → i < length all → t ≡ get_or all i t
      → made ++ lowered_parameters n (map (type_of tables) (drop i all)) ≡ whole → more ≡ made ++ one_parameter n (sort_of (type_of tables t))
      → more ++ lowered_parameters (n + 1) (map (type_of tables) (drop (i + 1) all)) ≡ whole
  parameter_more all i t n made more whole within is so_far pushed =
      let rest = map (type_of tables) (drop (i + 1) all) in
      let next : n + 1 ≡ suc n = omega arith in
      ap (λ k. more ++ lowered_parameters k rest) next ∙ ap (λ l. l ++ lowered_parameters (suc n) rest) pushed
      ∙ append_assoc made (one_parameter n (sort_of (type_of tables t))) (lowered_parameters (suc n) rest) ∙ ap (λ l. made ++ l) (first_parameter n (type_of tables t) rest)
      ∙ sym (ap (λ l. made ++ lowered_parameters n (map (type_of tables) l)) (drop_item all i t within is)) ∙ so_far
