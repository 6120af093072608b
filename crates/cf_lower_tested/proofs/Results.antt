-- What a call in a function gives has a C local of its type there.
use Rattle.std.proofs.Common.{◌≡◌, ℕ, suc, Bool, true, false, ◌||◌, ◌==◌, if◌then◌else◌, List, [], ◌∷◌, ◌++◌, refl, subst}
use Rattle.std.specs.Prelude.{Option, Some, None, is_some, option_map}
use Rattle.std.specs.List.{flat_map, list_any}
use Rattle.cf_core.specs.Types.{result as result_type}
use Rattle.cf_lower_layout.specs.Sorts.{Sort, sort_of}
use Rattle.cf_plain.specs.Plain as plain
use Rattle.cf_plain.specs.Plain.{Action}
use Rattle.cc_whole.specs.declared.types.CType.{CType}
use Rattle.cf_lower.specs.Functions.{result_at, each_once}
use Rattle.cf_lower.specs.Written.{if_scalar, c_type, type_number}
use Rattle.cf_lower_calls.specs.Born.Laid.{place_of_type}
use Rattle.cf_lower_kept.proofs.Types.{number-self, same-number}
use Rattle.cf_lower_needed.proofs.Tells.{or-left, or-right}
use Rattle.cf_lower_place.specs.Calls.{has_local}
use Rattle.cf_lower_tested.proofs.More.{Every}

abbrev is_type : CType → CType → Bool
is_type t u = type_number u == type_number t

abbrev pub has_type : CType → List CType → Bool
has_type t us = list_any (is_type t) us

pub some-mapped : (f : ℕ → ℕ) (o : Option ℕ) → is_some o ≡ true → is_some (option_map f o) ≡ true
some-mapped f None e = absurd (let k = e in cc)
some-mapped f (Some i) e = refl

place-there : (t : CType) (us : List CType) → has_type t us ≡ true → is_some (place_of_type t us) ≡ true
place-there t [] e = absurd (let k = e in cc)
place-there t (u ∷ us) e = by (λ k. place-there t us k) (type_number u == type_number t) e
  where
    by : (has_type t us ≡ true → is_some (place_of_type t us) ≡ true) → (b : Bool) → b || has_type t us ≡ true
        → is_some (if b then Some 0 else option_map (λ (i : ℕ). suc i) (place_of_type t us)) ≡ true
    by rest true k = refl
    by rest false k = some-mapped (λ (i : ℕ). suc i) (place_of_type t us) (rest k)

-- one of each is left
once-there : (t : CType) (us : List CType) → has_type t us ≡ true → has_type t (each_once us) ≡ true
once-there t [] e = e
once-there t (u ∷ us) e =
    by (λ k. once-there t us k) (list_any (λ (v : CType). type_number v == type_number u) (each_once us)) refl (type_number u == type_number t) refl e
  where
    by : (has_type t us ≡ true → has_type t (each_once us) ≡ true) → (a : Bool) → list_any (λ (v : CType). type_number v == type_number u) (each_once us) ≡ a
        → (b : Bool) → type_number u == type_number t ≡ b → b || has_type t us ≡ true → has_type t (if a then each_once us else u ∷ each_once us) ≡ true
    by rest true i true j k = subst (λ n. list_any (λ (v : CType). type_number v == n) (each_once us) ≡ true) (same-number (type_number u) (type_number t) j) i
    by rest true i false j k = rest k
    by rest false i true j k = or-left (type_number u == type_number t) (has_type t (each_once us)) j
    by rest false i false j k = or-right (type_number u == type_number t) (has_type t (each_once us)) (rest k)

-- the result of an action
abbrev pub ResultThere : (CType → Bool) → Action → Type 0
ResultThere there (plain.call name t object is into) = has_local there (sort_of (result_type t)) ≡ true
ResultThere there (plain.pointer_call object r t is into) = has_local there (sort_of (result_type t)) ≡ true
ResultThere there a = Unit {0}

module _ (us : List CType) (there : CType → Bool) (found : (t : CType) → is_some (place_of_type t (each_once us)) ≡ true → there t ≡ true) where
  abbrev Listed : List CType → Type 0
  Listed ts = (t : CType) → has_type t ts ≡ true → has_type t us ≡ true

  in-first : (t : CType) (ts rest : List CType) → has_type t ts ≡ true → has_type t (ts ++ rest) ≡ true
  in-first t [] rest e = absurd (let k = e in cc)
  in-first t (u ∷ ts) rest e = by (λ k. in-first t ts rest k) (type_number u == type_number t) e
    where
      by : (has_type t ts ≡ true → has_type t (ts ++ rest) ≡ true) → (b : Bool) → b || has_type t ts ≡ true → b || has_type t (ts ++ rest) ≡ true
      by more true k = refl
      by more false k = more k

  in-rest : (t : CType) (ts rest : List CType) → has_type t rest ≡ true → has_type t (ts ++ rest) ≡ true
  in-rest t [] rest e = e
  in-rest t (u ∷ ts) rest e = or-right (type_number u == type_number t) (has_type t (ts ++ rest)) (in-rest t ts rest e)

  itself : (t : CType) → has_type t (t ∷ []) ≡ true
  itself t = or-left (type_number t == type_number t) false (number-self (type_number t))

  local-there : (o : Option Sort) → Listed (if_scalar o [] (λ s. c_type s ∷ [])) → has_local there o ≡ true
  local-there None listed = refl
  local-there (Some s) listed = found (c_type s) (place-there (c_type s) (each_once us) (once-there (c_type s) us (listed (c_type s) (itself (c_type s)))))

  result-there : (a : Action) → Listed (result_at a) → ResultThere there a
  result-there (plain.call name t object is into) listed = local-there (sort_of (result_type t)) listed
  result-there (plain.pointer_call object r t is into) listed = local-there (sort_of (result_type t)) listed
  result-there a listed = tt

  pub results-there : (os : List Action) → Listed (flat_map result_at os) → Every (ResultThere there) os
  results-there [] listed = tt
  results-there (a ∷ os) listed = (
    result-there a (λ t e. listed t (in-first t (result_at a) (flat_map result_at os) e)),
    results-there os (λ t e. listed t (in-rest t (result_at a) (flat_map result_at os) e)),
  )
