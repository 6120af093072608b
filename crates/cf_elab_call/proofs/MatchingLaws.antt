-- One function takes the arguments where they are as many as its parameters and each is converted.
use Rattle.std.proofs.Common.{◌≡◌, ℕ, ◌<◌, ◌≤◌, Bool, true, false, ◌&&◌, nat_le, if◌then◌else◌, List, [], ◌∷◌, length, map, Option, None, Some, is_some, refl, sym, ap, ◌∙◌, arith}
use Rattle.std.specs.Prelude.{reverse}
use Rattle.std.proofs.lemmas.Bool.{le-leb, lt-leb, leb-true}
use Rattle.std.proofs.lemmas.List.{length-map}
use Rattle.cf_convert.specs.Converts.{steps}
use Rattle.cf_convert.specs.declared.conv.ConvStep.{ConvStep}
use Rattle.cf_convert.specs.UserConversion.{Nothing, by_user}
use Rattle.cf_elab.specs.Answer.{Answer, Elab, Made, Refused, onward, need}
use Rattle.cf_elab.specs.Best.{Choice, Chosen, NoMatch, Way, best, choice_of, matches, ways, way, way_or}
use Rattle.cf_elab.specs.Call as call
use Rattle.cf_elab.specs.Env.{Env}
use Rattle.cf_elab.specs.Operand.{Value, val, defs}
use Rattle.cf_elab_env.specs.Holds.{IsEnv}
use Rattle.cf_elab_fit.proofs.NoUser.{no_user_function}
use Rattle.cf_elab_call.specs.Matching.{is_converted, all_convert}
use Rattle.cf_elab_call.specs.Shut as shut
use Rattle.cf_elab_call.specs.Shut.{alone}
use Rattle.cf_elab_call.proofs.ArgumentLaws.{first_of, rest_of, first_type, rest_types}

-- ---- as many

as_many : (a b : ℕ) → b ≡ a → (nat_le a b && nat_le b a) ≡ true
as_many a b e = rw (le-leb a b (omega (arith, e)), le-leb b a (omega (arith, e))) refl

not_as_many : (a b : ℕ) → (b ≡ a → ⊥) → (nat_le a b && nat_le b a) ≡ false
not_as_many a b n = by (nat_le a b) refl
  where
    by : (t : Bool) → nat_le a b ≡ t → (nat_le a b && nat_le b a) ≡ false
    by true h = let less : a ≤ b = leb-true a b h in let more : a < b = omega (arith, n) in rw (h, lt-leb b a more) refl
    by false h = rw h refl

-- ---- the ways to the parameters

abbrev joined : ℕ → Option Way → Option (List (ℕ × Way)) → Option (List (ℕ × Way))
joined p (Some w) (Some ws) = Some ((p, w) ∷ ws)
joined p w ws = None

module _ (env : Env) (e : IsEnv env) where
  abbrev way_to : Value → ℕ → Option Way
  way_to v p = way env.types (defs env) (val v) p

  abbrev ways_to : List Value → List ℕ → Option (List (ℕ × Way))
  ways_to vs ps = ways env.types (defs env) (map val vs) ps

  no_user : (v : Value) (p : ℕ) → by_user env.types (defs env) (val v) p ≡ Nothing
  no_user v p =
      let no_defs : defs env ≡ [] = ap reverse e.no_class in
      ap (λ ds. by_user env.types ds (val v) p) no_defs ∙ no_user_function env.types (val v) p

  one_way : (v : Value) (p : ℕ) → is_some (way_to v p) ≡ is_converted env v p
  unfolding is_converted
  one_way v p =
      ap (λ u. is_some (way_or env.types (defs env) (steps env.types (defs env) (val v) p) u)) (no_user v p) ∙ by (steps env.types (defs env) (val v) p)
    where
      by : (o : Option (List ConvStep)) → is_some (way_or env.types (defs env) o Nothing) ≡ is_some o
      by None = refl
      by (Some ss) = refl

  both : (p : ℕ) (w : Option Way) (ws : Option (List (ℕ × Way))) → is_some (joined p w ws) ≡ (is_some w && is_some ws)
  both p None ws = refl
  both p (Some w) None = refl
  both p (Some w) (Some ws) = refl

  all_ways : (ps : List ℕ) (vs : List Value) → is_some (ways_to vs ps) ≡ all_convert env ps vs
  all_ways ps [] = refl
  all_ways [] (v ∷ vs) = refl
  all_ways (p ∷ ps) (v ∷ vs) =
      both p (way_to v p) (ways_to vs ps) ∙ ap (λ b. b && is_some (ways_to vs ps)) (one_way v p) ∙ ap (λ b. is_converted env v p && b) (all_ways ps vs)

-- ---- of one function

abbrev listed : Option (List (ℕ × Way)) → List (ℕ × List (ℕ × Way)) → List (ℕ × List (ℕ × Way))
listed None rest = rest
listed (Some ws) rest = (0, ws) ∷ rest

abbrev unit : Unit {0}
unit = tt

module _ (at : ℕ) (ps : List ℕ) (vs : List Value) (env : Env) where
  abbrev found_of : Option (List (ℕ × Way)) → Choice
  found_of o = choice_of env.types (defs env) (listed o [])

  abbrev best_at : Env → Choice
  best_at e = best e.types (defs e) (alone ps ∷ []) (map val vs)

  abbrev picked : Bool → Answer ℕ
  picked b = onward (need b 15 at env) (λ _ e. call.chosen at (best_at e) e)

  abbrev decided : Choice → Answer (Unit {0})
  decided c = onward (call.chosen at c env) (λ _ e. Made unit e)

  abbrev counted : Bool
  counted = nat_le (length ps) (length vs) && nat_le (length vs) (length ps)

  opened : shut.need_arguments at ps vs env ≡ onward (picked counted) (λ _ e. Made unit e)
  unfolding shut.need_arguments
  opened = refl

  pub wrong_count : (length vs ≡ length ps → ⊥) → shut.need_arguments at ps vs env ≡ Refused 15 at
  wrong_count n = opened ∙ ap (λ b. onward (picked b) (λ _ e. Made unit e)) (not_as_many (length ps) (length vs) n)

  -- where they are as many, the choice is by the ways
  chosen_by : length vs ≡ length ps → best_at env ≡ found_of (ways env.types (defs env) (map val vs) ps)
  chosen_by many =
      let count : (nat_le (length ps) (length (map val vs)) && nat_le (length (map val vs)) (length ps)) ≡ true =
      as_many (length ps) (length (map val vs)) (length-map vs val ∙ many) in
      ap (λ b. found_of (if b then ways env.types (defs env) (map val vs) ps else None)) count

  by_ways : (o : Option (List (ℕ × Way))) → decided (found_of o) ≡ decided (if is_some o then Chosen 0 else NoMatch)
  by_ways None = refl
  by_ways (Some ws) = refl

  with_many : length vs ≡ length ps → IsEnv env → shut.need_arguments at ps vs env ≡ decided (if all_convert env ps vs then Chosen 0 else NoMatch)
  with_many many e =
      opened ∙ ap (λ b. onward (picked b) (λ _ e. Made unit e)) (as_many (length ps) (length vs) many) ∙ ap decided (chosen_by many)
      ∙ by_ways (ways env.types (defs env) (map val vs) ps) ∙ ap (λ b. decided (if b then Chosen 0 else NoMatch)) (all_ways env e ps vs)

  pub all_taken : length vs ≡ length ps → IsEnv env → all_convert env ps vs ≡ true → shut.need_arguments at ps vs env ≡ Made tt env
  all_taken many e all = with_many many e ∙ ap (λ b. decided (if b then Chosen 0 else NoMatch)) all

  pub one_not_taken : length vs ≡ length ps → IsEnv env → all_convert env ps vs ≡ false → shut.need_arguments at ps vs env ≡ Refused 46 at
  one_not_taken many e all = with_many many e ∙ ap (λ b. decided (if b then Chosen 0 else NoMatch)) all

  -- what is chosen of one function is the one
  module _ (g : ℕ → Elab Value) (h : Elab Value) (same : g 0 env ≡ h env) where
    by_choice : (o : Option (List (ℕ × Way))) → onward (call.chosen at (found_of o) env) g ≡ onward (decided (found_of o)) (λ _. h)
    by_choice None = refl
    by_choice (Some ws) = same

    by_count : (b : Bool) → onward (picked b) g ≡ onward (onward (picked b) (λ _ e. Made unit e)) (λ _. h)
    by_count false = refl
    by_count true = by_choice (matches env.types (defs env) (map val vs) (alone ps))

    pub pick_then : onward (call.pick at (alone ps ∷ []) vs env) g ≡ onward (shut.need_arguments at ps vs env) (λ _. h)
    unfolding shut.need_arguments
    pick_then = by_count counted

-- ---- one after the other

pub no_value : (env : Env) (ps : List ℕ) (vs : List Value) → length vs ≡ 0 → true ≡ all_convert env ps vs
no_value env ps [] none = refl
no_value env ps (v ∷ vs) none = absurd (omega arith)

pub no_param : (env : Env) (ps : List ℕ) (vs others : List Value) (v : Value) → length ps ≡ 0 → vs ≡ v ∷ others → false ≡ all_convert env ps vs
no_param env [] vs others v none e = sym (ap (all_convert env []) e)
no_param env (p ∷ ps) vs others v none e = absurd (omega arith)

pub first_converted : (env : Env) (ps rest : List ℕ) (vs others : List Value) (p : ℕ) (v : Value) (b : Bool) → ps ≡ p ∷ rest → vs ≡ v ∷ others → is_converted env v p ≡ true
    → b ≡ all_convert env rest others → b ≡ all_convert env ps vs
first_converted env ps rest vs others p v b e f first h =
    h ∙ sym (ap (λ ps. all_convert env ps vs) e ∙ ap (all_convert env (p ∷ rest)) f ∙ ap (λ c. c && all_convert env rest others) first)

pub first_not_converted : (env : Env) (ps rest : List ℕ) (vs others : List Value) (p : ℕ) (v : Value) → ps ≡ p ∷ rest → vs ≡ v ∷ others → is_converted env v p ≡ false
    → false ≡ all_convert env ps vs
first_not_converted env ps rest vs others p v e f first =
    sym (ap (λ ps. all_convert env ps vs) e ∙ ap (all_convert env (p ∷ rest)) f ∙ ap (λ c. c && all_convert env rest others) first)

pub ruleset count_laws = (wrong_count)

pub ruleset type_laws = (all_taken, one_not_taken)

pub ruleset all_laws = (no_value, no_param, first_converted, first_not_converted, first_of, rest_of, first_type, rest_types)
