-- The values of operands, one after the other. None changes what is known.
use Rattle.std.proofs.Common.{◌≡◌, ℕ, suc, ◌+◌, ◌<◌, List, [], ◌∷◌, ◌++◌, length, map, take, drop, get_or, Option, None, Some, slice_get, All, refl, sym, ap, subst, ◌∙◌}
use Rattle.std.proofs.lemmas.List.{take_more, take-append-drop}
use Rattle.std.proofs.Math.Seq.{drop-cons}
use Rattle.std.proofs.lemmas.List.Elements.{All-append}
use Rattle.cf_types.specs.Table.{Table}
use Rattle.cf_elab.specs.Answer.{Answer, Made, Refused, Passed, onward, each}
use Rattle.cf_elab.specs.Env.{Env, FunctionEntry}
use Rattle.cf_elab.specs.Operand.{Value, Operand, value_of, one_function}
use Rattle.cf_elab_env.specs.Answered.{Stops}
use Rattle.cf_elab_env.specs.Holds.{Known}
use Rattle.cf_elab_env.specs.SeenOperand.{operand_seen}
use Rattle.cf_elab_env.specs.declared.operand.Operand.{Operand as FoundOperand}
use Rattle.cf_elab_env.specs.declared.operand.Operand.TheVariants as form
use Rattle.cf_elab_env.specs.declared.stop.Stop.{Stop}
use Rattle.cf_elab_env.specs.declared.stop.Stop.TheVariants as stop
use Rattle.cf_elab_env.proofs.Scoped.{All-one}
use Rattle.cf_elab_operand.specs.Shut as shut

function_stays : (at : ℕ) (f : Option FunctionEntry) (env e : Env) (v : Value) → one_function at f env ≡ Made v e → env ≡ e
function_stays at None env e v h = cc
function_stays at (Some f) env e v h = cc

value_stays : (o : FoundOperand) (env e : Env) (v : Value) → value_of (operand_seen o) env ≡ Made v e → env ≡ e
value_stays (form.Value x) env e v h = cc
value_stays (form.Functions at []) env e v h = cc
value_stays (form.Functions at (f ∷ [])) env e v h = function_stays at (slice_get env.entries f) env e v h
value_stays (form.Functions at (f ∷ g ∷ rest)) env e v h = cc

stops_onward : {A B : Type 0} (a : Answer A) (go : A → Env → Answer B) (s : Stop) → Stops a s → Stops (onward a go) s
stops_onward a go (stop.Broken b) h = ap (λ a. onward a go) h
stops_onward a go (stop.Passed l) h = ap (λ a. onward a go) h
stops_onward a go stop.Memory h = tt

module _ (env : Env) where
  abbrev with : Value → List Value → Env → Answer (List Value)
  with w ws e = Made (w ∷ ws) e

  abbrev behind : List Operand → Value → Env → Answer (List Value)
  behind os w e = onward (each value_of os e) (with w)

  -- what is known of operands whose values are all there
  record Parts (o : FoundOperand) (os : List Operand) (vs : List Value) : Type 0 where
    pub first : Value
    pub rest : List Value
    pub first_is : value_of (operand_seen o) env ≡ Made first env
    pub rest_is : each value_of os env ≡ Made rest env
    pub all : vs ≡ first ∷ rest

  parts : (o : FoundOperand) (os : List Operand) (vs : List Value) → onward (value_of (operand_seen o) env) (behind os) ≡ Made vs env → Parts o os vs
  parts o os vs h = by (value_of (operand_seen o) env) refl h
    where
      in_rest : (w : Value) (r : Answer (List Value)) → value_of (operand_seen o) env ≡ Made w env → each value_of os env ≡ r → onward r (with w) ≡ Made vs env → Parts o os vs
      in_rest w (Made ws e) first is h =
          let same : e ≡ env = cc in
          let all : vs ≡ w ∷ ws = cc in
          record { first = w; rest = ws; first_is = first; rest_is = is ∙ ap (λ e. Made ws e) same; all = all }
      in_rest w (Refused r p) first is h = cc
      in_rest w (Passed b m) first is h = cc

      by : (r : Answer Value) → value_of (operand_seen o) env ≡ r → onward r (behind os) ≡ Made vs env → Parts o os vs
      by (Made w e) is h =
          let same : env ≡ e = value_stays o env e w is in
          in_rest w (each value_of os env) (is ∙ ap (λ e. Made w e) (sym same)) refl (ap (λ e. onward (each value_of os e) (with w)) same ∙ h)
      by (Refused r p) is h = cc
      by (Passed b m) is h = cc

  one_more : (ps : List FoundOperand) (x : FoundOperand) (vs : List Value) (v : Value) → each value_of (map operand_seen ps) env ≡ Made vs env
      → value_of (operand_seen x) env ≡ Made v env → each value_of (map operand_seen (ps ++ x ∷ [])) env ≡ Made (vs ++ v ∷ []) env
  one_more [] x vs v h is =
      let none : [] ≡ vs = cc in
      ap (λ r. onward r (behind [])) is ∙ ap (λ l. Made (l ++ v ∷ []) env) none
  one_more (p ∷ ps) x vs v h is =
      let a = parts p (map operand_seen ps) vs h in
      ap (λ r. onward r (behind (map operand_seen (ps ++ x ∷ [])))) a.first_is ∙ ap (λ r. onward r (with a.first)) (one_more ps x a.rest v a.rest_is is)
      ∙ ap (λ l. Made (l ++ v ∷ []) env) (sym a.all)

  stops_there : (ps : List FoundOperand) (x : FoundOperand) (rest : List FoundOperand) (vs : List Value) (s : Stop) → each value_of (map operand_seen ps) env ≡ Made vs env
      → Stops (value_of (operand_seen x) env) s → Stops (each value_of (map operand_seen (ps ++ x ∷ rest)) env) s
  stops_there [] x rest vs s h is = stops_onward (value_of (operand_seen x) env) (behind (map operand_seen rest)) s is
  stops_there (p ∷ ps) x rest vs s h is =
      let a = parts p (map operand_seen ps) vs h in
      let P : Answer Value → Type 0 = λ r. Stops (onward r (behind (map operand_seen (ps ++ x ∷ rest)))) s in
      subst P (sym a.first_is) (stops_onward (each value_of (map operand_seen (ps ++ x ∷ rest)) env) (with a.first) s (stops_there ps x rest a.rest s a.rest_is is))

pub values_none : (env : Env) → shut.values [] env ≡ Made [] env
unfolding shut.values
values_none env = refl

-- by the place in the list
module _ (xs : List FoundOperand) (n : ℕ) (x : FoundOperand) (within : n < length xs) (here : x ≡ get_or xs n x) (env : Env) (vs : List Value)
    (so_far : shut.values (map operand_seen (take n xs)) env ≡ Made vs env) where
  pub values_more : (v : Value) → shut.value_of (operand_seen x) env ≡ Made v env → shut.values (map operand_seen (take (n + 1) xs)) env ≡ Made (vs ++ v ∷ []) env
  unfolding shut.values shut.value_of
  values_more v is =
      let more : take (n + 1) xs ≡ take n xs ++ x ∷ [] = take_more xs n x within ∙ ap (λ y. take n xs ++ y ∷ []) (sym here) in
      ap (λ l. each value_of (map operand_seen l) env) more ∙ one_more env (take n xs) x vs v so_far is

  pub values_stopped : (s : Stop) → Stops (shut.value_of (operand_seen x) env) s → Stops (shut.values (map operand_seen xs) env) s
  unfolding shut.values shut.value_of
  values_stopped s is =
      let split : take n xs ++ x ∷ drop (suc n) xs ≡ xs =
      ap (λ y. take n xs ++ y ∷ drop (suc n) xs) here ∙ ap (λ l. take n xs ++ l) (sym (drop-cons xs n x within)) ∙ take-append-drop n xs in
      subst (λ l. Stops (each value_of (map operand_seen l) env) s) split (stops_there env (take n xs) x (drop (suc n) xs) vs s so_far is)

pub all_more : (types : Table) (vs : List Value) (v : Value) → All (λ v. Known types v) vs → Known types v → All (λ v. Known types v) (vs ++ v ∷ [])
all_more types vs v all one = All-append (λ v. Known types v) vs (v ∷ []) all (All-one (λ v. Known types v) v one)
