-- The arguments of a call, one after the other.
use Rattle.std.proofs.Common.{◌≡◌, ℕ, zero, suc, ◌+◌, ◌-◌, List, [], ◌∷◌, ◌++◌, ◌<◌, length, drop, get_or, slice_get, Some, All, refl, sym, ap, subst, ◌∙◌, append_assoc, append-nil, arith}
use Rattle.std.proofs.lemmas.List.Elements.{All-head, All-tail}
use Rattle.std.proofs.lemmas.Option.{slice_get_within, get_or_from_slice_get}
use Rattle.std.proofs.Math.Seq.{drop-cons}
use Rattle.std.proofs.lemmas.List.{drop_all}
use Rattle.cf_types.specs.Table.{Table}
use Rattle.cf_core.specs.declared.node.Core.{Core as Node}
use Rattle.cf_elab.specs.Answer.{Answer, Made, Refused, Passed, onward, each}
use Rattle.cf_elab.specs.Arguments.{with_arguments, defaulted}
use Rattle.cf_elab.specs.Env.{Env, Default}
use Rattle.cf_elab.specs.Initial.{Start, no_keeper}
use Rattle.cf_elab.specs.Operand.{Value}
use Rattle.cf_elab.specs.UserFit as user
use Rattle.cf_elab_env.specs.Answered.{Stops}
use Rattle.cf_elab_env.specs.Holds.{Known, IsType, Grows}
use Rattle.cf_elab_env.specs.declared.stop.Stop.{Stop}
use Rattle.cf_elab_env.specs.declared.stop.Stop.TheVariants as stop
use Rattle.cf_elab_env.proofs.Growth.{type_grown, known_grown, All-into}
use Rattle.cf_elab_initial.specs.Initials.Shut as start
use Rattle.cf_elab_call.specs.Shut as shut

-- ---- what is known is known in a longer table

pub all_known : (a b : Table) (vs : List Value) → Grows a b → All (λ v. Known a v) vs → All (λ v. Known b v) vs
all_known a b vs g all = All-into (Known a) (Known b) vs (λ v. known_grown a b v g) all

pub all_typed : (a b : Table) (ts : List ℕ) → Grows a b → All (λ t. IsType a t) ts → All (λ t. IsType b t) ts
all_typed a b ts g all = All-into (IsType a) (IsType b) ts (λ t. type_grown a b t g) all

pub first_of : (types : Table) (all rest : List Value) (v : Value) → all ≡ v ∷ rest → All (λ v. Known types v) all → Known types v
first_of types all rest v e known = All-head (λ v. Known types v) v rest (subst (All (λ v. Known types v)) e known)

pub rest_of : (types : Table) (all rest : List Value) (v : Value) → all ≡ v ∷ rest → All (λ v. Known types v) all → All (λ v. Known types v) rest
rest_of types all rest v e known = All-tail (λ v. Known types v) v rest (subst (All (λ v. Known types v)) e known)

pub first_type : (types : Table) (all rest : List ℕ) (t : ℕ) → all ≡ t ∷ rest → All (λ t. IsType types t) all → IsType types t
first_type types all rest t e known = All-head (λ t. IsType types t) t rest (subst (All (λ t. IsType types t)) e known)

pub rest_types : (types : Table) (all rest : List ℕ) (t : ℕ) → all ≡ t ∷ rest → All (λ t. IsType types t) all → All (λ t. IsType types t) rest
rest_types types all rest t e known = All-tail (λ t. IsType types t) t rest (subst (All (λ t. IsType types t)) e known)

-- ---- one after the other

module _ (at : ℕ) (found : List Node) (env : Env) where
  abbrev behind : List Node → Env → Answer (List Node)
  behind ns env = Made (found ++ ns) env

  pub one_argument : (all : List ℕ) (p : ℕ) (ps : List ℕ) (given : List Value) (v : Value) (vs : List Value) → all ≡ p ∷ ps → given ≡ v ∷ vs
      → shut.arguments_behind at all given found env ≡ onward (start.initial no_keeper at p v env) (λ s env. shut.arguments_behind at ps vs (found ++ s.node ∷ []) env)
  unfolding shut.arguments_behind start.initial
  one_argument all p ps given v vs e f =
      ap (λ all. onward (with_arguments (user.initial no_keeper) at all given env) behind) e
      ∙ ap (λ given. onward (with_arguments (user.initial no_keeper) at (p ∷ ps) given env) behind) f ∙ by (user.initial no_keeper at p v env)
    where
      rest : Env → Answer (List Node)
      rest env = with_arguments (user.initial no_keeper) at ps vs env

      last : (n : Node) (a : Answer (List Node))
          → onward (onward a (λ ns env. Made (n ∷ ns) env)) behind ≡ onward a (λ ns env. Made ((found ++ n ∷ []) ++ ns) env)
      last n (Made ns next) = ap (λ l. Made l next) (sym (append_assoc found (n ∷ []) ns))
      last n (Refused rule place) = refl
      last n (Passed bound most) = refl

      by : (a : Answer Start)
          → onward (onward a (λ s env. onward (with_arguments (user.initial no_keeper) at ps vs env) (λ ns env. Made (s.node ∷ ns) env))) behind
          ≡ onward a (λ s env. onward (with_arguments (user.initial no_keeper) at ps vs env) (λ ns env. Made ((found ++ s.node ∷ []) ++ ns) env))
      by (Made s next) = last s.node (with_arguments (user.initial no_keeper) at ps vs next)
      by (Refused rule place) = refl
      by (Passed bound most) = refl

-- ---- all of them, without default arguments

abbrev no_defaults : List Default
no_defaults = []

drop_none : (n : ℕ) → drop n no_defaults ≡ no_defaults
drop_none zero = refl
drop_none (suc n) = refl

pub arguments_are : (at : ℕ) (ps : List ℕ) (vs : List Value) (env : Env) → shut.arguments at ps vs env ≡ shut.arguments_behind at ps vs [] env
unfolding shut.arguments shut.arguments_behind
arguments_are at ps vs env =
    ap (λ ds. onward (with_arguments (user.initial no_keeper) at ps vs env) (λ given env. onward (each defaulted ds env) (λ rest env. Made (given ++ rest) env))) (drop_none (length no_defaults - (length ps - length vs)))
    ∙ by (with_arguments (user.initial no_keeper) at ps vs env)
  where
    by : (a : Answer (List Node)) → onward a (λ given env. Made (given ++ []) env) ≡ onward a (λ ns env. Made ([] ++ ns) env)
    by (Made ns next) = ap (λ l. Made l next) (append-nil ns)
    by (Refused rule place) = refl
    by (Passed bound most) = refl

-- ---- by their places

-- nothing is found at first
pub begun : (at : ℕ) (ps : List ℕ) (vs : List Value) (env : Env) (found : List Node) → found ≡ [] → shut.arguments at ps vs env ≡ shut.arguments_behind at (drop 0 ps) (drop 0 vs) found env
begun at ps vs env found none = arguments_are at ps vs env ∙ ap (λ ns. shut.arguments_behind at ps vs ns env) (sym none)

pub turned : (at : ℕ) (ps : List ℕ) (vs : List Value) (env : Env) (found : List Node) (k j p : ℕ) (v : Value) → k < length vs → v ≡ get_or vs k v → j ≡ k → slice_get ps j ≡ Some p
    → shut.arguments_behind at (drop k ps) (drop k vs) found env
    ≡ onward (start.initial no_keeper at p v env) (λ s env. shut.arguments_behind at (drop (suc k) ps) (drop (suc k) vs) (found ++ s.node ∷ []) env)
turned at ps vs env found k j p v within is same param =
    let at_k : slice_get ps k ≡ Some p = subst (λ n. slice_get ps n ≡ Some p) same param in
    let first : drop k ps ≡ p ∷ drop (suc k) ps = drop-cons ps k p (slice_get_within ps k p at_k) ∙ ap (λ q. q ∷ drop (suc k) ps) (get_or_from_slice_get ps k p p at_k) in
    let given : drop k vs ≡ v ∷ drop (suc k) vs = drop-cons vs k v within ∙ ap (λ w. w ∷ drop (suc k) vs) (sym is) in
    one_argument at found env (drop k ps) p (drop (suc k) ps) (drop k vs) v (drop (suc k) vs) first given

pub stops_onward : {A B : Type 0} (a : Answer A) (go : A → Env → Answer B) (s : Stop) → Stops a s → Stops (onward a go) s
stops_onward a go (stop.Broken b) h = ap (λ a. onward a go) h
stops_onward a go (stop.Passed l) h = ap (λ a. onward a go) h
stops_onward a go stop.Memory h = tt

module _ (at : ℕ) (ps : List ℕ) (vs : List Value) (first env : Env) (found : List Node) (k j p : ℕ) (v : Value)
    (so_far : shut.arguments at ps vs first ≡ shut.arguments_behind at (drop k ps) (drop k vs) found env)
    (within : k < length vs) (is : v ≡ get_or vs k v) (same : j ≡ k) (param : slice_get ps j ≡ Some p) where
  turn : shut.arguments at ps vs first ≡ onward (start.initial no_keeper at p v env) (λ s env. shut.arguments_behind at (drop (suc k) ps) (drop (suc k) vs) (found ++ s.node ∷ []) env)
  turn = so_far ∙ turned at ps vs env found k j p v within is same param

  pub turn_stops : (s : Stop) → Stops (start.initial no_keeper at p v env) s → Stops (shut.arguments at ps vs first) s
  turn_stops s h =
      subst (λ a. Stops a s) (sym turn)
      (stops_onward (start.initial no_keeper at p v env) (λ s env. shut.arguments_behind at (drop (suc k) ps) (drop (suc k) vs) (found ++ s.node ∷ []) env) s h)

  pub turn_more : (s : Start) (next : Env) (more : List Node) (n : ℕ) → start.initial no_keeper at p v env ≡ Made s next → more ≡ found ++ s.node ∷ [] → n ≡ k + 1
      → shut.arguments at ps vs first ≡ shut.arguments_behind at (drop n ps) (drop n vs) more next
  turn_more s next more n made e count =
      let one_more : n ≡ suc k = omega (arith, count) in
      turn ∙ ap (λ a. onward a (λ s env. shut.arguments_behind at (drop (suc k) ps) (drop (suc k) vs) (found ++ s.node ∷ []) env)) made
      ∙ ap (λ ns. shut.arguments_behind at (drop (suc k) ps) (drop (suc k) vs) ns next) (sym e)
      ∙ ap (λ m. shut.arguments_behind at (drop m ps) (drop m vs) more next) (sym one_more)

-- all are found
pub ended : (at : ℕ) (ps : List ℕ) (vs : List Value) (env : Env) (found : List Node) (k : ℕ) → k ≡ length vs → length vs ≡ length ps
    → shut.arguments_behind at (drop k ps) (drop k vs) found env ≡ Made found env
unfolding shut.arguments_behind
ended at ps vs env found k all many =
    ap (λ ps. onward (with_arguments (user.initial no_keeper) at ps (drop k vs) env) (λ ns env. Made (found ++ ns) env)) (drop_all k ps (omega (arith, all, many)))
    ∙ ap (λ l. Made l env) (append-nil found)
