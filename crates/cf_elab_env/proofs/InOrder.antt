-- Several parts that are elaborated one after the other.
use Rattle.std.proofs.Common.{◌≡◌, ◌∙◌, ℕ, suc, ◌+◌, ◌<◌, ◌≤◌, List, [], ◌∷◌, ◌++◌, length, get_or, drop, map, refl, ap, sym, append_assoc, drop-cons, drop_of_length-le, add-one}
use Rattle.std.proofs.lemmas.List.{append-nil}
use Rattle.cf_elab.specs.Answer.{Answer, Made, Refused, Passed, onward, Elab, all}
use Rattle.cf_elab.specs.Env.{Env}
use Rattle.cf_elab_env.specs.Answered.{Stops}
use Rattle.cf_elab_env.specs.declared.stop.Stop.{Stop}
use Rattle.cf_elab_env.specs.declared.stop.Stop.TheVariants.{Broken as RuleBroken, Passed as LimitPassed, Memory}

-- what was found, and the rest behind it
abbrev pub behind : {B : Type 0} → List B → Answer (List B) → Answer (List B)
behind found a = onward a (λ rest env. Made (found ++ rest) env)

behind-step : {B : Type 0} (found : List B) (o : B) (a : Answer (List B)) → behind (found ++ o ∷ []) a ≡ behind found (onward a (λ rest env. Made (o ∷ rest) env))
behind-step found o (Made rest env) = ap (λ l. Made l env) (append_assoc found (o ∷ []) rest)
behind-step found o (Refused rule at) = refl
behind-step found o (Passed bound most) = refl

left_at : {A : Type 0} (xs : List A) (i : ℕ) (x : A) → i < length xs → x ≡ get_or xs i x → drop i xs ≡ x ∷ drop (i + 1) xs
left_at xs i x lt e = drop-cons xs i x lt ∙ ap (λ y. y ∷ drop (suc i) xs) (sym e) ∙ ap (λ k. x ∷ drop k xs) (sym (add-one i))

pub none_yet : {B : Type 0} (a : Answer (List B)) → a ≡ behind [] a
none_yet (Made rest env) = refl
none_yet (Refused rule at) = refl
none_yet (Passed bound most) = refl

module _ {A B : Type 0} (run : A → Elab B) (found : List B) (xs : List A) (i : ℕ) where
  pub at_end : (env : Env) → length xs ≤ i → behind found (all (map run (drop i xs)) env) ≡ Made found env
  at_end env le = ap (λ l. behind found (all (map run l) env)) (drop_of_length-le xs le) ∙ ap (λ l. Made l env) (append-nil found)

  module _ (x : A) (env : Env) (start : Answer (List B)) (so_far : start ≡ behind found (all (map run (drop i xs)) env)) (within : i < length xs) (there : x ≡ get_or xs i x) where
    abbrev rest : Answer B → Answer (List B)
    rest a = behind found (onward a (λ o env. onward (all (map run (drop (i + 1) xs)) env) (λ rest env. Made (o ∷ rest) env)))

    at_one : start ≡ rest (run x env)
    at_one = so_far ∙ ap (λ l. behind found (all (map run l) env)) (left_at xs i x within there)

    pub stopped : (stop : Stop) → Stops (run x env) stop → Stops start stop
    stopped (RuleBroken b) g = at_one ∙ ap rest g
    stopped (LimitPassed l) g = at_one ∙ ap rest g
    stopped Memory g = tt

    pub going : (o : B) (next : Env) → run x env ≡ Made o next → start ≡ behind (found ++ o ∷ []) (all (map run (drop (i + 1) xs)) next)
    going o next h = at_one ∙ ap rest h ∙ sym (behind-step found o (all (map run (drop (i + 1) xs)) next))
