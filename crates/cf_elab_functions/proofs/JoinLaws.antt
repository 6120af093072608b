-- One more function of a name.
use Rattle.std.proofs.Common.{◌≡◌, ℕ, ◌<◌, Bool, true, false, if◌then◌else◌, nat_eq, List, [], ◌∷◌, ◌++◌, Option, None, Some, slice_get, All, refl, sym, ap, ◌∙◌}
use Rattle.std.proofs.lemmas.List.Elements.{All-push}
use Rattle.std.specs.List.{list_any}
use Rattle.cf_elab.specs.Answer.{Answer, Elab, Made, Refused, breaks}
use Rattle.cf_elab.specs.Env.{Env, Entity, functions}
use Rattle.cf_elab.specs.Functions as declaring
use Rattle.cf_elab.specs.Functions.{Says}
use Rattle.cf_elab.specs.Names.{redeclare}
use Rattle.cf_elab_env.specs.Shut as made
use Rattle.cf_elab_functions.specs.Shut as shut

module _ (n : ℕ) (fs : List ℕ) where
  pub joined_in : (all : List ℕ) → list_any (nat_eq n) fs ≡ true → all ≡ fs → all ≡ shut.joins n fs
  unfolding shut.joins
  joined_in all h is = is ∙ sym (ap (λ b. if b then fs else fs ++ n ∷ []) h)

  pub joined_more : (all : List ℕ) → list_any (nat_eq n) fs ≡ false → all ≡ fs ++ n ∷ [] → all ≡ shut.joins n fs
  unfolding shut.joins
  joined_more all h is = is ∙ sym (ap (λ b. if b then fs else fs ++ n ∷ []) h)

  pub joined_known : (count : ℕ) → n < count → All (λ f. f < count) fs → All (λ f. f < count) (shut.joins n fs)
  unfolding shut.joins
  joined_known count h all = by (list_any (nat_eq n) fs)
    where
      by : (b : Bool) → All (λ f. f < count) (if b then fs else fs ++ n ∷ [])
      by true = all
      by false = All-push (λ f. f < count) fs n all h

pub join_new : (d : Says) (n : ℕ) (here : Option ℕ) (env : Env) (r : Answer (Unit {0})) → here ≡ None → made.declare d.name (functions (n ∷ [])) env ≡ r → shut.entity_joined d n here env ≡ r
unfolding shut.entity_joined made.declare
join_new d n here env r is h = ap (λ o. shut.entity_joined d n o env) is ∙ h

pub join_old : (d : Says) (n e : ℕ) (here : Option ℕ) (env : Env) → here ≡ Some e → shut.entity_joined d n here env ≡ shut.join_at d n e env
unfolding shut.entity_joined shut.join_at
join_old d n e here env is = ap (λ o. shut.entity_joined d n o env) is

module _ (d : Says) (n e : ℕ) (env : Env) (x : Entity) (has : slice_get env.entities e ≡ Some x) where
  -- as the definition has it
  abbrev join_set : Option Entity → Elab (Unit {0})
  join_set (Some (functions fs)) = redeclare e (functions (declaring.joins n fs))
  join_set other = breaks 8 d.at

  opened : shut.join_at d n e env ≡ join_set (Some x) env
  unfolding shut.join_at
  opened = ap (λ o. join_set o env) has

  join_functions : (fs : List ℕ) → x ≡ functions fs → shut.join_at d n e env ≡ made.redeclare e (functions (shut.joins n fs)) env
  unfolding made.redeclare shut.joins
  join_functions fs is = opened ∙ ap (λ x. join_set (Some x) env) is

  pub join_made : (fs gs all : List ℕ) (new : Env) → x ≡ functions fs → gs ≡ fs → all ≡ shut.joins n gs → made.redeclare e (functions all) env ≡ Made tt new
      → shut.join_at d n e env ≡ Made tt new
  join_made fs gs all new is same joined set =
      join_functions fs is ∙ ap (λ l. made.redeclare e (functions l) env) (ap (shut.joins n) (sym same) ∙ sym joined) ∙ set

  pub join_other : ((fs : List ℕ) → x ≡ functions fs → ⊥) → shut.join_at d n e env ≡ Refused 8 d.at
  join_other other = opened ∙ by x other
    where
      by : (x : Entity) → ((fs : List ℕ) → x ≡ functions fs → ⊥) → join_set (Some x) env ≡ Refused 8 d.at
      by (functions fs) other = absurd (other fs refl)
      by x other = refl

pub ruleset join_laws = (join_new, join_old)

pub ruleset at_laws = (join_other, joined_known)

pub ruleset joined_laws = (joined_in, joined_more)
