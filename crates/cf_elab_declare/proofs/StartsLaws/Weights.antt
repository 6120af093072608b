-- How much of lists a plan has in it, by which carrying it out ends.
use Rattle.std.proofs.Common.{◌≡◌, ℕ, ◌+◌, List, [], ◌∷◌, refl, ap, ◌∙◌}
use Rattle.cf_elab.specs.Lists.{Plan, Plans, by_value, by_list, by_text, wrong, plans, no_plans, planned}
use Rattle.cf_elab_initial.specs.declared.lists.plan.Plan.{Plan as Held}
use Rattle.cf_elab_initial.specs.declared.lists.plan.Plan.TheVariants as plan
use Rattle.cf_elab_initial.specs.Lists.Seen.{plan_seen, plans_seen}
use Rattle.cf_elab_initial.proofs.ListsLaws.Rolled.{seen_list}

abbrev mutual
  pub weight : Plan → ℕ
  weight (by_value at t x) = 0
  weight (by_list at ps) = plans_weight ps + 1
  weight (by_text at bytes) = 0
  weight (wrong rule at) = 0

  pub plans_weight : Plans → ℕ
  plans_weight no_plans = 0
  plans_weight (plans p ps) = weight p + plans_weight ps

abbrev pub weights : List Plan → ℕ
weights [] = 0
weights (p ∷ ps) = weight p + weights ps

same_weights : (ps : List Plan) → plans_weight (planned ps) ≡ weights ps
same_weights [] = refl
same_weights (p ∷ ps) = ap (λ n. weight p + n) (same_weights ps)

pub list_weight : (p : Held) (at : ℕ) (ps : List Held) → p ≡ plan.ByList at ps → weight (plan_seen p) ≡ weights (plans_seen ps) + 1
list_weight p at ps is = ap weight (ap plan_seen is ∙ seen_list at ps) ∙ ap (λ n. n + 1) (same_weights (plans_seen ps))
