-- The types from a number on, one after the other.
use Rattle.std.proofs.Common.{◌≡◌, ◌∙◌, ℕ, suc, ◌+◌, ◌<◌, ◌≤◌, Bool, true, false, ◌&&◌, nat_le, List, ◌∷◌, length, drop, get_or, refl, sym, ap, drop-cons, drop_of_length-le, add-one}
use Rattle.std.specs.List.{list_all}
use Rattle.cf_base.specs.declared.limit.Bound.TheVariants as bound
use Rattle.cf_types.specs.declared.ty.Ty.{Ty}
use Rattle.cf_types.specs.declared.ty.Ty.TheVariants as ty
use Rattle.cf_elab.specs.Answer.{Answer, Made, onward}
use Rattle.cf_elab.specs.Complete.{bytes_of, most_bytes, within, numbers_from}
use Rattle.cf_elab.specs.Env.{Env}
use Rattle.cf_elab_env.specs.Answered.{Stops}
use Rattle.cf_elab_env.specs.declared.stop.Stop.{Stop}
use Rattle.cf_elab_env.specs.declared.stop.Stop.TheVariants as stop
use Rattle.cf_elab_limits.specs.Shut as shut

module _ (env : Env) (n : ℕ) where
  abbrev fits : ℕ → Bool
  fits t = nat_le (bytes_of env t) most_bytes

  -- of these types, whose first has the number
  abbrev all_of : List Ty → Answer (Unit {0})
  all_of ts = within (list_all fits (numbers_from n ts)) bound.Size most_bytes env

  pub none_left : length env.types.types ≤ n → shut.types_within n env ≡ Made tt env
  unfolding shut.types_within
  none_left le = ap all_of (drop_of_length-le env.types.types le)

  pub one_more : n < length env.types.types → shut.types_within n env ≡ onward (shut.type_within n env) (λ _ env. shut.types_within (n + 1) env)
  unfolding shut.types_within shut.type_within
  one_more lt = ap all_of (there ∙ ap (λ k. get_or env.types.types n ty.Void ∷ drop k env.types.types) (sym (add-one n))) ∙ by (fits n)
    where
      there : drop n env.types.types ≡ get_or env.types.types n ty.Void ∷ drop (suc n) env.types.types
      there = drop-cons env.types.types n ty.Void lt

      by : (b : Bool)
          → within (b && list_all fits (numbers_from (n + 1) (drop (n + 1) env.types.types))) bound.Size most_bytes env
          ≡ onward (within b bound.Size most_bytes env) (λ _ env. within (list_all (λ t. nat_le (bytes_of env t) most_bytes) (numbers_from (n + 1) (drop (n + 1) env.types.types))) bound.Size most_bytes env)
      by true = refl
      by false = refl

module _ (env : Env) (first n : ℕ) (so_far : shut.types_within first env ≡ shut.types_within n env) (lt : n < length env.types.types) where
  pub next_fits : shut.type_within n env ≡ Made tt env → shut.types_within first env ≡ shut.types_within (n + 1) env
  next_fits h = so_far ∙ one_more env n lt ∙ ap (λ a. onward a (λ _ env. shut.types_within (n + 1) env)) h

  pub next_stops : (s : Stop) → Stops (shut.type_within n env) s → Stops (shut.types_within first env) s
  next_stops (stop.Broken b) h = so_far ∙ one_more env n lt ∙ ap (λ a. onward a (λ _ env. shut.types_within (n + 1) env)) h
  next_stops (stop.Passed l) h = so_far ∙ one_more env n lt ∙ ap (λ a. onward a (λ _ env. shut.types_within (n + 1) env)) h
  next_stops stop.Memory h = tt
