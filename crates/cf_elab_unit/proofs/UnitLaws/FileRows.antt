-- A file is what it begins with, its items, and its end.
use Rattle.std.proofs.Common.{◌≡◌, ◌∙◌, ℕ, List, None, Some, Err, refl, sym, ap}
use Rattle.cf_unit.specs.declared.file.Unit.{Unit as FileTree}
use Rattle.cf_elab.specs.Answer.{Made, onward}
use Rattle.cf_elab.specs.Built.{not_built, first_of_file, first_built, built_so_far}
use Rattle.cf_elab.specs.Env.{Env, Name, Extent}
use Rattle.cf_elab.specs.File.{Core, Broken, answer, first_env, core_unit, all_defined}
use Rattle.cf_elab.specs.Scan.{defined_names}
use Rattle.cf_elab_env.specs.Answered.{Stops}
use Rattle.cf_elab_env.specs.declared.stop.Stop.{Stop}
use Rattle.cf_elab_env.specs.declared.stop.Stop.TheVariants as stop
use Rattle.cf_elab_file.specs.Shut as row
use Rattle.cf_elab_unit.specs.Unit.First.{IsFirst, EndsAs}
use Rattle.cf_elab_unit.specs.Unit.Shut as shut

module _ (u : FileTree) where
  pub not_built_is : (at : ℕ) → not_built u ≡ Some at → first_of_file u ≡ Broken 48 at
  not_built_is at h = ap (λ p. first_built p u) h

  pub built_is : not_built u ≡ None → first_of_file u ≡ shut.elaboration u
  unfolding shut.elaboration
  built_is h = ap (λ p. first_built p u) h

  pub all_built : not_built u ≡ None → shut.AreBuilt u.items
  unfolding shut.AreBuilt
  all_built h = h

  -- the core of a file, or why it has none, from its items in turn
  by_turn : shut.elaboration u ≡ answer (shut.in_turn u)
  unfolding shut.elaboration shut.in_turn
  by_turn = refl

  module _ (x : Extent) (names : List Name) (env : Env) (extent : x ≡ built_so_far) (scanned : names ≡ defined_names u) (begun : row.beginning (first_env x names) ≡ Made tt env) where
    by_items : shut.in_turn u ≡ shut.whole u.items env
    unfolding row.beginning shut.whole shut.items shut.in_turn
    by_items =
        ap (λ a. onward (onward a (λ _. shut.items u.items)) (λ _. all_defined))
        (ap (λ x. row.beginning (first_env x (defined_names u))) (sym extent) ∙ ap (λ l. row.beginning (first_env x l)) (sym scanned) ∙ begun)

    pub core_is : (last : Env) → shut.whole u.items env ≡ Made tt last → shut.elaboration u ≡ Core (core_unit last)
    core_is last h = by_turn ∙ ap answer (by_items ∙ h)

    pub ends_is : shut.AreBuilt u.items → (last : Env) → shut.whole u.items env ≡ Made tt last → EndsAs u last
    ends_is built last h = record { built = built; made = by_items ∙ h }

    pub stop_is : (s : Stop) → Stops (shut.whole u.items env) s → IsFirst (shut.elaboration u) (Err s)
    stop_is (stop.Broken b) h = by_turn ∙ ap answer (by_items ∙ h)
    stop_is (stop.Passed l) h = by_turn ∙ ap answer (by_items ∙ h)
    stop_is stop.Memory h = tt

pub ruleset file_laws = (not_built_is, built_is, all_built)

pub ruleset end_laws = (core_is, ends_is, stop_is)
