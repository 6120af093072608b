-- Lists that are made from what statements do, one action more.
use Rattle.std.proofs.Common.{◌≡◌, ℕ, ◌+◌, ◌<◌, List, ◌++◌, length, drop, get_or, sym, ap, ◌∙◌, append_assoc}
use Rattle.std.specs.Borrow.{Bor}
use Rattle.std.specs.List.{flat_map}
use Rattle.cc_whole.specs.declared.types.CType.{CType}
use Rattle.cf_core.specs.FromTypes.{Tables}
use Rattle.cf_plain.specs.declared.action.Action.{Action as CodeAction}
use Rattle.cf_plain.specs.Plain.{Action}
use Rattle.cf_lower.specs.Functions.{arguments_at, result_at}
use Rattle.cf_lower_held.proofs.Forgotten.{drop_item}
use Rattle.cf_lower_fn.specs.Walks.{action_at, told}

pub told_more : {C : Type 0} (f : Action → List C) (tables : Tables) (all : List (Bor CodeAction)) (i : ℕ) (a : Bor CodeAction) (made more whole : List C) → i < length all
    → a ≡ get_or all i a → made ++ flat_map f (told tables (drop i all)) ≡ whole → more ≡ made ++ f (action_at tables a.now)
    → more ++ flat_map f (told tables (drop (i + 1) all)) ≡ whole
told_more f tables all i a made more whole within is so_far pushed =
    let rest = flat_map f (told tables (drop (i + 1) all)) in
    ap (λ l. l ++ rest) pushed ∙ append_assoc made (f (action_at tables a.now)) rest ∙ sym (ap (λ l. made ++ flat_map f (told tables l)) (drop_item all i a within is)) ∙ so_far

module _ (tables : Tables) (all : List (Bor CodeAction)) (i : ℕ) (a : Bor CodeAction) (within : i < length all) (is : a ≡ get_or all i a) where
  pub results_more : (made more whole : List CType) → made ++ flat_map result_at (told tables (drop i all)) ≡ whole → more ≡ made ++ result_at (action_at tables a.now)
      → more ++ flat_map result_at (told tables (drop (i + 1) all)) ≡ whole
  results_more made more whole so_far pushed = told_more result_at tables all i a made more whole within is so_far pushed

  pub arguments_more : (made more whole : List ℕ) → made ++ flat_map arguments_at (told tables (drop i all)) ≡ whole → more ≡ made ++ arguments_at (action_at tables a.now)
      → more ++ flat_map arguments_at (told tables (drop (i + 1) all)) ≡ whole
  arguments_more made more whole so_far pushed = told_more arguments_at tables all i a made more whole within is so_far pushed
