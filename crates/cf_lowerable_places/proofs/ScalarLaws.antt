-- What scalars take of what registers hold.
use Rattle.std.proofs.Common.{◌≡◌, ℕ, Bool, true, false, ◌&&◌, ◌||◌, sym, ap, ◌∙◌}
use Rattle.std.specs.Prelude.{Option}
use Rattle.cf_core.specs.Types.{SourceType, void, type_eq}
use Rattle.cf_lower_layout.specs.Sorts.{Sort, sort_of}
use Rattle.cf_lower.specs.Kept.{Kept, argument, Locals}
use Rattle.cf_lower_place.specs.Leaf.{is_local, may_hold, may_first}

module _ (locals : Locals) (i : ℕ) (t : SourceType) (k : Kept) where
  pub passes : (b c : Bool) (s : Option Sort) → b ≡ is_local locals i t → b ≡ true → c ≡ may_hold s k → s ≡ sort_of t → c ≡ may_first locals (argument i t) k
  passes b c s local sure held is = held ∙ ap (λ o. may_hold o k) is ∙ ap (λ a. a && may_hold (sort_of t) k) (sym sure ∙ local)

  pub passes_not : (b : Bool) → b ≡ is_local locals i t → b ≡ false → false ≡ may_first locals (argument i t) k
  passes_not b local not_so = ap (λ a. a && may_hold (sort_of t) k) (sym not_so ∙ local)

module _ (t u : SourceType) where
  pub to_void : (b : Bool) → b ≡ type_eq u void → b ≡ true → true ≡ (type_eq u void || type_eq t u)
  to_void b is sure = ap (λ a. a || type_eq t u) (sym sure ∙ is)

  pub to_same : (b c : Bool) → b ≡ type_eq u void → b ≡ false → c ≡ type_eq t u → c ≡ (type_eq u void || type_eq t u)
  to_same b c is not_so same = same ∙ ap (λ a. a || type_eq t u) (sym not_so ∙ is)
