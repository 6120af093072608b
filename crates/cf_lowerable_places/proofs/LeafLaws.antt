-- What is asked of statements of one action, by its parts.
use Rattle.std.proofs.Common.{◌≡◌, ℕ, Bool, true, false, ◌||◌, Option, Some, None, refl, sym, ap, ◌∙◌}
use Rattle.cf_core.specs.Types.{SourceType, is_void}
use Rattle.cf_lower_layout.specs.Sorts.{Sort, sort_of}
use Rattle.cf_lower.specs.Kept.{Kept, Keeping}
use Rattle.cf_lower_place.specs.Leaf.{may_convert, may_give}
use Rattle.cf_lowerable_places.specs.Fits.{takes_given}

module _ (t : SourceType) (k : Kept) where
  pub to_nothing : (b : Bool) → b ≡ is_void t → b ≡ true → true ≡ (is_void t || may_convert (sort_of t) k)
  to_nothing b is sure = ap (λ a. a || may_convert (sort_of t) k) (sym sure ∙ is)

  pub to_scalar : (b c : Bool) (s : Option Sort) → b ≡ is_void t → b ≡ false → c ≡ may_convert s k → s ≡ sort_of t → c ≡ (is_void t || may_convert (sort_of t) k)
  to_scalar b c s is not_so may same = may ∙ ap (λ o. may_convert o k) same ∙ ap (λ a. a || may_convert (sort_of t) k) (sym not_so ∙ is)

-- of no scalar anything may be named
pub given_register : (s o : Option Sort) (h : Keeping) (r : ℕ) (k : Kept) (b : Bool) → b ≡ takes_given s k → s ≡ o → k ≡ h r → b ≡ may_give o h (Some r)
given_register s o h r k b e is at = e ∙ ap (λ p. takes_given p k) is ∙ ap (takes_given o) at ∙ same o
  where
    same : (o : Option Sort) → takes_given o (h r) ≡ may_give o h (Some r)
    same None = refl
    same (Some u) = refl
