-- Steps that are added to those so far.
use Rattle.std.proofs.Common.{◌≡◌, ◌≤◌, Bool, true, false, ◌&&◌, if◌then◌else◌, List, [], ◌∷◌, ◌++◌, Option, None, Some, Result, IfOk, refl, ap, subst, arith, append_assoc}
use Rattle.std.specs.Option.{option_map}
use Rattle.cf_convert.specs.declared.conv.ConvStep.{ConvStep}
use Rattle.cf_convert.specs.declared.conv.ConvStep.TheVariants.{AddConst}
use Rattle.cf_convert.specs.Converts.{with_const, same_then, rank}

-- a conversion's rank is at least 1
pub rank_some : (ss : List ConvStep) → 1 ≤ rank ss
rank_some [] = omega arith
rank_some (s ∷ ss) = let h = rank_some ss in omega arith

-- const may be added to the steps before or after those in front of them
pub with_const-front : (front : List ConvStep) (a b : Bool) (steps : Option (List ConvStep))
    → with_const a b (option_map (λ s. front ++ s) steps) ≡ option_map (λ s. front ++ s) (with_const a b steps)
with_const-front front true false steps = refl
with_const-front front true true steps = refl
with_const-front front false false steps = refl
with_const-front front false true None = refl
with_const-front front false true (Some s) = ap Some (append_assoc front s (AddConst ∷ []))

-- two tests that both have to hold
abbrev no_steps : Option (List ConvStep)
no_steps = Some []

pub both_same : (x y : Bool) → (if y && x then no_steps else None) ≡ same_then x (if y then no_steps else None)
both_same true true = refl
both_same true false = refl
both_same false true = refl
both_same false false = refl

-- what a call gives is what is wanted
pub gives : {A E : Type 0} (r : Result A E) (a b : A) → a ≡ b → IfOk r (λ v. v ≡ a) → IfOk r (λ v. v ≡ b)
gives r a b e h = subst (λ x. IfOk r (λ v. v ≡ x)) e h
