-- The steps of a conversion, from the conversion that is found.
use Rattle.std.proofs.Common.{◌≡◌, ℕ, zero, suc, false, List, Option, None, Some, ℤ, pos, negsuc, refl, ap, ◌∙◌}
use Rattle.std.specs.Option.{option_map}
use Rattle.cf_types.specs.Table.{Table}
use Rattle.cf_classes.specs.declared.class.ClassDef.{ClassDef}
use Rattle.cf_convert.specs.declared.conv.Val.{Val}
use Rattle.cf_convert.specs.declared.conv.Conv.{Conv}
use Rattle.cf_convert.specs.declared.conv.ConvStep.{ConvStep}
use Rattle.cf_convert.specs.Converts.{steps, converts, conversion}
use Rattle.cf_elab.specs.Operand.{is_zero}

back : (o : Option (List ConvStep)) → option_map (λ (c : Conv). c.steps) (option_map conversion o) ≡ o
back None = refl
back (Some ss) = refl

module _ (types : Table) (defs : List (ℕ × ClassDef)) (v : Val) (to : ℕ) where
  steps_of : (found : Option Conv) → found ≡ converts types defs v to → option_map (λ (c : Conv). c.steps) found ≡ steps types defs v to
  steps_of found h = ap (option_map (λ (c : Conv). c.steps)) h ∙ back (steps types defs v to)

  pub found_steps : (conv : Conv) → Some conv ≡ converts types defs v to → Some conv.steps ≡ steps types defs v to
  found_steps conv h = steps_of (Some conv) h

  pub no_steps : None ≡ converts types defs v to → None ≡ steps types defs v to
  no_steps h = steps_of None h

pub not_zero : (z : ℤ) → (z ≡ pos 0 → ⊥) → is_zero (Some z) ≡ false
not_zero (pos zero) h = absurd (h refl)
not_zero (pos (suc n)) h = refl
not_zero (negsuc n) h = refl
