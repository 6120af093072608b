-- Where less is told of the registers, what is so of them is so still.
use Rattle.std.proofs.Common.{◌≡◌, ◌<◌, sym, ◌∙◌, ap, subst, inl, inr}
use Rattle.std.specs.Prelude.{ℕ, Option, Some, None, ◌⊎◌}
use Rattle.cf_core.specs.Store as source
use Rattle.cf_lower_layout.specs.Sorts.{Sort}
use Rattle.cf_plain.specs.Plain.{Register}
use Rattle.cf_plain.specs.Acts.{Registers}
use Rattle.cc_whole_memory.specs.Blocks.{Memory}
use Rattle.cc_whole_mean.specs.Values.{value_of}
use Rattle.cf_lower.specs.Kept.{Kept, unknown, Keeping, local_kept}
use Rattle.cf_lower.specs.Expressions.{local_value}
use Rattle.cf_lower_kept.specs.Told.{TellsLess}
use Rattle.cf_lower_relate.specs.Map.{Fixed, Map}
use Rattle.cf_lower_steps.specs.Steps.{KeptAs, InRegisters}
use Rattle.cf_lower_steps.specs.Lowering.{Below}
use Rattle.cf_lower_turns.specs.Here.{Body, Narrows}

no-sort : {u : Sort} → None ≡ Some u → ⊥
no-sort e = absurd (cc)

module _ (K : Fixed) (at : Body) (g h : Keeping) (less : TellsLess g h) where
  weaker : (F : Map) (v : Registers) (m : Memory) → InRegisters K F g v at.scope m → InRegisters K F h v at.scope m
  weaker F v m regs r x e = by_less (less r)
    where
      by_less : (h r ≡ unknown) ⊎ (g r ≡ h r) → KeptAs K F (h r) x (value_of (local_value (local_kept (h r)) r) at.scope m)
      by_less (inl i) = subst (λ y. KeptAs K F y x (value_of (local_value (local_kept y) r) at.scope m)) (sym i) tt
      by_less (inr i) = subst (λ y. KeptAs K F y x (value_of (local_value (local_kept y) r) at.scope m)) i (regs r x e)

  below : Below at.own g → Below at.own h
  below b q u e = by_less (less q)
    where
      by_less : (h q ≡ unknown) ⊎ (g q ≡ h q) → q < at.own.bound
      by_less (inl i) = absurd (no-sort (sym (ap local_kept i) ∙ e))
      by_less (inr i) = b q u (ap local_kept i ∙ e)

  pub narrows : Narrows K at g h
  narrows = record { weaker = weaker; below = below }
