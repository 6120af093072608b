-- The objects where the frame changes, and the C locals of registers where they are left alone.
use Rattle.std.proofs.Common.{◌≡◌, ℕ, ◌<◌, refl, sym, ◌∙◌, ap, subst}
use Rattle.std.specs.Prelude.{Option, Some, None}
use Rattle.cf_core.specs.Run.{State, with_frame, Frame}
use Rattle.cf_lower_layout.specs.Sorts.{Sort}
use Rattle.cf_plain.specs.Plain.{Register}
use Rattle.cf_plain.specs.Acts.{Registers}
use Rattle.cc_whole_memory.specs.Values.{bytes_of}
use Rattle.cc_whole_memory.specs.Cells.{load}
use Rattle.cc_whole_memory.specs.Blocks.{Memory, inside, on_ok, value_or_act}
use Rattle.cc_whole_mean.specs.Scope.{Scope}
use Rattle.cc_whole_mean.specs.Types.{scalar_of}
use Rattle.cc_whole_mean.specs.Values.{value_of, named_value}
use Rattle.cf_lower.specs.Kept.{Keeping, local_kept}
use Rattle.cf_lower.specs.Written.{register_type}
use Rattle.cf_lower.specs.Expressions.{local_value}
use Rattle.cf_lower_relate.specs.Map.{Fixed, Map}
use Rattle.cf_lower_relate.specs.Relation.{Rel}
use Rattle.cf_lower_steps.specs.Own.{Own, OwnBlocks}
use Rattle.cf_lower_steps.specs.Steps.{KeptAs, InRegisters}
use Rattle.cf_lower_steps.specs.Lowering.{Below}

-- the objects are those of before where the frame changes
pub rel-framed : (K : Fixed) (F : Map) (s : State) (m : Memory) (f : Frame) → Rel K F s m → Rel K F (with_frame f s) m
rel-framed K F s m f r = record { count = r.count; type = r.type; laid = r.laid; gone = r.gone; stands = r.stands; below = r.below; apart = r.apart }

-- registers have their values where the C locals of registers are left alone
module _ (K : Fixed) (own : Own) (scope : Scope) (F : Map) (kept : Keeping) (g : Registers) (m k : Memory) (blocks : OwnBlocks own F scope m) (below : Below own kept)
    (same : (u : Sort) (r : Register) → r < own.bound → k.block (own.block u r) ≡ m.block (own.block u r)) where
  local-same : (u : Sort) (r : Register) → r < own.bound → value_of (local_value (Some u) r) scope k ≡ value_of (local_value (Some u) r) scope m
  local-same u r lt =
      ap (λ n. named_value n k) (blocks.named u r lt)
      ∙ ap (λ x. on_ok (inside (own.block u r) 0 (bytes_of (scalar_of (register_type u))) x) (λ at. value_or_act (load (scalar_of (register_type u)) at.block.cells at.offset))) (same u r lt)
      ∙ sym (ap (λ n. named_value n m) (blocks.named u r lt))

  kept-same : (r : Register) (a : Option Sort) → local_kept (kept r) ≡ a → value_of (local_value a r) scope k ≡ value_of (local_value a r) scope m
  kept-same r None e = refl
  kept-same r (Some u) e = local-same u r (below r u e)

  pub registers-elsewhere : InRegisters K F kept g scope m → InRegisters K F kept g scope k
  registers-elsewhere h r v e = subst (λ z. KeptAs K F (kept r) v z) (sym (kept-same r (local_kept (kept r)) refl)) (h r v e)
