-- Whether a number isn't 0, or a pointer isn't null.
use Rattle.std.proofs.Common.{◌≡◌, ℕ, zero, suc, Bool, true, false, ◌||◌, refl, ◌∙◌, ap, subst, arith}
use Rattle.std.specs.Prelude.{ℤ, pos, negsuc, int_lt, Option, Some, None, Result, Ok}
use Rattle.std.proofs.lemmas.Bool.Decides.{nat_tests}
use Rattle.cf_base.specs.declared.kind.Kind.{Kind}
use Rattle.cf_base.specs.declared.kind.Kind.TheVariants.{Int}
use Rattle.cf_base.specs.declared.arith.Arith.TheVariants as op
use Rattle.cf_base.specs.Integers.{convert, truth}
use Rattle.cf_base.specs.World.{World}
use Rattle.cf_core.specs.Types.{Name, SourceType}
use Rattle.cf_core.specs.Store as source
use Rattle.cf_core.specs.Run.{State, ◌>>=◌, gives, malformed, some_or}
use Rattle.cf_core.specs.Pointers.{truth_value}
use Rattle.cf_core.specs.Scalars.{truth_of}
use Rattle.cf_core.specs.Calls.{Program}
use Rattle.cf_core.specs.Calls as core
use Rattle.cf_plain.specs.Plain as plain
use Rattle.cf_plain.specs.Plain.{Register}
use Rattle.cf_plain.specs.Acts.{Registers, acts}
use Rattle.cc_whole.specs.Plain.{binary}
use Rattle.cc_whole_memory.specs.declared.value.Value.{Value}
use Rattle.cc_whole_memory.specs.declared.value.Value.TheVariants as value
use Rattle.cc_whole_memory.specs.Blocks.{Memory, on_ok}
use Rattle.cc_whole_mean.specs.Scope.{Scope}
use Rattle.cc_whole_mean.specs.Values.{value_of, applied}
use Rattle.cf_lower_relate.specs.Map.{Map}
use Rattle.cf_lower_relate.proofs.Bits.{convert-int, nonzero, nonzero-word}
use Rattle.cf_lower.specs.Kept.{integer_of, Keeping, local_kept, a_truth}
use Rattle.cf_lower.specs.Expressions.{zero as nought, integer_in, local_value}
use Rattle.cf_lower_steps.specs.Steps.{HasValue, KeptAs, InRegisters, Step}
use Rattle.cf_lower_steps.proofs.Narrower.{zero-any, one-any}
use Rattle.cf_lower_steps.proofs.Values.{K}

unequal : (a : ℤ) → int_lt a (pos 0) || int_lt (pos 0) a ≡ nonzero a
unequal (pos zero) = refl
unequal (pos (suc n)) = grind (arith, nat_tests)
unequal (negsuc n) = refl

module _ (P : Program) (function : Name → ℕ) (signature : Name → SourceType) (F : Map)
    (again : core.Again) (s : State) (m : Memory) (w : World) (scope : Scope) (kept : Keeping) (g : Registers)
    (regs : InRegisters (K P function signature F) F kept g scope m) (r : Register) (f : Kind → Bool) (kr : kept r ≡ integer_of f) where
  abbrev found : Result Value ℕ
  found = value_of (binary op.NotEqual (integer_in r) nought) scope m

  -- the C's test of a number
  tested : (z : ℤ) → HasValue (K P function signature F) F (integer_of f) (source.Number z) (value_of (integer_in r) scope m)
      → found ≡ on_ok (truth (nonzero z)) (λ y. Ok (value.Number Int y))
  tested z h =
      ap (λ a. on_ok a (λ x. applied op.NotEqual x (value.Number Int (pos 0)) m)) (h.is ∙ ap (λ (v : Value). Ok v) h.same.is)
      ∙ ap (λ b. on_ok (truth b) (λ y. Ok (value.Number Int y)))
      (unequal (convert Int (convert Int z)) ∙ ap nonzero (convert-int Int z) ∙ nonzero-word z h.same.word)

  a-one : found ≡ Ok (value.Number Int (pos 1)) → Step (K P function signature F) F (gives (truth_value true) s w) s w a_truth found
  a-one e = record { by = (refl, refl, record { value = value.Number Int (pos 1); is = e; same = record { is = refl; word = refl; fits = λ k t. one-any k } }) }

  a-nought : found ≡ Ok (value.Number Int (pos 0)) → Step (K P function signature F) F (gives (truth_value false) s w) s w a_truth found
  a-nought e = record { by = (refl, refl, record { value = value.Number Int (pos 0); is = e; same = record { is = refl; word = refl; fits = λ k t. zero-any k } }) }

  -- `truth`, of a number
  pub truth-step : Step (K P function signature F) F (acts again P g (plain.truth r) s w) s w a_truth found
  truth-step = by_value (g r) refl
    where
      known : (v : source.Value) → g r ≡ Some v → KeptAs (K P function signature F) F (integer_of f) v (value_of (integer_in r) scope m)
      known v e = subst (λ y. KeptAs (K P function signature F) F y v (value_of (local_value (local_kept y) r) scope m)) kr (regs r v e)

      by_number : (z : ℤ) → HasValue (K P function signature F) F (integer_of f) (source.Number z) (value_of (integer_in r) scope m)
          → Step (K P function signature F) F ((truth_of (source.Number z) >>= (λ b. gives (truth_value b))) s w) s w a_truth found
      by_number (pos zero) h = a-nought (tested (pos zero) h)
      by_number (pos (suc n)) h = a-one (tested (pos (suc n)) h)
      by_number (negsuc n) h = a-one (tested (negsuc n) h)

      by_value : (y : Option source.Value) → g r ≡ y
          → Step (K P function signature F) F ((some_or y malformed >>= truth_of >>= (λ b. gives (truth_value b))) s w) s w a_truth found
      by_value None e = record { by = tt }
      by_value (Some source.Nothing) e = record { by = tt }
      by_value (Some source.Missing) e = record { by = refl }
      by_value (Some source.Built) e = record { by = tt }
      by_value (Some (source.Number z)) e = record { by = (by_number z (known (source.Number z) e)).by }
      by_value (Some source.Null) e = absurd (known source.Null e).same
      by_value (Some (source.At p)) e = absurd (known (source.At p) e).same
      by_value (Some (source.Code n)) e = absurd (known (source.Code n) e).same
      by_value (Some (source.DataMember path i)) e = absurd (known (source.DataMember path i) e).same
      by_value (Some (source.FunctionMember path d)) e = absurd (known (source.FunctionMember path d) e).same
