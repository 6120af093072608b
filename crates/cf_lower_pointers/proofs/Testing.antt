-- Whether a pointer is null, and whether a number is 0.
use Rattle.std.proofs.Common.{◌≡◌, ℕ, zero, suc, Bool, true, false, not, ◌&&◌, ◌==◌, refl, sym, ◌∙◌, ap, arith}
use Rattle.std.specs.Prelude.{ℤ, pos, negsuc, int_le, Option, Some, None, Result, Ok}
use Rattle.std.proofs.lemmas.Bool.Decides.{nat_tests}
use Rattle.cf_base.specs.declared.kind.Kind.{Kind}
use Rattle.cf_base.specs.declared.kind.Kind.TheVariants.{Int}
use Rattle.cf_base.specs.declared.arith.Arith.{Arith}
use Rattle.cf_base.specs.declared.arith.Arith.TheVariants as op
use Rattle.cf_base.specs.Integers.{convert, truth}
use Rattle.cf_base.specs.World.{World}
use Rattle.cf_core.specs.Types.{Name, SourceType}
use Rattle.cf_core.specs.Pointers.{truth_value}
use Rattle.cf_core.specs.Scalars.{truth_of}
use Rattle.cf_core.specs.Store as source
use Rattle.cf_core.specs.Run.{State, ◌>>=◌, gives, malformed, some_or}
use Rattle.cf_core.specs.Calls.{Program}
use Rattle.cf_core.specs.Calls as core
use Rattle.cf_lower_layout.specs.Sorts.{number, address, code}
use Rattle.cf_plain.specs.Plain as plain
use Rattle.cf_plain.specs.Plain.{Register}
use Rattle.cf_plain.specs.Acts.{Registers, acts, held}
use Rattle.cc_whole.specs.Plain.{binary}
use Rattle.cc_whole_memory.specs.declared.value.Pointer.{Pointer}
use Rattle.cc_whole_memory.specs.declared.value.Pointer.TheVariants as pointer
use Rattle.cc_whole_memory.specs.declared.value.Value.{Value}
use Rattle.cc_whole_memory.specs.declared.value.Value.TheVariants as value
use Rattle.cc_whole_memory.specs.Blocks.{Memory, on_ok}
use Rattle.cc_whole_memory.specs.Pointers.{same_pointer}
use Rattle.cc_whole_mean.specs.Scope.{Scope}
use Rattle.cc_whole_mean.specs.Values as c
use Rattle.cc_whole_mean.specs.Values.{value_of, applied, by_equality, of_address}
use Rattle.cf_lower_relate.specs.Map.{Map, IsSome, Numbered}
use Rattle.cf_lower_relate.proofs.Bits.{convert-int, nonzero, nonzero-word}
use Rattle.cf_lower.specs.Kept.{integer_of, holds, a_truth, Keeping}
use Rattle.cf_lower.specs.Expressions.{zero as nought, in_register, integer_in}
use Rattle.cf_lower_steps.specs.Steps.{HasValue, InRegisters, Step}
use Rattle.cf_lower_steps.proofs.Holding.{usable}
use Rattle.cf_lower_steps.proofs.Values.{K}
use Rattle.cf_lower_pointers.proofs.Answers.{truth-number, truth-kept}
use Rattle.cf_lower_pointers.proofs.Operands.{value-held}

unlike-null : (x : Pointer) → IsSome x → same_pointer x pointer.Null ≡ false
unlike-null pointer.Null h = absurd h
unlike-null (pointer.At b q) h = refl

-- how an operator tests against the constant 0: what it gives by whether its operand is null
pub record Test (o : Arith) (turn : Bool → Bool) : Type 0 where
  pub by : (b : Bool) → by_equality o (not b) ≡ Ok (c.truth_value (turn b))
  pub address : (x : Pointer) (m : Memory) → of_address o x (pos 0) m ≡ by_equality o (same_pointer x pointer.Null)

true-by : (b : Bool) → by_equality op.NotEqual (not b) ≡ Ok (c.truth_value b)
true-by true = refl
true-by false = refl

pub is_true : Test op.NotEqual (λ b. b)
is_true = record { by = true-by; address = λ x m. refl }

not-by : (b : Bool) → by_equality op.Equal (not b) ≡ Ok (c.truth_value (not b))
not-by true = refl
not-by false = refl

pub is_not : Test op.Equal (λ b. not b)
is_not = record { by = not-by; address = λ x m. refl }

equal-zero : (z : ℤ) → int_le z (pos 0) && int_le (pos 0) z ≡ not (nonzero z)
equal-zero (pos zero) = refl
equal-zero (pos (suc n)) = grind (arith, nat_tests)
equal-zero (negsuc n) = refl

module _ (P : Program) (function : Name → ℕ) (signature : Name → SourceType) (F : Map) (again : core.Again) (s : State) (m : Memory)
    (w : World) (scope : Scope) (kept : Keeping) (g : Registers) (regs : InRegisters (K P function signature F) F kept g scope m) (r : Register) where
  -- of a pointer
  module _ (t : SourceType) (kr : kept r ≡ holds (address t)) (o : Arith) (turn : Bool → Bool) (test : Test o turn) where
    abbrev tested : Result Value ℕ
    tested = value_of (binary o (in_register (address t) r) nought) scope m

    abbrev Pointed : source.Value → Type 0
    Pointed v = HasValue (K P function signature F) F (holds (address t)) v (value_of (in_register (address t) r) scope m)

    known : (v : source.Value) → g r ≡ Some v → usable v ≡ true → Pointed v
    known v is us = value-held P function signature F s m w scope kept g regs r (holds (address t)) (address t) v kr refl is us

    tests : (b : Bool) (x : Pointer) → value_of (in_register (address t) r) scope m ≡ Ok (value.Address x) → same_pointer x pointer.Null ≡ not b
        → Step (K P function signature F) F (gives (truth_value (turn b)) s w) s w a_truth tested
    tests b x h same = record {
      by = (
        refl,
        refl,
        truth-kept (K P function signature F) F (turn b) tested
            (ap (λ a. on_ok a (λ y. applied o y (value.Number Int (pos 0)) m)) h ∙ test.address x m ∙ ap (by_equality o) same ∙ test.by b),
      );
    }

    pub test-step : Step (K P function signature F) F ((held g r >>= truth_of >>= (λ b. gives (truth_value (turn b)))) s w) s w a_truth tested
    test-step = by_value (g r) refl
      where
        by_value : (y : Option source.Value) → g r ≡ y
            → Step (K P function signature F) F ((some_or y malformed >>= truth_of >>= (λ b. gives (truth_value (turn b)))) s w) s w a_truth tested
        by_value None e = record { by = tt }
        by_value (Some source.Nothing) e = record { by = tt }
        by_value (Some source.Missing) e = record { by = refl }
        by_value (Some source.Built) e = record { by = tt }
        by_value (Some source.Null) e = let h = known source.Null e refl in tests false pointer.Null (h.is ∙ ap (λ (y : Value). Ok y) h.same) refl
        by_value (Some (source.At p)) e =
            let h = known (source.At p) e refl in tests true h.same.pointer (h.is ∙ ap (λ (y : Value). Ok y) h.same.is) (unlike-null h.same.pointer h.same.some)
        by_value (Some (source.Number z)) e = absurd (known (source.Number z) e refl).same
        by_value (Some (source.Code f)) e = absurd (known (source.Code f) e refl).same
        by_value (Some (source.DataMember path i)) e = absurd (known (source.DataMember path i) e refl).same
        by_value (Some (source.FunctionMember path d)) e = absurd (known (source.FunctionMember path d) e refl).same

  -- of a pointer to a function
  module _ (numbered : Numbered (K P function signature F)) (t : SourceType) (kr : kept r ≡ holds (code t)) (o : Arith) (turn : Bool → Bool) (test : Test o turn) where
    abbrev code_tested : Result Value ℕ
    code_tested = value_of (binary o (in_register (code t) r) nought) scope m

    code-known : (v : source.Value) → g r ≡ Some v → usable v ≡ true
        → HasValue (K P function signature F) F (holds (code t)) v (value_of (in_register (code t) r) scope m)
    code-known v is us = value-held P function signature F s m w scope kept g regs r (holds (code t)) (code t) v kr refl is us

    code-tests : (b : Bool) (i : ℕ) → value_of (in_register (code t) r) scope m ≡ Ok (value.Function i) → i == 0 ≡ not b
        → Step (K P function signature F) F (gives (truth_value (turn b)) s w) s w a_truth code_tested
    code-tests b i h same = record {
      by = (
        refl,
        refl,
        truth-kept (K P function signature F) F (turn b) code_tested
            (ap (λ a. on_ok a (λ y. applied o y (value.Number Int (pos 0)) m)) h ∙ ap (by_equality o) same ∙ test.by b),
      );
    }

    pub code-test-step : Step (K P function signature F) F ((held g r >>= truth_of >>= (λ b. gives (truth_value (turn b)))) s w) s w a_truth code_tested
    code-test-step = by_value (g r) refl
      where
        by_value : (y : Option source.Value) → g r ≡ y
            → Step (K P function signature F) F ((some_or y malformed >>= truth_of >>= (λ b. gives (truth_value (turn b)))) s w) s w a_truth code_tested
        by_value None e = record { by = tt }
        by_value (Some source.Nothing) e = record { by = tt }
        by_value (Some source.Missing) e = record { by = refl }
        by_value (Some source.Built) e = record { by = tt }
        by_value (Some source.Null) e = let h = code-known source.Null e refl in code-tests false 0 (h.is ∙ ap (λ (y : Value). Ok y) h.same) refl
        by_value (Some (source.Code f)) e =
            let h = code-known (source.Code f) e refl in
            code-tests true (function f) (h.is ∙ ap (λ (y : Value). Ok y) h.same.is) (numbered.some f h.same.known)
        by_value (Some (source.Number z)) e = absurd (code-known (source.Number z) e refl).same
        by_value (Some (source.At p)) e = absurd (code-known (source.At p) e refl).same
        by_value (Some (source.DataMember path i)) e = absurd (code-known (source.DataMember path i) e refl).same
        by_value (Some (source.FunctionMember path d)) e = absurd (code-known (source.FunctionMember path d) e refl).same

  -- `!` of a number
  module _ (f : Kind → Bool) (kr : kept r ≡ integer_of f) where
    abbrev negated : Result Value ℕ
    negated = value_of (binary op.Equal (integer_in r) nought) scope m

    number-known : (v : source.Value) → g r ≡ Some v → usable v ≡ true → HasValue (K P function signature F) F (integer_of f) v (value_of (integer_in r) scope m)
    number-known v is us = value-held P function signature F s m w scope kept g regs r (integer_of f) (number Int) v kr refl is us

    number-tests : (z : ℤ) (b : Bool) → nonzero z ≡ b → HasValue (K P function signature F) F (integer_of f) (source.Number z) (value_of (integer_in r) scope m)
        → Step (K P function signature F) F (gives (truth_value (not b)) s w) s w a_truth negated
    number-tests z b e h = record {
      by = (
        refl,
        refl,
        truth-kept (K P function signature F) F (not b) negated
            (ap (λ a. on_ok a (λ x. applied op.Equal x (value.Number Int (pos 0)) m)) (h.is ∙ ap (λ (v : Value). Ok v) h.same.is)
            ∙ ap (λ b. on_ok (truth b) (λ y. Ok (value.Number Int y)))
            (equal-zero (convert Int (convert Int z)) ∙ ap (λ x. not (nonzero x)) (convert-int Int z) ∙ ap not (nonzero-word z h.same.word ∙ e))
            ∙ truth-number (not b)),
      );
    }

    pub number-not-step : Step (K P function signature F) F (acts again P g (plain.logical_not r) s w) s w a_truth negated
    number-not-step = by_value (g r) refl
      where
        by_value : (y : Option source.Value) → g r ≡ y
            → Step (K P function signature F) F ((some_or y malformed >>= truth_of >>= (λ b. gives (truth_value (not b)))) s w) s w a_truth negated
        by_value None e = record { by = tt }
        by_value (Some source.Nothing) e = record { by = tt }
        by_value (Some source.Missing) e = record { by = refl }
        by_value (Some source.Built) e = record { by = tt }
        by_value (Some (source.Number (pos zero))) e = number-tests (pos zero) false refl (number-known (source.Number (pos zero)) e refl)
        by_value (Some (source.Number (pos (suc n)))) e = number-tests (pos (suc n)) true refl (number-known (source.Number (pos (suc n))) e refl)
        by_value (Some (source.Number (negsuc n))) e = number-tests (negsuc n) true refl (number-known (source.Number (negsuc n)) e refl)
        by_value (Some source.Null) e = absurd (number-known source.Null e refl).same
        by_value (Some (source.At p)) e = absurd (number-known (source.At p) e refl).same
        by_value (Some (source.Code n)) e = absurd (number-known (source.Code n) e refl).same
        by_value (Some (source.DataMember path i)) e = absurd (number-known (source.DataMember path i) e refl).same
        by_value (Some (source.FunctionMember path d)) e = absurd (number-known (source.FunctionMember path d) e refl).same
