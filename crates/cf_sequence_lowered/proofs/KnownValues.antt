-- Constant values: where what a core gives is known before the run, their plain statements find it.
use Rattle.std.proofs.Common.{◌≡◌, ℕ, suc, ◌+◌, Bool, true, false, ◌&&◌, List, [], refl, sym, ap, ◌∙◌}
use Rattle.std.specs.Prelude.{pos, Option, Some, None}
use Rattle.cf_base.proofs.Tests.{both}
use Rattle.cf_base.specs.declared.kind.Kind.{Kind}
use Rattle.cf_core.specs.declared.operators.UnaryOperator.{UnaryOperator}
use Rattle.cf_core.specs.declared.operators.UnaryOperator.TheVariants as sign
use Rattle.cf_core.specs.Types.{Name}
use Rattle.cf_core.specs.Classes.{Class}
use Rattle.cf_core.specs.Core as core
use Rattle.cf_core.specs.Core.{Core, Function, Static, CoreFile}
use Rattle.cf_lower_layout.specs.Sorts.{sort_of}
use Rattle.cf_plain.specs.Plain.{Register, Plains, PlainFunction, PlainStatic, act, set, branch, nothing, more}
use Rattle.cf_plain.specs.Plain as plain
use Rattle.cf_sequence.specs.Built.{is_constant_value}
use Rattle.cf_sequence.specs.Made.{width}
use Rattle.cf_sequence.specs.Expressions.{Full, Destination, value, used}
use Rattle.cf_sequence.proofs.Calling.{never}
use Rattle.cf_lower.specs.Constants.{Known, unknown, a_number, null, at, a_function, known_by, holds_truth, truth_known, inverted, decayed, sum, pointer_known, converted_known}
use Rattle.cf_lower_program.specs.Starts.{is_known}
use Rattle.cf_sequence_lowered.specs.Known.{operands, chosen, core_known, all_known}
use Rattle.cf_sequence_lowered.proofs.KnownSteps.{Knowing, Finds, Ends, truth-known, inverted-known, steps-then, steps-used, finds-set, finds-one, finds-two, finds-branch, ends-of, ends-none}

decayed-known : (x : Known) → is_known x ≡ true → is_known (decayed x) ≡ true
decayed-known unknown ok = never ok
decayed-known (a_number z) ok = refl
decayed-known null ok = refl
decayed-known (at n o t) ok = refl
decayed-known (a_function name) ok = refl

-- the way that is taken is known
chosen-known : (o : Option Bool) (a b : Bool) (x y : Known) → chosen o false a b ≡ true → (a ≡ true → is_known x ≡ true) → (b ≡ true → is_known y ≡ true)
    → is_known (chosen o unknown x y) ≡ true
chosen-known None a b x y ok p q = never ok
chosen-known (Some true) a b x y ok p q = p ok
chosen-known (Some false) a b x y ok p q = q ok

module _ (f : Name) where
  pub known-is : (e : Core) → is_constant_value e ≡ true → all_known f e ≡ true → is_known (core_known f e) ≡ true
  known-is (core.number z) is ok = refl
  known-is (core.text j bytes) is ok = refl
  known-is (core.static_object name t) is ok = refl
  known-is (core.function name t) is ok = refl
  known-is (core.address e) is ok = known-is e is ok
  known-is (core.dereference e) is ok = known-is e is ok
  known-is (core.decay e) is ok = decayed-known (core_known f e) (known-is e is ok)
  known-is (core.index a b) is ok = (both (all_known f b) _ (both (all_known f a) _ ok).1).1
  known-is (core.pointer_operate op a b) is ok = (both (all_known f b) _ (both (all_known f a) _ ok).1).1
  known-is (core.convert t e) is ok = (both (all_known f e) _ ok).1
  known-is (core.operate op k a b) is ok = (both (all_known f b) _ (both (all_known f a) _ ok).1).1
  known-is (core.unary op k e) is ok = (both (all_known f e) _ ok).1
  known-is (core.logical_not e) is ok = inverted-known (holds_truth (core_known f e)) (truth-known (core_known f e) (known-is e is ok))
  known-is (core.logical_and a b) is ok =
      chosen-known (holds_truth (core_known f a)) (all_known f b) true (truth_known (holds_truth (core_known f b))) (a_number (pos 0)) (both (all_known f a) _ ok).1
      (λ ok. truth-known (core_known f b) (known-is b (both (is_constant_value a) (is_constant_value b) is).1 ok)) (λ ok. refl)
  known-is (core.logical_or a b) is ok =
      chosen-known (holds_truth (core_known f a)) true (all_known f b) (a_number (pos 1)) (truth_known (holds_truth (core_known f b))) (both (all_known f a) _ ok).1
      (λ ok. refl) (λ ok. truth-known (core_known f b) (known-is b (both (is_constant_value a) (is_constant_value b) is).1 ok))
  known-is (core.conditional c a b) is ok =
      let arms = both (is_constant_value a) (is_constant_value b) (both (is_constant_value c) (is_constant_value a && is_constant_value b) is).1 in
      chosen-known (holds_truth (core_known f c)) (all_known f a) (all_known f b) (core_known f a) (core_known f b) (both (all_known f c) _ ok).1
      (λ ok. known-is a arms.0 ok) (λ ok. known-is b arms.1 ok)
  known-is e is ok = never is

  unary-known : (op : UnaryOperator) (k : Kind) (n : Register) (h : Knowing) → known_by [] f h (plain.unary op k n) ≡ known_by [] f (operands (h n) unknown) (plain.unary op k 0)
  unary-known sign.Negate k n h = refl
  unary-known sign.Complement k n h = refl

  module _ (classes : List Class) where
    abbrev pub Found : Core → Type 0
    Found e = (x : Full) (into : Option Destination) (n k : ℕ) (g : Knowing) → Finds f (value classes x e into n k) n (core_known f e) g

    -- an operand that is found
    one : (x : Full) (n k : ℕ) (g : Knowing) (a : Core) (last : plain.Action) (y : Known) → Found a → ((h : Knowing) → h n ≡ core_known f a → known_by [] f h last ≡ y)
        → is_known y ≡ true → Finds f (λ rest. value classes x a None n k (more (set n last) rest)) n y g
    one x n k g a last y found is ok = finds-one f (value classes x a None n k) n last (core_known f a) y g (found x None n k g) is ok

    two : (x : Full) (n k : ℕ) (g : Knowing) (a b : Core) (last : plain.Action) (z : Known) → Found a → is_known (core_known f a) ≡ true → Found b
        → ((h : Knowing) → h n ≡ core_known f a → h (suc n) ≡ core_known f b → known_by [] f h last ≡ z) → is_known z ≡ true
        → Finds f (λ rest. value classes x a None n k (used n (value classes x b None (suc n) (k + width a) (more (set n last) rest)))) n z g
    two x n k g a b last z found known other is ok =
        finds-two f (value classes x a None n k) (value classes x b None (suc n) (k + width a)) n last (core_known f a) (core_known f b) z g (found x None n k g) known
        (λ h. other x None (suc n) (k + width a) h) is ok

    -- the second operand of `&&` and `||`
    tested : (x : Full) (n k : ℕ) (b : Core) → Found b → is_known (core_known f b) ≡ true → (h : Knowing)
        → Ends f (value classes x b None n k (more (set n (plain.truth n)) nothing)) n (truth_known (holds_truth (core_known f b))) h
    tested x n k b found known h =
        let y : Known = truth_known (holds_truth (core_known f b)) in
        ends-of f (λ rest. value classes x b None n k (more (set n (plain.truth n)) rest)) n y h
        (one x n k h b (plain.truth n) y found (λ g is. ap (λ k. truth_known (holds_truth k)) is) (truth-known (core_known f b) known))

    pub find : (e : Core) → is_constant_value e ≡ true → all_known f e ≡ true → Found e
    find (core.number z) is ok x into n k g = finds-set f n (plain.number z) (a_number z) g refl refl
    find (core.text j bytes) is ok x into n k g = finds-set f n (plain.text j bytes) (core_known f (core.text j bytes)) g refl refl
    find (core.static_object name t) is ok x into n k g = finds-set f n (plain.static_object name t) (at name 0 t) g refl refl
    find (core.function name t) is ok x into n k g = finds-set f n (plain.function name t) (a_function name) g refl refl
    find (core.address e) is ok x into n k g =
        let p = find e is ok x None n k g in
        record {
          after = p.after;
          value = p.value;
          below = p.below;
          steps = steps-then f (value classes x e None n k) (used n) g p.after p.after p.steps (steps-used f n p.after (ap is_known p.value ∙ known-is e is ok));
        }
    find (core.dereference e) is ok x into n k g = one x n k g e (plain.dereference n) (core_known f e) (find e is ok) (λ h is. is) (known-is e is ok)
    find (core.decay e) is ok x into n k g = one x n k g e (plain.decay n) (decayed (core_known f e)) (find e is ok) (λ h is. ap decayed is) (known-is (core.decay e) is ok)
    find (core.index a b) is ok x into n k g =
        let q = both (is_constant_value a) (is_constant_value b) is in
        let p = both (all_known f a) (all_known f b && is_known (core_known f (core.index a b))) ok in
        two x n k g a b (plain.index n (suc n)) (core_known f (core.index a b)) (find a q.0 p.0) (known-is a q.0 p.0) (find b q.1 (both (all_known f b) _ p.1).0)
        (λ h l r. ap (λ x. sum [] x (h (suc n))) l ∙ ap (λ y. sum [] (core_known f a) y) r) (known-is (core.index a b) is ok)
    find (core.pointer_operate op a b) is ok x into n k g =
        let q = both (is_constant_value a) (is_constant_value b) is in
        let p = both (all_known f a) (all_known f b && is_known (core_known f (core.pointer_operate op a b))) ok in
        two x n k g a b (plain.pointer_operate op n (suc n)) (core_known f (core.pointer_operate op a b)) (find a q.0 p.0) (known-is a q.0 p.0) (find b q.1 (both (all_known f b) _ p.1).0)
        (λ h l r. ap (λ x. pointer_known [] op x (h (suc n))) l ∙ ap (λ y. pointer_known [] op (core_known f a) y) r) (known-is (core.pointer_operate op a b) is ok)
    find (core.convert t e) is ok x into n k g =
        one x n k g e (plain.convert t n) (core_known f (core.convert t e)) (find e is (both (all_known f e) _ ok).0) (λ h is. ap (converted_known [] (sort_of t)) is)
        (known-is (core.convert t e) is ok)
    find (core.operate op kind a b) is ok x into n k g =
        let q = both (is_constant_value a) (is_constant_value b) is in
        let p = both (all_known f a) (all_known f b && is_known (core_known f (core.operate op kind a b))) ok in
        two x n k g a b (plain.operate op kind n (suc n)) (core_known f (core.operate op kind a b)) (find a q.0 p.0) (known-is a q.0 p.0) (find b q.1 (both (all_known f b) _ p.1).0)
        (λ h l r.
        ap (λ x. known_by [] f (operands x (h (suc n))) (plain.operate op kind 0 1)) l ∙ ap (λ y. known_by [] f (operands (core_known f a) y) (plain.operate op kind 0 1)) r)
        (known-is (core.operate op kind a b) is ok)
    find (core.unary op kind e) is ok x into n k g =
        one x n k g e (plain.unary op kind n) (core_known f (core.unary op kind e)) (find e is (both (all_known f e) _ ok).0)
        (λ h is. unary-known op kind n h ∙ ap (λ x. known_by [] f (operands x unknown) (plain.unary op kind 0)) is) (known-is (core.unary op kind e) is ok)
    find (core.logical_not e) is ok x into n k g =
        one x n k g e (plain.logical_not n) (core_known f (core.logical_not e)) (find e is ok) (λ h is. ap (λ k. truth_known (inverted (holds_truth k))) is)
        (known-is (core.logical_not e) is ok)
    find (core.logical_and a b) is ok x into n k g =
        let q = both (is_constant_value a) (is_constant_value b) is in
        let p = both (all_known f a) (chosen (holds_truth (core_known f a)) false (all_known f b) true) ok in
        let right = value classes x b None n (k + width a) (more (set n (plain.truth n)) nothing) in
        finds-branch f (value classes x a None n k) n (core_known f a) (truth_known (holds_truth (core_known f b))) (a_number (pos 0)) right nothing g (find a q.0 p.0 x None n k g)
        (known-is a q.0 p.0)
        (λ h at e.
        let good : all_known f b ≡ true = sym (ap (λ o. chosen o false (all_known f b) true) e) ∙ p.1 in tested x n (k + width a) b (find b q.1 good) (known-is b q.1 good) h)
        (λ h at e. ends-none f n (a_number (pos 0)) h (at ∙ ap truth_known e)) (λ e. never (sym (ap (λ o. chosen o false (all_known f b) true) e) ∙ p.1))
    find (core.logical_or a b) is ok x into n k g =
        let q = both (is_constant_value a) (is_constant_value b) is in
        let p = both (all_known f a) (chosen (holds_truth (core_known f a)) false true (all_known f b)) ok in
        let right = value classes x b None n (k + width a) (more (set n (plain.truth n)) nothing) in
        finds-branch f (value classes x a None n k) n (core_known f a) (a_number (pos 1)) (truth_known (holds_truth (core_known f b))) nothing right g (find a q.0 p.0 x None n k g)
        (known-is a q.0 p.0) (λ h at e. ends-none f n (a_number (pos 1)) h (at ∙ ap truth_known e))
        (λ h at e.
        let good : all_known f b ≡ true = sym (ap (λ o. chosen o false true (all_known f b)) e) ∙ p.1 in tested x n (k + width a) b (find b q.1 good) (known-is b q.1 good) h)
        (λ e. never (sym (ap (λ o. chosen o false true (all_known f b)) e) ∙ p.1))
    find (core.conditional c a b) is ok x into n k g =
        let q = both (is_constant_value c) (is_constant_value a && is_constant_value b) is in
        let arms = both (is_constant_value a) (is_constant_value b) q.1 in
        let p = both (all_known f c) (chosen (holds_truth (core_known f c)) false (all_known f a) (all_known f b)) ok in
        let left = value classes x a None n (k + width c) nothing in
        let right = value classes x b None n (k + width c + width a) nothing in
        finds-branch f (value classes x c None n k) n (core_known f c) (core_known f a) (core_known f b) left right g (find c q.0 p.0 x None n k g) (known-is c q.0 p.0)
        (λ h at e.
        let good : all_known f a ≡ true = sym (ap (λ o. chosen o false (all_known f a) (all_known f b)) e) ∙ p.1 in
        ends-of f (value classes x a None n (k + width c)) n (core_known f a) h (find a arms.0 good x None n (k + width c) h))
        (λ h at e.
        let good : all_known f b ≡ true = sym (ap (λ o. chosen o false (all_known f a) (all_known f b)) e) ∙ p.1 in
        ends-of f (value classes x b None n (k + width c + width a)) n (core_known f b) h (find b arms.1 good x None n (k + width c + width a) h))
        (λ e. never (sym (ap (λ o. chosen o false (all_known f a) (all_known f b)) e) ∙ p.1))
    find e is ok x into n k g = never is
