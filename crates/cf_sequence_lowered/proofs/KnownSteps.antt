-- Plain statements of which all is known before the run: what registers are known to hold behind them, and that they are known.
use Rattle.std.proofs.Common.{◌≡◌, ℕ, zero, suc, ◌<◌, Bool, true, false, ◌&&◌, if◌then◌else◌, nat_eq, [], refl, sym, ap, ◌∙◌, arith}
use Rattle.std.specs.Prelude.{pos, Option, Some, None}
use Rattle.std.proofs.lemmas.Bool.Decides.{nat_tests}
use Rattle.cf_core.specs.Types.{Name}
use Rattle.cf_plain.specs.Plain.{Register, Action, Plains, act, set, branch, nothing, more}
use Rattle.cf_plain.specs.Plain as plain
use Rattle.cf_sequence.specs.Expressions.{used}
use Rattle.cf_sequence.proofs.Calling.{never}
use Rattle.cf_lower.specs.Constants.{Known, unknown, a_number, null, at, a_function, know, nothing_known, known_by, known_after, all_known_after, holds_truth, truth_known, inverted}
use Rattle.cf_lower_program.specs.Starts.{is_known, act_known, start_known, starts_known}
use Rattle.cf_sequence_lowered.specs.Known.{chosen}

abbrev pub Knowing : Type 0
Knowing = Register → Known

pub same-register : (g : Knowing) (r : Register) (x : Known) → know g r x r ≡ x
same-register g r x = let e : nat_eq r r ≡ true = grind (arith, nat_tests) in ap (λ b. if b then x else g r) e

pub other-register : (g : Knowing) (r q : Register) (x : Known) → q < r → know g r x q ≡ g q
other-register g r q x lt = let e : nat_eq q r ≡ false = grind (arith, nat_tests) in ap (λ b. if b then x else g q) e

-- a test, once more
pub truth-again : (o : Option Bool) → holds_truth (truth_known o) ≡ o
truth-again None = refl
truth-again (Some true) = refl
truth-again (Some false) = refl

pub truth-known : (x : Known) → is_known x ≡ true → is_known (truth_known (holds_truth x)) ≡ true
truth-known unknown ok = never ok
truth-known (a_number (pos n)) ok = by-number n
  where
    by-number : (n : ℕ) → is_known (truth_known (holds_truth (a_number (pos n)))) ≡ true
    by-number zero = refl
    by-number (suc n) = refl
truth-known (a_number z) ok = refl
truth-known null ok = refl
truth-known (at n o t) ok = refl
truth-known (a_function name) ok = refl

pub inverted-known : (o : Option Bool) → is_known (truth_known o) ≡ true → is_known (truth_known (inverted o)) ≡ true
inverted-known None ok = never ok
inverted-known (Some true) ok = refl
inverted-known (Some false) ok = refl

-- from what registers are known to hold before it to what they do behind it
module _ (f : Name) where
  pub record Steps (code : Plains → Plains) (g h : Knowing) : Type 0 where
    pub goes : (rest : Plains) → starts_known (code rest) f g ≡ starts_known rest f h
    pub later : (rest : Plains) → all_known_after [] (code rest) f g ≡ all_known_after [] rest f h

  pub steps-none : (g : Knowing) → Steps (λ rest. rest) g g
  steps-none g = record { goes = λ rest. refl; later = λ rest. refl }

  pub steps-then : (F G : Plains → Plains) (g h i : Knowing) → Steps F g h → Steps G h i → Steps (λ rest. F (G rest)) g i
  steps-then F G g h i p q = record { goes = λ rest. p.goes (G rest) ∙ q.goes rest; later = λ rest. p.later (G rest) ∙ q.later rest }

  pub steps-by : (F G : Plains → Plains) (g h : Knowing) → ((rest : Plains) → F rest ≡ G rest) → Steps G g h → Steps F g h
  steps-by F G g h same p = record {
    goes = λ rest. ap (λ ss. starts_known ss f g) (same rest) ∙ p.goes rest;
    later = λ rest. ap (λ ss. all_known_after [] ss f g) (same rest) ∙ p.later rest;
  }

  pub steps-set : (n : Register) (a : Action) (g : Knowing) → is_known (known_by [] f g a) ≡ true → Steps (λ rest. more (set n a) rest) g (know g n (known_by [] f g a))
  steps-set n a g ok = record { goes = λ rest. ap (λ b. b && starts_known rest f (know g n (known_by [] f g a))) ok; later = λ rest. refl }

  pub steps-act : (a : Action) (g : Knowing) → act_known g a ≡ true → Steps (λ rest. more (act a) rest) g g
  steps-act a g ok = record { goes = λ rest. ap (λ b. b && starts_known rest f g) ok; later = λ rest. refl }

  pub steps-used : (n : Register) (g : Knowing) → is_known (g n) ≡ true → Steps (used n) g g
  steps-used n g ok = steps-act (plain.truth n) g ok

  -- the way that is taken
  pub steps-true : (n : Register) (ss ts : Plains) (g h : Knowing) → holds_truth (g n) ≡ Some true → starts_known ss f g ≡ true → all_known_after [] ss f g ≡ h
      → Steps (λ rest. more (branch n ss ts) rest) g h
  steps-true n ss ts g h holds ok behind =
      let after : known_after [] (branch n ss ts) f g ≡ h =
      ap (λ (o : Option Bool). elim o [ None ↦ nothing_known | Some b ↦ elim b [ true ↦ all_known_after [] ss f g | false ↦ all_known_after [] ts f g ] ]) holds ∙ behind in
      let start : start_known (branch n ss ts) f g ≡ true =
      ap (λ (o : Option Bool). elim o [ None ↦ false | Some b ↦ elim b [ true ↦ starts_known ss f g | false ↦ starts_known ts f g ] ]) holds ∙ ok in
      record {
        goes = λ rest. ap (λ b. b && starts_known rest f (known_after [] (branch n ss ts) f g)) start ∙ ap (λ k. starts_known rest f k) after;
        later = λ rest. ap (λ k. all_known_after [] rest f k) after;
      }

  pub steps-false : (n : Register) (ss ts : Plains) (g h : Knowing) → holds_truth (g n) ≡ Some false → starts_known ts f g ≡ true → all_known_after [] ts f g ≡ h
      → Steps (λ rest. more (branch n ss ts) rest) g h
  steps-false n ss ts g h holds ok behind =
      let after : known_after [] (branch n ss ts) f g ≡ h =
      ap (λ (o : Option Bool). elim o [ None ↦ nothing_known | Some b ↦ elim b [ true ↦ all_known_after [] ss f g | false ↦ all_known_after [] ts f g ] ]) holds ∙ behind in
      let start : start_known (branch n ss ts) f g ≡ true =
      ap (λ (o : Option Bool). elim o [ None ↦ false | Some b ↦ elim b [ true ↦ starts_known ss f g | false ↦ starts_known ts f g ] ]) holds ∙ ok in
      record {
        goes = λ rest. ap (λ b. b && starts_known rest f (known_after [] (branch n ss ts) f g)) start ∙ ap (λ k. starts_known rest f k) after;
        later = λ rest. ap (λ k. all_known_after [] rest f k) after;
      }

  -- code that finds a value in a register, and leaves those below it
  pub record Finds (code : Plains → Plains) (n : Register) (x : Known) (g : Knowing) : Type 0 where
    pub after : Knowing
    pub value : after n ≡ x
    pub below : (r : Register) → r < n → after r ≡ g r
    pub steps : Steps code g after

  pub finds-set : (n : Register) (a : Action) (x : Known) (g : Knowing) → known_by [] f g a ≡ x → is_known x ≡ true → Finds (λ rest. more (set n a) rest) n x g
  finds-set n a x g is ok = record {
    after = know g n (known_by [] f g a);
    value = same-register g n (known_by [] f g a) ∙ is;
    below = λ r lt. other-register g n r (known_by [] f g a) lt;
    steps = steps-set n a g (ap is_known is ∙ ok);
  }

  -- a value, and then one action more in its register
  pub finds-one : (F : Plains → Plains) (n : Register) (a : Action) (x y : Known) (g : Knowing) → Finds F n x g → ((h : Knowing) → h n ≡ x → known_by [] f h a ≡ y) → is_known y ≡ true
      → Finds (λ rest. F (more (set n a) rest)) n y g
  finds-one F n a x y g p is ok =
      let q : Finds (λ rest. more (set n a) rest) n y p.after = finds-set n a y p.after (is p.after p.value) ok in
      record {
        after = q.after;
        value = q.value;
        below = λ r lt. q.below r lt ∙ p.below r lt;
        steps = steps-then F (λ rest. more (set n a) rest) g p.after q.after p.steps q.steps;
      }

  -- two operands, and then their operator
  pub finds-two : (F G : Plains → Plains) (n : Register) (a : Action) (x y z : Known) (g : Knowing) → Finds F n x g → is_known x ≡ true → ((h : Knowing) → Finds G (suc n) y h)
      → ((h : Knowing) → h n ≡ x → h (suc n) ≡ y → known_by [] f h a ≡ z) → is_known z ≡ true → Finds (λ rest. F (used n (G (more (set n a) rest)))) n z g
  finds-two F G n a x y z g p known go is ok =
      let q : Finds G (suc n) y p.after = go p.after in
      let r : Finds (λ rest. more (set n a) rest) n z q.after = finds-set n a z q.after (is q.after (q.below n (omega arith) ∙ p.value) q.value) ok in
      record {
        after = r.after;
        value = r.value;
        below = λ i lt. r.below i lt ∙ q.below i (omega arith) ∙ p.below i lt;
        steps =
            steps-then F (λ rest. used n (G (more (set n a) rest))) g p.after r.after p.steps
            (steps-then (used n) (λ rest. G (more (set n a) rest)) p.after p.after r.after (steps-used n p.after (ap is_known p.value ∙ known))
            (steps-then G (λ rest. more (set n a) rest) p.after q.after r.after q.steps r.steps));
      }

  -- a way of a branch
  pub record Ends (ss : Plains) (n : Register) (x : Known) (g : Knowing) : Type 0 where
    pub after : Knowing
    pub value : after n ≡ x
    pub below : (r : Register) → r < n → after r ≡ g r
    pub ok : starts_known ss f g ≡ true
    pub behind : all_known_after [] ss f g ≡ after

  pub ends-of : (F : Plains → Plains) (n : Register) (x : Known) (g : Knowing) → Finds F n x g → Ends (F nothing) n x g
  ends-of F n x g p = record { after = p.after; value = p.value; below = p.below; ok = Steps.goes p.steps nothing; behind = Steps.later p.steps nothing }

  pub ends-none : (n : Register) (x : Known) (g : Knowing) → g n ≡ x → Ends nothing n x g
  ends-none n x g is = record { after = g; value = is; below = λ r lt. refl; ok = refl; behind = refl }

  -- a test, and the way that is taken
  pub finds-branch : (F : Plains → Plains) (n : Register) (x y z : Known) (ss ts : Plains) (g : Knowing) → Finds F n x g → is_known x ≡ true
      → ((h : Knowing) → h n ≡ truth_known (holds_truth x) → holds_truth x ≡ Some true → Ends ss n y h)
      → ((h : Knowing) → h n ≡ truth_known (holds_truth x) → holds_truth x ≡ Some false → Ends ts n z h) → (holds_truth x ≡ None → ⊥)
      → Finds (λ rest. F (more (set n (plain.truth n)) (more (branch n ss ts) rest))) n (chosen (holds_truth x) unknown y z) g
  finds-branch F n x y z ss ts g p known when_true when_false never_none = by (holds_truth x) refl
    where
      test : Finds (λ rest. F (more (set n (plain.truth n)) rest)) n (truth_known (holds_truth x)) g
      test = finds-one F n (plain.truth n) x (truth_known (holds_truth x)) g p (λ h is. ap (λ k. truth_known (holds_truth k)) is) (truth-known x known)

      holds : (o : Option Bool) → holds_truth x ≡ o → holds_truth (test.after n) ≡ o
      holds o e = ap holds_truth test.value ∙ truth-again (holds_truth x) ∙ e

      by : (o : Option Bool) → holds_truth x ≡ o → Finds (λ rest. F (more (set n (plain.truth n)) (more (branch n ss ts) rest))) n (chosen (holds_truth x) unknown y z) g
      by None e = absurd (never_none e)
      by (Some true) e =
          let w = when_true test.after test.value e in
          record {
            after = Ends.after w;
            value = Ends.value w ∙ sym (ap (λ o. chosen o unknown y z) e);
            below = λ r lt. Ends.below w r lt ∙ test.below r lt;
            steps =
                steps-then (λ rest. F (more (set n (plain.truth n)) rest)) (λ rest. more (branch n ss ts) rest) g test.after (Ends.after w) test.steps
                (steps-true n ss ts test.after (Ends.after w) (holds (Some true) e) (Ends.ok w) (Ends.behind w));
          }
      by (Some false) e =
          let w = when_false test.after test.value e in
          record {
            after = Ends.after w;
            value = Ends.value w ∙ sym (ap (λ o. chosen o unknown y z) e);
            below = λ r lt. Ends.below w r lt ∙ test.below r lt;
            steps =
                steps-then (λ rest. F (more (set n (plain.truth n)) rest)) (λ rest. more (branch n ss ts) rest) g test.after (Ends.after w) test.steps
                (steps-false n ss ts test.after (Ends.after w) (holds (Some false) e) (Ends.ok w) (Ends.behind w));
          }
