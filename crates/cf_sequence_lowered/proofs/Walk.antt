-- What holds of each action of plain statements, of the registers that they set, of the labels of their switches, and of how deep loops and switches
-- stand in each other; and code that keeps it, before whatever stands behind it.
use Rattle.std.proofs.Common.{◌≡◌, ℕ, zero, suc, ◌<◌, ◌≤◌, List, Bool, true, false, if◌then◌else◌, refl, ap, ◌∙◌, subst, sym, arith}
use Rattle.std.specs.Prelude.{ℤ, Option}
use Rattle.cf_core.specs.Core.{Core}
use Rattle.cf_plain.specs.Plain.{Register, Action, Plain, Plains, act, set, branch, loop, switch, case_label, default_label, leave, continue, give, parts, nothing, more}
use Rattle.cf_plain.specs.Plain as plain
use Rattle.cf_sequence.specs.Expressions.{builds, settled, used}
use Rattle.cf_lower_program.specs.Labels.{labels}

-- one level further inside
abbrev pub Inner : ℕ → (ℕ → Type 0) → Type 0
Inner zero P = ⊥
Inner (suc d) P = P d

pub inner : (d l : ℕ) (P : ℕ → Type 0) → suc l ≤ d → ((d : ℕ) → l ≤ d → P d) → Inner d P
inner zero l P le go = absurd (omega arith)
inner (suc d) l P le go = go d (omega arith)

-- T of each action, L of the labels of each switch; registers below B
module _ (T : Action → Type 0) (L : List ℤ → Type 0) (B : ℕ) where
  abbrev mutual
    pub Passes : Plain → ℕ → Type 0
    Passes (act a) d = T a
    Passes (set r a) d = (r < B) × T a
    Passes (branch r ss ts) d = AllPass ss d × AllPass ts d
    Passes (loop ss ts) d = Inner d (λ d. AllPass ss d × AllPass ts d)
    Passes (switch r ss) d = L (labels ss) × Inner d (λ d. AllPass ss d)
    Passes (parts ps) d = ⊥
    Passes s d = Unit {0}

    pub AllPass : Plains → ℕ → Type 0
    AllPass nothing d = Unit {0}
    AllPass (more s ss) d = Passes s d × AllPass ss d

  -- what stands behind it still passes, and the labels are those that stand behind it
  pub record Fine (d : ℕ) (code : Plains → Plains) : Type 0 where
    pub pass : (rest : Plains) → AllPass rest d → AllPass (code rest) d
    pub labelled : (rest : Plains) → labels (code rest) ≡ labels rest

  module _ (d : ℕ) where
    pub fine-none : Fine d (λ rest. rest)
    fine-none = record { pass = λ rest ok. ok; labelled = λ rest. refl }

    pub fine-then : (F G : Plains → Plains) → Fine d F → Fine d G → Fine d (λ rest. F (G rest))
    fine-then F G p q = record { pass = λ rest ok. p.pass (G rest) (q.pass rest ok); labelled = λ rest. p.labelled (G rest) ∙ q.labelled rest }

    -- code that is the same
    pub fine-by : (F G : Plains → Plains) → ((rest : Plains) → F rest ≡ G rest) → Fine d G → Fine d F
    fine-by F G same p = record {
      pass = λ rest ok. subst (λ ss. AllPass ss d) (sym (same rest)) (p.pass rest ok);
      labelled = λ rest. ap labels (same rest) ∙ p.labelled rest;
    }

    pub fine-set : (n : Register) (a : Action) → n < B → T a → Fine d (λ rest. more (set n a) rest)
    fine-set n a lt t = record { pass = λ rest ok. ((lt, t), ok); labelled = λ rest. refl }

    pub fine-act : (a : Action) → T a → Fine d (λ rest. more (act a) rest)
    fine-act a t = record { pass = λ rest ok. (t, ok); labelled = λ rest. refl }

    pub fine-branch : (n : Register) (ss ts : Plains) → AllPass ss d → AllPass ts d → Fine d (λ rest. more (branch n ss ts) rest)
    fine-branch n ss ts p q = record { pass = λ rest ok. ((p, q), ok); labelled = λ rest. refl }

    pub fine-loop : (ss ts : Plains) → Inner d (λ d. AllPass ss d × AllPass ts d) → Fine d (λ rest. more (loop ss ts) rest)
    fine-loop ss ts p = record { pass = λ rest ok. (p, ok); labelled = λ rest. refl }

    pub fine-switch : (n : Register) (ss : Plains) → L (labels ss) → Inner d (λ d. AllPass ss d) → Fine d (λ rest. more (switch n ss) rest)
    fine-switch n ss l p = record { pass = λ rest ok. ((l, p), ok); labelled = λ rest. refl }

    pub fine-leave : Fine d (λ rest. more leave rest)
    fine-leave = record { pass = λ rest ok. (tt, ok); labelled = λ rest. refl }

    pub fine-continue : Fine d (λ rest. more continue rest)
    fine-continue = record { pass = λ rest ok. (tt, ok); labelled = λ rest. refl }

    pub fine-give : (r : Option Register) → Fine d (λ rest. more (give r) rest)
    fine-give r = record { pass = λ rest ok. (tt, ok); labelled = λ rest. refl }

    pub fine-settled : (e : Core) (p n : Register) → T (plain.first p n) → Fine d (settled e p n)
    fine-settled e p n t = by-test (builds e)
      where
        by-test : (b : Bool) → Fine d (λ rest. if b then rest else more (act (plain.first p n)) rest)
        by-test true = fine-none
        by-test false = fine-act (plain.first p n) t

    -- a value, and then one action more
    pub fine-one : (F : Plains → Plains) (n : Register) (a : Action) → Fine d F → n < B → T a → Fine d (λ rest. F (more (set n a) rest))
    fine-one F n a p lt t = fine-then F (λ rest. more (set n a) rest) p (fine-set n a lt t)

    -- two operands, and then more
    pub fine-operands : (F G last : Plains → Plains) (n : Register) → T (plain.truth n) → Fine d F → Fine d G → Fine d last → Fine d (λ rest. F (used n (G (last rest))))
    fine-operands F G last n t p q r =
        fine-then F (λ rest. used n (G (last rest))) p
        (fine-then (used n) (λ rest. G (last rest)) (fine-act (plain.truth n) t) (fine-then G last q r))
