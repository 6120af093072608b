-- What plain statements that pass tell: T of each action, that the registers are below B, how deep loops and switches stand in each other, and L of the
-- labels of each switch.
use Rattle.std.proofs.Common.{◌≡◌, ℕ, zero, suc, ◌≤◌, List, ◌++◌, true, refl, arith}
use Rattle.std.specs.Prelude.{ℤ}
use Rattle.cf_base.proofs.Tests.{all_of}
use Rattle.cf_plain.specs.Plain.{Action, Plain, Plains, act, set, branch, loop, switch, case_label, default_label, leave, continue, give, parts, nothing, more}
use Rattle.cf_plain.specs.Named.{actions, all_actions}
use Rattle.cf_lower.specs.Functions.{bound, all_bound, nesting, all_nesting}
use Rattle.cf_lower_program.specs.Labels.{labels, one_kind, labels_fit, all_labels_fit}
use Rattle.cf_sequence_lowered.proofs.Each.{Each, each-two}
use Rattle.cf_sequence_lowered.proofs.Walk.{Inner, Passes, AllPass}

-- what is so one level further inside
within : (d : ℕ) (P : ℕ → Type 0) (Q : Type 0) → Inner d P → ((c : ℕ) → suc c ≤ d → P c → Q) → Q
within zero P Q none go = absurd none
within (suc d) P Q ok go = go d (omega arith) ok

module _ (T : Action → Type 0) (L : List ℤ → Type 0) (B : ℕ) where
  mutual
    actions-pass : (s : Plain) (d : ℕ) → Passes T L B s d → Each T (actions s)
    actions-pass (act a) d ok = (ok, tt)
    actions-pass (set r a) d ok = (ok.1, tt)
    actions-pass (branch r ss ts) d ok = each-two T (all_actions ss) (all_actions ts) (all-actions-pass ss d ok.0) (all-actions-pass ts d ok.1)
    actions-pass (loop ss ts) d ok =
        within d (λ d. AllPass T L B ss d × AllPass T L B ts d) (Each T (all_actions ss ++ all_actions ts)) ok
        (λ c le p. each-two T (all_actions ss) (all_actions ts) (all-actions-pass ss c p.0) (all-actions-pass ts c p.1))
    actions-pass (switch r ss) d ok = within d (λ d. AllPass T L B ss d) (Each T (all_actions ss)) ok.1 (λ c le p. all-actions-pass ss c p)
    actions-pass (parts ps) d ok = absurd ok
    actions-pass (case_label z) d ok = tt
    actions-pass default_label d ok = tt
    actions-pass leave d ok = tt
    actions-pass continue d ok = tt
    actions-pass (give r) d ok = tt

    pub all-actions-pass : (ss : Plains) (d : ℕ) → AllPass T L B ss d → Each T (all_actions ss)
    all-actions-pass nothing d ok = tt
    all-actions-pass (more s ss) d ok = each-two T (actions s) (all_actions ss) (actions-pass s d ok.0) (all-actions-pass ss d ok.1)

  mutual
    bound-within : (s : Plain) (d : ℕ) → Passes T L B s d → bound s ≤ B
    bound-within (act a) d ok = omega arith
    bound-within (set r a) d ok = let lt = ok.0 in omega arith
    bound-within (branch r ss ts) d ok = let a = bounds-within ss d ok.0 in let b = bounds-within ts d ok.1 in omega arith
    bound-within (loop ss ts) d ok =
        within d (λ d. AllPass T L B ss d × AllPass T L B ts d) (bound (loop ss ts) ≤ B) ok
        (λ c le p. let a = bounds-within ss c p.0 in let b = bounds-within ts c p.1 in omega arith)
    bound-within (switch r ss) d ok = within d (λ d. AllPass T L B ss d) (all_bound ss ≤ B) ok.1 (λ c le p. bounds-within ss c p)
    bound-within (parts ps) d ok = absurd ok
    bound-within (case_label z) d ok = omega arith
    bound-within default_label d ok = omega arith
    bound-within leave d ok = omega arith
    bound-within continue d ok = omega arith
    bound-within (give r) d ok = omega arith

    pub bounds-within : (ss : Plains) (d : ℕ) → AllPass T L B ss d → all_bound ss ≤ B
    bounds-within nothing d ok = omega arith
    bounds-within (more s ss) d ok = let a = bound-within s d ok.0 in let b = bounds-within ss d ok.1 in omega arith

  mutual
    nesting-within : (s : Plain) (d : ℕ) → Passes T L B s d → nesting s ≤ d
    nesting-within (act a) d ok = omega arith
    nesting-within (set r a) d ok = omega arith
    nesting-within (branch r ss ts) d ok = let a = nestings-within ss d ok.0 in let b = nestings-within ts d ok.1 in omega arith
    nesting-within (loop ss nothing) d ok = within d (λ d. AllPass T L B ss d × AllPass T L B nothing d) (all_nesting ss ≤ d) ok (λ c le p. let a = nestings-within ss c p.0 in omega arith)
    nesting-within (loop ss (more t ts)) d ok =
        within d (λ d. AllPass T L B ss d × AllPass T L B (more t ts) d) (nesting (loop ss (more t ts)) ≤ d) ok
        (λ c le p. let a = nestings-within ss c p.0 in let b = nestings-within (more t ts) c p.1 in omega arith)
    nesting-within (switch r ss) d ok = within d (λ d. AllPass T L B ss d) (suc (all_nesting ss) ≤ d) ok.1 (λ c le p. let a = nestings-within ss c p in omega arith)
    nesting-within (parts ps) d ok = absurd ok
    nesting-within (case_label z) d ok = omega arith
    nesting-within default_label d ok = omega arith
    nesting-within leave d ok = omega arith
    nesting-within continue d ok = omega arith
    nesting-within (give r) d ok = omega arith

    pub nestings-within : (ss : Plains) (d : ℕ) → AllPass T L B ss d → all_nesting ss ≤ d
    nestings-within nothing d ok = omega arith
    nestings-within (more s ss) d ok = let a = nesting-within s d ok.0 in let b = nestings-within ss d ok.1 in omega arith

module _ (T : Action → Type 0) (B : ℕ) where
  abbrev Kind : List ℤ → Type 0
  Kind zs = one_kind zs ≡ true

  mutual
    labels-one : (s : Plain) (d : ℕ) → Passes T Kind B s d → labels_fit s ≡ true
    labels-one (act a) d ok = refl
    labels-one (set r a) d ok = refl
    labels-one (branch r ss ts) d ok = all_of (all_labels_fit ss) (all_labels_fit ts) (all-labels-one ss d ok.0) (all-labels-one ts d ok.1)
    labels-one (loop ss ts) d ok =
        within d (λ d. AllPass T Kind B ss d × AllPass T Kind B ts d) (labels_fit (loop ss ts) ≡ true) ok
        (λ c le p. all_of (all_labels_fit ss) (all_labels_fit ts) (all-labels-one ss c p.0) (all-labels-one ts c p.1))
    labels-one (switch r ss) d ok =
        within d (λ d. AllPass T Kind B ss d) (labels_fit (switch r ss) ≡ true) ok.1 (λ c le p. all_of (one_kind (labels ss)) (all_labels_fit ss) ok.0 (all-labels-one ss c p))
    labels-one (parts ps) d ok = absurd ok
    labels-one (case_label z) d ok = refl
    labels-one default_label d ok = refl
    labels-one leave d ok = refl
    labels-one continue d ok = refl
    labels-one (give r) d ok = refl

    pub all-labels-one : (ss : Plains) (d : ℕ) → AllPass T Kind B ss d → all_labels_fit ss ≡ true
    all-labels-one nothing d ok = refl
    all-labels-one (more s ss) d ok = all_of (labels_fit s) (all_labels_fit ss) (labels-one s d ok.0) (all-labels-one ss d ok.1)
