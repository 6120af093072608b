-- The checks of labels: what is known of them behind each (6.4.2).
use Rattle.std.proofs.Common.{◌≡◌, ℕ, Bool, true, false, not, ◌&&◌, ◌||◌, List, [], ◌∷◌, is_some, refl}
use Rattle.std.specs.List.{list_any}
use Rattle.cf_base.specs.declared.kind.Kind.{Kind}
use Rattle.cf_elab.specs.Answer.{Answer, Elab, onward, need, done}
use Rattle.cf_elab.specs.Env.{Env}
use Rattle.cf_elab.specs.Statement.{Made, Label, no_label, case_label, default_label, labels_constant, labels_differ, labels_pass_none, same_label, is_label}
use Rattle.cf_elab_valid.specs.Answers.{Fine}
use Rattle.cf_elab_valid.specs.Scene.{Scene}

-- the value of a label is a constant
abbrev pub IsConstant : Label → Type 0
IsConstant no_label = Unit {0}
IsConstant (case_label v) = is_some v.number ≡ true
IsConstant default_label = Unit {0}

abbrev pub AllConstant : List Made → Type 0
AllConstant [] = Unit {0}
AllConstant (x ∷ xs) = IsConstant x.label × AllConstant xs

-- none is one of those before
abbrev pub Differ : Kind → List Label → List Made → Type 0
Differ k before [] = Unit {0}
Differ k before (x ∷ xs) = (list_any (same_label k x.label) before ≡ false) × Differ k (x.label ∷ before) xs

-- none stands behind what initialises a local
abbrev pub PassNone : Bool → List Made → Type 0
PassNone passed [] = Unit {0}
PassNone passed (x ∷ xs) = ((passed && is_label x.label) ≡ false) × PassNone (passed || x.initialises) xs

module _ {B : Type 0} (s : Scene) (Q : B → Env → Type 0) (e : Env) (go : Env → Answer B) where
  abbrev constant_label : ℕ → Label → Elab (Unit {0})
  constant_label at no_label = done
  constant_label at default_label = done
  constant_label at (case_label v) = need (is_some v.number) 19 at

  pub constant-then : (ms : List Made) → (AllConstant ms → Fine s Q e (go e)) → Fine s Q e (onward (labels_constant ms e) (λ _. go))
  constant-then [] next = next tt
  constant-then (x ∷ xs) next = by x.label (λ k. constant-then xs (λ ks. next (k, ks)))
    where
      by : (l : Label) → (IsConstant l → Fine s Q e (onward (labels_constant xs e) (λ _. go))) → Fine s Q e (onward (onward (constant_label x.at l e) (λ _. labels_constant xs)) (λ _. go))
      by no_label rest = rest tt
      by default_label rest = rest tt
      by (case_label v) rest = asked (is_some v.number) (λ is. rest is)
        where
          asked : (b : Bool) → (b ≡ true → Fine s Q e (onward (labels_constant xs e) (λ _. go))) → Fine s Q e (onward (onward (need b 19 x.at e) (λ _. labels_constant xs)) (λ _. go))
          asked false rest = tt
          asked true rest = rest refl

  pub differ-then : (k : Kind) (before : List Label) (ms : List Made) → (Differ k before ms → Fine s Q e (go e)) → Fine s Q e (onward (labels_differ k before ms e) (λ _. go))
  differ-then k before [] next = next tt
  differ-then k before (x ∷ xs) next = by (list_any (same_label k x.label) before) (λ is. differ-then k (x.label ∷ before) xs (λ d. next (is, d)))
    where
      by : (b : Bool) → (b ≡ false → Fine s Q e (onward (labels_differ k (x.label ∷ before) xs e) (λ _. go))) → Fine s Q e (onward (onward (need (not b) 20 x.at e) (λ _. labels_differ k (x.label ∷ before) xs)) (λ _. go))
      by true rest = tt
      by false rest = rest refl

  pub passing-then : (passed : Bool) (ms : List Made) → (PassNone passed ms → Fine s Q e (go e)) → Fine s Q e (onward (labels_pass_none passed ms e) (λ _. go))
  passing-then passed [] next = next tt
  passing-then passed (x ∷ xs) next = by (passed && is_label x.label) (λ is. passing-then (passed || x.initialises) xs (λ p. next (is, p)))
    where
      by : (b : Bool) → (b ≡ false → Fine s Q e (onward (labels_pass_none (passed || x.initialises) xs e) (λ _. go)))
          → Fine s Q e (onward (onward (need (not b) 23 x.at e) (λ _. labels_pass_none (passed || x.initialises) xs)) (λ _. go))
      by true rest = tt
      by false rest = rest refl
