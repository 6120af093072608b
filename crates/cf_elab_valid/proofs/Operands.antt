-- Operators on operands that are no class objects: no operator function is asked for (5, 13.4).
use Rattle.std.proofs.Common.{◌≡◌, ℕ, Bool, true, false, ◌||◌, if◌then◌else◌, List, [], ◌∷◌, pos, Option, Some, None, refl, sym, ap, subst, ◌∙◌}
use Rattle.cf_base.specs.declared.kind.Kind.TheVariants as kind
use Rattle.cf_types.specs.declared.ty.Ty.TheVariants as ty
use Rattle.cf_syntax.specs.declared.operator.PrefixOp.{PrefixOp}
use Rattle.cf_syntax.specs.declared.operator.PrefixOp.TheVariants as prefix
use Rattle.cf_syntax.specs.declared.operator.StepOp.{StepOp}
use Rattle.cf_elab.specs.Answer.{Made, Elab, onward}
use Rattle.cf_elab.specs.ClassOperand.{scalar, scalar_of_class, is_object, any_object, among, operator_key, by_operator}
use Rattle.cf_elab.specs.ClassOperators as row
use Rattle.cf_elab.specs.ClassOperators.{prefix_number, step_number}
use Rattle.cf_elab.specs.Env.{Env}
use Rattle.cf_elab.specs.Made.{int}
use Rattle.cf_elab.specs.Operand.{Value, constant}
use Rattle.cf_elab.specs.Unary.{prefixed, increment, subscript}
use Rattle.cf_elab_valid.specs.Answers.{Fine}
use Rattle.cf_elab_valid.specs.Scene.{Scene, IsScene, Classless, Holds, Fits}
use Rattle.cf_elab_valid.proofs.Arithmetic.{IsOperand}
use Rattle.cf_elab_valid.proofs.Making.{IsType, of_kind-fine}
use Rattle.cf_elab_valid.proofs.Stepping.{increment-fine}
use Rattle.cf_elab_valid.proofs.Unary.{classless-number, prefixed-fine, subscript-fine}
use Rattle.cf_elab_valid.proofs.Ways.{fits-when, onward-fine, When}

pub no-object : (e : Env) → Classless e → (v : Value) → is_object e v ≡ false
no-object e c v = ap (λ (o : Option ℕ). elim o as (λ _. Bool) [ None ↦ false | Some k ↦ true ]) (classless-number e c v.type)

no-objects : (e : Env) → Classless e → (vs : List Value) → any_object e vs ≡ false
no-objects e c [] = refl
no-objects e c (v ∷ vs) = ap (λ b. b || any_object e vs) (no-object e c v) ∙ no-objects e c vs

-- what is done without an operator function
pub no-function : (at n : ℕ) (x : Value) (vs : List Value) (with_file : Bool) (otherwise : Elab Value) (e : Env) → Classless e → by_operator at n x vs with_file otherwise e ≡ otherwise e
no-function at n x vs with_file otherwise e c =
    ap (λ (b : Bool). let run : Elab Value = if b then among at (operator_key n) x vs with_file otherwise else otherwise in run e) (no-objects e c (x ∷ vs))

-- the operand itself
pub scalar-is : (rule at : ℕ) (v : Value) (e : Env) → Classless e → scalar rule at v e ≡ Made v e
scalar-is rule at v e c = ap (λ o. scalar_of_class rule at v o e) (classless-number e c v.type)

module _ (s : Scene) (scene : IsScene s) where
  pub by-scalar : (rule at : ℕ) (v : Value) (go : Value → Elab Value) (e : Env) → Classless e → Fine s (IsOperand s) e (go v e) → Fine s (IsOperand s) e (onward (scalar rule at v e) go)
  by-scalar rule at v go e c f = subst (λ r. Fine s (IsOperand s) e (onward r go)) (sym (scalar-is rule at v e c)) f

  pub prefix_operator-fine : (at : ℕ) (o : PrefixOp) (v : Value) (e : Env) → Classless e → When s e (Holds s e) → When s e (Fits s e v) → Fine s (IsOperand s) e (row.prefix_operator at o v e)
  prefix_operator-fine at o v e c h f =
      subst (Fine s (IsOperand s) e) (sym (no-function at (prefix_number o) v [] true (row.prefix_of_scalar at o v) e c)) (by o)
    where
      by : (o : PrefixOp) → Fine s (IsOperand s) e (row.prefix_of_scalar at o v e)
      by prefix.AddressOf = prefixed-fine s scene at prefix.AddressOf v e c h f
      by prefix.Dereference = by-scalar 18 at v (prefixed at prefix.Dereference) e c (prefixed-fine s scene at prefix.Dereference v e c h f)
      by prefix.Plus = by-scalar 18 at v (prefixed at prefix.Plus) e c (prefixed-fine s scene at prefix.Plus v e c h f)
      by prefix.Minus = by-scalar 18 at v (prefixed at prefix.Minus) e c (prefixed-fine s scene at prefix.Minus v e c h f)
      by prefix.Complement = by-scalar 18 at v (prefixed at prefix.Complement) e c (prefixed-fine s scene at prefix.Complement v e c h f)
      by prefix.Not = by-scalar 18 at v (prefixed at prefix.Not) e c (prefixed-fine s scene at prefix.Not v e c h f)

  step-done : (at : ℕ) (o : StepOp) (postfix : Bool) (v : Value) (vs : List Value) (e : Env) → Classless e → When s e (Holds s e) → When s e (Fits s e v)
      → Fine s (IsOperand s) e (by_operator at (step_number o) v vs true (increment at o postfix v) e)
  step-done at o postfix v vs e c h f = subst (Fine s (IsOperand s) e) (sym (no-function at (step_number o) v vs true (increment at o postfix v) e c)) (increment-fine s scene at o postfix v e c h f)

  pub step_operator-fine : (at : ℕ) (o : StepOp) (postfix : Bool) (v : Value) (e : Env) → Classless e → When s e (Holds s e) → When s e (Fits s e v) → Fine s (IsOperand s) e (row.step_operator at o postfix v e)
  step_operator-fine at o false v e c h f = step-done at o false v [] e c h f
  step_operator-fine at o true v e c h f =
      onward-fine s (IsType (ty.Int kind.Int)) (IsOperand s) e (int e) (λ t g. by_operator at (step_number o) v (constant at (pos 0) t ∷ []) true (increment at o true v) g) (of_kind-fine s kind.Int e c h)
      (λ t e1 g c1 h1 is. step-done at o true v (constant at (pos 0) t ∷ []) e1 c1 h1 (fits-when s e e1 v g f))

  pub index_operator-fine : (at : ℕ) (x y : Value) (e : Env) → Classless e → When s e (Holds s e) → When s e (Fits s e x) → When s e (Fits s e y) → Fine s (IsOperand s) e (row.index_operator at x y e)
  index_operator-fine at x y e c h f g =
      subst (Fine s (IsOperand s) e) (sym (no-function at 26 x (y ∷ []) false (row.index_scalars at x y) e c))
      (by-scalar 18 at x (λ a k. onward (scalar 18 at y k) (λ b. subscript at a b)) e c (by-scalar 18 at y (λ b. subscript at x b) e c (subscript-fine s scene at x y e c h f g)))
