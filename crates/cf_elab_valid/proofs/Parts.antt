-- Parts of an expression and what is made of them (5).
use Rattle.cf_elab.specs.Answer.{Made, Elab, onward}
use Rattle.cf_elab.specs.Env.{Env}
use Rattle.cf_elab.specs.Expression.{with_one, with_two}
use Rattle.cf_elab.specs.Operand.{Value, Operand, value, functions, methods, field_name, bound_method, Part, value_of, evaluated, both}
use Rattle.cf_elab_valid.specs.Answers.{Fine, FineOperand, IsPart}
use Rattle.cf_elab_valid.specs.Scene.{Scene, IsScene, Steps, Classless, Holds, Fits, OperandFits}
use Rattle.cf_elab_valid.proofs.Arithmetic.{IsOperand}
use Rattle.cf_elab_valid.proofs.Names.{operand-onward, one-fine, value_of-fine}
use Rattle.cf_elab_valid.proofs.Ways.{fits-later, fits-when, made-fine, onward-fine, within-before, When}

pub operand-later : (s : Scene) (a b : Env) (o : Operand) → Steps a b → OperandFits s o a → OperandFits s o b
operand-later s a b (value v) g f = fits-later s a b v g f
operand-later s a b (functions at fs) g f = f
operand-later s a b (methods m) g f = f
operand-later s a b (field_name x y z m) g f = f
operand-later s a b (bound_method x y z) g f = f

pub operand-when : (s : Scene) (a b : Env) (o : Operand) → Steps a b → When s a (OperandFits s o a) → When s b (OperandFits s o b)
operand-when s a b o g f = λ w. operand-later s a b o g (f (within-before a b s g w))

-- two values
abbrev pub BothFit : Scene → Value × Value → Env → Type 0
BothFit s xy e = Fits s e xy.0 × Fits s e xy.1

module _ (s : Scene) (scene : IsScene s) where
  pub evaluated-fine : (p : Part) (e : Env) → IsPart s p → Classless e → When s e (Holds s e) → Fine s (IsOperand s) e (evaluated p e)
  evaluated-fine p e part c h = operand-onward s (IsOperand s) e (p.run e) value_of (part.run e c h) (λ o e1 shown g c1 h1 f. value_of-fine s scene o e1 shown c1 h1 f)

  pub both-fine : (a b : Part) (e : Env) → IsPart s a → IsPart s b → Classless e → When s e (Holds s e) → Fine s (BothFit s) e (both a b e)
  both-fine a b e pa pb c h =
      operand-onward s (BothFit s) e (a.run e) _ (pa.run e c h)
      (λ o e1 so g1 c1 h1 fo. operand-onward s (BothFit s) e1 (b.run e1) _ (pb.run e1 c1 h1)
      (λ p e2 sp g2 c2 h2 fp. onward-fine s (IsOperand s) (BothFit s) e2 (value_of o e2) _ (value_of-fine s scene o e2 so c2 h2 (operand-when s e1 e2 o g2 fo))
      (λ x e3 g3 c3 h3 fx. onward-fine s (IsOperand s) (BothFit s) e3 (value_of p e3) (λ y f. Made (x, y) f) (value_of-fine s scene p e3 sp c3 h3 (operand-when s e2 e3 p g3 fp))
      (λ y e4 g4 c4 h4 fy. made-fine s (BothFit s) e4 (x, y) c4 h4 (λ w. (fits-when s e3 e4 x g4 fx w, fy w))))))

  -- a construct on one part, and on two
  pub with_one-fine : (a : Part) (go : Value → Elab Value) (e : Env) → IsPart s a → ((x : Value) (e1 : Env) → Classless e1 → When s e1 (Holds s e1) → When s e1 (Fits s e1 x) → Fine s (IsOperand s) e1 (go x e1))
      → Classless e → When s e (Holds s e) → FineOperand s e (with_one a go e)
  with_one-fine a go e part next c h =
      one-fine s e (λ f. onward (evaluated a f) go)
      (onward-fine s (IsOperand s) (IsOperand s) e (evaluated a e) go (evaluated-fine a e part c h) (λ x e1 g c1 h1 f. next x e1 c1 h1 f))

  pub with_two-fine : (a b : Part) (go : Value → Value → Elab Value) (e : Env) → IsPart s a → IsPart s b
      → ((x y : Value) (e1 : Env) → Classless e1 → When s e1 (Holds s e1) → When s e1 (Fits s e1 x) → When s e1 (Fits s e1 y) → Fine s (IsOperand s) e1 (go x y e1)) → Classless e → When s e (Holds s e)
      → FineOperand s e (with_two a b go e)
  with_two-fine a b go e pa pb next c h =
      one-fine s e (λ f. onward (both a b f) (λ xy. go xy.0 xy.1))
      (onward-fine s (BothFit s) (IsOperand s) e (both a b e) (λ xy. go xy.0 xy.1) (both-fine a b e pa pb c h) (λ xy e1 g c1 h1 f. next xy.0 xy.1 e1 c1 h1 (λ w. (f w).0) (λ w. (f w).1)))
