-- Parts of an expression and what is made of them (5).
use Rattle.std.proofs.Common.{◌≡◌, ℕ, List, [], ◌∷◌, map, subst}
use Rattle.cf_elab.specs.Answer.{Answer, Made, Refused, Passed, Elab, onward, all, each}
use Rattle.cf_elab.specs.Choice.{conditional, sequence}
use Rattle.cf_elab.specs.Env.{Env}
use Rattle.cf_elab.specs.Expression as row
use Rattle.cf_elab.specs.Expression.{with_one, with_two, values}
use Rattle.cf_elab.specs.Members.{class_number}
use Rattle.cf_elab.specs.Operand.{Value, Operand, Part, value_of, evaluated, both, sort_of}
use Rattle.cf_elab_valid.specs.Answers.{Fine, FineAs, FineOperand, IsPart}
use Rattle.cf_elab_valid.specs.Scene.{Scene, IsScene, Steps, Inside, Classless, Holds, OperandFits, IsShown}
use Rattle.cf_elab_valid.proofs.Arithmetic.{IsOperand}
use Rattle.cf_elab_valid.proofs.Parts.{operand-later, operand-when, evaluated-fine}
use Rattle.cf_elab_valid.proofs.Ways.{as-made, as-onward, as-then, inside-later, made-fine, onward-fine, steps-through, within-before, When}
use Rattle.cf_elab_apart.specs.Apart.{Apart, OperandApart}
use Rattle.cf_elab_apart.proofs.Answers.{Tells, tells-behind, fine-both, fine-tells, as-both}
use Rattle.cf_elab_apart.proofs.Bare.{call_operand-bare, sequence-bare, bare-tells}
use Rattle.cf_elab_apart.proofs.Casts.{from_type-tells}
use Rattle.cf_elab_apart.proofs.Choice.{conditional-tells}
use Rattle.cf_elab_apart.proofs.Fit.{Both, both-when}
use Rattle.cf_elab_apart.proofs.Names.{one-tells, operand-behind, value_of-both}

-- a part that is apart wherever it is elaborated
pub record ApartPart (s : Scene) (p : Part) : Type 0 where
  pub part : IsPart s p
  pub tells : (e : Env) → Classless e → When s e (Holds s e) → Tells s (OperandApart s) (p.run e)

abbrev pub ApartParts : Scene → List Part → Type 0
ApartParts s [] = Unit {0}
ApartParts s (p ∷ ps) = ApartPart s p × ApartParts s ps

-- ---- several operands

abbrev AllShown : List Operand → Type 0
AllShown [] = Unit {0}
AllShown (o ∷ os) = IsShown o × AllShown os

-- operands that fit and are apart
abbrev AllSound : Scene → List Operand → Env → Type 0
AllSound s [] e = Unit {0}
AllSound s (o ∷ os) e = OperandFits s o e × OperandApart s o × AllSound s os e

abbrev pub ListBoth : Scene → List Value → Env → Type 0
ListBoth s [] e = Unit {0}
ListBoth s (v ∷ vs) e = Both s v e × ListBoth s vs e

sound-later : (s : Scene) (os : List Operand) (a b : Env) → Steps a b → AllSound s os a → AllSound s os b
sound-later s [] a b g k = tt
sound-later s (o ∷ os) a b g k = (operand-later s a b o g k.0, k.1, sound-later s os a b g k.2)

-- two values together
abbrev paired : Value → Value → Env → Answer (Value × Value)
paired x y e = Made (x, y) e

module _ (s : Scene) (scene : IsScene s) where
  -- ---- one part, and two

  pub evaluated-tells : (p : Part) (e : Env) → ApartPart s p → Classless e → When s e (Holds s e) → Tells s (Apart s) (evaluated p e)
  evaluated-tells p e k c h =
      operand-behind s (Apart s) e (p.run e) value_of (k.part.run e c h) (k.tells e c h)
      (λ o e1 shown g c1 h1 f a. by e1 (value_of o e1) (value_of-both s scene o e1 shown c1 h1 f a))
    where
      by : (f : Env) (r : Answer Value) → Fine s (Both s) f r → Tells s (Apart s) r
      by f (Made x g) k = λ w. (k.made w).1
      by f (Refused rule at) k = tt
      by f (Passed bound most) k = tt

  pub evaluated-both : (p : Part) (e : Env) → ApartPart s p → Classless e → When s e (Holds s e) → Fine s (Both s) e (evaluated p e)
  evaluated-both p e k c h =
      fine-both s (IsOperand s) (λ x g. Apart s x) e (evaluated p e) (evaluated-fine s scene p e k.part c h)
      (fine-tells s (IsOperand s) (Apart s) e (evaluated p e) (evaluated-fine s scene p e k.part c h) (evaluated-tells p e k c h))

  pub with_one-tells : (p : Part) (go : Value → Elab Value) (e : Env) → ApartPart s p → ((x : Value) (e1 : Env) → Classless e1 → When s e1 (Holds s e1) → When s e1 (Both s x e1) → Tells s (Apart s) (go x e1)) → Classless e → When s e (Holds s e)
      → Tells s (OperandApart s) (with_one p go e)
  with_one-tells p go e k next c h =
      one-tells s (λ f. onward (evaluated p f) go) e (tells-behind s (Both s) (Apart s) e (evaluated p e) go (evaluated-both p e k c h) (λ x e1 g c1 h1 b. next x e1 c1 h1 b))

  pub with_two-tells : (p q : Part) (go : Value → Value → Elab Value) (e : Env) → ApartPart s p → ApartPart s q
      → ((x y : Value) (e1 : Env) → Classless e1 → When s e1 (Holds s e1) → When s e1 (Both s x e1) → When s e1 (Both s y e1) → Tells s (Apart s) (go x y e1)) → Classless e → When s e (Holds s e) → Tells s (OperandApart s) (with_two p q go e)
  with_two-tells p q go e kp kq next c h = one-tells s (λ f. onward (both p q f) (λ xy. go xy.0 xy.1)) e (by (p.run e) (kp.part.run e c h) (kp.tells e c h))
    where
      last : (o r : Operand) (e : Env) → IsShown o → IsShown r → Classless e → When s e (Holds s e) → When s e (OperandFits s o e) → When s e (OperandApart s o) → When s e (OperandFits s r e) → When s e (OperandApart s r)
          → Tells s (Apart s) (onward (onward (value_of o e) (λ x f. onward (value_of r f) (paired x))) (λ xy. go xy.0 xy.1))
      last o r e so sr c h fo ao fr ar = first (value_of o e) (value_of-both s scene o e so c h fo ao)
        where
          second : (x : Value) (e1 : Env) (a : Answer Value) → When s e1 (Both s x e1) → Fine s (Both s) e1 a → Tells s (Apart s) (onward (onward a (paired x)) (λ xy. go xy.0 xy.1))
          second x e1 (Made y e2) bx k = next x y e2 k.classless k.holds (both-when s e1 e2 x k.steps bx) k.made
          second x e1 (Refused rule at) bx k = tt
          second x e1 (Passed bound most) bx k = tt

          first : (a : Answer Value) → Fine s (Both s) e a → Tells s (Apart s) (onward (onward a (λ x f. onward (value_of r f) (paired x))) (λ xy. go xy.0 xy.1))
          first (Made x e1) k = second x e1 (value_of r e1) k.made (value_of-both s scene r e1 sr k.classless k.holds (operand-when s e e1 r k.steps fr) (λ w. ar (within-before e e1 s k.steps w)))
          first (Refused rule at) k = tt
          first (Passed bound most) k = tt

      behind : (o : Operand) (e1 : Env) (r : Answer Operand) → IsShown o → When s e1 (OperandFits s o e1) → When s e1 (OperandApart s o) → FineOperand s e1 r → Tells s (OperandApart s) r
          → Tells s (Apart s) (onward (onward r (λ t f. onward (value_of o f) (λ x g. onward (value_of t g) (paired x)))) (λ xy. go xy.0 xy.1))
      behind o e1 (Made t e2) so fo ao k a =
          last o t e2 so k.1 k.0.classless k.0.holds (operand-when s e1 e2 o k.0.steps fo) (λ w. ao (within-before e1 e2 s k.0.steps w)) k.0.made a
      behind o e1 (Refused rule at) so fo ao k a = tt
      behind o e1 (Passed bound most) so fo ao k a = tt

      by : (r : Answer Operand) → FineOperand s e r → Tells s (OperandApart s) r
          → Tells s (Apart s) (onward (onward r (λ o f. onward (q.run f) (λ t g. onward (value_of o g) (λ x k. onward (value_of t k) (paired x))))) (λ xy. go xy.0 xy.1))
      by (Made o e1) k a = behind o e1 (q.run e1) k.1 k.0.made a (kq.part.run e1 k.0.classless k.0.holds) (kq.tells e1 k.0.classless k.0.holds)
      by (Refused rule at) k a = tt
      by (Passed bound most) k a = tt

  -- ---- several parts

  all-sound : (ps : List Part) (e : Env) → ApartParts s ps → Classless e → When s e (Holds s e) → FineAs s AllShown (AllSound s) e (all (map (λ (p : Part). p.run) ps) e)
  all-sound [] e k c h = as-made s AllShown (AllSound s) e [] tt c h (λ w. tt)
  all-sound (p ∷ ps) e k c h =
      as-onward s IsShown (λ o f. OperandFits s o f × OperandApart s o) AllShown (AllSound s) e (p.run e) _
      (as-both s IsShown (OperandFits s) (λ o f. OperandApart s o) e (p.run e) (k.0.part.run e c h) (alone (p.run e) (k.0.part.run e c h) (k.0.tells e c h)))
      (λ o e1 shown g1 c1 h1 a. as-onward s AllShown (AllSound s) AllShown (AllSound s) e1 (all (map (λ (q : Part). q.run) ps) e1) (λ os f. Made (o ∷ os) f) (all-sound ps e1 k.1 c1 h1)
      (λ os e2 many g2 c2 h2 b. as-made s AllShown (AllSound s) e2 (o ∷ os) (shown, many) c2 h2 (λ w. let early = a (within-before e1 e2 s g2 w) in (operand-later s e1 e2 o g2 early.0, early.1, b w))))
    where
      alone : (r : Answer Operand) → FineOperand s e r → Tells s (OperandApart s) r → Fine s (λ o f. OperandApart s o) e r
      alone (Made o f) g a = record { steps = g.0.steps; classless = g.0.classless; holds = g.0.holds; made = a }
      alone (Refused rule at) g a = tt
      alone (Passed bound most) g a = tt

  each-both : (os : List Operand) (e : Env) → AllShown os → Classless e → When s e (Holds s e) → When s e (AllSound s os e) → Fine s (ListBoth s) e (each value_of os e)
  each-both [] e shown c h k = made-fine s (ListBoth s) e [] c h (λ w. tt)
  each-both (o ∷ os) e shown c h k =
      onward-fine s (Both s) (ListBoth s) e (value_of o e) (λ v f. onward (each value_of os f) (λ vs g. Made (v ∷ vs) g)) (value_of-both s scene o e shown.0 c h (λ w. (k w).0) (λ w. (k w).1))
      (λ v e1 g c1 h1 b. onward-fine s (ListBoth s) (ListBoth s) e1 (each value_of os e1) (λ vs f. Made (v ∷ vs) f) (each-both os e1 shown.1 c1 h1 (λ w. sound-later s os e e1 g (k (within-before e e1 s g w)).2))
      (λ vs e2 g2 c2 h2 bs. made-fine s (ListBoth s) e2 (v ∷ vs) c2 h2 (λ w. (both-when s e1 e2 v g2 b w, bs w))))

  pub values-both : (ps : List Part) (e : Env) → ApartParts s ps → Classless e → When s e (Holds s e) → Fine s (ListBoth s) e (values ps e)
  values-both ps e k c h =
      as-then s AllShown (AllSound s) (ListBoth s) e (all (map (λ (p : Part). p.run) ps) e) (each value_of) (all-sound ps e k c h) (λ os e1 shown g c1 h1 a. each-both os e1 shown c1 h1 a)

  -- ---- calls, types with arguments, and commas

  pub call-tells : (at : ℕ) (p : Part) (args : List Part) (e : Env) → ApartPart s p → ApartParts s args → Classless e → When s e (Holds s e) → Tells s (OperandApart s) (row.call at p args e)
  call-tells at p args e k ks c h =
      operand-behind s (OperandApart s) e (p.run e) _ (k.part.run e c h) (k.tells e c h)
      (λ o e1 shown g1 c1 h1 f a. tells-behind s (ListBoth s) (OperandApart s) e1 (values args e1) _ (values-both args e1 ks c1 h1)
      (λ vs e2 g2 c2 h2 b. one-tells s (row.call_operand (row.call_place at p.last_name) o vs) e2 (bare-tells s _ (call_operand-bare (row.call_place at p.last_name) o vs e2 shown c2))))

  pub built-tells : (at : ℕ) (type : Elab ℕ) (args : List Part) (e : Env) → Fine s (λ t f. Inside f t) e (type e) → ApartParts s args → Tells s (OperandApart s) (row.built at type args e)
  built-tells at type args e ft ks =
      tells-behind s (λ t f. Inside f t) (OperandApart s) e (type e) _ ft
      (λ t e1 g1 c1 h1 i. tells-behind s (ListBoth s) (OperandApart s) e1 (values args e1) _ (values-both args e1 ks c1 h1)
      (λ vs e2 g2 c2 h2 b. one-tells s (λ env. row.from_type at t vs (class_number (sort_of env.types t)) env) e2
      (from_type-tells s scene at t vs e2 c2 h2 (λ w. inside-later e1 e2 t g2 (i (within-before e1 e2 s g2 w))) (λ x is w. (subst (λ l. ListBoth s l e2) is (b w)).0))))

  pub comma-tells : (at : ℕ) (ps : List Part) (e : Env) → ApartParts s ps → Classless e → When s e (Holds s e) → Tells s (OperandApart s) (row.one (λ f. onward (values ps f) (sequence at)) e)
  comma-tells at ps e ks c h =
      one-tells s (λ f. onward (values ps f) (sequence at)) e
      (tells-behind s (ListBoth s) (Apart s) e (values ps e) (sequence at) (values-both ps e ks c h) (λ vs e1 g c1 h1 b. bare-tells s _ (sequence-bare at vs e1)))

  -- ---- conditions

  pub conditional_row-tells : (at : ℕ) (p q r : Part) (e : Env) → ApartPart s p → ApartPart s q → ApartPart s r → Classless e → When s e (Holds s e) → Tells s (OperandApart s) (row.conditional_row at p q r e)
  conditional_row-tells at p q r e kp kq kr c h =
      operand-behind s (OperandApart s) e (p.run e) _ (kp.part.run e c h) (kp.tells e c h)
      (λ o e1 so g1 c1 h1 fo ao. operand-behind s (OperandApart s) e1 (q.run e1) _ (kq.part.run e1 c1 h1) (kq.tells e1 c1 h1)
      (λ t e2 st g2 c2 h2 ft a2. operand-behind s (OperandApart s) e2 (r.run e2) _ (kr.part.run e2 c2 h2) (kr.tells e2 c2 h2)
      (λ u e3 su g3 c3 h3 fu au. chosen o t u e3 so st su c3 h3 (operand-when s e1 e3 o (steps-through e1 e2 e3 g2 g3) fo) (λ w. ao (within-before e1 e3 s (steps-through e1 e2 e3 g2 g3) w))
      (operand-when s e2 e3 t g3 ft) (λ w. a2 (within-before e2 e3 s g3 w)) fu au)))
    where
      chosen : (o t u : Operand) (e : Env) → IsShown o → IsShown t → IsShown u → Classless e → When s e (Holds s e) → When s e (OperandFits s o e) → When s e (OperandApart s o) → When s e (OperandFits s t e) → When s e (OperandApart s t)
          → When s e (OperandFits s u e) → When s e (OperandApart s u) → Tells s (OperandApart s) (onward (value_of o e) (λ x k. onward (value_of t k) (λ y m. onward (value_of u m) (λ z n. row.one (conditional at x y z) n))))
      chosen o t u e so st su c h fo ao ft a2 fu a3 =
          tells-behind s (Both s) (OperandApart s) e (value_of o e) _ (value_of-both s scene o e so c h fo ao)
          (λ x e1 g1 c1 h1 bx. tells-behind s (Both s) (OperandApart s) e1 (value_of t e1) _ (value_of-both s scene t e1 st c1 h1 (operand-when s e e1 t g1 ft) (λ w. a2 (within-before e e1 s g1 w)))
          (λ y e2 g2 c2 h2 by. tells-behind s (Both s) (OperandApart s) e2 (value_of u e2) _ (value_of-both s scene u e2 su c2 h2 (operand-when s e e2 u (steps-through e e1 e2 g1 g2) fu) (λ w. a3 (within-before e e2 s (steps-through e e1 e2 g1 g2) w)))
          (λ z e3 g3 c3 h3 bz. one-tells s (conditional at x y z) e3 (conditional-tells s scene at x y z e3 c3 h3 (both-when s e1 e3 x (steps-through e1 e2 e3 g2 g3) bx) (both-when s e2 e3 y g3 by) bz))))
