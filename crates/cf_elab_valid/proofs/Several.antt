-- Several parts, and what is made of their values (5.2.2, 5.2.3, 5.18).
use Rattle.std.proofs.Common.{ℕ, List, [], ◌∷◌, map}
use Rattle.cf_elab.specs.Answer.{Answer, Made, Refused, Passed, Elab, onward, all, each}
use Rattle.cf_elab.specs.Choice.{conditional, sequence}
use Rattle.cf_elab.specs.Env.{Env}
use Rattle.cf_elab.specs.Expression as row
use Rattle.cf_elab.specs.Expression.{values}
use Rattle.cf_elab.specs.Members.{class_number}
use Rattle.cf_elab.specs.Operand.{Value, Operand, value, functions, methods, field_name, bound_method, Part, value_of, sort_of}
use Rattle.cf_elab_valid.specs.Answers.{Good, Fine, FineOperand, IsPart}
use Rattle.cf_elab_valid.specs.Scene.{Scene, IsScene, Steps, Inside, Classless, Holds, Fits, AllFit, OperandFits, IsShown}
use Rattle.cf_elab_valid.proofs.Arithmetic.{IsOperand}
use Rattle.cf_elab_valid.proofs.Choice.{conditional-fine, sequence-fine}
use Rattle.cf_elab_valid.proofs.Constructs.{from_type-fine}
use Rattle.cf_elab_valid.proofs.Names.{one-fine, value_of-fine}
use Rattle.cf_elab_valid.proofs.Parts.{operand-later, operand-when}
use Rattle.cf_elab_valid.proofs.Picks.{call_functions-fine}
use Rattle.cf_elab_valid.proofs.Through.{call_operator-fine}
use Rattle.cf_elab_valid.proofs.Unary.{classless-number}
use Rattle.cf_elab_valid.proofs.Ways.{fine-before, fits-when, inside-later, made-fine, onward-fine, steps-none, steps-through, within-before, When}

-- ---- behind an answer

pub operand-before : (s : Scene) (e f : Env) (r : Answer Operand) → Steps e f → FineOperand s f r → FineOperand s e r
operand-before s e f (Made o b) g k = (record { steps = steps-through e f b g k.0.steps; classless = k.0.classless; holds = k.0.holds; made = k.0.made }, k.1)
operand-before s e f (Refused rule at) g k = tt
operand-before s e f (Passed bound most) g k = tt

pub operand-through : (s : Scene) (e : Env) (first : Answer Operand) (go : Operand → Env → Answer Operand) → FineOperand s e first
    → ((o : Operand) (e1 : Env) → IsShown o → Steps e e1 → Classless e1 → When s e1 (Holds s e1) → When s e1 (OperandFits s o e1) → FineOperand s e1 (go o e1)) → FineOperand s e (onward first go)
operand-through s e (Made o e1) go f next = operand-before s e e1 (go o e1) f.0.steps (next o e1 f.1 f.0.steps f.0.classless f.0.holds f.0.made)
operand-through s e (Refused rule at) go f next = tt
operand-through s e (Passed bound most) go f next = tt

pub value-through : (s : Scene) (e : Env) (first : Answer Value) (go : Value → Env → Answer Operand) → Fine s (IsOperand s) e first
    → ((v : Value) (e1 : Env) → Steps e e1 → Classless e1 → When s e1 (Holds s e1) → When s e1 (Fits s e1 v) → FineOperand s e1 (go v e1)) → FineOperand s e (onward first go)
value-through s e (Made v e1) go f next = operand-before s e e1 (go v e1) f.steps (next v e1 f.steps f.classless f.holds f.made)
value-through s e (Refused rule at) go f next = tt
value-through s e (Passed bound most) go f next = tt

-- one value, behind something else
pub one-behind : {A : Type 0} (s : Scene) (e : Env) (P : A → Env → Type 0) (first : Answer A) (go : A → Elab Value) → Fine s P e first
    → ((a : A) (e1 : Env) → Steps e e1 → Classless e1 → When s e1 (Holds s e1) → When s e1 (P a e1) → Fine s (IsOperand s) e1 (go a e1)) → FineOperand s e (onward first (λ a. row.one (go a)))
one-behind s e P (Made a e1) go f next = operand-before s e e1 (row.one (go a) e1) f.steps (one-fine s e1 (go a) (next a e1 f.steps f.classless f.holds f.made))
one-behind s e P (Refused rule at) go f next = tt
one-behind s e P (Passed bound most) go f next = tt

-- ---- operands in order

abbrev AreShown : List Operand → Type 0
AreShown [] = Unit {0}
AreShown (o ∷ os) = IsShown o × AreShown os

abbrev OperandsFit : Scene → List Operand → Env → Type 0
OperandsFit s [] e = Unit {0}
OperandsFit s (o ∷ os) e = OperandFits s o e × OperandsFit s os e

abbrev pub AreParts : Scene → List Part → Type 0
AreParts s [] = Unit {0}
AreParts s (p ∷ ps) = IsPart s p × AreParts s ps

-- as for one operand
abbrev FineOperands : Scene → Env → Answer (List Operand) → Type 0
FineOperands s before (Made os behind) = Good s (OperandsFit s) before os behind × AreShown os
FineOperands s before (Refused rule at) = Unit {0}
FineOperands s before (Passed bound most) = Unit {0}

operands-later : (s : Scene) (a b : Env) (os : List Operand) → Steps a b → OperandsFit s os a → OperandsFit s os b
operands-later s a b [] g f = tt
operands-later s a b (o ∷ os) g f = (operand-later s a b o g f.0, operands-later s a b os g f.1)

module _ (s : Scene) where
  -- behind one operand
  operand-then : (e : Env) (first : Answer Operand) (go : Operand → Env → Answer (List Operand)) → FineOperand s e first
      → ((o : Operand) (e1 : Env) → IsShown o → Steps e e1 → Classless e1 → When s e1 (Holds s e1) → When s e1 (OperandFits s o e1) → FineOperands s e1 (go o e1)) → FineOperands s e (onward first go)
  operand-then e (Made o e1) go f next = further (go o e1) (next o e1 f.1 f.0.steps f.0.classless f.0.holds f.0.made)
    where
      further : (r : Answer (List Operand)) → FineOperands s e1 r → FineOperands s e r
      further (Made os e2) g = (record { steps = steps-through e e1 e2 f.0.steps g.0.steps; classless = g.0.classless; holds = g.0.holds; made = g.0.made }, g.1)
      further (Refused rule at) g = tt
      further (Passed bound most) g = tt
  operand-then e (Refused rule at) go f next = tt
  operand-then e (Passed bound most) go f next = tt

  -- and behind the others
  operands-then : (o : Operand) (e : Env) (rest : Answer (List Operand)) → IsShown o → When s e (OperandFits s o e) → FineOperands s e rest → FineOperands s e (onward rest (λ os f. Made (o ∷ os) f))
  operands-then o e (Made os e1) shown f g =
      (record { steps = g.0.steps; classless = g.0.classless; holds = g.0.holds; made = λ w. (operand-when s e e1 o g.0.steps f w, g.0.made w) }, (shown, g.1))
  operands-then o e (Refused rule at) shown f g = tt
  operands-then o e (Passed bound most) shown f g = tt

  all-fine : (ps : List Part) (e : Env) → AreParts s ps → Classless e → When s e (Holds s e) → FineOperands s e (all (map (λ (p : Part). p.run) ps) e)
  all-fine [] e a c h = (record { steps = steps-none e; classless = c; holds = h; made = λ w. tt }, tt)
  all-fine (p ∷ ps) e a c h =
      operand-then e (p.run e) (λ o f. onward (all (map (λ (q : Part). q.run) ps) f) (λ os g. Made (o ∷ os) g)) (a.0.run e c h)
      (λ o e1 shown g c1 h1 f. operands-then o e1 (all (map (λ (q : Part). q.run) ps) e1) shown f (all-fine ps e1 a.1 c1 h1))

module _ (s : Scene) (scene : IsScene s) where
  each-fine : (os : List Operand) (e : Env) → AreShown os → Classless e → When s e (Holds s e) → When s e (OperandsFit s os e) → Fine s (λ vs f. AllFit s f vs) e (each value_of os e)
  each-fine [] e shown c h f = made-fine s (λ vs f. AllFit s f vs) e [] c h (λ w. tt)
  each-fine (o ∷ os) e shown c h f =
      onward-fine s (IsOperand s) (λ vs f. AllFit s f vs) e (value_of o e) (λ v k. onward (each value_of os k) (λ vs g. Made (v ∷ vs) g)) (value_of-fine s scene o e shown.0 c h (λ w. (f w).0))
      (λ v e1 g c1 h1 fv. onward-fine s (λ vs f. AllFit s f vs) (λ vs f. AllFit s f vs) e1 (each value_of os e1) (λ vs k. Made (v ∷ vs) k)
      (each-fine os e1 shown.1 c1 h1 (λ w. operands-later s e e1 os g (f (within-before e e1 s g w)).1))
      (λ vs e2 g2 c2 h2 fvs. made-fine s (λ vs f. AllFit s f vs) e2 (v ∷ vs) c2 h2 (λ w. (fits-when s e1 e2 v g2 fv w, fvs w))))

  pub values-fine : (ps : List Part) (e : Env) → AreParts s ps → Classless e → When s e (Holds s e) → Fine s (λ vs f. AllFit s f vs) e (values ps e)
  values-fine ps e parts c h = by (all (map (λ (p : Part). p.run) ps) e) (all-fine s ps e parts c h)
    where
      by : (r : Answer (List Operand)) → FineOperands s e r → Fine s (λ vs f. AllFit s f vs) e (onward r (each value_of))
      by (Made os e1) f = fine-before s (λ vs f. AllFit s f vs) e e1 (each value_of os e1) f.0.steps (each-fine os e1 f.1 f.0.classless f.0.holds f.0.made)
      by (Refused rule at) f = tt
      by (Passed bound most) f = tt

  -- ---- calls, and types with arguments

  called-fine : (at : ℕ) (o : Operand) (vs : List Value) (e : Env) → IsShown o → Classless e → When s e (Holds s e) → When s e (OperandFits s o e) → When s e (AllFit s e vs) → Fine s (IsOperand s) e (row.call_operand at o vs e)
  called-fine at (functions n fs) vs e shown c h f vf = call_functions-fine s scene at fs vs e c h vf
  called-fine at (value v) vs e shown c h f vf = call_operator-fine s scene at v vs e c h f vf
  called-fine at (methods m) vs e shown c h f vf = absurd shown
  called-fine at (field_name n k p m) vs e shown c h f vf = absurd shown
  called-fine at (bound_method o p k) vs e shown c h f vf = absurd shown

  pub call-fine : (at : ℕ) (f : Part) (args : List Part) (e : Env) → IsPart s f → AreParts s args → Classless e → When s e (Holds s e) → FineOperand s e (row.call at f args e)
  call-fine at f args e part parts c h = by (f.run e) (part.run e c h)
    where
      by : (r : Answer Operand) → FineOperand s e r → FineOperand s e (onward r (λ o k. onward (values args k) (λ vs g. row.one (row.call_operand (row.call_place at f.last_name) o vs) g)))
      by (Refused rule place) g = tt
      by (Passed bound most) g = tt
      by (Made o e1) g = operand-before s e e1 (onward (values args e1) (λ vs k. row.one (row.call_operand (row.call_place at f.last_name) o vs) k)) g.0.steps (made-of o e1 g.1 g.0.classless g.0.holds g.0.made)
        where
          made-of : (o : Operand) (e1 : Env) → IsShown o → Classless e1 → When s e1 (Holds s e1) → When s e1 (OperandFits s o e1)
              → FineOperand s e1 (onward (values args e1) (λ vs g. row.one (row.call_operand (row.call_place at f.last_name) o vs) g))
          made-of o e1 shown c1 h1 fo =
              one-behind s e1 (λ vs f. AllFit s f vs) (values args e1) (row.call_operand (row.call_place at f.last_name) o) (values-fine args e1 parts c1 h1)
              (λ vs e2 g2 c2 h2 vf. called-fine (row.call_place at f.last_name) o vs e2 shown c2 h2 (operand-when s e1 e2 o g2 fo) vf)

  pub built-fine : (at : ℕ) (type : Elab ℕ) (args : List Part) (e : Env) → Fine s (λ t f. Inside f t) e (type e) → AreParts s args → FineOperand s e (row.built at type args e)
  built-fine at type args e ft parts = by (type e) ft
    where
      by : (r : Answer ℕ) → Fine s (λ t f. Inside f t) e r
          → FineOperand s e (onward r (λ t k. onward (values args k) (λ vs g. row.one (λ env. row.from_type at t vs (class_number (sort_of env.types t)) env) g)))
      by (Refused rule place) g = tt
      by (Passed bound most) g = tt
      by (Made t e1) g =
          operand-before s e e1 (onward (values args e1) (λ vs k. row.one (λ env. row.from_type at t vs (class_number (sort_of env.types t)) env) k)) g.steps
          (one-behind s e1 (λ vs f. AllFit s f vs) (values args e1) (λ vs env. row.from_type at t vs (class_number (sort_of env.types t)) env) (values-fine args e1 parts g.classless g.holds)
          (λ vs e2 g2 c2 h2 vf. from_type-fine s scene at t vs e2 c2 h2 (λ w. inside-later e1 e2 t g2 (g.made (within-before e1 e2 s g2 w))) vf (class_number (sort_of e2.types t)) (classless-number e2 c2 t)))

  -- ---- conditions, and commas

  pub conditional_row-fine : (at : ℕ) (c a b : Part) (e : Env) → IsPart s c → IsPart s a → IsPart s b → Classless e → When s e (Holds s e) → FineOperand s e (row.conditional_row at c a b e)
  conditional_row-fine at c a b e pc pa pb cl h =
      operand-through s e (c.run e) _ (pc.run e cl h)
      (λ o e1 so g1 c1 h1 fo. operand-through s e1 (a.run e1) _ (pa.run e1 c1 h1)
      (λ p e2 sp g2 c2 h2 fp. operand-through s e2 (b.run e2) _ (pb.run e2 c2 h2)
      (λ q e3 sq g3 c3 h3 fq. chosen o p q e3 so sp sq c3 h3 (operand-when s e1 e3 o (steps-through e1 e2 e3 g2 g3) fo) (operand-when s e2 e3 p g3 fp) fq)))
    where
      chosen : (o p q : Operand) (e : Env) → IsShown o → IsShown p → IsShown q → Classless e → When s e (Holds s e) → When s e (OperandFits s o e) → When s e (OperandFits s p e) → When s e (OperandFits s q e)
          → FineOperand s e (onward (value_of o e) (λ x k. onward (value_of p k) (λ y m. onward (value_of q m) (λ z n. row.one (conditional at x y z) n))))
      chosen o p q e so sp sq cl h fo fp fq =
          value-through s e (value_of o e) _ (value_of-fine s scene o e so cl h fo)
          (λ x e1 g1 c1 h1 fx. value-through s e1 (value_of p e1) _ (value_of-fine s scene p e1 sp c1 h1 (operand-when s e e1 p g1 fp))
          (λ y e2 g2 c2 h2 fy. value-through s e2 (value_of q e2) _ (value_of-fine s scene q e2 sq c2 h2 (operand-when s e e2 q (steps-through e e1 e2 g1 g2) fq))
          (λ z e3 g3 c3 h3 fz. one-fine s e3 (conditional at x y z) (conditional-fine s scene at x y z e3 c3 h3 (fits-when s e1 e3 x (steps-through e1 e2 e3 g2 g3) fx) (fits-when s e2 e3 y g3 fy) fz))))

  pub comma-fine : (at : ℕ) (ps : List Part) (e : Env) → AreParts s ps → Classless e → When s e (Holds s e) → FineOperand s e (row.one (λ f. onward (values ps f) (sequence at)) e)
  comma-fine at ps e parts c h =
      one-fine s e (λ f. onward (values ps f) (sequence at))
      (onward-fine s (λ vs f. AllFit s f vs) (IsOperand s) e (values ps e) (sequence at) (values-fine ps e parts c h) (λ vs e1 g c1 h1 vf. sequence-fine s scene at vs e1 c1 h1 vf))
