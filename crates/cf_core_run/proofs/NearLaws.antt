-- How many steps trees and marks take.
use Rattle.std.proofs.Common.{◌≡◌, ◌∙◌, ◌<◌, ◌≤◌, ◌+◌, ◌-◌, ◌*◌, ◌^◌, ℕ, ℤ, suc, List, [], ◌∷◌, ◌++◌, Option, Some, None, Result, Ok, Err, refl, ap, sym, arith}
use Rattle.std.proofs.Math.Nat.{mul-le-mul_right, suc-mul}
use Rattle.cf_run_tree.specs.declared.shape.Shape.{Shape}
use Rattle.cf_run_tree.specs.declared.shape.ObjectType.{ObjectType}
use Rattle.cf_run_tree.specs.declared.node.Unary.{Unary}
use Rattle.cf_run_tree.specs.declared.node.Binary.{Binary}
use Rattle.cf_run_tree.specs.declared.node.Node.{Node}
use Rattle.cf_run_tree.specs.declared.node.Node.TheOpen.{Node-F}
use Rattle.cf_run_tree.specs.declared.node.Node.TheFolds.{fold-roll-Node}
use Rattle.cf_run_tree.specs.declared.node.Node.TheVariants as node
use Rattle.cf_run_tree.specs.declared.program.Signature.{Signature}
use Rattle.cf_run_tree.specs.declared.program.Program.{Program}
use Rattle.cf_core_objects.specs.declared.answer.Stop.{Stop}
use Rattle.cf_core_run.specs.declared.mark.Mark.{Mark}
use Rattle.cf_core_run.specs.declared.state.Machine.{Machine}
use Rattle.cf_core_run.specs.declared.state.Step.{Step}
use Rattle.cf_core_run.specs.declared.state.Step.TheVariants as step
use Rattle.cf_core_run.specs.Nearer.{weigh, weight, weights, maybe_weight, whole_array, behind, marks_left, onward, one_more, Nearer}

pub weight-Number : (z : ℤ) → weight (node.Number z) ≡ 1
unfolding weight
weight-Number z = ap weight (sym (node.rolls-Number z)) ∙ fold-roll-Node ℕ weigh (Node-F.Number z)

pub weight-Text : (j : ℕ) (bytes : List ℕ) → weight (node.Text j bytes) ≡ 1
unfolding weight
weight-Text j bytes = ap weight (sym (node.rolls-Text j bytes)) ∙ fold-roll-Node ℕ weigh (Node-F.Text j bytes)

pub weight-Function : (name : List ℕ) (f : Signature) → weight (node.Function name f) ≡ 1
unfolding weight
weight-Function name f = ap weight (sym (node.rolls-Function name f)) ∙ fold-roll-Node ℕ weigh (Node-F.Function name f)

pub weight-Local : (i : ℕ) → weight (node.Local i) ≡ 1
unfolding weight
weight-Local i = ap weight (sym (node.rolls-Local i)) ∙ fold-roll-Node ℕ weigh (Node-F.Local i)

pub weight-Static : (name : List ℕ) (t : ObjectType) → weight (node.Static name t) ≡ 1
unfolding weight
weight-Static name t = ap weight (sym (node.rolls-Static name t)) ∙ fold-roll-Node ℕ weigh (Node-F.Static name t)

pub weight-Apply : (op : Unary) (e : Node) → weight (node.Apply op e) ≡ 2 + weight e
unfolding weight
weight-Apply op e = ap weight (sym (node.rolls-Apply op e)) ∙ fold-roll-Node ℕ weigh (Node-F.Apply op e)

pub weight-Join : (op : Binary) (a b : Node) → weight (node.Join op a b) ≡ 3 + weight a + weight b
unfolding weight
weight-Join op a b = ap weight (sym (node.rolls-Join op a b)) ∙ fold-roll-Node ℕ weigh (Node-F.Join op a b)

pub weight-And : (a b : Node) → weight (node.And a b) ≡ 3 + weight a + weight b
unfolding weight
weight-And a b = ap weight (sym (node.rolls-And a b)) ∙ fold-roll-Node ℕ weigh (Node-F.And a b)

pub weight-Or : (a b : Node) → weight (node.Or a b) ≡ 3 + weight a + weight b
unfolding weight
weight-Or a b = ap weight (sym (node.rolls-Or a b)) ∙ fold-roll-Node ℕ weigh (Node-F.Or a b)

pub weight-Conditional : (c a b : Node) → weight (node.Conditional c a b) ≡ 2 + weight c + weight a + weight b
unfolding weight
weight-Conditional c a b = ap weight (sym (node.rolls-Conditional c a b)) ∙ fold-roll-Node ℕ weigh (Node-F.Conditional c a b)

pub weight-Comma : (es : List Node) → weight (node.Comma es) ≡ weights es
unfolding weight weights
weight-Comma es = ap weight (sym (node.rolls-Comma es)) ∙ fold-roll-Node ℕ weigh (Node-F.Comma es)

pub weight-Call : (name : List ℕ) (f : Signature) (es : List Node) → weight (node.Call name f es) ≡ 4 + weights es
unfolding weight weights
weight-Call name f es = ap weight (sym (node.rolls-Call name f es)) ∙ fold-roll-Node ℕ weigh (Node-F.Call name f es)

pub weight-PointerCall : (e : Node) (f : Signature) (es : List Node) → weight (node.PointerCall e f es) ≡ 5 + weight e + weights es
unfolding weight weights
weight-PointerCall e f es = ap weight (sym (node.rolls-PointerCall e f es)) ∙ fold-roll-Node ℕ weigh (Node-F.PointerCall e f es)

pub weight-Bind : (e : Node) → weight (node.Bind e) ≡ 1 + weight e
unfolding weight
weight-Bind e = ap weight (sym (node.rolls-Bind e)) ∙ fold-roll-Node ℕ weigh (Node-F.Bind e)

pub weight-Temporary : (s : Shape) (e : Node) → weight (node.Temporary s e) ≡ 2 + weight e
unfolding weight
weight-Temporary s e = ap weight (sym (node.rolls-Temporary s e)) ∙ fold-roll-Node ℕ weigh (Node-F.Temporary s e)

pub weight-Hold : (i : ℕ) (s : Shape) (e : Node) → weight (node.Hold i s e) ≡ 2 + weight e
unfolding weight
weight-Hold i s e = ap weight (sym (node.rolls-Hold i s e)) ∙ fold-roll-Node ℕ weigh (Node-F.Hold i s e)

pub weight-List : (es : List Node) (rest : Node) → weight (node.List es rest) ≡ 2 + whole_array (3 + weight rest) + weights es
unfolding weight weights
weight-List es rest = ap weight (sym (node.rolls-List es rest)) ∙ fold-roll-Node ℕ weigh (Node-F.List es rest)

pub weight-Characters : (bytes : List ℕ) → weight (node.Characters bytes) ≡ 1
unfolding weight
weight-Characters bytes = ap weight (sym (node.rolls-Characters bytes)) ∙ fold-roll-Node ℕ weigh (Node-F.Characters bytes)

pub weight-Zeros : weight node.Zeros ≡ 1
unfolding weight
weight-Zeros = ap weight (sym node.rolls-Zeros) ∙ fold-roll-Node ℕ weigh Node-F.Zeros

pub weight-Blank : weight node.Blank ≡ 1
unfolding weight
weight-Blank = ap weight (sym node.rolls-Blank) ∙ fold-roll-Node ℕ weigh Node-F.Blank

pub weight-Full : (e : Node) → weight (node.Full e) ≡ 3 + weight e
unfolding weight
weight-Full e = ap weight (sym (node.rolls-Full e)) ∙ fold-roll-Node ℕ weigh (Node-F.Full e)

pub weight-Block : (es : List Node) → weight (node.Block es) ≡ 3 + weights es
unfolding weight weights
weight-Block es = ap weight (sym (node.rolls-Block es)) ∙ fold-roll-Node ℕ weigh (Node-F.Block es)

pub weight-Sequence : (es : List Node) → weight (node.Sequence es) ≡ 2 + weights es
unfolding weight weights
weight-Sequence es = ap weight (sym (node.rolls-Sequence es)) ∙ fold-roll-Node ℕ weigh (Node-F.Sequence es)

pub weight-Declare : (i : ℕ) (t : ObjectType) (e : Node) → weight (node.Declare i t e) ≡ 3 + weight e
unfolding weight
weight-Declare i t e = ap weight (sym (node.rolls-Declare i t e)) ∙ fold-roll-Node ℕ weigh (Node-F.Declare i t e)

pub weight-Switch : (e : Node) (es : List Node) → weight (node.Switch e es) ≡ 7 + weight e + weights es
unfolding weight weights
weight-Switch e es = ap weight (sym (node.rolls-Switch e es)) ∙ fold-roll-Node ℕ weigh (Node-F.Switch e es)

pub weight-Case : (z : ℤ) → weight (node.Case z) ≡ 1
unfolding weight
weight-Case z = ap weight (sym (node.rolls-Case z)) ∙ fold-roll-Node ℕ weigh (Node-F.Case z)

pub weight-Default : weight node.Default ≡ 1
unfolding weight
weight-Default = ap weight (sym node.rolls-Default) ∙ fold-roll-Node ℕ weigh Node-F.Default

pub weight-Break : weight node.Break ≡ 1
unfolding weight
weight-Break = ap weight (sym node.rolls-Break) ∙ fold-roll-Node ℕ weigh Node-F.Break

pub weight-Continue : weight node.Continue ≡ 1
unfolding weight
weight-Continue = ap weight (sym node.rolls-Continue) ∙ fold-roll-Node ℕ weigh Node-F.Continue

pub weight-If : (c a : Node) (b : Option Node) → weight (node.If c a b) ≡ 4 + weight c + weight a + maybe_weight b
unfolding weight maybe_weight
weight-If c a None = ap weight (sym (node.rolls-If c a None)) ∙ fold-roll-Node ℕ weigh (Node-F.If c a None)
weight-If c a (Some b) = ap weight (sym (node.rolls-If c a (Some b))) ∙ fold-roll-Node ℕ weigh (Node-F.If c a (Some b))

pub weight-Return : (e : Option Node) → weight (node.Return e) ≡ 4 + maybe_weight e
unfolding weight maybe_weight
weight-Return None = ap weight (sym (node.rolls-Return None)) ∙ fold-roll-Node ℕ weigh (Node-F.Return None)
weight-Return (Some e) = ap weight (sym (node.rolls-Return (Some e))) ∙ fold-roll-Node ℕ weigh (Node-F.Return (Some e))

pub weights-none : weights [] ≡ 0
unfolding weights
weights-none = refl

pub weights-first : (e : Node) (es : List Node) → weights (e ∷ es) ≡ 2 + weight e + weights es
unfolding weights
weights-first e es = refl

pub maybe-some : (e : Node) → maybe_weight (Some e) ≡ weight e
unfolding maybe_weight
maybe-some e = refl

-- A mark is put on top of the others.
pub marks-pushed : (ms : List Mark) (m : Mark) → marks_left (ms ++ m ∷ []) ≡ behind m + marks_left ms
unfolding marks_left
marks-pushed [] m = refl
marks-pushed (x ∷ ms) m = let e = marks-pushed ms m in omega (arith, e)

pub pushed-left : (old new : List Mark) (m : Mark) → new ≡ old ++ m ∷ [] → marks_left new ≡ behind m + marks_left old
pushed-left old new m e = ap marks_left e ∙ marks-pushed old m

-- One element is counted less.
pub one-less : (count index k : ℕ) → index < count → (count - index) * k ≡ k + (count - (index + 1)) * k
one-less count index k h =
    let e : count - index ≡ suc (count - (index + 1)) = omega (arith, h) in
    omega (arith, ap (λ n. n * k) e ∙ suc-mul (count - (index + 1)) k)

pub times-more : (n m k : ℕ) → n ≤ m → n * k ≤ m * k
times-more n m k h = mul-le-mul_right k h

pub whole-list : (n k : ℕ) → n < 2 ^ 32 → (n - 0) * k ≤ whole_array k
unfolding whole_array
whole-list n k h = times-more (n - 0) (2 ^ 32) k (let e : n - 0 ≤ 2 ^ 32 = omega (arith, h) in e)

pub one-more-most : (r : Result Step Stop) (m : Machine) → one_more r m ≤ suc m.ticks
one-more-most (Ok step.On) m = omega arith
one-more-most (Ok (step.Enters name)) m = omega arith
one-more-most (Ok (step.Puts byte)) m = omega arith
one-more-most (Ok (step.Ends x)) m = omega arith
one-more-most (Err x) m = omega arith

-- No tick was spent, and fewer steps are left.
pub kept-nearer : (p : Program) (ticks n : ℕ) (r : Result Step Stop) (new : Machine) → new.ticks ≡ ticks → onward p r new < n → Nearer p ticks n r new
kept-nearer p ticks n (Ok step.On) new e h = record { ticks = omega (arith, e); steps = λ s. h }
kept-nearer p ticks n (Ok (step.Enters name)) new e h = record { ticks = omega (arith, e); steps = λ s. h }
kept-nearer p ticks n (Ok (step.Puts byte)) new e h = record { ticks = omega (arith, e); steps = λ s. h }
kept-nearer p ticks n (Ok (step.Ends x)) new e h = tt
kept-nearer p ticks n (Err x) new e h = tt

-- A tick was spent.
pub spent-nearer : (p : Program) (ticks n : ℕ) (r : Result Step Stop) (new : Machine) → one_more r new ≤ ticks → Nearer p ticks n r new
spent-nearer p ticks n (Ok step.On) new h = record { ticks = omega (arith, h); steps = λ s. absurd (omega (arith, h, s)) }
spent-nearer p ticks n (Ok (step.Enters name)) new h = record { ticks = omega (arith, h); steps = λ s. absurd (omega (arith, h, s)) }
spent-nearer p ticks n (Ok (step.Puts byte)) new h = record { ticks = omega (arith, h); steps = λ s. absurd (omega (arith, h, s)) }
spent-nearer p ticks n (Ok (step.Ends x)) new h = tt
spent-nearer p ticks n (Err x) new h = tt
