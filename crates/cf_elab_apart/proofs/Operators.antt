-- Operators on integers, enumerations and conditions: a number that is known comes of numbers that are known (5.3, 5.6 to 5.15, 6.4.1).
use Rattle.std.proofs.Common.{◌≡◌, ℕ, Bool, true, false, ◌&&◌, ◌||◌, if◌then◌else◌, ℤ, Option, Some, None, is_some, refl, sym, ap, ◌∙◌, true≢false}
use Rattle.cf_base.specs.declared.kind.Kind.{Kind}
use Rattle.cf_base.specs.declared.kind.Kind.TheVariants as kind
use Rattle.cf_base.specs.declared.arith.Arith.{Arith}
use Rattle.cf_base.specs.Integers.{int_op}
use Rattle.cf_base.specs.Promotion.{usual}
use Rattle.cf_types.specs.Operators.{is_shift}
use Rattle.cf_types.specs.declared.ty.Ty.TheVariants as ty
use Rattle.cf_core.specs.declared.operators.UnaryOperator.{UnaryOperator}
use Rattle.cf_core.specs.declared.operators.UnaryOperator.TheVariants as unary
use Rattle.cf_core.specs.declared.node.Core.{Core as Node}
use Rattle.cf_core.specs.declared.node.Core.TheVariants as node
use Rattle.cf_core.specs.Types.{integer}
use Rattle.cf_elab.specs.Answer.{Made, onward, need}
use Rattle.cf_elab.specs.Arithmetic as row
use Rattle.cf_elab.specs.Arithmetic.{result_kind}
use Rattle.cf_elab.specs.Env.{Env}
use Rattle.cf_elab.specs.Fit.{to_kind, truth}
use Rattle.cf_elab.specs.Fit as fit_row
use Rattle.cf_elab.specs.Made.{of_kind}
use Rattle.cf_elab.specs.Operand.{Value, sort_of, is_reference, is_testable, known_number, computed, plain}
use Rattle.cf_elab_env.proofs.Making.{sort_int}
use Rattle.cf_elab_numbers.specs.Numbers.{negative, complement}
use Rattle.cf_elab_valid.specs.Answers.{Fine}
use Rattle.cf_elab_valid.specs.Scene.{Scene, IsScene, tree, Classless, Holds, IsPlain}
use Rattle.cf_elab_valid.proofs.Arithmetic.{IsTested, of_kind-then, truth-fine}
use Rattle.cf_elab_valid.proofs.FitRows.{needed, still-fine, to_kind-fine}
use Rattle.cf_elab_valid.proofs.Making.{IsType, of_kind-fine}
use Rattle.cf_elab_valid.proofs.Plain.{decayed_tree}
use Rattle.cf_elab_valid.proofs.Ways.{fine-as, made-fine, onward-fine, steps-through, within-before, When}
use Rattle.cf_elab_apart.specs.Apart.{Alike, Apart}
use Rattle.cf_elab_apart.proofs.Alike.{alike-Operate, alike-Unary, alike-Not, alike-And, alike-Or}
use Rattle.cf_elab_apart.proofs.Answers.{fine-both}
use Rattle.cf_elab_apart.proofs.Fit.{Both, both-when, PlainBoth, plain-both, fit-both}
use Rattle.cf_elab_apart.proofs.Settled.{number-apart}

-- ---- numbers that are known

pub two-known : (f : ℤ → ℤ → Option ℤ) (a b : Option ℤ) → is_some (row.two_numbers f a b) ≡ true → (is_some a ≡ true) × (is_some b ≡ true)
two-known f (Some a) (Some b) h = (refl, refl)
two-known f None b h = absurd (true≢false (sym h))
two-known f (Some a) None h = absurd (true≢false (sym h))

inverted-known : (z : Option ℤ) → is_some (row.inverted z) ≡ true → is_some z ≡ true
inverted-known None h = absurd (true≢false (sym h))
inverted-known (Some z) h = refl

negative-known : (k : Kind) (z : Option ℤ) → is_some (negative k z) ≡ true → is_some z ≡ true
negative-known k None h = absurd (true≢false (sym h))
negative-known k (Some z) h = refl

complement-known : (k : Kind) (z : Option ℤ) → is_some (complement k z) ≡ true → is_some z ≡ true
complement-known k None h = absurd (true≢false (sym h))
complement-known k (Some z) h = refl

module _ (s : Scene) (scene : IsScene s) where
  abbrev pub Aparts : Value → Env → Type 0
  Aparts x f = Apart s x

  -- a condition that is apart
  abbrev pub TestedBoth : Value → Env → Type 0
  TestedBoth x f = IsTested s x f × Apart s x

  -- ---- operands

  to_kind-apart : (k : Kind) (v : Value) (e : Env) → Classless e → When s e (Holds s e) → When s e (Both s v e) → Fine s Aparts e (to_kind k v e)
  to_kind-apart k v e c h b =
      onward-fine s (IsType (ty.Int k)) Aparts e (of_kind k e) (λ t. fit_row.fit 0 v t) (of_kind-fine s k e c h)
      (λ t e1 g d held is. fine-as s (PlainBoth s (tree s t)) Aparts e1 (fit_row.fit 0 v t e1) (λ x f p. p.1)
      (fit-both s scene e1 v d held (both-when s e e1 v g b) 0 t (λ w. (is w).inside) (λ w. ap is_reference (sort_int e1.types t k (is w).here))))

  pub to_kind-both : (k : Kind) (v : Value) (e : Env) → Classless e → When s e (Holds s e) → When s e (Both s v e) → Fine s (PlainBoth s (integer k)) e (to_kind k v e)
  to_kind-both k v e c h b = fine-both s (IsPlain s (integer k)) Aparts e (to_kind k v e) (to_kind-fine s scene k v e c h (λ w. (b w).0)) (to_kind-apart k v e c h b)

  truth-apart : (rule at : ℕ) (v : Value) (e : Env) → Classless e → When s e (Holds s e) → When s e (Both s v e) → Fine s Aparts e (truth rule at v e)
  truth-apart rule at v e c h b =
      onward-fine s (PlainBoth s (decayed_tree s v.type (sort_of e.types v.type))) Aparts e (plain v e) _ (plain-both s scene e v c h b)
      (λ x e1 g d held p. still-fine s Aparts e1 (need (is_testable (sort_of e1.types x.type)) rule at e1) (λ f. Made x f) (needed e1 (is_testable (sort_of e1.types x.type)) rule at)
      (made-fine s Aparts e1 x d held (λ w. (p w).1)))

  pub truth-both : (rule at : ℕ) (v : Value) (e : Env) → Classless e → When s e (Holds s e) → When s e (Both s v e) → Fine s TestedBoth e (truth rule at v e)
  truth-both rule at v e c h b = fine-both s (IsTested s) Aparts e (truth rule at v e) (truth-fine s scene rule at v e c h (λ w. (b w).0)) (truth-apart rule at v e c h b)

  -- ---- operators

  operated-apart : (at : ℕ) (op : Arith) (k l : Kind) (x y : Value) (e : Env) → Classless e → When s e (Holds s e) → When s e (Both s x e) → When s e (Both s y e) → Fine s Aparts e (row.operated at op k l x y e)
  operated-apart at op k l x y e c h bx by =
      onward-fine s (PlainBoth s (integer k)) Aparts e (to_kind k x e) _ (to_kind-both k x e c h bx)
      (λ a e1 g1 c1 h1 pa. onward-fine s (PlainBoth s (integer l)) Aparts e1 (to_kind l y e1) _ (to_kind-both l y e1 c1 h1 (both-when s e e1 y g1 by))
      (λ b e2 g2 c2 h2 pb. of_kind-then s scene (result_kind op k) (value_of a b) Aparts e2 c2 h2
      (λ t e3 g3 w is. joined a b t e1 e2 (pa (within-before e1 e3 s (steps-through e1 e2 e3 g2 g3) w)) (pb (within-before e2 e3 s g3 w)))))
    where
      value_of : Value → Value → ℕ → Value
      value_of a b t = record (computed at (node.Operate at op k a.node b.node) t) { number = row.two_numbers (λ z w. known_number (Some z) (int_op op k z w)) a.number b.number }

      joined : (a b : Value) (t : ℕ) (e1 e2 : Env) → PlainBoth s (integer k) a e1 → PlainBoth s (integer l) b e2 → Apart s (value_of a b t)
      joined a b t e1 e2 pa pb =
          number-apart s (value_of a b t) refl
          (λ z. let both = two-known (λ z w. known_number (Some z) (int_op op k z w)) a.number b.number z in
          alike-Operate s at op k a.node b.node (pa.1.number pa.0.no_place both.0) (pb.1.number pb.0.no_place both.1))

  pub on_kinds-apart : (at : ℕ) (op : Arith) (k l : Kind) (x y : Value) (e : Env) → Classless e → When s e (Holds s e) → When s e (Both s x e) → When s e (Both s y e) → Fine s Aparts e (row.on_kinds at op k l x y e)
  on_kinds-apart at op k l x y e c h bx by = go (is_shift op)
    where
      go : (b : Bool) → Fine s Aparts e ((if b then row.operated at op k l x y else row.operated at op (usual k l) (usual k l) x y) e)
      go true = operated-apart at op k l x y e c h bx by
      go false = operated-apart at op (usual k l) (usual k l) x y e c h bx by

  -- - and ~
  signed-apart : (at : ℕ) (op : UnaryOperator) (k : Kind) (number : Option ℤ → Option ℤ) → ((z : Option ℤ) → is_some (number z) ≡ true → is_some z ≡ true) → (x : Value) (e : Env) → Classless e → When s e (Holds s e) → When s e (Both s x e)
      → Fine s Aparts e (onward (to_kind k x e) (λ a f. onward (of_kind k f) (λ t g. Made (record (computed at (node.Unary at op k a.node) t) { number = number a.number }) g)))
  signed-apart at op k number told x e c h b =
      onward-fine s (PlainBoth s (integer k)) Aparts e (to_kind k x e) _ (to_kind-both k x e c h b)
      (λ a e1 g1 c1 h1 pa. of_kind-then s scene k (value_of a) Aparts e1 c1 h1
      (λ t e2 g2 w is. let p = pa (within-before e1 e2 s g2 w) in number-apart s (value_of a t) refl (λ z. alike-Unary s at op k a.node (p.1.number p.0.no_place (told a.number z)))))
    where
      value_of : Value → ℕ → Value
      value_of a t = record (computed at (node.Unary at op k a.node) t) { number = number a.number }

  pub negated-apart : (at : ℕ) (k : Kind) (x : Value) (e : Env) → Classless e → When s e (Holds s e) → When s e (Both s x e) → Fine s Aparts e (row.negated at k x e)
  negated-apart at k x e c h b = signed-apart at unary.Negate k (negative k) (negative-known k) x e c h b

  pub complemented-apart : (at : ℕ) (k : Kind) (x : Value) (e : Env) → Classless e → When s e (Holds s e) → When s e (Both s x e) → Fine s Aparts e (row.complemented at k x e)
  complemented-apart at k x e c h b = signed-apart at unary.Complement k (complement k) (complement-known k) x e c h b

  -- !
  pub negation-apart : (at : ℕ) (x : Value) (e : Env) → Classless e → When s e (Holds s e) → When s e (Both s x e) → Fine s Aparts e (row.negation at x e)
  negation-apart at x e c h b =
      onward-fine s TestedBoth Aparts e (truth 18 at x e) _ (truth-both 18 at x e c h b)
      (λ a e1 g1 c1 h1 pa. of_kind-then s scene kind.Int (value_of a) Aparts e1 c1 h1
      (λ t e2 g2 w is. let p = pa (within-before e1 e2 s g2 w) in number-apart s (value_of a t) refl (λ z. alike-Not s at a.node (p.1.number p.0.plain.no_place (inverted-known a.number z)))))
    where
      value_of : Value → ℕ → Value
      value_of a t = record (computed at (node.Not at a.node) t) { number = row.inverted a.number }

  -- && and ||
  logical-apart : (at : ℕ) (make : ℕ → Node → Node → Node) (join : Bool → Bool → Bool) (x y : Value) (e : Env) → ((a b : Node) → Alike s a → Alike s b → Alike s (make at a b))
      → Classless e → When s e (Holds s e) → When s e (Both s x e) → When s e (Both s y e) → Fine s Aparts e (row.logical at make join x y e)
  logical-apart at make join x y e alike c h bx by =
      onward-fine s TestedBoth Aparts e (truth 13 at x e) _ (truth-both 13 at x e c h bx)
      (λ a e1 g1 c1 h1 pa. onward-fine s TestedBoth Aparts e1 (truth 13 at y e1) _ (truth-both 13 at y e1 c1 h1 (both-when s e e1 y g1 by))
      (λ b e2 g2 c2 h2 pb. of_kind-then s scene kind.Int (value_of a b) Aparts e2 c2 h2
      (λ t e3 g3 w is. joined a b t e1 e2 (pa (within-before e1 e3 s (steps-through e1 e2 e3 g2 g3) w)) (pb (within-before e2 e3 s g3 w)))))
    where
      value_of : Value → Value → ℕ → Value
      value_of a b t = record (computed at (make at a.node b.node) t) { number = row.two_numbers (λ z w. Some (row.truth_number (join (row.is_nonzero z) (row.is_nonzero w)))) a.number b.number }

      joined : (a b : Value) (t : ℕ) (e1 e2 : Env) → TestedBoth a e1 → TestedBoth b e2 → Apart s (value_of a b t)
      joined a b t e1 e2 pa pb =
          number-apart s (value_of a b t) refl
          (λ z. let both = two-known (λ z w. Some (row.truth_number (join (row.is_nonzero z) (row.is_nonzero w)))) a.number b.number z in
          alike a.node b.node (pa.1.number pa.0.plain.no_place both.0) (pb.1.number pb.0.plain.no_place both.1))

  pub conjunction-apart : (at : ℕ) (x y : Value) (e : Env) → Classless e → When s e (Holds s e) → When s e (Both s x e) → When s e (Both s y e) → Fine s Aparts e (row.conjunction at x y e)
  conjunction-apart at x y e c h bx by = logical-apart at (λ p a b. node.And p a b) (λ a b. a && b) x y e (λ a b p q. alike-And s at a b p q) c h bx by

  pub disjunction-apart : (at : ℕ) (x y : Value) (e : Env) → Classless e → When s e (Holds s e) → When s e (Both s x e) → When s e (Both s y e) → Fine s Aparts e (row.disjunction at x y e)
  disjunction-apart at x y e c h bx by = logical-apart at (λ p a b. node.Or p a b) (λ a b. a || b) x y e (λ a b p q. alike-Or s at a b p q) c h bx by
