-- Pointers and integers, and operators on integers (5.6 to 5.15).
use Rattle.std.proofs.Common.{◌≡◌, ℕ, Bool, true, false, ◌&&◌, Option, Some, None, refl, sym, subst, ◌∙◌, true≢false}
use Rattle.cf_base.specs.declared.arith.Arith.{Arith}
use Rattle.cf_base.specs.declared.kind.Kind.{Kind}
use Rattle.cf_syntax.specs.declared.operator.BinaryOp.{BinaryOp}
use Rattle.cf_core.specs.declared.operators.PointerOperator.{PointerOperator}
use Rattle.cf_core.specs.declared.operators.PointerOperator.TheVariants as pointer
use Rattle.cf_core.specs.declared.node.Core.TheVariants as node
use Rattle.cf_core.specs.FromClasses.{signature_of}
use Rattle.cf_core.specs.Numbers.{are_known}
use Rattle.cf_core.specs.Typed.{typing}
use Rattle.cf_core.specs.Types.{SourceType, integer, pointer as pointing}
use Rattle.cf_core.specs.Typing.{Typing, pointer_operated, points_to_object, is_integer}
use Rattle.cf_core_typed.specs.Same.{Same}
use Rattle.cf_core_typed.specs.Meets.{IsValue, Points}
use Rattle.cf_core_typed.proofs.Places.{integer-no-pointer}
use Rattle.cf_core_typed.proofs.Pointers.{add-is, add-right-is, subtract-is}
use Rattle.cf_core_typed.proofs.Same.{and-both}
use Rattle.cf_core_typed.proofs.Values.{value-integer}
use Rattle.cf_elab.specs.Answer.{Made, onward, need}
use Rattle.cf_elab.specs.Binary as row
use Rattle.cf_elab.specs.Binary.{add_or_subtract, integer_operator}
use Rattle.cf_elab.specs.Complete.{complete}
use Rattle.cf_elab.specs.Env.{Env}
use Rattle.cf_elab.specs.Fit.{to_kind}
use Rattle.cf_elab.specs.Operand.{Value, object_pointer, sort_of, computed}
use Rattle.cf_elab_valid.specs.Answers.{Fine}
use Rattle.cf_elab_valid.specs.Scene.{Scene, IsScene, tree, typed, scope_of, Classless, Holds, Fits, IsPlain}
use Rattle.cf_elab_valid.proofs.Arithmetic.{IsOperand, plain-operand, on_kinds-fine}
use Rattle.cf_elab_valid.proofs.FitRows.{to_kind-fine}
use Rattle.cf_elab_valid.proofs.Nodes.{core-PointerOperate, known-PointerOperate}
use Rattle.cf_elab_valid.proofs.Unary.{sorted, part-inside, points-to, object-pointed}
use Rattle.cf_elab_valid.proofs.Values.{plain-later, plain-value, value-plain}
use Rattle.cf_elab_valid.proofs.Ways.{made-fine, onward-fine, within-before, When}

-- whether an operator moves a pointer
abbrev pub moves : PointerOperator → Bool
moves pointer.Add = true
moves pointer.Subtract = true
moves op = false

module _ (s : Scene) (scene : IsScene s) where
  -- a value that has the pointer's own type
  moved-plain : (at : ℕ) (op : PointerOperator) (a b p : Value) (fixed : Bool) (e : Env) → IsPlain s (tree s p.type) p e → are_known s.tables a.node ≡ true → are_known s.tables b.node ≡ true
      → (t : ℕ) → Same (tree s p.type) (pointing (tree s t)) → IsValue (pointer_operated op (typed s a.node) (typed s b.node)) (pointing (tree s t))
      → Fits s e (record (computed at (node.PointerOperate at op a.node b.node) p.type) { is_fixed = fixed })
  moved-plain at op a b p fixed e q ka kb t same value =
      plain-operand s (pointing (tree s t)) (record (computed at (node.PointerOperate at op a.node b.node) p.type) { is_fixed = fixed }) e
      (value-plain s e (pointing (tree s t)) at p.type (node.PointerOperate at op a.node b.node) None fixed q.fits.inside same
      (known-PointerOperate s.tables at op a.node b.node ∙ and-both (are_known s.tables a.node) (are_known s.tables b.node) ka kb) refl
      (subst (λ c. IsValue (typing (scope_of s) c) (pointing (tree s t))) (sym (core-PointerOperate s.tables (signature_of s.tables) at op a.node b.node)) value) tt)

  moved_value : (op : PointerOperator) (x y : Typing) (t : SourceType) → moves op ≡ true → points_to_object x ≡ true → Points x t → is_integer y ≡ true → IsValue (pointer_operated op x y) (pointing t)
  moved_value pointer.Add x y t m o p i = add-is x y t o p i
  moved_value pointer.Subtract x y t m o p i = subtract-is x y t o p i
  moved_value pointer.Less x y t m o p i = absurd (true≢false (sym m))
  moved_value pointer.Greater x y t m o p i = absurd (true≢false (sym m))
  moved_value pointer.LessEqual x y t m o p i = absurd (true≢false (sym m))
  moved_value pointer.GreaterEqual x y t m o p i = absurd (true≢false (sym m))
  moved_value pointer.Equal x y t m o p i = absurd (true≢false (sym m))
  moved_value pointer.NotEqual x y t m o p i = absurd (true≢false (sym m))
  moved_value pointer.Difference x y t m o p i = absurd (true≢false (sym m))

  -- a pointer and an integer
  pub moved-fine : (at : ℕ) (op : PointerOperator) (p : Value) (t : ℕ) (k : Kind) (i : Value) (e : Env) → moves op ≡ true → Classless e → When s e (Holds s e) → When s e (IsPlain s (tree s p.type) p e) → When s e (Fits s e i)
      → sort_of e.types p.type ≡ object_pointer t → Fine s (IsOperand s) e (row.moved at op p t k i e)
  moved-fine at op p t k i e m c h q f is = by (complete e t)
    where
      value_of : Value → Value
      value_of b = record (computed at (node.PointerOperate at op p.node b.node) p.type) { is_fixed = p.is_fixed && (elim b.number [ None ↦ false | Some z ↦ true ]) }

      by : (n : Bool) → Fine s (IsOperand s) e (onward (need n 30 at e) (λ _ g. onward (to_kind k i g) (λ b o. Made (value_of b) o)))
      by false = tt
      by true =
          onward-fine s (IsPlain s (integer k)) (IsOperand s) e (to_kind k i e) (λ b o. Made (value_of b) o) (to_kind-fine s scene k i e c h f)
          (λ b e1 g d held r. made-fine s (IsOperand s) e1 (value_of b) d held
          (λ w. let early = within-before e e1 s g w in
          let o = sorted s scene p e early (q early) (object_pointer t) is in
          let inside = part-inside s scene p e early (q early) (object_pointer t) is in
          moved-plain at op p b p (p.is_fixed && (elim b.number [ None ↦ false | Some z ↦ true ])) e1 (plain-later s (tree s p.type) e e1 p g (q early)) (q early).fits.numbers (r w).fits.numbers t o.same
          (moved_value op (typed s p.node) (typed s b.node) (tree s t) m (object-pointed s scene p e early (q early) t inside o) (points-to s scene p e early (q early) t o.same)
          (value-integer (typed s b.node) (integer k) refl (plain-value s (integer k) b e1 (r w))))))

  -- the integer stands on the left
  pub moved_right-fine : (at : ℕ) (k : Kind) (i p : Value) (t : ℕ) (e : Env) → Classless e → When s e (Holds s e) → When s e (IsPlain s (tree s p.type) p e) → When s e (Fits s e i)
      → sort_of e.types p.type ≡ object_pointer t → Fine s (IsOperand s) e (row.moved_right at k i p t e)
  moved_right-fine at k i p t e c h q f is = by (complete e t)
    where
      value_of : Value → Value
      value_of a = record (computed at (node.PointerOperate at pointer.Add a.node p.node) p.type) { is_fixed = p.is_fixed && (elim a.number [ None ↦ false | Some z ↦ true ]) }

      by : (n : Bool) → Fine s (IsOperand s) e (onward (need n 30 at e) (λ _ g. onward (to_kind k i g) (λ a o. Made (value_of a) o)))
      by false = tt
      by true =
          onward-fine s (IsPlain s (integer k)) (IsOperand s) e (to_kind k i e) (λ a o. Made (value_of a) o) (to_kind-fine s scene k i e c h f)
          (λ a e1 g d held r. made-fine s (IsOperand s) e1 (value_of a) d held
          (λ w. let early = within-before e e1 s g w in
          let o = sorted s scene p e early (q early) (object_pointer t) is in
          let inside = part-inside s scene p e early (q early) (object_pointer t) is in
          let value = plain-value s (integer k) a e1 (r w) in
          moved-plain at pointer.Add a p p (p.is_fixed && (elim a.number [ None ↦ false | Some z ↦ true ])) e1 (plain-later s (tree s p.type) e e1 p g (q early)) (r w).fits.numbers (q early).fits.numbers t o.same
          (add-right-is (typed s a.node) (typed s p.node) (tree s t) (integer-no-pointer (typed s a.node) (integer k) refl value) (value-integer (typed s a.node) (integer k) refl value)
          (object-pointed s scene p e early (q early) t inside o) (points-to s scene p e early (q early) t o.same))))

  -- two integers or enumerations
  pub by_kinds-fine : (at : ℕ) (op : BinaryOp) (o : Option Arith) (k l : Kind) (x y : Value) (e : Env) → Classless e → When s e (Holds s e) → When s e (Fits s e x) → When s e (Fits s e y)
      → Fine s (IsOperand s) e (row.by_kinds at op o k l x y e)
  by_kinds-fine at op None k l x y e c h f g = tt
  by_kinds-fine at op (Some a) k l x y e c h f g = on_kinds-fine s scene at a k l x y e c h f g
