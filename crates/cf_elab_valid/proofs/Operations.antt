-- Binary operators by the sorts of their operands (5.6 to 5.15).
use Rattle.std.proofs.Common.{◌≡◌, inl, inr, ℕ, true, false, List, [], ◌∷◌, Option, Some, None, refl, sym, ap, subst, ◌∙◌, true≢false}
use Rattle.cf_base.specs.declared.kind.Kind.{Kind}
use Rattle.cf_base.specs.declared.kind.Kind.TheVariants as kind
use Rattle.cf_convert.specs.Converts.{steps}
use Rattle.cf_convert.specs.declared.conv.ConvStep.{ConvStep}
use Rattle.cf_syntax.specs.declared.operator.BinaryOp.{BinaryOp}
use Rattle.cf_syntax.specs.declared.operator.BinaryOp.TheVariants as binary
use Rattle.cf_core.specs.declared.operators.PointerOperator.{PointerOperator}
use Rattle.cf_core.specs.declared.operators.PointerOperator.TheVariants as pointer
use Rattle.cf_core.specs.Types.{array, integer}
use Rattle.cf_core_typed.specs.Same.{is_operand}
use Rattle.cf_core_typed.proofs.Same.{function-operand, same-operand}
use Rattle.cf_elab.specs.Answer.{Made, Refused, Elab, onward}
use Rattle.cf_elab.specs.Binary as row
use Rattle.cf_elab.specs.ClassOperand.{scalar}
use Rattle.cf_elab.specs.ClassOperators as operators
use Rattle.cf_elab.specs.ClassOperators.{binary_number, operand_rule}
use Rattle.cf_elab.specs.Env.{Env}
use Rattle.cf_elab.specs.Fit.{fit, converted}
use Rattle.cf_elab.specs.Operand.{Value, val, defs, Sort, integral, enumeral, object_pointer, void_pointer, function_pointer, data_pointer, method_pointer, class_sort, array_sort, function_sort, void_sort, reference_sort, sort_of, is_void, arithmetic, plain}
use Rattle.cf_elab_valid.specs.Answers.{Fine}
use Rattle.cf_elab_valid.specs.Scene.{Scene, IsScene, tree, Within, Classless, Holds, Fits, IsPlain, is_allowed}
use Rattle.cf_elab_valid.proofs.Arithmetic.{IsOperand, plain-operand, conjunction-fine, disjunction-fine}
use Rattle.cf_elab_valid.proofs.Binary.{moves, moved-fine, moved_right-fine, by_kinds-fine}
use Rattle.cf_elab_valid.proofs.Compared.{of_pointers-fine, same_objects-fine, void_pointee, void_equality-fine}
use Rattle.cf_elab_valid.proofs.FitRows.{converted-fine, converted-later, fit-fine}
use Rattle.cf_elab_valid.proofs.Nulls.{PointsOrNever, is_pointing, pointing, with_null-right, with_null-left}
use Rattle.cf_elab_valid.proofs.Operands.{no-function, by-scalar}
use Rattle.cf_elab_valid.proofs.Options.{some_is}
use Rattle.cf_elab_valid.proofs.Plain.{decayed_tree, plain-fine}
use Rattle.cf_elab_valid.proofs.Unary.{plain-own, sorted}
use Rattle.cf_elab_valid.proofs.Values.{plain-when}
use Rattle.cf_elab_valid.proofs.Ways.{fine-as, fits-when, made-fine, onward-fine, within-before, When}

adds : (op : BinaryOp) (p : PointerOperator) → row.add_or_subtract op ≡ Some p → moves p ≡ true
adds binary.Add p is = subst (λ o. moves o ≡ true) (some_is pointer.Add p is) refl
adds binary.Subtract p is = subst (λ o. moves o ≡ true) (some_is pointer.Subtract p is) refl
adds op p is = absurd cc

module _ (s : Scene) (scene : IsScene s) where
  operand_told : (x : Value) (e : Env) → IsPlain s (tree s x.type) x e → is_operand (tree s x.type) ≡ true
  operand_told x e p = subst (λ b. is_allowed b (tree s x.type) ≡ true) p.no_place p.fits.allowed

  -- what is no integer and not void is a pointer
  points_or_never : (x : Value) (e : Env) → When s e (IsPlain s (tree s x.type) x e) → (k : Sort) → sort_of e.types x.type ≡ k → arithmetic k ≡ None → is_void k ≡ false → PointsOrNever s scene e x.type
  points_or_never x e p (integral k) is a v = absurd cc
  points_or_never x e p (enumeral k) is a v = absurd cc
  points_or_never x e p (object_pointer t) is a v = inl (pointing e x.type (ap is_pointing is))
  points_or_never x e p void_pointer is a v = inl (pointing e x.type (ap is_pointing is))
  points_or_never x e p (function_pointer t) is a v = inl (pointing e x.type (ap is_pointing is))
  points_or_never x e p (data_pointer c t) is a v = inr (λ w. sorted s scene x e w (p w) (data_pointer c t) is)
  points_or_never x e p (method_pointer c t) is a v = inr (λ w. sorted s scene x e w (p w) (method_pointer c t) is)
  points_or_never x e p (class_sort c) is a v = inr (λ w. sorted s scene x e w (p w) (class_sort c) is)
  points_or_never x e p (array_sort t n) is a v =
      inr (λ w. true≢false (sym (operand_told x e (p w)) ∙ same-operand (tree s x.type) (array (tree s t) n) (sorted s scene x e w (p w) (array_sort t n) is).same))
  points_or_never x e p (function_sort g) is a v =
      inr (λ w. true≢false (sym (operand_told x e (p w)) ∙ (function-operand (tree s x.type) (sorted s scene x e w (p w) (function_sort g) is)).0))
  points_or_never x e p void_sort is a v = absurd (true≢false v)
  points_or_never x e p (reference_sort t) is a v =
      inr (λ w. true≢false (sym (operand_told x e (p w)) ∙ ap is_operand (sorted s scene x e w (p w) (reference_sort t) is).same))

  module _ (at : ℕ) (op : BinaryOp) (x y : Value) (e : Env) (c : Classless e) (h : When s e (Holds s e)) (px : When s e (IsPlain s (tree s x.type) x e)) (py : When s e (IsPlain s (tree s y.type) y e)) where
    pointer_and_integer-fine : (t : ℕ) (k : Kind) → sort_of e.types x.type ≡ object_pointer t → arithmetic (sort_of e.types y.type) ≡ Some k
        → (o : Option PointerOperator) → ((p : PointerOperator) → o ≡ Some p → moves p ≡ true) → Fine s (IsOperand s) e (row.pointer_and_integer at op o x t k y e)
    pointer_and_integer-fine t k is a None m = with_null-right s scene at op x y e c h px py k (inl (pointing e x.type (ap is_pointing is))) a
    pointer_and_integer-fine t k is a (Some p) m = moved-fine s scene at p x t k y e (m p refl) c h px (λ w. (py w).fits) is

    integer_and_pointer-fine : (t : ℕ) (k : Kind) → sort_of e.types y.type ≡ object_pointer t → arithmetic (sort_of e.types x.type) ≡ Some k → Fine s (IsOperand s) e (row.integer_and_pointer at op x k y t e)
    integer_and_pointer-fine t k is a = by op
      where
        by : (o : BinaryOp) → Fine s (IsOperand s) e (row.integer_and_pointer at o x k y t e)
        by binary.Add = moved_right-fine s scene at k x y t e c h py (λ w. (px w).fits) is
        by o = with_null-left s scene at o x y e c h px py k (inl (pointing e y.type (ap is_pointing is))) a

    -- pointers to members, which no end leads to
    no_members : (Within e s → ⊥) → (q : PointerOperator) (o r : Option (List ConvStep)) → steps e.types (defs e) (val x) y.type ≡ o → steps e.types (defs e) (val y) x.type ≡ r
        → Fine s (IsOperand s) e (onward (row.first_fit at x y x.type y.type o r e) (row.of_pointers at q))
    no_members never q o r is js =
        onward-fine s Any (IsOperand s) e (row.first_fit at x y x.type y.type o r e) (row.of_pointers at q) (first o r is js)
        (λ ab e1 g c1 h1 p. of_pointers-fine s scene at q ab e1 c1 h1 (λ w. absurd (never (within-before e e1 s g w))))
      where
        Any : Value × Value → Env → Type 0
        Any ab f = Unit {0}

        first : (o r : Option (List ConvStep)) → steps e.types (defs e) (val x) y.type ≡ o → steps e.types (defs e) (val y) x.type ≡ r → Fine s Any e (row.first_fit at x y x.type y.type o r e)
        first (Some ss) r is js =
            onward-fine s (IsPlain s (tree s y.type)) Any e (converted at y.type ss x e) _
            (converted-fine s scene e x c h (λ w. (px w).fits) at y.type (λ w. absurd (never w)) (λ u ref w. never w) ss is)
            (λ m e1 g c1 h1 pm. onward-fine s (IsPlain s (tree s y.type)) Any e1 (fit at y y.type e1) (λ n f. Made (m, n) f)
            (fit-fine s scene e1 y c1 h1 (λ w. absurd (never (within-before e e1 s g w))) at y.type (λ w. absurd (never (within-before e e1 s g w))) (λ w. absurd (never (within-before e e1 s g w))))
            (λ n e2 g2 c2 h2 pn. made-fine s Any e2 (m, n) c2 h2 (λ w. tt)))
        first None (Some ss) is js =
            onward-fine s (IsPlain s (tree s x.type)) Any e (fit at x x.type e) _ (fit-fine s scene e x c h (λ w. (px w).fits) at x.type (λ w. absurd (never w)) (λ w. absurd (never w)))
            (λ m e1 g c1 h1 pm. onward-fine s (IsPlain s (tree s x.type)) Any e1 (converted at x.type ss y e1) (λ n f. Made (m, n) f)
            (converted-later s scene e y c (λ w. (py w).fits) e1 g c1 h1 at x.type (λ w. absurd (never w)) (λ u ref w. never w) ss js)
            (λ n e2 g2 c2 h2 pn. made-fine s Any e2 (m, n) c2 h2 (λ w. tt)))
        first None None is js = tt

    by_sorts-fine : (k l : Sort) (a b : Option Kind) → sort_of e.types x.type ≡ k → sort_of e.types y.type ≡ l → arithmetic k ≡ a → arithmetic l ≡ b → Fine s (IsOperand s) e (row.by_sorts at op x y k l a b e)
    by_sorts-fine k l (Some m) (Some n) is js ia jb = by_kinds-fine s scene at op (row.integer_operator op) m n x y e c h (λ w. (px w).fits) (λ w. (py w).fits)
    by_sorts-fine (object_pointer t) l None (Some n) is js ia jb = pointer_and_integer-fine t n is (ap arithmetic js ∙ jb) (row.add_or_subtract op) (adds op)
    by_sorts-fine k (object_pointer t) (Some m) None is js ia jb = integer_and_pointer-fine t m js (ap arithmetic is ∙ ia)
    by_sorts-fine void_sort l None (Some n) is js ia jb = tt
    by_sorts-fine k void_sort (Some m) None is js ia jb = tt
    by_sorts-fine k l None (Some n) is js ia jb = with_null-right s scene at op x y e c h px py n (points_or_never x e px k is ia refl) (ap arithmetic js ∙ jb)
    by_sorts-fine k l (Some m) None is js ia jb = with_null-left s scene at op x y e c h px py m (points_or_never y e py l js jb refl) (ap arithmetic is ∙ ia)
    by_sorts-fine (object_pointer t) (object_pointer u) None None is js ia jb = same_objects-fine s scene at op x y t u e c h px py is js
    by_sorts-fine (object_pointer t) void_pointer None None is js ia jb =
        void_equality-fine s scene at op x y (row.pointed e.types y.type) t e c h px py (λ w. void_pointee s scene y.type e w (py w).fits.inside js)
    by_sorts-fine void_pointer (object_pointer u) None None is js ia jb =
        void_equality-fine s scene at op x y (row.pointed e.types x.type) u e c h px py (λ w. void_pointee s scene x.type e w (px w).fits.inside is)
    by_sorts-fine void_pointer void_pointer None None is js ia jb =
        void_equality-fine s scene at op x y (row.pointed e.types x.type) (row.pointed e.types y.type) e c h px py (λ w. void_pointee s scene x.type e w (px w).fits.inside is)
    by_sorts-fine (data_pointer d t) (data_pointer f u) None None is js ia jb = by (row.equality op)
      where
        by : (o : Option PointerOperator) → (let run : Elab Value = elim o [
          | None ↦ (λ f. Refused 18 at)
          | Some q ↦ (λ f. onward (row.first_fit at x y x.type y.type (steps f.types (defs f) (val x) y.type) (steps f.types (defs f) (val y) x.type) f) (row.of_pointers at q))
        ] in Fine s (IsOperand s) e (run e))
        by None = tt
        by (Some q) =
            no_members (λ w. sorted s scene x e w (px w) (data_pointer d t) is) q (steps e.types (defs e) (val x) y.type) (steps e.types (defs e) (val y) x.type) refl refl
    by_sorts-fine (method_pointer d f) (method_pointer g k) None None is js ia jb = by (row.equality op)
      where
        by : (o : Option PointerOperator) → (let run : Elab Value = elim o [ None ↦ (λ f. Refused 18 at) | Some q ↦ (λ f. Refused 48 at) ] in Fine s (IsOperand s) e (run e))
        by None = tt
        by (Some q) = tt
    by_sorts-fine k l None None is js ia jb = tt

  -- ---- the row

  -- of values that are not read yet
  read-fine : (at : ℕ) (op : BinaryOp) (x y : Value) (e : Env) → Classless e → When s e (Holds s e) → When s e (Fits s e x) → When s e (Fits s e y)
      → Fine s (IsOperand s) e (onward (plain x e) (λ a f. onward (plain y f) (λ b g. row.by_sorts at op a b (sort_of g.types a.type) (sort_of g.types b.type) (arithmetic (sort_of g.types a.type)) (arithmetic (sort_of g.types b.type)) g)))
  read-fine at op x y e c h fx fy =
      onward-fine s (IsPlain s (decayed_tree s x.type (sort_of e.types x.type))) (IsOperand s) e (plain x e) _ (plain-fine s scene e x c h fx)
      (λ a e1 g1 c1 h1 pa. onward-fine s (IsPlain s (decayed_tree s y.type (sort_of e1.types y.type))) (IsOperand s) e1 (plain y e1) _ (plain-fine s scene e1 y c1 h1 (fits-when s e e1 y g1 fy))
      (λ b e2 g2 c2 h2 pb. by_sorts-fine at op a b e2 c2 h2 (plain-when s (tree s a.type) e1 e2 a g2 (λ w. plain-own s scene (decayed_tree s x.type (sort_of e.types x.type)) a e1 (pa w)))
      (λ w. plain-own s scene (decayed_tree s y.type (sort_of e1.types y.type)) b e2 (pb w)) (sort_of e2.types a.type) (sort_of e2.types b.type) (arithmetic (sort_of e2.types a.type)) (arithmetic (sort_of e2.types b.type)) refl refl refl refl))

  operation-fine : (at : ℕ) (op : BinaryOp) (x y : Value) (e : Env) → Classless e → When s e (Holds s e) → When s e (Fits s e x) → When s e (Fits s e y) → Fine s (IsOperand s) e (row.operation at op x y e)
  operation-fine at binary.LogicalAnd x y e c h fx fy =
      fine-as s (IsPlain s (integer kind.Int)) (IsOperand s) e (row.operation at binary.LogicalAnd x y e) (λ v f p. plain-operand s (integer kind.Int) v f p) (conjunction-fine s scene at x y e c h fx fy)
  operation-fine at binary.LogicalOr x y e c h fx fy =
      fine-as s (IsPlain s (integer kind.Int)) (IsOperand s) e (row.operation at binary.LogicalOr x y e) (λ v f p. plain-operand s (integer kind.Int) v f p) (disjunction-fine s scene at x y e c h fx fy)
  operation-fine at op x y e c h fx fy = read-fine at op x y e c h fx fy

  pub binary_operator-fine : (at : ℕ) (op : BinaryOp) (x y : Value) (e : Env) → Classless e → When s e (Holds s e) → When s e (Fits s e x) → When s e (Fits s e y)
      → Fine s (IsOperand s) e (operators.binary_operator at op x y e)
  binary_operator-fine at op x y e c h fx fy =
      subst (Fine s (IsOperand s) e) (sym (no-function at (binary_number op) x (y ∷ []) true (operators.on_scalars at op x y) e c))
      (by-scalar s scene (operand_rule op) at x (λ a k. onward (scalar (operand_rule op) at y k) (row.operation at op a)) e c (by-scalar s scene (operand_rule op) at y (row.operation at op x) e c (operation-fine at op x y e c h fx fy)))
