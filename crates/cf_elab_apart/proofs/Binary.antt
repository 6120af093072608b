-- Binary operators by the sorts of their operands (5.6 to 5.15).
use Rattle.std.proofs.Common.{◌≡◌, ℕ, Bool, true, false, ◌&&◌, [], ◌∷◌, ℤ, Option, Some, None, is_some, refl, sym, subst, ◌∙◌, true≢false}
use Rattle.cf_base.specs.declared.kind.Kind.{Kind}
use Rattle.cf_base.specs.declared.arith.Arith.{Arith}
use Rattle.cf_convert.specs.Converts.{steps}
use Rattle.cf_syntax.specs.declared.operator.BinaryOp.{BinaryOp}
use Rattle.cf_syntax.specs.declared.operator.BinaryOp.TheVariants as binary
use Rattle.cf_core.specs.declared.operators.PointerOperator.{PointerOperator}
use Rattle.cf_core.specs.declared.operators.PointerOperator.TheVariants as pointer
use Rattle.cf_core.specs.declared.node.Core.TheVariants as node
use Rattle.cf_core.specs.Types.{integer}
use Rattle.cf_core_typed.proofs.Same.{and-left, and-right}
use Rattle.cf_elab.specs.Answer.{Made, Refused, Elab, onward, need}
use Rattle.cf_elab.specs.Arithmetic.{on_kinds}
use Rattle.cf_elab.specs.Binary as row
use Rattle.cf_elab.specs.ClassOperand.{scalar}
use Rattle.cf_elab.specs.ClassOperators as operators
use Rattle.cf_elab.specs.ClassOperators.{binary_number, operand_rule}
use Rattle.cf_elab.specs.Complete.{complete}
use Rattle.cf_elab.specs.Env.{Env}
use Rattle.cf_elab.specs.Fit.{to_kind}
use Rattle.cf_elab.specs.Operand.{Value, val, defs, Sort, object_pointer, void_pointer, data_pointer, method_pointer, void_sort, sort_of, arithmetic, computed, plain}
use Rattle.cf_elab_valid.specs.Scene.{Scene, IsScene, Classless, Holds}
use Rattle.cf_elab_valid.proofs.FitRows.{needed}
use Rattle.cf_elab_valid.proofs.Operands.{no-function}
use Rattle.cf_elab_valid.proofs.Plain.{decayed_tree}
use Rattle.cf_elab_valid.proofs.Ways.{within-before, When}
use Rattle.cf_elab_apart.specs.Apart.{Apart}
use Rattle.cf_elab_apart.proofs.Alike.{alike-PointerOperate}
use Rattle.cf_elab_apart.proofs.Answers.{Tells, tells-fine, tells-behind, tells-still}
use Rattle.cf_elab_apart.proofs.Bare.{with_null-bare, same_objects-bare, void_equality-bare, members-bare, bare-tells}
use Rattle.cf_elab_apart.proofs.Fit.{Both, both-when, PlainBoth, plain-both}
use Rattle.cf_elab_apart.proofs.Operators.{to_kind-both, on_kinds-apart, conjunction-apart, disjunction-apart}
use Rattle.cf_elab_apart.proofs.Settled.{fixed-apart}
use Rattle.cf_elab_apart.proofs.Unary.{plain-operand, by-scalar}

-- as rows ask for a number
number-told : (o : Option ℤ) → (elim o as (λ _. Bool) [ None ↦ false | Some z ↦ true ]) ≡ true → is_some o ≡ true
number-told None h = absurd (true≢false (sym h))
number-told (Some z) h = refl

module _ (s : Scene) (scene : IsScene s) where
  -- ---- pointers that are moved

  moved-tells : (at : ℕ) (op : PointerOperator) (p : Value) (t : ℕ) (k : Kind) (i : Value) (e : Env) → Classless e → When s e (Holds s e) → When s e (Both s p e) → When s e (Both s i e) → Tells s (Apart s) (row.moved at op p t k i e)
  moved-tells at op p t k i e c h bp bi =
      tells-still s (Apart s) e (need (complete e t) 30 at e) (λ g. onward (to_kind k i g) (λ b f. Made (value_of b) f)) (needed e (complete e t) 30 at)
      (tells-behind s (PlainBoth s (integer k)) (Apart s) e (to_kind k i e) (λ b f. Made (value_of b) f) (to_kind-both s scene k i e c h bi)
      (λ b e1 g d held q w. fixed-apart s (value_of b) refl
      (λ f. alike-PointerOperate s at op p.node b.node ((bp (within-before e e1 s g w)).1.fixed (and-left p.is_fixed (elim b.number as (λ _. Bool) [ None ↦ false | Some z ↦ true ]) f))
      ((q w).1.number (q w).0.no_place (number-told b.number (and-right p.is_fixed (elim b.number as (λ _. Bool) [ None ↦ false | Some z ↦ true ]) f))))))
    where
      value_of : Value → Value
      value_of b = record (computed at (node.PointerOperate at op p.node b.node) p.type) { is_fixed = p.is_fixed && (elim b.number as (λ _. Bool) [ None ↦ false | Some z ↦ true ]) }

  moved_right-tells : (at : ℕ) (k : Kind) (i p : Value) (t : ℕ) (e : Env) → Classless e → When s e (Holds s e) → When s e (Both s p e) → When s e (Both s i e) → Tells s (Apart s) (row.moved_right at k i p t e)
  moved_right-tells at k i p t e c h bp bi =
      tells-still s (Apart s) e (need (complete e t) 30 at e) (λ g. onward (to_kind k i g) (λ a f. Made (value_of a) f)) (needed e (complete e t) 30 at)
      (tells-behind s (PlainBoth s (integer k)) (Apart s) e (to_kind k i e) (λ a f. Made (value_of a) f) (to_kind-both s scene k i e c h bi)
      (λ a e1 g d held q w. fixed-apart s (value_of a) refl
      (λ f. alike-PointerOperate s at pointer.Add a.node p.node ((q w).1.number (q w).0.no_place (number-told a.number (and-right p.is_fixed (elim a.number as (λ _. Bool) [ None ↦ false | Some z ↦ true ]) f)))
      ((bp (within-before e e1 s g w)).1.fixed (and-left p.is_fixed (elim a.number as (λ _. Bool) [ None ↦ false | Some z ↦ true ]) f)))))
    where
      value_of : Value → Value
      value_of a = record (computed at (node.PointerOperate at pointer.Add a.node p.node) p.type) { is_fixed = p.is_fixed && (elim a.number as (λ _. Bool) [ None ↦ false | Some z ↦ true ]) }

  -- ---- by the sorts

  module _ (at : ℕ) (op : BinaryOp) (x y : Value) (e : Env) (c : Classless e) (h : When s e (Holds s e)) (bx : When s e (Both s x e)) (by : When s e (Both s y e)) where
    kinds-tells : (o : Option Arith) (k l : Kind) → Tells s (Apart s) (row.by_kinds at op o k l x y e)
    kinds-tells None k l = tt
    kinds-tells (Some a) k l = tells-fine s (Apart s) e (on_kinds at a k l x y e) (on_kinds-apart s scene at a k l x y e c h bx by)

    pointer-tells : (o : Option PointerOperator) (t : ℕ) (k : Kind) → Tells s (Apart s) (row.pointer_and_integer at op o x t k y e)
    pointer-tells None t k = bare-tells s (row.with_null at op x y e) (with_null-bare at op x y e)
    pointer-tells (Some p) t k = moved-tells at p x t k y e c h bx by

    integer-tells : (o : BinaryOp) (k : Kind) (t : ℕ) → Tells s (Apart s) (row.integer_and_pointer at o x k y t e)
    integer-tells binary.Add k t = moved_right-tells at k x y t e c h by bx
    integer-tells o k t = bare-tells s (row.with_null at o x y e) (with_null-bare at o x y e)

    sorts-tells : (k l : Sort) (a b : Option Kind) → Tells s (Apart s) (row.by_sorts at op x y k l a b e)
    sorts-tells k l (Some m) (Some n) = kinds-tells (row.integer_operator op) m n
    sorts-tells (object_pointer t) l None (Some n) = pointer-tells (row.add_or_subtract op) t n
    sorts-tells k (object_pointer t) (Some m) None = integer-tells op m t
    sorts-tells void_sort l None (Some n) = tt
    sorts-tells k void_sort (Some m) None = tt
    sorts-tells k l None (Some n) = bare-tells s (row.with_null at op x y e) (with_null-bare at op x y e)
    sorts-tells k l (Some m) None = bare-tells s (row.with_null at op x y e) (with_null-bare at op x y e)
    sorts-tells (object_pointer t) (object_pointer u) None None = bare-tells s _ (same_objects-bare at x y t u (row.ordering op) (row.equality op) e)
    sorts-tells (object_pointer t) void_pointer None None = bare-tells s _ (void_equality-bare at (row.equality op) x y (row.pointed e.types y.type) t e)
    sorts-tells void_pointer (object_pointer u) None None = bare-tells s _ (void_equality-bare at (row.equality op) x y (row.pointed e.types x.type) u e)
    sorts-tells void_pointer void_pointer None None = bare-tells s _ (void_equality-bare at (row.equality op) x y (row.pointed e.types x.type) (row.pointed e.types y.type) e)
    sorts-tells (data_pointer d t) (data_pointer f u) None None = go (row.equality op)
      where
        go : (o : Option PointerOperator) → (let run : Elab Value = elim o [
          | None ↦ (λ f. Refused 18 at)
          | Some q ↦ (λ f. onward (row.first_fit at x y x.type y.type (steps f.types (defs f) (val x) y.type) (steps f.types (defs f) (val y) x.type) f) (row.of_pointers at q))
        ] in Tells s (Apart s) (run e))
        go None = tt
        go (Some q) = bare-tells s _ (members-bare at x y (steps e.types (defs e) (val x) y.type) (steps e.types (defs e) (val y) x.type) q e)
    sorts-tells (method_pointer d f) (method_pointer g k) None None = go (row.equality op)
      where
        go : (o : Option PointerOperator) → (let run : Elab Value = elim o [ None ↦ (λ f. Refused 18 at) | Some q ↦ (λ f. Refused 48 at) ] in Tells s (Apart s) (run e))
        go None = tt
        go (Some q) = tt
    sorts-tells k l None None = tt

  -- ---- the row

  read-tells : (at : ℕ) (op : BinaryOp) (x y : Value) (e : Env) → Classless e → When s e (Holds s e) → When s e (Both s x e) → When s e (Both s y e)
      → Tells s (Apart s) (onward (plain x e) (λ a f. onward (plain y f) (λ b g. row.by_sorts at op a b (sort_of g.types a.type) (sort_of g.types b.type) (arithmetic (sort_of g.types a.type)) (arithmetic (sort_of g.types b.type)) g)))
  read-tells at op x y e c h bx by =
      tells-behind s (PlainBoth s (decayed_tree s x.type (sort_of e.types x.type))) (Apart s) e (plain x e) _ (plain-both s scene e x c h bx)
      (λ a e1 g1 c1 h1 p. tells-behind s (PlainBoth s (decayed_tree s y.type (sort_of e1.types y.type))) (Apart s) e1 (plain y e1) _ (plain-both s scene e1 y c1 h1 (both-when s e e1 y g1 by))
      (λ b e2 g2 c2 h2 q. sorts-tells at op a b e2 c2 h2 (plain-operand s e1 e2 (decayed_tree s x.type (sort_of e.types x.type)) a g2 p) (λ w. ((q w).0.fits, (q w).1))
      (sort_of e2.types a.type) (sort_of e2.types b.type) (arithmetic (sort_of e2.types a.type)) (arithmetic (sort_of e2.types b.type))))

  operation-tells : (at : ℕ) (op : BinaryOp) (x y : Value) (e : Env) → Classless e → When s e (Holds s e) → When s e (Both s x e) → When s e (Both s y e) → Tells s (Apart s) (row.operation at op x y e)
  operation-tells at binary.LogicalAnd x y e c h bx by = tells-fine s (Apart s) e (row.operation at binary.LogicalAnd x y e) (conjunction-apart s scene at x y e c h bx by)
  operation-tells at binary.LogicalOr x y e c h bx by = tells-fine s (Apart s) e (row.operation at binary.LogicalOr x y e) (disjunction-apart s scene at x y e c h bx by)
  operation-tells at op x y e c h bx by = read-tells at op x y e c h bx by

  pub binary_operator-tells : (at : ℕ) (op : BinaryOp) (x y : Value) (e : Env) → Classless e → When s e (Holds s e) → When s e (Both s x e) → When s e (Both s y e) → Tells s (Apart s) (operators.binary_operator at op x y e)
  binary_operator-tells at op x y e c h bx by =
      subst (Tells s (Apart s)) (sym (no-function at (binary_number op) x (y ∷ []) true (operators.on_scalars at op x y) e c))
      (by-scalar s scene (operand_rule op) at x (λ a k. onward (scalar (operand_rule op) at y k) (row.operation at op a)) e c
      (by-scalar s scene (operand_rule op) at y (row.operation at op x) e c (operation-tells at op x y e c h bx by)))
