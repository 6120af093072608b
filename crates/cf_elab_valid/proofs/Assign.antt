-- Assignments (5.17).
use Rattle.std.proofs.Common.{◌≡◌, ℕ, Bool, true, false, not, ◌&&◌, length, if◌then◌else◌, Option, Some, None, refl, sym, ap, subst, ◌∙◌, true≢false}
use Rattle.cf_base.specs.declared.arith.Arith.{Arith}
use Rattle.cf_base.specs.declared.kind.Kind.{Kind}
use Rattle.cf_base.specs.Promotion.{usual}
use Rattle.cf_types.specs.Operators.{is_shift}
use Rattle.cf_convert.specs.Constness.{is_const}
use Rattle.cf_syntax.specs.declared.operator.AssignOp.{AssignOp}
use Rattle.cf_core.specs.declared.node.Change.{Change}
use Rattle.cf_core.specs.declared.node.Change.TheVariants as change
use Rattle.cf_core.specs.declared.node.Core.TheVariants as node
use Rattle.cf_core.specs.FromClasses.{signature_of}
use Rattle.cf_core.specs.Numbers.{are_known}
use Rattle.cf_core.specs.Places.{is_scalar}
use Rattle.cf_core.specs.Typed.{typing}
use Rattle.cf_core.specs.Types.{SourceType, integer, enumeration, pointer, is_void}
use Rattle.cf_core.specs.Typing.{changes}
use Rattle.cf_core.specs.View.{change_of}
use Rattle.cf_core_typed.specs.Meets.{IsPlace}
use Rattle.cf_core_typed.proofs.Operators.{store-is, update-is, arithmetic-changes, pointer-changes, right-operand}
use Rattle.cf_core_typed.proofs.Same.{and-both, and-left, and-right, same-scalar}
use Rattle.cf_core_typed.proofs.Values.{place-same, value-integer}
use Rattle.cf_elab.specs.Answer.{Answer, Made, Refused, Passed, onward, need}
use Rattle.cf_elab.specs.Binary.{operation}
use Rattle.cf_elab.specs.Choice as row
use Rattle.cf_elab.specs.Choice.{updating, operand_kind, operator_kind, binary_of, moves}
use Rattle.cf_elab.specs.Complete.{complete}
use Rattle.cf_elab.specs.Env.{Env}
use Rattle.cf_elab.specs.Fit.{to_kind}
use Rattle.cf_elab.specs.Operand.{Value, Sort, integral, enumeral, object_pointer, void_pointer, function_pointer, data_pointer, method_pointer, class_sort, array_sort, function_sort, void_sort, reference_sort, sort_of, arithmetic, is_array, is_function, place_of, plain}
use Rattle.cf_elab.specs.Unary.{modifiable}
use Rattle.cf_elab.specs.UserFit.{fit}
use Rattle.cf_elab_valid.specs.Answers.{Fine}
use Rattle.cf_elab_valid.specs.Scene.{Scene, IsScene, tree, typed, scope_of, Classless, Holds, Fits, IsPlain, Meets}
use Rattle.cf_elab_valid.specs.Sorts.{SortIs}
use Rattle.cf_elab_valid.proofs.Arithmetic.{IsOperand}
use Rattle.cf_elab_valid.proofs.Early.{SortInside, early-known, early-sort-is, early-sort-inside}
use Rattle.cf_elab_valid.proofs.FitRows.{user_fit-fine, to_kind-fine}
use Rattle.cf_elab_valid.proofs.Nodes.{core-Store, core-Update, known-Store, known-Update}
use Rattle.cf_elab_valid.proofs.Plain.{decayed_tree, plain-fine}
use Rattle.cf_elab_valid.proofs.Stepping.{modifiable-place}
use Rattle.cf_elab_valid.proofs.Trees.{tree-normal}
use Rattle.cf_elab_valid.proofs.Unary.{no-reference}
use Rattle.cf_elab_valid.proofs.Values.{plain-value, place-fits, place-no-void, place-no-reference}
use Rattle.cf_elab_valid.proofs.Ways.{fits-later, fits-when, made-fine, onward-fine, within-before, When}

not_false : (b : Bool) → not b ≡ true → b ≡ false
not_false true h = absurd (true≢false (sym h))
not_false false h = refl

modifiable-array : (e : Env) (v : Value) → modifiable e v ≡ true → is_array (sort_of e.types v.type) ≡ false
modifiable-array e v h =
    not_false (is_array (sort_of e.types v.type))
    (and-right (v.is_lvalue && not (is_const e.types v.type)) (not (is_array (sort_of e.types v.type)))
    (and-left (v.is_lvalue && not (is_const e.types v.type) && not (is_array (sort_of e.types v.type))) (not (is_function (sort_of e.types v.type))) h))

modifiable-function : (e : Env) (v : Value) → modifiable e v ≡ true → is_function (sort_of e.types v.type) ≡ false
modifiable-function e v h =
    not_false (is_function (sort_of e.types v.type))
    (and-right (v.is_lvalue && not (is_const e.types v.type) && not (is_array (sort_of e.types v.type))) (not (is_function (sort_of e.types v.type))) h)

-- what may be changed and is no void is a scalar
scalar_sort : (s : Scene) (k : Sort) (u : SourceType) → is_array k ≡ false → is_function k ≡ false → is_void u ≡ false → SortIs s.tables k u → is_scalar u ≡ true
scalar_sort s (integral k) u a f v is = same-scalar u (integer k) is
scalar_sort s (enumeral e) u a f v is = same-scalar u (enumeration is.name) is.same
scalar_sort s (object_pointer t) u a f v is = same-scalar u (pointer (tree s t)) is.same
scalar_sort s void_pointer u a f v is = same-scalar u (pointer (tree s is.pointee)) is.same
scalar_sort s (function_pointer t) u a f v is = same-scalar u (pointer (tree s t)) is.same
scalar_sort s void_sort u a f v is = absurd (true≢false (sym is ∙ v))
scalar_sort s (reference_sort t) u a f v is = ap is_scalar is.same
scalar_sort s (data_pointer c t) u a f v is = absurd is
scalar_sort s (method_pointer c g) u a f v is = absurd is
scalar_sort s (class_sort c) u a f v is = absurd is
scalar_sort s (array_sort t n) u a f v is = absurd (true≢false a)
scalar_sort s (function_sort g) u a f v is = absurd (true≢false f)

module _ (s : Scene) (scene : IsScene s) where
  lvalue_place : (v : Value) (e : Env) → v.is_lvalue ≡ true → Fits s e v → IsPlace (typed s v.node) (tree s v.type)
  lvalue_place v e l f = subst (λ b. Meets b (typed s v.node) (tree s v.type)) l f.meets

  updated-fits : (at : ℕ) (v x : Value) (c : Change) (e : Env) → v.is_lvalue ≡ true → Fits s e v → are_known s.tables x.node ≡ true
      → changes (change_of c) (typed s v.node).place (typed s x.node) ≡ true → Fits s e (place_of at (node.Update at v.node c x.node) v.type false)
  updated-fits at v x c e l f known ok =
      place-fits s e at v.type (node.Update at v.node c x.node) None false f.inside (known-Update s.tables at v.node c x.node ∙ and-both (are_known s.tables v.node) (are_known s.tables x.node) f.numbers known)
      (place-no-void v.is_lvalue (tree s v.type) l f.allowed) (place-no-reference v.is_lvalue (tree s v.type) l f.allowed)
      (subst (λ n. IsPlace (typing (scope_of s) n) (tree s v.type)) (sym (core-Update s.tables (signature_of s.tables) at v.node c x.node))
      (update-is (scope_of s) (typed s v.node) (tree s v.type) (changes (change_of c) (typed s v.node).place (typed s x.node)) ok (lvalue_place v e l f))) tt

  -- `=`
  pub stored-fine : (at : ℕ) (v x : Value) (e : Env) → Classless e → When s e (Holds s e) → When s e (Fits s e v) → When s e (Fits s e x)
      → Fine s (IsOperand s) e (row.stored at v x e)
  stored-fine at v x e c h f g = by (modifiable e v) refl
    where
      stored-fits : (a : Value) (e1 : Env) → v.is_lvalue ≡ true → is_scalar (tree s v.type) ≡ true → Fits s e1 v → IsPlain s (tree s v.type) a e1 → Fits s e1 (place_of at (node.Store at v.node a.node) v.type false)
      stored-fits a e1 l scalar f p =
          place-fits s e1 at v.type (node.Store at v.node a.node) None false f.inside (known-Store s.tables at v.node a.node ∙ and-both (are_known s.tables v.node) (are_known s.tables a.node) f.numbers p.fits.numbers)
          (place-no-void v.is_lvalue (tree s v.type) l f.allowed) (place-no-reference v.is_lvalue (tree s v.type) l f.allowed)
          (subst (λ n. IsPlace (typing (scope_of s) n) (tree s v.type)) (sym (core-Store s.tables (signature_of s.tables) at v.node a.node))
          (store-is (scope_of s) (typed s v.node) (typed s a.node) (tree s v.type) scalar (lvalue_place v e1 l f) (plain-value s (tree s v.type) a e1 p))) tt

      by : (m : Bool) → modifiable e v ≡ m → Fine s (IsOperand s) e (onward (need m 12 at e) (λ _ k. onward (fit at x v.type k) (λ a n. Made (place_of at (node.Store at v.node a.node) v.type false) n)))
      by false is = tt
      by true is =
          onward-fine s (IsPlain s (tree s v.type)) (IsOperand s) e (fit at x v.type e) _ (user_fit-fine s scene e x c h g at v.type (λ w. (f w).inside) (λ w. no-reference s scene e w v (f w)))
          (λ a e1 k d held p. made-fine s (IsOperand s) e1 (place_of at (node.Store at v.node a.node) v.type false) d held
          (λ w. let early = within-before e e1 s k w in
          let l = modifiable-place e v is in
          let scalar = scalar_sort s (sort_of e.types v.type) (tree s v.type) (modifiable-array e v is) (modifiable-function e v is) (place-no-void v.is_lvalue (tree s v.type) l (f early).allowed)
          (early-sort-is s.tables scene.table e.types early.types scene.no_class scene.none_to_reference v.type (f early).inside) in
          stored-fits a e1 l scalar (fits-later s e e1 v k (f early)) (p w)))

  -- ---- `op=`

  -- no value comes of what is not combined
  not_combined-fine : (at : ℕ) (o : Arith) (v x : Value) (e : Env) → Fine s (IsOperand s) e (row.not_combined at o v x e)
  not_combined-fine at o v x e = by (operation at (binary_of o) v x e)
    where
      never : (a : Answer Value) → Fine s (IsOperand s) e (onward a (λ b f. Refused 18 at))
      never (Made b f) = tt
      never (Refused rule place) = tt
      never (Passed bound most) = tt

      by : (a : Answer Value) → Fine s (IsOperand s) e (onward a (λ z f. onward (fit at z v.type f) (λ b g. Refused 18 at)))
      by (Made z f) = never (fit at z v.type f)
      by (Refused rule place) = tt
      by (Passed bound most) = tt

  combined-fine : (at : ℕ) (o : Arith) (v x : Value) (e : Env) → Classless e → When s e (Holds s e) → When s e (Fits s e v) → When s e (Fits s e x) → v.is_lvalue ≡ true
      → (k : Sort) → sort_of e.types v.type ≡ k → (a b : Option Kind) → Fine s (IsOperand s) e (row.combined at o v x k a b e)
  combined-fine at o v x e c h f g l (integral k) is (Some p) (Some q) =
      onward-fine s (IsPlain s (integer (operand_kind o p q))) (IsOperand s) e (to_kind (operand_kind o p q) x e) _ (to_kind-fine s scene (operand_kind o p q) x e c h g)
      (λ y e1 m d held r. made-fine s (IsOperand s) e1 (place_of at (node.Update at v.node (change.Arithmetic o (operator_kind o p q) k) y.node) v.type false) d held
      (λ w. let early = within-before e e1 s m w in
      let here = subst (λ k. SortIs s.tables k (tree s v.type)) is (early-sort-is s.tables scene.table e.types early.types scene.no_class scene.none_to_reference v.type (f early).inside) in
      updated-fits at v y (change.Arithmetic o (operator_kind o p q) k) e1 l (fits-later s e e1 v m (f early)) (r w).fits.numbers
      (arithmetic-changes o (operator_kind o p q) k (typed s v.node) (typed s y.node)
      (right-operand o (operator_kind o p q) (operand_kind o p q) (typed s y.node) (same_kind (is_shift o)) (plain-value s (integer (operand_kind o p q)) y e1 (r w)))
      (place-same (typed s v.node) (tree s v.type) (integer k) here (lvalue_place v e l (f early))))))
    where
      same_kind : (b : Bool) → b ≡ false → (if b then q else usual p q) ≡ (if b then p else usual p q)
      same_kind true h = absurd (true≢false h)
      same_kind false h = refl
  combined-fine at o v x e c h f g l (object_pointer t) is None (Some q) = by (moves o)
    where
      moved : (back : Bool) (m : Bool) → Fine s (IsOperand s) e (onward (need m 30 at e) (λ _ k. onward (to_kind q x k) (λ a n. Made (place_of at (node.Update at v.node (change.Moved back) a.node) v.type false) n)))
      moved back false = tt
      moved back true =
          onward-fine s (IsPlain s (integer q)) (IsOperand s) e (to_kind q x e) _ (to_kind-fine s scene q x e c h g)
          (λ y e1 m d held r. made-fine s (IsOperand s) e1 (place_of at (node.Update at v.node (change.Moved back) y.node) v.type false) d held
          (λ w. let early = within-before e e1 s m w in
          let here = subst (λ k. SortIs s.tables k (tree s v.type)) is (early-sort-is s.tables scene.table e.types early.types scene.no_class scene.none_to_reference v.type (f early).inside) in
          let inside = subst (SortInside (length e.types.types)) is (early-sort-inside s.tables scene.table e.types early.types v.type (f early).inside) in
          updated-fits at v y (change.Moved back) e1 l (fits-later s e e1 v m (f early)) (r w).fits.numbers
          (pointer-changes back (tree s t) (typed s v.node) (typed s y.node) (tree-normal s.tables scene.table t (early-known s.tables scene.table e.types early.types t inside)) here.no_function here.no_void
          (value-integer (typed s y.node) (integer q) refl (plain-value s (integer q) y e1 (r w))) (place-same (typed s v.node) (tree s v.type) (pointer (tree s t)) here.same (lvalue_place v e l (f early))))))

      by : (o : Option Bool) → Fine s (IsOperand s) e (row.moved_pointer at v t q x o e)
      by None = tt
      by (Some back) = moved back (complete e t)
  combined-fine at o v x e c h f g l (integral k) is None b = not_combined-fine at o v x e
  combined-fine at o v x e c h f g l (integral k) is (Some p) None = not_combined-fine at o v x e
  combined-fine at o v x e c h f g l (enumeral n) is None b = not_combined-fine at o v x e
  combined-fine at o v x e c h f g l (enumeral n) is (Some p) None = not_combined-fine at o v x e
  combined-fine at o v x e c h f g l (enumeral n) is (Some p) (Some q) = not_combined-fine at o v x e
  combined-fine at o v x e c h f g l (object_pointer t) is None None = not_combined-fine at o v x e
  combined-fine at o v x e c h f g l (object_pointer t) is (Some p) b = not_combined-fine at o v x e
  combined-fine at o v x e c h f g l k is a b = not_combined-fine at o v x e

  pub update-fine : (at : ℕ) (o : Arith) (v y : Value) (e : Env) → Classless e → When s e (Holds s e) → When s e (Fits s e v) → When s e (Fits s e y) → Fine s (IsOperand s) e (row.update at o v y e)
  update-fine at o v y e c h f g = by (modifiable e v) refl
    where
      by : (m : Bool) → modifiable e v ≡ m
          → Fine s (IsOperand s) e (onward (need m 12 at e) (λ _ k. onward (plain y k) (λ x n. row.combined at o v x (sort_of n.types v.type) (arithmetic (sort_of n.types v.type)) (arithmetic (sort_of n.types x.type)) n)))
      by false is = tt
      by true is =
          onward-fine s (IsPlain s (decayed_tree s y.type (sort_of e.types y.type))) (IsOperand s) e (plain y e) _ (plain-fine s scene e y c h g)
          (λ x e1 m d held p. combined-fine at o v x e1 d held (fits-when s e e1 v m f) (λ w. (p w).fits) (modifiable-place e v is) (sort_of e1.types v.type) refl (arithmetic (sort_of e1.types v.type)) (arithmetic (sort_of e1.types x.type)))

  -- of a place that is no class object
  pub assignment-fine : (at : ℕ) (o : AssignOp) (v x : Value) (e : Env) → Classless e → When s e (Holds s e) → When s e (Fits s e v) → When s e (Fits s e x)
      → Fine s (IsOperand s) e (row.assignment at o v x e)
  assignment-fine at o v x e c h f g = by (updating o)
    where
      by : (p : Option Arith) → Fine s (IsOperand s) e (row.by_operator at p v x e)
      by None = stored-fine at v x e c h f g
      by (Some p) = update-fine at p v x e c h f g
