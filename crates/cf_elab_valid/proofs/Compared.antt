-- Pointers that are compared: with pointers to the same type, with void*, and with the constant 0 (5.9, 5.10).
use Rattle.std.proofs.Common.{◌≡◌, ◌⊎◌, inl, inr, ℕ, Bool, true, false, ◌&&◌, List, Option, Some, None, refl, sym, ap, subst, ◌∙◌}
use Rattle.cf_base.specs.declared.kind.Kind.TheVariants as kind
use Rattle.cf_types.specs.declared.ty.Ty.{Ty}
use Rattle.cf_types.specs.declared.ty.Ty.TheVariants as ty
use Rattle.cf_convert.specs.Constness.{type_at, bare, is_const}
use Rattle.cf_convert.specs.Converts.{steps}
use Rattle.cf_convert.specs.declared.conv.ConvStep.{ConvStep}
use Rattle.cf_syntax.specs.declared.operator.BinaryOp.{BinaryOp}
use Rattle.cf_syntax.specs.declared.operator.BinaryOp.TheVariants as binary
use Rattle.cf_core.specs.declared.operators.PointerOperator.{PointerOperator}
use Rattle.cf_core.specs.declared.operators.PointerOperator.TheVariants as pointer_op
use Rattle.cf_core.specs.declared.node.Core.TheVariants as node
use Rattle.cf_core.specs.FromClasses.{signature_of}
use Rattle.cf_core.specs.FromTypes.{type_step}
use Rattle.cf_core.specs.Numbers.{are_known}
use Rattle.cf_core.specs.Typed.{typing}
use Rattle.cf_core.specs.Types.{SourceType, integer, pointer, without_const, is_void}
use Rattle.cf_core.specs.Typing.{is_function, pointer_operated}
use Rattle.cf_core_typed.specs.Same.{Same, is_normal}
use Rattle.cf_core_typed.specs.Meets.{IsValue}
use Rattle.cf_core_typed.proofs.Pointers.{is_order, is_equality, order-is, equality-is, objects-equal}
use Rattle.cf_core_typed.proofs.Same.{and-both, function-normal, same-function}
use Rattle.cf_core_typed.proofs.Values.{points-object, value-points}
use Rattle.cf_elab.specs.Answer.{Made, onward, need}
use Rattle.cf_elab.specs.Binary as row
use Rattle.cf_elab.specs.Complete.{complete}
use Rattle.cf_elab.specs.Env.{Env}
use Rattle.cf_elab.specs.Fit.{fit, converted}
use Rattle.cf_elab.specs.Made.{const_if, pointer_to}
use Rattle.cf_elab.specs.Operand.{Value, val, defs, computed, object_pointer, void_pointer, sort_of, ty_sort, pointer_sort, is_reference}
use Rattle.cf_elab_valid.specs.Answers.{Fine}
use Rattle.cf_elab_valid.specs.Scene.{Scene, IsScene, tree, typed, scope_of, Within, Steps, Inside, Classless, Holds, Fits, IsPlain}
use Rattle.cf_elab_valid.specs.Sorts.{ObjectPointer}
use Rattle.cf_elab_valid.proofs.Arithmetic.{IsOperand, plain-operand, of_kind-then, int-tree}
use Rattle.cf_elab_valid.proofs.ConstOf.{IsAlike, alike-later, const_if-fine}
use Rattle.cf_elab_valid.proofs.Early.{early-form, early-known, early-part}
use Rattle.cf_elab_valid.proofs.FitRows.{converted-fine, converted-later, fit-fine}
use Rattle.cf_elab_valid.proofs.Making.{IsType, pointer_to-fine}
use Rattle.cf_elab_valid.proofs.Nodes.{core-PointerOperate, known-PointerOperate}
use Rattle.cf_elab_valid.proofs.Options.{some_is}
use Rattle.cf_elab_valid.proofs.Trees.{tree-normal}
use Rattle.cf_elab_valid.proofs.Unary.{part-inside, sorted}
use Rattle.cf_elab_valid.proofs.Values.{plain-later, plain-when, plain-value, value-plain, type-tree}
use Rattle.cf_elab_valid.proofs.Ways.{begins-get, fits-when, inside-later, made-fine, onward-fine, steps-through, within-before, When}

-- ---- types that are pointers

pub no_reference_sort : (p : ℕ) (v : Ty) → is_reference (pointer_sort p v) ≡ false
no_reference_sort p ty.Void = refl
no_reference_sort p (ty.Int k) = refl
no_reference_sort p (ty.Enum k) = refl
no_reference_sort p (ty.Class k) = refl
no_reference_sort p (ty.Ptr k) = refl
no_reference_sort p (ty.Ref k) = refl
no_reference_sort p (ty.Array k n) = refl
no_reference_sort p (ty.Fun k) = refl
no_reference_sort p (ty.MemData k n) = refl
no_reference_sort p (ty.MemFun k n) = refl
no_reference_sort p (ty.Const k) = refl

module _ (t p : ℕ) (e : Env) (is : IsType (ty.Ptr t) p e) where
  pointer_at : type_at e.types p ≡ ty.Ptr t
  pointer_at = rw (is.here) refl

  pointer_no_reference : is_reference (sort_of e.types p) ≡ false
  pointer_no_reference =
      let at = pointer_at in
      let same : bare e.types p ≡ p = rw at refl in
      ap (λ b. is_reference (ty_sort e.types (type_at e.types b))) same ∙ ap (λ v. is_reference (ty_sort e.types v)) at ∙ no_reference_sort t (type_at e.types (bare e.types t))

  pointer_no_ref : (u : ℕ) → type_at e.types p ≡ ty.Ref u → ⊥
  pointer_no_ref u at = let both : ty.Ptr t ≡ ty.Ref u = sym pointer_at ∙ at in absurd cc

pub type-later : (v : Ty) (t : ℕ) (a b : Env) → Steps a b → IsType v t a → IsType v t b
type-later v t a b g is = record { inside = inside-later a b t g is.inside; here = begins-get a.types.types b.types.types t v g.types is.here }

ordering_is : (op : BinaryOp) (p : PointerOperator) → row.ordering op ≡ Some p → is_order p ≡ true
ordering_is binary.Less p is = subst (λ o. is_order o ≡ true) (some_is pointer_op.Less p is) refl
ordering_is binary.Greater p is = subst (λ o. is_order o ≡ true) (some_is pointer_op.Greater p is) refl
ordering_is binary.LessEqual p is = subst (λ o. is_order o ≡ true) (some_is pointer_op.LessEqual p is) refl
ordering_is binary.GreaterEqual p is = subst (λ o. is_order o ≡ true) (some_is pointer_op.GreaterEqual p is) refl
ordering_is binary.Subtract p is = subst (λ o. is_order o ≡ true) (some_is pointer_op.Difference p is) refl
ordering_is op p is = absurd cc

pub equality_op : (op : BinaryOp) (p : PointerOperator) → row.equality op ≡ Some p → is_equality p ≡ true
equality_op binary.Equal p is = subst (λ o. is_equality o ≡ true) (some_is pointer_op.Equal p is) refl
equality_op binary.NotEqual p is = subst (λ o. is_equality o ≡ true) (some_is pointer_op.NotEqual p is) refl
equality_op op p is = absurd cc

-- ---- two operands

-- the operator takes the two
pub record Compared (s : Scene) (op : PointerOperator) (a b : Value) : Type 0 where
  pub first : are_known s.tables a.node ≡ true
  pub second : are_known s.tables b.node ≡ true
  pub value : IsValue (pointer_operated op (typed s a.node) (typed s b.node)) (integer kind.Int)

-- two pointers that lead to this
pub record ArePointers (s : Scene) (t : ℕ) (ab : Value × Value) (e : Env) : Type 0 where
  pub first : IsPlain s (pointer (tree s t)) ab.0 e
  pub second : IsPlain s (pointer (tree s t)) ab.1 e

-- two pointers that lead to one of two
abbrev OneOf : Scene → ℕ → ℕ → Value × Value → Env → Type 0
OneOf s p q ab e = ArePointers s p ab e ⊎ ArePointers s q ab e

module _ (s : Scene) (scene : IsScene s) where
  pub of_pointers-fine : (at : ℕ) (op : PointerOperator) (ab : Value × Value) (e : Env) → Classless e → When s e (Holds s e) → When s e (Compared s op ab.0 ab.1)
      → Fine s (IsOperand s) e (row.of_pointers at op ab e)
  of_pointers-fine at op ab e c h f =
      of_kind-then s scene kind.Int (λ t. computed at (node.PointerOperate at op ab.0.node ab.1.node) t) (IsOperand s) e c h
      (λ t e1 g w is. let early = f (within-before e e1 s g w) in
      plain-operand s (integer kind.Int) (computed at (node.PointerOperate at op ab.0.node ab.1.node) t) e1
      (value-plain s e1 (integer kind.Int) at t (node.PointerOperate at op ab.0.node ab.1.node) None false is.inside (int-tree s scene kind.Int t e1 w is)
      (known-PointerOperate s.tables at op ab.0.node ab.1.node ∙ and-both (are_known s.tables ab.0.node) (are_known s.tables ab.1.node) early.first early.second) refl
      (subst (λ x. IsValue (typing (scope_of s) x) (integer kind.Int)) (sym (core-PointerOperate s.tables (signature_of s.tables) at op ab.0.node ab.1.node)) early.value) tt))

  module _ (t : ℕ) (ab : Value × Value) (e : Env) (w : Within e s) (i : Inside e t) (p : ArePointers s t ab e) where
    normal : is_normal (tree s t) ≡ true
    normal = tree-normal s.tables scene.table t (early-known s.tables scene.table e.types w.types t i)

    second_value : IsValue (typed s ab.1.node) (pointer (tree s t))
    second_value = plain-value s (pointer (tree s t)) ab.1 e p.second

    first_value : IsValue (typed s ab.0.node) (pointer (tree s t))
    first_value = plain-value s (pointer (tree s t)) ab.0 e p.first

    ordered : (op : PointerOperator) → is_order op ≡ true → is_function (tree s t) ≡ false → is_void (tree s t) ≡ false → Compared s op ab.0 ab.1
    ordered op o f v =
        let points = value-points (typed s ab.0.node) (tree s t) first_value in record {
          first = p.first.fits.numbers;
          second = p.second.fits.numbers;
          value = order-is op (typed s ab.0.node) (typed s ab.1.node) (tree s t) o (points-object (typed s ab.0.node) (tree s t) normal f v points) points second_value;
        }

    equal : (op : PointerOperator) → is_equality op ≡ true → is_function (tree s t) ≡ false → Compared s op ab.0 ab.1
    equal op o f = record {
      first = p.first.fits.numbers;
      second = p.second.fits.numbers;
      value = equality-is op (typed s ab.0.node) (typed s ab.1.node) o
          (objects-equal (typed s ab.0.node) (typed s ab.1.node) (tree s t) normal f (value-points (typed s ab.0.node) (tree s t) first_value) second_value);
    }

    pub by_kind : is_function (tree s t) ≡ false → is_void (tree s t) ≡ false → (op : PointerOperator) → is_order op ≡ true ⊎ is_equality op ≡ true → Compared s op ab.0 ab.1
    by_kind f v op (inl o) = ordered op o f v
    by_kind f v op (inr o) = equal op o f

  -- ---- one becomes the other's type

  -- the pointer that a type made last leads to
  led : (a p t : ℕ) (e : Env) → Within e s → IsAlike s p a e → IsType (ty.Ptr a) t e → Same (tree s t) (pointer (tree s p))
  led a p t e w k is = ap without_const (type-tree s scene e (ty.Ptr a) t w is) ∙ ap (λ x. pointer x) k.same

  plain_led : (t : SourceType) (u : SourceType) (v : Value) (e : Env) → Same t u → IsPlain s t v e → IsPlain s u v e
  plain_led t u v e same p = record { fits = p.fits; no_place = p.no_place; same = p.same ∙ same }

  later_type : (a t : ℕ) (e e1 : Env) → Steps e e1 → When s e (IsType (ty.Ptr a) t e) → When s e1 (IsType (ty.Ptr a) t e1)
  later_type a t e e1 g is = λ w. type-later (ty.Ptr a) t e e1 g (is (within-before e e1 s g w))

  first_fit-fine : (at p q a b t u : ℕ) (x y : Value) (e : Env) → Classless e → When s e (Holds s e) → When s e (Fits s e x) → When s e (Fits s e y) → When s e (IsAlike s p a e) → When s e (IsAlike s q b e)
      → When s e (IsType (ty.Ptr a) t e) → When s e (IsType (ty.Ptr b) u e) → (o r : Option (List ConvStep)) → steps e.types (defs e) (val x) u ≡ o → steps e.types (defs e) (val y) t ≡ r
      → Fine s (OneOf s p q) e (row.first_fit at x y t u o r e)
  first_fit-fine at p q a b t u x y e c h fx fy ka kb ta tb (Some ss) r is js =
      onward-fine s (IsPlain s (tree s u)) (OneOf s p q) e (converted at u ss x e) _ (converted-fine s scene e x c h fx at u (λ w. (tb w).inside) (λ k ref w. pointer_no_ref b u e (tb w) k ref) ss is)
      (λ m e1 g1 c1 h1 pm. onward-fine s (IsPlain s (tree s u)) (OneOf s p q) e1 (fit at y u e1) (λ n f. Made (m, n) f)
      (fit-fine s scene e1 y c1 h1 (fits-when s e e1 y g1 fy) at u (λ w. (later_type b u e e1 g1 tb w).inside) (λ w. pointer_no_reference b u e1 (later_type b u e e1 g1 tb w)))
      (λ n e2 g2 c2 h2 pn. made-fine s (OneOf s p q) e2 (m, n) c2 h2
      (λ w. let early = within-before e1 e2 s g2 w in
      let first = within-before e e1 s g1 early in
      let same = led b q u e first (kb first) (tb first) in
      inr (record { first = plain_led (tree s u) (pointer (tree s q)) m e2 same (plain-later s (tree s u) e1 e2 m g2 (pm early)); second = plain_led (tree s u) (pointer (tree s q)) n e2 same (pn w) }))))
  first_fit-fine at p q a b t u x y e c h fx fy ka kb ta tb None (Some ss) is js =
      onward-fine s (IsPlain s (tree s t)) (OneOf s p q) e (fit at x t e) _ (fit-fine s scene e x c h fx at t (λ w. (ta w).inside) (λ w. pointer_no_reference a t e (ta w)))
      (λ m e1 g1 c1 h1 pm. onward-fine s (IsPlain s (tree s t)) (OneOf s p q) e1 (converted at t ss y e1) (λ n f. Made (m, n) f)
      (converted-later s scene e y c fy e1 g1 c1 h1 at t (λ w. (ta w).inside) (λ k ref w. pointer_no_ref a t e (ta w) k ref) ss js)
      (λ n e2 g2 c2 h2 pn. made-fine s (OneOf s p q) e2 (m, n) c2 h2
      (λ w. let early = within-before e1 e2 s g2 w in
      let first = within-before e e1 s g1 early in
      let same = led a p t e first (ka first) (ta first) in
      inl (record { first = plain_led (tree s t) (pointer (tree s p)) m e2 same (plain-later s (tree s t) e1 e2 m g2 (pm early)); second = plain_led (tree s t) (pointer (tree s p)) n e2 same (pn w) }))))
  first_fit-fine at p q a b t u x y e c h fx fy ka kb ta tb None None is js = tt

  pub alike_pointers-fine : (at p q : ℕ) (x y : Value) (e : Env) → Classless e → When s e (Holds s e) → When s e (IsPlain s (tree s x.type) x e) → When s e (IsPlain s (tree s y.type) y e)
      → When s e (Inside e p) → When s e (Inside e q) → Fine s (OneOf s p q) e (row.alike_pointers at x y p q e)
  alike_pointers-fine at p q x y e c h px py ip iq =
      onward-fine s (IsAlike s p) (OneOf s p q) e (const_if (is_const e.types q) p e) _ (const_if-fine s scene (is_const e.types q) p e c h ip)
      (λ a e1 g1 c1 h1 ka. onward-fine s (IsAlike s q) (OneOf s p q) e1 (const_if (is_const e.types p) q e1) _
      (const_if-fine s scene (is_const e.types p) q e1 c1 h1 (λ w. inside-later e e1 q g1 (iq (within-before e e1 s g1 w))))
      (λ b e2 g2 c2 h2 kb. onward-fine s (IsType (ty.Ptr a)) (OneOf s p q) e2 (pointer_to a e2) _ (pointer_to-fine s a e2 c2 h2)
      (λ t e3 g3 c3 h3 ta. onward-fine s (IsType (ty.Ptr b)) (OneOf s p q) e3 (pointer_to b e3)
      (λ u f. row.first_fit at x y t u (steps f.types (defs f) (val x) u) (steps f.types (defs f) (val y) t) f) (pointer_to-fine s b e3 c3 h3)
      (λ u e4 g4 c4 h4 tb. joined a b t u e1 e2 e3 e4 g1 g2 g3 g4 c4 h4 ka kb ta tb))))
    where
      joined : (a b t u : ℕ) (e1 e2 e3 e4 : Env) (g1 : Steps e e1) (g2 : Steps e1 e2) (g3 : Steps e2 e3) (g4 : Steps e3 e4) → Classless e4 → When s e4 (Holds s e4)
          → When s e1 (IsAlike s p a e1) → When s e2 (IsAlike s q b e2) → When s e3 (IsType (ty.Ptr a) t e3) → When s e4 (IsType (ty.Ptr b) u e4)
          → Fine s (OneOf s p q) e4 (row.first_fit at x y t u (steps e4.types (defs e4) (val x) u) (steps e4.types (defs e4) (val y) t) e4)
      joined a b t u e1 e2 e3 e4 g1 g2 g3 g4 c4 h4 ka kb ta tb =
          let back = steps-through e1 e2 e4 g2 (steps-through e2 e3 e4 g3 g4) in
          let whole = steps-through e e1 e4 g1 back in
          let mid = steps-through e2 e3 e4 g3 g4 in
          first_fit-fine at p q a b t u x y e4 c4 h4 (λ w. (plain-when s (tree s x.type) e e4 x whole px w).fits) (λ w. (plain-when s (tree s y.type) e e4 y whole py w).fits)
          (λ w. alike-later s p a e1 e4 back (ka (within-before e1 e4 s back w))) (λ w. alike-later s q b e2 e4 mid (kb (within-before e2 e4 s mid w)))
          (λ w. type-later (ty.Ptr a) t e3 e4 g4 (ta (within-before e3 e4 s g4 w))) (λ w. tb w)
          (steps e4.types (defs e4) (val x) u) (steps e4.types (defs e4) (val y) t) refl refl

  -- ---- by the operator

  -- two pointers to objects: by order, or for equality
  pub same_objects-fine : (at : ℕ) (op : BinaryOp) (x y : Value) (t u : ℕ) (e : Env) → Classless e → When s e (Holds s e) → When s e (IsPlain s (tree s x.type) x e) → When s e (IsPlain s (tree s y.type) y e)
      → sort_of e.types x.type ≡ object_pointer t → sort_of e.types y.type ≡ object_pointer u → Fine s (IsOperand s) e (row.same_objects at x y t u (row.ordering op) (row.equality op) e)
  same_objects-fine at op x y t u e c h px py is js = by (row.ordering op) (row.equality op) (ordering_is op) (equality_op op)
    where
      first : (w : Within e s) → ObjectPointer s.tables t (tree s x.type)
      first w = sorted s scene x e w (px w) (object_pointer t) is

      second : (w : Within e s) → ObjectPointer s.tables u (tree s y.type)
      second w = sorted s scene y e w (py w) (object_pointer u) js

      pair : Fine s (OneOf s t u) e (row.alike_pointers at x y t u e)
      pair = alike_pointers-fine at t u x y e c h px py (λ w. part-inside s scene x e w (px w) (object_pointer t) is) (λ w. part-inside s scene y e w (py w) (object_pointer u) js)

      compared : (o : PointerOperator) (ab : Value × Value) (e1 : Env) (g : Steps e e1) → is_order o ≡ true ⊎ is_equality o ≡ true → (w : Within e1 s) → OneOf s t u ab e1 → Compared s o ab.0 ab.1
      compared o ab e1 g which w (inl p) = let early = within-before e e1 s g w in
          by_kind t ab e1 w (inside-later e e1 t g (part-inside s scene x e early (px early) (object_pointer t) is)) p (first early).no_function (first early).no_void o which
      compared o ab e1 g which w (inr p) = let early = within-before e e1 s g w in
          by_kind u ab e1 w (inside-later e e1 u g (part-inside s scene y e early (py early) (object_pointer u) js)) p (second early).no_function (second early).no_void o which

      by : (o r : Option PointerOperator) → ((p : PointerOperator) → o ≡ Some p → is_order p ≡ true) → ((p : PointerOperator) → r ≡ Some p → is_equality p ≡ true) → Fine s (IsOperand s) e (row.same_objects at x y t u o r e)
      by None None a b = tt
      by None (Some o) a b =
          onward-fine s (OneOf s t u) (IsOperand s) e (row.alike_pointers at x y t u e) (row.of_pointers at o) pair
          (λ ab e1 g c1 h1 p. of_pointers-fine at o ab e1 c1 h1 (λ w. compared o ab e1 g (inr (b o refl)) w (p w)))
      by (Some o) r a b =
          onward-fine s (OneOf s t u) (IsOperand s) e (row.alike_pointers at x y t u e) _ pair
          (λ ab e1 g c1 h1 p. asked o (complete e t && complete e u) ab e1 c1 h1 (λ w. compared o ab e1 g (inl (a o refl)) w (p w)))
        where
          asked : (o : PointerOperator) (m : Bool) (ab : Value × Value) (e1 : Env) → Classless e1 → When s e1 (Holds s e1) → When s e1 (Compared s o ab.0 ab.1)
              → Fine s (IsOperand s) e1 (onward (need m 30 at e1) (λ _. row.of_pointers at o ab))
          asked o true ab e1 c1 h1 k = of_pointers-fine at o ab e1 c1 h1 k
          asked o false ab e1 c1 h1 k = tt

  -- with both as this type
  module _ (at : ℕ) (op : PointerOperator) (x y : Value) (t : ℕ) (e : Env) where
    pub with_other-by : (A B : Value → Env → Type 0) → Fine s A e (fit at x t e) → ((a : Value) (e1 : Env) → Steps e e1 → Classless e1 → When s e1 (Holds s e1) → Fine s B e1 (fit at y t e1))
        → ((a b : Value) (e1 e2 : Env) → Steps e e1 → Steps e1 e2 → Within e2 s → A a e1 → B b e2 → Compared s op a b) → Fine s (IsOperand s) e (row.with_other at (Some op) x y t e)
    with_other-by A B fa fb join =
        onward-fine s A (IsOperand s) e (fit at x t e) _ fa
        (λ a e1 g1 c1 h1 pa. onward-fine s B (IsOperand s) e1 (fit at y t e1) (λ b. row.of_pointers at op (a, b)) (fb a e1 g1 c1 h1)
        (λ b e2 g2 c2 h2 pb. of_pointers-fine at op (a, b) e2 c2 h2 (λ w. join a b e1 e2 g1 g2 w (pa (within-before e1 e2 s g2 w)) (pb w))))

  -- ---- with void*

  -- a pointer to void leads to void
  pub void_pointee : (y : ℕ) (e : Env) (w : Within e s) (i : Inside e y) → sort_of e.types y ≡ void_pointer → Inside e (row.pointed e.types y) × (is_function (tree s (row.pointed e.types y)) ≡ false)
  void_pointee y e w i is = by (type_at e.types (bare e.types y)) refl is
    where
      pointee : Ty → ℕ
      pointee (ty.Ptr u) = u
      pointee other = y

      to_void : (u : ℕ) (v : Ty) → pointer_sort u v ≡ void_pointer → v ≡ ty.Void
      to_void u ty.Void h = refl
      to_void u (ty.Fun f) h = absurd cc
      to_void u (ty.Int k) h = absurd cc
      to_void u (ty.Enum k) h = absurd cc
      to_void u (ty.Class k) h = absurd cc
      to_void u (ty.Ptr k) h = absurd cc
      to_void u (ty.Ref k) h = absurd cc
      to_void u (ty.Array k n) h = absurd cc
      to_void u (ty.MemData k n) h = absurd cc
      to_void u (ty.MemFun k n) h = absurd cc
      to_void u (ty.Const k) h = absurd cc

      by : (v : Ty) → type_at e.types (bare e.types y) ≡ v → ty_sort e.types v ≡ void_pointer → Inside e (pointee v) × (is_function (tree s (pointee v)) ≡ false)
      by (ty.Ptr u) at h =
          let inside : Inside e u = early-part s.tables scene.table e.types w.types y i (ty.Ptr u) u at (λ k. k) in
          let void : Same (tree s u) (type_step s.tables (tree s) ty.Void) = early-form s.tables scene.table e.types w.types u inside ty.Void (to_void u (type_at e.types (bare e.types u)) h) in
          (inside, sym (function-normal (tree s u) (tree-normal s.tables scene.table u (early-known s.tables scene.table e.types w.types u inside))) ∙ ap is_function void)
      by ty.Void at h = absurd cc
      by (ty.Int k) at h = absurd cc
      by (ty.Enum k) at h = absurd cc
      by (ty.Class k) at h = absurd cc
      by (ty.Ref k) at h = absurd cc
      by (ty.Array k n) at h = absurd cc
      by (ty.Fun k) at h = absurd cc
      by (ty.MemData k n) at h = absurd cc
      by (ty.MemFun k n) at h = absurd cc
      by (ty.Const k) at h = absurd cc

  pub void_equality-fine : (at : ℕ) (op : BinaryOp) (x y : Value) (v o : ℕ) (e : Env) → Classless e → When s e (Holds s e) → When s e (IsPlain s (tree s x.type) x e) → When s e (IsPlain s (tree s y.type) y e)
      → When s e (Inside e v × (is_function (tree s v) ≡ false)) → Fine s (IsOperand s) e (row.void_equality at (row.equality op) x y v o e)
  void_equality-fine at op x y v o e c h px py pv =
      onward-fine s (IsAlike s v) (IsOperand s) e (const_if (is_const e.types o) v e) _ (const_if-fine s scene (is_const e.types o) v e c h (λ w. (pv w).0))
      (λ a e1 g1 c1 h1 ka. onward-fine s (IsType (ty.Ptr a)) (IsOperand s) e1 (pointer_to a e1) (λ t. row.with_other at (row.equality op) x y t) (pointer_to-fine s a e1 c1 h1)
      (λ t e2 g2 c2 h2 ta. let g = steps-through e e1 e2 g1 g2 in
      by (row.equality op) (equality_op op) a t e1 e2 g2 c2 h2 (plain-when s (tree s x.type) e e2 x g px) (plain-when s (tree s y.type) e e2 y g py) ka ta (λ w. let p = pv (within-before e e1 s g1 w) in (inside-later e e1 v g1 p.0, p.1))))
    where
      by : (r : Option PointerOperator) → ((p : PointerOperator) → r ≡ Some p → is_equality p ≡ true) → (a t : ℕ) (e1 e2 : Env) → Steps e1 e2 → Classless e2 → When s e2 (Holds s e2)
          → When s e2 (IsPlain s (tree s x.type) x e2) → When s e2 (IsPlain s (tree s y.type) y e2) → When s e1 (IsAlike s v a e1) → When s e2 (IsType (ty.Ptr a) t e2)
          → When s e1 (Inside e1 v × (is_function (tree s v) ≡ false)) → Fine s (IsOperand s) e2 (row.with_other at r x y t e2)
      by None k a t e1 e2 g c h px py ka ta pv = tt
      by (Some q) k a t e1 e2 g c h px py ka ta pv =
          with_other-by at q x y t e2 (IsPlain s (tree s t)) (IsPlain s (tree s t)) (fit-fine s scene e2 x c h (λ w. (px w).fits) at t (λ w. (ta w).inside) (λ w. pointer_no_reference a t e2 (ta w)))
          (λ m e3 g3 c3 h3. fit-fine s scene e3 y c3 h3 (fits-when s e2 e3 y g3 (λ w. (py w).fits)) at t (λ w. (later_type a t e2 e3 g3 ta w).inside) (λ w. pointer_no_reference a t e3 (later_type a t e2 e3 g3 ta w)))
          (λ m n e3 e4 g3 g4 w pm pn. let w3 = within-before e3 e4 s g4 w in
          let w2 = within-before e2 e3 s g3 w3 in
          let w1 = within-before e1 e2 s g w2 in
          let inside = inside-later e1 e4 a (steps-through e1 e2 e4 g (steps-through e2 e3 e4 g3 g4)) (ka w1).inside in
          let same : Same (tree s t) (pointer (tree s a)) = ap without_const (type-tree s scene e2 (ty.Ptr a) t w2 (ta w2)) in
          let apart : is_function (tree s a) ≡ false =
          same-function (tree s a) (tree s v) (ka w1).same (tree-normal s.tables scene.table a (early-known s.tables scene.table e1.types w1.types a (ka w1).inside))
          (tree-normal s.tables scene.table v (early-known s.tables scene.table e1.types w1.types v (pv w1).0)) ∙ (pv w1).1 in
          equal a (m, n) e4 w inside
          (record { first = plain_led (tree s t) (pointer (tree s a)) m e4 same (plain-later s (tree s t) e3 e4 m g4 pm); second = plain_led (tree s t) (pointer (tree s a)) n e4 same pn }) q (k q refl) apart)
