-- Conditional expressions and commas (5.16, 5.18).
use Rattle.std.proofs.Common.{◌≡◌, ℕ, ◌==◌, Bool, true, false, ◌&&◌, if◌then◌else◌, List, [], ◌∷◌, map, Option, Some, None, refl, sym, ap, subst, ◌∙◌, true≢false}
use Rattle.std.proofs.lemmas.Bool.{eqb-true}
use Rattle.cf_base.specs.declared.kind.Kind.{Kind}
use Rattle.cf_base.specs.Promotion.{usual}
use Rattle.cf_convert.specs.Converts.{steps}
use Rattle.cf_convert.specs.declared.conv.ConvStep.{ConvStep}
use Rattle.cf_core.specs.declared.node.Core.{Core as Node}
use Rattle.cf_core.specs.declared.node.Core.TheVariants as node
use Rattle.cf_core.specs.FromClasses.{signature_of}
use Rattle.cf_core.specs.Numbers.{all_of, are_known}
use Rattle.cf_core.specs.Core.{none}
use Rattle.cf_core.specs.Typed.{typing, last_typing}
use Rattle.cf_core.specs.Types.{SourceType, integer}
use Rattle.cf_core.specs.Typing.{Typing, either, is_condition, is_expression}
use Rattle.cf_core.specs.View.{listed}
use Rattle.cf_core_typed.specs.Same.{Same}
use Rattle.cf_core_typed.specs.Meets.{IsPlace, IsValue}
use Rattle.cf_core_typed.proofs.Choices.{either-place, either-value}
use Rattle.cf_core_typed.proofs.Same.{and-both, and-left, and-right, same-operand}
use Rattle.cf_core_typed.proofs.Values.{allow, place-expression, value-expression}
use Rattle.cf_core_typed.proofs.Calls.{comma-more}
use Rattle.cf_elab.specs.Answer.{Made, Elab, onward, need}
use Rattle.cf_elab.specs.Choice as row
use Rattle.cf_elab.specs.ClassOperand as class_operand
use Rattle.cf_elab.specs.Env.{Env}
use Rattle.cf_elab.specs.Members.{class_number}
use Rattle.cf_elab.specs.Fit.{to_kind, converted, truth}
use Rattle.cf_elab.specs.MethodNode.{unused}
use Rattle.cf_elab.specs.Operand.{Value, Sort, void_sort, sort_of, arithmetic, val, defs, plain}
use Rattle.cf_elab.specs.Cast.{takes_null}
use Rattle.cf_elab_valid.specs.Answers.{Fine}
use Rattle.cf_elab_valid.specs.Scene.{Scene, IsScene, tree, typed, core, scope_of, Inside, Classless, Holds, Fits, AllFit, IsPlain, HoldsKnown, Meets, is_allowed}
use Rattle.cf_elab_valid.proofs.Arithmetic.{IsOperand, IsTested, tested-condition, tested-when, truth-fine, of_kind-then, int-tree, plain-operand}
use Rattle.cf_elab_valid.proofs.FitRows.{to_kind-fine, converted-fine}
use Rattle.cf_elab_valid.proofs.Nodes.{core-Conditional, core-Comma, known-Conditional, known-Comma}
use Rattle.cf_elab_valid.proofs.Numbers.{chosen-holds}
use Rattle.cf_elab_valid.proofs.Plain.{decayed_tree, plain-fine}
use Rattle.cf_elab_valid.proofs.Unary.{plain-own, sorted, classless-number, no-reference-type, unused-node}
use Rattle.cf_elab_valid.proofs.Sorts.{void-told}
use Rattle.cf_elab_valid.proofs.Values.{plain-when, plain-value, plain-number, value-plain, place-fits, place-no-void, place-no-reference}
use Rattle.cf_elab_valid.proofs.Ways.{fits-when, made-fine, onward-fine, steps-through, When}

module _ (s : Scene) (scene : IsScene s) where
  -- ---- the node

  chosen : (P : Typing → Type 0) (at : ℕ) (c a b : Node) → is_condition (typed s c) ≡ true → P (either (typed s a) (typed s b)) → P (typed s (node.Conditional at c a b))
  chosen P at c a b h p =
      subst (λ n. P (typing (scope_of s) n)) (sym (core-Conditional s.tables (signature_of s.tables) at c a b)) (allow P (is_condition (typed s c)) (either (typed s a) (typed s b)) h p)

  all_known : (at : ℕ) (c a b : Node) → are_known s.tables c ≡ true → are_known s.tables a ≡ true → are_known s.tables b ≡ true → are_known s.tables (node.Conditional at c a b) ≡ true
  all_known at c a b p q r =
      known-Conditional s.tables at c a b ∙ and-both (are_known s.tables c && are_known s.tables a) (are_known s.tables b) (and-both (are_known s.tables c) (are_known s.tables a) p q) r

  -- one of two values of one tree
  one_of-plain : (at : ℕ) (c a b : Value) (t : ℕ) (u : SourceType) (e : Env) → Inside e t → Same (tree s t) u → IsTested s c e → IsPlain s u a e → IsPlain s u b e → IsPlain s u (row.one_of at c a b t) e
  one_of-plain at c a b t u e i same pc pa pb =
      value-plain s e u at t (node.Conditional at c.node a.node b.node) (row.chosen c.number a.number b.number) false i same
      (all_known at c.node a.node b.node pc.plain.fits.numbers pa.fits.numbers pb.fits.numbers) (allowed_plain a.is_lvalue pa.no_place pa.fits.allowed)
      (chosen (λ x. IsValue x u) at c.node a.node b.node (tested-condition s c e pc) (either-value (typed s a.node) (typed s b.node) u (plain-value s u a e pa) (plain-value s u b e pb)))
      (chosen-holds c.number a.number b.number u (plain-number s u a e pa) (plain-number s u b e pb))
    where
      allowed_plain : (l : Bool) → l ≡ false → is_allowed l (tree s a.type) ≡ true → is_allowed false u ≡ true
      allowed_plain true h x = absurd (true≢false h)
      allowed_plain false h x = sym (same-operand (tree s a.type) u pa.same) ∙ x

  -- two places of one type
  one_place-fits : (at : ℕ) (c a b : Value) (e : Env) → a.is_lvalue ≡ true → b.is_lvalue ≡ true → a.type ≡ b.type → IsTested s c e → Fits s e a → Fits s e b → Fits s e (row.one_place at c a b)
  one_place-fits at c a b e la lb same pc fa fb =
      place-fits s e at a.type (node.Conditional at c.node a.node b.node) (row.chosen c.number a.number b.number) false fa.inside (all_known at c.node a.node b.node pc.plain.fits.numbers fa.numbers fb.numbers) (place-no-void a.is_lvalue (tree s a.type) la fa.allowed) (place-no-reference a.is_lvalue (tree s a.type) la fa.allowed)
      (chosen (λ x. IsPlace x (tree s a.type)) at c.node a.node b.node (tested-condition s c e pc)
      (either-place (typed s a.node) (typed s b.node) (tree s a.type) (subst (λ l. Meets l (typed s a.node) (tree s a.type)) la fa.meets)
      (subst (λ t. IsPlace (typed s b.node) (tree s t)) (sym same) (subst (λ l. Meets l (typed s b.node) (tree s b.type)) lb fb.meets))))
      (chosen-holds c.number a.number b.number (tree s a.type) fa.number (subst (λ t. HoldsKnown b.number (tree s t)) (sym same) fb.number))

  -- ---- by the types of the two

  both_arithmetic-fine : (at : ℕ) (c x y : Value) (k l : Kind) (e : Env) → Classless e → When s e (Holds s e) → When s e (IsTested s c e) → When s e (Fits s e x) → When s e (Fits s e y)
      → Fine s (IsOperand s) e (row.both_arithmetic at c x y k l e)
  both_arithmetic-fine at c x y k l e cl h pc fx fy =
      onward-fine s (IsPlain s (integer (usual k l))) (IsOperand s) e (to_kind (usual k l) x e) _ (to_kind-fine s scene (usual k l) x e cl h fx)
      (λ a e1 g1 c1 h1 pa. onward-fine s (IsPlain s (integer (usual k l))) (IsOperand s) e1 (to_kind (usual k l) y e1) _ (to_kind-fine s scene (usual k l) y e1 c1 h1 (fits-when s e e1 y g1 fy))
      (λ b e2 g2 c2 h2 pb. of_kind-then s scene (usual k l) (λ t. row.one_of at c a b t) (IsOperand s) e2 c2 h2
      (λ t e3 g3 w is. plain-operand s (integer (usual k l)) (row.one_of at c a b t) e3
      (one_of-plain at c a b t (integer (usual k l)) e3 is.inside (int-tree s scene (usual k l) t e3 w is) (tested-when s e e3 c (steps-through e e1 e3 g1 (steps-through e1 e2 e3 g2 g3)) pc w)
      (plain-when s (integer (usual k l)) e1 e3 a (steps-through e1 e2 e3 g2 g3) pa w) (plain-when s (integer (usual k l)) e2 e3 b g3 pb w)))))

  one_type-fine : (at : ℕ) (c x y : Value) (e : Env) → Classless e → When s e (Holds s e) → When s e (IsTested s c e) → When s e (IsPlain s (tree s x.type) x e) → When s e (IsPlain s (tree s y.type) y e)
      → (a b : Option (List ConvStep)) → steps e.types (defs e) (val x) y.type ≡ a → steps e.types (defs e) (val y) x.type ≡ b → Fine s (IsOperand s) e (row.one_type at c x y a b e)
  one_type-fine at c x y e cl h pc px py (Some ss) b is js =
      onward-fine s (IsPlain s (tree s y.type)) (IsOperand s) e (converted at y.type ss x e) _
      (converted-fine s scene e x cl h (λ w. (px w).fits) at y.type (λ w. (py w).fits.inside) (λ u r w. no-reference-type s scene e w y (py w).fits u r) ss is)
      (λ a e1 g d held p. made-fine s (IsOperand s) e1 (row.one_of at c a y y.type) d held
      (λ w. plain-operand s (tree s y.type) (row.one_of at c a y y.type) e1
      (one_of-plain at c a y y.type (tree s y.type) e1 (plain-when s (tree s y.type) e e1 y g py w).fits.inside refl (tested-when s e e1 c g pc w) (p w) (plain-when s (tree s y.type) e e1 y g py w))))
  one_type-fine at c x y e cl h pc px py None (Some ss) is js =
      onward-fine s (IsPlain s (tree s x.type)) (IsOperand s) e (converted at x.type ss y e) _
      (converted-fine s scene e y cl h (λ w. (py w).fits) at x.type (λ w. (px w).fits.inside) (λ u r w. no-reference-type s scene e w x (px w).fits u r) ss js)
      (λ b e1 g d held p. made-fine s (IsOperand s) e1 (row.one_of at c x b x.type) d held
      (λ w. plain-operand s (tree s x.type) (row.one_of at c x b x.type) e1
      (one_of-plain at c x b x.type (tree s x.type) e1 (plain-when s (tree s x.type) e e1 x g px w).fits.inside refl (tested-when s e e1 c g pc w) (plain-when s (tree s x.type) e e1 x g px w) (p w))))
  one_type-fine at c x y e cl h pc px py None None is js = tt

  alternatives-fine : (at : ℕ) (c x y : Value) (e : Env) → Classless e → When s e (Holds s e) → When s e (IsTested s c e) → When s e (IsPlain s (tree s x.type) x e) → When s e (IsPlain s (tree s y.type) y e)
      → (k l : Sort) (a b : Option Kind) → sort_of e.types x.type ≡ k → sort_of e.types y.type ≡ l → Fine s (IsOperand s) e (row.alternatives at c x y k l a b e)
  alternatives-fine at c x y e cl h pc px py k l a b is js = by k l a b is js
    where
      asked : (m : Bool) → Fine s (IsOperand s) e (onward (need m 18 at e) (λ _ f. row.one_type at c x y (steps e.types (defs e) (val x) y.type) (steps e.types (defs e) (val y) x.type) f))
      asked false = tt
      asked true = one_type-fine at c x y e cl h pc px py (steps e.types (defs e) (val x) y.type) (steps e.types (defs e) (val y) x.type) refl refl

      other : (k l : Sort) → Fine s (IsOperand s) e
          (onward (need (elim (takes_null k) [ true ↦ true | false ↦ takes_null l ]) 18 at e) (λ _ f. row.one_type at c x y (steps e.types (defs e) (val x) y.type) (steps e.types (defs e) (val y) x.type) f))
      other k l = asked (elim (takes_null k) [ true ↦ true | false ↦ takes_null l ])

      by : (k l : Sort) (a b : Option Kind) → sort_of e.types x.type ≡ k → sort_of e.types y.type ≡ l → Fine s (IsOperand s) e (row.alternatives at c x y k l a b e)
      by k l (Some m) (Some n) is js = both_arithmetic-fine at c x y m n e cl h pc (λ w. (px w).fits) (λ w. (py w).fits)
      by k l (Some m) None is js = other k l
      by void_sort void_sort None None is js =
          made-fine s (IsOperand s) e (row.one_of at c x y x.type) cl h
          (λ w. let vx = sorted s scene x e w (px w) void_sort is in
          let vy = sorted s scene y e w (py w) void_sort js in
          let same : Same (tree s y.type) (tree s x.type) = void-told (tree s y.type) vy ∙ sym (void-told (tree s x.type) vx) in
          plain-operand s (tree s x.type) (row.one_of at c x y x.type) e
          (one_of-plain at c x y x.type (tree s x.type) e (px w).fits.inside refl (pc w) (px w) (record { fits = (py w).fits; no_place = (py w).no_place; same = same })))
      by void_sort void_sort None (Some n) is js = other void_sort void_sort
      by k l None None is js = other k l
      by k l None (Some n) is js = other k l

  -- ---- the row

  pub class_truth-fine : (rule at : ℕ) (v : Value) (e : Env) → Classless e → When s e (Holds s e) → When s e (Fits s e v) → Fine s (IsTested s) e (class_operand.truth rule at v e)
  class_truth-fine rule at v e c h f =
      subst (λ o. Fine s (IsTested s) e (onward (class_operand.scalar_of_class rule at v o e) (truth rule at))) (sym (classless-number e c v.type)) (truth-fine s scene rule at v e c h f)

  same_none : (a b : Option ℕ) → a ≡ None → row.same_class a b ≡ None
  same_none a b h = ap (λ o. row.same_class o b) h

  pub conditional-fine : (at : ℕ) (condition x y : Value) (e : Env) → Classless e → When s e (Holds s e) → When s e (Fits s e condition) → When s e (Fits s e x) → When s e (Fits s e y)
      → Fine s (IsOperand s) e (row.conditional at condition x y e)
  conditional-fine at condition x y e cl h fc fx fy =
      onward-fine s (IsTested s) (IsOperand s) e (class_operand.truth 13 at condition e) _ (class_truth-fine 13 at condition e cl h fc)
      (λ c e1 g1 c1 h1 pc. rw (same_none (class_number (sort_of e1.types x.type)) (class_number (sort_of e1.types y.type)) (classless-number e1 c1 x.type))
      (by c e1 c1 h1 pc (fits-when s e e1 x g1 fx) (fits-when s e e1 y g1 fy) (x.is_lvalue && y.is_lvalue && (x.type == y.type)) refl))
    where
      by : (c : Value) (e1 : Env) → Classless e1 → When s e1 (Holds s e1) → When s e1 (IsTested s c e1) → When s e1 (Fits s e1 x) → When s e1 (Fits s e1 y) → (m : Bool) → (x.is_lvalue && y.is_lvalue && (x.type == y.type)) ≡ m
          → (let run : Elab Value = if m then (λ f. Made (row.one_place at c x y) f)
          else (λ f. onward (plain x f) (λ a k. onward (plain y k) (λ b n. row.alternatives at c a b (sort_of n.types a.type) (sort_of n.types b.type) (arithmetic (sort_of n.types a.type)) (arithmetic (sort_of n.types b.type)) n))) in Fine s (IsOperand s) e1 (run e1))
      by c e1 c1 h1 pc fx fy true is =
          let lx = and-left x.is_lvalue y.is_lvalue (and-left (x.is_lvalue && y.is_lvalue) (x.type == y.type) is) in
          let ly = and-right x.is_lvalue y.is_lvalue (and-left (x.is_lvalue && y.is_lvalue) (x.type == y.type) is) in
          let same = eqb-true x.type y.type (and-right (x.is_lvalue && y.is_lvalue) (x.type == y.type) is) in
          made-fine s (IsOperand s) e1 (row.one_place at c x y) c1 h1 (λ w. one_place-fits at c x y e1 lx ly same (pc w) (fx w) (fy w))
      by c e1 c1 h1 pc fx fy false is =
          onward-fine s (IsPlain s (decayed_tree s x.type (sort_of e1.types x.type))) (IsOperand s) e1 (plain x e1) _ (plain-fine s scene e1 x c1 h1 fx)
          (λ a e2 g2 c2 h2 pa. onward-fine s (IsPlain s (decayed_tree s y.type (sort_of e2.types y.type))) (IsOperand s) e2 (plain y e2) _ (plain-fine s scene e2 y c2 h2 (fits-when s e1 e2 y g2 fy))
          (λ b e3 g3 c3 h3 pb. alternatives-fine at c a b e3 c3 h3 (tested-when s e1 e3 c (steps-through e1 e2 e3 g2 g3) pc)
          (plain-when s (tree s a.type) e2 e3 a g3 (λ w. plain-own s scene (decayed_tree s x.type (sort_of e1.types x.type)) a e2 (pa w)))
          (λ w. plain-own s scene (decayed_tree s y.type (sort_of e2.types y.type)) b e3 (pb w)) (sort_of e3.types a.type) (sort_of e3.types b.type) (arithmetic (sort_of e3.types a.type)) (arithmetic (sort_of e3.types b.type)) refl refl))

  -- ---- commas

  pub fits-expression : (e : Env) (v : Value) → Fits s e v → is_expression (typed s v.node) ≡ true
  fits-expression e v f = by v.is_lvalue f.meets
    where
      by : (b : Bool) → Meets b (typed s v.node) (tree s v.type) → is_expression (typed s v.node) ≡ true
      by true m = place-expression (typed s v.node) (tree s v.type) m
      by false m = value-expression (typed s v.node) (tree s v.type) m

  -- the last of them is what they are together
  module _ (e : Env) (cl : Classless e) where
    last-meets : (v : Value) (vs : List Value) → Fits s e v → AllFit s e vs
        → Meets (row.last_of v vs).is_lvalue (last_typing (scope_of s) (listed (map (core s) (row.in_order e v vs)))) (tree s (row.last_of v vs).type)
    last-meets v [] f all = f.meets
    last-meets v (x ∷ []) f all =
        comma-more (scope_of s) (λ y. Meets x.is_lvalue y (tree s x.type)) (core s (unused e v)) (core s x.node) none
        (subst (λ n. is_expression (typed s n) ≡ true) (sym (unused-node e cl v)) (fits-expression e v f)) (last-meets x [] all.0 all.1)
    last-meets v (x ∷ y ∷ ys) f all =
        comma-more (scope_of s) (λ z. Meets (row.last_of y ys).is_lvalue z (tree s (row.last_of y ys).type)) (core s (unused e v)) (core s (unused e x)) (listed (map (core s) (row.in_order e y ys)))
        (subst (λ n. is_expression (typed s n) ≡ true) (sym (unused-node e cl v)) (fits-expression e v f)) (last-meets x (y ∷ ys) all.0 all.1)

    all-known : (v : Value) (vs : List Value) → Fits s e v → AllFit s e vs → all_of s.tables (map (are_known s.tables) (row.in_order e v vs)) ≡ true
    all-known v [] f all = and-both (are_known s.tables v.node) true f.numbers refl
    all-known v (x ∷ xs) f all =
        and-both (are_known s.tables (unused e v)) (all_of s.tables (map (are_known s.tables) (row.in_order e x xs)))
        (subst (λ n. are_known s.tables n ≡ true) (sym (unused-node e cl v)) f.numbers) (all-known x xs all.0 all.1)

    last-fits : (v : Value) (vs : List Value) → Fits s e v → AllFit s e vs → Fits s e (row.last_of v vs)
    last-fits v [] f all = f
    last-fits v (x ∷ xs) f all = last-fits x xs all.0 all.1

  pub sequence-fine : (at : ℕ) (vs : List Value) (e : Env) → Classless e → When s e (Holds s e) → When s e (AllFit s e vs) → Fine s (IsOperand s) e (row.sequence at vs e)
  sequence-fine at [] e cl h f = tt
  sequence-fine at (v ∷ vs) e cl h f =
      made-fine s (IsOperand s) e _ cl h (λ w. let all = f w in
      let last = last-fits e cl v vs all.0 all.1 in record {
        inside = last.inside;
        numbers = known-Comma s.tables at (row.in_order e v vs) ∙ all-known e cl v vs all.0 all.1;
        allowed = last.allowed;
        meets = subst (λ n. Meets (row.last_of v vs).is_lvalue (typing (scope_of s) n) (tree s (row.last_of v vs).type)) (sym (core-Comma s.tables (signature_of s.tables) at (row.in_order e v vs))) (last-meets e cl v vs all.0 all.1);
        number = tt;
      })
