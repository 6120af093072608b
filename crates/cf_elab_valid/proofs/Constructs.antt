-- Constructs on values that are no class objects: assignments, casts, zeros of types, and types with arguments (5.2.3, 5.4, 5.17).
use Rattle.std.proofs.Common.{◌≡◌, ℕ, true, false, List, [], ◌∷◌, pos, Option, Some, None, refl, sym, ap, subst, ◌∙◌, true≢false}
use Rattle.cf_base.specs.declared.kind.Kind.{Kind}
use Rattle.cf_convert.specs.Constness.{bare}
use Rattle.cf_syntax.specs.declared.operator.AssignOp.{AssignOp}
use Rattle.cf_syntax.specs.declared.operator.AssignOp.TheVariants as assign
use Rattle.cf_core.specs.declared.node.Core.TheVariants as node
use Rattle.cf_core.specs.FromClasses.{signature_of}
use Rattle.cf_core.specs.Typed.{typing}
use Rattle.cf_core.specs.Types.{SourceType, void, integer, enumeration, const, plain, is_void}
use Rattle.cf_core.specs.Typing.{is_integral, converts, is_expression}
use Rattle.cf_core_typed.specs.Same.{Same, is_bare}
use Rattle.cf_core_typed.proofs.Same.{plain-bare, same-operand, same-plain, same-void}
use Rattle.cf_core_typed.proofs.Values.{same-holds}
use Rattle.cf_elab.specs.Answer.{Made, Refused, Elab}
use Rattle.cf_elab.specs.Cast as row
use Rattle.cf_elab.specs.Cast.{takes_null}
use Rattle.cf_elab.specs.Choice.{assignment}
use Rattle.cf_elab.specs.ClassOperand.{is_object, by_operator}
use Rattle.cf_elab.specs.ClassOperators as operators
use Rattle.cf_elab.specs.ClassOperators.{update_number}
use Rattle.cf_elab.specs.Env.{Env}
use Rattle.cf_elab.specs.Expression as expression
use Rattle.cf_elab.specs.Fit.{null_of}
use Rattle.cf_elab.specs.Operand.{Value, constant, computed, Sort, integral, enumeral, object_pointer, void_pointer, function_pointer, data_pointer, method_pointer, class_sort, array_sort, function_sort, void_sort, reference_sort, sort_of}
use Rattle.cf_elab_numbers.proofs.Known.{zero_fits}
use Rattle.cf_elab_valid.specs.Answers.{Fine}
use Rattle.cf_elab_valid.specs.Conversion.{IsPointer}
use Rattle.cf_elab_valid.specs.Scene.{Scene, IsScene, tree, typed, scope_of, Inside, Classless, Holds, Fits, IsPlain, AllFit}
use Rattle.cf_elab_valid.specs.Sorts.{SortIs}
use Rattle.cf_elab_valid.proofs.Arithmetic.{IsOperand, plain-operand}
use Rattle.cf_elab_valid.proofs.Assign.{assignment-fine}
use Rattle.cf_elab_valid.proofs.Cast.{integer-fine, cast-fine}
use Rattle.cf_elab_valid.proofs.Early.{early-bare, early-inside, early-known, early-sort-is}
use Rattle.cf_elab_valid.proofs.Fit.{convert-plain}
use Rattle.cf_elab_valid.proofs.Names.{constant-fits}
use Rattle.cf_elab_valid.proofs.Nodes.{core-Number, known-Number}
use Rattle.cf_elab_valid.proofs.Nulls.{null_made}
use Rattle.cf_elab_valid.proofs.Operands.{no-function, no-object, by-scalar}
use Rattle.cf_elab_valid.proofs.Sorts.{void-told}
use Rattle.cf_elab_valid.proofs.Trees.{tree-normal}
use Rattle.cf_elab_valid.proofs.Unary.{classless-number, unused-node}
use Rattle.cf_elab_valid.proofs.Ways.{fine-as, made-fine, When}

module _ (s : Scene) (scene : IsScene s) where
  -- ---- assignments

  pub assign_operator-fine : (at : ℕ) (op : AssignOp) (x y : Value) (e : Env) → Classless e → When s e (Holds s e) → When s e (Fits s e x) → When s e (Fits s e y)
      → Fine s (IsOperand s) e (operators.assign_operator at op x y e)
  assign_operator-fine at op x y e c h fx fy = subst (λ o. Fine s (IsOperand s) e (operators.assigned_by_class at op x y o e)) (sym (classless-number e c x.type)) (by op)
    where
      other : (o : AssignOp) → Fine s (IsOperand s) e (by_operator at (update_number o) x (y ∷ []) true (operators.update_scalar at o x y) e)
      other o =
          subst (Fine s (IsOperand s) e) (sym (no-function at (update_number o) x (y ∷ []) true (operators.update_scalar at o x y) e c))
          (by-scalar s scene 18 at y (assignment at o x) e c (assignment-fine s scene at o x y e c h fx fy))

      by : (o : AssignOp) → Fine s (IsOperand s) e (operators.assigned_by_class at o x y None e)
      by assign.Assign = assignment-fine s scene at assign.Assign x y e c h fx fy
      by o = other o

  -- ---- casts

  pub cast_operator-fine : (at t : ℕ) (v : Value) (e : Env) → Classless e → When s e (Holds s e) → When s e (Inside e t) → When s e (Fits s e v) → Fine s (IsOperand s) e (operators.cast_operator at t v e)
  cast_operator-fine at t v e c h i f =
      subst (λ o. Fine s (IsOperand s) e (operators.cast_by_class at t v o (is_object e v) e)) (sym (classless-number e c t))
      (subst (λ b. Fine s (IsOperand s) e (operators.cast_by_class at t v None b e)) (sym (no-object e c v)) (cast-fine s scene at t v e c h i f))

  -- ---- zeros

  module _ (at t : ℕ) (e : Env) (c : Classless e) (h : When s e (Holds s e)) (i : When s e (Inside e t)) where
    abbrev u : ℕ
    u = bare e.types t

    abbrev z : Value
    z = constant at (pos 0) t

    inside : When s e (Inside e u)
    inside w = early-inside s.tables scene.table e.types w.types t (i w)

    type_is : (k : Sort) → sort_of e.types t ≡ k → When s e (SortIs s.tables k (tree s t))
    type_is k is w = subst (λ k. SortIs s.tables k (tree s t)) is (early-sort-is s.tables scene.table e.types w.types scene.no_class scene.none_to_reference t (i w))

    back : When s e (Same (tree s u) (tree s t))
    back w = sym (early-bare s.tables scene.table e.types w.types t (i w))

    zero_integer : (k : Kind) → sort_of e.types t ≡ integral k → Fine s (IsOperand s) e (Made (record z { type = u }) e)
    zero_integer k is =
        made-fine s (IsOperand s) e (constant at (pos 0) u) c h
        (λ w. constant-fits s scene at (pos 0) u e (inside w) (same-holds (pos 0) (tree s u) (integer k) (back w ∙ type_is (integral k) is w) ∙ zero_fits k))

    zero_enumeration : (n : ℕ) → sort_of e.types t ≡ enumeral n → Fine s (IsOperand s) e (Made (row.as_enumeration at u z) e)
    zero_enumeration n is =
        fine-as s (IsPlain s (tree s u)) (IsOperand s) e (Made (row.as_enumeration at u z) e) (λ v f q. plain-operand s (tree s u) v f q)
        (integer-fine s scene at u z (Some (pos 0)) e c h inside
        (λ w. record { fits = constant-fits s scene at (pos 0) t e (i w) (same-holds (pos 0) (tree s t) (enumeration (type_is (enumeral n) is w).name) (type_is (enumeral n) is w).same); no_place = refl; same = refl })
        (λ w. record { from = ap is_integral (type_is (enumeral n) is w).same; to = ap is_integral (back w ∙ (type_is (enumeral n) is w).same) })
        (λ w. same-holds (pos 0) (tree s u) (enumeration (type_is (enumeral n) is w).name) (back w ∙ (type_is (enumeral n) is w).same)))

    void_bare : (x : SourceType) → is_bare x ≡ true → is_void x ≡ true → x ≡ void
    void_bare void b v = refl
    void_bare (const x) b v = absurd (true≢false (sym b))
    void_bare x b v = absurd (true≢false (sym v))

    zero_nothing : sort_of e.types t ≡ void_sort → Fine s (IsOperand s) e (Made (row.to_nothing e at u z) e)
    zero_nothing is =
        made-fine s (IsOperand s) e (row.to_nothing e at u z) c h
        (λ w. let n : is_void (tree s u) ≡ true = same-void (tree s u) (tree s t) (back w) ∙ type_is void_sort is w in
        let normal = tree-normal s.tables scene.table u (early-known s.tables scene.table e.types w.types u (inside w)) in
        subst (λ x. Fits s e (computed at (node.Convert at u x) u)) (sym (unused-node e c z))
        (plain-operand s (tree s u) (computed at (node.Convert at u z.node) u) e
        (convert-plain s scene e w u (inside w) at at z.node false None false refl (known-Number s.tables at (pos 0)) (same-operand (tree s u) void (void-told (tree s u) n))
        (ap (λ x. converts x (typed s z.node)) (void_bare (plain (tree s u)) (plain-bare (tree s u) normal) (same-void (plain (tree s u)) (tree s u) (same-plain (tree s u)) ∙ n))
        ∙ ap (λ x. is_expression x) (ap (typing (scope_of s)) (core-Number s.tables (signature_of s.tables) at (pos 0)))) tt)))

    zero_pointer : (k : Sort) → sort_of e.types t ≡ k → takes_null k ≡ true → Fine s (IsOperand s) e (Made (null_of u z) e)
    zero_pointer k is takes =
        made-fine s (IsOperand s) e (null_of u z) c h
        (λ w. plain-operand s (tree s u) (null_of u z) e (null_made s scene e w u (inside w) (pointer_there k (type_is k is w) takes (back w)) at).plain)
      where
        pointer_there : (k : Sort) → SortIs s.tables k (tree s t) → takes_null k ≡ true → Same (tree s u) (tree s t) → IsPointer (tree s u)
        pointer_there (object_pointer v) is h same = record { pointee = tree s v; same = same ∙ is.same }
        pointer_there void_pointer is h same = record { pointee = tree s is.pointee; same = same ∙ is.same }
        pointer_there (function_pointer v) is h same = record { pointee = tree s v; same = same ∙ is.same }
        pointer_there (data_pointer d v) is h same = absurd is
        pointer_there (method_pointer d v) is h same = absurd is
        pointer_there k is h same = absurd (true≢false (sym h))

    pub zero_value-fine : Fine s (IsOperand s) e (row.zero_value at t e)
    zero_value-fine = by (sort_of e.types t) refl
      where
        by : (k : Sort) → sort_of e.types t ≡ k → Fine s (IsOperand s) e ((elim k as (λ _. ℕ → Value → Elab Value) [
          | integral j ↦ λ u z. λ f. Made (record z { type = u }) f
          | enumeral n ↦ λ u z. λ f. Made (row.as_enumeration at u z) f
          | object_pointer a ↦ λ u z. λ f. Made (null_of u z) f
          | void_pointer ↦ λ u z. λ f. Made (null_of u z) f
          | function_pointer a ↦ λ u z. λ f. Made (null_of u z) f
          | data_pointer a b ↦ λ u z. λ f. Made (null_of u z) f
          | method_pointer a b ↦ λ u z. λ f. Made (null_of u z) f
          | class_sort a ↦ λ u z. λ f. Refused 17 at
          | array_sort a b ↦ λ u z. λ f. Refused 17 at
          | function_sort a ↦ λ u z. λ f. Refused 17 at
          | void_sort ↦ λ u z. λ f. Made (row.to_nothing f at u z) f
          | reference_sort a ↦ λ u z. λ f. Refused 17 at
        ]) u z e)
        by (integral j) is = zero_integer j is
        by (enumeral n) is = zero_enumeration n is
        by (object_pointer a) is = zero_pointer (object_pointer a) is refl
        by void_pointer is = zero_pointer void_pointer is refl
        by (function_pointer a) is = zero_pointer (function_pointer a) is refl
        by (data_pointer a b) is = zero_pointer (data_pointer a b) is refl
        by (method_pointer a b) is = zero_pointer (method_pointer a b) is refl
        by (class_sort a) is = tt
        by (array_sort a b) is = tt
        by (function_sort a) is = tt
        by void_sort is = zero_nothing is
        by (reference_sort a) is = tt

  -- ---- types with arguments

  from_arguments-fine : (at t : ℕ) (vs : List Value) (e : Env) → Classless e → When s e (Holds s e) → When s e (Inside e t) → When s e (AllFit s e vs) → Fine s (IsOperand s) e (row.from_arguments at t vs e)
  from_arguments-fine at t [] e c h i f = zero_value-fine at t e c h i
  from_arguments-fine at t (x ∷ []) e c h i f = cast-fine s scene at t x e c h i (λ w. (f w).0)
  from_arguments-fine at t (x ∷ y ∷ rest) e c h i f = tt

  pub from_type-fine : (at t : ℕ) (vs : List Value) (e : Env) → Classless e → When s e (Holds s e) → When s e (Inside e t) → When s e (AllFit s e vs)
      → (o : Option ℕ) → o ≡ None → Fine s (IsOperand s) e (expression.from_type at t vs o e)
  from_type-fine at t vs e c h i f o none = subst (λ o. Fine s (IsOperand s) e (expression.from_type at t vs o e)) (sym none) (from_arguments-fine at t vs e c h i f)
