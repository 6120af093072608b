-- Rows that give neither a known number nor a fixed place: comparisons of pointers, assignments, steps, calls and commas (5).
use Rattle.std.proofs.Common.{◌≡◌, ℕ, Bool, true, false, ◌&&◌, if◌then◌else◌, List, [], ◌∷◌, length, map, Option, Some, None, slice_get, refl, sym, subst}
use Rattle.cf_base.specs.declared.kind.Kind.{Kind}
use Rattle.cf_base.specs.declared.arith.Arith.{Arith}
use Rattle.cf_types.specs.declared.ty.Ty.{Ty}
use Rattle.cf_types.specs.declared.ty.Ty.TheVariants as ty
use Rattle.cf_convert.specs.declared.conv.ConvStep.{ConvStep}
use Rattle.cf_core.specs.declared.node.Change.{Change}
use Rattle.cf_core.specs.declared.node.Core.{Core as Node}
use Rattle.cf_core.specs.declared.node.Core.TheVariants as node
use Rattle.cf_core.specs.declared.operators.PointerOperator.{PointerOperator}
use Rattle.cf_syntax.specs.declared.operator.AssignOp.{AssignOp}
use Rattle.cf_syntax.specs.declared.operator.AssignOp.TheVariants as assign
use Rattle.cf_syntax.specs.declared.operator.BinaryOp.{BinaryOp}
use Rattle.cf_syntax.specs.declared.operator.StepOp.{StepOp}
use Rattle.cf_convert.specs.Constness.{type_at, bare, is_const}
use Rattle.cf_elab.specs.Answer.{Answer, Made, Refused, Elab, onward, need}
use Rattle.cf_elab.specs.Binary as binary
use Rattle.cf_elab.specs.Call as call
use Rattle.cf_elab.specs.Choice as choice
use Rattle.cf_elab.specs.ClassOperand.{by_operator}
use Rattle.cf_elab.specs.ClassOperators as operators
use Rattle.cf_elab.specs.ClassOperators.{step_number, update_number}
use Rattle.cf_elab.specs.Complete.{complete}
use Rattle.cf_elab.specs.Env.{Env, FunctionEntry}
use Rattle.cf_elab.specs.Expression as expression
use Rattle.cf_elab.specs.Fit as fit_row
use Rattle.cf_elab.specs.Made.{const_if, pointer_to}
use Rattle.cf_elab.specs.Operand.{Value, Operand, value, functions, methods, field_name, bound_method, Sort, integral, enumeral, object_pointer, function_pointer, is_zero, sort_of, arithmetic, plain, result_step}
use Rattle.cf_elab.specs.Unary as unary
use Rattle.cf_elab.specs.UserFit as user
use Rattle.cf_elab.specs.Arguments.{fun_at, result_of}
use Rattle.cf_classes.specs.TypeTree.{params_of}
use Rattle.cf_elab_valid.specs.Scene.{Scene, Classless, IsShown}
use Rattle.cf_elab_valid.proofs.Operands.{no-function, no-object, scalar-is}
use Rattle.cf_elab_valid.proofs.Unary.{classless-number}
use Rattle.cf_elab_apart.specs.Apart.{Apart}
use Rattle.cf_elab_apart.proofs.Answers.{Known, known-onward, known-as, Tells, tells-known}
use Rattle.cf_elab_apart.proofs.Settled.{bare-apart}

abbrev pub Bare : Value → Type 0
Bare v = (v.number ≡ None) × (v.is_fixed ≡ false)

-- such a value is apart
pub bare-tells : (s : Scene) (r : Answer Value) → Known Bare r → Tells s (Apart s) r
bare-tells s r k = tells-known s (Apart s) r (known-as Bare (Apart s) r (λ x b. bare-apart s x b.0 b.1) k)

-- behind anything
onward-bare : {A : Type 0} (r : Answer A) (go : A → Elab Value) → ((a : A) (f : Env) → Known Bare (go a f)) → Known Bare (onward r go)
onward-bare r go next = known-onward Bare r go next

-- ---- comparisons of pointers

of_pointers-bare : (at : ℕ) (op : PointerOperator) (ab : Value × Value) (e : Env) → Known Bare (binary.of_pointers at op ab e)
of_pointers-bare at op ab e = (refl, refl)

pub with_other-bare : (at : ℕ) (o : Option PointerOperator) (x y : Value) (t : ℕ) (e : Env) → Known Bare (binary.with_other at o x y t e)
with_other-bare at None x y t e = tt
with_other-bare at (Some op) x y t e = onward-bare (fit_row.fit at x t e) _ (λ a f. onward-bare (fit_row.fit at y t f) _ (λ b g. of_pointers-bare at op (a, b) g))

pub void_equality-bare : (at : ℕ) (o : Option PointerOperator) (x y : Value) (t u : ℕ) (e : Env) → Known Bare (binary.void_equality at o x y t u e)
void_equality-bare at o x y t u e = onward-bare (const_if (is_const e.types u) t e) _ (λ a f. onward-bare (pointer_to a f) (λ p. binary.with_other at o x y p) (λ p g. with_other-bare at o x y p g))

pub with_null-bare : (at : ℕ) (op : BinaryOp) (x y : Value) (e : Env) → Known Bare (binary.with_null at op x y e)
with_null-bare at op x y e = by (is_zero y.number) (is_zero x.number)
  where
    by : (a b : Bool) → (let run : Elab Value = if a then binary.with_other at (binary.equality op) x y x.type else (if b then binary.with_other at (binary.equality op) x y y.type else (λ f. Refused 18 at)) in Known Bare (run e))
    by true b = with_other-bare at (binary.equality op) x y x.type e
    by false true = with_other-bare at (binary.equality op) x y y.type e
    by false false = tt

pub same_objects-bare : (at : ℕ) (x y : Value) (t u : ℕ) (o r : Option PointerOperator) (e : Env) → Known Bare (binary.same_objects at x y t u o r e)
same_objects-bare at x y t u None None e = tt
same_objects-bare at x y t u None (Some op) e = onward-bare (binary.alike_pointers at x y t u e) _ (λ ab f. of_pointers-bare at op ab f)
same_objects-bare at x y t u (Some op) r e = onward-bare (binary.alike_pointers at x y t u e) _ (λ ab f. onward-bare (need (complete e t && complete e u) 30 at f) _ (λ _ g. of_pointers-bare at op ab g))

pub members-bare : (at : ℕ) (x y : Value) (o r : Option (List ConvStep)) (q : PointerOperator) (e : Env) → Known Bare (onward (binary.first_fit at x y x.type y.type o r e) (binary.of_pointers at q))
members-bare at x y o r q e = onward-bare (binary.first_fit at x y x.type y.type o r e) (binary.of_pointers at q) (λ ab f. of_pointers-bare at q ab f)

-- ---- assignments

stored-bare : (at : ℕ) (v x : Value) (e : Env) → Known Bare (choice.stored at v x e)
stored-bare at v x e = onward-bare (unary.need_modifiable at v e) _ (λ _ f. onward-bare (user.fit at x v.type f) _ (λ a g. (refl, refl)))

not_combined-bare : (at : ℕ) (o : Arith) (v x : Value) (e : Env) → Known Bare (choice.not_combined at o v x e)
not_combined-bare at o v x e = onward-bare (binary.operation at (choice.binary_of o) v x e) _ (λ z f. onward-bare (user.fit at z v.type f) _ (λ b g. tt))

moved_pointer-bare : (at : ℕ) (v : Value) (t : ℕ) (l : Kind) (x : Value) (o : Option Bool) (e : Env) → Known Bare (choice.moved_pointer at v t l x o e)
moved_pointer-bare at v t l x None e = tt
moved_pointer-bare at v t l x (Some back) e = onward-bare (need (complete e t) 30 at e) _ (λ _ f. onward-bare (fit_row.to_kind l x f) _ (λ a g. (refl, refl)))

combined-bare : (at : ℕ) (o : Arith) (v x : Value) (k : Sort) (a b : Option Kind) (e : Env) → Known Bare (choice.combined at o v x k a b e)
combined-bare at o v x (integral k) (Some p) (Some l) e = onward-bare (fit_row.to_kind (choice.operand_kind o p l) x e) _ (λ a f. (refl, refl))
combined-bare at o v x (object_pointer t) None (Some l) e = moved_pointer-bare at v t l x (choice.moves o) e
combined-bare at o v x (integral k) None b e = not_combined-bare at o v x e
combined-bare at o v x (integral k) (Some p) None e = not_combined-bare at o v x e
combined-bare at o v x (object_pointer t) None None e = not_combined-bare at o v x e
combined-bare at o v x (object_pointer t) (Some p) b e = not_combined-bare at o v x e
combined-bare at o v x (enumeral n) None b e = not_combined-bare at o v x e
combined-bare at o v x (enumeral n) (Some p) None e = not_combined-bare at o v x e
combined-bare at o v x (enumeral n) (Some p) (Some q) e = not_combined-bare at o v x e
combined-bare at o v x k a b e = not_combined-bare at o v x e

assignment-bare : (at : ℕ) (o : AssignOp) (v x : Value) (e : Env) → Known Bare (choice.assignment at o v x e)
assignment-bare at o v x e = by (choice.updating o)
  where
    by : (p : Option Arith) → Known Bare (choice.by_operator at p v x e)
    by None = stored-bare at v x e
    by (Some p) = onward-bare (unary.need_modifiable at v e) _ (λ _ f. onward-bare (plain x f) _ (λ y g. combined-bare at p v y (sort_of g.types v.type) (arithmetic (sort_of g.types v.type)) (arithmetic (sort_of g.types y.type)) g))

pub assign_operator-bare : (at : ℕ) (op : AssignOp) (x y : Value) (e : Env) → Classless e → Known Bare (operators.assign_operator at op x y e)
assign_operator-bare at op x y e c = subst (λ o. Known Bare (operators.assigned_by_class at op x y o e)) (sym (classless-number e c x.type)) (by op)
  where
    other : (o : AssignOp) → Known Bare (by_operator at (update_number o) x (y ∷ []) true (operators.update_scalar at o x y) e)
    other o =
        subst (Known Bare) (sym (no-function at (update_number o) x (y ∷ []) true (operators.update_scalar at o x y) e c))
        (subst (λ r. Known Bare (onward r (choice.assignment at o x))) (sym (scalar-is 18 at y e c)) (assignment-bare at o x y e))

    by : (o : AssignOp) → Known Bare (operators.assigned_by_class at o x y None e)
    by assign.Assign = assignment-bare at assign.Assign x y e
    by o = other o

-- ---- ++ and --

increment-bare : (at : ℕ) (o : StepOp) (postfix : Bool) (v : Value) (e : Env) → Known Bare (unary.increment at o postfix v e)
increment-bare at o postfix v e = onward-bare (unary.need_modifiable at v e) _ (λ _ f. changed (unary.step_change o (sort_of f.types v.type)) f)
  where
    stepped : (b : Bool) (c : Change) (t : ℕ) → Bare (unary.stepped_value at b c v t)
    stepped true c t = (refl, refl)
    stepped false c t = (refl, refl)

    changed : (o : Option Change) (f : Env) → Known Bare (onward (unary.changed_by at postfix v o f) (λ r g. onward (unary.element_complete at (sort_of f.types v.type) g) (λ _ k. Made r k)))
    changed None f = tt
    changed (Some c) f = onward-bare (unary.element_complete at (sort_of f.types v.type) f) _ (λ _ g. stepped postfix c (bare f.types v.type))

pub step-bare : (at : ℕ) (o : StepOp) (postfix : Bool) (v : Value) (vs : List Value) (e : Env) → Classless e → Known Bare (by_operator at (step_number o) v vs true (unary.increment at o postfix v) e)
step-bare at o postfix v vs e c = subst (Known Bare) (sym (no-function at (step_number o) v vs true (unary.increment at o postfix v) e c)) (increment-bare at o postfix v e)

-- ---- calls

result-bare : (at : ℕ) (n : Node) (t : ℕ) (x : Ty) → Bare (result_step at n t x)
result-bare at n t (ty.Ref u) = (refl, refl)
result-bare at n t x = (refl, refl)

called-bare : (at r : ℕ) (n : Node) (e : Env) → Known Bare (call.called at r n e)
called-bare at r n e = onward-bare (need (complete e r) 30 at e) _ (λ _ f. returned (result_step at n r (type_at e.types r)) (result-bare at n r (type_at e.types r)))
  where
    returned : (v : Value) → Bare v → Bare (if v.is_lvalue then v else record v { type = bare e.types v.type })
    returned v k = by v.is_lvalue
      where
        by : (b : Bool) → Bare (if b then v else record v { type = bare e.types v.type })
        by true = k
        by false = (k.0, k.1)

call_entry-bare : (at : ℕ) (vs : List Value) (o : Option FunctionEntry) (e : Env) → Known Bare (call.call_entry at vs o e)
call_entry-bare at vs None e = tt
call_entry-bare at vs (Some f) e =
    onward-bare (user.arguments at (params_of (fun_at e.types f.type)) f.defaults vs e) _ (λ ns g. called-bare at (result_of (fun_at e.types f.type)) (node.Call at f.link f.type None ns) g)

call_functions-bare : (at : ℕ) (fs : List ℕ) (vs : List Value) (e : Env) → Known Bare (call.call_functions at fs vs e)
call_functions-bare at fs vs e = onward-bare (call.pick at (map (call.candidate e.types) (call.entries_of e fs)) vs e) _ (λ i f. call_entry-bare at vs (slice_get (call.entries_of e fs) i) f)

call_sort-bare : (at : ℕ) (p : Value) (k : Sort) (vs : List Value) (e : Env) → Known Bare (call.call_sort at p k vs e)
call_sort-bare at p (function_pointer t) vs e =
    onward-bare (call.pick at (record { params = params_of (fun_at e.types t); least = length (params_of (fun_at e.types t)) } ∷ []) vs e) _
    (λ _ f. onward-bare (user.arguments at (params_of (fun_at e.types t)) [] vs f) _ (λ ns g. called-bare at (result_of (fun_at e.types t)) (node.PointerCall at None p.node t ns) g))
call_sort-bare at p k vs e = tt

call_operator-bare : (at : ℕ) (v : Value) (vs : List Value) (e : Env) → Classless e → Known Bare (operators.call_operator at v vs e)
call_operator-bare at v vs e c =
    subst (λ b. Known Bare (operators.call_object at v vs b e)) (sym (no-object e c v)) (onward-bare (plain v e) _ (λ p f. call_sort-bare at p (sort_of f.types p.type) vs f))

pub call_operand-bare : (at : ℕ) (o : Operand) (vs : List Value) (e : Env) → IsShown o → Classless e → Known Bare (expression.call_operand at o vs e)
call_operand-bare at (functions n fs) vs e shown c = call_functions-bare at fs vs e
call_operand-bare at (value v) vs e shown c = call_operator-bare at v vs e c
call_operand-bare at (methods m) vs e shown c = absurd shown
call_operand-bare at (field_name n k p m) vs e shown c = absurd shown
call_operand-bare at (bound_method o p k) vs e shown c = absurd shown

-- ---- commas

pub sequence-bare : (at : ℕ) (vs : List Value) (e : Env) → Known Bare (choice.sequence at vs e)
sequence-bare at [] e = tt
sequence-bare at (v ∷ vs) e = (refl, refl)
