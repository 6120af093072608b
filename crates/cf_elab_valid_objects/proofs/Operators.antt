-- Operators on scalars (5.3 to 5.17).
use Rattle.std.proofs.Common.{◌≡◌, ℕ, Bool, true, false, ◌&&◌, ◌||◌, ◌==◌, is_some, if◌then◌else◌, List, [], ◌∷◌, Option, Some, None, refl, sym, ap, subst, ◌∙◌}
use Rattle.cf_base.specs.declared.arith.Arith.{Arith}
use Rattle.cf_base.specs.declared.kind.Kind.{Kind}
use Rattle.cf_base.specs.declared.kind.Kind.TheVariants as kind
use Rattle.cf_base.specs.Promotion.{usual}
use Rattle.cf_types.specs.Operators.{is_shift}
use Rattle.cf_convert.specs.Constness.{is_const}
use Rattle.cf_convert.specs.Converts.{steps}
use Rattle.cf_convert.specs.declared.conv.ConvStep.{ConvStep}
use Rattle.cf_syntax.specs.declared.operator.AssignOp.{AssignOp}
use Rattle.cf_syntax.specs.declared.operator.AssignOp.TheVariants as assign
use Rattle.cf_syntax.specs.declared.operator.BinaryOp.{BinaryOp}
use Rattle.cf_syntax.specs.declared.operator.BinaryOp.TheVariants as binary
use Rattle.cf_syntax.specs.declared.operator.PrefixOp.{PrefixOp}
use Rattle.cf_syntax.specs.declared.operator.PrefixOp.TheVariants as prefix
use Rattle.cf_syntax.specs.declared.operator.StepOp.{StepOp}
use Rattle.cf_core.specs.declared.node.Change.{Change}
use Rattle.cf_core.specs.declared.node.Core.{Core as Node}
use Rattle.cf_core.specs.declared.node.Core.TheVariants as node
use Rattle.cf_core.specs.declared.operators.PointerOperator.{PointerOperator}
use Rattle.cf_elab.specs.Answer.{Made, Refused, Elab, onward, need, gives}
use Rattle.cf_elab.specs.Arithmetic as arith_row
use Rattle.cf_elab.specs.Binary as binary_row
use Rattle.cf_elab.specs.Choice as choice_row
use Rattle.cf_elab.specs.Cast.{takes_null}
use Rattle.cf_elab.specs.ClassOperand.{scalar, by_operator, truth as class_truth}
use Rattle.cf_elab.specs.ClassOperators as operators
use Rattle.cf_elab.specs.ClassOperators.{binary_number, prefix_number, step_number, update_number, operand_rule}
use Rattle.cf_elab.specs.Complete.{complete}
use Rattle.cf_elab.specs.Env.{Env}
use Rattle.cf_elab.specs.Fit as fit_row
use Rattle.cf_elab.specs.Fit.{converted, to_kind, truth}
use Rattle.cf_elab.specs.Made.{of_kind, pointer_to, const_if}
use Rattle.cf_elab.specs.Members.{class_number}
use Rattle.cf_elab.specs.Operand.{Value, Sort, integral, enumeral, object_pointer, void_pointer, function_pointer, data_pointer, method_pointer, void_sort, sort_of, arithmetic, plain, val, defs, is_zero}
use Rattle.cf_elab.specs.Unary as unary_row
use Rattle.cf_elab.specs.UserFit as user
use Rattle.cf_elab_valid.specs.Scene.{Classless}
use Rattle.cf_elab_valid.proofs.FitRows.{Still, needed}
use Rattle.cf_elab_valid.proofs.Operands.{no-function, scalar-is}
use Rattle.cf_elab_valid.proofs.Unary.{classless-number}
use Rattle.cf_elab_valid_objects.specs.Quiet.{QuietIn}
use Rattle.cf_elab_valid_objects.proofs.Consts.{const_if-quiet}
use Rattle.cf_elab_valid_objects.proofs.Conversions.{plain-quiet, converted-quiet, standard-quiet, fit-quiet, to_kind-quiet, truth-quiet, class_truth-quiet}
use Rattle.cf_elab_valid_objects.proofs.Steps.{quiet-none, quiet-onward, still-quiet, need-quiet, if-quiet, of_kind-quiet, pointer_to-quiet}

-- an operand that is no object of a class stands for itself
pub scalar-quiet : {A : Type 0} (rule at : ℕ) (v : Value) (go : Value → Elab A) (e : Env) → Classless e → QuietIn e (go v e) → QuietIn e (onward (scalar rule at v e) go)
scalar-quiet rule at v go e c q = subst (λ r. QuietIn e (onward r go)) (sym (scalar-is rule at v e c)) q

-- no operator function is asked
pub no-function-quiet : (at n : ℕ) (x : Value) (vs : List Value) (with_file : Bool) (otherwise : Elab Value) (e : Env) → Classless e → QuietIn e (otherwise e) → QuietIn e (by_operator at n x vs with_file otherwise e)
no-function-quiet at n x vs with_file otherwise e c q = subst (QuietIn e) (sym (no-function at n x vs with_file otherwise e c)) q

-- ---- arithmetic

operated-quiet : (at : ℕ) (op : Arith) (k l : Kind) (x y : Value) (e : Env) → Classless e → QuietIn e (arith_row.operated at op k l x y e)
operated-quiet at op k l x y e c =
    quiet-onward e (to_kind k x e) _ c (to_kind-quiet k x e c)
    (λ a f cf. quiet-onward f (to_kind l y f) _ cf (to_kind-quiet l y f cf)
    (λ b g cg. of_kind-quiet (arith_row.result_kind op k) g cg))

on_kinds-quiet : (at : ℕ) (op : Arith) (k l : Kind) (x y : Value) (e : Env) → Classless e → QuietIn e (arith_row.on_kinds at op k l x y e)
on_kinds-quiet at op k l x y e c =
    if-quiet e (is_shift op) (arith_row.operated at op k l x y) (arith_row.operated at op (usual k l) (usual k l) x y) (operated-quiet at op k l x y e c) (operated-quiet at op (usual k l) (usual k l) x y e c)

negated-quiet : (at : ℕ) (k : Kind) (x : Value) (e : Env) → Classless e → QuietIn e (arith_row.negated at k x e)
negated-quiet at k x e c = quiet-onward e (to_kind k x e) _ c (to_kind-quiet k x e c) (λ a f cf. of_kind-quiet k f cf)

complemented-quiet : (at : ℕ) (k : Kind) (x : Value) (e : Env) → Classless e → QuietIn e (arith_row.complemented at k x e)
complemented-quiet at k x e c = quiet-onward e (to_kind k x e) _ c (to_kind-quiet k x e c) (λ a f cf. of_kind-quiet k f cf)

negation-quiet : (at : ℕ) (x : Value) (e : Env) → Classless e → QuietIn e (arith_row.negation at x e)
negation-quiet at x e c = quiet-onward e (truth 18 at x e) _ c (truth-quiet 18 at x e c) (λ a f cf. of_kind-quiet kind.Int f cf)

logical-quiet : (at : ℕ) (make : ℕ → Node → Node → Node) (join : Bool → Bool → Bool) (x y : Value) (e : Env) → Classless e → QuietIn e (arith_row.logical at make join x y e)
logical-quiet at make join x y e c =
    quiet-onward e (truth 13 at x e) _ c (truth-quiet 13 at x e c)
    (λ a f cf. quiet-onward f (truth 13 at y f) _ cf (truth-quiet 13 at y f cf)
    (λ b g cg. of_kind-quiet kind.Int g cg))

-- ---- one operand

changed_by-quiet : (at : ℕ) (postfix : Bool) (v : Value) (o : Option Change) (e : Env) → Classless e → QuietIn e (unary_row.changed_by at postfix v o e)
changed_by-quiet at postfix v None e c = tt
changed_by-quiet at postfix v (Some ch) e c = quiet-none e c

element-still : (at : ℕ) (k : Sort) (e : Env) → Still e (unary_row.element_complete at k e)
element-still at (object_pointer t) e = needed e (complete e t) 30 at
element-still at k e = refl

increment-quiet : (at : ℕ) (o : StepOp) (postfix : Bool) (v : Value) (e : Env) → Classless e → QuietIn e (unary_row.increment at o postfix v e)
increment-quiet at o postfix v e c =
    need-quiet e (unary_row.modifiable e v) 12 at _
    (quiet-onward e (unary_row.changed_by at postfix v (unary_row.step_change o (sort_of e.types v.type)) e) _ c (changed_by-quiet at postfix v (unary_row.step_change o (sort_of e.types v.type)) e c)
    (λ r f cf. still-quiet f (unary_row.element_complete at (sort_of e.types v.type) f) (gives r) (element-still at (sort_of e.types v.type) f) (quiet-none f cf)))

on_plain-quiet : (v : Value) (go : Value → Sort → Elab Value) (e : Env) → ((x : Value) (k : Sort) (f : Env) → Classless f → QuietIn f (go x k f)) → Classless e → QuietIn e (unary_row.on_plain v go e)
on_plain-quiet v go e next c = quiet-onward e (plain v e) _ c (plain-quiet v e c) (λ x f cf. next x (sort_of f.types x.type) f cf)

dereferenced-quiet : (at : ℕ) (x : Value) (k : Sort) (e : Env) → Classless e → QuietIn e (unary_row.dereferenced at x k e)
dereferenced-quiet at x (object_pointer t) e c = quiet-none e c
dereferenced-quiet at x (function_pointer t) e c = quiet-none e c
dereferenced-quiet at x k e c = tt

of_integer-quiet : (at : ℕ) (make : ℕ → Kind → Value → Elab Value) → ((k : Kind) (x : Value) (e : Env) → Classless e → QuietIn e (make at k x e)) → (x : Value) (o : Option Kind) (e : Env) → Classless e → QuietIn e (unary_row.of_integer at make x o e)
of_integer-quiet at make each x None e c = tt
of_integer-quiet at make each x (Some k) e c = each k x e c

promoted-quiet : (at : ℕ) (x : Value) (k : Sort) (o : Option Kind) (e : Env) → Classless e → QuietIn e (unary_row.promoted_or_pointer at x k o e)
promoted-quiet at x k (Some l) e c = to_kind-quiet l x e c
promoted-quiet at x (object_pointer t) None e c = quiet-none e c
promoted-quiet at x void_pointer None e c = quiet-none e c
promoted-quiet at x (function_pointer t) None e c = quiet-none e c
promoted-quiet at x k None e c = tt

prefixed-quiet : (at : ℕ) (o : PrefixOp) (v : Value) (e : Env) → Classless e → QuietIn e (unary_row.prefixed at o v e)
prefixed-quiet at prefix.Dereference v e c = on_plain-quiet v (unary_row.dereferenced at) e (λ x k f cf. dereferenced-quiet at x k f cf) c
prefixed-quiet at prefix.AddressOf v e c = need-quiet e v.is_lvalue 12 at _ (pointer_to-quiet v.type e c)
prefixed-quiet at prefix.Plus v e c =
    on_plain-quiet v (λ x k. unary_row.promoted_or_pointer at (record x { at = at }) k (arithmetic k)) e (λ x k f cf. promoted-quiet at (record x { at = at }) k (arithmetic k) f cf) c
prefixed-quiet at prefix.Minus v e c = on_plain-quiet v (λ x k. unary_row.of_integer at arith_row.negated x (arithmetic k)) e (λ x k f cf. of_integer-quiet at arith_row.negated (λ l y g cg. negated-quiet at l y g cg) x (arithmetic k) f cf) c
prefixed-quiet at prefix.Complement v e c =
    on_plain-quiet v (λ x k. unary_row.of_integer at arith_row.complemented x (arithmetic k)) e (λ x k f cf. of_integer-quiet at arith_row.complemented (λ l y g cg. complemented-quiet at l y g cg) x (arithmetic k) f cf) c
prefixed-quiet at prefix.Not v e c = negation-quiet at v e c

pub prefix_operator-quiet : (at : ℕ) (o : PrefixOp) (v : Value) (e : Env) → Classless e → QuietIn e (operators.prefix_operator at o v e)
prefix_operator-quiet at o v e c = no-function-quiet at (prefix_number o) v [] true (operators.prefix_of_scalar at o v) e c (by o)
  where
    by : (o : PrefixOp) → QuietIn e (operators.prefix_of_scalar at o v e)
    by prefix.AddressOf = prefixed-quiet at prefix.AddressOf v e c
    by prefix.Dereference = scalar-quiet 18 at v (unary_row.prefixed at prefix.Dereference) e c (prefixed-quiet at prefix.Dereference v e c)
    by prefix.Plus = scalar-quiet 18 at v (unary_row.prefixed at prefix.Plus) e c (prefixed-quiet at prefix.Plus v e c)
    by prefix.Minus = scalar-quiet 18 at v (unary_row.prefixed at prefix.Minus) e c (prefixed-quiet at prefix.Minus v e c)
    by prefix.Complement = scalar-quiet 18 at v (unary_row.prefixed at prefix.Complement) e c (prefixed-quiet at prefix.Complement v e c)
    by prefix.Not = scalar-quiet 18 at v (unary_row.prefixed at prefix.Not) e c (prefixed-quiet at prefix.Not v e c)

pub step_operator-quiet : (at : ℕ) (o : StepOp) (postfix : Bool) (v : Value) (e : Env) → Classless e → QuietIn e (operators.step_operator at o postfix v e)
step_operator-quiet at o postfix v e c = quiet-onward e (operators.step_arguments at postfix e) _ c (arguments postfix) (λ vs f cf. no-function-quiet at (step_number o) v vs true (unary_row.increment at o postfix v) f cf (increment-quiet at o postfix v f cf))
  where
    arguments : (b : Bool) → QuietIn e (operators.step_arguments at b e)
    arguments false = quiet-none e c
    arguments true = of_kind-quiet kind.Int e c

-- ---- subscripts

element_of-quiet : (at t : ℕ) (fixed : Bool) (x y : Value) (e : Env) → Classless e → QuietIn e (unary_row.element_of at t fixed x y e)
element_of-quiet at t fixed x y e c = need-quiet e (complete e t) 30 at _ (quiet-none e c)

indexed-quiet : (at : ℕ) (x y : Value) (k l : Sort) (a b : Option Kind) (e : Env) → Classless e → QuietIn e (unary_row.indexed at x y k l a b e)
indexed-quiet at x y (object_pointer t) l None (Some m) e c = quiet-onward e (to_kind m y e) _ c (to_kind-quiet m y e c) (λ i f cf. element_of-quiet at t (x.is_fixed && is_some i.number) x i f cf)
indexed-quiet at x y k (object_pointer t) (Some m) None e c = quiet-onward e (to_kind m x e) _ c (to_kind-quiet m x e c) (λ i f cf. element_of-quiet at t (y.is_fixed && is_some i.number) i y f cf)
indexed-quiet at x y k l a b e c = tt

subscript-quiet : (at : ℕ) (x y : Value) (e : Env) → Classless e → QuietIn e (unary_row.subscript at x y e)
subscript-quiet at x y e c =
    quiet-onward e (plain x e) _ c (plain-quiet x e c)
    (λ a f cf. quiet-onward f (plain y f) _ cf (plain-quiet y f cf)
    (λ b g cg. indexed-quiet at a b (sort_of g.types a.type) (sort_of g.types b.type) (arithmetic (sort_of g.types a.type)) (arithmetic (sort_of g.types b.type)) g cg))

pub index_operator-quiet : (at : ℕ) (x y : Value) (e : Env) → Classless e → QuietIn e (operators.index_operator at x y e)
index_operator-quiet at x y e c =
    no-function-quiet at 26 x (y ∷ []) false (operators.index_scalars at x y) e c
    (scalar-quiet 18 at x (λ a f. onward (scalar 18 at y f) (unary_row.subscript at a)) e c (scalar-quiet 18 at y (unary_row.subscript at x) e c (subscript-quiet at x y e c)))

-- ---- two operands

first_fit-quiet : (at : ℕ) (x y : Value) (t u : ℕ) (o r : Option (List ConvStep)) (e : Env) → Classless e → QuietIn e (binary_row.first_fit at x y t u o r e)
first_fit-quiet at x y t u (Some ss) r e c = quiet-onward e (converted at u ss x e) _ c (converted-quiet at u ss x e c) (λ a f cf. quiet-onward f (fit_row.fit at y u f) _ cf (standard-quiet at u y f cf) (λ b g cg. quiet-none g cg))
first_fit-quiet at x y t u None (Some ss) e c = quiet-onward e (fit_row.fit at x t e) _ c (standard-quiet at t x e c) (λ a f cf. quiet-onward f (converted at t ss y f) _ cf (converted-quiet at t ss y f cf) (λ b g cg. quiet-none g cg))
first_fit-quiet at x y t u None None e c = tt

alike-quiet : (at : ℕ) (x y : Value) (p q : ℕ) (e : Env) → Classless e → QuietIn e (binary_row.alike_pointers at x y p q e)
alike-quiet at x y p q e c =
    quiet-onward e (const_if (is_const e.types q) p e) _ c (const_if-quiet (is_const e.types q) p e c)
    (λ a f cf. quiet-onward f (const_if (is_const e.types p) q f) _ cf (const_if-quiet (is_const e.types p) q f cf)
    (λ b g cg. quiet-onward g (pointer_to a g) (λ t h. onward (pointer_to b h) (λ u i. binary_row.first_fit at x y t u (steps i.types (defs i) (val x) u) (steps i.types (defs i) (val y) t) i)) cg (pointer_to-quiet a g cg)
    (λ t h ch. quiet-onward h (pointer_to b h) (λ u i. binary_row.first_fit at x y t u (steps i.types (defs i) (val x) u) (steps i.types (defs i) (val y) t) i) ch (pointer_to-quiet b h ch)
    (λ u i ci. first_fit-quiet at x y t u (steps i.types (defs i) (val x) u) (steps i.types (defs i) (val y) t) i ci))))

of_pointers-quiet : (at : ℕ) (o : PointerOperator) (ab : Value × Value) (e : Env) → Classless e → QuietIn e (binary_row.of_pointers at o ab e)
of_pointers-quiet at o ab e c = of_kind-quiet kind.Int e c

moved-quiet : (at : ℕ) (o : PointerOperator) (p : Value) (t : ℕ) (k : Kind) (i : Value) (e : Env) → Classless e → QuietIn e (binary_row.moved at o p t k i e)
moved-quiet at o p t k i e c = need-quiet e (complete e t) 30 at _ (quiet-onward e (to_kind k i e) _ c (to_kind-quiet k i e c) (λ b f cf. quiet-none f cf))

moved_right-quiet : (at : ℕ) (k : Kind) (i p : Value) (t : ℕ) (e : Env) → Classless e → QuietIn e (binary_row.moved_right at k i p t e)
moved_right-quiet at k i p t e c = need-quiet e (complete e t) 30 at _ (quiet-onward e (to_kind k i e) _ c (to_kind-quiet k i e c) (λ b f cf. quiet-none f cf))

same_objects-quiet : (at : ℕ) (x y : Value) (t u : ℕ) (o r : Option PointerOperator) (e : Env) → Classless e → QuietIn e (binary_row.same_objects at x y t u o r e)
same_objects-quiet at x y t u None None e c = tt
same_objects-quiet at x y t u None (Some q) e c = quiet-onward e (binary_row.alike_pointers at x y t u e) (binary_row.of_pointers at q) c (alike-quiet at x y t u e c) (λ ab f cf. of_pointers-quiet at q ab f cf)
same_objects-quiet at x y t u (Some q) r e c =
    quiet-onward e (binary_row.alike_pointers at x y t u e) _ c (alike-quiet at x y t u e c) (λ ab f cf. need-quiet f (complete e t && complete e u) 30 at (binary_row.of_pointers at q ab) (of_pointers-quiet at q ab f cf))

with_other-quiet : (at : ℕ) (o : Option PointerOperator) (x y : Value) (t : ℕ) (e : Env) → Classless e → QuietIn e (binary_row.with_other at o x y t e)
with_other-quiet at None x y t e c = tt
with_other-quiet at (Some q) x y t e c =
    quiet-onward e (fit_row.fit at x t e) _ c (standard-quiet at t x e c)
    (λ a f cf. quiet-onward f (fit_row.fit at y t f) _ cf (standard-quiet at t y f cf) (λ b g cg. of_pointers-quiet at q (a, b) g cg))

void_equality-quiet : (at : ℕ) (o : Option PointerOperator) (x y : Value) (v other : ℕ) (e : Env) → Classless e → QuietIn e (binary_row.void_equality at o x y v other e)
void_equality-quiet at o x y v other e c =
    quiet-onward e (const_if (is_const e.types other) v e) _ c (const_if-quiet (is_const e.types other) v e c)
    (λ u f cf. quiet-onward f (pointer_to u f) (λ t. binary_row.with_other at o x y t) cf (pointer_to-quiet u f cf) (λ t g cg. with_other-quiet at o x y t g cg))

with_null-quiet : (at : ℕ) (op : BinaryOp) (x y : Value) (e : Env) → Classless e → QuietIn e (binary_row.with_null at op x y e)
with_null-quiet at op x y e c = by (is_zero y.number) (is_zero x.number)
  where
    by : (a b : Bool) → QuietIn e (let run : Elab Value = if a then binary_row.with_other at (binary_row.equality op) x y x.type else (if b then binary_row.with_other at (binary_row.equality op) x y y.type else (λ f. Refused 18 at)) in run e)
    by true b = with_other-quiet at (binary_row.equality op) x y x.type e c
    by false true = with_other-quiet at (binary_row.equality op) x y y.type e c
    by false false = tt

pointer_and_integer-quiet : (at : ℕ) (op : BinaryOp) (o : Option PointerOperator) (x : Value) (t : ℕ) (k : Kind) (y : Value) (e : Env) → Classless e → QuietIn e (binary_row.pointer_and_integer at op o x t k y e)
pointer_and_integer-quiet at op None x t k y e c = with_null-quiet at op x y e c
pointer_and_integer-quiet at op (Some p) x t k y e c = moved-quiet at p x t k y e c

integer_and_pointer-quiet : (at : ℕ) (op : BinaryOp) (x : Value) (k : Kind) (y : Value) (t : ℕ) (e : Env) → Classless e → QuietIn e (binary_row.integer_and_pointer at op x k y t e)
integer_and_pointer-quiet at binary.Add x k y t e c = moved_right-quiet at k x y t e c
integer_and_pointer-quiet at op x k y t e c = with_null-quiet at op x y e c

by_kinds-quiet : (at : ℕ) (op : BinaryOp) (o : Option Arith) (k l : Kind) (x y : Value) (e : Env) → Classless e → QuietIn e (binary_row.by_kinds at op o k l x y e)
by_kinds-quiet at op None k l x y e c = tt
by_kinds-quiet at op (Some a) k l x y e c = on_kinds-quiet at a k l x y e c

by_sorts-quiet : (at : ℕ) (op : BinaryOp) (x y : Value) (k l : Sort) (a b : Option Kind) (e : Env) → Classless e → QuietIn e (binary_row.by_sorts at op x y k l a b e)
by_sorts-quiet at op x y k l (Some m) (Some n) e c = by_kinds-quiet at op (binary_row.integer_operator op) m n x y e c
by_sorts-quiet at op x y (object_pointer t) l None (Some n) e c = pointer_and_integer-quiet at op (binary_row.add_or_subtract op) x t n y e c
by_sorts-quiet at op x y k (object_pointer t) (Some m) None e c = integer_and_pointer-quiet at op x m y t e c
by_sorts-quiet at op x y void_sort l None (Some n) e c = tt
by_sorts-quiet at op x y k void_sort (Some m) None e c = tt
by_sorts-quiet at op x y k l None (Some n) e c = with_null-quiet at op x y e c
by_sorts-quiet at op x y k l (Some m) None e c = with_null-quiet at op x y e c
by_sorts-quiet at op x y (object_pointer t) (object_pointer u) None None e c = same_objects-quiet at x y t u (binary_row.ordering op) (binary_row.equality op) e c
by_sorts-quiet at op x y (object_pointer t) void_pointer None None e c = void_equality-quiet at (binary_row.equality op) x y (binary_row.pointed e.types y.type) t e c
by_sorts-quiet at op x y void_pointer (object_pointer u) None None e c = void_equality-quiet at (binary_row.equality op) x y (binary_row.pointed e.types x.type) u e c
by_sorts-quiet at op x y void_pointer void_pointer None None e c = void_equality-quiet at (binary_row.equality op) x y (binary_row.pointed e.types x.type) (binary_row.pointed e.types y.type) e c
by_sorts-quiet at op x y (data_pointer d t) (data_pointer g u) None None e c = by (binary_row.equality op)
  where
    by : (o : Option PointerOperator) → (let run : Elab Value = elim o [
      | None ↦ (λ f. Refused 18 at)
      | Some q ↦ (λ f. onward (binary_row.first_fit at x y x.type y.type (steps f.types (defs f) (val x) y.type) (steps f.types (defs f) (val y) x.type) f) (binary_row.of_pointers at q))
    ] in QuietIn e (run e))
    by None = tt
    by (Some q) =
        quiet-onward e (binary_row.first_fit at x y x.type y.type (steps e.types (defs e) (val x) y.type) (steps e.types (defs e) (val y) x.type) e) (binary_row.of_pointers at q) c
        (first_fit-quiet at x y x.type y.type (steps e.types (defs e) (val x) y.type) (steps e.types (defs e) (val y) x.type) e c) (λ ab f cf. of_pointers-quiet at q ab f cf)
by_sorts-quiet at op x y (method_pointer d f) (method_pointer g k) None None e c = by (binary_row.equality op)
  where
    by : (o : Option PointerOperator) → (let run : Elab Value = elim o [ None ↦ (λ f. Refused 18 at) | Some q ↦ (λ f. Refused 48 at) ] in QuietIn e (run e))
    by None = tt
    by (Some q) = tt
by_sorts-quiet at op x y k l None None e c = tt

operation-quiet : (at : ℕ) (op : BinaryOp) (x y : Value) (e : Env) → Classless e → QuietIn e (binary_row.operation at op x y e)
operation-quiet at binary.LogicalAnd x y e c = logical-quiet at (λ p a b. node.And p a b) (λ a b. a && b) x y e c
operation-quiet at binary.LogicalOr x y e c = logical-quiet at (λ p a b. node.Or p a b) (λ a b. a || b) x y e c
operation-quiet at op x y e c = read e c
  where
    read : (e : Env) → Classless e
        → QuietIn e (onward (plain x e) (λ a f. onward (plain y f) (λ b g. binary_row.by_sorts at op a b (sort_of g.types a.type) (sort_of g.types b.type) (arithmetic (sort_of g.types a.type)) (arithmetic (sort_of g.types b.type)) g)))
    read e c =
        quiet-onward e (plain x e) _ c (plain-quiet x e c)
        (λ a f cf. quiet-onward f (plain y f) _ cf (plain-quiet y f cf)
        (λ b g cg. by_sorts-quiet at op a b (sort_of g.types a.type) (sort_of g.types b.type) (arithmetic (sort_of g.types a.type)) (arithmetic (sort_of g.types b.type)) g cg))

pub binary_operator-quiet : (at : ℕ) (op : BinaryOp) (x y : Value) (e : Env) → Classless e → QuietIn e (operators.binary_operator at op x y e)
binary_operator-quiet at op x y e c =
    no-function-quiet at (binary_number op) x (y ∷ []) true (operators.on_scalars at op x y) e c
    (scalar-quiet (operand_rule op) at x (λ a f. onward (scalar (operand_rule op) at y f) (binary_row.operation at op a)) e c (scalar-quiet (operand_rule op) at y (binary_row.operation at op x) e c (operation-quiet at op x y e c)))

-- ---- assignment

stored-quiet : (at : ℕ) (v x : Value) (e : Env) → Classless e → QuietIn e (choice_row.stored at v x e)
stored-quiet at v x e c = need-quiet e (unary_row.modifiable e v) 12 at _ (quiet-onward e (user.fit at x v.type e) _ c (fit-quiet at v.type x e c) (λ a f cf. quiet-none f cf))

moved_pointer-quiet : (at : ℕ) (v : Value) (t : ℕ) (l : Kind) (x : Value) (o : Option Bool) (e : Env) → Classless e → QuietIn e (choice_row.moved_pointer at v t l x o e)
moved_pointer-quiet at v t l x None e c = tt
moved_pointer-quiet at v t l x (Some back) e c = need-quiet e (complete e t) 30 at _ (quiet-onward e (to_kind l x e) _ c (to_kind-quiet l x e c) (λ a f cf. quiet-none f cf))

not_combined-quiet : (at : ℕ) (o : Arith) (v x : Value) (e : Env) → Classless e → QuietIn e (choice_row.not_combined at o v x e)
not_combined-quiet at o v x e c =
    quiet-onward e (binary_row.operation at (choice_row.binary_of o) v x e) _ c (operation-quiet at (choice_row.binary_of o) v x e c)
    (λ z f cf. quiet-onward f (user.fit at z v.type f) _ cf (fit-quiet at v.type z f cf) (λ a g cg. tt))

combined-quiet : (at : ℕ) (o : Arith) (v x : Value) (k : Sort) (p l : Option Kind) (e : Env) → Classless e → QuietIn e (choice_row.combined at o v x k p l e)
combined-quiet at o v x (integral k) (Some p) (Some l) e c = quiet-onward e (to_kind (choice_row.operand_kind o p l) x e) _ c (to_kind-quiet (choice_row.operand_kind o p l) x e c) (λ a f cf. quiet-none f cf)
combined-quiet at o v x (object_pointer t) None (Some l) e c = moved_pointer-quiet at v t l x (choice_row.moves o) e c
combined-quiet at o v x k p l e c = not_combined-quiet at o v x e c

update-quiet : (at : ℕ) (o : Arith) (v y : Value) (e : Env) → Classless e → QuietIn e (choice_row.update at o v y e)
update-quiet at o v y e c =
    need-quiet e (unary_row.modifiable e v) 12 at _
    (quiet-onward e (plain y e) _ c (plain-quiet y e c) (λ x f cf. combined-quiet at o v x (sort_of f.types v.type) (arithmetic (sort_of f.types v.type)) (arithmetic (sort_of f.types x.type)) f cf))

assignment-quiet : (at : ℕ) (o : AssignOp) (v x : Value) (e : Env) → Classless e → QuietIn e (choice_row.assignment at o v x e)
assignment-quiet at o v x e c = by (choice_row.updating o)
  where
    by : (u : Option Arith) → QuietIn e (choice_row.by_operator at u v x e)
    by None = stored-quiet at v x e c
    by (Some a) = update-quiet at a v x e c

pub assign_operator-quiet : (at : ℕ) (o : AssignOp) (x y : Value) (e : Env) → Classless e → QuietIn e (operators.assign_operator at o x y e)
assign_operator-quiet at o x y e c = subst (λ k. QuietIn e (operators.assigned_by_class at o x y k e)) (sym (classless-number e c x.type)) (by o)
  where
    other : (a : AssignOp) → QuietIn e (by_operator at (update_number a) x (y ∷ []) true (operators.update_scalar at a x y) e)
    other a = no-function-quiet at (update_number a) x (y ∷ []) true (operators.update_scalar at a x y) e c (scalar-quiet 18 at y (choice_row.assignment at a x) e c (assignment-quiet at a x y e c))

    by : (a : AssignOp) → QuietIn e (operators.assigned_by_class at a x y None e)
    by assign.Assign = assignment-quiet at assign.Assign x y e c
    by a = other a

-- ---- conditions

both_arithmetic-quiet : (at : ℕ) (d x y : Value) (k l : Kind) (e : Env) → Classless e → QuietIn e (choice_row.both_arithmetic at d x y k l e)
both_arithmetic-quiet at d x y k l e c =
    quiet-onward e (to_kind (usual k l) x e) _ c (to_kind-quiet (usual k l) x e c)
    (λ a f cf. quiet-onward f (to_kind (usual k l) y f) _ cf (to_kind-quiet (usual k l) y f cf)
    (λ b g cg. of_kind-quiet (usual k l) g cg))

one_type-quiet : (at : ℕ) (d x y : Value) (o r : Option (List ConvStep)) (e : Env) → Classless e → QuietIn e (choice_row.one_type at d x y o r e)
one_type-quiet at d x y (Some ss) r e c = quiet-onward e (converted at y.type ss x e) _ c (converted-quiet at y.type ss x e c) (λ a f cf. quiet-none f cf)
one_type-quiet at d x y None (Some ss) e c = quiet-onward e (converted at x.type ss y e) _ c (converted-quiet at x.type ss y e c) (λ a f cf. quiet-none f cf)
one_type-quiet at d x y None None e c = tt

alternatives-quiet : (at : ℕ) (d x y : Value) (k l : Sort) (a b : Option Kind) (e : Env) → Classless e → QuietIn e (choice_row.alternatives at d x y k l a b e)
alternatives-quiet at d x y k l a b e c = by k l a b
  where
    other : (k l : Sort) → QuietIn e (onward (need (elim (takes_null k) [ true ↦ true | false ↦ takes_null l ]) 18 at e) (λ _ f. choice_row.one_type at d x y (steps e.types (defs e) (val x) y.type) (steps e.types (defs e) (val y) x.type) f))
    other k l = need-quiet e (elim (takes_null k) [ true ↦ true | false ↦ takes_null l ]) 18 at _ (one_type-quiet at d x y (steps e.types (defs e) (val x) y.type) (steps e.types (defs e) (val y) x.type) e c)

    by : (k l : Sort) (a b : Option Kind) → QuietIn e (choice_row.alternatives at d x y k l a b e)
    by k l (Some m) (Some n) = both_arithmetic-quiet at d x y m n e c
    by k l (Some m) None = other k l
    by void_sort void_sort None None = quiet-none e c
    by void_sort void_sort None (Some n) = other void_sort void_sort
    by k l None None = other k l
    by k l None (Some n) = other k l

same_none : (a b : Option ℕ) → a ≡ None → choice_row.same_class a b ≡ None
same_none a b h = ap (λ o. choice_row.same_class o b) h

pub conditional-quiet : (at : ℕ) (condition x y : Value) (e : Env) → Classless e → QuietIn e (choice_row.conditional at condition x y e)
conditional-quiet at condition x y e c =
    quiet-onward e (class_truth 13 at condition e) _ c (class_truth-quiet 13 at condition e c)
    (λ d f cf. rw (same_none (class_number (sort_of f.types x.type)) (class_number (sort_of f.types y.type)) (classless-number f cf x.type)) (by d f cf (x.is_lvalue && y.is_lvalue && (x.type == y.type))))
  where
    by : (d : Value) (f : Env) → Classless f → (m : Bool)
        → (let run : Elab Value = if m then (λ g. Made (choice_row.one_place at d x y) g)
        else (λ g. onward (plain x g) (λ a k. onward (plain y k) (λ b n. choice_row.alternatives at d a b (sort_of n.types a.type) (sort_of n.types b.type) (arithmetic (sort_of n.types a.type)) (arithmetic (sort_of n.types b.type)) n))) in QuietIn f (run f))
    by d f cf true = quiet-none f cf
    by d f cf false =
        quiet-onward f (plain x f) _ cf (plain-quiet x f cf)
        (λ a g cg. quiet-onward g (plain y g) _ cg (plain-quiet y g cg)
        (λ b h ch. alternatives-quiet at d a b (sort_of h.types a.type) (sort_of h.types b.type) (arithmetic (sort_of h.types a.type)) (arithmetic (sort_of h.types b.type)) h ch))

pub sequence-quiet : (at : ℕ) (vs : List Value) (e : Env) → Classless e → QuietIn e (choice_row.sequence at vs e)
sequence-quiet at [] e c = tt
sequence-quiet at (v ∷ vs) e c = quiet-none e c
