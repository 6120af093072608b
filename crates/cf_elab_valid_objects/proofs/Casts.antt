-- Casts and types with arguments (5.2.3, 5.4).
use Rattle.std.proofs.Common.{◌≡◌, ℕ, not, ◌&&◌, ◌==◌, if◌then◌else◌, List, [], ◌∷◌, pos, None, sym, subst}
use Rattle.cf_base.specs.declared.kind.Kind.TheVariants as kind
use Rattle.cf_convert.specs.Constness.{bare}
use Rattle.cf_elab.specs.Answer.{Elab, Refused, Made, gives}
use Rattle.cf_elab.specs.Cast as row
use Rattle.cf_elab.specs.Cast.{same_types, takes_null, as_enumeration, to_nothing}
use Rattle.cf_elab.specs.ClassOperand.{is_object}
use Rattle.cf_elab.specs.ClassOperators as operators
use Rattle.cf_elab.specs.Complete.{complete}
use Rattle.cf_elab.specs.Env.{Env}
use Rattle.cf_elab.specs.Expression as expression
use Rattle.cf_elab.specs.Fit.{null_of}
use Rattle.cf_elab.specs.Made.{of_kind}
use Rattle.cf_elab.specs.Members.{class_number}
use Rattle.cf_elab.specs.Operand.{Value, Sort, integral, enumeral, object_pointer, void_pointer, function_pointer, data_pointer, method_pointer, class_sort, array_sort, function_sort, void_sort, reference_sort, sort_of, plain, constant, is_zero}
use Rattle.cf_elab.specs.Unary as unary_row
use Rattle.cf_elab_valid.specs.Scene.{Classless}
use Rattle.cf_elab_valid.proofs.Operands.{no-object}
use Rattle.cf_elab_valid.proofs.Unary.{classless-number}
use Rattle.cf_elab_valid_objects.specs.Quiet.{QuietIn}
use Rattle.cf_elab_valid_objects.proofs.Conversions.{plain-quiet, standard-quiet}
use Rattle.cf_elab_valid_objects.proofs.Steps.{quiet-none, quiet-onward, need-quiet, if-quiet, of_kind-quiet}

retyped-quiet : (at t : ℕ) (x : Value) (e : Env) → Classless e → QuietIn e (row.retyped at t x e)
retyped-quiet at t x e c = if-quiet e (same_types e x.type t) (gives (record x { type = t; number = None })) (λ f. Refused 17 at) (quiet-none e c) tt

classes-quiet : (at t : ℕ) (x : Value) (u v : ℕ) (e : Env) → Classless e → QuietIn e (row.cast_classes at t x (class_number (sort_of e.types v)) (class_number (sort_of e.types u)) e)
classes-quiet at t x u v e c = subst (λ o. QuietIn e (row.cast_classes at t x o (class_number (sort_of e.types u)) e)) (sym (classless-number e c v)) (retyped-quiet at t x e c)

scalar-quiet : (at t : ℕ) (x : Value) (k l : Sort) (e : Env) → Classless e → QuietIn e (row.cast_scalar at t x k l e)
scalar-quiet at t x (integral k) (integral l) e c = standard-quiet at t x e c
scalar-quiet at t x (integral k) (enumeral n) e c = standard-quiet at t x e c
scalar-quiet at t x (enumeral n) (integral k) e c = quiet-none e c
scalar-quiet at t x (enumeral n) (enumeral m) e c = if-quiet e (n == m) (gives (record x { type = t })) (gives (as_enumeration at t x)) (quiet-none e c) (quiet-none e c)
scalar-quiet at t x (object_pointer u) (object_pointer v) e c = classes-quiet at t x u v e c
scalar-quiet at t x (object_pointer u) void_pointer e c = quiet-none e c
scalar-quiet at t x void_pointer (object_pointer v) e c = quiet-none e c
scalar-quiet at t x void_pointer void_pointer e c = quiet-none e c
scalar-quiet at t x (function_pointer u) (function_pointer v) e c = retyped-quiet at t x e c
scalar-quiet at t x (data_pointer k u) (data_pointer l v) e c = retyped-quiet at t x e c
scalar-quiet at t x (method_pointer k f) (method_pointer l g) e c = retyped-quiet at t x e c
scalar-quiet at t x k l e c = tt

value-quiet : (at t : ℕ) (k : Sort) (v : Value) (e : Env) → Classless e → QuietIn e (row.cast_value at t k v e)
value-quiet at t k v e c =
    quiet-onward e (plain v e) _ c (plain-quiet v e c)
    (λ x f cf. let y : Value = record x { at = at } in
    if-quiet f (is_zero x.number && takes_null k) (gives (null_of t y)) (row.cast_scalar at t y k (sort_of f.types x.type)) (quiet-none f cf) (scalar-quiet at t y k (sort_of f.types x.type) f cf))

place-quiet : (at u : ℕ) (v : Value) (e : Env) → Classless e → QuietIn e (row.as_place at u v e)
place-quiet at u v e c = need-quiet e v.is_lvalue 17 at _ (classes-quiet at u v u v.type e c)

sort-quiet : (at t : ℕ) (v : Value) (k : Sort) (e : Env) → Classless e → QuietIn e (row.cast_sort at t v k e)
sort-quiet at t v void_sort e c = quiet-none e c
sort-quiet at t v (reference_sort u) e c = place-quiet at u (record v { at = at }) e c
sort-quiet at t v (integral k) e c = value-quiet at t (integral k) v e c
sort-quiet at t v (enumeral n) e c = value-quiet at t (enumeral n) v e c
sort-quiet at t v (object_pointer u) e c = value-quiet at t (object_pointer u) v e c
sort-quiet at t v void_pointer e c = value-quiet at t void_pointer v e c
sort-quiet at t v (function_pointer u) e c = value-quiet at t (function_pointer u) v e c
sort-quiet at t v (data_pointer k u) e c = value-quiet at t (data_pointer k u) v e c
sort-quiet at t v (method_pointer k u) e c = value-quiet at t (method_pointer k u) v e c
sort-quiet at t v (class_sort k) e c = value-quiet at t (class_sort k) v e c
sort-quiet at t v (array_sort u n) e c = value-quiet at t (array_sort u n) v e c
sort-quiet at t v (function_sort g) e c = value-quiet at t (function_sort g) v e c

cast-quiet : (at t : ℕ) (v : Value) (e : Env) → Classless e → QuietIn e (row.cast at t v e)
cast-quiet at t v e c = sort-quiet at (bare e.types t) v (sort_of e.types t) e c

pub cast_operator-quiet : (at t : ℕ) (v : Value) (e : Env) → Classless e → QuietIn e (operators.cast_operator at t v e)
cast_operator-quiet at t v e c =
    subst (λ o. QuietIn e (operators.cast_by_class at t v o (is_object e v) e)) (sym (classless-number e c t))
    (subst (λ b. QuietIn e (operators.cast_by_class at t v None b e)) (sym (no-object e c v)) (cast-quiet at t v e c))

-- ---- types with arguments

zero-quiet : (at t : ℕ) (e : Env) → Classless e → QuietIn e (row.zero_value at t e)
zero-quiet at t e c = by (sort_of e.types t)
  where
    by : (k : Sort) → QuietIn e ((elim k as (λ _. ℕ → Value → Elab Value) [
      | integral j ↦ λ u z. λ f. Made (record z { type = u }) f
      | enumeral n ↦ λ u z. λ f. Made (as_enumeration at u z) f
      | object_pointer a ↦ λ u z. λ f. Made (null_of u z) f
      | void_pointer ↦ λ u z. λ f. Made (null_of u z) f
      | function_pointer a ↦ λ u z. λ f. Made (null_of u z) f
      | data_pointer a b ↦ λ u z. λ f. Made (null_of u z) f
      | method_pointer a b ↦ λ u z. λ f. Made (null_of u z) f
      | class_sort a ↦ λ u z. λ f. Refused 17 at
      | array_sort a b ↦ λ u z. λ f. Refused 17 at
      | function_sort a ↦ λ u z. λ f. Refused 17 at
      | void_sort ↦ λ u z. λ f. Made (to_nothing f at u z) f
      | reference_sort a ↦ λ u z. λ f. Refused 17 at
    ]) (bare e.types t) (constant at (pos 0) t) e)
    by (integral j) = quiet-none e c
    by (enumeral n) = quiet-none e c
    by (object_pointer a) = quiet-none e c
    by void_pointer = quiet-none e c
    by (function_pointer a) = quiet-none e c
    by (data_pointer a b) = quiet-none e c
    by (method_pointer a b) = quiet-none e c
    by (class_sort a) = tt
    by (array_sort a b) = tt
    by (function_sort a) = tt
    by void_sort = quiet-none e c
    by (reference_sort a) = tt

pub from_type-quiet : (at t : ℕ) (vs : List Value) (e : Env) → Classless e → QuietIn e (expression.from_type at t vs (class_number (sort_of e.types t)) e)
from_type-quiet at t vs e c = subst (λ o. QuietIn e (expression.from_type at t vs o e)) (sym (classless-number e c t)) (by vs)
  where
    by : (vs : List Value) → QuietIn e (row.from_arguments at t vs e)
    by [] = zero-quiet at t e c
    by (x ∷ []) = cast-quiet at t x e c
    by (x ∷ y ∷ rest) = tt

-- ---- sizeof

size_of_object-quiet : (at t : ℕ) (e : Env) → Classless e → QuietIn e (unary_row.size_of_object at t e)
size_of_object-quiet at t e c =
    need-quiet e (not (unary_row.is_unsized (sort_of e.types t))) 18 at _ (need-quiet e (complete e t) 30 at _ (of_kind-quiet kind.UInt e c))

pub size_constant-quiet : (at t : ℕ) (e : Env) → Classless e → QuietIn e (unary_row.size_constant at t e)
size_constant-quiet at t e c = size_of_object-quiet at (unary_row.referred_type t (sort_of e.types t)) e c
