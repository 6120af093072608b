-- Which kinds an integer has that an action gives.
use Rattle.std.proofs.Common.{◌≡◌, Bool, true, false, ◌&&◌, ◌||◌, if◌then◌else◌, Option, Some, refl, sym, ap, subst, ◌∙◌}
use Rattle.std.specs.Prelude.{ℤ, ℕ}
use Rattle.cf_base.specs.declared.kind.Kind.{Kind}
use Rattle.cf_base.specs.declared.kind.Kind.TheVariants.{Int, UInt}
use Rattle.cf_base.specs.Integers.{fits}
use Rattle.cf_base.specs.declared.arith.Arith.{Arith}
use Rattle.cf_base.specs.declared.arith.Arith.TheVariants as op
use Rattle.cf_core.specs.FromTypes.{Tables}
use Rattle.cf_core.specs.View.{change_of}
use Rattle.cf_core.specs.declared.node.Change.{Change as CodeChange}
use Rattle.cf_core.specs.declared.node.Change.TheVariants as change
use Rattle.cf_core.specs.declared.operators.PointerOperator.{PointerOperator}
use Rattle.cf_core.specs.declared.operators.PointerOperator.TheVariants as pointer
use Rattle.cf_core.specs.Types.{SourceType, without_const}
use Rattle.cf_core.specs.Places.{is_scalar}
use Rattle.cf_lower_layout.specs.Sorts.{Sort, number, address, code}
use Rattle.cf_plain.specs.Plain.{Action, Register}
use Rattle.cf_lower.specs.Kept.{Kept, unknown, integer_of, holds, argument, Keeping, Locals, within, a_truth, result_kept, operated_kept, changed_kept, constant_kept, decayed_kept, pointer_of, declared_kept, is_argument, of_sort, kept_by, keep}
use Rattle.cf_lower_held.specs.Holds.{erased, erasing}
use Rattle.cf_lower_held.proofs.Erased.{kept_by_erased}
use Rattle.cf_lower_types.specs.declared.scalar.Scalar.{Scalar}
use Rattle.cf_lower_types.specs.declared.scalar.Scalar.TheVariants as scalar
use Rattle.cf_lower_types.specs.Bare.{sort_in}
use Rattle.cf_lowerable_places.specs.Contents.{restored, compares}
use Rattle.cf_lowerable_places.proofs.Holding.{restored_is}

-- the kinds are those of an integer, if it is one
abbrev pub Fit : Kept → (Kind → Bool) → Type 0
Fit k f = restored k f ≡ k

pub constant_fits : (z w : ℤ) (f : Kind → Bool) → f ≡ (λ k. fits k w) → w ≡ z → Fit (constant_kept z) f
constant_fits z w f e same = subst (λ y. Fit (constant_kept y) f) same (by (fits Int w || fits UInt w))
  where
    by : (b : Bool) → restored (if b then integer_of (λ k. fits k w) else unknown) f ≡ (if b then integer_of (λ k. fits k w) else unknown)
    by true = ap integer_of e
    by false = refl

pub number_fits : (tables : Tables) (s : Scalar) (k : Kind) (f : Kind → Bool) → s ≡ scalar.Number k → f ≡ within k → Fit (of_sort (Some (sort_in tables s))) f
number_fits tables s k f is e = subst (λ t. Fit (of_sort (Some (sort_in tables t))) f) (sym is) (ap integer_of e)

pub comparison_fits : (o : Arith) (k : Kind) (f : Kind → Bool) (b : Bool) → b ≡ compares o → b ≡ true → f ≡ (λ j. true) → Fit (result_kept o k) f
comparison_fits o k f b is sure e = by o (sym is ∙ sure)
  where
    by : (o : Arith) → compares o ≡ true → Fit (result_kept o k) f
    by op.Less t = ap integer_of e
    by op.Greater t = ap integer_of e
    by op.LessEqual t = ap integer_of e
    by op.GreaterEqual t = ap integer_of e
    by op.Equal t = ap integer_of e
    by op.NotEqual t = ap integer_of e
    by o t = cc

pub operator_fits : (o : Arith) (k : Kind) (f : Kind → Bool) (b : Bool) → b ≡ compares o → b ≡ false → f ≡ within k → Fit (result_kept o k) f
operator_fits o k f b is not_so e = by o (sym is ∙ not_so)
  where
    by : (o : Arith) → compares o ≡ false → Fit (result_kept o k) f
    by op.Less t = cc
    by op.Greater t = cc
    by op.LessEqual t = cc
    by op.GreaterEqual t = cc
    by op.Equal t = cc
    by op.NotEqual t = cc
    by o t = ap integer_of e

pub difference_fits : (o : PointerOperator) (x y : Kept) (f : Kind → Bool) → o ≡ pointer.Difference → f ≡ within Int → Fit (operated_kept o x y) f
difference_fits o x y f is e = subst (λ p. Fit (operated_kept p x y) f) (sym is) (ap integer_of e)

-- what compares pointers gives 0 or 1
pub order_fits : (o : PointerOperator) (x y : Kept) (f : Kind → Bool) → operated_kept o x y ≡ a_truth → f ≡ (λ j. true) → Fit (operated_kept o x y) f
order_fits o x y f is e = subst (λ k. Fit k f) (sym is) (ap integer_of e)

pub change_fits : (c : CodeChange) (o : Arith) (k to : Kind) (x : Kept) (f : Kind → Bool) → c ≡ change.Arithmetic o k to → f ≡ within to → Fit (changed_kept (change_of c) x) f
change_fits c o k to x f is e = subst (λ d. Fit (changed_kept (change_of d) x) f) (sym is) (ap integer_of e)

pub moved_fits : (c : CodeChange) (b : Bool) (x : Kept) (f : Kind → Bool) → c ≡ change.Moved b → Fit x f → Fit (changed_kept (change_of c) x) f
moved_fits c b x f is e = subst (λ d. Fit (changed_kept (change_of d) x) f) (sym is) e

pub decayed_fits : (k : Kept) (f : Kind → Bool) → Fit k f → Fit (decayed_kept k) f
decayed_fits unknown f e = refl
decayed_fits (integer_of g) f e = e
decayed_fits (holds (number l)) f e = refl
decayed_fits (holds (address t)) f e = refl
decayed_fits (holds (code t)) f e = refl
decayed_fits (argument i t) f e = refl

pub pointer_fits : (j k : Kept) (f : Kind → Bool) → Fit k f → Fit (pointer_of j k) f
pointer_fits unknown k f e = e
pointer_fits (integer_of g) k f e = e
pointer_fits (holds (number l)) k f e = e
pointer_fits (holds (address t)) k f e = refl
pointer_fits (holds (code t)) k f e = e
pointer_fits (argument i t) k f e = e

pub declared_fits : (locals : Locals) (i : ℕ) (t : SourceType) (f : Kind → Bool) → Fit (declared_kept locals i t) f
declared_fits locals i t f = by (is_argument locals i && is_scalar t)
  where
    by : (b : Bool) → restored (if b then argument i t else holds (address (without_const t))) f ≡ (if b then argument i t else holds (address (without_const t)))
    by true = refl
    by false = refl

-- of a scalar
pub scalar_fits : (s o : Option Sort) (f : Kind → Bool) → Fit (of_sort s) f → s ≡ o → Fit (of_sort o) f
scalar_fits s o f e is = sym (ap (λ x. restored (of_sort x) f) is) ∙ e ∙ ap of_sort is

-- what a register holds behind an action
pub set_known : (locals : Locals) (g r : Keeping) (q : Register) (a : Action) (h : Kept) (f : Kind → Bool) (n : Keeping) → erasing g ≡ r → h ≡ erased (kept_by locals r a)
    → Fit (kept_by locals g a) f → n ≡ keep g q (restored h f) → n ≡ keep g q (kept_by locals g a)
set_known locals g r q a h f n same held fit is =
    is ∙ ap (keep g q) (restored_is h (kept_by locals g a) f (held ∙ sym (ap (λ x. erased (kept_by locals x a)) same) ∙ kept_by_erased locals g a) fit)
