-- What an integer's kinds are left out of.
use Rattle.std.proofs.Common.{◌≡◌, true, if◌then◌else◌, refl, ap, ◌∙◌}
use Rattle.std.specs.Prelude.{Some}
use Rattle.cf_base.specs.declared.kind.Kind.{Kind}
use Rattle.cf_base.specs.declared.arith.Arith.{Arith}
use Rattle.cf_base.specs.declared.arith.Arith.TheVariants as op
use Rattle.cf_core.specs.FromTypes.{Tables}
use Rattle.cf_core.specs.Core.{Change, arithmetic, moved}
use Rattle.cf_core.specs.declared.operators.PointerOperator.{PointerOperator}
use Rattle.cf_core.specs.declared.operators.PointerOperator.TheVariants as pointer
use Rattle.cf_lower.specs.Kept.{Kept, unknown, integer_of, holds, argument, Keeping, Locals, of_sort, result_kept, read_kept, decayed_kept, pointer_of, operated_kept, changed_kept, kept_by, same_kept, both_kept}
use Rattle.cf_lower_layout.specs.Sorts.{Sort, number, address, code}
use Rattle.cf_plain.specs.Plain as plain
use Rattle.cf_plain.specs.Plain.{Action}
use Rattle.cf_lower_held.specs.declared.held.Held.{Held}
use Rattle.cf_lower_held.specs.declared.held.Held.TheVariants as held
use Rattle.cf_lower_held.specs.Holds.{erased, erasing, kept_in, holding_one}

pub erased_kept : (tables : Tables) (h : Held) → erased (kept_in tables h) ≡ kept_in tables h
erased_kept tables held.Nothing = refl
erased_kept tables held.Integer = refl
erased_kept tables (held.Place t) = refl
erased_kept tables held.Void = refl
erased_kept tables held.Character = refl
erased_kept tables (held.Characters n) = refl
erased_kept tables (held.Code t) = refl
erased_kept tables (held.Argument i t) = refl

one_erased : (s : Sort) → holding_one s ≡ erased (of_sort (Some s))
one_erased (number k) = refl
one_erased (address t) = refl
one_erased (code t) = refl

pub erased_one : (s : Sort) (k : Kept) → k ≡ holding_one s → k ≡ erased (of_sort (Some s))
erased_one s k e = e ∙ one_erased s

pub erased_result : (o : Arith) (k : Kind) → erased (result_kept o k) ≡ integer_of (λ k. true)
erased_result op.Less k = refl
erased_result op.Greater k = refl
erased_result op.LessEqual k = refl
erased_result op.GreaterEqual k = refl
erased_result op.Equal k = refl
erased_result op.NotEqual k = refl
erased_result o k = refl

pub erased_twice : (x : Kept) → erased (erased x) ≡ erased x
erased_twice unknown = refl
erased_twice (integer_of f) = refl
erased_twice (holds s) = refl
erased_twice (argument i t) = refl

-- ---- what actions give depends on erased operands, but for the kinds of integers

module _ (locals : Locals) where
  read_erased : (x : Kept) → erased (read_kept (erased x)) ≡ erased (read_kept x)
  read_erased unknown = refl
  read_erased (integer_of f) = refl
  read_erased (holds s) = refl
  read_erased (argument i t) = refl

  decayed_erased : (x : Kept) → erased (decayed_kept (erased x)) ≡ erased (decayed_kept x)
  decayed_erased unknown = refl
  decayed_erased (integer_of f) = refl
  decayed_erased (holds s) = refl
  decayed_erased (argument i t) = refl

  pointer_erased : (x y : Kept) → erased (pointer_of (erased x) (erased y)) ≡ erased (pointer_of x y)
  pointer_erased unknown y = erased_twice y
  pointer_erased (integer_of f) y = erased_twice y
  pointer_erased (holds (number k)) y = erased_twice y
  pointer_erased (holds (address t)) y = refl
  pointer_erased (holds (code t)) y = erased_twice y
  pointer_erased (argument i t) y = erased_twice y

  operated_erased : (o : PointerOperator) (x y : Kept) → erased (operated_kept o (erased x) (erased y)) ≡ erased (operated_kept o x y)
  operated_erased pointer.Add x y = pointer_erased x y
  operated_erased pointer.Subtract x y = erased_twice x
  operated_erased o x y = refl

  changed_erased : (c : Change) (x : Kept) → erased (changed_kept c (erased x)) ≡ erased (changed_kept c x)
  changed_erased (arithmetic o k to) x = refl
  changed_erased (moved b) x = erased_twice x

  pub kept_by_erased : (g : Keeping) (a : Action) → erased (kept_by locals (erasing g) a) ≡ erased (kept_by locals g a)
  kept_by_erased g (plain.read r) = read_erased (g r)
  kept_by_erased g (plain.dereference r) = erased_twice (g r)
  kept_by_erased g (plain.decay r) = decayed_erased (g r)
  kept_by_erased g (plain.index r q) = pointer_erased (g r) (g q)
  kept_by_erased g (plain.pointer_operate o r q) = operated_erased o (g r) (g q)
  kept_by_erased g (plain.changed c r q) = changed_erased c (g r)
  kept_by_erased g a = refl

-- ---- and so does what two ways keep

same_erased : (x y : Kept) → same_kept (erased x) (erased y) ≡ same_kept x y
same_erased unknown unknown = refl
same_erased unknown (integer_of f) = refl
same_erased unknown (holds s) = refl
same_erased unknown (argument i t) = refl
same_erased (integer_of f) unknown = refl
same_erased (integer_of f) (integer_of h) = refl
same_erased (integer_of f) (holds s) = refl
same_erased (integer_of f) (argument i t) = refl
same_erased (holds s) unknown = refl
same_erased (holds (number k)) (integer_of f) = refl
same_erased (holds (address t)) (integer_of f) = refl
same_erased (holds (code t)) (integer_of f) = refl
same_erased (holds s) (holds r) = refl
same_erased (holds s) (argument i t) = refl
same_erased (argument i t) unknown = refl
same_erased (argument i t) (integer_of f) = refl
same_erased (argument i t) (holds s) = refl
same_erased (argument i t) (argument j u) = refl

pub both_erased : (x y : Kept) → erased (both_kept (erased x) (erased y)) ≡ erased (both_kept x y)
both_erased (integer_of f) (integer_of h) = refl
both_erased (integer_of f) unknown = refl
both_erased (integer_of f) (holds s) = refl
both_erased (integer_of f) (argument i t) = refl
both_erased unknown y = ap (λ b. erased (if b then unknown else unknown)) (same_erased unknown y)
both_erased (holds s) y = ap (λ b. erased (if b then holds s else unknown)) (same_erased (holds s) y)
both_erased (argument i t) y = ap (λ b. erased (if b then argument i t else unknown)) (same_erased (argument i t) y)
