-- What is written for an action does not depend on the kinds of integers that registers hold.
use Rattle.std.proofs.Common.{◌≡◌, ℕ, Option, Some, None, refl, ap, ◌∙◌}
use Rattle.cc_whole.specs.Plain.{Expression, constant, binary}
use Rattle.cf_base.specs.declared.arith.Arith.{Arith}
use Rattle.cf_base.specs.declared.arith.Arith.TheVariants as op
use Rattle.cf_core.specs.Types.{Name}
use Rattle.cf_core.specs.Classes.{Class}
use Rattle.cf_core.specs.Core.{Change, arithmetic, moved}
use Rattle.cf_core.specs.declared.operators.PointerOperator.{PointerOperator}
use Rattle.cf_core.specs.declared.operators.PointerOperator.TheVariants as pointer
use Rattle.std.specs.Prelude.{List, true, false}
use Rattle.cf_lower_layout.specs.Sorts.{Sort, number, address, code, sort_of}
use Rattle.cf_plain.specs.Plain as plain
use Rattle.cf_plain.specs.Plain.{Action}
use Rattle.cf_lower.specs.Kept.{Kept, unknown, integer_of, holds, argument, Keeping, Locals, local_kept}
use Rattle.cf_lower.specs.Expressions.{zero, address_in, integer_in, local_value, value_in, read_value, same_value, element_bytes, sum_by, moved_by, equated, converted, changed, pointer_operated, value}
use Rattle.cf_lower.specs.Written.{int_constant}
use Rattle.cf_lower_held.specs.Holds.{erased, erasing}

pub local_erased : (x : Kept) → local_kept (erased x) ≡ local_kept x
local_erased unknown = refl
local_erased (integer_of f) = refl
local_erased (holds s) = refl
local_erased (argument i t) = refl

pub value_in_erased : (g : Keeping) (r : ℕ) → value_in (erasing g) r ≡ value_in g r
value_in_erased g r = ap (λ s. local_value s r) (local_erased (g r))

read_erased : (x : Kept) (r : ℕ) → read_value (erased x) r ≡ read_value x r
read_erased unknown r = refl
read_erased (integer_of f) r = refl
read_erased (holds s) r = refl
read_erased (argument i t) r = refl

same_erased : (x : Kept) (r : ℕ) → same_value (erased x) r ≡ same_value x r
same_erased unknown r = refl
same_erased (integer_of f) r = refl
same_erased (holds s) r = refl
same_erased (argument i t) r = refl

converted_erased : (s : Option Sort) (x : Kept) (r : ℕ) → converted s (erased x) r ≡ converted s x r
converted_erased None x r = refl
converted_erased (Some (number k)) x r = refl
converted_erased (Some (address t)) unknown r = refl
converted_erased (Some (address t)) (integer_of f) r = refl
converted_erased (Some (address t)) (holds s) r = refl
converted_erased (Some (address t)) (argument i u) r = refl
converted_erased (Some (code t)) unknown r = refl
converted_erased (Some (code t)) (integer_of f) r = refl
converted_erased (Some (code t)) (holds s) r = refl
converted_erased (Some (code t)) (argument i u) r = refl

module _ (classes : List Class) where
  bytes_erased : (x : Kept) → element_bytes classes (erased x) ≡ element_bytes classes x
  bytes_erased unknown = refl
  bytes_erased (integer_of f) = refl
  bytes_erased (holds s) = refl
  bytes_erased (argument i t) = refl

  sum_behind : (y : Kept) (r q : ℕ) → moved_by op.Add (address_in q) (element_bytes classes (erased y)) (integer_in r) ≡ moved_by op.Add (address_in q) (element_bytes classes y) (integer_in r)
  sum_behind y r q = ap (λ n. moved_by op.Add (address_in q) n (integer_in r)) (bytes_erased y)

  sum_erased : (x y : Kept) (r q : ℕ) → sum_by classes (erased x) (erased y) r q ≡ sum_by classes x y r q
  sum_erased unknown y r q = sum_behind y r q
  sum_erased (integer_of f) y r q = sum_behind y r q
  sum_erased (holds (number k)) y r q = sum_behind y r q
  sum_erased (holds (address t)) y r q = refl
  sum_erased (holds (code t)) y r q = sum_behind y r q
  sum_erased (argument i t) y r q = sum_behind y r q

  compared_erased : (o : Arith) (g : Keeping) (r q : ℕ) → binary o (value_in (erasing g) r) (value_in (erasing g) q) ≡ binary o (value_in g r) (value_in g q)
  compared_erased o g r q = ap (λ e. binary o e (value_in (erasing g) q)) (value_in_erased g r) ∙ ap (binary o (value_in g r)) (value_in_erased g q)

  equal_erased : (o : Arith) (x : Kept) (a b : Expression) → equated o (erased x) a b ≡ equated o x a b
  equal_erased o unknown a b = refl
  equal_erased o (integer_of f) a b = refl
  equal_erased o (holds s) a b = refl
  equal_erased o (argument i t) a b = refl

  equated_erased : (o : Arith) (g : Keeping) (r q : ℕ)
      → equated o (erased (g r)) (value_in (erasing g) r) (value_in (erasing g) q) ≡ equated o (g r) (value_in g r) (value_in g q)
  equated_erased o g r q =
      equal_erased o (g r) (value_in (erasing g) r) (value_in (erasing g) q) ∙ ap (λ e. equated o (g r) e (value_in (erasing g) q)) (value_in_erased g r)
      ∙ ap (equated o (g r) (value_in g r)) (value_in_erased g q)

  operated_erased : (o : PointerOperator) (g : Keeping) (r q : ℕ) → pointer_operated classes o (erasing g) r q ≡ pointer_operated classes o g r q
  operated_erased pointer.Add g r q = sum_erased (g r) (g q) r q
  operated_erased pointer.Subtract g r q = ap (λ n. moved_by op.Subtract (address_in r) n (integer_in q)) (bytes_erased (g r))
  operated_erased pointer.Difference g r q = ap (divided r q) (bytes_erased (g r))
    where
      divided : ℕ → ℕ → ℕ → Expression
      divided r q n = binary op.Divide (binary op.Subtract (address_in r) (address_in q)) (constant (int_constant n))
  operated_erased pointer.Less g r q = compared_erased op.Less g r q
  operated_erased pointer.Greater g r q = compared_erased op.Greater g r q
  operated_erased pointer.LessEqual g r q = compared_erased op.LessEqual g r q
  operated_erased pointer.GreaterEqual g r q = compared_erased op.GreaterEqual g r q
  operated_erased pointer.Equal g r q = equated_erased op.Equal g r q
  operated_erased pointer.NotEqual g r q = equated_erased op.NotEqual g r q

  changed_erased : (c : Change) (g : Keeping) (r q : ℕ) → changed classes c (erasing g) r q ≡ changed classes c g r q
  changed_erased (arithmetic o k to) g r q = refl
  changed_erased (moved false) g r q = ap (λ n. moved_by op.Add (address_in r) n (integer_in q)) (bytes_erased (g r))
  changed_erased (moved true) g r q = ap (λ n. moved_by op.Subtract (address_in r) n (integer_in q)) (bytes_erased (g r))

  pub value_erased : (function : Name) (locals : Locals) (g : Keeping) (a : Action) → value classes function locals (erasing g) a ≡ value classes function locals g a
  value_erased f l g (plain.read r) = read_erased (g r) r
  value_erased f l g (plain.dereference r) = same_erased (g r) r
  value_erased f l g (plain.decay r) = same_erased (g r) r
  value_erased f l g (plain.index r q) = sum_erased (g r) (g q) r q
  value_erased f l g (plain.convert t r) = converted_erased (sort_of t) (g r) r
  value_erased f l g (plain.truth r) = ap (λ e. binary op.NotEqual e zero) (value_in_erased g r)
  value_erased f l g (plain.logical_not r) = ap (λ e. binary op.Equal e zero) (value_in_erased g r)
  value_erased f l g (plain.pointer_operate o r q) = operated_erased o g r q
  value_erased f l g (plain.changed c r q) = changed_erased c g r q
  value_erased f l g a = refl
