-- What registers hold, by the types of nodes: numbers, and places of which operators on pointers can be done.
use Rattle.std.proofs.Common.{◌≡◌, Bool, true, ◌&&◌, not, refl, sym, ap, ◌∙◌}
use Rattle.std.specs.Prelude.{ℤ, is_some, Option, Some, None}
use Rattle.cf_core.specs.declared.operators.PointerOperator.{PointerOperator}
use Rattle.cf_core.specs.declared.operators.PointerOperator.TheVariants as pointers
use Rattle.cf_core.specs.Types.{SourceType, integer, enumeration, pointer, reference, array, const, without_const, same_but_const, is_void}
use Rattle.cf_core.specs.Typing.{Scope, Typing}
use Rattle.cf_core.specs.Typed.{decayed_type}
use Rattle.cf_plain_kept.specs.Kept.{Kept, an_integer, a_place, kept_of, suits, integer_in}
use Rattle.cf_lower_kept.specs.Ready.{has_objects, is_object, is_code, of_place, operands_ready, decays_well}
use Rattle.cf_lower_layout.proofs.Types.{same-without_const}
use Rattle.cf_sequence.proofs.Calling.{never}
use Rattle.cf_sequence_kept.proofs.Related.{Relates}
use Rattle.cf_sequence_kept.proofs.Suits.{Pointed, pointed-to}
use Rattle.cf_sequence_valid.proofs.Serves.{Serves, nothing-serves}
use Rattle.cf_sequence_lowered.specs.Ready.{pointed_by, is_operand, operand_is_ready, may_move, of_type}

code-bare : (t : SourceType) → is_code (without_const t) ≡ is_code t
code-bare (const t) = code-bare t
code-bare t = refl

void-bare : (t : SourceType) → is_void (without_const t) ≡ is_void t
void-bare (const t) = void-bare t
void-bare t = refl

pub object-bare : (t : SourceType) → is_object (without_const t) ≡ is_object t
object-bare t = ap (λ b. not b && not (is_void (without_const t))) (code-bare t) ∙ ap (λ b. not (is_code t) && not b) (void-bare t)

objects-bare : (t : SourceType) → has_objects (without_const t) ≡ has_objects t
objects-bare (const t) = objects-bare t
objects-bare (array t n) = ap not (code-bare t)
objects-bare t = refl

move-bare : (t : SourceType) → may_move (without_const t) ≡ may_move t
move-bare (const t) = move-bare t
move-bare (pointer t) = object-bare t
move-bare (reference t) = object-bare t
move-bare t = refl

pub pointed-bare : (op : PointerOperator) (t : SourceType) → pointed_by op (without_const t) ≡ pointed_by op t
pointed-bare pointers.Equal t = ap not (code-bare t)
pointed-bare pointers.NotEqual t = ap not (code-bare t)
pointed-bare op t = object-bare t

-- what an operator on pointers asks of its operands
pub operands-are : (op : PointerOperator) (x y : Option Kept) → operands_ready op x y ≡ (of_place (pointed_by op) x && of_place (pointed_by op) y)
operands-are pointers.Equal x y = refl
operands-are pointers.NotEqual x y = refl
operands-are op x y = refl

-- types that are the same but for const pass the same tests

objects-same : (u t : SourceType) → same_but_const u t ≡ true → has_objects u ≡ has_objects t
objects-same u t e = sym (objects-bare u) ∙ ap has_objects (same-without_const u t e) ∙ objects-bare t

pub move-same : (u t : SourceType) → same_but_const u t ≡ true → may_move u ≡ may_move t
move-same u t e = sym (move-bare u) ∙ ap may_move (same-without_const u t e) ∙ move-bare t

-- ---- operands

-- a test that const does not change
module _ (test : SourceType → Bool) (bare : (t : SourceType) → test (without_const t) ≡ test t) where
  test-same : (u t : SourceType) → same_but_const u t ≡ true → test u ≡ test t
  test-same u t e = sym (bare u) ∙ ap test (same-without_const u t e) ∙ bare t

  integer-operand : (h : Kept) → integer_in (Some h) ≡ true → of_place test (Some h) ≡ true
  integer-operand (an_integer f) ok = refl
  integer-operand h ok = never ok

  suits-operand : (t : SourceType) (h : Kept) → is_operand test t ≡ true → suits t h ≡ true → of_place test (Some h) ≡ true
  suits-operand (const t) h ok is = suits-operand t h ok is
  suits-operand (integer k) (an_integer f) ok is = refl
  suits-operand (integer k) h ok is = never is
  suits-operand (enumeration e) (an_integer f) ok is = refl
  suits-operand (enumeration e) h ok is = never is
  suits-operand (pointer t) (a_place u) ok is = test-same u t is ∙ ok
  suits-operand (pointer t) h ok is = never is
  suits-operand t h ok is = never ok

  pub operand-ready : (x : Typing) (h : Kept) → Relates x h → operand_is_ready test x ≡ true → of_place test (Some h) ≡ true
  operand-ready x h r ok = by x.type refl ok
    where
      number-ready : (o : Option ℤ) → x.number ≡ o → is_some o ≡ true → of_place test (Some h) ≡ true
      number-ready None e ok = never ok
      number-ready (Some z) e ok = integer-operand h (r.number z e)

      by : (o : Option SourceType) → x.type ≡ o → elim o [ None ↦ is_some x.number | Some t ↦ is_operand test t ] ≡ true → of_place test (Some h) ≡ true
      by None e ok = number-ready x.number refl ok
      by (Some t) e ok = suits-operand t h ok (r.type t e)

-- what decays is an array of objects, or a function
pub decay-ready : (scope : Scope) (x : Typing) (h : Kept) → Relates x h → of_type has_objects x.place ≡ true → Serves (decayed_type scope x.place) → decays_well (Some h) ≡ true
decay-ready scope x h r ok s = by x.place refl ok s
  where
    by : (o : Option SourceType) → x.place ≡ o → of_type has_objects o ≡ true → Serves (decayed_type scope o) → decays_well (Some h) ≡ true
    by None e ok s = nothing-serves s
    by (Some t) e ok s =
        let d = pointed-to t h (r.place t e) in ap (λ h. decays_well (Some h)) (Pointed.is d) ∙ objects-same (Pointed.to d) t (Pointed.same d) ∙ ok

-- what is read of a scalar that can be moved
moved-kept : (u : SourceType) → may_move u ≡ true → of_place is_object (kept_of u) ≡ true
moved-kept (const t) ok = moved-kept t ok
moved-kept (pointer t) ok = ok
moved-kept (reference t) ok = ok
moved-kept t ok = refl

pub read-ready : (t : SourceType) (h : Kept) (d : Pointed t h) → may_move t ≡ true → of_place is_object (kept_of (Pointed.to d)) ≡ true
read-ready t h d ok = moved-kept (Pointed.to d) (move-same (Pointed.to d) t (Pointed.same d) ∙ ok)
