-- What operators and conversions give, by what the registers of their operands hold.
use Rattle.std.proofs.Common.{◌≡◌, Bool, true, false, ◌&&◌, ◌||◌, not, if◌then◌else◌, refl, sym, ap, ◌∙◌, subst}
use Rattle.std.specs.Prelude.{ℤ, Option, Some, None}
use Rattle.cf_base.specs.declared.kind.Kind.{Kind}
use Rattle.cf_base.specs.declared.kind.Kind.TheVariants.{Int}
use Rattle.cf_base.specs.declared.arith.Arith.{Arith}
use Rattle.cf_base.proofs.Tests.{both, all_of}
use Rattle.cf_types.specs.Operators.{is_shift}
use Rattle.cf_core.specs.declared.operators.PointerOperator.{PointerOperator}
use Rattle.cf_core.specs.declared.operators.PointerOperator.TheVariants as ptr
use Rattle.cf_core.specs.Types.{Name, SourceType, void, integer, enumeration, pointer, reference, data_member, function_member, const, plain, same_but_const, is_void}
use Rattle.cf_core.specs.Core.{Change, arithmetic, moved}
use Rattle.cf_core.specs.Places.{is_scalar}
use Rattle.cf_core.specs.Typing.{Scope, Typing, no_typing, allowed, is_function, is_integral, of_value, is_integer, is_comparison, operated_type, is_right_operand, pointed, points_to_object, pointers_alike, may_be_equal, compares_with_null, pointer_operated, changes, converts, to_pointer, is_zero}
use Rattle.cf_core.specs.Typed.{indexed_type, pointed_place}
use Rattle.cf_plain_kept.specs.Kept as kept
use Rattle.cf_plain_kept.specs.Kept.{Kept, no_value, an_integer, a_place, a_member, of_kind, a_truth, value_of, suits, moved_kept, forth, integer_in, has_kind, right_has, converted, tested, given, operated, changed_kept}
use Rattle.cf_sequence.proofs.Calling.{never}
use Rattle.cf_sequence.proofs.SameTypes.{same-itself}
use Rattle.cf_sequence_kept.proofs.Suits.{same-turned, same-then, own-suits, values-suit, scalar-same, plain-void, Pointed, pointed-to, scalar-tested, integer-kept, integer-tested}
use Rattle.cf_sequence_kept.proofs.Related.{Relates, of-value, of-place, of-allowed, integers-kept, has-kind, right-kept}
use Rattle.cf_sequence_valid.proofs.Serves.{Serves, nothing-serves, allowed-is, either-true}

first : (a b : Bool) → a ≡ true → (a || b) ≡ true
first true b e = refl
first false b e = never e

second : (a b : Bool) → b ≡ true → (a || b) ≡ true
second true b e = refl
second false b e = e

-- what is given is known, and is what the node is
pub record Gives (o : Option Kept) (z : Typing) : Type 0 where
  pub kept : Kept
  pub is : o ≡ Some kept
  pub related : Relates z kept

pub record IsInteger (h : Kept) : Type 0 where
  pub kinds : Kind → Bool
  pub is : h ≡ an_integer kinds

pub integer-is : (h : Kept) → integer_in (Some h) ≡ true → IsInteger h
integer-is (an_integer f) ok = record { kinds = f; is = refl }
integer-is h ok = never ok

-- a pointer to an object
pub record Points (x : Typing) (h : Kept) : Type 0 where
  pub to : SourceType
  pub type : x.type ≡ Some (pointer to)
  pub held : Pointed to h

pub points : (x : Typing) (h : Kept) → Relates x h → points_to_object x ≡ true → Points x h
points x h r ok = by x.type refl ok
  where
    by : (o : Option SourceType) → x.type ≡ o → points_to_object (record x { type = o }) ≡ true → Points x h
    by None e ok = never ok
    by (Some (pointer t)) e ok = record { to = t; type = e; held = pointed-to t h (r.type (pointer t) e) }
    by (Some t) e ok = never ok

forth-is : (h k : Kept) (u : SourceType) (n : IsInteger k) → h ≡ a_place u → forth (Some h) (Some k) ≡ Some (a_place u)
forth-is h k u n e = ap (λ z. forth (Some z) (Some k)) e ∙ ap (λ z. forth (Some (a_place u)) (Some z)) n.is

moved-left : (h k : Kept) (u : SourceType) (n : IsInteger k) → h ≡ a_place u → moved_kept (Some h) (Some k) ≡ Some (a_place u)
moved-left h k u n e = ap (λ z. moved_kept (Some z) (Some k)) e ∙ ap (λ z. moved_kept (Some (a_place u)) (Some z)) n.is

moved-right : (h k : Kept) (u : SourceType) (n : IsInteger h) → k ≡ a_place u → moved_kept (Some h) (Some k) ≡ Some (a_place u)
moved-right h k u n e = ap (λ z. moved_kept (Some z) (Some k)) n.is ∙ ap (λ z. moved_kept (Some (an_integer n.kinds)) (Some z)) e

if-first : (b : Bool) (P Q : Typing) (h : Kept) → b ≡ true → Relates P h → Relates (if b then P else Q) h
if-first true P Q h ok r = r
if-first false P Q h ok r = never ok

if-second : (b : Bool) (P Q : Typing) (h : Kept) → b ≡ false → Relates Q h → Relates (if b then P else Q) h
if-second true P Q h ok r = absurd (cc)
if-second false P Q h ok r = r

-- one of two choices
chosen : {A : Type 0} (a b : Bool) (P Q : Typing) → Serves (if a then P else (if b then Q else no_typing)) → (a ≡ true → A) → (a ≡ false → b ≡ true → A) → A
chosen true b P Q s f g = f refl
chosen false true P Q s f g = g refl refl
chosen false false P Q s f g = nothing-serves s

module _ (x y : Typing) (h k : Kept) (r : Relates x h) (q : Relates y k) where
  abbrev first_moves : Bool
  first_moves = points_to_object x && is_integer y

  abbrev second_moves : Bool
  second_moves = is_integer x && points_to_object y

  left_moves : first_moves ≡ true → Points x h × IsInteger k
  left_moves ok = let p = both (points_to_object x) (is_integer y) ok in (points x h r p.0, integer-is k (integers-kept y k q p.1))

  right_moves : second_moves ≡ true → IsInteger h × Points y k
  right_moves ok = let p = both (is_integer x) (points_to_object y) ok in (integer-is h (integers-kept x h r p.0), points y k q p.1)

  pub index-tested : (scope : Scope) → Serves (indexed_type scope x y) → tested (Some h) ≡ Some a_truth
  index-tested scope s =
      chosen first_moves second_moves _ _ s (λ a. ap (λ z. tested (Some z)) (left_moves a).0.held.is)
      (λ a b. integer-tested h (integers-kept x h r (both (is_integer x) (points_to_object y) b).0))

  pub index-gives : (scope : Scope) → Serves (indexed_type scope x y) → Gives (moved_kept (Some h) (Some k)) (indexed_type scope x y)
  index-gives scope s =
      chosen first_moves second_moves _ _ s
      (λ a.
      let p = left_moves a in
      record {
        kept = a_place p.0.held.to;
        is = moved-left h k p.0.held.to p.1 p.0.held.is;
        related = if-first first_moves _ _ (a_place p.0.held.to) a
            (subst (λ o. Relates (pointed_place scope (pointed o)) (a_place p.0.held.to)) (sym p.0.type) (of-place p.0.to (a_place p.0.held.to) p.0.held.same));
      })
      (λ a b.
      let p = right_moves b in
      record {
        kept = a_place p.1.held.to;
        is = moved-right h k p.1.held.to p.0 p.1.held.is;
        related = if-second first_moves _ _ (a_place p.1.held.to) a
            (if-first second_moves _ _ (a_place p.1.held.to) b
            (subst (λ o. Relates (pointed_place scope (pointed o)) (a_place p.1.held.to)) (sym p.1.type) (of-place p.1.to (a_place p.1.held.to) p.1.held.same)));
      })

  pub operate-gives : (op : Arith) (kind : Kind) → Serves (allowed (x.value (integer kind) && is_right_operand op kind y) (of_value (operated_type op kind)))
      → Gives (operated op kind (Some h) (Some k)) (allowed (x.value (integer kind) && is_right_operand op kind y) (of_value (operated_type op kind)))
  operate-gives op kind s =
      let ok = allowed-is (x.value (integer kind) && is_right_operand op kind y) (of_value (operated_type op kind)) s in
      let p = both (x.value (integer kind)) (is_right_operand op kind y) ok in
      let good = all_of (has_kind kind (Some h)) (right_has op kind (Some k)) (has-kind kind x h r p.0) (right-kept op kind y k q p.1) in
      record {
        kept = if is_comparison op then a_truth else of_kind kind;
        is = ap (λ b. given b (if is_comparison op then a_truth else of_kind kind)) good;
        related = of-allowed (x.value (integer kind) && is_right_operand op kind y) (of_value (operated_type op kind)) _ ok (by (is_comparison op));
      }
    where
      by : (b : Bool) → Relates (of_value (if b then integer Int else integer kind)) (if b then a_truth else of_kind kind)
      by true = of-value (integer Int) a_truth refl
      by false = of-value (integer kind) (of_kind kind) (own-suits (integer kind))

-- the new value of a scalar that is changed in place
pub record Changes (u : SourceType) (o : Option Kept) : Type 0 where
  pub scalar : is_scalar u ≡ true
  pub kept : Kept
  pub is : o ≡ Some kept
  pub suits_place : suits u kept ≡ true

-- a conversion
pub record Converts (t : SourceType) (o : Option Kept) : Type 0 where
  pub kept : Kept
  pub is : o ≡ Some kept
  pub suits_type : suits t kept ≡ true

module _ (x : Typing) (h : Kept) (r : Relates x h) where
  zero-is : is_zero x.number ≡ true → IsInteger h
  zero-is ok = by x.number refl ok
    where
      by : (o : Option ℤ) → x.number ≡ o → is_zero o ≡ true → IsInteger h
      by None e ok = never ok
      by (Some z) e ok = integer-is h (r.number z e)

  to-place-of : (t : SourceType) → to_pointer t x ≡ true → Converts (pointer t) (kept.to_place t (Some h))
  to-place-of t ok = by x.type refl ok
    where
      from-zero : IsInteger h → Converts (pointer t) (kept.to_place t (Some h))
      from-zero n = record { kept = a_place t; is = ap (λ z. kept.to_place t (Some z)) n.is; suits_type = same-itself t }

      by : (o : Option SourceType) → x.type ≡ o → to_pointer t (record x { type = o }) ≡ true → Converts (pointer t) (kept.to_place t (Some h))
      by None e ok = from-zero (zero-is (either-true (is_zero x.number) false ok (λ z. z) never))
      by (Some (pointer u)) e ok =
          let q = pointed-to u h (r.type (pointer u) e) in
          either-true (is_zero x.number) (same_but_const t u || is_void (plain t)) ok (λ z. from-zero (zero-is z)) (λ c.
          let same : (is_void t || same_but_const q.to t) ≡ true =
          either-true (same_but_const t u) (is_void (plain t)) c (λ s. second (is_void t) (same_but_const q.to t) (same-then q.to u t q.same (same-turned t u s)))
          (λ v. first (is_void t) (same_but_const q.to t) (plain-void t v)) in
          record { kept = a_place t; is = ap (λ z. kept.to_place t (Some z)) q.is ∙ ap (λ b. if b then Some (a_place t) else None) same; suits_type = same-itself t })
      by (Some u) e ok = from-zero (zero-is (either-true (is_zero x.number) false ok (λ z. z) never))

  -- a pointer to a member
  member-kept : (c : Name) (t : SourceType) → suits (data_member c t) h ≡ true → Converts (data_member c t) (kept.to_member (data_member c t) (Some h))
  member-kept c t ok = by h ok
    where
      by : (h : Kept) → suits (data_member c t) h ≡ true → Converts (data_member c t) (kept.to_member (data_member c t) (Some h))
      by (a_member u) ok = record {
        kept = a_member (data_member c t);
        is = ap (λ b. if b then Some (a_member (data_member c t)) else None) ok;
        suits_type = same-itself (data_member c t);
      }
      by h ok = never ok

  function-kept : (c : Name) (t : SourceType) → suits (function_member c t) h ≡ true → Converts (function_member c t) (kept.to_member (function_member c t) (Some h))
  function-kept c t ok = by h ok
    where
      by : (h : Kept) → suits (function_member c t) h ≡ true → Converts (function_member c t) (kept.to_member (function_member c t) (Some h))
      by (a_member u) ok = record {
        kept = a_member (function_member c t);
        is = ap (λ b. if b then Some (a_member (function_member c t)) else None) ok;
        suits_type = same-itself (function_member c t);
      }
      by h ok = never ok

  zero-member : (t : SourceType) → suits t (a_member t) ≡ true → IsInteger h → Converts t (kept.to_member t (Some h))
  zero-member t ok n = record { kept = a_member t; is = ap (λ z. kept.to_member t (Some z)) n.is; suits_type = ok }

  pub converts-gives : (t : SourceType) → converts t x ≡ true → Converts t (converted t (Some h))
  converts-gives void ok = record { kept = no_value; is = refl; suits_type = refl }
  converts-gives (integer k) ok = record { kept = of_kind k; is = ap (λ b. given b (of_kind k)) (integers-kept x h r ok); suits_type = own-suits (integer k) }
  converts-gives (enumeration e) ok = record { kept = of_kind Int; is = ap (λ b. given b (of_kind Int)) (integers-kept x h r ok); suits_type = own-suits (enumeration e) }
  converts-gives (pointer t) ok = to-place-of t ok
  converts-gives (data_member c t) ok =
      either-true (is_zero x.number) (x.value (data_member c t)) ok (λ z. zero-member (data_member c t) (same-itself (data_member c t)) (zero-is z))
      (λ v. member-kept c t (r.value (data_member c t) v))
  converts-gives (function_member c t) ok =
      either-true (is_zero x.number) (x.value (function_member c t)) ok (λ z. zero-member (function_member c t) (same-itself (function_member c t)) (zero-is z))
      (λ v. function-kept c t (r.value (function_member c t) v))
  converts-gives t ok = never ok

pub converted-plain : (t : SourceType) (h : Kept) → converted t (Some h) ≡ converted (plain t) (Some h)
converted-plain (const t) h = refl
converted-plain t h = refl

-- Pointers.

compared-suits : (t : SourceType) (h k : Kept) → is_scalar t ≡ true → suits t h ≡ true → suits t k ≡ true → kept.compared (Some h) (Some k) ≡ Some (of_kind Int)
compared-suits (const t) h k ok p q = compared-suits t h k ok p q
compared-suits (integer i) (an_integer f) (an_integer g) ok p q = refl
compared-suits (enumeration e) (an_integer f) (an_integer g) ok p q = refl
compared-suits (pointer t) (a_place u) (a_place v) ok p q = ap (λ b. given b (of_kind Int)) (same-then u t v p (same-turned v t q))
compared-suits (reference t) (a_place u) (a_place v) ok p q = ap (λ b. given b (of_kind Int)) (same-then u t v p (same-turned v t q))
compared-suits (data_member c t) (a_member u) (a_member v) ok p q =
    ap (λ b. given b (of_kind Int)) (same-then u (data_member c t) v p (same-turned v (data_member c t) q))
compared-suits (function_member c t) (a_member u) (a_member v) ok p q =
    ap (λ b. given b (of_kind Int)) (same-then u (function_member c t) v p (same-turned v (function_member c t) q))
compared-suits t h k ok p q = absurd (cc)

module _ (x y : Typing) (h k : Kept) (r : Relates x h) (q : Relates y k) where
  alike-compared : pointers_alike x y ≡ true → kept.compared (Some h) (Some k) ≡ Some (of_kind Int)
  alike-compared ok = by x.type refl ok
    where
      by : (o : Option SourceType) → x.type ≡ o → pointers_alike (record x { type = o }) y ≡ true → kept.compared (Some h) (Some k) ≡ Some (of_kind Int)
      by None e ok = never ok
      by (Some t) e ok =
          let p = both (is_scalar t && not (is_integral t)) (y.value t) ok in
          compared-suits t h k (both (is_scalar t) (not (is_integral t)) p.0).0 (r.type t e) (q.value t p.1)

  alike-tested : pointers_alike x y ≡ true → tested (Some h) ≡ Some a_truth
  alike-tested ok = by x.type refl ok
    where
      by : (o : Option SourceType) → x.type ≡ o → pointers_alike (record x { type = o }) y ≡ true → tested (Some h) ≡ Some a_truth
      by None e ok = never ok
      by (Some t) e ok =
          let p = both (is_scalar t && not (is_integral t)) (y.value t) ok in scalar-tested t h (both (is_scalar t) (not (is_integral t)) p.0).0 (r.type t e)

  alike-gives : (b : Bool) → b ≡ true → pointers_alike x y ≡ true → Gives (kept.compared (Some h) (Some k)) (allowed b (of_value (integer Int)))
  alike-gives b ok alike = record {
    kept = of_kind Int;
    is = alike-compared alike;
    related = of-allowed b (of_value (integer Int)) (of_kind Int) ok (of-value (integer Int) (of_kind Int) (own-suits (integer Int)));
  }

  add-left : points_to_object x && is_integer y ≡ true → Gives (moved_kept (Some h) (Some k)) (pointer_operated ptr.Add x y)
  add-left ok = by x.type refl ok
    where
      by : (o : Option SourceType) → x.type ≡ o → points_to_object (record x { type = o }) && is_integer y ≡ true
          → Gives (moved_kept (Some h) (Some k)) (pointer_operated ptr.Add (record x { type = o }) y)
      by None e ok = never ok
      by (Some (pointer t)) e ok =
          let p = both (points_to_object (record x { type = Some (pointer t) })) (is_integer y) ok in
          let d = pointed-to t h (r.type (pointer t) e) in
          record {
            kept = a_place d.to;
            is = moved-left h k d.to (integer-is k (integers-kept y k q p.1)) d.is;
            related = if-first (points_to_object (record x { type = Some (pointer t) }) && is_integer y) _ _ (a_place d.to) ok (of-value (pointer t) (a_place d.to) d.same);
          }
      by (Some t) e ok = never ok

  add-right : points_to_object x && is_integer y ≡ false → is_integer x && points_to_object y ≡ true → Gives (moved_kept (Some h) (Some k)) (pointer_operated ptr.Add x y)
  add-right un ok = by y.type refl un ok
    where
      by : (o : Option SourceType) → y.type ≡ o → points_to_object x && is_integer (record y { type = o }) ≡ false → is_integer x && points_to_object (record y { type = o }) ≡ true
          → Gives (moved_kept (Some h) (Some k)) (pointer_operated ptr.Add x (record y { type = o }))
      by None e un ok = never (both (is_integer x) false ok).1
      by (Some (pointer t)) e un ok =
          let p = both (is_integer x) (points_to_object (record y { type = Some (pointer t) })) ok in
          let d = pointed-to t k (q.type (pointer t) e) in
          record {
            kept = a_place d.to;
            is = moved-right h k d.to (integer-is h (integers-kept x h r p.0)) d.is;
            related = if-second (points_to_object x && is_integer (record y { type = Some (pointer t) })) _ _ (a_place d.to) un
                (if-first (is_integer x && points_to_object (record y { type = Some (pointer t) })) _ _ (a_place d.to) ok (of-value (pointer t) (a_place d.to) d.same));
          }
      by (Some t) e un ok = never (both (is_integer x) false ok).1

  subtract-gives : points_to_object x && is_integer y ≡ true → Gives (forth (Some h) (Some k)) (pointer_operated ptr.Subtract x y)
  subtract-gives ok = by x.type refl ok
    where
      by : (o : Option SourceType) → x.type ≡ o → points_to_object (record x { type = o }) && is_integer y ≡ true
          → Gives (forth (Some h) (Some k)) (pointer_operated ptr.Subtract (record x { type = o }) y)
      by None e ok = never ok
      by (Some (pointer t)) e ok =
          let p = both (points_to_object (record x { type = Some (pointer t) })) (is_integer y) ok in
          let d = pointed-to t h (r.type (pointer t) e) in
          record {
            kept = a_place d.to;
            is = forth-is h k d.to (integer-is k (integers-kept y k q p.1)) d.is;
            related = of-allowed (points_to_object (record x { type = Some (pointer t) }) && is_integer y) (of_value (pointer t)) (a_place d.to) ok (of-value (pointer t) (a_place d.to) d.same);
          }
      by (Some t) e ok = never ok

  equal-alike : Serves (allowed (may_be_equal x y) (of_value (integer Int))) → (may_be_equal x y ≡ true) × (pointers_alike x y ≡ true)
  equal-alike s =
      let ok = allowed-is (may_be_equal x y) (of_value (integer Int)) s in
      (ok, (both (pointers_alike x y) (not (compares_with_null x.type) || x.is_null || y.is_null) ok).0)

  ordered-alike : Serves (allowed (points_to_object x && pointers_alike x y) (of_value (integer Int))) → (points_to_object x && pointers_alike x y ≡ true) × (pointers_alike x y ≡ true)
  ordered-alike s =
      let ok = allowed-is (points_to_object x && pointers_alike x y) (of_value (integer Int)) s in (ok, (both (points_to_object x) (pointers_alike x y) ok).1)

  pub pointer-tested : (op : PointerOperator) → Serves (pointer_operated op x y) → tested (Some h) ≡ Some a_truth
  pointer-tested ptr.Add s =
      chosen (points_to_object x && is_integer y) (is_integer x && points_to_object y) _ _ s
      (λ a. ap (λ z. tested (Some z)) (points x h r (both (points_to_object x) (is_integer y) a).0).held.is)
      (λ a b. integer-tested h (integers-kept x h r (both (is_integer x) (points_to_object y) b).0))
  pointer-tested ptr.Subtract s =
      ap (λ z. tested (Some z)) (points x h r (both (points_to_object x) (is_integer y) (allowed-is (points_to_object x && is_integer y) _ s)).0).held.is
  pointer-tested ptr.Equal s = alike-tested (equal-alike s).1
  pointer-tested ptr.NotEqual s = alike-tested (equal-alike s).1
  pointer-tested op s = alike-tested (ordered-alike s).1

  pub pointer-gives : (op : PointerOperator) → Serves (pointer_operated op x y) → Gives (kept.pointer_operated op (Some h) (Some k)) (pointer_operated op x y)
  pointer-gives ptr.Add s = chosen (points_to_object x && is_integer y) (is_integer x && points_to_object y) _ _ s add-left add-right
  pointer-gives ptr.Subtract s = subtract-gives (allowed-is (points_to_object x && is_integer y) _ s)
  pointer-gives ptr.Equal s = let e = equal-alike s in alike-gives (may_be_equal x y) e.0 e.1
  pointer-gives ptr.NotEqual s = let e = equal-alike s in alike-gives (may_be_equal x y) e.0 e.1
  pointer-gives op s = let e = ordered-alike s in alike-gives (points_to_object x && pointers_alike x y) e.0 e.1

-- Changes in place.

module _ (y : Typing) (k : Kept) (q : Relates y k) where
  right-integer : (op : Arith) (kind : Kind) → is_right_operand op kind y ≡ true → integer_in (Some k) ≡ true
  right-integer op kind ok = by (is_shift op) ok
    where
      by : (b : Bool) → (if b then is_integer y else y.value (integer kind)) ≡ true → integer_in (Some k) ≡ true
      by true ok = integers-kept y k q ok
      by false ok = integer-kept kind k (q.value (integer kind) ok)

  pub change-tested : (c : Change) (t : Option SourceType) → changes c t y ≡ true → tested (Some k) ≡ Some a_truth
  change-tested (arithmetic op kind to) None ok = never ok
  change-tested (arithmetic op kind to) (Some t) ok = integer-tested k (right-integer op kind (both (same_but_const t (integer to)) (is_right_operand op kind y) ok).1)
  change-tested (moved back) (Some (pointer t)) ok = integer-tested k (integers-kept y k q (both (not (is_function t) && not (is_void t)) (is_integer y) ok).1)
  change-tested (moved back) (Some (const (pointer t))) ok = integer-tested k (integers-kept y k q (both (not (is_function t) && not (is_void t)) (is_integer y) ok).1)
  change-tested (moved back) t ok = never ok

  moves : (u s : SourceType) (back : Bool) → same_but_const u (pointer s) ≡ true → is_integer y ≡ true → Changes u (changed_kept (moved back) (Some (value_of u)) (Some k))
  moves u s back same int =
      let d = pointed-to s (value_of u) (values-suit u (pointer s) same) in
      record {
        scalar = scalar-same (pointer s) u (same-turned u (pointer s) same) refl;
        kept = a_place d.to;
        is = forth-is (value_of u) k d.to (integer-is k (integers-kept y k q int)) d.is;
        suits_place = subst (λ z. suits u z ≡ true) d.is (own-suits u);
      }

  pub change-gives : (c : Change) (t u : SourceType) → same_but_const u t ≡ true → changes c (Some t) y ≡ true → Changes u (changed_kept c (Some (value_of u)) (Some k))
  change-gives (arithmetic op kind to) t u same ok =
      let p = both (same_but_const t (integer to)) (is_right_operand op kind y) ok in
      let whole = same-then u t (integer to) same p.0 in
      record {
        scalar = scalar-same (integer to) u (same-turned u (integer to) whole) refl;
        kept = of_kind to;
        is = ap (λ b. given b (of_kind to)) (all_of (integer_in (Some (value_of u))) (right_has op kind (Some k)) (integer-kept to (value_of u) (values-suit u (integer to) whole)) (right-kept op kind y k q p.1));
        suits_place = values-suit (integer to) u (same-turned u (integer to) whole);
      }
  change-gives (moved back) (pointer s) u same ok = moves u s back same (both (not (is_function s) && not (is_void s)) (is_integer y) ok).1
  change-gives (moved back) (const (pointer s)) u same ok = moves u s back same (both (not (is_function s) && not (is_void s)) (is_integer y) ok).1
  change-gives (moved back) t u same ok = never ok
