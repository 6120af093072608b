-- Acts that only give values: they change no state.
use Rattle.std.proofs.Common.{ℕ, zero, Bool, true, false, ◌&&◌, ◌||◌, not, nat_lt, nat_le, List}
use Rattle.std.specs.Prelude.{ℤ, pos, negsuc, neg_ℤ, Option, Some, None}
use Rattle.cf_base.specs.declared.kind.Kind.{Kind}
use Rattle.cf_base.specs.declared.kind.Kind.TheVariants.{Int}
use Rattle.cf_base.specs.declared.arith.Arith.{Arith}
use Rattle.cf_base.specs.declared.arith.Arith.TheVariants as arith
use Rattle.cf_base.specs.Integers.{fits, int_op, convert as converted}
use Rattle.cf_types.specs.Operators.{is_shift}
use Rattle.cf_core.specs.declared.operators.UnaryOperator.{UnaryOperator}
use Rattle.cf_core.specs.declared.operators.UnaryOperator.TheVariants as sign
use Rattle.cf_core.specs.declared.operators.PointerOperator.{PointerOperator}
use Rattle.cf_core.specs.declared.operators.PointerOperator.TheVariants as op
use Rattle.cf_core.specs.Types.{Name, SourceType, void, integer, enumeration, pointer, data_member, function_member, const, is_array, same_but_const}
use Rattle.cf_core.specs.Classes.{Class}
use Rattle.cf_core.specs.Core.{Change, arithmetic, moved, Function}
use Rattle.cf_core.specs.Places.{Place, is_inside, is_reference, is_scalar}
use Rattle.cf_core.specs.Store.{Value, Nothing, Missing, Built, Number, Null, At, Code, DataMember, FunctionMember, is_usable}
use Rattle.cf_core.specs.Run.{State, ◌>>=◌, gives, malformed, undefined, done, need, valid, some_or, ok_or_act}
use Rattle.cf_core.specs.Access.{place_type, used, place_of, number_of, use_place, name_part, names_scalar, read_place, bound_to, followed}
use Rattle.cf_core.specs.Pointers.{element_of, bound_of, further, up_to, moved_place, moved_value, sum_of, moved_back, both_stand, both_there, same_array, truth_value, difference_of, ordered, comparable, unlike_null, equal_values, pointer_op, from_void_value}
use Rattle.cf_core.specs.Scalars.{truth_of, as_pointer, converted_value, operated, signed, minus, moved_by, changed_value, indexed, decayed, pointed_to}
use Rattle.cf_core.specs.Calls.{Program, root, is_library, has_type, function_named, name_function}
use Rattle.cf_core.specs.Objects.{local_place, static_place, static_number, static_type, same_type}
use Rattle.cf_plain.specs.Plain.{Register}
use Rattle.cf_plain.specs.Acts.{Registers, held, used_in, place_in, object_of}
use Rattle.cf_plain.specs.Running.{is_true}
use Rattle.cf_plain_finished.specs.Finished.{Keeps}
use Rattle.cf_plain_finished.proofs.Acts.{keeps-then, keeps-next, keeps-gives, keeps-malformed, keeps-undefined, keeps-need, keeps-valid, keeps-some, keeps-ok, keeps-when, keeps-at}

module _ (Q : State → Type 0) where
  -- ---- values

  pub keeps-used : (v : Value) → Keeps Q (used v)
  keeps-used Nothing = keeps-malformed Q
  keeps-used Missing = keeps-undefined Q 16
  keeps-used Built = keeps-malformed Q
  keeps-used (Number z) = keeps-gives Q (Number z)
  keeps-used Null = keeps-gives Q Null
  keeps-used (At p) = keeps-gives Q (At p)
  keeps-used (Code f) = keeps-gives Q (Code f)
  keeps-used (DataMember path i) = keeps-gives Q (DataMember path i)
  keeps-used (FunctionMember path t) = keeps-gives Q (FunctionMember path t)

  pub keeps-place : (v : Value) → Keeps Q (place_of v)
  keeps-place (At p) = keeps-gives Q p
  keeps-place v = keeps-malformed Q

  pub keeps-number : (v : Value) → Keeps Q (number_of v)
  keeps-number (Number z) = keeps-gives Q z
  keeps-number v = keeps-malformed Q

  pub keeps-true : (v : Value) → Keeps Q (is_true v)
  keeps-true v = keeps-then Q (number_of v) _ (keeps-number v) (λ z. keeps-gives Q _)

  pub keeps-truth : (v : Value) → Keeps Q (truth_of v)
  keeps-truth Nothing = keeps-malformed Q
  keeps-truth Missing = keeps-undefined Q 16
  keeps-truth Built = keeps-malformed Q
  keeps-truth (Number (pos zero)) = keeps-gives Q false
  keeps-truth (Number z) = keeps-gives Q true
  keeps-truth Null = keeps-gives Q false
  keeps-truth v = keeps-gives Q true

  keeps-pointer : (v : Value) → Keeps Q (as_pointer v)
  keeps-pointer (Number (pos zero)) = keeps-gives Q Null
  keeps-pointer (Number z) = keeps-malformed Q
  keeps-pointer v = keeps-gives Q v

  pub keeps-bound : (v : Value) → Keeps Q (bound_to v)
  keeps-bound Null = keeps-undefined Q 4
  keeps-bound v = keeps-gives Q v

  pub keeps-pointed : (v : Value) → Keeps Q (pointed_to v)
  keeps-pointed (At p) = keeps-gives Q (At p)
  keeps-pointed (Code f) = keeps-gives Q (Code f)
  keeps-pointed Null = keeps-undefined Q 4
  keeps-pointed v = keeps-malformed Q

  keeps-used_number : (v : Value) (go : ℤ → Value) → Keeps Q (used v >>= number_of >>= (λ z. gives (go z)))
  keeps-used_number v go =
      keeps-then Q (used v >>= number_of) (λ z. gives (go z)) (keeps-then Q (used v) number_of (keeps-used v) keeps-number) (λ z. keeps-gives Q (go z))

  keeps-used_pointer : (v : Value) → Keeps Q (used v >>= as_pointer)
  keeps-used_pointer v = keeps-then Q (used v) as_pointer (keeps-used v) keeps-pointer

  pub keeps-converted : (t : SourceType) (v : Value) → Keeps Q (converted_value t v)
  keeps-converted void Built = keeps-malformed Q
  keeps-converted void v = keeps-gives Q Nothing
  keeps-converted (integer k) v = keeps-used_number v (λ z. Number (converted k z))
  keeps-converted (enumeration e) v = keeps-used_number v (λ z. Number (converted Int z))
  keeps-converted (const t) v = keeps-converted t v
  keeps-converted (pointer t) v = keeps-used_pointer v
  keeps-converted (data_member c t) v = keeps-used_pointer v
  keeps-converted (function_member c t) v = keeps-used_pointer v
  keeps-converted t v = keeps-malformed Q

  pub keeps-operated : (o : Arith) (k : Kind) (v w : Value) → Keeps Q (operated o k v w)
  keeps-operated o k (Number x) (Number y) =
      keeps-next Q (valid (fits k x && (is_shift o || fits k y))) _ (keeps-valid Q _)
      (keeps-then Q (ok_or_act (int_op o k x y)) (λ z. gives (Number z)) (keeps-ok Q (int_op o k x y)) (λ z. keeps-gives Q (Number z)))
  keeps-operated o k v w = keeps-malformed Q

  pub keeps-signed : (o : UnaryOperator) (k : Kind) (v : Value) → Keeps Q (signed o k v)
  keeps-signed sign.Negate k v = keeps-operated arith.Subtract k (Number (pos 0)) v
  keeps-signed sign.Complement k v = keeps-operated arith.Xor k v (Number (converted k (negsuc 0)))

  -- ---- pointers

  keeps-up_to : (n : ℕ) (x : Option ℕ) → Keeps Q (up_to n x)
  keeps-up_to n None = keeps-undefined Q 6
  keeps-up_to n (Some i) = keeps-next Q (need (nat_le i n) 6) (gives i) (keeps-need Q (nat_le i n) 6) (keeps-gives Q i)

  keeps-moved_place : (classes : List Class) (p : Place) (z : ℤ) → Keeps Q (moved_place classes p z)
  keeps-moved_place classes p z =
      keeps-at Q _ (λ s. keeps-next Q (need (not (s.object p.object).is_gone) 5) _ (keeps-need Q _ 5)
      (keeps-then Q (up_to (bound_of classes (s.object p.object).type (element_of p.route)) (further (element_of p.route).index z)) _
      (keeps-up_to (bound_of classes (s.object p.object).type (element_of p.route)) (further (element_of p.route).index z)) (λ i. keeps-gives Q _)))

  pub keeps-moved : (classes : List Class) (v : Value) (z : ℤ) → Keeps Q (moved_value classes v z)
  keeps-moved classes (At p) z = keeps-moved_place classes p z
  keeps-moved classes Null z = keeps-undefined Q 4
  keeps-moved classes v z = keeps-malformed Q

  keeps-moved_by : (classes : List Class) (v w : Value) → Keeps Q (moved_by classes v w)
  keeps-moved_by classes v (Number z) = keeps-moved classes v z
  keeps-moved_by classes v w = keeps-malformed Q

  pub keeps-changed : (classes : List Class) (change : Change) (v w : Value) → Keeps Q (changed_value classes change v w)
  keeps-changed classes (arithmetic o k to) (Number x) y =
      keeps-then Q (operated o k (Number (converted k x)) y >>= number_of) _
      (keeps-then Q (operated o k (Number (converted k x)) y) number_of (keeps-operated o k (Number (converted k x)) y) keeps-number) (λ z. keeps-gives Q _)
  keeps-changed classes (arithmetic o k to) v y = keeps-malformed Q
  keeps-changed classes (moved false) v y = keeps-moved_by classes v y
  keeps-changed classes (moved true) v y = keeps-moved_by classes v (minus y)

  pub keeps-indexed : (classes : List Class) (v w : Value) → Keeps Q (indexed classes v w)
  keeps-indexed classes (Number z) w = keeps-moved classes w z
  keeps-indexed classes v w = keeps-moved_by classes v w

  keeps-named_part : (classes : List Class) (p : Place) → Keeps Q (name_part classes p)
  keeps-named_part classes p = keeps-at Q _ (λ s. keeps-need Q (is_inside classes (s.object p.object).type p.route) 6)

  pub keeps-decayed : (classes : List Class) (v : Value) → Keeps Q (decayed classes v)
  keeps-decayed classes (At p) =
      keeps-at Q _ (λ s. keeps-next Q (valid (is_array (place_type classes s p))) _ (keeps-valid Q _)
      (keeps-next Q (name_part classes p) _ (keeps-named_part classes p) (keeps-gives Q _)))
  keeps-decayed classes (Code f) = keeps-gives Q (Code f)
  keeps-decayed classes v = keeps-malformed Q

  keeps-sum : (classes : List Class) (v w : Value) → Keeps Q (sum_of classes v w)
  keeps-sum classes v (Number z) = keeps-moved classes v z
  keeps-sum classes (Number z) w = keeps-moved classes w z
  keeps-sum classes v w = keeps-malformed Q

  keeps-moved_back : (classes : List Class) (v w : Value) → Keeps Q (moved_back classes v w)
  keeps-moved_back classes v (Number z) = keeps-moved classes v (neg_ℤ z)
  keeps-moved_back classes v w = keeps-malformed Q

  keeps-difference : (v w : Value) → Keeps Q (difference_of v w)
  keeps-difference (At p) (At q) =
      keeps-at Q _ (λ s. keeps-next Q (need (both_there s p q) 5) _ (keeps-need Q _ 5)
      (keeps-next Q (need (same_array p q) 6) _ (keeps-need Q _ 6) (keeps-gives Q _)))
  keeps-difference Null Null = keeps-undefined Q 4
  keeps-difference Null (At q) = keeps-undefined Q 4
  keeps-difference (At p) Null = keeps-undefined Q 4
  keeps-difference v w = keeps-malformed Q

  keeps-ordered : (classes : List Class) (less : ℕ → ℕ → Bool) (v w : Value) → Keeps Q (ordered classes less v w)
  keeps-ordered classes less (At p) (At q) =
      keeps-at Q _ (λ s. keeps-next Q (need (both_stand classes s p q) 10) _ (keeps-need Q _ 10)
      (keeps-next Q (need (same_array p q) 10) _ (keeps-need Q _ 10) (keeps-gives Q _)))
  keeps-ordered classes less Null Null = keeps-undefined Q 4
  keeps-ordered classes less Null (At q) = keeps-undefined Q 4
  keeps-ordered classes less (At p) Null = keeps-undefined Q 4
  keeps-ordered classes less v w = keeps-malformed Q

  keeps-unlike : (v : Value) → Keeps Q (unlike_null v)
  keeps-unlike (At p) = keeps-gives Q false
  keeps-unlike (Code f) = keeps-gives Q false
  keeps-unlike (DataMember path i) = keeps-gives Q false
  keeps-unlike (FunctionMember path t) = keeps-gives Q false
  keeps-unlike v = keeps-malformed Q

  keeps-equal : (classes : List Class) (v w : Value) → Keeps Q (equal_values classes v w)
  keeps-equal classes (At p) (At q) =
      keeps-at Q _ (λ s. keeps-next Q (need (both_stand classes s p q) 10) _ (keeps-need Q _ 10)
      (keeps-next Q (need (comparable classes s p q) 10) _ (keeps-need Q _ 10) (keeps-gives Q _)))
  keeps-equal classes Null Null = keeps-gives Q true
  keeps-equal classes Null w = keeps-unlike w
  keeps-equal classes v Null = keeps-unlike v
  keeps-equal classes (Code f) (Code g) = keeps-gives Q _
  keeps-equal classes (DataMember path i) (DataMember route j) = keeps-gives Q _
  keeps-equal classes v w = keeps-malformed Q

  pub keeps-pointers : (classes : List Class) (o : PointerOperator) (v w : Value) → Keeps Q (pointer_op classes o v w)
  keeps-pointers classes op.Add v w = keeps-sum classes v w
  keeps-pointers classes op.Subtract v w = keeps-moved_back classes v w
  keeps-pointers classes op.Difference v w = keeps-difference v w
  keeps-pointers classes op.Less v w = keeps-ordered classes nat_lt v w
  keeps-pointers classes op.Greater v w = keeps-ordered classes (λ i j. nat_lt j i) v w
  keeps-pointers classes op.LessEqual v w = keeps-ordered classes nat_le v w
  keeps-pointers classes op.GreaterEqual v w = keeps-ordered classes (λ i j. nat_le j i) v w
  keeps-pointers classes op.Equal v w = keeps-then Q (equal_values classes v w) (λ b. gives (truth_value b)) (keeps-equal classes v w) (λ b. keeps-gives Q (truth_value b))
  keeps-pointers classes op.NotEqual v w =
      keeps-then Q (equal_values classes v w) (λ b. gives (truth_value (not b))) (keeps-equal classes v w) (λ b. keeps-gives Q (truth_value (not b)))

  pub keeps-from_void : (classes : List Class) (t : SourceType) (v : Value) → Keeps Q (from_void_value classes t v)
  keeps-from_void classes t Null = keeps-gives Q Null
  keeps-from_void classes t (At p) =
      keeps-at Q _ (λ s. keeps-next Q (need (same_but_const (place_type classes s p) t) 9) (gives (At p)) (keeps-need Q _ 9) (keeps-gives Q (At p)))
  keeps-from_void classes t v = keeps-malformed Q

  -- ---- places

  pub keeps-names : (classes : List Class) (p : Place) → Keeps Q (names_scalar classes p)
  keeps-names classes p = keeps-at Q _ (λ s. keeps-valid Q (is_scalar (place_type classes s p)))

  pub keeps-use : (classes : List Class) (p : Place) → Keeps Q (use_place classes p)
  keeps-use classes p =
      keeps-at Q _ (λ s. keeps-next Q (need (is_inside classes (s.object p.object).type p.route) 6) _ (keeps-need Q _ 6)
      (keeps-need Q (is_usable classes (s.object p.object) p.route) 5))

  pub keeps-read : (classes : List Class) (p : Place) → Keeps Q (read_place classes p)
  keeps-read classes p =
      keeps-next Q (names_scalar classes p) _ (keeps-names classes p)
      (keeps-next Q (use_place classes p) _ (keeps-use classes p)
      (keeps-at Q _ (λ s. keeps-some Q ((s.object p.object).held p.route) (undefined 7) (keeps-undefined Q 7))))

  pub keeps-followed : (classes : List Class) (p : Place) → Keeps Q (followed classes p)
  keeps-followed classes p =
      keeps-at Q _ (λ s. keeps-when Q (is_reference (place_type classes s p)) (read_place classes p >>= bound_to) (gives (At p))
      (keeps-then Q (read_place classes p) bound_to (keeps-read classes p) keeps-bound) (keeps-gives Q (At p)))

  pub keeps-local : (i : ℕ) → Keeps Q (local_place i)
  keeps-local i =
      keeps-at Q _ (λ s. keeps-next Q (valid (nat_lt i s.frame.count)) _ (keeps-valid Q _)
      (keeps-then Q (some_or (s.frame.locals i) (undefined 5)) _ (keeps-some Q (s.frame.locals i) (undefined 5) (keeps-undefined Q 5)) (λ o. keeps-gives Q (root o))))

  pub keeps-static : (P : Program) (name : Name) → Keeps Q (static_place P name)
  keeps-static P name =
      keeps-then Q (some_or (static_number P name) malformed) (λ o. gives (root o)) (keeps-some Q (static_number P name) malformed (keeps-malformed Q))
      (λ o. keeps-gives Q (root o))

  pub keeps-same_type : (P : Program) (name : Name) (t : SourceType) → Keeps Q (same_type P name t)
  keeps-same_type P name t =
      keeps-next Q (static_place P name) (need (same_but_const (static_type P name) t) 9) (keeps-static P name) (keeps-need Q _ 9)

  keeps-has_type : (f : Option Function) (t : SourceType) → Keeps Q (has_type f t)
  keeps-has_type None t = keeps-malformed Q
  keeps-has_type (Some f) t = keeps-need Q (same_but_const f.type t) 9

  pub keeps-function : (P : Program) (name : Name) (t : SourceType) → Keeps Q (name_function P name t)
  keeps-function P name t = keeps-when Q (is_library name) done (has_type (function_named P name) t) (keeps-gives Q tt) (keeps-has_type (function_named P name) t)

  -- ---- registers and locals

  module _ (g : Registers) where
    pub keeps-held : (r : Register) → Keeps Q (held g r)
    keeps-held r = keeps-some Q (g r) malformed (keeps-malformed Q)

    pub keeps-used_in : (r : Register) → Keeps Q (used_in g r)
    keeps-used_in r = keeps-then Q (held g r) used (keeps-held r) keeps-used

    pub keeps-place_in : (r : Register) → Keeps Q (place_in g r)
    keeps-place_in r = keeps-then Q (used_in g r) place_of (keeps-used_in r) keeps-place

  pub keeps-object : (i : ℕ) → Keeps Q (object_of i)
  keeps-object i = keeps-at Q _ (λ s. keeps-some Q (s.frame.locals i) malformed (keeps-malformed Q))
