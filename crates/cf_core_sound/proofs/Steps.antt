-- Operands: what is used of a part's value, by what its typing says.
use Rattle.std.proofs.Common.{◌≡◌, zero, suc, Bool, true, false, ◌&&◌, ◌||◌, not, if◌then◌else◌, List, [], ℤ, pos, negsuc, ◌⊎◌, inl, inr, refl, sym, ap, ◌∙◌, subst, true≢false}
use Rattle.std.specs.Prelude.{Some}
use Rattle.cf_base.proofs.Tests.{both}
use Rattle.cf_base.specs.declared.kind.Kind.{Kind}
use Rattle.cf_base.specs.declared.arith.Arith.{Arith}
use Rattle.cf_base.specs.Integers.{fits, convert as converted}
use Rattle.cf_types.specs.Operators.{is_shift}
use Rattle.cf_elab.specs.Arithmetic.{result_kind}
use Rattle.cf_elab_numbers.proofs.Fits.{convert-fits}
use Rattle.cf_core.specs.Types.{SourceType, void, integer, enumeration, class, pointer, reference, array, takes, gives as gives_type, data_member, function_member, const, same_but_const, is_void}
use Rattle.cf_core.specs.Core.{Change, arithmetic, moved}
use Rattle.cf_core.specs.Places.{is_scalar}
use Rattle.cf_core.specs.Store.{Value, Missing, Number}
use Rattle.cf_core.specs.Run.{State, Act, ◌>>=◌, gives}
use Rattle.cf_core.specs.Access.{used, using, place_of, placed, number_of}
use Rattle.cf_core.specs.Scalars.{truth_of, operated, minus, moved_by, changed_value}
use Rattle.cf_core.specs.Calls.{Program}
use Rattle.cf_core.specs.Typing.{Typing, is_function, scalar_type, is_integer, is_condition, is_right_operand, changes}
use Rattle.cf_core_sound.specs.Proper.{is_proper, shape}
use Rattle.cf_core_sound.specs.Values.{IsPlace, IsOf, Fits, Fit}
use Rattle.cf_core_sound.specs.States.{Sound}
use Rattle.cf_core_sound.specs.Well.{Well}
use Rattle.cf_core_sound.proofs.Shapes.{same-shape, void-shape, function-shape, pointed-whole}
use Rattle.cf_core_sound.proofs.Access.{leads-used, is-used, scalar-no-void}
use Rattle.cf_core_sound.proofs.Typings.{scalar-told, or-cases, integer-number}
use Rattle.cf_core_sound.proofs.Operators.{IsNumber, well-operated, well-truth, well-number-truth, well-moves, place-led}
use Rattle.cf_core_sound.proofs.Wells.{well-then, well-gives, well-as, well-undefined}

module _ (P : Program) (locals : List SourceType) where
  -- ---- what is used

  -- a node whose values are used: none is the lack of one, and none has built its place
  pub Solid : Typing → Type 0
  Solid x = (s : State) (v : Value) → Fits P s x v → used v ≡ gives v

  pub solid-place : (x : Typing) (t : SourceType) → x.place ≡ Some t → Solid x
  unfolding Solid
  solid-place x t e s v k = leads-used P s (shape t) v (k.place t e)

  pub solid-type : (x : Typing) (t : SourceType) → x.type ≡ Some t → is_void t ≡ false → Solid x
  unfolding Solid
  solid-type x t e n s v k = is-used P s (shape t) v (void-shape t ∙ n) (k.type t e)

  pub solid-value : (x : Typing) (t : SourceType) → x.value t ≡ true → is_void t ≡ false → Solid x
  unfolding Solid
  solid-value x t e n s v k = is-used P s (shape t) v (void-shape t ∙ n) (k.value t e)

  pub solid-start : (x : Typing) (t : SourceType) → x.start t ≡ true → is_scalar t ≡ true → Solid x
  unfolding Solid
  solid-start x t e sc s v k = is-used P s (shape t) v (void-shape t ∙ scalar-no-void t sc) (k.start t e)

  pub solid-integer : (x : Typing) → is_integer x ≡ true → Solid x
  unfolding Solid
  solid-integer x e s v k = let n = integer-number P s x v e k in subst (λ u. used u ≡ gives u) (sym n.1) refl

  fit-used : (s : State) (x : Typing) (v : Value) → Sound P locals s → Solid x → Fit P s x v → Well P locals s (λ v u. Fits P u x v) (used v)
  unfolding Solid
  fit-used s x v h solid (inl e) = subst (λ y. Well P locals s (λ v u. Fits P u x v) (used y)) (sym e) (well-undefined P locals s 16)
  fit-used s x v h solid (inr k) = subst (λ act. Well P locals s (λ v u. Fits P u x v) act) (sym (solid s v k)) (well-gives P locals s v h k)

  pub well-using : (s : State) (x : Typing) (act : Act Value) → Well P locals s (λ v t. Fit P t x v) act → Solid x → Well P locals s (λ v t. Fits P t x v) (using act)
  well-using s x act k solid = well-then P locals s act used k (λ v t b f. fit-used t x v b.sound solid f)

  pub well-placed : (s : State) (x : Typing) (t : SourceType) (act : Act Value) → Well P locals s (λ v t. Fit P t x v) act → x.place ≡ Some t → is_function (shape t) ≡ false
      → Well P locals s (λ p u. IsPlace u (shape t) p) (placed act)
  well-placed s x t act k e n = well-then P locals s (act >>= used) place_of (well-using s x act k (solid-place x t e)) (λ v u b f.
      let p = place-led P locals u (shape t) v n (f.place t e) in
      subst (λ y. Well P locals u (λ p u. IsPlace u (shape t) p) (place_of y)) (sym p.1) (well-gives P locals u p.0 b.sound p.2))

  -- ---- conditions

  missing-truth : {Q : Bool → State → Type 0} (s : State) (v : Value) → v ≡ Missing → Well P locals s Q (truth_of v)
  missing-truth {Q} s v e = subst (λ y. Well P locals s Q (truth_of y)) (sym e) (well-undefined P locals s 16)

  pub well-condition : (s : State) (x : Typing) (v : Value) → Sound P locals s → is_condition x ≡ true → Fit P s x v → Well P locals s (λ b u. Unit {0}) (truth_of v)
  well-condition s x v h e (inl m) = missing-truth s v m
  well-condition s x v h e (inr k) = by_case (or-cases (is_integer x) (scalar_type x.type) e)
    where
      by_case : (is_integer x ≡ true) ⊎ (scalar_type x.type ≡ true) → Well P locals s (λ b u. Unit {0}) (truth_of v)
      by_case (inl i) = let n = integer-number P s x v i k in well-number-truth P locals s v n.0 h n.1
      by_case (inr c) =
          let there = scalar-told x.type c in
          well-truth P locals s (shape there.it) v h (void-shape there.it ∙ scalar-no-void there.it there.so) (k.type there.it there.is)

  -- ---- operands of numbers

  -- the right operand of an operator
  pub record Right (o : Arith) (k : Kind) (v : Value) : Type 0 where
    pub number : ℤ
    pub is : v ≡ Number number
    pub so : (is_shift o || fits k number) ≡ true

  pub right-operand : (s : State) (o : Arith) (k : Kind) (y : Typing) (v : Value) → is_right_operand o k y ≡ true → Fits P s y v → Right o k v
  right-operand s o k y v e f = by_test (is_shift o) refl e
    where
      first : (a b : Bool) → a ≡ true → (a || b) ≡ true
      first true b e = refl
      first false b e = absurd (true≢false (sym e))

      second : (a b : Bool) → b ≡ true → (a || b) ≡ true
      second true b e = refl
      second false b e = e

      by_test : (b : Bool) → is_shift o ≡ b → (if b then is_integer y else y.value (integer k)) ≡ true → Right o k v
      by_test true is e = let n = integer-number P s y v e f in record { number = n.0; is = n.1; so = first (is_shift o) (fits k n.0) is }
      by_test false is e = let n = f.value (integer k) e in record { number = n.0; is = n.1; so = second (is_shift o) (fits k n.0) n.2 }

  pub right-solid : (o : Arith) (k : Kind) (y : Typing) → is_right_operand o k y ≡ true → Solid y
  right-solid o k y e = by_test (is_shift o) e
    where
      by_test : (b : Bool) → (if b then is_integer y else y.value (integer k)) ≡ true → Solid y
      by_test true e = solid-integer y e
      by_test false e = solid-value y (integer k) e refl

  pub well-operation : (s : State) (o : Arith) (k : Kind) (v w : Value) → Sound P locals s → IsNumber P locals k v → Right o k w
      → Well P locals s (λ v u. IsNumber P locals (result_kind o k) v) (operated o k v w)
  well-operation s o k v w h a r =
      subst (λ x. Well P locals s (λ v u. IsNumber P locals (result_kind o k) v) (operated o k x w)) (sym a.1)
      (subst (λ y. Well P locals s (λ v u. IsNumber P locals (result_kind o k) v) (operated o k (Number a.0) y)) (sym r.is)
      (well-operated P locals s o k a.0 r.number h a.2 r.so))

  -- ---- the change of a scalar in place

  -- a pointer to an object, const on itself or not
  pub record Movable (t : SourceType) : Type 0 where
    pub target : SourceType
    pub is : shape t ≡ pointer (shape target)
    pub no_function : is_function target ≡ false
    pub proper : is_proper t ≡ true → is_proper target ≡ true

  three : (a b c : Bool) → (a && b && c) ≡ true → (a ≡ true) × (b ≡ true) × (c ≡ true)
  three true true c e = (refl, refl, e)
  three true false c e = absurd (true≢false (sym e))
  three false b c e = absurd (true≢false (sym e))

  not-true : (b : Bool) → not b ≡ true → b ≡ false
  not-true true h = absurd (true≢false (sym h))
  not-true false h = refl

  pub data Changes (c : Change) (t : SourceType) (y : Typing) : Type 0 where
    of_number : (o : Arith) (k to : Kind) → c ≡ arithmetic o k to → shape t ≡ integer to → is_right_operand o k y ≡ true → Changes c t y
    of_pointer : (back : Bool) → c ≡ moved back → Movable t → is_integer y ≡ true → Changes c t y

  pub changes-told : (c : Change) (t : SourceType) (y : Typing) → changes c (Some t) y ≡ true → Changes c t y
  changes-told (arithmetic o k to) t y e =
      let parts = both (same_but_const t (integer to)) (is_right_operand o k y) e in
      of_number o k to refl (same-shape t (integer to) parts.0) parts.1
  changes-told (moved back) (pointer t) y e =
      let parts = three (not (is_function t)) (not (is_void t)) (is_integer y) e in
      of_pointer back refl (record { target = t; is = refl; no_function = not-true (is_function t) parts.0; proper = λ h. (pointed-whole t h).proper }) parts.2
  changes-told (moved back) (const (pointer t)) y e =
      let parts = three (not (is_function t)) (not (is_void t)) (is_integer y) e in
      of_pointer back refl (record { target = t; is = refl; no_function = not-true (is_function t) parts.0; proper = λ h. (pointed-whole t h).proper }) parts.2
  changes-told (moved back) void y e = absurd (true≢false (sym e))
  changes-told (moved back) (integer k) y e = absurd (true≢false (sym e))
  changes-told (moved back) (enumeration n) y e = absurd (true≢false (sym e))
  changes-told (moved back) (class c) y e = absurd (true≢false (sym e))
  changes-told (moved back) (reference t) y e = absurd (true≢false (sym e))
  changes-told (moved back) (array t n) y e = absurd (true≢false (sym e))
  changes-told (moved back) (takes p t) y e = absurd (true≢false (sym e))
  changes-told (moved back) (gives_type t c) y e = absurd (true≢false (sym e))
  changes-told (moved back) (data_member c t) y e = absurd (true≢false (sym e))
  changes-told (moved back) (function_member c t) y e = absurd (true≢false (sym e))
  changes-told (moved back) (const void) y e = absurd (true≢false (sym e))
  changes-told (moved back) (const (integer k)) y e = absurd (true≢false (sym e))
  changes-told (moved back) (const (enumeration n)) y e = absurd (true≢false (sym e))
  changes-told (moved back) (const (class c)) y e = absurd (true≢false (sym e))
  changes-told (moved back) (const (reference t)) y e = absurd (true≢false (sym e))
  changes-told (moved back) (const (array t n)) y e = absurd (true≢false (sym e))
  changes-told (moved back) (const (takes p t)) y e = absurd (true≢false (sym e))
  changes-told (moved back) (const (gives_type t c)) y e = absurd (true≢false (sym e))
  changes-told (moved back) (const (data_member c t)) y e = absurd (true≢false (sym e))
  changes-told (moved back) (const (function_member c t)) y e = absurd (true≢false (sym e))
  changes-told (moved back) (const (const t)) y e = absurd (true≢false (sym e))

  pub changes-solid : (c : Change) (t : SourceType) (y : Typing) → Changes c t y → Solid y
  changes-solid c t y (of_number o k to e s r) = right-solid o k y r
  changes-solid c t y (of_pointer back e m i) = solid-integer y i

  arithmetic-change : (s : State) (o : Arith) (k to : Kind) (x : ℤ) (w : Value) → Sound P locals s → Right o k w
      → Well P locals s (λ v u. IsNumber P locals to v) (changed_value [] (arithmetic o k to) (Number x) w)
  arithmetic-change s o k to x w h r =
      well-then P locals s (operated o k (Number (converted k x)) w >>= number_of) (λ z. gives (Number (converted to z)))
      (well-then P locals s (operated o k (Number (converted k x)) w) number_of
      (well-operation s o k (Number (converted k x)) w h (converted k x, refl, convert-fits k x) r)
      (λ v u b n. subst (λ y. Well P locals u (λ z u. Unit {0}) (number_of y)) (sym n.1) (well-gives P locals u n.0 b.sound tt)))
      (λ z u b n. well-gives P locals u (Number (converted to z)) b.sound (converted to z, refl, convert-fits to z))

  minus-number : (w : Value) (z : ℤ) → w ≡ Number z → (y : ℤ) × (minus w ≡ Number y)
  minus-number w z e = by_sign z (ap minus e)
    where
      by_sign : (z : ℤ) → minus w ≡ minus (Number z) → (y : ℤ) × (minus w ≡ Number y)
      by_sign (pos zero) f = (pos zero, f)
      by_sign (pos (suc n)) f = (negsuc n, f)
      by_sign (negsuc n) f = (pos (suc n), f)

  moved-by : (s : State) (t : SourceType) (v w : Value) (z : ℤ) → Sound P locals s → is_function t ≡ false → IsOf P s (pointer t) v → w ≡ Number z
      → Well P locals s (λ v u. IsOf P u (pointer t) v) (moved_by [] v w)
  moved-by s t v w z h n k e = well-as P locals s (moved_by [] v w) (well-moves P locals s t (moved_by []) v w z z h n k e (λ p. refl) refl) (λ v u b l. inr l)

  pub well-changed : (s : State) (c : Change) (t : SourceType) (y : Typing) (v w : Value) → Sound P locals s → is_proper t ≡ true → Changes c t y → IsOf P s (shape t) v → Fits P s y w
      → Well P locals s (λ v u. IsOf P u (shape t) v) (changed_value [] c v w)
  well-changed s c t y v w h proper (of_number o k to e same r) i f =
      let a = subst (λ a. IsOf P s a v) same i in
      subst (λ a. Well P locals s (λ v u. IsOf P u a v) (changed_value [] c v w)) (sym same)
      (subst (λ d. Well P locals s (λ v u. IsOf P u (integer to) v) (changed_value [] d v w)) (sym e)
      (subst (λ x. Well P locals s (λ v u. IsOf P u (integer to) v) (changed_value [] (arithmetic o k to) x w)) (sym a.1)
      (arithmetic-change s o k to a.0 w h (right-operand s o k y w r f))))
  well-changed s c t y v w h proper (of_pointer back e m n) i f =
      subst (λ a. Well P locals s (λ v u. IsOf P u a v) (changed_value [] c v w)) (sym m.is)
      (subst (λ d. Well P locals s (λ v u. IsOf P u (pointer (shape m.target)) v) (changed_value [] d v w)) (sym e) (by_way back))
    where
      a : IsOf P s (pointer (shape m.target)) v
      a = subst (λ a. IsOf P s a v) m.is i

      no : is_function (shape m.target) ≡ false
      no = function-shape m.target (m.proper proper) ∙ m.no_function

      number : (z : ℤ) × (w ≡ Number z)
      number = integer-number P s y w n f

      by_way : (b : Bool) → Well P locals s (λ v u. IsOf P u (pointer (shape m.target)) v) (changed_value [] (moved b) v w)
      by_way false = moved-by s (shape m.target) v w number.0 h no a number.1
      by_way true = let back = minus-number w number.0 number.1 in moved-by s (shape m.target) v (minus w) back.0 h no a back.1
