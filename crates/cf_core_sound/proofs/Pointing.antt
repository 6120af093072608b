-- Sums, differences and comparisons of pointers, and conversions.
use Rattle.std.proofs.Common.{◌≡◌, ℕ, zero, suc, ◌+◌, ◌-◌, ◌<◌, ◌≤◌, Bool, true, false, nat_lt, List, [], ℤ, pos, negsuc, ◌-ℤ◌, inl, inr, refl, sym, ◌∙◌, subst, true≢false, arith, if◌then◌else◌}
use Rattle.std.specs.Prelude.{bytes_eq}
use Rattle.std.proofs.lemmas.Bool.Decides.{nat_tests}
use Rattle.cf_base.specs.declared.kind.Kind.{Kind}
use Rattle.cf_base.specs.declared.kind.Kind.TheVariants.{Int}
use Rattle.cf_base.specs.Integers.{fits, convert as converted}
use Rattle.cf_elab_numbers.proofs.Fits.{convert-fits}
use Rattle.cf_core.specs.Types.{SourceType, void, integer, enumeration, class, pointer, reference, array, takes, gives as gives_type, data_member, function_member, const, is_void, plain, same_but_const}
use Rattle.cf_core.specs.Places.{Place, place_eq}
use Rattle.cf_core.specs.Store.{Value, Nothing, Missing, Built, Number, Null, At, Code, DataMember, FunctionMember}
use Rattle.cf_core.specs.Run.{State, Act, ◌>>=◌, ◌>>◌, gives, need, null_used, not_alive, outside_array, compared, cast_from_void}
use Rattle.cf_core.specs.Access.{place_type, number_of, used}
use Rattle.cf_core.specs.Pointers.{element_of, same_array, both_stand, both_there, truth_value, difference_of, ordered, comparable, equal_values, from_void_value}
use Rattle.cf_core.specs.Scalars.{as_pointer, converted_value}
use Rattle.cf_core.specs.Calls.{Program}
use Rattle.cf_core.specs.Typing.{is_function, is_integral}
use Rattle.cf_core_sound.specs.Proper.{most, shape}
use Rattle.cf_core_sound.specs.Values.{IsPlace, Leads, IsOf}
use Rattle.cf_core_sound.specs.States.{Sound}
use Rattle.cf_core_sound.specs.Well.{Well}
use Rattle.cf_core_sound.proofs.Shapes.{same-shape}
use Rattle.cf_core_sound.proofs.Moments.{behind-self}
use Rattle.cf_core_sound.proofs.Operators.{ObjectPointer, a_null, a_place, object-pointer, near-index, IsNumber}
use Rattle.cf_core_sound.proofs.Wells.{well-gives, well-at, well-need, well-undefined, well-as}

-- the number of elements between two of an array is an int
below-told : (n m : ℕ) → n < m → nat_lt n m ≡ true
below-told n m lt = grind (arith, nat_tests, lt)

fits-apart : (i n : ℕ) → i ≤ most → suc n ≤ most → (b : Bool) → fits Int (if b then negsuc (suc n - suc i) else pos (i - suc n)) ≡ true
fits-apart i n a b true = below-told (suc n - suc i) 2147483648 (omega (arith, a, b))
fits-apart i n a b false = below-told (i - suc n) 2147483648 (omega (arith, a, b))

fits-difference : (i j : ℕ) → i ≤ most → j ≤ most → fits Int (pos i -ℤ pos j) ≡ true
fits-difference i zero a b = below-told (i + 0) 2147483648 (omega (arith, a))
fits-difference i (suc n) a b = fits-apart i n a b (nat_lt i (suc n))

module _ (P : Program) (locals : List SourceType) where
  pub truth-number : (b : Bool) → IsNumber P locals Int (truth_value b)
  truth-number true = (pos 1, refl, refl)
  truth-number false = (pos 0, refl, refl)

  -- what two pointers to objects give, if only their places matter
  pub well-two-pointers : {A : Type 0} {Q : A → State → Type 0} (s : State) (t : SourceType) (go : Value → Value → Act A) (v w : Value)
      → is_function t ≡ false → IsOf P s (pointer t) v → IsOf P s (pointer t) w
      → Well P locals s Q (go Null Null) → ((q : Place) → Well P locals s Q (go Null (At q))) → ((p : Place) → Well P locals s Q (go (At p) Null))
      → ((p q : Place) → IsPlace s t p → IsPlace s t q → Well P locals s Q (go (At p) (At q))) → Well P locals s Q (go v w)
  well-two-pointers {Q = Q} s t go v w n k l nn np pn pp = by_views (object-pointer P locals s t v n k) (object-pointer P locals s t w n l)
    where
      by_views : ObjectPointer P locals s t v → ObjectPointer P locals s t w → Well P locals s Q (go v w)
      by_views (a_null e) (a_null f) = subst (λ x. Well P locals s Q (go x w)) (sym e) (subst (λ y. Well P locals s Q (go Null y)) (sym f) nn)
      by_views (a_null e) (a_place q f j) = subst (λ x. Well P locals s Q (go x w)) (sym e) (subst (λ y. Well P locals s Q (go Null y)) (sym f) (np q))
      by_views (a_place p e i) (a_null f) = subst (λ x. Well P locals s Q (go x w)) (sym e) (subst (λ y. Well P locals s Q (go (At p) y)) (sym f) (pn p))
      by_views (a_place p e i) (a_place q f j) = subst (λ x. Well P locals s Q (go x w)) (sym e) (subst (λ y. Well P locals s Q (go (At p) y)) (sym f) (pp p q i j))

  pub well-difference : (s : State) (t : SourceType) (v w : Value) → Sound P locals s → is_function t ≡ false → IsOf P s (pointer t) v → IsOf P s (pointer t) w
      → Well P locals s (λ x u. IsNumber P locals Int x) (difference_of v w)
  well-difference s t v w h n k l = well-two-pointers s t difference_of v w n k l
      (well-undefined P locals s null_used) (λ q. well-undefined P locals s null_used) (λ p. well-undefined P locals s null_used)
      (λ p q i j. well-at P locals s
      (λ s. need (both_there s p q) not_alive >> (need (same_array p q) outside_array >> gives (Number (pos (element_of p.route).index -ℤ pos (element_of q.route).index)))) h
      (well-need P locals s (both_there s p q) not_alive (need (same_array p q) outside_array >> gives (Number (pos (element_of p.route).index -ℤ pos (element_of q.route).index))) (λ _.
      well-need P locals s (same_array p q) outside_array (gives (Number (pos (element_of p.route).index -ℤ pos (element_of q.route).index))) (λ _.
      well-gives P locals s (Number (pos (element_of p.route).index -ℤ pos (element_of q.route).index)) h (
        pos (element_of p.route).index -ℤ pos (element_of q.route).index,
        refl,
        fits-difference (element_of p.route).index (element_of q.route).index (near-index P locals p.route i.near) (near-index P locals q.route j.near),
      )))))

  pub well-ordered : (s : State) (t : SourceType) (less : ℕ → ℕ → Bool) (v w : Value) → Sound P locals s → is_function t ≡ false → IsOf P s (pointer t) v → IsOf P s (pointer t) w
      → Well P locals s (λ x u. IsNumber P locals Int x) (ordered [] less v w)
  well-ordered s t less v w h n k l = well-two-pointers s t (ordered [] less) v w n k l
      (well-undefined P locals s null_used) (λ q. well-undefined P locals s null_used) (λ p. well-undefined P locals s null_used)
      (λ p q i j. well-at P locals s
      (λ s. need (both_stand [] s p q) compared >> (need (same_array p q) compared >> gives (truth_value (less (element_of p.route).index (element_of q.route).index)))) h
      (well-need P locals s (both_stand [] s p q) compared (need (same_array p q) compared >> gives (truth_value (less (element_of p.route).index (element_of q.route).index))) (λ _.
      well-need P locals s (same_array p q) compared (gives (truth_value (less (element_of p.route).index (element_of q.route).index))) (λ _.
      well-gives P locals s (truth_value (less (element_of p.route).index (element_of q.route).index)) h (truth-number _)))))

  -- ---- equal or not

  equal-places : (s : State) (p q : Place) → Sound P locals s → Well P locals s (λ b u. Unit {0}) (equal_values [] (At p) (At q))
  equal-places s p q h = well-at P locals s (λ s. need (both_stand [] s p q) compared >> (need (comparable [] s p q) compared >> gives (place_eq p q))) h
      (well-need P locals s (both_stand [] s p q) compared (need (comparable [] s p q) compared >> gives (place_eq p q)) (λ _.
      well-need P locals s (comparable [] s p q) compared (gives (place_eq p q)) (λ _. well-gives P locals s (place_eq p q) h tt)))

  equal-null : (s : State) (t : SourceType) (w : Value) → Sound P locals s → Leads P s t w → Well P locals s (λ b u. Unit {0}) (equal_values [] Null w)
  equal-null s t Nothing h k = absurd k
  equal-null s t Missing h k = absurd k
  equal-null s t Built h k = absurd k
  equal-null s t (Number z) h k = absurd k
  equal-null s t Null h k = absurd k
  equal-null s t (At p) h k = well-gives P locals s false h tt
  equal-null s t (Code f) h k = well-gives P locals s false h tt
  equal-null s t (DataMember path i) h k = absurd k
  equal-null s t (FunctionMember path f) h k = absurd k

  null-equal : (s : State) (t : SourceType) (w : Value) → Sound P locals s → Leads P s t w → Well P locals s (λ b u. Unit {0}) (equal_values [] w Null)
  null-equal s t Nothing h k = absurd k
  null-equal s t Missing h k = absurd k
  null-equal s t Built h k = absurd k
  null-equal s t (Number z) h k = absurd k
  null-equal s t Null h k = absurd k
  null-equal s t (At p) h k = well-gives P locals s false h tt
  null-equal s t (Code f) h k = well-gives P locals s false h tt
  null-equal s t (DataMember path i) h k = absurd k
  null-equal s t (FunctionMember path f) h k = absurd k

  place-equal : (s : State) (t : SourceType) (p : Place) (w : Value) → Sound P locals s → is_function t ≡ false → Leads P s t w → Well P locals s (λ b u. Unit {0}) (equal_values [] (At p) w)
  place-equal s t p Nothing h n k = absurd k
  place-equal s t p Missing h n k = absurd k
  place-equal s t p Built h n k = absurd k
  place-equal s t p (Number z) h n k = absurd k
  place-equal s t p Null h n k = absurd k
  place-equal s t p (At q) h n k = equal-places s p q h
  place-equal s t p (Code f) h n k = absurd (true≢false (sym k.0 ∙ n))
  place-equal s t p (DataMember path i) h n k = absurd k
  place-equal s t p (FunctionMember path f) h n k = absurd k

  code-equal : (s : State) (t : SourceType) (f : List ℕ) (w : Value) → Sound P locals s → is_function t ≡ true → Leads P s t w → Well P locals s (λ b u. Unit {0}) (equal_values [] (Code f) w)
  code-equal s t f Nothing h n k = absurd k
  code-equal s t f Missing h n k = absurd k
  code-equal s t f Built h n k = absurd k
  code-equal s t f (Number z) h n k = absurd k
  code-equal s t f Null h n k = absurd k
  code-equal s t f (At q) h n k = absurd (true≢false (sym n ∙ k.0))
  code-equal s t f (Code g) h n k = well-gives P locals s (bytes_eq f g) h tt
  code-equal s t f (DataMember path i) h n k = absurd k
  code-equal s t f (FunctionMember path g) h n k = absurd k

  leads-equal : (s : State) (t : SourceType) (v w : Value) → Sound P locals s → Leads P s t v → Leads P s t w → Well P locals s (λ b u. Unit {0}) (equal_values [] v w)
  leads-equal s t Nothing w h k l = absurd k
  leads-equal s t Missing w h k l = absurd k
  leads-equal s t Built w h k l = absurd k
  leads-equal s t (Number z) w h k l = absurd k
  leads-equal s t Null w h k l = absurd k
  leads-equal s t (At p) w h k l = place-equal s t p w h k.0 l
  leads-equal s t (Code f) w h k l = code-equal s t f w h k.0 l
  leads-equal s t (DataMember path i) w h k l = absurd k
  leads-equal s t (FunctionMember path f) w h k l = absurd k

  pointers-equal : (s : State) (t : SourceType) (v w : Value) → Sound P locals s → IsOf P s (pointer t) v → IsOf P s (pointer t) w → Well P locals s (λ b u. Unit {0}) (equal_values [] v w)
  pointers-equal s t v w h (inl e) (inl f) =
      subst (λ x. Well P locals s (λ b u. Unit {0}) (equal_values [] x w)) (sym e) (subst (λ y. Well P locals s (λ b u. Unit {0}) (equal_values [] Null y)) (sym f) (well-gives P locals s true h tt))
  pointers-equal s t v w h (inl e) (inr l) = subst (λ x. Well P locals s (λ b u. Unit {0}) (equal_values [] x w)) (sym e) (equal-null s t w h l)
  pointers-equal s t v w h (inr k) (inl f) = subst (λ x. Well P locals s (λ b u. Unit {0}) (equal_values [] v x)) (sym f) (null-equal s t v h k)
  pointers-equal s t v w h (inr k) (inr l) = leads-equal s t v w h k l

  nulls-equal : (s : State) (v w : Value) → Sound P locals s → v ≡ Null → w ≡ Null → Well P locals s (λ b u. Unit {0}) (equal_values [] v w)
  nulls-equal s v w h e f =
      subst (λ x. Well P locals s (λ b u. Unit {0}) (equal_values [] x w)) (sym e) (subst (λ y. Well P locals s (λ b u. Unit {0}) (equal_values [] Null y)) (sym f) (well-gives P locals s true h tt))

  -- two values of a scalar type that is no integer
  pub well-equal : (s : State) (t : SourceType) (v w : Value) → Sound P locals s → is_integral (shape t) ≡ false
      → IsOf P s (shape t) v → IsOf P s (shape t) w → is_void t ≡ false → Well P locals s (λ b u. Unit {0}) (equal_values [] v w)
  well-equal s void v w h m k l n = absurd (true≢false n)
  well-equal s (integer i) v w h m k l n = absurd (true≢false m)
  well-equal s (enumeration c) v w h m k l n = absurd (true≢false m)
  well-equal s (class c) v w h m k l n = absurd k
  well-equal s (pointer t) v w h m k l n = pointers-equal s (shape t) v w h k l
  well-equal s (reference t) v w h m k l n = leads-equal s (shape t) v w h k l
  well-equal s (array t i) v w h m k l n = absurd k
  well-equal s (takes p t) v w h m k l n = absurd k
  well-equal s (gives_type t c) v w h m k l n = absurd k
  well-equal s (data_member c t) v w h m k l n = nulls-equal s v w h k l
  well-equal s (function_member c t) v w h m k l n = nulls-equal s v w h k l
  well-equal s (const t) v w h m k l n = well-equal s t v w h m k l n

  -- ---- a cast from a pointer to void

  pub well-from-void : (s : State) (t u : SourceType) (v : Value) → Sound P locals s → is_function (shape t) ≡ false → is_function u ≡ false → IsOf P s (pointer u) v
      → Well P locals s (λ x u. IsOf P u (pointer (shape t)) x) (from_void_value [] t v)
  well-from-void s t u v h n c k = by_view (object-pointer P locals s u v c k)
    where
      by_place : (p : Place) → IsPlace s u p → Well P locals s (λ x u. IsOf P u (pointer (shape t)) x) (from_void_value [] t (At p))
      by_place p i = well-at P locals s (λ s. need (same_but_const (place_type [] s p) t) cast_from_void >> gives (At p)) h
          (well-need P locals s (same_but_const (place_type [] s p) t) cast_from_void (gives (At p)) (λ e.
          let there : IsPlace s (shape t) p = record { below = i.below; same = inr (same-shape (place_type [] s p) t e); near = i.near } in
          well-gives P locals s (At p) h (inr (n, there))))

      by_view : ObjectPointer P locals s u v → Well P locals s (λ x u. IsOf P u (pointer (shape t)) x) (from_void_value [] t v)
      by_view (a_null e) = subst (λ y. Well P locals s (λ x u. IsOf P u (pointer (shape t)) x) (from_void_value [] t y)) (sym e) (well-gives P locals s Null h (inl refl))
      by_view (a_place p e i) = subst (λ y. Well P locals s (λ x u. IsOf P u (pointer (shape t)) x) (from_void_value [] t y)) (sym e) (by_place p i)

  -- ---- conversions

  -- to an integer type
  pub well-to-kind : (s : State) (k : Kind) (v : Value) (z : ℤ) → Sound P locals s → v ≡ Number z
      → Well P locals s (λ x u. IsNumber P locals k x) (used v >>= number_of >>= (λ z. gives (Number (converted k z))))
  well-to-kind s k v z h e = subst (λ y. Well P locals s (λ x u. IsNumber P locals k x) (used y >>= number_of >>= (λ z. gives (Number (converted k z))))) (sym e)
      (record { by = λ w bytes. record { by = (behind-self P locals s h, (converted k z, refl, convert-fits k z), bytes) } })

  pub well-missing-kind : {Q : Value → State → Type 0} (s : State) (k : Kind) → Well P locals s Q (used Missing >>= number_of >>= (λ z. gives (Number (converted k z))))
  well-missing-kind s k = record { by = λ w bytes. record { by = tt } }

  -- 0 becomes null
  pub well-zero : (s : State) (v : Value) → Sound P locals s → v ≡ Number (pos zero) → Well P locals s (λ x u. x ≡ Null) (used v >>= as_pointer)
  well-zero s v h e = subst (λ y. Well P locals s (λ x u. x ≡ Null) (used y >>= as_pointer)) (sym e)
      (record { by = λ w bytes. record { by = (behind-self P locals s h, refl, bytes) } })

  pub well-null : (s : State) (v : Value) → Sound P locals s → v ≡ Null → Well P locals s (λ x u. x ≡ Null) (used v >>= as_pointer)
  well-null s v h e = subst (λ y. Well P locals s (λ x u. x ≡ Null) (used y >>= as_pointer)) (sym e)
      (record { by = λ w bytes. record { by = (behind-self P locals s h, refl, bytes) } })

  pub well-missing-pointer : {Q : Value → State → Type 0} (s : State) → Well P locals s Q (used Missing >>= as_pointer)
  well-missing-pointer s = record { by = λ w bytes. record { by = tt } }

  leads-kept : (s : State) (t : SourceType) (v : Value) → Sound P locals s → Leads P s t v → Well P locals s (λ x u. Leads P u t x) (used v >>= as_pointer)
  leads-kept s t Nothing h k = absurd k
  leads-kept s t Missing h k = absurd k
  leads-kept s t Built h k = absurd k
  leads-kept s t (Number z) h k = absurd k
  leads-kept s t Null h k = absurd k
  leads-kept s t (At p) h k = record { by = λ w bytes. record { by = (behind-self P locals s h, k, bytes) } }
  leads-kept s t (Code f) h k = record { by = λ w bytes. record { by = (behind-self P locals s h, k, bytes) } }
  leads-kept s t (DataMember path i) h k = absurd k
  leads-kept s t (FunctionMember path f) h k = absurd k

  pub well-kept : (s : State) (t : SourceType) (v : Value) → Sound P locals s → IsOf P s (pointer t) v → Well P locals s (λ x u. IsOf P u (pointer t) x) (used v >>= as_pointer)
  well-kept s t v h (inl e) = well-as P locals s (used v >>= as_pointer) (well-null s v h e) (λ x u b e. inl e)
  well-kept s t v h (inr k) = well-as P locals s (used v >>= as_pointer) (leads-kept s t v h k) (λ x u b l. inr l)

  leads-anywhere : (s : State) (t : SourceType) (v : Value) → is_function t ≡ false → Leads P s t v → Leads P s void v
  leads-anywhere s t Nothing n k = absurd k
  leads-anywhere s t Missing n k = absurd k
  leads-anywhere s t Built n k = absurd k
  leads-anywhere s t (Number z) n k = absurd k
  leads-anywhere s t Null n k = absurd k
  leads-anywhere s t (At p) n k = (refl, record { below = k.1.below; same = inl refl; near = k.1.near })
  leads-anywhere s t (Code f) n k = absurd (true≢false (sym k.0 ∙ n))
  leads-anywhere s t (DataMember path i) n k = absurd k
  leads-anywhere s t (FunctionMember path f) n k = absurd k

  -- a pointer to an object is one to void
  pub pointer-anywhere : (s : State) (t : SourceType) (v : Value) → is_function t ≡ false → IsOf P s (pointer t) v → IsOf P s (pointer void) v
  pointer-anywhere s t v n (inl e) = inl e
  pointer-anywhere s t v n (inr k) = inr (leads-anywhere s t v n k)

-- const on a type changes no conversion
pub converted-plain : (t : SourceType) (v : Value) → converted_value (plain t) v ≡ converted_value t v
converted-plain (const t) v = refl
converted-plain void v = refl
converted-plain (integer k) v = refl
converted-plain (enumeration e) v = refl
converted-plain (class c) v = refl
converted-plain (pointer t) v = refl
converted-plain (reference t) v = refl
converted-plain (array t n) v = refl
converted-plain (takes p t) v = refl
converted-plain (gives_type t c) v = refl
converted-plain (data_member c t) v = refl
converted-plain (function_member c t) v = refl
