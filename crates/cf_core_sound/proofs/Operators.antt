-- What operators and conversions give is of their types.
use Rattle.std.proofs.Common.{◌≡◌, ℕ, zero, suc, ◌≤◌, Bool, true, false, ◌&&◌, ◌||◌, not, nat_le, List, [], ◌∷◌, ℤ, pos, negsuc, ◌⊎◌, inl, inr, refl, sym, ap, ◌∙◌, subst, true≢false, arith}
use Rattle.std.specs.Prelude.{Option, Some, None, Result, Ok, Err}
use Rattle.std.proofs.lemmas.Bool.Decides.{nat_tests}
use Rattle.cf_base.specs.declared.kind.Kind.{Kind}
use Rattle.cf_base.specs.declared.arith.Arith.{Arith}
use Rattle.cf_base.specs.declared.arith.Arith.TheVariants as op
use Rattle.cf_base.specs.Integers.{fits, int_op, convert as converted}
use Rattle.cf_types.specs.Operators.{is_shift}
use Rattle.cf_elab.specs.Arithmetic.{result_kind}
use Rattle.cf_elab_numbers.proofs.Fits.{convert-fits, zero-fits, result-fits}
use Rattle.cf_core.specs.declared.operators.UnaryOperator.{UnaryOperator}
use Rattle.cf_core.specs.declared.operators.UnaryOperator.TheVariants as sign
use Rattle.cf_core.specs.Types.{SourceType, void, integer, enumeration, class, pointer, reference, array, takes, gives as gives_type, data_member, function_member, const, is_void, is_array, plain, element}
use Rattle.cf_core.specs.Core.{item, past, field, within}
use Rattle.cf_core.specs.Places.{Route, Place, inner, type_at, bound}
use Rattle.cf_core.specs.Store.{Value, Nothing, Missing, Built, Number, Null, At, Code, DataMember, FunctionMember}
use Rattle.cf_core.specs.Run.{State, Act, ◌>>=◌, ◌>>◌, gives, need, valid, ok_or_act, null_used, not_alive, outside_array}
use Rattle.cf_core.specs.Access.{place_type, name_part}
use Rattle.cf_core.specs.Pointers.{Element, element_of, route_of, lone_bound, bound_of, further, up_to, moved_place, moved_value}
use Rattle.cf_core.specs.Scalars.{truth_of, operated, signed, decayed, pointed_to}
use Rattle.cf_core.specs.Calls.{Program}
use Rattle.cf_core.specs.Typing.{is_function, operated_type}
use Rattle.cf_core_sound.specs.Proper.{most, is_proper, shape}
use Rattle.cf_core_sound.specs.Values.{IsNear, IsPlace, Leads, IsOf}
use Rattle.cf_core_sound.specs.States.{Sound}
use Rattle.cf_core_sound.specs.Well.{Well}
use Rattle.cf_core_sound.proofs.Shapes.{at-proper, bound-near, Array, array-form}
use Rattle.cf_core_sound.proofs.Moments.{behind-self, place-later}
use Rattle.cf_core_sound.proofs.Access.{well-part}
use Rattle.cf_core_sound.proofs.Wells.{well-then, well-gives, well-at, well-need, well-valid, well-undefined}

-- ---- numbers

-- the type of an operator's result by its kind
pub result-type : (o : Arith) (k : Kind) → operated_type o k ≡ integer (result_kind o k)
result-type op.Multiply k = refl
result-type op.Divide k = refl
result-type op.Remainder k = refl
result-type op.Add k = refl
result-type op.Subtract k = refl
result-type op.ShiftLeft k = refl
result-type op.ShiftRight k = refl
result-type op.Less k = refl
result-type op.Greater k = refl
result-type op.LessEqual k = refl
result-type op.GreaterEqual k = refl
result-type op.Equal k = refl
result-type op.NotEqual k = refl
result-type op.And k = refl
result-type op.Xor k = refl
result-type op.Or k = refl

or-second : (a b : Bool) → b ≡ true → (a || b) ≡ true
or-second true b e = refl
or-second false b e = e

or-first : (a b : Bool) → a ≡ true → (a || b) ≡ true
or-first true b e = refl
or-first false b e = absurd (true≢false (sym e))

all-true : (a b : Bool) → a ≡ true → b ≡ true → (a && b) ≡ true
all-true true b e f = f
all-true false b e f = e

module _ (P : Program) (locals : List SourceType) where
  -- a value of an integer type
  abbrev pub IsNumber : Kind → Value → Type 0
  IsNumber k v = (z : ℤ) × (v ≡ Number z) × (fits k z ≡ true)

  well-result : (s : State) (o : Arith) (k : Kind) (a b : ℤ) → Sound P locals s → fits k a ≡ true → (r : Result ℤ ℕ) → int_op o k a b ≡ r
      → Well P locals s (λ v t. IsNumber (result_kind o k) v) (ok_or_act r >>= (λ z. gives (Number z)))
  well-result s o k a b h fa (Ok z) e = record { by = λ w bytes. record { by = (behind-self P locals s h, (z, refl, result-fits o k a b z fa e), bytes) } }
  well-result s o k a b h fa (Err n) e = record { by = λ w bytes. record { by = tt } }

  pub well-operated : (s : State) (o : Arith) (k : Kind) (a b : ℤ) → Sound P locals s → fits k a ≡ true → (is_shift o || fits k b) ≡ true
      → Well P locals s (λ v t. IsNumber (result_kind o k) v) (operated o k (Number a) (Number b))
  well-operated s o k a b h fa fb =
      well-valid P locals s (fits k a && (is_shift o || fits k b)) _ (all-true _ _ fa fb) (well-result s o k a b h fa (int_op o k a b) refl)

  pub well-signed : (s : State) (o : UnaryOperator) (k : Kind) (a : ℤ) → Sound P locals s → fits k a ≡ true → Well P locals s (λ v t. IsNumber k v) (signed o k (Number a))
  well-signed s sign.Negate k a h fa = well-operated s op.Subtract k (pos 0) a h (zero-fits k) (or-second (is_shift op.Subtract) (fits k a) fa)
  well-signed s sign.Complement k a h fa = well-operated s op.Xor k a (converted k (negsuc 0)) h fa (or-second (is_shift op.Xor) _ (convert-fits k (negsuc 0)))

  -- whether a value counts as true
  leads-truth : (s : State) (t : SourceType) (v : Value) → Sound P locals s → Leads P s t v → Well P locals s (λ b u. Unit {0}) (truth_of v)
  leads-truth s t Nothing h k = absurd k
  leads-truth s t Missing h k = absurd k
  leads-truth s t Built h k = absurd k
  leads-truth s t (Number z) h k = absurd k
  leads-truth s t Null h k = absurd k
  leads-truth s t (At p) h k = well-gives P locals s true h tt
  leads-truth s t (Code f) h k = well-gives P locals s true h tt
  leads-truth s t (DataMember path i) h k = absurd k
  leads-truth s t (FunctionMember path f) h k = absurd k

  number-truth : (s : State) (z : ℤ) → Sound P locals s → Well P locals s (λ b u. Unit {0}) (truth_of (Number z))
  number-truth s (pos zero) h = well-gives P locals s false h tt
  number-truth s (pos (suc n)) h = well-gives P locals s true h tt
  number-truth s (negsuc n) h = well-gives P locals s true h tt

  null-truth : (s : State) (v : Value) → Sound P locals s → v ≡ Null → Well P locals s (λ b u. Unit {0}) (truth_of v)
  null-truth s v h e = subst (λ x. Well P locals s (λ b u. Unit {0}) (truth_of x)) (sym e) (well-gives P locals s false h tt)

  numbers-truth : (s : State) (v : Value) (z : ℤ) → Sound P locals s → v ≡ Number z → Well P locals s (λ b u. Unit {0}) (truth_of v)
  numbers-truth s v z h e = subst (λ x. Well P locals s (λ b u. Unit {0}) (truth_of x)) (sym e) (number-truth s z h)

  pub well-truth : (s : State) (t : SourceType) (v : Value) → Sound P locals s → is_void t ≡ false → IsOf P s t v → Well P locals s (λ b u. Unit {0}) (truth_of v)
  well-truth s void v h n k = absurd (true≢false n)
  well-truth s (integer i) v h n k = numbers-truth s v k.0 h k.1
  well-truth s (enumeration e) v h n k = numbers-truth s v k.0 h k.1
  well-truth s (class c) v h n k = absurd k
  well-truth s (pointer t) v h n (inl e) = null-truth s v h e
  well-truth s (pointer t) v h n (inr k) = leads-truth s t v h k
  well-truth s (reference t) v h n k = leads-truth s t v h k
  well-truth s (array t m) v h n k = absurd k
  well-truth s (takes p t) v h n k = absurd k
  well-truth s (gives_type t c) v h n k = absurd k
  well-truth s (data_member c t) v h n k = null-truth s v h k
  well-truth s (function_member c t) v h n k = null-truth s v h k
  well-truth s (const t) v h n k = absurd k

  pub well-number-truth : (s : State) (v : Value) (z : ℤ) → Sound P locals s → v ≡ Number z → Well P locals s (λ b u. Unit {0}) (truth_of v)
  well-number-truth = numbers-truth

  -- ---- pointers into arrays

  element-type : (t : SourceType) (π : Route) (i : ℕ) → type_at [] t (route_of (element_of π) i) ≡ type_at [] t π
  element-type t [] zero = refl
  element-type t [] (suc i) = refl
  element-type t (item j ∷ π) i = refl
  element-type t (past ∷ π) zero = refl
  element-type t (past ∷ π) (suc i) = refl
  element-type t (field j ∷ π) zero = refl
  element-type t (field j ∷ π) (suc i) = refl
  element-type t (within r ∷ π) zero = refl
  element-type t (within r ∷ π) (suc i) = refl

  lone-near : (π : Route) → lone_bound π ≤ 1
  lone-near [] = omega arith
  lone-near (item i ∷ π) = omega arith
  lone-near (past ∷ π) = omega arith
  lone-near (field i ∷ π) = omega arith
  lone-near (within r ∷ π) = omega arith

  bound-of-near : (t : SourceType) (e : Element) → is_proper t ≡ true → bound_of [] t e ≤ most
  bound-of-near t e h = by_test e.is_lone
    where
      by_test : (b : Bool) → elim b as (λ c. ℕ) [ true ↦ lone_bound e.array | false ↦ bound (type_at [] t e.array) ] ≤ most
      by_test true = let near = lone-near e.array in omega (arith, near)
      by_test false = bound-near (type_at [] t e.array) (at-proper t e.array h)

  -- the elements that a route leads through
  pub near-index : (π : Route) → IsNear π → (element_of π).index ≤ most
  near-index [] k = omega arith
  near-index (item i ∷ π) k = k.0
  near-index (past ∷ π) k = omega arith
  near-index (field i ∷ π) k = omega arith
  near-index (within r ∷ π) k = omega arith

  near-moved : (π : Route) (i : ℕ) → i ≤ most → IsNear π → IsNear (route_of (element_of π) i)
  near-moved [] zero le k = k
  near-moved [] (suc i) le k = k
  near-moved (item j ∷ π) i le k = (le, k.1)
  near-moved (past ∷ π) zero le k = k
  near-moved (past ∷ π) (suc i) le k = k
  near-moved (field j ∷ π) zero le k = k
  near-moved (field j ∷ π) (suc i) le k = k
  near-moved (within r ∷ π) zero le k = k
  near-moved (within r ∷ π) (suc i) le k = k

  le-of : (i n : ℕ) → nat_le i n ≡ true → i ≤ n
  le-of i n e = grind (arith, nat_tests, e)

  well-up : (s : State) (n : ℕ) (x : Option ℕ) → Sound P locals s → Well P locals s (λ i t. i ≤ n) (up_to n x)
  well-up s n None h = well-undefined P locals s outside_array
  well-up s n (Some i) h = well-need P locals s (nat_le i n) outside_array (gives i) (λ e. well-gives P locals s i h (le-of i n e))

  pub well-moved-place : (s : State) (t : SourceType) (p : Place) (z : ℤ) → Sound P locals s → is_function t ≡ false → IsPlace s t p
      → Well P locals s (λ v u. Leads P u t v) (moved_place [] p z)
  well-moved-place s t p z h n k =
      well-at P locals s
      (λ s. need (not (s.object p.object).is_gone) not_alive
      >> (up_to (bound_of [] (s.object p.object).type (element_of p.route)) (further (element_of p.route).index z)
      >>= (λ i. gives (At (record p { route = route_of (element_of p.route) i }))))) h
      (well-need P locals s _ not_alive _ (λ _.
      well-then P locals s (up_to (bound_of [] (s.object p.object).type (element_of p.route)) (further (element_of p.route).index z)) _
      (well-up s (bound_of [] (s.object p.object).type (element_of p.route)) (further (element_of p.route).index z) h)
      (λ i u b le.
      let q : IsPlace u t p = place-later s u t p b.later k in
      let near = bound-of-near (s.object p.object).type (element_of p.route) (h.proper p.object k.below) in
      let there : IsPlace u t (record p { route = route_of (element_of p.route) i }) =
      record { below = q.below; same = moved_same u i q.same; near = near-moved p.route i (omega (arith, le, near)) q.near } in
      let last : Well P locals u (λ v u. Leads P u t v) (gives (At (record p { route = route_of (element_of p.route) i }))) =
      well-gives P locals u (At (record p { route = route_of (element_of p.route) i })) b.sound (n, there) in
      last)))
    where
      moved_same : (u : State) (i : ℕ) → (is_void t ≡ true) ⊎ (shape (type_at [] (u.object p.object).type p.route) ≡ t)
          → (is_void t ≡ true) ⊎ (shape (type_at [] (u.object p.object).type (route_of (element_of p.route) i)) ≡ t)
      moved_same u i (inl e) = inl e
      moved_same u i (inr e) = inr (ap shape (element-type (u.object p.object).type p.route i) ∙ e)

  -- a pointer to an object is null or a place
  pub data ObjectPointer (s : State) (t : SourceType) (v : Value) : Type 0 where
    a_null : v ≡ Null → ObjectPointer s t v
    a_place : (p : Place) → v ≡ At p → IsPlace s t p → ObjectPointer s t v

  object-leads : (s : State) (t : SourceType) (v : Value) → is_function t ≡ false → Leads P s t v → ObjectPointer s t v
  object-leads s t Nothing n k = absurd k
  object-leads s t Missing n k = absurd k
  object-leads s t Built n k = absurd k
  object-leads s t (Number z) n k = absurd k
  object-leads s t Null n k = absurd k
  object-leads s t (At p) n k = a_place p refl k.1
  object-leads s t (Code f) n k = absurd (true≢false (sym k.0 ∙ n))
  object-leads s t (DataMember path i) n k = absurd k
  object-leads s t (FunctionMember path f) n k = absurd k

  pub object-pointer : (s : State) (t : SourceType) (v : Value) → is_function t ≡ false → IsOf P s (pointer t) v → ObjectPointer s t v
  object-pointer s t v n (inl e) = a_null e
  object-pointer s t v n (inr k) = object-leads s t v n k

  -- an act of two values that moves a pointer by a number
  pub well-moves : (s : State) (t : SourceType) (go : Value → Value → Act Value) (v w : Value) (z y : ℤ) → Sound P locals s → is_function t ≡ false
      → IsOf P s (pointer t) v → w ≡ Number z → ((p : Place) → go (At p) (Number z) ≡ moved_value [] (At p) y) → go Null (Number z) ≡ moved_value [] Null y
      → Well P locals s (λ v u. Leads P u t v) (go v w)
  well-moves s t go v w z y h n k e at_place at_null = subst (λ x. Well P locals s (λ v u. Leads P u t v) (go v x)) (sym e) (by_view (object-pointer s t v n k))
    where
      by_view : ObjectPointer s t v → Well P locals s (λ v u. Leads P u t v) (go v (Number z))
      by_view (a_null f) = subst (λ x. Well P locals s (λ v u. Leads P u t v) (go x (Number z))) (sym f)
          (subst (λ act. Well P locals s (λ v u. Leads P u t v) act) (sym at_null) (well-undefined P locals s null_used))
      by_view (a_place p f i) = subst (λ x. Well P locals s (λ v u. Leads P u t v) (go x (Number z))) (sym f)
          (subst (λ act. Well P locals s (λ v u. Leads P u t v) act) (sym (at_place p)) (well-moved-place s t p y h n i))

  -- ---- an array's first element, and what a pointer points to

  pub well-decayed : (s : State) (t : SourceType) (v : Value) → Sound P locals s → is_function t ≡ false → Leads P s (array t 0) v
      → Well P locals s (λ v u. IsOf P u (pointer t) v) (decayed [] v)
  well-decayed s t Nothing h n k = absurd k
  well-decayed s t Missing h n k = absurd k
  well-decayed s t Built h n k = absurd k
  well-decayed s t (Number z) h n k = absurd k
  well-decayed s t Null h n k = absurd k
  well-decayed s t (At p) h n k = by_same k.1.same
    where
      by_form : Array (place_type [] s p) t → Well P locals s (λ v u. IsOf P u (pointer t) v) (decayed [] (At p))
      by_form a =
          well-at P locals s (λ s. valid (is_array (place_type [] s p)) >> (name_part [] p >> gives (At (inner (item 0) p)))) h
          (well-valid P locals s (is_array (place_type [] s p)) (name_part [] p >> gives (At (inner (item 0) p))) (ap is_array a.is)
          (well-part P locals s p (gives (At (inner (item 0) p))) (well-gives P locals s (At (inner (item 0) p)) h (inr (
            n,
            record {
              below = k.1.below;
              same = inr (ap (λ u. shape (element (plain u))) a.is ∙ a.same);
              near = (omega arith, k.1.near);
            },
          )))))

      by_same : (is_void (array t 0) ≡ true) ⊎ (shape (type_at [] (s.object p.object).type p.route) ≡ array t 0) → Well P locals s (λ v u. IsOf P u (pointer t) v) (decayed [] (At p))
      by_same (inl e) = absurd (true≢false (sym e))
      by_same (inr e) = by_form (array-form (place_type [] s p) t (at-proper (s.object p.object).type p.route (h.proper p.object k.1.below)) e)
  well-decayed s t (Code f) h n k = absurd (true≢false (sym k.0))
  well-decayed s t (DataMember path i) h n k = absurd k
  well-decayed s t (FunctionMember path f) h n k = absurd k

  -- a function stays itself
  pub well-decayed-function : (s : State) (t : SourceType) (v : Value) → Sound P locals s → is_function t ≡ true → Leads P s t v
      → Well P locals s (λ v u. IsOf P u (pointer t) v) (decayed [] v)
  well-decayed-function s t Nothing h n k = absurd k
  well-decayed-function s t Missing h n k = absurd k
  well-decayed-function s t Built h n k = absurd k
  well-decayed-function s t (Number z) h n k = absurd k
  well-decayed-function s t Null h n k = absurd k
  well-decayed-function s t (At p) h n k = absurd (true≢false (sym n ∙ k.0))
  well-decayed-function s t (Code f) h n k = well-gives P locals s (Code f) h (inr k)
  well-decayed-function s t (DataMember path i) h n k = absurd k
  well-decayed-function s t (FunctionMember path f) h n k = absurd k

  leads-pointed : (s : State) (t : SourceType) (v : Value) → Sound P locals s → Leads P s t v → Well P locals s (λ v u. Leads P u t v) (pointed_to v)
  leads-pointed s t Nothing h k = absurd k
  leads-pointed s t Missing h k = absurd k
  leads-pointed s t Built h k = absurd k
  leads-pointed s t (Number z) h k = absurd k
  leads-pointed s t Null h k = absurd k
  leads-pointed s t (At p) h k = well-gives P locals s (At p) h k
  leads-pointed s t (Code f) h k = well-gives P locals s (Code f) h k
  leads-pointed s t (DataMember path i) h k = absurd k
  leads-pointed s t (FunctionMember path f) h k = absurd k

  pub well-pointed : (s : State) (t : SourceType) (v : Value) → Sound P locals s → IsOf P s (pointer t) v → Well P locals s (λ v u. Leads P u t v) (pointed_to v)
  well-pointed s t v h (inl e) = subst (λ x. Well P locals s (λ v u. Leads P u t v) (pointed_to x)) (sym e) (well-undefined P locals s null_used)
  well-pointed s t v h (inr k) = leads-pointed s t v h k

  -- ---- a place

  leads-place : (s : State) (t : SourceType) (v : Value) → is_function t ≡ false → Leads P s t v → (p : Place) × (v ≡ At p) × IsPlace s t p
  leads-place s t Nothing n k = absurd k
  leads-place s t Missing n k = absurd k
  leads-place s t Built n k = absurd k
  leads-place s t (Number z) n k = absurd k
  leads-place s t Null n k = absurd k
  leads-place s t (At p) n k = (p, refl, k.1)
  leads-place s t (Code f) n k = absurd (true≢false (sym k.0 ∙ n))
  leads-place s t (DataMember path i) n k = absurd k
  leads-place s t (FunctionMember path f) n k = absurd k

  pub place-led : (s : State) (t : SourceType) (v : Value) → is_function t ≡ false → Leads P s t v → (p : Place) × (v ≡ At p) × IsPlace s t p
  place-led = leads-place
