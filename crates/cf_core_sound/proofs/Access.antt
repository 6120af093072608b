-- Reading, writing and filling places, and the objects that are made, from a sound moment.
use Rattle.std.proofs.Common.{◌≡◌, ℕ, ◌<◌, Bool, true, false, not, List, [], ◌∷◌, ◌++◌, pos, ◌⊎◌, inl, inr, refl, sym, ap, ◌∙◌, subst, true≢false, arith}
use Rattle.std.specs.Prelude.{Option, Some, None, option_map, is_some}
use Rattle.cf_base.specs.World.{World, and_then}
use Rattle.cf_core.specs.Types.{SourceType, void, integer, enumeration, class, pointer, reference, array, takes, gives as gives_type, data_member, function_member, const, is_void}
use Rattle.cf_core.specs.Core.{Part}
use Rattle.cf_core.specs.Places.{Route, Place, type_at, is_scalar, is_reference, route_eq, beyond, is_inside}
use Rattle.cf_core.specs.Store.{Value, Nothing, Missing, Built, Number, Null, At, Code, DataMember, FunctionMember, Object, automatic, new_object, hold, hold_all, from_part, zero_of, is_usable, is_constant_place}
use Rattle.cf_core.specs.Run.{State, Act, upd, ◌>>=◌, ◌>>◌, gives, malformed, undefined, state, need, valid, some_or, when, onward, object_changed, born, declared_object, not_alive, outside_array, no_value, write_to_const}
use Rattle.cf_core.specs.Access.{place_type, used, names_scalar, use_place, name_part, read_place, write_place, first_value, fill_zeros}
use Rattle.cf_core.specs.Calls.{Program, root}
use Rattle.cf_core.specs.Objects.{settle}
use Rattle.cf_lower_layout.proofs.Parts.{same-route, route-self}
use Rattle.cf_elab_numbers.proofs.Fits.{zero-fits}
use Rattle.cf_core_sound.specs.Proper.{is_proper, Whole, shape}
use Rattle.cf_core_sound.specs.Values.{IsPlace, Leads, IsOf}
use Rattle.cf_core_sound.specs.States.{Sound, Later}
use Rattle.cf_core_sound.specs.Well.{OfBytes, Ends, Well}
use Rattle.cf_core_sound.proofs.Shapes.{scalar-shape, void-shape, at-whole}
use Rattle.cf_core_sound.proofs.States.{HoldsOf, object-behind, new-behind, upd-there}
use Rattle.cf_core_sound.proofs.Wells.{well-gives, well-at, well-need, well-as}

-- ---- values that are used

scalar_form : (t : SourceType) (e : is_scalar t ≡ true) → is_void t ≡ false
scalar_form void e = absurd (true≢false (sym e))
scalar_form (integer k) e = refl
scalar_form (enumeration n) e = refl
scalar_form (class c) e = refl
scalar_form (pointer t) e = refl
scalar_form (reference t) e = refl
scalar_form (array t n) e = refl
scalar_form (takes p t) e = refl
scalar_form (gives_type t c) e = refl
scalar_form (data_member c t) e = refl
scalar_form (function_member c t) e = refl
scalar_form (const t) e = scalar_form t e

pub scalar-no-void : (t : SourceType) → is_scalar t ≡ true → is_void t ≡ false
scalar-no-void = scalar_form

module _ (P : Program) (s : State) where
  pub leads-used : (t : SourceType) (v : Value) → Leads P s t v → used v ≡ gives v
  leads-used t Nothing k = absurd k
  leads-used t Missing k = absurd k
  leads-used t Built k = absurd k
  leads-used t (Number z) k = absurd k
  leads-used t Null k = absurd k
  leads-used t (At p) k = refl
  leads-used t (Code f) k = refl
  leads-used t (DataMember path i) k = absurd k
  leads-used t (FunctionMember path f) k = absurd k

  pub is-used : (t : SourceType) (v : Value) → is_void t ≡ false → IsOf P s t v → used v ≡ gives v
  is-used void v n k = absurd (true≢false n)
  is-used (integer i) v n k = subst (λ u. used u ≡ gives u) (sym k.1) refl
  is-used (enumeration e) v n k = subst (λ u. used u ≡ gives u) (sym k.1) refl
  is-used (class c) v n k = absurd k
  is-used (pointer t) v n (inl e) = subst (λ u. used u ≡ gives u) (sym e) refl
  is-used (pointer t) v n (inr k) = leads-used t v k
  is-used (reference t) v n k = leads-used t v k
  is-used (array t m) v n k = absurd k
  is-used (takes p t) v n k = absurd k
  is-used (gives_type t c) v n k = absurd k
  is-used (data_member c t) v n k = subst (λ u. used u ≡ gives u) (sym k) refl
  is-used (function_member c t) v n k = subst (λ u. used u ≡ gives u) (sym k) refl
  is-used (const t) v n k = absurd k

  pub not-built : (t : SourceType) → IsOf P s t Built → ⊥
  not-built void k = absurd (cc)
  not-built (integer i) k = let e = k.1 in absurd (cc)
  not-built (enumeration c) k = let e = k.1 in absurd (cc)
  not-built (class c) k = k
  not-built (pointer t) (inl e) = absurd (cc)
  not-built (pointer t) (inr k) = k
  not-built (reference t) k = k
  not-built (array t m) k = k
  not-built (takes p t) k = k
  not-built (gives_type t c) k = k
  not-built (data_member c t) k = absurd (cc)
  not-built (function_member c t) k = absurd (cc)
  not-built (const t) k = k

  -- what static storage holds
  pub zero-of : (t : SourceType) → is_scalar t ≡ true → is_reference t ≡ false → IsOf P s (shape t) (zero_of t)
  zero-of void e n = absurd (true≢false (sym e))
  zero-of (integer k) e n = (pos 0, refl, zero-fits k)
  zero-of (enumeration c) e n = (pos 0, refl, refl)
  zero-of (class c) e n = absurd (true≢false (sym e))
  zero-of (pointer t) e n = inl refl
  zero-of (reference t) e n = absurd (true≢false n)
  zero-of (array t m) e n = absurd (true≢false (sym e))
  zero-of (takes p t) e n = absurd (true≢false (sym e))
  zero-of (gives_type t c) e n = absurd (true≢false (sym e))
  zero-of (data_member c t) e n = refl
  zero-of (function_member c t) e n = refl
  zero-of (const t) e n = zero-of t e n

-- ---- routes

some-route : {σ τ : Route} → Some σ ≡ Some τ → σ ≡ τ
some-route e = cc

none-some : {σ : Route} → None ≡ Some σ → ⊥
none-some e = absurd (cc)

tail-some : (s : Part) (π ρ σ : Route) → ((τ : Route) → beyond π ρ ≡ Some τ → π ≡ τ ++ ρ) → beyond (s ∷ π) ρ ≡ Some σ → s ∷ π ≡ σ ++ ρ
tail-some s π ρ σ of-tail = by_test (route_eq (s ∷ π) ρ) refl
  where
    by_tail : (o : Option Route) → beyond π ρ ≡ o → option_map (λ (r : Route). s ∷ r) o ≡ Some σ → s ∷ π ≡ σ ++ ρ
    by_tail None e k = absurd (none-some k)
    by_tail (Some τ) e k = ap (λ r. s ∷ r) (of-tail τ e) ∙ ap (λ r. r ++ ρ) (some-route k)

    by_test : (b : Bool) → route_eq (s ∷ π) ρ ≡ b → beyond (s ∷ π) ρ ≡ Some σ → s ∷ π ≡ σ ++ ρ
    by_test true e = rw e (λ k. same-route (s ∷ π) ρ e ∙ ap (λ τ. τ ++ ρ) (some-route k))
    by_test false e = rw e (λ k. by_tail (beyond π ρ) refl k)

beyond-some : (π ρ σ : Route) → beyond π ρ ≡ Some σ → π ≡ σ ++ ρ
beyond-some [] ρ σ = by_test (route_eq [] ρ) refl
  where
    by_test : (b : Bool) → route_eq [] ρ ≡ b → beyond [] ρ ≡ Some σ → [] ≡ σ ++ ρ
    by_test true e = rw e (λ k. same-route [] ρ e ∙ ap (λ τ. τ ++ ρ) (some-route k))
    by_test false e = rw e (λ k. absurd (none-some k))
beyond-some (s ∷ π) ρ σ = tail-some s π ρ σ (λ τ e. beyond-some π ρ τ e)

at-append : (t : SourceType) (σ π : Route) → type_at [] t (σ ++ π) ≡ type_at [] (type_at [] t π) σ
at-append t [] π = refl
at-append t (s ∷ σ) π = ap (λ u. type_at [] u (s ∷ [])) (at-append t σ π)

-- ---- a place that is built: of just this type

pub record Target (s : State) (t : SourceType) (p : Place) : Type 0 where
  pub below : p.object < s.next
  pub is : type_at [] (s.object p.object).type p.route ≡ t

pub target-later : (s t : State) (a : SourceType) (p : Place) → Later s t → Target s a p → Target t a p
target-later s t a p h k = record {
  below = let lt = k.below in let le = h.next in omega (arith, lt, le);
  is = ap (λ u. type_at [] u p.route) (h.types p.object k.below) ∙ k.is;
}

module _ (P : Program) (locals : List SourceType) where
  -- ---- objects that are made

  pub well-born : (s : State) (x : Object) → Sound P locals s → is_proper x.type ≡ true → HoldsOf P s x
      → Well P locals s (λ o t. (o < t.next) × (t.object o ≡ x)) (born x)
  well-born s x h proper holds = record { by = λ w bytes. record { by = (new-behind P locals s h x proper holds, (omega arith, upd-there s.next x s.object), bytes) } }

  pub well-declared : (s : State) (t : SourceType) → Sound P locals s → is_proper t ≡ true → Well P locals s (λ o u. Target u t (root o)) (declared_object t)
  well-declared s t h proper = record {
    by = λ w bytes. record {
      by = (
        new-behind P locals s h (new_object t automatic) proper (λ π v sc e. absurd (cc)),
        record { below = omega arith; is = ap (λ (x : Object). x.type) (upd-there s.next (new_object t automatic) s.object) },
        bytes,
      );
    };
  }

  -- ---- places that are used

  well-two : {B : Type 0} {R : B → State → Type 0} (s : State) (b c : Bool) (m n : ℕ) (next : Act B) (w : World) (bytes : OfBytes w.input) → Well P locals s R next
      → Ends P locals s R (and_then (and_then (need b m s w) (λ did w. onward did (λ _. need c n) w)) (λ did w. onward did (λ _. next) w))
  well-two s true true m n next w bytes k = k.by w bytes
  well-two s true false m n next w bytes k = record { by = tt }
  well-two s false c m n next w bytes k = record { by = tt }

  pub well-use : {B : Type 0} {R : B → State → Type 0} (s : State) (p : Place) (next : Act B) → Well P locals s R next → Well P locals s R (use_place [] p >> next)
  well-use s p next k = record {
    by = λ w bytes. well-two s (is_inside [] (s.object p.object).type p.route) (is_usable [] (s.object p.object) p.route) outside_array not_alive next w bytes k;
  }

  well-one : {B : Type 0} {R : B → State → Type 0} (s : State) (b : Bool) (m : ℕ) (next : Act B) (w : World) (bytes : OfBytes w.input) → Well P locals s R next
      → Ends P locals s R (and_then (need b m s w) (λ did w. onward did (λ _. next) w))
  well-one s true m next w bytes k = k.by w bytes
  well-one s false m next w bytes k = record { by = tt }

  pub well-part : {B : Type 0} {R : B → State → Type 0} (s : State) (p : Place) (next : Act B) → Well P locals s R next → Well P locals s R (name_part [] p >> next)
  well-part s p next k = record { by = λ w bytes. well-one s (is_inside [] (s.object p.object).type p.route) outside_array next w bytes k }

  well-true : {B : Type 0} {R : B → State → Type 0} (s : State) (b : Bool) (next : Act B) (w : World) (bytes : OfBytes w.input) → b ≡ true → Well P locals s R next
      → Ends P locals s R (and_then (valid b s w) (λ did w. onward did (λ _. next) w))
  well-true s true next w bytes e k = k.by w bytes
  well-true s false next w bytes e k = absurd (true≢false (sym e))

  pub well-names : {B : Type 0} {R : B → State → Type 0} (s : State) (p : Place) (next : Act B) → is_scalar (place_type [] s p) ≡ true
      → Well P locals s R next → Well P locals s R (names_scalar [] p >> next)
  well-names s p next e k = record { by = λ w bytes. well-true s (is_scalar (place_type [] s p)) next w bytes e k }

  -- ---- reading and writing

  -- the type of a place, where it isn't void
  place-shape : (s : State) (t : SourceType) (p : Place) → is_void t ≡ false → IsPlace s t p → shape (place_type [] s p) ≡ t
  place-shape s t p n k = by_case k.same
    where
      by_case : (is_void t ≡ true) ⊎ (shape (place_type [] s p) ≡ t) → shape (place_type [] s p) ≡ t
      by_case (inl e) = absurd (true≢false (sym e ∙ n))
      by_case (inr e) = e

  pub place-scalar : (s : State) (t : SourceType) (p : Place) → is_scalar t ≡ true → IsPlace s (shape t) p → (shape (place_type [] s p) ≡ shape t) × (is_scalar (place_type [] s p) ≡ true)
  place-scalar s t p e k =
      let same : shape (place_type [] s p) ≡ shape t = place-shape s (shape t) p (void-shape t ∙ scalar-no-void t e) k in
      (same, sym (scalar-shape (place_type [] s p)) ∙ ap is_scalar same ∙ scalar-shape t ∙ e)

  well-held : (s : State) (t : SourceType) (p : Place) → Sound P locals s → p.object < s.next → shape (place_type [] s p) ≡ shape t → is_scalar (place_type [] s p) ≡ true
      → (x : Option Value) → (s.object p.object).held p.route ≡ x → Well P locals s (λ v u. IsOf P u (shape t) v) (some_or x (undefined no_value))
  well-held s t p h lt same e None k = record { by = λ w bytes. record { by = tt } }
  well-held s t p h lt same e (Some v) k = well-gives P locals s v h (subst (λ a. IsOf P s a v) same (h.holds p.object p.route v lt e k))

  pub well-read : (s : State) (t : SourceType) (p : Place) → Sound P locals s → is_scalar t ≡ true → IsPlace s (shape t) p
      → Well P locals s (λ v u. IsOf P u (shape t) v) (read_place [] p)
  well-read s t p h e k =
      let both = place-scalar s t p e k in
      well-names s p _ both.1 (well-use s p _ (well-at P locals s (λ s. some_or ((s.object p.object).held p.route) (undefined no_value)) h
      (well-held s t p h k.below both.0 both.1 ((s.object p.object).held p.route) refl)))

  -- a value is held at a route
  hold-holds : (s : State) (o : ℕ) (π : Route) (v : Value) → Sound P locals s → IsOf P s (shape (type_at [] (s.object o).type π)) v → o < s.next → HoldsOf P s (hold π (Some v) (s.object o))
  hold-holds s o π v h k lt ρ u sc = by_test (route_eq ρ π) refl
    where
      of-some : (a b : Value) → Some a ≡ Some b → a ≡ b
      of-some a b e = cc

      by_test : (b : Bool) → route_eq ρ π ≡ b → (hold π (Some v) (s.object o)).held ρ ≡ Some u → IsOf P s (shape (type_at [] (s.object o).type ρ)) u
      by_test true e = rw e (λ same.
          subst (λ x. IsOf P s (shape (type_at [] (s.object o).type ρ)) x) (of-some v u same)
          (subst (λ r. IsOf P s (shape (type_at [] (s.object o).type r)) v) (sym (same-route ρ π e)) k))
      by_test false e = rw e (λ same. h.holds o ρ u lt sc same)

  -- the first value of a place: it holds one then
  pub well-first-held : (s : State) (p : Place) (v : Value) → Sound P locals s → IsOf P s (shape (place_type [] s p)) v
      → Well P locals s (λ _ t. is_some ((t.object p.object).held p.route) ≡ true) (first_value p v)
  well-first-held s p v h k = record {
    by = λ w bytes. record { by = (object-behind P locals s h p.object (hold p.route (Some v)) refl (hold-holds s p.object p.route v h k), held, bytes) };
  }
    where
      there : is_some ((hold p.route (Some v) (s.object p.object)).held p.route) ≡ true
      there = rw (route-self p.route) refl

      held : is_some ((upd p.object (hold p.route (Some v) (s.object p.object)) s.object p.object).held p.route) ≡ true
      held = ap (λ (x : Object). is_some (x.held p.route)) (upd-there p.object (hold p.route (Some v) (s.object p.object)) s.object) ∙ there

  pub well-first : (s : State) (p : Place) (v : Value) → Sound P locals s → IsOf P s (shape (place_type [] s p)) v → Well P locals s (λ _ t. Unit {0}) (first_value p v)
  well-first s p v h k = well-as P locals s (first_value p v) (well-first-held s p v h k) (λ _ t b e. tt)

  pub well-write : (s : State) (t : SourceType) (p : Place) (v : Value) → Sound P locals s → is_scalar t ≡ true → IsPlace s (shape t) p → IsOf P s (shape t) v
      → Well P locals s (λ _ u. Unit {0}) (write_place [] p v)
  well-write s t p v h e k i =
      let both = place-scalar s t p e k in
      well-names s p _ both.1 (well-use s p _ (well-at P locals s (λ s. need (not (is_constant_place [] (s.object p.object) p.route)) write_to_const >> object_changed p.object (hold p.route (Some v))) h
      (well-need P locals s _ write_to_const _ (λ _. well-first s p v h (subst (λ a. IsOf P s a v) (sym both.0) i)))))

  -- every scalar in a place is 0 or null
  zero-holds : (s : State) (p : Place) → Sound P locals s → Whole (place_type [] s p) → p.object < s.next
      → HoldsOf P s (hold_all p.route (λ r. Some (zero_of (type_at [] (s.object p.object).type (r ++ p.route)))) (s.object p.object))
  zero-holds s p h whole lt ρ v sc = by_rest (beyond ρ p.route) refl
    where
      root_type : SourceType
      root_type = (s.object p.object).type

      of-some : (a b : Value) → Some a ≡ Some b → a ≡ b
      of-some a b e = cc

      by_rest : (o : Option Route) → beyond ρ p.route ≡ o → from_part (λ r. Some (zero_of (type_at [] (s.object p.object).type (r ++ p.route)))) (beyond ρ p.route) ((s.object p.object).held ρ) ≡ Some v
          → IsOf P s (shape (type_at [] (s.object p.object).type ρ)) v
      by_rest None e = rw e (λ k. h.holds p.object ρ v lt sc k)
      by_rest (Some σ) e = rw e (λ k.
          let way : ρ ≡ σ ++ p.route = beyond-some ρ p.route σ e in
          let no : is_reference (type_at [] (s.object p.object).type ρ) ≡ false =
          ap (λ r. is_reference (type_at [] (s.object p.object).type r)) way ∙ ap is_reference (at-append (s.object p.object).type σ p.route) ∙ (at-whole (place_type [] s p) σ whole).no_reference in
          let zero : IsOf P s (shape (type_at [] (s.object p.object).type ρ)) (zero_of (type_at [] (s.object p.object).type ρ)) = zero-of P s (type_at [] (s.object p.object).type ρ) sc no in
          subst (λ x. IsOf P s (shape (type_at [] (s.object p.object).type ρ)) x) (ap (λ r. zero_of (type_at [] (s.object p.object).type r)) way ∙ of-some _ v k) zero)

  pub well-zeros : (s : State) (p : Place) → Sound P locals s → Whole (place_type [] s p) → Well P locals s (λ _ t. Unit {0}) (fill_zeros [] p)
  well-zeros s p h whole = well-at P locals s (λ s. object_changed p.object (hold_all p.route (λ r. Some (zero_of (type_at [] (s.object p.object).type (r ++ p.route)))))) h (record {
    by = λ w bytes. record { by = (object-behind P locals s h p.object (hold_all p.route (λ r. Some (zero_of (type_at [] (s.object p.object).type (r ++ p.route))))) refl (zero-holds s p h whole), tt, bytes) };
  })

  -- ---- a value is settled at its place

  settle-first : (p : Place) (v : Value) → (v ≡ Built → ⊥) → settle [] p v ≡ (state >>= (λ s. when (is_scalar (place_type [] s p)) (used v >>= first_value p) malformed))
  settle-first p Nothing n = refl
  settle-first p Missing n = refl
  settle-first p Built n = absurd (n refl)
  settle-first p (Number z) n = refl
  settle-first p Null n = refl
  settle-first p (At q) n = refl
  settle-first p (Code f) n = refl
  settle-first p (DataMember path i) n = refl
  settle-first p (FunctionMember path f) n = refl

  -- an initialiser's value: the place is built, or a scalar of its type
  pub Started : State → SourceType → Value → Type 0
  Started s t v = (v ≡ Built) ⊎ ((is_scalar t ≡ true) × ((v ≡ Missing) ⊎ IsOf P s (shape t) v))

  well-missing : {Q : Unit {0} → State → Type 0} (s : State) (p : Place) → Sound P locals s → is_scalar (place_type [] s p) ≡ true → Well P locals s Q (settle [] p Missing)
  well-missing {Q} s p h e = well-at P locals s (λ s. when (is_scalar (place_type [] s p)) (used Missing >>= first_value p) malformed) h
      (subst (λ b. Well P locals s Q (when b (used Missing >>= first_value p) malformed)) (sym e) (record { by = λ w bytes. record { by = tt } }))

  -- a scalar's value is settled: it holds one then
  pub well-settle-scalar : (s : State) (t : SourceType) (p : Place) (v : Value) → Sound P locals s → Target s t p → is_scalar t ≡ true → (v ≡ Missing) ⊎ IsOf P s (shape t) v
      → Well P locals s (λ _ u. is_some ((u.object p.object).held p.route) ≡ true) (settle [] p v)
  well-settle-scalar s t p v h at k (inl e) =
      subst (λ x. Well P locals s (λ _ u. is_some ((u.object p.object).held p.route) ≡ true) (settle [] p x)) (sym e) (well-missing s p h (ap is_scalar at.is ∙ k))
  well-settle-scalar s t p v h at k (inr i) =
      let taken : used v ≡ gives v = is-used P s (shape t) v (void-shape t ∙ scalar-no-void t k) i in
      subst (λ act. Well P locals s (λ _ u. is_some ((u.object p.object).held p.route) ≡ true) act)
      (sym (settle-first p v (λ e. not-built P s (shape t) (subst (λ x. IsOf P s (shape t) x) e i))))
      (well-at P locals s (λ s. when (is_scalar (place_type [] s p)) (used v >>= first_value p) malformed) h
      (subst (λ b. Well P locals s (λ _ u. is_some ((u.object p.object).held p.route) ≡ true) (when b (used v >>= first_value p) malformed)) (sym (ap is_scalar at.is ∙ k))
      (subst (λ (act : Act Value). Well P locals s (λ _ u. is_some ((u.object p.object).held p.route) ≡ true) (act >>= first_value p)) (sym taken)
      (record { by = λ w bytes. (well-first-held s p v h (subst (λ a. IsOf P s (shape a) v) (sym at.is) i)).by w bytes }))))

  pub well-settle : (s : State) (t : SourceType) (p : Place) (v : Value) → Sound P locals s → Target s t p → Started s t v → Well P locals s (λ _ u. Unit {0}) (settle [] p v)
  unfolding Started
  well-settle s t p v h at (inl e) = subst (λ x. Well P locals s (λ _ u. Unit {0}) (settle [] p x)) (sym e) (well-gives P locals s tt h tt)
  well-settle s t p v h at (inr k) = well-as P locals s (settle [] p v) (well-settle-scalar s t p v h at k.0 k.1) (λ _ u b e. tt)
