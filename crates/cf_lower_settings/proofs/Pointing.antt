-- Pointers of an initialiser that move, decay and change their types are where it is known that they are.
use Rattle.std.proofs.Common.{◌≡◌, ℕ, ◌<◌, Bool, true, false, not, [], ℤ, pos, negsuc, neg_ℤ, zero, suc, Option, Some, None, refl, ap, sym, subst, ◌∙◌, ◌⊎◌, inl, inr}
use Rattle.std.specs.Prelude.{nat_le}
use Rattle.std.proofs.lemmas.Bool.{true≢false, or_cases}
use Rattle.cf_base.proofs.Tests.{both}
use Rattle.cf_base.specs.World.{World, Ran, Went, Stops}
use Rattle.cf_base.specs.Event.{Undefined}
use Rattle.cf_core.specs.declared.operators.PointerOperator.TheVariants as pointer_operator
use Rattle.cf_core.specs.Types.{Name, SourceType, void, is_array, is_void, plain, element, type_eq, without_const, same_but_const}
use Rattle.cf_core.specs.Core.{item}
use Rattle.cf_core.specs.Places.{Place, inner, is_inside, type_at}
use Rattle.cf_core.specs.Pointers.{element_of, route_of, bound_of, further, up_to, moved_value, moved_back, pointer_op, sum_of, from_void_value}
use Rattle.cf_core.specs.Size.{size}
use Rattle.cf_core.specs.Store as source
use Rattle.cf_core.specs.Run.{State, Did, Malformed, ◌>>=◌, ◌>>◌, gives, need}
use Rattle.cf_core.specs.Access.{place_type, used}
use Rattle.cf_core.specs.Scalars.{as_pointer, indexed, decayed, pointed_to}
use Rattle.cf_core.specs.Calls.{Program}
use Rattle.cf_lower_layout.specs.Layout.{LaidOut, const_once}
use Rattle.cf_lower_layout.specs.Sorts.{Sort, number, address, code}
use Rattle.cf_lower_layout.proofs.Types.{same-type, same-without_const, without-twice}
use Rattle.cf_lower_layout.proofs.Laid.{size-without}
use Rattle.cf_lower.specs.Constants as constants
use Rattle.cf_lower.specs.Constants.{Known, unknown, a_number, null, at, a_function, converted_known, sum, pointer_known}
use Rattle.cf_lower_steps.proofs.Tests.{test-valid, test-need}
use Rattle.cc_whole_mean.specs.Scope.{Scope}
use Rattle.cf_lower_relate.specs.Map.{Map}
use Rattle.cf_lower_program.specs.Alike.{Fact, left, left_of, left_behind, sum_fact, pointer_fact, decayed_fact, points_as, decays, moves, moves_by, is_pointed}
use Rattle.cf_lower_program.specs.Starts.{is_known}
use Rattle.cf_lower_settings.proofs.Runs.{GivesAs}
use Rattle.cf_lower_settings.proofs.Places.{byte_of, moved-to, first-at}
use Rattle.cf_lower_settings.proofs.Known.{IsAt, KnownAs, at-itself, at-type, function-itself}

no-not : (b : Bool) → not b ≡ true → b ≡ false
no-not true e = absurd (cc)
no-not false e = refl

-- a pointer to a place of one type, taken as one to another
pub points-type : (t u w : SourceType) → points_as t u ≡ true → (t ≡ void) ⊎ (w ≡ without_const t) → (u ≡ void) ⊎ (w ≡ u)
points-type t u w e h = go (or_cases (type_eq u void) (type_eq (without_const t) u) e) h
  where
    go : (type_eq u void ≡ true) ⊎ (type_eq (without_const t) u ≡ true) → (t ≡ void) ⊎ (w ≡ without_const t) → (u ≡ void) ⊎ (w ≡ u)
    go (inl v) h = inl (same-type u void v)
    go (inr v) (inl k) = inl (sym (same-type (without_const t) u v) ∙ ap without_const k)
    go (inr v) (inr k) = inr (k ∙ same-type (without_const t) u v)

twice : (t u w : SourceType) → points_as t u ≡ true → (t ≡ void) ⊎ (w ≡ without_const t) → w ≡ without_const w → (u ≡ void) ⊎ (w ≡ without_const u)
twice t u w e h same = go (points-type t u w e h)
  where
    go : (u ≡ void) ⊎ (w ≡ u) → (u ≡ void) ⊎ (w ≡ without_const u)
    go (inl k) = inl k
    go (inr k) = inr (same ∙ ap without_const k)

further-at : (n : Name) (t : SourceType) (o bytes : ℕ) (z : ℤ) → constants.further n t o bytes z ≡ at n (byte_of o bytes z) t
further-at n t o bytes (pos k) = refl
further-at n t o bytes (negsuc k) = refl

module _ (P : Program) (none : P.classes ≡ []) (function : Name → ℕ) (signature : Name → SourceType) (F : Map) (names : Scope) (q r : Name → Name) (s : State) (w : World)
    (typed : (o : ℕ) → o < F.count → (s.object o).type ≡ F.type o) (laid : (o : ℕ) → o < F.count → LaidOut P.classes (F.type o)) where
  abbrev pub Is : Known → Fact → source.Value → Type 0
  Is = KnownAs P function signature F names q r

  abbrev At : Name → ℕ → SourceType → ℕ → source.Value → Type 0
  At = IsAt P function signature F names q r

  abbrev pub Q : (source.Value → Type 0) → Ran (Did source.Value) → Type 0
  Q R ran = GivesAs ran w (λ v t. (t ≡ s) × R v)

  pub wrong : (R : source.Value → Type 0) → Q R (Went Malformed w)
  wrong R = record { by = tt }

  pub ends : (R : source.Value → Type 0) (n : ℕ) → Q R (Stops (Undefined n) w.trace)
  ends R n = record { by = refl }

  pub here : (R : source.Value → Type 0) (v : source.Value) → R v → Q R (gives v s w)
  here R v h = record { by = (refl, (refl, h)) }

  -- ---- moved

  module _ (n : Name) (o : ℕ) (t : SourceType) (f : Fact) (z : ℤ) (some : is_void t ≡ false) where
    whole-type : (v : source.Value) (x : At n o t (left_of f) v) → without_const (type_at P.classes (F.type x.place.object) x.place.route) ≡ without_const t
    whole-type v x = go x.type
      where
        go : (t ≡ void) ⊎ (without_const (type_at P.classes (F.type x.place.object) x.place.route) ≡ without_const t)
            → without_const (type_at P.classes (F.type x.place.object) x.place.route) ≡ without_const t
        go (inl e) = absurd (true≢false (sym (ap is_void e) ∙ some))
        go (inr e) = e

    bytes-of : (v : source.Value) (x : At n o t (left_of f) v) → size P.classes (type_at P.classes (F.type x.place.object) x.place.route) ≡ size [] t
    bytes-of v x =
        sym (size-without P.classes (type_at P.classes (F.type x.place.object) x.place.route)) ∙ ap (size P.classes) (whole-type v x) ∙ size-without P.classes t
        ∙ ap (λ cs. size cs t) none

    arrived : (v : source.Value) (x : At n o t (left_of f) v) (i : ℕ) → further (element_of x.place.route).index z ≡ Some i
        → nat_le i (bound_of P.classes (F.type x.place.object) (element_of x.place.route)) ≡ true
        → At n (byte_of o (size [] t) z) t (left_behind (left_of f) z) (source.At (record x.place { route = route_of (element_of x.place.route) i }))
    arrived v x i e le =
        let y = moved-to P.classes (F.type x.place.object) x.place.route (left_of f) i z x.points x.left e le in
        record {
          place = record x.place { route = route_of (element_of x.place.route) i };
          is = refl;
          shape = x.shape;
          named = x.named;
          known = x.known;
          shown = x.shown;
          base = x.base;
          points = y.points;
          offset = y.offset ∙ ap (λ b. byte_of b (size P.classes (type_at P.classes (F.type x.place.object) x.place.route)) z) x.offset
              ∙ ap (λ m. byte_of o m z) (bytes-of v x);
          type = inr (ap without_const y.type ∙ whole-type v x);
          left = y.left;
        }

    abbrev R : source.Value → Type 0
    R v = Is (constants.further n t o (size [] t) z) (left (left_behind (left_of f) z)) v

    pub moved-known : (v : source.Value) → At n o t (left_of f) v → Q R (moved_value P.classes v z s w)
    moved-known v x = subst (λ v. Q R (moved_value P.classes v z s w)) (sym x.is) at-place
      where
        p : Place
        p = x.place

        T : SourceType
        T = (s.object p.object).type

        step : (i : ℕ) → further (element_of p.route).index z ≡ Some i → (b : Bool) → nat_le i (bound_of P.classes T (element_of p.route)) ≡ b
            → Q R (((need b 6 >> gives i) >>= (λ i. gives (source.At (record p { route = route_of (element_of p.route) i })))) s w)
        step i e true le =
            here R (source.At (record p { route = route_of (element_of p.route) i }))
            (subst (λ k. Is k (left (left_behind (left_of f) z)) (source.At (record p { route = route_of (element_of p.route) i })))
            (sym (further-at n t o (size [] t) z))
            (arrived v x i e (ap (λ u. nat_le i (bound_of P.classes u (element_of p.route))) (sym (typed p.object x.known)) ∙ le)))
        step i e false le = record { by = refl }

        by-number : (k : Option ℕ) → further (element_of p.route).index z ≡ k
            → Q R ((up_to (bound_of P.classes T (element_of p.route)) k >>= (λ i. gives (source.At (record p { route = route_of (element_of p.route) i })))) s w)
        by-number None e = record { by = refl }
        by-number (Some i) e = step i e (nat_le i (bound_of P.classes T (element_of p.route))) refl

        at-place : Q R (moved_value P.classes (source.At p) z s w)
        at-place =
            test-need (Q R) s w (wrong R) (ends R) (not (s.object p.object).is_gone) 5 _ (λ alive.
            by-number (further (element_of p.route).index z) refl)

  pub indexed-known : (x y : Known) (f h : Fact) (v u : source.Value) → moves x y ≡ true → Is x f v → Is y h u
      → Q (Is (sum [] x y) (sum_fact x y f h)) (indexed P.classes v u s w)
  indexed-known (at n o t) (a_number z) f h v u e hx hy =
      subst (λ u. Q (Is (sum [] (at n o t) (a_number z)) (sum_fact (at n o t) (a_number z) f h)) (indexed P.classes v u s w)) (sym hy)
      (subst (λ v. Q (Is (sum [] (at n o t) (a_number z)) (sum_fact (at n o t) (a_number z) f h)) (indexed P.classes v (source.Number z) s w)) (sym hx.is)
      (moved-known n o t f z (no-not (is_void t) e) (source.At hx.place) (at-itself P function signature F names q r n o t (left_of f) v hx)))
  indexed-known (a_number z) (at n o t) f h v u e hx hy =
      subst (λ v. Q (Is (sum [] (a_number z) (at n o t)) (sum_fact (a_number z) (at n o t) f h)) (indexed P.classes v u s w)) (sym hx)
      (moved-known n o t h z (no-not (is_void t) e) u hy)
  indexed-known x y f h v u e hx hy = absurd (true≢false (sym e))

  sum-known : (x y : Known) (f h : Fact) (v u : source.Value) → moves x y ≡ true → Is x f v → Is y h u
      → Q (Is (sum [] x y) (sum_fact x y f h)) (sum_of P.classes v u s w)
  sum-known (at n o t) (a_number z) f h v u e hx hy =
      subst (λ u. Q (Is (sum [] (at n o t) (a_number z)) (sum_fact (at n o t) (a_number z) f h)) (sum_of P.classes v u s w)) (sym hy)
      (moved-known n o t f z (no-not (is_void t) e) v hx)
  sum-known (a_number z) (at n o t) f h v u e hx hy =
      subst (λ v. Q (Is (sum [] (a_number z) (at n o t)) (sum_fact (a_number z) (at n o t) f h)) (sum_of P.classes v u s w)) (sym hx)
      (subst (λ u. Q (Is (sum [] (a_number z) (at n o t)) (sum_fact (a_number z) (at n o t) f h)) (sum_of P.classes (source.Number z) u s w)) (sym hy.is)
      (moved-known n o t h z (no-not (is_void t) e) (source.At hy.place) (at-itself P function signature F names q r n o t (left_of h) u hy)))
  sum-known x y f h v u e hx hy = absurd (true≢false (sym e))

  back-known : (x y : Known) (f h : Fact) (v u : source.Value) → moves_by pointer_operator.Subtract x y ≡ true → Is x f v → Is y h u
      → Q (Is (pointer_known [] pointer_operator.Subtract x y) (pointer_fact pointer_operator.Subtract x y f h)) (moved_back P.classes v u s w)
  back-known (at n o t) (a_number z) f h v u e hx hy =
      subst (λ u. Q (Is (pointer_known [] pointer_operator.Subtract (at n o t) (a_number z)) (pointer_fact pointer_operator.Subtract (at n o t) (a_number z) f h))
      (moved_back P.classes v u s w)) (sym hy)
      (moved-known n o t f (neg_ℤ z) (no-not (is_void t) e) v hx)
  back-known x y f h v u e hx hy = absurd (true≢false (sym e))

  pub pointer-known : (o : _) (x y : Known) (f h : Fact) (v u : source.Value) → moves_by o x y ≡ true → Is x f v → Is y h u
      → Q (Is (pointer_known [] o x y) (pointer_fact o x y f h)) (pointer_op P.classes o v u s w)
  pointer-known pointer_operator.Add x y f h v u e hx hy = sum-known x y f h v u e hx hy
  pointer-known pointer_operator.Subtract x y f h v u e hx hy = back-known x y f h v u e hx hy
  pointer-known o x y f h v u e hx hy = absurd (true≢false (sym e))

  -- ---- decayed

  pub decayed-known : (x : Known) (f : Fact) (v : source.Value) → decays x ≡ true → Is x f v → Q (Is (constants.decayed x) (decayed_fact x f)) (decayed P.classes v s w)
  decayed-known (at n o t) f v e x = subst (λ v. Q R (decayed P.classes v s w)) (sym x.is) at-place
    where
      R : source.Value → Type 0
      R v = Is (at n o (element (plain t))) (decayed_fact (at n o t) f) v

      p : Place
      p = x.place

      parts : (not (is_void t) ≡ true) × (const_once t ≡ true)
      parts = both (not (is_void t)) (const_once t) e

      at-place : Q R (decayed P.classes (source.At p) s w)
      at-place =
          test-valid (Q R) s w (wrong R) (ends R) (is_array (place_type P.classes s p)) _ (λ array.
          test-need (Q R) s w (wrong R) (ends R) (is_inside P.classes (s.object p.object).type p.route) 6 _ (λ inside.
          let same = whole-type n o t f (pos 0) (no-not (is_void t) parts.0) v x in
          let y = first-at P.classes (F.type p.object) t p.route (laid p.object x.known) x.points
          (ap (λ u. is_inside P.classes u p.route) (sym (typed p.object x.known)) ∙ inside)
          (ap (λ u. is_array (type_at P.classes u p.route)) (sym (typed p.object x.known)) ∙ array) same parts.1 in
          here R (source.At (inner (item 0) p)) (record {
            place = inner (item 0) p;
            is = refl;
            shape = x.shape;
            named = x.named;
            known = x.known;
            shown = x.shown;
            base = x.base;
            points = y.points;
            offset = y.offset ∙ x.offset;
            type = inr y.type;
            left = y.left;
          })))
  decayed-known (a_number z) f v e x = subst (λ v. Q (Is (a_number z) f) (decayed P.classes v s w)) (sym x) (wrong _)
  decayed-known null f v e x = subst (λ v. Q (Is null f) (decayed P.classes v s w)) (sym x) (wrong _)
  decayed-known (a_function n) f v e x =
      subst (λ v. Q (Is (a_function n) f) (decayed P.classes v s w)) (sym x.is) (here (Is (a_function n) f) (source.Code (q n)) (function-itself P function signature F names q r n f v x))
  decayed-known unknown f v e x = absurd (true≢false (sym e))

  -- ---- what a pointer points to

  pub pointed-known : (R : source.Value → Type 0) (v : source.Value) → R v → Q R (pointed_to v s w)
  pointed-known R (source.At p) h = here R (source.At p) h
  pointed-known R (source.Code f) h = here R (source.Code f) h
  pointed-known R source.Null h = record { by = refl }
  pointed-known R v h = record { by = tt }

  -- ---- other types

  as-type : (n : Name) (o : ℕ) (t u : SourceType) (k : ℕ) (v : source.Value) → points_as t u ≡ true → (x : At n o t k v) → At n o u k (source.At x.place)
  as-type n o t u k v e x =
      let W = without_const (type_at P.classes (F.type x.place.object) x.place.route) in
      at-type P function signature F names q r n o t u k v x (twice t u W e x.type (sym (without-twice (type_at P.classes (F.type x.place.object) x.place.route))))

  pub as-pointer : (a : Sort) → ((k : _) → a ≡ number k → ⊥) → (x : Known) (f : Fact) (v : source.Value) → is_pointed (Some a) x ≡ true → Is x f v
      → Q (Is (converted_known [] (Some a) x) f) ((used v >>= as_pointer) s w)
  as-pointer (number k) not_number x f v e h = absurd (not_number k refl)
  as-pointer (address u) not_number (a_number z) f v e h = subst (λ v. Q (Is null f) ((used v >>= as_pointer) s w)) (sym h) (zero-null z)
    where
      zero-null : (z : ℤ) → Q (Is null f) ((used (source.Number z) >>= as_pointer) s w)
      zero-null (pos zero) = here (Is null f) source.Null refl
      zero-null (pos (suc n)) = record { by = tt }
      zero-null (negsuc n) = record { by = tt }
  as-pointer (code u) not_number (a_number z) f v e h = subst (λ v. Q (Is null f) ((used v >>= as_pointer) s w)) (sym h) (zero-null z)
    where
      zero-null : (z : ℤ) → Q (Is null f) ((used (source.Number z) >>= as_pointer) s w)
      zero-null (pos zero) = here (Is null f) source.Null refl
      zero-null (pos (suc n)) = record { by = tt }
      zero-null (negsuc n) = record { by = tt }
  as-pointer (address u) not_number null f v e h = subst (λ v. Q (Is null f) ((used v >>= as_pointer) s w)) (sym h) (here (Is null f) source.Null refl)
  as-pointer (code u) not_number null f v e h = subst (λ v. Q (Is null f) ((used v >>= as_pointer) s w)) (sym h) (here (Is null f) source.Null refl)
  as-pointer (address u) not_number (at n o t) f v e h =
      subst (λ v. Q (Is (at n o u) f) ((used v >>= as_pointer) s w)) (sym h.is)
      (here (Is (at n o u) f) (source.At h.place) (as-type n o t u (left_of f) v e h))
  as-pointer (code u) not_number (at n o t) f v e h =
      subst (λ v. Q (Is (at n o t) f) ((used v >>= as_pointer) s w)) (sym h.is) (here (Is (at n o t) f) (source.At h.place) (at-itself P function signature F names q r n o t (left_of f) v h))
  as-pointer (address u) not_number (a_function n) f v e h =
      subst (λ v. Q (Is (a_function n) f) ((used v >>= as_pointer) s w)) (sym h.is) (here (Is (a_function n) f) (source.Code (q n)) (function-itself P function signature F names q r n f v h))
  as-pointer (code u) not_number (a_function n) f v e h =
      subst (λ v. Q (Is (a_function n) f) ((used v >>= as_pointer) s w)) (sym h.is) (here (Is (a_function n) f) (source.Code (q n)) (function-itself P function signature F names q r n f v h))
  as-pointer (address u) not_number unknown f v e h = absurd (true≢false (sym e))
  as-pointer (code u) not_number unknown f v e h = absurd (true≢false (sym e))

  pub from-void-known : (t : SourceType) (x : Known) (f : Fact) (v : source.Value) → is_known x ≡ true → Is x f v
      → Q (Is (converted_known [] (Some (address t)) x) f) (from_void_value P.classes t v s w)
  from-void-known t (a_number z) f v e h = subst (λ v. Q (Is null f) (from_void_value P.classes t v s w)) (sym h) (wrong _)
  from-void-known t null f v e h = subst (λ v. Q (Is null f) (from_void_value P.classes t v s w)) (sym h) (here (Is null f) source.Null refl)
  from-void-known t (at n o u) f v e h =
      subst (λ v. Q (Is (at n o t) f) (from_void_value P.classes t v s w)) (sym h.is)
      (test-need (Q (Is (at n o t) f)) s w (wrong _) (ends _) (same_but_const (place_type P.classes s h.place) t) _ _ (λ same.
      here (Is (at n o t) f) (source.At h.place) (at-type P function signature F names q r n o u t (left_of f) v h
      (inr (ap (λ u. without_const (type_at P.classes u h.place.route)) (sym (typed h.place.object h.known))
      ∙ same-without_const (place_type P.classes s h.place) t same)))))
  from-void-known t (a_function n) f v e h = subst (λ v. Q (Is (a_function n) f) (from_void_value P.classes t v s w)) (sym h.is) (wrong _)
  from-void-known t unknown f v e h = absurd (true≢false (sym e))
