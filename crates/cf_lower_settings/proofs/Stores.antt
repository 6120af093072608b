-- A known value is stored at a known place in both.
use Rattle.std.proofs.Common.{◌≡◌, ℕ, ◌+◌, ◌≤◌, ◌<◌, nat_le, Bool, true, false, cond, ◌==◌, [], ℤ, pos, Some, None, Ok, Err, refl, ap, sym, subst, ◌∙◌, ◌⊎◌, inl, inr, arith}
use Rattle.std.specs.Prelude.{◌+ℤ◌}
use Rattle.std.proofs.lemmas.Bool.{true≢false}
use Rattle.std.proofs.lemmas.Bool.Decides.{nat_tests}
use Rattle.cf_base.specs.declared.kind.Kind.{Kind}
use Rattle.cf_base.specs.declared.kind.Kind.TheVariants.{Int}
use Rattle.cf_base.specs.declared.arith.Arith.TheVariants as op
use Rattle.cf_base.specs.Integers.{fits, convert}
use Rattle.cf_core.specs.Types.{Name, SourceType, void, without_const}
use Rattle.cf_core.specs.Places.{Place}
use Rattle.cf_core.specs.Store as source
use Rattle.cf_core.specs.Store.{hold}
use Rattle.cf_core.specs.Run.{State, with_object}
use Rattle.cf_core.specs.Calls.{Program}
use Rattle.cf_core.specs.Size.{size}
use Rattle.cf_lower_layout.specs.Layout.{offset, leads}
use Rattle.cf_lower_layout.specs.Sorts.{Sort, number, address, code, scalar_sort, sort_of, c_kind}
use Rattle.cf_lower_layout.proofs.Elements.{points-inside}
use Rattle.cf_lower_layout.proofs.Laid.{size-without}
use Rattle.cf_lower_layout.proofs.Types.{same-type}
use Rattle.cc_whole.specs.declared.types.CConstant.TheVariants as constants
use Rattle.cc_whole.specs.Plain.{Expression, constant, pointed}
use Rattle.cc_whole_closed.proofs.Plains.{expression_with}
use Rattle.cc_whole_memory.specs.declared.value.Pointer.TheVariants as pointer
use Rattle.cc_whole_memory.specs.declared.value.Value.{Value}
use Rattle.cc_whole_memory.specs.declared.value.Value.TheVariants as value
use Rattle.cc_whole_memory.specs.Blocks.{Block, Memory, outside, on_ok, write}
use Rattle.cc_whole_memory.specs.Pointers.{moved, moved_in}
use Rattle.cc_whole_mean.specs.declared.named.Named.TheVariants as meant
use Rattle.cc_whole_mean.specs.declared.named.Shape.{Shape}
use Rattle.cc_whole_mean.specs.declared.named.Target.{Target}
use Rattle.cc_whole_mean.specs.Scope.{Scope}
use Rattle.cc_whole_mean.specs.Types.{scalar_of}
use Rattle.cc_whole_mean.specs.Values.{value_of, fitted, named_value, named_address, applied, address_value, addressed, assigned, assigned_to, stored}
use Rattle.cf_lower_relate.specs.Map.{Fixed, Map, Stage, hidden, shown, ended, Is, is_shown, is_ended, is_hidden, pointer_to, type_of_place}
use Rattle.cf_lower_relate.specs.Relation.{Rel}
use Rattle.cf_lower_relate.proofs.Counts.{fits-pos}
use Rattle.cf_lower_relate.proofs.Memory.{write-place}
use Rattle.cf_lower_relate.proofs.Words.{convert-same, convert-c}
use Rattle.cf_lower.specs.Constants.{Known, a_number, null, at, a_function, at_byte, written}
use Rattle.cf_lower.specs.Written.{c_type}
use Rattle.cf_lower.specs.Expressions.{as_stored}
use Rattle.cf_lower_steps.specs.Lowering.{fixed_of}
use Rattle.cf_lower_steps.proofs.Registers.{same-register}
use Rattle.cf_lower_steps.proofs.Stores.{number-stored}
use Rattle.cf_lower_steps.proofs.Values.{stored-scalar}
use Rattle.cf_lower_program.specs.Alike.{Fact, of_type, left_of, fits_scalar}
use Rattle.cf_lower_settings.specs.Set.{Since}
use Rattle.cf_lower_settings.proofs.Places.{left-leads}
use Rattle.cf_lower_settings.proofs.Known.{IsAt, KnownAs}
use Rattle.cf_lower_settings.proofs.Pointing.{points-type}

pub shown-live : (st : Stage) → is_shown st ≡ true → is_ended st ≡ false
shown-live hidden e = refl
shown-live shown e = refl
shown-live ended e = absurd (cc)

pub shown-visible : (st : Stage) → is_shown st ≡ true → is_hidden st ≡ false
shown-visible hidden e = absurd (cc)
shown-visible shown e = refl
shown-visible ended e = refl

other-block : (b c : ℕ) → (c ≡ b → ⊥) → b == c ≡ false
other-block b c apart = go (b == c) refl
  where
    go : (t : Bool) → b == c ≡ t → b == c ≡ false
    go true e = absurd (apart (sym (same-register b c e)))
    go false e = e

-- ---- numbers

abbrev pub number_in : ℤ → Expression
number_in z = constant (constants.Signed (convert Int z))

number-stays : (k : Kind) (z : ℤ) → fits k z ≡ true → fitted (scalar_of (c_type (number k))) (value.Number (c_kind k) z) ≡ Ok (value.Number (c_kind k) z)
number-stays k z f =
    ap (λ a. fitted a (value.Number (c_kind k) z)) (stored-scalar (number k)) ∙ ap (λ y. Ok (value.Number (c_kind k) y)) (convert-c k z ∙ convert-same k z f)

-- ---- places

address-at : (names : Scope) (n : Name) (o b : ℕ) (shape : Shape) (m : Memory) (x : Block) → names n ≡ Some (meant.Variable b shape) → m.block b ≡ Some x → o ≤ x.size
    → o ≤ 4194304 → value_of (at_byte n o) names m ≡ Ok (value.Address (pointer.At b o))
address-at names n o b shape m x named there room small =
    let zero : 0 + o ≡ o = omega arith in
    ap (λ y. on_ok (named_address y) (λ v. on_ok (Ok (value.Number Int (convert Int (pos o)))) (λ y. applied op.Add v y m))) named
    ∙ ap (λ z. address_value (moved (pointer.At b 0) z m)) (convert-same Int (pos o) (fits-pos o small))
    ∙ ap (λ y. address_value (moved_in b (pos 0 +ℤ pos o) y)) there
    ∙ ap (λ (k : ℕ). address_value (cond (nat_le k x.size) (Ok (pointer.At b k)) (Err outside))) zero
    ∙ ap (λ t. address_value (cond t (Ok (pointer.At b o)) (Err outside))) (let t : nat_le o x.size ≡ true = grind (arith, nat_tests, room) in t)

module _ (P : Program) (none : P.classes ≡ []) (function : Name → ℕ) (signature : Name → SourceType) (F : Map) (names : Scope) (q r : Name → Name) where
  abbrev pub K : Fixed
  K = fixed_of P function signature

  abbrev At : Name → ℕ → SourceType → ℕ → source.Value → Type 0
  At = IsAt P function signature F names q r

  abbrev pub live-at : (n : Name) (o : ℕ) (t : SourceType) (k : ℕ) (v : source.Value) (x : At n o t k v) → is_ended (F.stage x.place.object) ≡ false
  live-at n o t k v x = shown-live (F.stage x.place.object) x.shown

  -- its type is the one that is known, where one is
  pub type-at : (n : Name) (o : ℕ) (t : SourceType) (k : ℕ) (v : source.Value) (x : At n o t k v) → (t ≡ void → ⊥) → without_const (type_of_place K F x.place) ≡ without_const t
  type-at n o t k v x some = go x.type
    where
      go : (t ≡ void) ⊎ (without_const (type_of_place K F x.place) ≡ without_const t) → without_const (type_of_place K F x.place) ≡ without_const t
      go (inl e) = absurd (some e)
      go (inr e) = e

  pub bytes-at : (n : Name) (o : ℕ) (t : SourceType) (k : ℕ) (v : source.Value) (x : At n o t k v) → (t ≡ void → ⊥) → size P.classes (type_of_place K F x.place) ≡ size [] t
  bytes-at n o t k v x some =
      sym (size-without P.classes (type_of_place K F x.place)) ∙ ap (size P.classes) (type-at n o t k v x some) ∙ size-without P.classes t ∙ ap (λ cs. size cs t) none

  -- the C has the place
  pub pointer-at : (n : Name) (o : ℕ) (t : SourceType) (k : ℕ) (v : source.Value) (x : At n o t k v) (s : State) (m : Memory) → Rel K F s m
      → value_of (at_byte (r n) o) names m ≡ Ok (value.Address (pointer_to K F x.place))
  pointer-at n o t k v x s m rel =
      let p = x.place in
      let stands = rel.stands p.object x.known (live-at n o t k v x) in
      let typed = rel.type p.object x.known in
      let laid = rel.laid p.object x.known in
      let inner = points-inside P.classes (F.type p.object) p.route x.points in
      let outer : F.base p.object + size P.classes (F.type p.object) ≤ stands.block.size =
      (let z : F.base p.object + size P.classes (s.object p.object).type ≤ stands.block.size = stands.size in
      let y : size P.classes (s.object p.object).type ≡ size P.classes (F.type p.object) = ap (size P.classes) typed in
      omega (arith, z, y)) in
      let small = laid.small in
      let is = x.offset in
      let base = x.base in
      let here : o ≡ F.base p.object + offset P.classes (F.type p.object) p.route = omega (arith, is, base) in
      address-at names (r n) o (F.block p.object) x.shape m stands.block x.named stands.there (omega (arith, inner, outer, is)) (omega (arith, inner, small, is))
      ∙ ap (λ (i : ℕ). Ok (value.Address (pointer.At (F.block p.object) i))) here

  -- ---- values

  -- the C's expression has the value, as a scalar of this sort
  pub record Valued (u : Sort) (e : Expression) (v : source.Value) (m : Memory) : Type 0 where
    pub value : Value
    pub is : value_of (as_stored u e) names m ≡ Ok value
    pub fits : fitted (scalar_of (c_type u)) value ≡ Ok value
    pub same : Is K F u v value

  -- a number of a kind, by its bits as an int
  pub number-valued : (k : Kind) (z : ℤ) (m : Memory) → fits k z ≡ true → Valued (number k) (number_in z) (source.Number z) m
  number-valued k z m e = record { value = value.Number (c_kind k) z; is = number-stored k z e; fits = number-stays k z e; same = record { is = refl; fits = e } }

  pub valued : (u : Sort) (x : Known) (f : Fact) (v : source.Value) (s : State) (m : Memory) → Rel K F s m → fits_scalar (Some u) x f ≡ true
      → KnownAs P function signature F names q r x f v → Valued u (expression_with (written [] x) r) v m
  valued (number k) (a_number z) f v s m rel e is = subst (λ v. Valued (number k) (number_in z) v m) (sym is) (number-valued k z m e)
  valued (address u) null f v s m rel e is =
      record { value = value.Address pointer.Null; is = refl; fits = refl; same = subst (λ v. Is K F (address u) v (value.Address pointer.Null)) (sym is) refl }
  valued (code u) null f v s m rel e is = record { value = value.Function 0; is = refl; fits = refl; same = subst (λ v. Is K F (code u) v (value.Function 0)) (sym is) refl }
  valued (address u) (at n o t) f v s m rel e x = record {
    value = value.Address (pointer_to K F x.place);
    is = ap (λ a. on_ok a (λ v. fitted (scalar_of (c_type (address u))) v)) (pointer-at n o t (left_of f) v x s m rel);
    fits = refl;
    same = subst (λ v. Is K F (address u) v (value.Address (pointer_to K F x.place))) (sym x.is) (record {
      known = x.known;
      visible = shown-visible (F.stage x.place.object) x.shown;
      inside = x.points;
      type = points-type t u (without_const (type_of_place K F x.place)) e x.type;
      pointer = pointer_to K F x.place;
      some = tt;
      is = refl;
      there = λ k. refl;
    });
  }
  valued (code u) (a_function n) (of_type t) v s m rel e x = record {
    value = value.Function (function (q n));
    is = ap (λ y. on_ok (named_value y m) (λ v. fitted (scalar_of (c_type (code u))) v)) x.named;
    fits = refl;
    same = subst (λ v. Is K F (code u) v (value.Function (function (q n)))) (sym x.is) (record {
      is = refl;
      known = x.known;
      type = x.type t refl ∙ same-type (without_const t) u e;
    });
  }
  valued u x f v s m rel e is = absurd (true≢false (sym e))

  -- ---- stores

  -- the store of the C is done, and the object holds the value
  pub record Puts (u : Sort) (a e : Expression) (p : Place) (v : source.Value) (s : State) (m : Memory) : Type 0 where
    pub after : Memory
    pub is : assigned (pointed (c_type u) a) (as_stored u e) names m ≡ Ok after
    pub since : Since K F s m (with_object p.object (hold p.route (Some v)) s) after

  pub put-there : (u : Sort) (a e : Expression) (p : Place) (v : source.Value) (s : State) (m : Memory) → Rel K F s m → p.object < F.count → is_ended (F.stage p.object) ≡ false
      → leads P.classes (F.type p.object) p.route ≡ true → sort_of (type_of_place K F p) ≡ Some u → value_of a names m ≡ Ok (value.Address (pointer_to K F p)) → Valued u e v m
      → Puts u a e p v s m
  put-there u a e p v s m rel known live there sort pointed_at x =
      let done = write-place K F s m rel p u known live there sort v x.value x.same in
      let target : Target = record { pointer = pointer_to K F p; scalar = scalar_of (c_type u) } in
      record {
        after = done.after;
        is = ap (λ y. on_ok (on_ok y (λ v. addressed v (λ p. Ok (record { pointer = p; scalar = scalar_of (c_type u) })))) (λ t. assigned_to t (as_stored u e) names m)) pointed_at
            ∙ ap (λ y. on_ok y (λ v. stored target v m)) x.is
            ∙ ap (λ y. on_ok y (λ v. write (pointer_to K F p) v m)) x.fits
            ∙ done.is;
        since = record {
          rel = done.rel;
          next = done.next;
          elsewhere = λ b free. done.elsewhere b (other-block b (F.block p.object) (λ e. free p.object known live e));
          frame = refl;
          literals = refl;
          finished = refl;
        };
      }

  -- the sort of the place is that of the type that is known
  pub sort-at : (n : Name) (o : ℕ) (t : SourceType) (k : ℕ) (v : source.Value) (x : At n o t k v) (u : Sort) → sort_of t ≡ Some u → sort_of (type_of_place K F x.place) ≡ Some u
  sort-at n o t k v x u e = go x.type
    where
      none-some : None ≡ Some u → ⊥
      none-some h = absurd (cc)

      go : (t ≡ void) ⊎ (without_const (type_of_place K F x.place) ≡ without_const t) → sort_of (type_of_place K F x.place) ≡ Some u
      go (inl h) = absurd (none-some (sym (ap sort_of h) ∙ e))
      go (inr h) = ap scalar_sort h ∙ e

  pub put-known : (n : Name) (o : ℕ) (t : SourceType) (k : ℕ) (pv : source.Value) (x : At n o t k pv) → 0 < k → (u : Sort) → sort_of t ≡ Some u → (y : Known) (f : Fact)
      (v : source.Value) (s : State) (m : Memory) → Rel K F s m → fits_scalar (Some u) y f ≡ true → KnownAs P function signature F names q r y f v
      → Puts u (at_byte (r n) o) (expression_with (written [] y) r) x.place v s m
  put-known n o t k pv x some u sort y f v s m rel e is =
      put-there u (at_byte (r n) o) (expression_with (written [] y) r) x.place v s m rel x.known (live-at n o t k pv x)
      (left-leads P.classes (F.type x.place.object) x.place.route k x.points x.left some) (sort-at n o t k pv x u sort) (pointer-at n o t k pv x s m rel)
      (valued u y f v s m rel e is)
