-- What an act of an initialiser does in the source, its stores do in the C.
use Rattle.std.proofs.Common.{◌≡◌, ℕ, zero, suc, ◌+◌, ◌≤◌, ◌<◌, nat_lt, nat_le, Bool, true, false, ◌&&◌, not, List, [], ◌∷◌, length, pos, negsuc, Option, Some, None, refl, ap, sym, subst, ◌∙◌, arith}
use Rattle.std.specs.Prelude.{bytes_eq}
use Rattle.std.proofs.lemmas.Bool.{true≢false}
use Rattle.std.proofs.lemmas.Bool.Decides.{nat_tests}
use Rattle.cf_base.proofs.Tests.{both, same_bytes}
use Rattle.cf_base.specs.declared.kind.Kind.{Kind}
use Rattle.cf_base.specs.declared.kind.Kind.TheVariants.{Char, SChar, UChar}
use Rattle.cf_base.specs.Event.{Undefined}
use Rattle.cf_base.specs.World.{World, Ran, Went, Stops, and_then}
use Rattle.cf_core.specs.Types.{Name, SourceType, void, integer, enumeration, class, pointer, reference, array, takes, gives as gives_type, data_member, function_member, const, is_array, is_void, without_const}
use Rattle.cf_core.specs.Places.{Place, is_scalar, type_at}
use Rattle.cf_core.specs.Size.{size}
use Rattle.cf_core.specs.Store as source
use Rattle.cf_core.specs.Store.{Object, hold}
use Rattle.cf_core.specs.Run.{State, Did, Malformed, Act, onward, ◌>>=◌, ◌>>◌, gives, malformed, done, changed, some_or, valid, when, with_object}
use Rattle.cf_core.specs.Access.{used, first_value, place_type, fill_zeros}
use Rattle.cf_core.specs.Calls as core
use Rattle.cf_core.specs.Calls.{Program, root, has_destructor}
use Rattle.cf_core.specs.Objects.{static_number, static_type, settle, element_count, character_kind, write_bytes}
use Rattle.cf_lower_layout.specs.Layout.{offset}
use Rattle.cf_lower_layout.specs.Sorts.{Sort, number, address, code, sort_of}
use Rattle.cf_lower_layout.proofs.Characters.{kind_by_bare}
use Rattle.cf_plain.specs.Plain as plain
use Rattle.cf_plain.specs.Plain.{Register, Action}
use Rattle.cf_plain.specs.Acts.{Registers, held, doing, acts}
use Rattle.cf_plain.specs.Joined.{renamed_action}
use Rattle.cc_whole.specs.Plain.{Statement}
use Rattle.cc_whole_closed.proofs.Plains.{expression_with}
use Rattle.cc_whole_mean.specs.declared.named.Named.TheVariants as meant
use Rattle.cc_whole_mean.specs.declared.named.Shape.{Shape}
use Rattle.cc_whole_memory.specs.Values.{bytes_of}
use Rattle.cc_whole_mean.specs.Flow as c
use Rattle.cc_whole_mean.specs.Mean as mean
use Rattle.cc_whole_mean.specs.Scope.{Scope}
use Rattle.cf_lower_relate.specs.Map.{Fixed, Map, type_of_place}
use Rattle.cf_lower_relate.specs.Relation.{Rel}
use Rattle.cf_lower_relate.specs.Scalars.{c_scalar}
use Rattle.cf_lower_relate.proofs.Objects.{upd-other}
use Rattle.cf_lower.specs.Constants.{Known, unknown, a_number, null, at, a_function, at_byte, written, stored, stored_bytes, constant_done}
use Rattle.cf_lower.specs.Statements.{put, put_bytes}
use Rattle.cf_lower.specs.Written.{if_scalar}
use Rattle.cf_lower_steps.specs.Lowering.{fixed_of}
use Rattle.cf_lower_steps.proofs.Holding.{usable}
use Rattle.cf_lower_steps.proofs.Statements.{different}
use Rattle.cf_lower_steps.proofs.Tests.{test-valid, test-place}
use Rattle.cf_lower_program.specs.Alike.{Fact, Part, Told, left_of, fits_scalar, is_own, fits_first, part_of, clear_of, is_clear, is_text_type, takes_bytes, act_alike, parts_by}
use Rattle.cf_lower_program.specs.Starts.{is_known}
use Rattle.cf_lower_settings.specs.Set.{NamesStand, OwnObject, Clear}
use Rattle.cf_lower_settings.proofs.Runs.{GivesAs, test-held}
use Rattle.cf_lower_settings.proofs.Places.{left-leads}
use Rattle.cf_lower_settings.proofs.Known.{IsAt, KnownAs, Knows}
use Rattle.cf_lower_settings.proofs.Stores.{live-at, type-at, bytes-at, put-known, shown-live}
use Rattle.cf_lower_settings.proofs.Clear.{clear-more, clear-stored, zeros_at, clear-zeros, rel-zeros}
use Rattle.cf_lower_settings.proofs.Done.{with_names, DoneBy, done-none, done-store, done-then, since-none, since-reached}
use Rattle.cf_lower_settings.proofs.Bytes.{count-here, with_bytes, writes, bytes-kept, bytes-done}

-- no class has a destructor where there are none
no-destructor : (t : SourceType) → has_destructor [] t ≡ false
no-destructor void = refl
no-destructor (integer k) = refl
no-destructor (enumeration e) = refl
no-destructor (class c) = refl
no-destructor (pointer t) = refl
no-destructor (reference t) = refl
no-destructor (array t n) = no-destructor t
no-destructor (takes p t) = refl
no-destructor (gives_type t c) = refl
no-destructor (data_member c t) = refl
no-destructor (function_member c t) = refl
no-destructor (const t) = no-destructor t

no-not : (b : Bool) → not b ≡ true → b ≡ false
no-not true e = absurd (cc)
no-not false e = refl

same-block : {a b : ℕ} {x y : Shape} → Some (meant.Variable a x) ≡ Some (meant.Variable b y) → a ≡ b
same-block e = cc

module _ (P : Program) (function : Name → ℕ) (signature : Name → SourceType) (F : Map) (names : Scope) (N : NamesStand P function signature F names) (q r : Name → Name)
    (c_again helps : mean.Again) (program : mean.Program) (inside : Bool) (depth : ℕ) (name : Name) (own : ℕ) (O : OwnObject F names r name own) where
  abbrev Kx : Fixed
  Kx = fixed_of P function signature

  abbrev Done : List Statement → State → c.State → State → Type 0
  Done = DoneBy Kx F names r c_again helps program inside depth

  -- the act is done in both, and what may not have been set is clear
  pub record ActDone (xs : List Statement) (parts : List Part) (s : State) (u : c.State) (t : State) : Type 0 where
    pub done : Done xs s u t
    pub clear : Clear (F.type own) parts own t
    pub kept : (o : ℕ) → (o ≡ own → ⊥) → t.object o ≡ s.object o

  abbrev Is : Known → Fact → source.Value → Type 0
  Is = KnownAs P function signature F names q r

  module _ (again : core.Again) (regs : Registers) (g : Register → Known) (told : Told) (known : Knows P function signature F names q r g told.facts regs) (s : State)
      (u : c.State) (rel : Rel Kx F s u.memory) (clear : Clear (F.type own) told.parts own s) (w : World) where
    abbrev G : List Statement → List Part → Ran (Did source.Value) → Type 0
    G xs parts ran = GivesAs ran w (λ v t. ActDone (with_names r xs) parts s u t)

    wrong : (xs : List Statement) (parts : List Part) → G xs parts (Went Malformed w)
    wrong xs parts = record { by = tt }

    ends : (xs : List Statement) (parts : List Part) (n : ℕ) → G xs parts (Stops (Undefined n) w.trace)
    ends xs parts n = record { by = refl }

    nothing-done : ActDone [] told.parts s u s
    nothing-done = record { done = done-none Kx F names r c_again helps program inside depth s u s (since-none Kx F s u.memory rel); clear = clear; kept = λ o n. refl }

    reach-done : (n : Name) → G [] told.parts (acts again P regs (plain.reach n) s w)
    reach-done n = go (static_number P n)
      where
        go : (x : Option ℕ) → G [] told.parts (((some_or x malformed >>= (λ o. gives (root o))) >>= (λ p. changed (λ s. record s { reached = n ∷ s.reached }) >> gives (source.At p))) s w)
        go None = wrong [] told.parts
        go (Some o) = record {
          by = (
            refl,
            record {
              done = done-none Kx F names r c_again helps program inside depth s u (record s { reached = n ∷ s.reached }) (since-reached Kx F s u.memory (n ∷ s.reached) rel);
              clear = clear;
              kept = λ o n. refl;
            },
          );
        }

    finish-done : (n : Name) → G [] told.parts (acts again P regs (plain.finish_static n) s w)
    finish-done n = go (static_number P n)
      where
        destructor : has_destructor P.classes (static_type P n) ≡ false
        destructor = ap (λ cs. has_destructor cs (static_type P n)) N.none ∙ no-destructor (static_type P n)

        go : (x : Option ℕ)
            → G [] told.parts
            (((some_or x malformed >>= (λ o. gives (root o)))
            >>= (λ p. when (has_destructor P.classes (static_type P n)) (changed (λ s. record s { finished = p.object ∷ s.finished })) done >> gives (source.At p))) s w)
        go None = wrong [] told.parts
        go (Some o) =
            subst (λ b. G [] told.parts ((when b (changed (λ s. record s { finished = o ∷ s.finished })) done >> gives (source.At (root o))) s w)) (sym destructor) (record { by = (refl, nothing-done) })

    truth-done : (i : Register) → is_known (g i) ≡ true → G [] told.parts (acts again P regs (plain.truth i) s w)
    truth-done i e = by (regs i) refl
      where
        of : (x : Known) (f : Fact) (v : source.Value) → is_known x ≡ true → Is x f v → G [] told.parts (acts again P (λ j. Some v) (plain.truth 0) s w)
        of (a_number (pos zero)) f v e is = subst (λ v. G [] told.parts (acts again P (λ j. Some v) (plain.truth 0) s w)) (sym is) (record { by = (refl, nothing-done) })
        of (a_number (pos (suc n))) f v e is = subst (λ v. G [] told.parts (acts again P (λ j. Some v) (plain.truth 0) s w)) (sym is) (record { by = (refl, nothing-done) })
        of (a_number (negsuc n)) f v e is = subst (λ v. G [] told.parts (acts again P (λ j. Some v) (plain.truth 0) s w)) (sym is) (record { by = (refl, nothing-done) })
        of null f v e is = subst (λ v. G [] told.parts (acts again P (λ j. Some v) (plain.truth 0) s w)) (sym is) (record { by = (refl, nothing-done) })
        of (at n o t) f v e is = subst (λ v. G [] told.parts (acts again P (λ j. Some v) (plain.truth 0) s w)) (sym is.is) (record { by = (refl, nothing-done) })
        of (a_function n) f v e is = subst (λ v. G [] told.parts (acts again P (λ j. Some v) (plain.truth 0) s w)) (sym is.is) (record { by = (refl, nothing-done) })
        of unknown f v e is = absurd (true≢false (sym e))

        by : (o : Option source.Value) → regs i ≡ o → G [] told.parts (acts again P (λ j. o) (plain.truth 0) s w)
        by None e' = wrong [] told.parts
        by (Some v) e' = of (g i) (told.facts i) v e (known i v e')

    -- ---- the initialiser's own object

    own-place : (n : Name) (o : ℕ) (t : SourceType) (k : ℕ) (v : source.Value) (x : IsAt P function signature F names q r n o t k v) → bytes_eq n name ≡ true → x.place.object ≡ own
    own-place n o t k v x e =
        let same : n ≡ name = same_bytes n name e in
        rel.apart x.place.object own x.known O.known (live-at P N.none function signature F names q r n o t k v x) (shown-live (F.stage own) O.shown)
        (same-block (sym x.named ∙ ap (λ n. names (r n)) same ∙ O.named))

    settled : (xs : List Statement) (parts : List Part) (p : Place) (v : source.Value) → usable v ≡ true
        → ActDone (with_names r xs) parts s u (with_object p.object (hold p.route (Some v)) s) → G xs parts (doing (settle P.classes p v) s w)
    settled xs parts p v us h = by v us h
      where
        test : (a : Act (Unit {0})) → G xs parts (doing a s w) → (b : Bool) → G xs parts (doing (when b a malformed) s w)
        test a h true = h
        test a h false = wrong xs parts

        by : (v : source.Value) → usable v ≡ true → ActDone (with_names r xs) parts s u (with_object p.object (hold p.route (Some v)) s) → G xs parts (doing (settle P.classes p v) s w)
        by source.Nothing us h = absurd (true≢false (sym us))
        by source.Missing us h = absurd (true≢false (sym us))
        by source.Built us h = absurd (true≢false (sym us))
        by (source.Number z) us h = test (used (source.Number z) >>= first_value p) (record { by = (refl, h) }) (is_scalar (place_type P.classes s p))
        by source.Null us h = test (used source.Null >>= first_value p) (record { by = (refl, h) }) (is_scalar (place_type P.classes s p))
        by (source.At a) us h = test (used (source.At a) >>= first_value p) (record { by = (refl, h) }) (is_scalar (place_type P.classes s p))
        by (source.Code f) us h = test (used (source.Code f) >>= first_value p) (record { by = (refl, h) }) (is_scalar (place_type P.classes s p))
        by (source.DataMember path i) us h = test (used (source.DataMember path i) >>= first_value p) (record { by = (refl, h) }) (is_scalar (place_type P.classes s p))
        by (source.FunctionMember path t) us h = test (used (source.FunctionMember path t) >>= first_value p) (record { by = (refl, h) }) (is_scalar (place_type P.classes s p))

    -- a place of the object, at its bytes
    module _ (n : Name) (o : ℕ) (t : SourceType) (k : ℕ) (v : source.Value) (x : IsAt P function signature F names q r n o t k v) (mine : bytes_eq n name ≡ true)
        (some : t ≡ void → ⊥) where
      abbrev T : SourceType
      T = F.type x.place.object

      here : x.place.object ≡ own
      here = own-place n o t k v x mine

      clear-here : Clear T told.parts x.place.object s
      clear-here = subst (λ a. Clear (F.type a) told.parts a s) (sym here) clear

      offset-here : offset [] T x.place.route ≡ o
      offset-here = ap (λ cs. offset cs T x.place.route) (sym N.none) ∙ x.offset

      size-here : size [] (type_at [] T x.place.route) ≡ size [] t
      size-here = ap (λ cs. size cs (type_at cs T x.place.route)) (sym N.none) ∙ bytes-at P N.none function signature F names q r n o t k v x some

      clear-back : (parts : List Part) (a : State) → Clear T parts x.place.object a → Clear (F.type own) parts own a
      clear-back parts a h = subst (λ o. Clear (F.type o) parts o a) here h

      free-here : clear_of o (size [] t) told.parts ≡ true → clear_of (offset [] T x.place.route) (size [] (type_at [] T x.place.route)) told.parts ≡ true
      free-here e = ap (λ a. clear_of a (size [] (type_at [] T x.place.route)) told.parts) offset-here ∙ ap (λ l. clear_of o l told.parts) size-here ∙ e

      -- nothing else is changed
      others : (f : Object → Object) (a : ℕ) → (a ≡ own → ⊥) → (with_object x.place.object f s).object a ≡ s.object a
      others f a n = upd-other x.place.object a (f (s.object x.place.object)) s.object (different a x.place.object (λ e. n (e ∙ here)))

      -- filled with zeros it is as it was
      zeroed : clear_of o (size [] t) told.parts ≡ true → ActDone [] told.parts s u (with_object x.place.object (zeros_at P.classes x.place.route) s)
      zeroed e =
          let free = free-here e in
          let typed = rel.type x.place.object x.known in
          let live = live-at P N.none function signature F names q r n o t k v x in
          subst (λ cs. ActDone [] told.parts s u (with_object x.place.object (zeros_at cs x.place.route) s)) (sym N.none) (record {
            done = done-none Kx F names r c_again helps program inside depth s u (with_object x.place.object (zeros_at [] x.place.route) s) (record {
              rel = rel-zeros T told.parts x.place.object s clear-here typed x.place.route free Kx F u.memory N.none refl x.known live rel;
              next = refl;
              elsewhere = λ b f. refl;
              frame = refl;
              literals = refl;
              finished = refl;
            });
            clear = clear-back told.parts (with_object x.place.object (zeros_at [] x.place.route) s) (clear-zeros T told.parts x.place.object s clear-here typed x.place.route free);
            kept = others (zeros_at [] x.place.route);
          })

      abbrev part : Part
      part = record { start = o; size = size [] t }

    at-same : {a b : Place} → source.At a ≡ source.At b → a ≡ b
    at-same e = cc

    -- ---- a value goes to a static scalar

    fits-usable : (a : Option Sort) (y : Known) (h : Fact) (v : source.Value) → fits_scalar a y h ≡ true → Is y h v → usable v ≡ true
    fits-usable a (a_number z) h v e is = ap usable is
    fits-usable a null h v e is = ap usable is
    fits-usable a (at n o t) h v e is = ap usable is.is
    fits-usable a (a_function n) h v e is = ap usable is.is
    fits-usable None unknown h v e is = absurd (true≢false (sym e))
    fits-usable (Some (number k)) unknown h v e is = absurd (true≢false (sym e))
    fits-usable (Some (address t)) unknown h v e is = absurd (true≢false (sym e))
    fits-usable (Some (code t)) unknown h v e is = absurd (true≢false (sym e))

    first-done : (i j : Register) (x y : Known) (f h : Fact) → is_own name x f ≡ true → fits_first x y h ≡ true → ((v : source.Value) → regs i ≡ Some v → Is x f v)
        → ((v : source.Value) → regs j ≡ Some v → Is y h v) → G (stored [] x y) (part_of x ∷ told.parts) (acts again P regs (plain.first i j) s w)
    first-done i j (at n o t) y f h mine e hx hy = by-sort (sort_of t) refl e
      where
        two : (bytes_eq n name ≡ true) × (nat_lt 0 (left_of f) ≡ true)
        two = both (bytes_eq n name) (nat_lt 0 (left_of f)) mine

        some-left : 0 < left_of f
        some-left = let b = two.1 in grind (arith, nat_tests, b)

        parts : List Part
        parts = part_of (at n o t) ∷ told.parts

        stores : Option Sort → List Statement
        stores a = if_scalar a [] (λ u. put u (at_byte n o) (written [] y) ∷ [])

        no-void : (a : Sort) → sort_of t ≡ Some a → t ≡ void → ⊥
        no-void a sort e = none-some (sym (ap sort_of e) ∙ sort)
          where
            none-some : None ≡ Some a → ⊥
            none-some h = absurd (cc)

        is-done : (a : Sort) → sort_of t ≡ Some a → fits_scalar (Some a) y h ≡ true → (pv : source.Value) (x : IsAt P function signature F names q r n o t (left_of f) pv)
            (v : source.Value) → Is y h v → ActDone (with_names r (stores (Some a))) parts s u (with_object x.place.object (hold x.place.route (Some v)) s)
        is-done a sort fit pv x v is =
            let set = put-known P N.none function signature F names q r n o t (left_of f) pv x some-left a sort y h v s u.memory rel fit is in
            let next : State = with_object x.place.object (hold x.place.route (Some v)) s in
            let some = no-void a sort in
            let from = offset-here n o t (left_of f) pv x two.0 some in
            let bytes = size-here n o t (left_of f) pv x two.0 some in
            record {
              done = done-store Kx F names r c_again helps program inside depth a (at_byte (r n) o) (expression_with (written [] y) r) s next u set.after set.is set.since;
              clear = clear-back n o t (left_of f) pv x two.0 some parts next
                  (clear-stored (F.type x.place.object) (part_of (at n o t)) told.parts x.place.object x.place.route (Some v) s (omega (arith, from)) (omega (arith, from, bytes))
                  (clear-more (F.type x.place.object) (part_of (at n o t)) told.parts x.place.object s (clear-here n o t (left_of f) pv x two.0 some)));
              kept = others n o t (left_of f) pv x two.0 some (hold x.place.route (Some v));
            }

        by-sort : (a : Option Sort) → sort_of t ≡ a → fits_scalar a y h ≡ true → G (stores a) parts (acts again P regs (plain.first i j) s w)
        by-sort (Some a) sort fit =
            let xs : List Statement = stores (Some a) in
            test-place (G xs parts) s w (wrong xs parts) (ends xs parts) regs i (λ p. held regs j >>= (λ v. doing (settle P.classes p v))) (λ p isp.
            let x = hx (source.At p) isp in
            test-held (G xs parts) s w (wrong xs parts) regs j (λ v. doing (settle P.classes p v)) (λ v isv.
            subst (λ p. G xs parts (doing (settle P.classes p v) s w)) (sym (at-same x.is))
            (settled xs parts x.place v (fits-usable (Some a) y h v fit (hy v isv)) (is-done a sort fit (source.At p) x v (hy v isv)))))
        by-sort None sort fit = absurd (true≢false (sym fit))
    first-done i j x y f h mine e hx hy = absurd (true≢false (sym mine))

    -- ---- zeros

    not-void : (t : SourceType) → is_void t ≡ false → t ≡ void → ⊥
    not-void t e h = true≢false (sym (ap is_void h) ∙ e)

    zeros-done : (i : Register) (x : Known) (f : Fact) → is_clear name x told.parts ≡ true → ((v : source.Value) → regs i ≡ Some v → Is x f v)
        → G [] told.parts (acts again P regs (plain.zeros i) s w)
    zeros-done i (at n o t) f e hx =
        let two = both (bytes_eq n name && not (is_void t)) (clear_of o (size [] t) told.parts) e in
        let one = both (bytes_eq n name) (not (is_void t)) two.0 in
        test-place (G [] told.parts) s w (wrong [] told.parts) (ends [] told.parts) regs i (λ p. doing (fill_zeros P.classes p)) (λ p isp.
        let x = hx (source.At p) isp in
        subst (λ p. G [] told.parts (doing (fill_zeros P.classes p) s w)) (sym (at-same x.is))
        (record { by = (refl, zeroed n o t (left_of f) (source.At p) x one.0 (not-void t (no-not (is_void t) one.1)) two.1) }))
    zeros-done i x f e hx = absurd (true≢false (sym e))

    -- ---- bytes

    text-type : (y : SourceType) → is_text_type y ≡ true → (R : Type 0) → ((k : Kind) (n : ℕ) → bytes_of (c_scalar (number k)) ≡ 1 → y ≡ array (integer k) n → R) → R
    text-type (array (integer Char) n) e R h = h Char n refl refl
    text-type (array (integer SChar) n) e R h = h SChar n refl refl
    text-type (array (integer UChar) n) e R h = h UChar n refl refl
    text-type y e R h = absurd (true≢false (sym e))

    filled : (i : Register) (b : List ℕ) (x : Known) (f : Fact) → is_own name x f ≡ true → is_clear name x told.parts ≡ true → takes_bytes x ≡ true
        → ((v : source.Value) → regs i ≡ Some v → Is x f v) → G (stored_bytes [] x b) (part_of x ∷ told.parts) (acts again P regs (plain.bytes i b) s w)
    filled i b (at n o t) f mine e fit hx =
        let xs : List Statement = put_bytes (character_kind t) (at_byte n o) 0 b in
        test-place (G xs parts) s w (wrong xs parts) (ends xs parts) regs i _ (λ p isp.
        let x = hx (source.At p) isp in
        subst (λ p. G xs parts (put-in p)) (sym (at-same x.is))
        (test-valid (G xs parts) s w (wrong xs parts) (ends xs parts) (is_array (place_type P.classes s x.place)) _ (λ array-there.
        test-valid (G xs parts) s w (wrong xs parts) (ends xs parts) (nat_le (length b) (element_count P.classes (place_type P.classes s x.place))) _ (λ room.
        subst (λ ran. G xs parts (and_then ran (λ did w. onward did (λ v. gives source.Nothing) w)))
        (sym (writes (character_kind (place_type P.classes s x.place)) x.place 0 b (with_object x.place.object (zeros_at P.classes x.place.route) s) w)) (record { by = (refl, all-set (source.At p) x room) })))))
      where
        parts : List Part
        parts = part_of (at n o t) ∷ told.parts

        put-in : Place → Ran (Did source.Value)
        put-in p =
            (valid (is_array (place_type P.classes s p)) >> (valid (nat_le (length b) (element_count P.classes (place_type P.classes s p)))
            >> (fill_zeros P.classes p >> doing (write_bytes (character_kind (place_type P.classes s p)) p 0 b)))) s w

        two : (bytes_eq n name && not (is_void t) ≡ true) × (clear_of o (size [] t) told.parts ≡ true)
        two = both (bytes_eq n name && not (is_void t)) (clear_of o (size [] t) told.parts) e

        one : (bytes_eq n name ≡ true) × (not (is_void t) ≡ true)
        one = both (bytes_eq n name) (not (is_void t)) two.0

        some : t ≡ void → ⊥
        some = not-void t (no-not (is_void t) one.1)

        some-left : 0 < left_of f
        some-left = let h = (both (bytes_eq n name) (nat_lt 0 (left_of f)) mine).1 in grind (arith, nat_tests, h)

        all-set : (pv : source.Value) (x : IsAt P function signature F names q r n o t (left_of f) pv)
            → nat_le (length b) (element_count P.classes (place_type P.classes s x.place)) ≡ true
            → ActDone (with_names r (put_bytes (character_kind t) (at_byte n o) 0 b)) parts s u (with_bytes (character_kind (place_type P.classes s x.place)) x.place 0 b (with_object x.place.object (zeros_at P.classes x.place.route) s))
        all-set pv x room =
            text-type (without_const t) fit
            (ActDone (with_names r (put_bytes (character_kind t) (at_byte n o) 0 b)) parts s u (with_bytes (character_kind (place_type P.classes s x.place)) x.place 0 b (with_object x.place.object (zeros_at P.classes x.place.route) s)))
            (λ kind len byte is.
            let z : State = (with_object x.place.object (zeros_at P.classes x.place.route) s) in
            let first = zeroed n o t (left_of f) pv x one.0 some two.1 in
            let known-type = type-at P N.none function signature F names q r n o t (left_of f) pv x some in
            let text = known-type ∙ is in
            let c_has : character_kind t ≡ kind = sym (kind_by_bare t) ∙ ap character_kind is in
            let has : character_kind (place_type P.classes s x.place) ≡ kind =
            ap (λ a. character_kind (type_at P.classes a x.place.route)) (rel.type x.place.object x.known)
            ∙ sym (kind_by_bare (type_of_place Kx F x.place)) ∙ ap character_kind text in
            let count : element_count P.classes (place_type P.classes s x.place) ≡ len =
            ap (λ a. element_count P.classes (type_at P.classes a x.place.route)) (rel.type x.place.object x.known)
            ∙ count-here P.classes (type_of_place Kx F x.place) (integer kind) len text in
            let room-left : 0 + length b ≤ len = grind (arith, nat_tests, room, count) in
            let lead = left-leads P.classes (F.type x.place.object) x.place.route (left_of f) x.points x.left some-left in
            let same = own-place n o t (left_of f) pv x one.0 in
            let more = bytes-done P N.none function signature F names q r c_again helps program inside depth n o t (left_of f) pv x lead kind byte len text
            (rel.laid x.place.object x.known) b 0 room-left (bytes-at P N.none function signature F names q r n o t (left_of f) pv x some) told.parts z first.done.after
            first.done.since.rel
            (clear-more (F.type x.place.object) (part_of (at n o t)) told.parts x.place.object z
            (subst (λ a. Clear (F.type a) told.parts a z) (sym same) first.clear)) in
            subst (λ c. ActDone (with_names r (put_bytes c (at_byte n o) 0 b)) parts s u (with_bytes (character_kind (place_type P.classes s x.place)) x.place 0 b z)) (sym c_has)
            (subst (λ k. ActDone (with_names r (put_bytes kind (at_byte n o) 0 b)) parts s u (with_bytes k x.place 0 b z)) (sym has)
            (record {
              done = done-then Kx F names r c_again helps program inside depth [] (with_names r (put_bytes kind (at_byte n o) 0 b)) s u z (with_bytes kind x.place 0 b z)
                  first.done more.done;
              clear = clear-back n o t (left_of f) pv x one.0 some parts (with_bytes kind x.place 0 b z) more.clear;
              kept = λ a n. bytes-kept kind x.place 0 b z a (different a x.place.object (λ e. n (e ∙ same))) ∙ first.kept a n;
            })))
    filled i b x f mine e fit hx = absurd (true≢false (sym mine))

    -- ---- all

    pub act-done : (a : Action) → act_alike name g told a ≡ true → G (constant_done [] g a) (parts_by g told.parts a) (acts again P regs (renamed_action q a) s w)
    act-done (plain.reach n) e = reach-done (q n)
    act-done (plain.finish_static n) e = finish-done (q n)
    act-done (plain.truth i) e = truth-done i e
    act-done (plain.first i j) e =
        let two = both (is_own name (g i) (told.facts i)) (fits_first (g i) (g j) (told.facts j)) e in
        first-done i j (g i) (g j) (told.facts i) (told.facts j) two.0 two.1 (λ v is. known i v is) (λ v is. known j v is)
    act-done (plain.zeros i) e = zeros-done i (g i) (told.facts i) e (λ v is. known i v is)
    act-done (plain.bytes i b) e =
        let two = both (is_own name (g i) (told.facts i) && is_clear name (g i) told.parts) (takes_bytes (g i)) e in
        let one = both (is_own name (g i) (told.facts i)) (is_clear name (g i) told.parts) two.0 in
        filled i b (g i) (told.facts i) one.0 one.1 two.1 (λ v is. known i v is)
    act-done a e = absurd (true≢false (sym e))
