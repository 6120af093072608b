-- What stands at a point, behind the declaration of a local and behind its end.
use Rattle.std.proofs.Common.{◌≡◌, ℕ, suc, ◌<◌, Bool, true, false, ◌&&◌, ◌||◌, ◌==◌, not, if◌then◌else◌, List, [], ◌∷◌, refl, sym, ◌∙◌, ap, subst, arith}
use Rattle.std.specs.Prelude.{ℤ, Option, Some, None, map}
use Rattle.std.proofs.lemmas.Bool.Decides.{nat_tests}
use Rattle.cf_core.specs.Types.{Name, SourceType}
use Rattle.cf_core.specs.Store as source
use Rattle.cf_core.specs.Store.{Object, new_object, automatic}
use Rattle.cf_core.specs.Run.{State, upd, with_object, gone, lists_local}
use Rattle.cf_core.specs.Calls.{root}
use Rattle.cf_core.specs.Objects.{static_number}
use Rattle.cf_lower_layout.specs.Layout.{leads, const_once}
use Rattle.cf_plain.specs.Plain.{Register}
use Rattle.cf_plain.specs.Acts.{Registers}
use Rattle.cf_plain_frames.specs.Since.{HasValue}
use Rattle.cf_lower_kept.specs.Opened.{Opened, open_one, is_over, is_open_one, is_open, is_listed, closed, object_in, rows_of, begun_in, declared_in, declared_among}
use Rattle.cf_lower_turns.specs.Scene.{Scene}
use Rattle.cf_lower_bounds.specs.Points.{Stands, Begun, Part, Parts, moved_route, IsOpen, AllOpen, Open, InFrame}
use Rattle.cf_lower_bounds.proofs.Lists.{neither, open-closed}
use Rattle.cf_lower_points.proofs.Placed.{GoesOn, parts-again}
use Rattle.cf_lower_points.proofs.Standing.{Bounded, same-local}

some-object : {i j : ℕ} → Some i ≡ Some j → i ≡ j
some-object e = cc

-- an update, by the test of numbers
at-itself : (o : ℕ) → o == o ≡ true
at-itself o = grind (arith, nat_tests)

module _ (count : ℕ) where
  -- ---- a local is declared

  without-true : (b : Bool) → (b && true) ≡ false → b ≡ false
  without-true true e = absurd (let k = e in cc)
  without-true false e = refl

  module _ (s : State) (i : ℕ) (t : SourceType) (bounded : Bounded count s) (lt : i < count) (once : const_once t ≡ true) where
    abbrev pub declared : State
    declared = record s { next = suc s.next; object = upd s.next (new_object t automatic) s.object; frame = lists_local i s.next s.frame }

    older : (o : ℕ) → o < s.next → o == s.next ≡ false
    older o lo = grind (arith, nat_tests, lo)

    older-gone : (o : ℕ) → o < s.next → (declared.object o).is_gone ≡ (s.object o).is_gone
    older-gone o lo = ap (λ (b : Bool). (if b then new_object t automatic else s.object o).is_gone) (older o lo)

    older-type : (o : ℕ) → o < s.next → (declared.object o).type ≡ (s.object o).type
    older-type o lo = ap (λ (b : Bool). (if b then new_object t automatic else s.object o).type) (older o lo)

    older-value : (o : ℕ) → o < s.next → HasValue (s.object o) → HasValue (declared.object o)
    older-value o lo v = subst HasValue (sym (ap (λ (b : Bool). if b then new_object t automatic else s.object o) (older o lo))) v

    other-local : (j : ℕ) → j == i ≡ false → declared.frame.locals j ≡ s.frame.locals j
    other-local j ne = ap (λ (b : Bool). if b then Some s.next else s.frame.locals j) ne

    abbrev older-stands : (j : ℕ) → j == i ≡ false → Stands count j s → Stands count j declared
    older-stands j ne h = record {
      below = h.below;
      object = h.object;
      there = other-local j ne ∙ h.there;
      stands = older-gone h.object (bounded j h.object h.below h.there) ∙ h.stands;
    }

    older-goes : (j : ℕ) → j == i ≡ false → GoesOn count j s declared
    older-goes j ne h = ((older-stands j ne h).there, ((older-stands j ne h).stands, older-type h.object (bounded j h.object h.below h.there)))

    older-one : (g : Registers) (x : Opened) → x.local == i ≡ false → IsOpen count x g s → IsOpen count x g declared
    older-one g x ne h = record {
      way = h.way;
      told = h.told;
      there = λ e. older-stands x.local ne (h.there e);
      over = λ e o lo k.
          let before : s.frame.locals x.local ≡ Some o = sym (other-local x.local ne) ∙ k in
          older-gone o (bounded x.local o lo before) ∙ h.over e o lo before;
      begun = λ r e. let b = h.begun r e in record { one = older-stands x.local ne b.one; place = b.place };
      value = λ e.
          let v = h.value e in
          record { one = older-stands x.local ne v.one; value = older-value v.one.object (bounded x.local v.one.object v.one.below v.one.there) v.value };
      flag = h.flag;
      parts = λ r. parts-again count x.local r (x.places r) g g s declared (older-goes x.local ne) refl (h.parts r);
      last = h.last;
    }

    abbrev new-stands : Stands count i declared
    new-stands = record {
      below = lt;
      object = s.next;
      there = ap (λ (b : Bool). if b then Some s.next else s.frame.locals i) (at-itself i);
      stands = ap (λ (b : Bool). (if b then new_object t automatic else s.object s.next).is_gone) (at-itself s.next);
    }

    -- the place of the object itself
    new-part : (g : Registers) (r : Register) → g r ≡ Some (source.At (root s.next)) → (k : ℕ) → k < 1 → Part count i r k (rows_of t) g declared
    new-part g r place k lt = record {
      one = new-stands;
      route = [];
      place = place;
      inside = subst (λ j. leads [] (declared.object s.next).type (moved_route j []) ≡ true) (let e : 0 ≡ k = omega (arith, lt) in e) refl;
      rows = ap (λ (b : Bool). rows_of (if b then new_object t automatic else s.object s.next).type) (at-itself s.next);
      once = ap (λ (b : Bool). const_once (if b then new_object t automatic else s.object s.next).type) (at-itself s.next) ∙ once;
    }

    new-parts : (g : Registers) (b : Option Register) → ((r : Register) → b ≡ Some r → g r ≡ Some (source.At (root s.next))) → (r : Register)
        → Parts count i r (object_in b t r) g declared
    new-parts g None begun r = tt
    new-parts g (Some p) begun r = by_test (r == p) refl
      where
        by_test : (c : Bool) → r == p ≡ c → Parts count i r (if c then 1 ∷ rows_of t else []) g declared
        by_test false k = tt
        by_test true k = λ j lt. new-part g r (ap g (same-local r p k) ∙ begun p refl) j lt

    new-one : (g : Registers) (b : Option Register) (x : Opened) → x.local ≡ i → ((r : Register) → b ≡ Some r → g r ≡ Some (source.At (root s.next)))
        → ((r : Register) (n : ℤ) → x.last ≡ Some (r, n) → g r ≡ Some (source.Number n)) → IsOpen count (begun_in b t x) g declared
    new-one g b x same begun last = record {
      way = true;
      told = refl;
      there = λ e. subst (λ j. Stands count j declared) (sym same) new-stands;
      over = λ e. absurd (let k = e in cc);
      begun = λ r e. subst (λ j. Begun count j r g declared) (sym same) (let one : Begun count i r g declared = record { one = new-stands; place = begun r e } in one);
      value = λ e. absurd (let k = e in cc);
      flag = λ e. absurd (let k = e in cc);
      parts = λ r. subst (λ j. Parts count j r (object_in b t r) g declared) (sym same) (new-parts g b begun r);
      last = last;
    }

    -- of each local but this one what is told is still so
    declared-all : (g : Registers) (b : Option Register) (xs : List Opened) → ((r : Register) → b ≡ Some r → g r ≡ Some (source.At (root s.next))) → AllOpen count xs g s
        → AllOpen count (map (declared_in i b t) xs) g declared
    declared-all g b [] begun h = tt
    declared-all g b (x ∷ xs) begun h = (by_test (x.local == i) refl, declared-all g b xs begun h.1)
      where
        by_test : (c : Bool) → x.local == i ≡ c → IsOpen count (if c then begun_in b t x else x) g declared
        by_test true k = new-one g b x (same-local x.local i k) begun h.0.last
        by_test false k = older-one g x k h.0

    older-all : (g : Registers) (xs : List Opened) → is_listed i xs ≡ false → AllOpen count xs g s → AllOpen count xs g declared
    older-all g [] fresh h = tt
    older-all g (x ∷ xs) fresh h =
        let two = neither (x.local == i) (is_listed i xs) fresh in
        (older-one g x two.0 h.0, older-all g xs two.1 h.1)

    is_open-declared : (b : Option Register) (xs : List Opened) → is_listed i xs ≡ true → is_open i (map (declared_in i b t) xs) ≡ true
    is_open-declared b [] e = absurd (let k = e in cc)
    is_open-declared b (x ∷ xs) e = by_test (is_open-declared b xs) (x.local == i) refl e
      where
        by_test : (is_listed i xs ≡ true → is_open i (map (declared_in i b t) xs) ≡ true) → (c : Bool) → x.local == i ≡ c → (c || is_listed i xs) ≡ true
            → (is_open_one i (if c then begun_in b t x else x) || is_open i (map (declared_in i b t) xs)) ≡ true
        by_test rest true k l = ap (λ d. (d && true) || is_open i (map (declared_in i b t) xs)) k
        by_test rest false k l =
            ap (λ d. (d && not (is_over x.stands)) || is_open i (map (declared_in i b t) xs)) k ∙ rest l

    is_open-older : (b : Option Register) (j : ℕ) → j == i ≡ false → (xs : List Opened) → is_open j (map (declared_in i b t) xs) ≡ is_open j xs
    is_open-older b j ne [] = refl
    is_open-older b j ne (x ∷ xs) =
        ap (λ c. c || is_open j (map (declared_in i b t) xs)) (by_test (x.local == i) refl) ∙ ap (λ c. is_open_one j x || c) (is_open-older b j ne xs)
      where
        by_test : (c : Bool) → x.local == i ≡ c → is_open_one j (if c then begun_in b t x else x) ≡ is_open_one j x
        by_test true k =
            let other : x.local == j ≡ false = grind (arith, nat_tests, k, ne) in
            ap (λ c. c && true) other ∙ sym (ap (λ c. c && not (is_over x.stands)) other)
        by_test false k = refl

    pub open-declared : (g : Registers) (b : Option Register) (xs : List Opened) → Open count xs g s
        → ((r : Register) → b ≡ Some r → g r ≡ Some (source.At (root s.next))) → Open count (declared_among i b t xs) g declared
    open-declared g b xs h begun = by_test (is_listed i xs) refl
      where
        other-than : (j : ℕ) → i == j ≡ false → j == i ≡ false
        other-than j ne = grind (arith, nat_tests, ne)

        listed-over : is_listed i xs ≡ true → (j o : ℕ) → j < count → is_open j (map (declared_in i b t) xs) ≡ false → declared.frame.locals j ≡ Some o → (c : Bool) → i == j ≡ c
            → (declared.object o).is_gone ≡ true
        listed-over listed j o lj none e true k =
            let same : i ≡ j = same-local i j k in
            absurd (let both_ways : true ≡ false = sym (is_open-declared b xs listed) ∙ subst (λ n. is_open n (map (declared_in i b t) xs) ≡ false) (sym same) none in cc)
        listed-over listed j o lj none e false k =
            let ne = other-than j k in
            let before : s.frame.locals j ≡ Some o = sym (other-local j ne) ∙ e in
            older-gone o (bounded j o lj before) ∙ h.over j o lj (sym (is_open-older b j ne xs) ∙ none) before

        by_test : (c : Bool) → is_listed i xs ≡ c → Open count (if c then map (declared_in i b t) xs else begun_in b t (open_one i b false) ∷ xs) g declared
        by_test true listed = record {
          each = declared-all g b xs begun h.each;
          over = λ j o lj none e. listed-over listed j o lj none e (i == j) refl;
        }
        by_test false fresh = record {
          each = (new-one g b (open_one i b false) refl begun (λ r n e. absurd (let k = e in cc)), older-all g xs fresh h.each);
          over = λ j o lj none e.
              let two = neither (is_open_one j (begun_in b t (open_one i b false))) (is_open j xs) none in
              let ne = other-than j (without-true (i == j) two.0) in
              let before : s.frame.locals j ≡ Some o = sym (other-local j ne) ∙ e in
              older-gone o (bounded j o lj before) ∙ h.over j o lj two.1 before;
        }

    pub frame-declared : (z : Scene) → InFrame z s → ((name : Name) (o : ℕ) → static_number z.program name ≡ Some o → o < s.next) → InFrame z declared
    frame-declared z h below = record {
      function = h.function;
      depth = h.depth;
      statics = λ name o e. record {
        stands = older-gone o (below name o e) ∙ (h.statics name o e).stands;
        apart = λ j k. by_test name o e j (j == i) refl k;
      };
    }
      where
        by_test : (name : Name) (o : ℕ) → static_number z.program name ≡ Some o → (j : ℕ) (b : Bool) → j == i ≡ b → declared.frame.locals j ≡ Some o → ⊥
        by_test name o e j true q k =
            let same : s.next ≡ o = some-object (sym (ap (λ (b : Bool). if b then Some s.next else s.frame.locals j) q) ∙ k) in
            let lo = below name o e in
            omega (arith, same, lo)
        by_test name o e j false q k = (h.statics name o e).apart j (sym (other-local j q) ∙ k)

  -- ---- a local ends

  module _ (s : State) (i o : ℕ) (there : s.frame.locals i ≡ Some o)
      (alone : (j : ℕ) → j < count → s.frame.locals j ≡ Some o → (s.object o).is_gone ≡ false → j ≡ i) where
    abbrev pub finished : State
    finished = with_object o gone s

    other-object : (p : ℕ) → p == o ≡ false → finished.object p ≡ s.object p
    other-object p ne = ap (λ (b : Bool). if b then gone (s.object o) else s.object p) ne

    this-gone : (p : ℕ) → p == o ≡ true → (finished.object p).is_gone ≡ true
    this-gone p e = ap (λ (b : Bool). (if b then gone (s.object o) else s.object p).is_gone) e

    -- what has ended stays so
    still-gone : (p : ℕ) → (s.object p).is_gone ≡ true → (finished.object p).is_gone ≡ true
    still-gone p e = by_test (p == o) refl
      where
        by_test : (b : Bool) → p == o ≡ b → (finished.object p).is_gone ≡ true
        by_test true q = this-gone p q
        by_test false q = ap (λ (x : Object). x.is_gone) (other-object p q) ∙ e

    apart : (j : ℕ) → j == i ≡ false → (h : Stands count j s) → h.object == o ≡ false
    apart j ne h = by_test (h.object == o) refl
      where
        by_test : (b : Bool) → h.object == o ≡ b → h.object == o ≡ false
        by_test false q = q
        by_test true q =
            let at : h.object ≡ o = grind (arith, nat_tests, q) in
            let same : j ≡ i = alone j h.below (subst (λ p. s.frame.locals j ≡ Some p) at h.there) (subst (λ p. (s.object p).is_gone ≡ false) at h.stands) in
            absurd (grind (arith, nat_tests, ne, same))

    abbrev other-stands : (j : ℕ) → j == i ≡ false → Stands count j s → Stands count j finished
    other-stands j ne h = record {
      below = h.below;
      object = h.object;
      there = h.there;
      stands = ap (λ (y : Object). y.is_gone) (other-object h.object (apart j ne h)) ∙ h.stands;
    }

    other-goes : (j : ℕ) → j == i ≡ false → GoesOn count j s finished
    other-goes j ne h =
        ((other-stands j ne h).there, ((other-stands j ne h).stands, ap (λ (y : Object). y.type) (other-object h.object (apart j ne h))))

    other-one : (g : Registers) (x : Opened) → x.local == i ≡ false → IsOpen count x g s → IsOpen count x g finished
    other-one g x ne h = record {
      way = h.way;
      told = h.told;
      there = λ e. other-stands x.local ne (h.there e);
      over = λ e p lp k. still-gone p (h.over e p lp k);
      begun = λ r e. let b = h.begun r e in record { one = other-stands x.local ne b.one; place = b.place };
      value = λ e.
          let v = h.value e in
          record { one = other-stands x.local ne v.one; value = subst HasValue (sym (other-object v.one.object (apart x.local ne v.one))) v.value };
      flag = h.flag;
      parts = λ r. parts-again count x.local r (x.places r) g g s finished (other-goes x.local ne) refl (h.parts r);
      last = h.last;
    }

    closed-all : (g : Registers) (xs : List Opened) → AllOpen count xs g s → AllOpen count (closed i xs) g finished
    closed-all g [] h = tt
    closed-all g (x ∷ xs) h = by_test (closed-all g xs h.1) (x.local == i) refl
      where
        by_test : AllOpen count (closed i xs) g finished → (b : Bool) → x.local == i ≡ b
            → AllOpen count (if not b then x ∷ closed i xs else closed i xs) g finished
        by_test rest true q = rest
        by_test rest false q = (other-one g x q h.0, rest)

    pub open-finished : (g : Registers) (xs : List Opened) → Open count xs g s → Open count (closed i xs) g finished
    open-finished g xs h = record { each = closed-all g xs h.each; over = λ j p lj fresh e. by_test j p lj fresh e (j == i) refl }
      where
        by_test : (j p : ℕ) → j < count → is_open j (closed i xs) ≡ false → s.frame.locals j ≡ Some p → (b : Bool) → j == i ≡ b → (finished.object p).is_gone ≡ true
        by_test j p lj fresh e true q =
            let at : p ≡ o = some-object (sym e ∙ ap s.frame.locals (same-local j i q) ∙ there) in
            this-gone p (grind (arith, nat_tests, at))
        by_test j p lj fresh e false q = still-gone p (h.over j p lj (open-closed i j q xs fresh) e)

    pub frame-finished : (z : Scene) → InFrame z s → InFrame z finished
    frame-finished z h = record {
      function = h.function;
      depth = h.depth;
      statics = λ name p e. record {
        stands = ap (λ (x : Object). x.is_gone) (other-object p (by_test name p e (p == o) refl)) ∙ (h.statics name p e).stands;
        apart = (h.statics name p e).apart;
      };
    }
      where
        by_test : (name : Name) (p : ℕ) → static_number z.program name ≡ Some p → (b : Bool) → p == o ≡ b → p == o ≡ false
        by_test name p e false q = q
        by_test name p e true q =
            let at : o ≡ p = grind (arith, nat_tests, q) in
            absurd ((h.statics name p e).apart i (there ∙ ap (λ (n : ℕ). Some n) at))

  -- ---- a local without an object ends for nothing

  module _ (s : State) (i : ℕ) (none : s.frame.locals i ≡ None) (g : Registers) where
    all-but : (xs : List Opened) → AllOpen count xs g s → AllOpen count (closed i xs) g s
    all-but [] h = tt
    all-but (x ∷ xs) h = by_test (all-but xs h.1) (x.local == i)
      where
        by_test : AllOpen count (closed i xs) g s → (b : Bool) → AllOpen count (if not b then x ∷ closed i xs else closed i xs) g s
        by_test rest true = rest
        by_test rest false = (h.0, rest)

    pub open-nothing : (xs : List Opened) → Open count xs g s → Open count (closed i xs) g s
    open-nothing xs h = record { each = all-but xs h.each; over = λ j p lj fresh e. by_test j p lj fresh e (j == i) refl }
      where
        no-object : {p : ℕ} → None ≡ Some p → ⊥
        no-object e = absurd (let k = e in cc)

        by_test : (j p : ℕ) → j < count → is_open j (closed i xs) ≡ false → s.frame.locals j ≡ Some p → (b : Bool) → j == i ≡ b → (s.object p).is_gone ≡ true
        by_test j p lj fresh e true q = absurd (no-object (sym none ∙ ap s.frame.locals (sym (same-local j i q)) ∙ e))
        by_test j p lj fresh e false q = h.over j p lj (open-closed i j q xs fresh) e
