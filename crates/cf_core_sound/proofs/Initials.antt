-- Initialisers: at a place of the type that it initialises, none is malformed from a sound moment.
use Rattle.std.proofs.Common.{◌≡◌, ℕ, zero, suc, ◌-◌, nat_lt, nat_le, Bool, true, false, ◌&&◌, ◌||◌, not, List, [], ◌∷◌, pos, ◌⊎◌, inl, inr, refl, sym, ap, ◌∙◌, subst, true≢false, arith, length}
use Rattle.std.specs.Prelude.{Option, Some, None, is_some, slice_get}
use Rattle.std.proofs.lemmas.Bool.Decides.{nat_tests}
use Rattle.cf_base.proofs.Tests.{both}
use Rattle.cf_base.specs.declared.kind.Kind.{Kind}
use Rattle.cf_base.specs.Integers.{convert as converted}
use Rattle.cf_core.specs.Types.{SourceType, void, integer, enumeration, class, pointer, reference, array, takes, gives as gives_type, data_member, function_member, const, plain, element, same_but_const, is_class, is_array}
use Rattle.cf_core.specs.Classes.{Class, class_named, fields_of}
use Rattle.cf_core.specs.Core as core
use Rattle.cf_core.specs.Core.{Core, Cores, local_temporary, item, Function, Static}
use Rattle.cf_core.specs.Places.{Place, inner, is_scalar, is_reference}
use Rattle.cf_core.specs.Store.{Value, Missing, Built, Number, At}
use Rattle.cf_core.specs.Run.{State, Act, ◌>>=◌, ◌>>◌, gives, done, valid, when, for_each, declared_object, frame_changed, lists_local, lists_in_scope}
use Rattle.cf_core.specs.Access.{place_type, first_value, fill_zeros}
use Rattle.cf_core.specs.Calls.{Program, Setting, Again, root, full_expression}
use Rattle.cf_core.specs.Objects.{new_local, settle, settled, built_at, character_kind, write_bytes, element_part, element_count, begin_list, end_list, costs_tick, one_tick, count}
use Rattle.cf_core.specs.Expressions.{value, elements}
use Rattle.cf_core.specs.Typing.{Scope, Typing, is_function, same_type}
use Rattle.cf_core.specs.Typed.{typing, typings, binds, all_start, fields_start, list_starts, each_starts, is_char, string_starts}
use Rattle.cf_core_typed.specs.Same.{takes_const}
use Rattle.cf_elab_numbers.proofs.Fits.{convert-fits}
use Rattle.cf_core_sound.specs.Proper.{most, is_proper, Whole, shape}
use Rattle.cf_core_sound.specs.Values.{Leads, IsOf, Fit, told_start}
use Rattle.cf_core_sound.specs.States.{Stands, Sound, Behind}
use Rattle.cf_core_sound.specs.Well.{Well}
use Rattle.cf_core_sound.specs.Simple.{is_simple, is_whole}
use Rattle.cf_core_sound.specs.Statements.{has_none, is_simple_initial, are_simple_initials}
use Rattle.cf_core_sound.specs.Calls.{Bodies, Around, classless}
use Rattle.cf_core_sound.proofs.Shapes.{same-shape, function-shape, whole-tested}
use Rattle.cf_core_sound.proofs.Moments.{stands-later}
use Rattle.cf_core_sound.proofs.States.{frame-behind, local-behind}
use Rattle.cf_core_sound.proofs.Access.{Target, target-later, well-declared, well-first, well-settle-scalar, well-zeros}
use Rattle.cf_core_sound.proofs.Good.{Good, good}
use Rattle.cf_core_sound.proofs.Typings.{or-cases}
use Rattle.cf_core_sound.proofs.Names.{below-there}
use Rattle.cf_core_sound.proofs.Parts.{Operand}
use Rattle.cf_core_sound.proofs.Changing.{settled-well, target-stands}
use Rattle.cf_core_sound.proofs.Scopes.{Stays, full-well}
use Rattle.cf_core_sound.proofs.Values.{value-well}
use Rattle.cf_core_sound.proofs.Wells.{well-then, well-next, well-gives, well-at, well-as, well-valid, well-changed, well-tick}

pub no-test : false ≡ true → ⊥
no-test e = true≢false (sym e)

not-true : (b : Bool) → not b ≡ true → b ≡ false
not-true true h = absurd (true≢false (sym h))
not-true false h = refl

pub three : (a b c : Bool) → (a && b && c) ≡ true → (a ≡ true) × (b ≡ true) × (c ≡ true)
three true true c e = (refl, refl, e)
three true false c e = absurd (no-test e)
three false b c e = absurd (no-test e)

-- a local of a type that is the same but for const
pub local-there : (x : Option SourceType) (t : SourceType) → same_type x t ≡ true → (u : SourceType) × (x ≡ Some u) × (shape u ≡ shape t)
local-there None t e = absurd (no-test e)
local-there (Some u) t e = (u, refl, same-shape u t e)

-- the temporary that a reference binds
record Held (x : Typing) (locals : List SourceType) (i : ℕ) (u t : SourceType) : Type 0 where
  to : SourceType
  reference : shape t ≡ reference (shape to)
  same : shape u ≡ shape to
  local : SourceType
  there : slice_get locals i ≡ Some local
  alike : shape local ≡ shape u
  start : x.start u ≡ true
  scalar : is_scalar t ≡ true

held-told : (scope : Scope) (x : Typing) (i : ℕ) (u t : SourceType) → binds scope (local_temporary i u) x t ≡ true → Held x scope.locals i u t
held-told scope x i u (reference t) e =
    let parts = three (same_but_const u t) (same_type (slice_get scope.locals i) u) (x.start u) e in
    let there = local-there (slice_get scope.locals i) u parts.1 in
    record { to = t; reference = refl; same = same-shape u t parts.0; local = there.0; there = there.1; alike = there.2; start = parts.2; scalar = refl }
held-told scope x i u (const t) e =
    let k = held-told scope x i u t e in
    record { to = k.to; reference = k.reference; same = k.same; local = k.local; there = k.there; alike = k.alike; start = k.start; scalar = k.scalar }
held-told scope x i u void e = absurd (no-test e)
held-told scope x i u (integer k) e = absurd (no-test e)
held-told scope x i u (enumeration n) e = absurd (no-test e)
held-told scope x i u (class c) e = absurd (no-test e)
held-told scope x i u (pointer t) e = absurd (no-test e)
held-told scope x i u (array t n) e = absurd (no-test e)
held-told scope x i u (takes p t) e = absurd (no-test e)
held-told scope x i u (gives_type t c) e = absurd (no-test e)
held-told scope x i u (data_member c t) e = absurd (no-test e)
held-told scope x i u (function_member c t) e = absurd (no-test e)

-- ---- arrays

-- an array's type, with no const on it
record Row (t : SourceType) : Type 0 where
  of : SourceType
  bound : ℕ
  is : t ≡ array of bound

no-row : (t : SourceType) → takes_const t ≡ true → is_array t ≡ true → ⊥
no-row (array t n) c e = no-test c
no-row (const t) c e = no-test c
no-row t c e = no-test e

row : (t : SourceType) → is_proper t ≡ true → is_array t ≡ true → Row t
row (array t n) p e = record { of = t; bound = n; is = refl }
row (const t) p e = absurd (no-row t (both (takes_const t) (is_proper t) p).0 e)
row t p e = absurd (no-test e)

element-proper : (t : SourceType) (n : ℕ) → is_proper (array t n) ≡ true → is_proper t ≡ true
element-proper t n p = (both (is_proper t) (not (is_function t) && nat_le n most) (both (not (is_reference t)) (is_proper t && (not (is_function t) && nat_le n most)) p).1).0

string-array : (scope : Scope) (m : ℕ) (t : SourceType) → string_starts scope m t ≡ true → is_array t ≡ true
string-array scope m (array t n) e = refl
string-array scope m (const t) e = string-array scope m t e
string-array scope m t e = absurd (no-test e)

each-array : (scope : Scope) (x : Typing) (t : SourceType) → each_starts scope x t ≡ true → is_array t ≡ true
each-array scope x (array t n) e = refl
each-array scope x (const t) e = each-array scope x t e
each-array scope x t e = absurd (no-test e)

-- a list is an array's, where no class is there
no-class : (classes : List Class) → has_none classes ≡ true → classes ≡ []
no-class [] e = refl
no-class (c ∷ classes) e = absurd (no-test e)

list-array : (scope : Scope) → has_none scope.classes ≡ true → (xs : List Typing) (rest : Typing) (t : SourceType) → list_starts scope xs rest t ≡ true → is_array t ≡ true
list-array scope none xs rest (array t n) e = refl
list-array scope none xs rest (const t) e = list-array scope none xs rest t e
list-array scope none xs rest (class c) e =
    absurd (no-test (ap (λ cs. is_some (class_named cs c)) (sym (no-class scope.classes none))
    ∙ (both (is_some (class_named scope.classes c)) (fields_start scope (fields_of scope.classes c) xs rest) e).0))
list-array scope none xs rest t e = absurd (no-test e)

-- the type of a character is its kind
char-shape : (scope : Scope) (t : SourceType) → is_char scope t ≡ true → shape t ≡ integer (character_kind t)
char-shape scope (integer k) e = refl
char-shape scope (const t) e = char-shape scope t e
char-shape scope t e = absurd (no-test e)

counted : (scope : Scope) (es : Cores) → count es ≡ length (typings scope es)
counted scope core.none = refl
counted scope (core.more e es) = ap suc (counted scope es)

-- nothing is left behind as many as there are
none-left : (n c : ℕ) → nat_le n c ≡ true → n - c ≡ 0
none-left n c e = grind (arith, nat_tests, e)

target-element : (s : State) (t : SourceType) (n i : ℕ) (p : Place) → Target s (array t n) p → Target s t (inner (item i) p)
target-element s t n i p at = record { below = at.below; is = ap (λ u. element (plain u)) at.is }

module _ (again : Again) (fs : List Function) (xs : List Static) (ks : List Setting) (inits : List Function) (S : Scope)
    (around : Around (classless fs xs ks inits) S.locals) (bodies : Bodies (classless fs xs ks inits) again) where
  abbrev P : Program
  P = classless fs xs ks inits

  abbrev L : List SourceType
  L = S.locals

  abbrev Done : Unit {0} → State → Type 0
  Done = λ _ u. Unit {0}

  pub val : (e : Core) → is_simple P S e ≡ true → (into : Option Place) → Operand P S L (typing S e) (value again P e into)
  val e ok into = record { by = λ s h told. value-well again fs xs ks inits S around bodies e ok told into s h }

  pub G : (e : Core) → is_simple P S e ≡ true → Good (typing S e)
  G e ok = good P S (λ i t k. (around.locals i t k).0) e ok

  pub unit-stays : (A : Type 0) → Stays again fs xs ks inits L {A = A} (λ a u. Unit {0})
  unfolding Stays
  unit-stays A a s t l q = tt

  -- ---- locals

  pub new-well : (s : State) (i : ℕ) (t u : SourceType) → Sound P L s → is_proper t ≡ true → slice_get L i ≡ Some u → shape u ≡ shape t → Well P L s (λ o u. Target u t (root o)) (new_local i t)
  new-well s i t u h p there same = well-at P L s (λ s. valid (nat_lt i s.frame.count) >> (declared_object t >>= (λ o. frame_changed (lists_local i o) >> gives o))) h
      (well-valid P L s (nat_lt i s.frame.count) (declared_object t >>= (λ o. frame_changed (lists_local i o) >> gives o)) (ap (nat_lt i) h.count ∙ below-there L i u there)
      (well-then P L s (declared_object t) (λ o. frame_changed (lists_local i o) >> gives o) (well-declared P L s t h p) (λ o v b at.
      let stands : Stands v u o = record { below = at.below; same = ap shape at.is ∙ sym same } in
      well-next P L v (frame_changed (lists_local i o)) (gives o)
      (well-changed P L v (λ s. record s { frame = lists_local i o s.frame }) (local-behind P L v b.sound (lists_local i o v.frame) i o u refl refl refl there stands)) (λ _ w c e.
      well-gives P L w o c.sound (target-later v w t (root o) c.later at)))))

  pub listed-well : (s : State) (o : ℕ) → Sound P L s → Well P L s Done (frame_changed (lists_in_scope o))
  listed-well s o h = well-as P L s (frame_changed (lists_in_scope o)) (well-changed P L s (λ s. record s { frame = lists_in_scope o s.frame }) (frame-behind P L s h (lists_in_scope o s.frame) refl refl refl)) (λ _ u b e. tt)

  -- an initialiser that builds its place by itself
  built-well : (s : State) (p : Place) (act : Act Value) → Sound P L s → ((u : State) → Behind P L s u → Well P L u (λ v u. v ≡ Built) act) → Well P L s Done (full_expression again P (settled [] p act))
  built-well s p act h k =
      full-well again fs xs ks inits L s (settled [] p act) h (unit-stays _) (λ u b.
      well-then P L u act (settle [] p) (k u b) (λ v w c e.
      subst (λ x. Well P L w Done (settle [] p x)) (sym e) (well-gives P L w tt c.sound tt)))

  -- a scalar's initialiser
  scalar-well : (s : State) (t : SourceType) (p : Place) (act : Act Value) → Sound P L s → Target s t p → is_scalar t ≡ true
      → ((u : State) → Behind P L s u → Well P L u (λ v u. (v ≡ Missing) ⊎ IsOf P u (shape t) v) act) → Well P L s Done (full_expression again P (settled [] p act))
  scalar-well s t p act h at sc k =
      full-well again fs xs ks inits L s (settled [] p act) h (unit-stays _) (λ u b.
      well-then P L u act (settle [] p) (k u b) (λ v w c q.
      well-as P L w (settle [] p v)
      (well-settle-scalar P L w t p v c.sound (target-later u w t p c.later (target-later s u t p b.later at)) sc q) (λ _ x d e. tt)))

  simple-initial : (s : State) (t : SourceType) (p : Place) (e : Core) → Sound P L s → Target s t p → is_simple P S e ≡ true → (typing S e).start t ≡ true
      → Well P L s Done (full_expression again P (settled [] p (value again P e (Some p))))
  simple-initial s t p e h at ok k = scalar-well s t p (value again P e (Some p)) h at ((G e ok).start t k) (λ u b.
      well-as P L u (value again P e (Some p)) ((val e ok (Some p)).by u b.sound (told_start t k)) (λ v w c q. started v w q))
    where
      started : (v : Value) (w : State) → Fit P w (typing S e) v → (v ≡ Missing) ⊎ IsOf P w (shape t) v
      started v w (inl m) = inl m
      started v w (inr g) = inr (g.start t k)

  -- a reference that binds a temporary, which is a local too
  held-initial : (s : State) (t u : SourceType) (p : Place) (j : ℕ) (e : Core) → Sound P L s → Target s t p → Whole u → is_function u ≡ false → is_simple P S e ≡ true → Held (typing S e) L j u t
      → Well P L s Done (full_expression again P (settled [] p (value again P (core.bind (local_temporary j u) e) (Some p))))
  held-initial s t u p j e h at whole n ok k = scalar-well s t p (value again P (core.bind (local_temporary j u) e) (Some p)) h at k.scalar (λ v b.
      well-then P L v (new_local j u) (λ q. settled [] (root q) (value again P e (Some (root q))) >> (frame_changed (lists_in_scope q) >> gives (At (root q))))
      (new-well v j u k.local b.sound whole.proper k.there k.alike) (λ q w c at.
      well-next P L w (settled [] (root q) (value again P e (Some (root q)))) (frame_changed (lists_in_scope q) >> gives (At (root q)))
      (settled-well P S L w u q (typing S e) (value again P e (Some (root q))) c.sound at ((G e ok).start u k.start) k.start (val e ok (Some (root q)))) (λ _ x d held.
      well-next P L {Q = Done} x (frame_changed (lists_in_scope q)) (gives (At (root q))) (listed-well x q d.sound) (λ _ y g e.
      let st = stands-later x y u q g.later (target-stands P S L w x u q d.later at) in
      let is : IsOf P y (shape t) (At (root q)) = subst (λ a. IsOf P y a (At (root q))) (sym k.reference)
      (subst (λ a. Leads P y a (At (root q))) k.same (function-shape u whole.proper ∙ n, record { below = st.below; same = inr st.same; near = tt })) in
      well-gives P L y (At (root q)) g.sound (inr is)))))

  -- zeros at a place
  zeros-well : (s : State) (t : SourceType) (p : Place) → Sound P L s → Target s t p → is_proper t ≡ true → is_reference t ≡ false → Well P L s Done (fill_zeros [] p)
  zeros-well s t p h at proper n = well-zeros P L s p h (subst Whole (sym at.is) (record { proper = proper; no_reference = n }))

  -- ---- characters

  -- an element holds a character, converted to its kind
  write-well : (s : State) (t : SourceType) (n : ℕ) (k : Kind) (p : Place) (i : ℕ) (bytes : List ℕ) → Sound P L s → Target s (array t n) p → shape t ≡ integer k
      → Well P L s Done (write_bytes k p i bytes)
  write-well s t n k p i [] h at is = well-gives P L s tt h tt
  write-well s t n k p i (b ∷ rest) h at is =
      let to = target-element s t n i p at in
      let held : IsOf P s (integer k) (Number (converted k (pos b))) = (converted k (pos b), refl, convert-fits k (pos b)) in
      well-next P L {Q = Done} s (first_value (inner (item i) p) (Number (converted k (pos b)))) (write_bytes k p (suc i) rest)
      (well-first P L s (inner (item i) p) (Number (converted k (pos b))) h (subst (λ a. IsOf P s a (Number (converted k (pos b)))) (sym (ap shape to.is ∙ is)) held))
      (λ _ u c q. write-well u t n k p (suc i) rest c.sound (target-later s u (array t n) p c.later at) is)

  abbrev string_act : List ℕ → Place → SourceType → Act Value
  string_act bytes p t = valid (is_array t && nat_le (length bytes) (element_count [] t)) >> (fill_zeros [] p >> (write_bytes (character_kind t) p 0 bytes >> gives Built))

  string-well : (s : State) (t : SourceType) (n : ℕ) (p : Place) (bytes : List ℕ) → Sound P L s → Target s (array t n) p → is_proper (array t n) ≡ true → string_starts S (length bytes) (array t n) ≡ true
      → Well P L s (λ v u. v ≡ Built) (value again P (core.string bytes) (Some p))
  string-well s t n p bytes h at proper k =
      let parts = both (is_char S t) (nat_le (length bytes) n) k in
      record {
        by = λ w input. (well-at P L s (λ s. string_act bytes p (place_type [] s p)) h (subst (λ a. Well P L s (λ v u. v ≡ Built) (string_act bytes p a)) (sym at.is)
            (well-valid P L s (nat_le (length bytes) n) (fill_zeros [] p >> (write_bytes (character_kind t) p 0 bytes >> gives Built)) parts.1
            (well-next P L {Q = Done} s (fill_zeros [] p) (write_bytes (character_kind t) p 0 bytes >> gives Built) (zeros-well s (array t n) p h at proper refl) (λ _ u b q.
            well-next P L {Q = Done} u (write_bytes (character_kind t) p 0 bytes) (gives Built)
            (write-well u t n (character_kind t) p 0 bytes b.sound (target-later s u (array t n) p b.later at) (char-shape S t parts.0)) (λ _ v c r.
            well-gives P L v Built c.sound refl)))))).by w input;
      }

  -- ---- elements

  -- so many elements, each by one initialiser
  rounds-well : (s : State) (t : SourceType) (n i m : ℕ) (p : Place) (b : Bool) (act : Place → Act (Unit {0})) → Sound P L s → Target s (array t n) p
      → ((u : State) (q : Place) → Sound P L u → Target u t q → Well P L u Done (act q)) → Well P L s Done (for_each i m (λ j. one_tick b >> act (inner (item j) p)))
  rounds-well s t n i zero p b act h at go = well-gives P L s tt h tt
  rounds-well s t n i (suc m) p b act h at go =
      well-next P L {Q = Done} s (one_tick b >> act (inner (item i) p)) (for_each (suc i) m (λ j. one_tick b >> act (inner (item j) p)))
      (well-tick P L s b (act (inner (item i) p)) h (λ u d. go u (inner (item i) p) d.sound (target-element u t n i p (target-later s u (array t n) p d.later at))))
      (λ _ v c q. rounds-well v t n (suc i) m p b act c.sound (target-later s v (array t n) p c.later at) go)

  -- a place that an initialiser begins by itself
  abbrev begins : Core → Place → Act (Unit {0})
  begins e q = full_expression again P (settled [] q (value again P e (Some q)))

  abbrev each_act : Core → Place → SourceType → Act Value
  each_act e p t = valid (is_array t) >> (for_each 0 (element_count [] t) (λ i. one_tick (costs_tick e [] (element (plain t))) >> begins e (inner (item i) p)) >> gives Built)

  each-well : (s : State) (t : SourceType) (n : ℕ) (p : Place) (e : Core) → Sound P L s → Target s (array t n) p
      → ((u : State) (q : Place) → Sound P L u → Target u t q → Well P L u Done (begins e q)) → Well P L s (λ v u. v ≡ Built) (value again P (core.each e) (Some p))
  each-well s t n p e h at go = record {
    by = λ w input. (well-at P L s (λ s. each_act e p (place_type [] s p)) h (subst (λ a. Well P L s (λ v u. v ≡ Built) (each_act e p a)) (sym at.is)
        (well-valid P L s true (for_each 0 n (λ i. one_tick (costs_tick e [] t) >> begins e (inner (item i) p)) >> gives Built) refl
        (well-next P L {Q = Done} s (for_each 0 n (λ i. one_tick (costs_tick e [] t) >> begins e (inner (item i) p))) (gives Built)
        (rounds-well s t n 0 n p (costs_tick e [] t) (begins e) h at go) (λ _ u b q. well-gives P L u Built b.sound refl))))).by w input;
  }

  -- what is left out of a list of so many elements
  rest-well : (s : State) (t : SourceType) (n c : ℕ) (p : Place) (rest : Core) → Sound P L s → Target s (array t n) p → nat_le n c || (typing S rest).start t ≡ true
      → ((typing S rest).start t ≡ true → (u : State) (q : Place) → Sound P L u → Target u t q → Well P L u Done (begins rest q))
      → Well P L s Done (for_each c (n - c) (λ i. one_tick (costs_tick rest [] t) >> begins rest (inner (item i) p)))
  rest-well s t n c p rest h at k go = by_left (or-cases (nat_le n c) ((typing S rest).start t) k)
    where
      by_left : (nat_le n c ≡ true) ⊎ ((typing S rest).start t ≡ true) → Well P L s Done (for_each c (n - c) (λ i. one_tick (costs_tick rest [] t) >> begins rest (inner (item i) p)))
      by_left (inl e) = subst (λ m. Well P L s Done (for_each c m (λ i. one_tick (costs_tick rest [] t) >> begins rest (inner (item i) p)))) (sym (none-left n c e)) (well-gives P L s tt h tt)
      by_left (inr e) = rounds-well s t n c (n - c) p (costs_tick rest [] t) (begins rest) h at (go e)

  abbrev list_act : Cores → Core → Place → SourceType → Act Value
  list_act es rest p t =
      valid ((is_array t || is_class t) && nat_le (count es) (element_count [] t))
      >> (when (is_class t) (begin_list p) done
      >> (elements again P es 0 p t
      >> (for_each (count es) (element_count [] t - count es) (λ i. one_tick (is_array t && costs_tick rest [] (element (plain t))) >> begins rest (inner (element_part t i) p))
      >> (when (is_class t) (end_list p) done >> gives Built))))

  -- a list: its elements, and what is left out
  list-well : (s : State) (t : SourceType) (n : ℕ) (p : Place) (es : Cores) (rest : Core) → Sound P L s → Target s (array t n) p → list_starts S (typings S es) (typing S rest) (array t n) ≡ true
      → ((u : State) → Sound P L u → Target u (array t n) p → Well P L u Done (elements again P es 0 p (array t n)))
      → ((typing S rest).start t ≡ true → (u : State) (q : Place) → Sound P L u → Target u t q → Well P L u Done (begins rest q))
      → Well P L s (λ v u. v ≡ Built) (value again P (core.list es rest) (Some p))
  list-well s t n p es rest h at k elements_go rest_go =
      let parts = three (nat_le (length (typings S es)) n) (all_start S t (typings S es)) (nat_le n (length (typings S es)) || (typing S rest).start t) k in
      let left : nat_le n (count es) || (typing S rest).start t ≡ true = subst (λ c. nat_le n c || (typing S rest).start t ≡ true) (sym (counted S es)) parts.2 in
      let each_left = for_each (count es) (n - count es) (λ i. one_tick (costs_tick rest [] t) >> begins rest (inner (item i) p)) in
      record {
        by = λ w input. (well-at P L s (λ s. list_act es rest p (place_type [] s p)) h (subst (λ a. Well P L s (λ v u. v ≡ Built) (list_act es rest p a)) (sym at.is)
            (well-valid P L s (nat_le (count es) n) (done >> (elements again P es 0 p (array t n) >> (each_left >> (done >> gives Built)))) (ap (λ c. nat_le c n) (counted S es) ∙ parts.0)
            (well-next P L {Q = Done} s done (elements again P es 0 p (array t n) >> (each_left >> (done >> gives Built))) (well-gives P L s tt h tt) (λ _ u b q.
            well-next P L {Q = Done} u (elements again P es 0 p (array t n)) (each_left >> (done >> gives Built)) (elements_go u b.sound (target-later s u (array t n) p b.later at)) (λ _ v c q.
            well-next P L {Q = Done} v each_left (done >> gives Built)
            (rest-well v t n (count es) p rest c.sound (target-later u v (array t n) p c.later (target-later s u (array t n) p b.later at)) left rest_go) (λ _ x d q.
            well-next P L {Q = Done} x done (gives Built) (well-gives P L x tt d.sound tt) (λ _ y g q. well-gives P L y Built g.sound refl)))))))).by w input;
      }

  -- ---- all initialisers

  mutual
    pub initial-well : (s : State) (t : SourceType) (p : Place) (e : Core) → Sound P L s → Target s t p → is_proper t ≡ true → is_simple_initial P S e ≡ true → (typing S e).start t ≡ true
        → Well P L s Done (full_expression again P (settled [] p (value again P e (Some p))))
    initial-well s t p core.zeros h at proper ok k = built-well s p (value again P core.zeros (Some p)) h (λ u b.
        well-next P L {Q = Done} u (built_at (Some p) >>= fill_zeros []) (gives Built)
        (record { by = λ w input. (zeros-well u t p b.sound (target-later s u t p b.later at) proper (not-true (is_reference t) k)).by w input }) (λ _ v c q. well-gives P L v Built c.sound refl))
    initial-well s t p core.blank h at proper ok k = built-well s p (value again P core.blank (Some p)) h (λ u b. well-gives P L u Built b.sound refl)
    initial-well s t p (core.string bytes) h at proper ok k =
        let r = row t proper (string-array S (length bytes) t k) in
        built-well s p (value again P (core.string bytes) (Some p)) h (λ u b.
        string-well u r.of r.bound p bytes b.sound (target-later s u (array r.of r.bound) p b.later (subst (λ a. Target s a p) r.is at))
        (subst (λ a. is_proper a ≡ true) r.is proper) (subst (λ a. string_starts S (length bytes) a ≡ true) r.is k))
    initial-well s t p (core.each e) h at proper ok k =
        let r = row t proper (each-array S (typing S e) t k) in
        let inside = element-proper r.of r.bound (subst (λ a. is_proper a ≡ true) r.is proper) in
        let starts : (typing S e).start r.of ≡ true = subst (λ a. each_starts S (typing S e) a ≡ true) r.is k in
        built-well s p (value again P (core.each e) (Some p)) h (λ u b.
        each-well u r.of r.bound p e b.sound (target-later s u (array r.of r.bound) p b.later (subst (λ a. Target s a p) r.is at)) (λ v q d to. initial-well v r.of q e d to inside ok starts))
    initial-well s t p (core.list es rest) h at proper ok k =
        let first = both (has_none S.classes) (are_simple_initials P S es && is_simple_initial P S rest) ok in
        let parts = both (are_simple_initials P S es) (is_simple_initial P S rest) first.1 in
        let r = row t proper (list-array S first.0 (typings S es) (typing S rest) t k) in
        let inside = element-proper r.of r.bound (subst (λ a. is_proper a ≡ true) r.is proper) in
        let starts : list_starts S (typings S es) (typing S rest) (array r.of r.bound) ≡ true = subst (λ a. list_starts S (typings S es) (typing S rest) a ≡ true) r.is k in
        let all = (three (nat_le (length (typings S es)) r.bound) (all_start S r.of (typings S es)) (nat_le r.bound (length (typings S es)) || (typing S rest).start r.of) starts).1 in
        built-well s p (value again P (core.list es rest) (Some p)) h (λ u b.
        list-well u r.of r.bound p es rest b.sound (target-later s u (array r.of r.bound) p b.later (subst (λ a. Target s a p) r.is at)) starts
        (λ v d to. elements-well es v r.of r.bound 0 p d to inside parts.0 all) (λ begun v q d to. initial-well v r.of q rest d to inside parts.1 begun))
    initial-well s t p (core.bind (local_temporary j u) e) h at proper ok k =
        let parts = both (is_whole u) (not (is_function u) && is_simple P S e) ok in
        let inner = both (not (is_function u)) (is_simple P S e) parts.1 in
        held-initial s t u p j e h at (whole-tested u parts.0) (not-true (is_function u) inner.0) inner.1 (held-told S (typing S e) j u t k)
    initial-well s t p e h at proper ok k = simple-initial s t p e h at ok k

    elements-well : (es : Cores) (s : State) (t : SourceType) (n i : ℕ) (p : Place) → Sound P L s → Target s (array t n) p → is_proper t ≡ true → are_simple_initials P S es ≡ true
        → all_start S t (typings S es) ≡ true → Well P L s Done (elements again P es i p (array t n))
    elements-well core.none s t n i p h at proper ok k = well-gives P L s tt h tt
    elements-well (core.more e es) s t n i p h at proper ok k =
        let parts = both (is_simple_initial P S e) (are_simple_initials P S es) ok in
        let starts = both ((typing S e).start t) (all_start S t (typings S es)) k in
        well-next P L {Q = Done} s (one_tick (costs_tick e [] t) >> begins e (inner (item i) p)) (elements again P es (suc i) p (array t n))
        (well-tick P L s (costs_tick e [] t) (begins e (inner (item i) p)) h (λ u d.
        initial-well u t (inner (item i) p) e d.sound (target-element u t n i p (target-later s u (array t n) p d.later at)) proper parts.0 starts.0))
        (λ _ v c q. elements-well es v t n (suc i) p c.sound (target-later s v (array t n) p c.later at) proper parts.1 starts.1)
