-- What names and literals stand for.
use Rattle.std.proofs.Common.{◌≡◌, ℕ, zero, suc, ◌+◌, nat_lt, ◌==◌, Bool, true, false, ◌&&◌, ◌||◌, not, cond, List, [], ◌∷◌, length, pos, inr, refl, sym, ap, ◌∙◌, subst, true≢false, arith}
use Rattle.std.specs.Prelude.{Option, Some, None, is_some, find, position, slice_get, bytes_eq}
use Rattle.std.specs.List.{prefix_len}
use Rattle.std.proofs.lemmas.Bool.Decides.{nat_tests}
use Rattle.cf_base.proofs.Tests.{both}
use Rattle.cf_base.specs.declared.kind.Kind.TheVariants.{Char}
use Rattle.cf_base.specs.Integers.{convert as converted}
use Rattle.cf_elab_numbers.proofs.Fits.{convert-fits}
use Rattle.cf_core.specs.Types.{Name, SourceType, void, integer, enumeration, class, pointer, reference, array, takes, gives as gives_type, data_member, function_member, const, same_but_const}
use Rattle.cf_core.specs.Core.{Function, Static, item, past, field, within}
use Rattle.cf_core.specs.Places.{is_reference}
use Rattle.cf_core.specs.Store.{Value, Nothing, Missing, Built, Number, Null, At, Code, DataMember, FunctionMember, Object}
use Rattle.cf_core.specs.Run.{State, Literal, ◌>>=◌, ◌>>◌, gives, malformed, undefined, done, need, valid, some_or, when, changed, born, not_alive, cast_from_void}
use Rattle.cf_core.specs.Access.{place_type, read_place, bound_to, followed}
use Rattle.cf_core.specs.Calls.{Program, root, is_library, function_named, has_type, name_function}
use Rattle.cf_core.specs.Objects.{local_place, static_number, static_type, static_place, same_type, literal_of, found_literal, literal_object}
use Rattle.cf_core.specs.Typing.{of_place, of_name, is_function}
use Rattle.cf_core_typed.specs.Same.{takes_const}
use Rattle.cf_core_sound.specs.Proper.{is_proper, shape}
use Rattle.cf_core_sound.specs.Values.{library_type, named_type, type_of_function, IsFunction, IsPlace, Leads, IsOf, Fit, Told}
use Rattle.cf_core_sound.specs.States.{Stands, LiteralsStand, char_array, Sound}
use Rattle.cf_core_sound.specs.Well.{Well}
use Rattle.cf_core_sound.specs.Simple.{library_fits, has_object, has_function, function_fits}
use Rattle.cf_core_sound.proofs.Shapes.{same-shape, reference-shape, function-shape}
use Rattle.cf_core_sound.proofs.Moments.{stands-later, behind-self}
use Rattle.cf_core_sound.proofs.States.{HoldsOf, literal-behind}
use Rattle.cf_core_sound.proofs.Typings.{nothing-told, fits-place}
use Rattle.cf_core_sound.proofs.Access.{well-read, well-born}
use Rattle.cf_core_sound.proofs.Wells.{well-then, well-next, well-gives, well-as, well-at, well-valid, well-some, well-undefined, well-changed}

no-test : false ≡ true → ⊥
no-test e = true≢false (sym e)

of-some : {A : Type 0} (a b : A) → Some a ≡ Some b → a ≡ b
of-some a b e = cc

none-is : {A : Type 0} (a : A) → None ≡ Some a → ⊥
none-is a e = absurd (cc)

-- ---- lists

pub below-there : {A : Type 0} (xs : List A) (i : ℕ) (x : A) → slice_get xs i ≡ Some x → nat_lt i (length xs) ≡ true
below-there [] i x e = absurd (none-is x e)
below-there (y ∷ xs) zero x e = grind (arith, nat_tests)
below-there (y ∷ xs) (suc i) x e = let h = below-there xs i x e in grind (arith, nat_tests, h)

-- a static object by its name
pub record StaticAt (xs : List Static) (name : Name) (i : ℕ) : Type 0 where
  pub object : Static
  pub there : slice_get xs i ≡ Some object
  pub found : find (λ (x : Static). bytes_eq x.name name) xs ≡ Some object

at-number : (name : Name) (xs : List Static) → nat_lt (prefix_len (λ (x : Static). not (bytes_eq x.name name)) xs) (length xs) ≡ true
    → StaticAt xs name (prefix_len (λ (x : Static). not (bytes_eq x.name name)) xs)
at-number name [] e = absurd (no-test e)
at-number name (x ∷ xs) e = by_test (λ below. at-number name xs below) (bytes_eq x.name name) refl e
  where
    by_test : (nat_lt (prefix_len (λ (x : Static). not (bytes_eq x.name name)) xs) (length xs) ≡ true → StaticAt xs name (prefix_len (λ (x : Static). not (bytes_eq x.name name)) xs))
        → (b : Bool) → bytes_eq x.name name ≡ b → nat_lt (cond (not b) (1 + prefix_len (λ (x : Static). not (bytes_eq x.name name)) xs) 0) (suc (length xs)) ≡ true
        → StaticAt (x ∷ xs) name (prefix_len (λ (x : Static). not (bytes_eq x.name name)) (x ∷ xs))
    by_test rest true t e = rw t (record { object = x; there = refl; found = rw t refl })
    by_test rest_of false t e =
        let n = prefix_len (λ (x : Static). not (bytes_eq x.name name)) xs in
        let one : 1 + n ≡ suc n = omega arith in
        let below : nat_lt n (length xs) ≡ true = grind (arith, nat_tests, e) in
        let rest = rest_of below in
        rw (t, one) (record { object = rest.object; there = rest.there; found = rw t rest.found })

pub static-at : (name : Name) (xs : List Static) (i : ℕ) → position (λ (x : Static). bytes_eq x.name name) xs ≡ Some i → StaticAt xs name i
static-at name xs i e = by_test (nat_lt (prefix_len (λ (x : Static). not (bytes_eq x.name name)) xs) (length xs)) refl e
  where
    by_test : (b : Bool) → nat_lt (prefix_len (λ (x : Static). not (bytes_eq x.name name)) xs) (length xs) ≡ b
        → cond b (Some (prefix_len (λ (x : Static). not (bytes_eq x.name name)) xs)) None ≡ Some i → StaticAt xs name i
    by_test true t e = subst (StaticAt xs name) (of-some _ i e) (at-number name xs t)
    by_test false t e = absurd (none-is i e)

-- ---- names

name-plain : (t : SourceType) → is_proper t ≡ true → is_reference t ≡ false → of_name (Some t) ≡ of_place t
name-plain (reference t) p h = absurd (true≢false h)
name-plain void p h = refl
name-plain (integer k) p h = refl
name-plain (enumeration e) p h = refl
name-plain (class c) p h = refl
name-plain (pointer t) p h = refl
name-plain (array t n) p h = refl
name-plain (takes a t) p h = refl
name-plain (gives_type t c) p h = refl
name-plain (data_member c t) p h = refl
name-plain (function_member c t) p h = refl
name-plain (const t) p h = refl

-- a proper type of a reference has no const on it
reference-form : (t : SourceType) → is_proper t ≡ true → is_reference t ≡ true → (r : SourceType) × (t ≡ reference r)
reference-form (reference t) p h = (t, refl)
reference-form (const t) p h = absurd (under t (both _ (is_proper t) p).0 h)
  where
    under : (t : SourceType) → takes_const t ≡ true → is_reference t ≡ true → ⊥
    under (reference t) c h = no-test c
    under (const t) c h = no-test c
    under void c h = no-test h
    under (integer k) c h = no-test h
    under (enumeration e) c h = no-test h
    under (class d) c h = no-test h
    under (pointer t) c h = no-test h
    under (array t n) c h = no-test h
    under (takes a t) c h = no-test h
    under (gives_type t d) c h = no-test h
    under (data_member d t) c h = no-test h
    under (function_member d t) c h = no-test h
reference-form void p h = absurd (no-test h)
reference-form (integer k) p h = absurd (no-test h)
reference-form (enumeration e) p h = absurd (no-test h)
reference-form (class c) p h = absurd (no-test h)
reference-form (pointer t) p h = absurd (no-test h)
reference-form (array t n) p h = absurd (no-test h)
reference-form (takes a t) p h = absurd (no-test h)
reference-form (gives_type t c) p h = absurd (no-test h)
reference-form (data_member c t) p h = absurd (no-test h)
reference-form (function_member c t) p h = absurd (no-test h)

literals-found : (s : State) (test : Literal → Bool) (xs : List Literal) (o : ℕ) → LiteralsStand s xs → found_literal (find test xs) ≡ Some o → Stands s char_array o
literals-found s test [] o k e = absurd (none-is o e)
literals-found s test (x ∷ xs) o k e = by_test (λ e. literals-found s test xs o k.1 e) (test x) refl e
  where
    by_test : (found_literal (find test xs) ≡ Some o → Stands s char_array o) → (b : Bool) → test x ≡ b → found_literal (cond b (Some x) (find test xs)) ≡ Some o → Stands s char_array o
    by_test rest true t e = subst (Stands s char_array) (of-some x.object o e) k.0
    by_test rest false t e = rest e

literal-holds : (P : Program) (s : State) (bytes : List ℕ) → HoldsOf P s (literal_of bytes)
literal-holds P s bytes [] v sc e = absurd (none-is v e)
literal-holds P s bytes (item i ∷ []) v sc e = by_byte (slice_get bytes i) e
  where
    by_byte : (x : Option ℕ) → (elim x as (λ y. Option Value) [ None ↦ None | Some b ↦ Some (Number (converted Char (pos b))) ]) ≡ Some v → IsOf P s (integer Char) v
    by_byte None e = absurd (none-is v e)
    by_byte (Some b) e = (converted Char (pos b), sym (of-some _ v e), convert-fits Char (pos b))
literal-holds P s bytes (item i ∷ (r ∷ π)) v sc e = absurd (none-is v e)
literal-holds P s bytes (past ∷ π) v sc e = absurd (none-is v e)
literal-holds P s bytes (field i ∷ π) v sc e = absurd (none-is v e)
literal-holds P s bytes (within r ∷ π) v sc e = absurd (none-is v e)

module _ (P : Program) (locals : List SourceType) where
  bound-well : (s : State) (t : SourceType) (v : Value) → Sound P locals s → Leads P s t v → Well P locals s (λ v u. Leads P u t v) (bound_to v)
  bound-well s t Nothing h k = absurd k
  bound-well s t Missing h k = absurd k
  bound-well s t Built h k = absurd k
  bound-well s t (Number z) h k = absurd k
  bound-well s t Null h k = absurd k
  bound-well s t (At p) h k = well-gives P locals s (At p) h k
  bound-well s t (Code f) h k = well-gives P locals s (Code f) h k
  bound-well s t (DataMember path i) h k = absurd k
  bound-well s t (FunctionMember path f) h k = absurd k

  pub well-followed : (s : State) (t : SourceType) (o : ℕ) → Sound P locals s → Stands s t o → is_proper t ≡ true → is_function t ≡ false
      → Well P locals s (λ v u. Fit P u (of_name (Some t)) v) (followed [] (root o))
  well-followed s t o h k p n = well-at P locals s (λ s. when (is_reference (place_type [] s (root o))) (read_place [] (root o) >>= bound_to) (gives (At (root o)))) h
      (subst (λ b. Well P locals s (λ v u. Fit P u (of_name (Some t)) v) (when b (read_place [] (root o) >>= bound_to) (gives (At (root o))))) (sym same) (by_test (is_reference t) refl))
    where
      same : is_reference (s.object o).type ≡ is_reference t
      same = sym (reference-shape (s.object o).type) ∙ ap is_reference k.same ∙ reference-shape t

      place : IsPlace s (shape t) (root o)
      place = record { below = k.below; same = inr k.same; near = tt }

      by_form : (r : SourceType) → t ≡ reference r → Well P locals s (λ v u. Fit P u (of_name (Some t)) v) (read_place [] (root o) >>= bound_to)
      by_form r e = subst (λ a. Well P locals s (λ v u. Fit P u (of_name (Some a)) v) (read_place [] (root o) >>= bound_to)) (sym e)
          (well-then P locals s (read_place [] (root o)) bound_to (well-read P locals s (reference r) (root o) h refl (subst (λ a. IsPlace s (shape a) (root o)) e place))
          (λ v u b l. well-as P locals u (bound_to v) (bound-well u (shape r) v b.sound l) (λ v u b l. inr (fits-place P u r v l))))

      by_test : (b : Bool) → is_reference t ≡ b → Well P locals s (λ v u. Fit P u (of_name (Some t)) v) (when b (read_place [] (root o) >>= bound_to) (gives (At (root o))))
      by_test true e = let f = reference-form t p e in by_form f.0 f.1
      by_test false e = subst (λ x. Well P locals s (λ v u. Fit P u x v) (gives (At (root o)))) (sym (name-plain t p e))
          (well-gives P locals s (At (root o)) h (inr (fits-place P s t (At (root o)) (function-shape t p ∙ n, place))))

  -- ---- locals

  name-told : (x : Option SourceType) → Told (of_name x) → (t : SourceType) × (x ≡ Some t)
  name-told None k = absurd (nothing-told k)
  name-told (Some t) k = (t, refl)

  pub well-local : (s : State) (i : ℕ) → Sound P locals s → Told (of_name (slice_get locals i))
      → ((t : SourceType) → slice_get locals i ≡ Some t → (is_proper t ≡ true) × (is_function t ≡ false))
      → Well P locals s (λ v u. Fit P u (of_name (slice_get locals i)) v) (local_place i >>= followed [])
  well-local s i h told around =
      let there = name-told (slice_get locals i) told in
      let t = there.0 in
      let is : slice_get locals i ≡ Some t = there.1 in
      let so = around t is in
      subst (λ x. Well P locals s (λ v u. Fit P u (of_name x) v) (local_place i >>= followed [])) (sym is)
      (well-then P locals s (local_place i) (followed []) (place t is) (λ p u b k.
      subst (λ q. Well P locals u (λ v u. Fit P u (of_name (Some t)) v) (followed [] q)) (sym k.1) (well-followed u t k.0 b.sound k.2 so.0 so.1)))
    where
      place : (t : SourceType) → slice_get locals i ≡ Some t → Well P locals s (λ p u. (o : ℕ) × (p ≡ root o) × Stands u t o) (local_place i)
      place t is = well-at P locals s (λ s. valid (nat_lt i s.frame.count) >> (some_or (s.frame.locals i) (undefined not_alive) >>= (λ o. gives (root o)))) h
          (well-valid P locals s (nat_lt i s.frame.count) (some_or (s.frame.locals i) (undefined not_alive) >>= (λ o. gives (root o)))
          (ap (nat_lt i) h.count ∙ below-there locals i t is)
          (well-some P locals s (s.frame.locals i) not_alive (λ o. gives (root o)) (λ o e.
          let q : (j : ℕ) × (root o ≡ root j) × Stands s t j = (o, refl, h.locals_stand i o t e is) in
          well-gives P locals s (root o) h q)))

  -- ---- static objects

  pub some-there : {A : Type 0} (x : Option A) → is_some x ≡ true → (a : A) × (x ≡ Some a)
  some-there None e = absurd (no-test e)
  some-there (Some a) e = (a, refl)

  pub static-place : (name : Name) (i : ℕ) → static_number P name ≡ Some i → static_place P name ≡ gives (root i)
  static-place name i e = ap (λ (x : Option ℕ). some_or x malformed >>= (λ o. gives (root o))) e

  abbrev type_found : Option Static → SourceType
  type_found None = void
  type_found (Some x) = x.type

  named-well : (s : State) (i : ℕ) (b : Bool) → Sound P locals s → Well P locals s (λ p u. (p ≡ root i) × (b ≡ true)) ((gives (root i) >> need b cast_from_void) >> gives (root i))
  named-well s i true h = record { by = λ w bytes. record { by = (behind-self P locals s h, (refl, refl), bytes) } }
  named-well s i false h = record { by = λ w bytes. record { by = tt } }

  pub well-static : (s : State) (name : Name) (t : SourceType) → Sound P locals s → is_proper t ≡ true → has_object P name ≡ true
      → ((i : ℕ) (x : Static) → slice_get P.statics i ≡ Some x → (is_proper x.type ≡ true) × (is_function x.type ≡ false))
      → Well P locals s (λ v u. Fit P u (of_name (Some t)) v) ((same_type P name t >> static_place P name) >>= followed [])
  well-static s name t h p has around =
      let number = some-there (static_number P name) has in
      let i = number.0 in
      let at = static-at name P.statics i number.1 in
      let type : static_type P name ≡ at.object.type = ap type_found at.found in
      let so = around i at.object at.there in
      subst (λ act. Well P locals s (λ v u. Fit P u (of_name (Some t)) v) (((act >> need (same_but_const (static_type P name) t) cast_from_void) >> act) >>= followed [])) (sym (static-place name i number.1))
      (well-then P locals s ((gives (root i) >> need (same_but_const (static_type P name) t) cast_from_void) >> gives (root i)) (followed [])
      (named-well s i (same_but_const (static_type P name) t) h) (λ q u b k.
      let same : shape at.object.type ≡ shape t = ap shape (sym type) ∙ same-shape (static_type P name) t k.1 in
      let there = b.sound.statics i at.object at.there in
      let stands : Stands u t i = record { below = there.0; same = ap shape there.1 ∙ same } in
      let no : is_function t ≡ false = sym (function-shape t p) ∙ ap is_function (sym same) ∙ function-shape at.object.type so.0 ∙ so.1 in
      subst (λ r. Well P locals u (λ v u. Fit P u (of_name (Some t)) v) (followed [] r)) (sym k.0) (well-followed u t i b.sound stands p no)))

  -- ---- functions

  pub well-named : (s : State) (name : Name) (t : SourceType) → Sound P locals s → function_fits P name t ≡ true → Well P locals s (λ _ u. IsFunction P name (shape t)) (name_function P name t)
  well-named s name t h ok = by_test (is_library name) refl
    where
      parts : (has_function P name ≡ true) × (library_fits name t ≡ true)
      parts = both (has_function P name) (library_fits name t) ok

      in_program : (x : Option Function) → is_some x ≡ true → type_of_function x ≡ named_type P name → Well P locals s (λ _ u. IsFunction P name (shape t)) (has_type x t)
      in_program None e same = absurd (no-test e)
      in_program (Some f) e same = by_same (same_but_const f.type t) refl
        where
          by_same : (b : Bool) → same_but_const f.type t ≡ b → Well P locals s (λ _ u. IsFunction P name (shape t)) (need b cast_from_void)
          by_same true e = well-gives P locals s tt h (record { type = f.type; found = sym same; same = same-shape f.type t e })
          by_same false e = well-undefined P locals s cast_from_void

      by_test : (b : Bool) → is_library name ≡ b → Well P locals s (λ _ u. IsFunction P name (shape t)) (when b done (has_type (function_named P name) t))
      by_test true e = well-gives P locals s tt h (record {
        type = library_type name;
        found = rw e refl;
        same = same-shape (library_type name) t (subst (λ b. (not b || same_but_const (library_type name) t) ≡ true) e parts.1);
      })
      by_test false e = in_program (function_named P name) (subst (λ b. (b || is_some (function_named P name)) ≡ true) e parts.0) (rw e refl)

  -- ---- literals

  pub well-literal : (s : State) (j : ℕ) (bytes : List ℕ) → Sound P locals s → is_proper (array (integer Char) (length bytes)) ≡ true
      → Well P locals s (λ o u. Stands u char_array o) (literal_object j bytes)
  well-literal s j bytes h p = well-at P locals s
      (λ s. some_or (found_literal (find (λ (x : Literal). bytes_eq x.function s.frame.function && (x.number == j)) s.literals))
      (born (literal_of bytes) >>= (λ o. changed (λ t. record t { literals = record { function = s.frame.function; number = j; object = o } ∷ t.literals }) >> gives o))) h
      (by_found (found_literal (find (λ (x : Literal). bytes_eq x.function s.frame.function && (x.number == j)) s.literals)) refl)
    where
      by_found : (x : Option ℕ) → found_literal (find (λ (x : Literal). bytes_eq x.function s.frame.function && (x.number == j)) s.literals) ≡ x
          → Well P locals s (λ o u. Stands u char_array o)
          (some_or x (born (literal_of bytes) >>= (λ o. changed (λ t. record t { literals = record { function = s.frame.function; number = j; object = o } ∷ t.literals }) >> gives o)))
      by_found (Some o) e = well-gives P locals s o h (literals-found s _ s.literals o h.literals e)
      by_found None e =
          well-then P locals s (born (literal_of bytes)) (λ o. changed (λ t. record t { literals = record { function = s.frame.function; number = j; object = o } ∷ t.literals }) >> gives o)
          (well-born P locals s (literal_of bytes) h p (literal-holds P s bytes)) (λ o u b k.
          let stands : Stands u char_array o = record { below = k.0; same = ap (λ (x : Object). shape x.type) k.1 } in
          let listed = literal-behind P locals u b.sound (record { function = s.frame.function; number = j; object = o }) stands in
          well-next P locals u (changed (λ t. record t { literals = record { function = s.frame.function; number = j; object = o } ∷ t.literals })) (gives o)
          (well-changed P locals u (λ t. record t { literals = record { function = s.frame.function; number = j; object = o } ∷ t.literals }) listed)
          (λ _ v c e. well-gives P locals v o c.sound (stands-later u v char_array o c.later stands)))
