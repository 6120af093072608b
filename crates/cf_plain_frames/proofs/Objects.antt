-- Acts that make, fill and end objects keep the frame, and all that is not the function's own.
use Rattle.std.proofs.Common.{◌≡◌, ℕ, suc, ◌≤◌, ◌<◌, Bool, true, false, ◌&&◌, ◌||◌, not, ◌==◌, nat_lt, if◌then◌else◌, List, [], ◌∷◌, ◌++◌, inl, inr, refl, sym, ◌∙◌, ap, subst, arith}
use Rattle.std.specs.Prelude.{pos, Option, Some, None, find, bytes_eq}
use Rattle.std.proofs.lemmas.Bool.Decides.{nat_tests}
use Rattle.cf_base.specs.World.{World}
use Rattle.cf_base.specs.declared.kind.Kind.{Kind}
use Rattle.cf_base.specs.Integers.{convert as converted}
use Rattle.cf_core.specs.Types.{SourceType, void, integer, enumeration, class, pointer, reference, array, takes, gives as gives_type, data_member, function_member, const}
use Rattle.cf_core.specs.Classes.{Class, class_named, destructor_in}
use Rattle.cf_core.specs.Core.{item}
use Rattle.cf_core.specs.Places.{Route, Place, inner, type_at, is_scalar}
use Rattle.cf_core.specs.Store.{Value, Built, Number, Object, new_object, automatic, zero_of, hold, hold_all, is_constant_place}
use Rattle.cf_core.specs.Run.{Literal, State, ◌>>=◌, ◌>>◌, malformed, state, done, need, valid, some_or, when, upd, with_object, tick, for_each_back, for_all, object_changed, gone, lists_local}
use Rattle.cf_core.specs.Access.{place_type, used, names_scalar, use_place, write_place, first_value, fill_zeros}
use Rattle.cf_core.specs.Calls.{Program, Again, root, destroy, by_destructor, has_destructor}
use Rattle.cf_core.specs.Objects.{literal_of, found_literal, literal_object, new_local, settle, write_bytes}
use Rattle.cf_plain.specs.Acts.{doing, end_local}
use Rattle.cf_plain_frames.specs.Since.{is_among, IsOwn, HasValue, Since, Always, Keeps}
use Rattle.cf_plain_frames.proofs.Acts.{keeps-then, keeps-next, keeps-gives, keeps-malformed, keeps-need, keeps-valid, keeps-some, keeps-when, keeps-at}
use Rattle.cf_plain_frames.proofs.Values.{keeps-used, keeps-names, keeps-use}

some-same : {i j : ℕ} → Some i ≡ Some j → i ≡ j
some-same e = cc

-- no class has a destructor where there are none
no-destructor : (t : SourceType) → has_destructor [] t ≡ false
no-destructor void = refl
no-destructor (integer k) = refl
no-destructor (enumeration e) = refl
no-destructor (class c) = refl
no-destructor (pointer t) = refl
no-destructor (reference t) = refl
no-destructor (array t n) = no-destructor t
no-destructor (takes p t) = refl
no-destructor (gives_type t c) = refl
no-destructor (data_member c t) = refl
no-destructor (function_member c t) = refl
no-destructor (const t) = no-destructor t

-- ---- a value that is held

pub hold-has : (π : Route) (v : Value) (x : Object) → HasValue x → HasValue (hold π (Some v) x)
hold-has [] v x h = record { value = v; held = refl }
hold-has (i ∷ π) v x h = record { value = h.value; held = h.held }

pub hold_all-has : (π : Route) (f : Route → Value) (x : Object) → HasValue x → HasValue (hold_all π (λ r. Some (f r)) x)
hold_all-has [] f x h = record { value = f []; held = refl }
hold_all-has (i ∷ π) f x h = record { value = h.value; held = h.held }

-- an object among others, where one is another
pub value-at : (s : State) (p : ℕ) (x : Object) → (HasValue (s.object p) → HasValue x) → (o : ℕ) (b : Bool) → o == p ≡ b → HasValue (s.object o)
    → HasValue (upd p x s.object o)
value-at s p x has o true k v =
    let at : o ≡ p = grind (arith, nat_tests, k) in
    subst HasValue (sym (ap (λ (t : Bool). if t then x else s.object o) k)) (has (subst (λ (i : ℕ). HasValue (s.object i)) at v))
value-at s p x has o false k v = subst HasValue (sym (ap (λ (t : Bool). if t then x else s.object o) k)) v

same-number : (p : ℕ) → (p == p) ≡ true
same-number p = grind (arith, nat_tests)

or-true : (b : Bool) → (b || true) ≡ true
or-true true = refl
or-true false = refl

among-first : (p : ℕ) (ps : List ℕ) → is_among p (p ∷ ps) ≡ true
among-first p ps = ap (λ b. b || is_among p ps) (same-number p)

among-more : (o p : ℕ) (ps : List ℕ) → is_among o ps ≡ true → is_among o (p ∷ ps) ≡ true
among-more o p ps h = ap (λ b. (p == o) || b) h ∙ or-true (p == o)

module _ (e : State) (os : List ℕ) where
  abbrev Q : State → Type 0
  Q = Since e os

  -- ---- an object changes, and does not end

  object-since : (s : State) (p : ℕ) (x : Object) → x.is_gone ≡ (s.object p).is_gone → (HasValue (s.object p) → HasValue x) → Q s
      → Q (record s { object = upd p x s.object })
  object-since s p x same has h = record {
    function = h.function;
    count = h.count;
    depth = h.depth;
    next = h.next;
    locals = h.locals;
    kept = λ o lt ne. by_test o (o == p) refl ∙ h.kept o lt ne;
    valued = λ o lt v. value-at s p x has o (o == p) refl (h.valued o lt v);
  }
    where
      by_test : (o : ℕ) (b : Bool) → o == p ≡ b → (upd p x s.object o).is_gone ≡ (s.object o).is_gone
      by_test o true k =
          let at : o ≡ p = grind (arith, nat_tests, k) in
          ap (λ (t : Bool). (if t then x else s.object o).is_gone) k ∙ same ∙ ap (λ (i : ℕ). (s.object i).is_gone) (sym at)
      by_test o false k = ap (λ (t : Bool). (if t then x else s.object o).is_gone) k

  pub keeps-object_changed : (p : ℕ) (f : Object → Object) → ((x : Object) → (f x).is_gone ≡ x.is_gone) → ((x : Object) → HasValue x → HasValue (f x))
      → Keeps Q (object_changed p f)
  keeps-object_changed p f same has = record { by = λ s w h. record { by = object-since s p (f (s.object p)) (same (s.object p)) (has (s.object p)) h } }

  pub keeps-first_value : (p : Place) (v : Value) → Keeps Q (first_value p v)
  keeps-first_value p v = keeps-object_changed p.object (hold p.route (Some v)) (λ x. refl) (hold-has p.route v)

  pub keeps-write : (classes : List Class) (p : Place) (v : Value) → Keeps Q (write_place classes p v)
  keeps-write classes p v =
      keeps-next Q (names_scalar classes p) _ (keeps-names Q classes p)
      (keeps-next Q (use_place classes p) _ (keeps-use Q classes p)
      (keeps-at Q _ (λ s. keeps-next Q (need (not (is_constant_place classes (s.object p.object) p.route)) 15) _ (keeps-need Q _ 15)
      (keeps-object_changed p.object (hold p.route (Some v)) (λ x. refl) (hold-has p.route v)))))

  pub keeps-zeros : (classes : List Class) (p : Place) → Keeps Q (fill_zeros classes p)
  keeps-zeros classes p =
      keeps-at Q _ (λ s. keeps-object_changed p.object
      (hold_all p.route (λ r. Some (zero_of (type_at classes (s.object p.object).type (r ++ p.route))))) (λ x. refl)
      (hold_all-has p.route (λ r. zero_of (type_at classes (s.object p.object).type (r ++ p.route)))))

  pub keeps-bytes : (k : Kind) (p : Place) (i : ℕ) (b : List ℕ) → Keeps Q (write_bytes k p i b)
  keeps-bytes k p i [] = keeps-gives Q tt
  keeps-bytes k p i (b ∷ rest) =
      keeps-next Q (first_value (inner (item i) p) (Number (converted k (pos b)))) (write_bytes k p (suc i) rest) (keeps-first_value _ _) (keeps-bytes k p (suc i) rest)

  keeps-first : (classes : List Class) (p : Place) (v : Value) → Keeps Q (state >>= (λ s. when (is_scalar (place_type classes s p)) (used v >>= first_value p) malformed))
  keeps-first classes p v =
      keeps-at Q _ (λ s. keeps-when Q (is_scalar (place_type classes s p)) (used v >>= first_value p) malformed
      (keeps-then Q (used v) (first_value p) (keeps-used Q v) (keeps-first_value p)) (keeps-malformed Q))

  pub keeps-settle : (classes : List Class) (p : Place) (v : Value) → Keeps Q (settle classes p v)
  keeps-settle classes p Built = keeps-gives Q tt
  keeps-settle classes p v = keeps-first classes p v

  -- ---- an object comes

  born-since : (s : State) (x : Object) → Q s → Q (record s { next = suc s.next; object = upd s.next x s.object })
  born-since s x h = record {
    function = h.function;
    count = h.count;
    depth = h.depth;
    next = let n = h.next in omega (arith, n);
    locals = h.locals;
    kept = λ o lt ne. by_test o lt (o == s.next) refl ∙ h.kept o lt ne;
    valued = λ o lt v.
        let n = h.next in
        let older : o == s.next ≡ false = grind (arith, nat_tests, lt, n) in
        subst HasValue (sym (ap (λ (t : Bool). if t then x else s.object o) older)) (h.valued o lt v);
  }
    where
      by_test : (o : ℕ) → o < e.next → (b : Bool) → o == s.next ≡ b → (upd s.next x s.object o).is_gone ≡ (s.object o).is_gone
      by_test o lt true k = absurd (let at : o ≡ s.next = grind (arith, nat_tests, k) in let n = h.next in omega (arith, lt, at, n))
      by_test o lt false k = ap (λ (t : Bool). (if t then x else s.object o).is_gone) k

  -- a local has another object, which is new
  listed-since : (s : State) (i o : ℕ) → e.next ≤ o → Q s → Q (record s { frame = lists_local i o s.frame })
  listed-since s i o new h = record {
    function = h.function;
    count = h.count;
    depth = h.depth;
    next = h.next;
    locals = λ j p is. by_test j p (j == i) refl is;
    kept = h.kept;
    valued = h.valued;
  }
    where
      by_test : (j p : ℕ) (b : Bool) → j == i ≡ b → upd i (Some o) s.frame.locals j ≡ Some p → IsOwn e os p
      by_test j p true k is =
          let at : o ≡ p = some-same (sym (ap (λ (t : Bool). if t then Some o else s.frame.locals j) k) ∙ is) in
          inr (subst (λ n. e.next ≤ n) at new)
      by_test j p false k is = h.locals j p (sym (ap (λ (t : Bool). if t then Some o else s.frame.locals j) k) ∙ is)

  pub keeps-new : (i : ℕ) (t : SourceType) → Keeps Q (new_local i t)
  keeps-new i t =
      keeps-at Q _ (λ s. keeps-next Q (valid (nat_lt i s.frame.count)) _ (keeps-valid Q _)
      (record {
        by = λ u w h. record {
          by =
              listed-since (record u { next = suc u.next; object = upd u.next (new_object t automatic) u.object }) i u.next h.next
              (born-since u (new_object t automatic) h);
        };
      }))

  literal-listed : (s : State) (ls : List Literal) → Q s → Q (record s { literals = ls })
  literal-listed s ls h =
      record { function = h.function; count = h.count; depth = h.depth; next = h.next; locals = h.locals; kept = h.kept; valued = h.valued }

  pub keeps-literal : (j : ℕ) (b : List ℕ) → Keeps Q (literal_object j b)
  keeps-literal j b =
      keeps-at Q _ (λ s. keeps-some Q (found_literal (find (λ (x : Literal). bytes_eq x.function s.frame.function && (x.number == j)) s.literals)) _
      (record {
        by = λ u w h. record {
          by = literal-listed (record u { next = suc u.next; object = upd u.next (literal_of b) u.object }) _ (born-since u (literal_of b) h);
        };
      }))

  -- ---- an object ends, which is the function's own

  other-since : (o p : ℕ) → IsOwn e os p → o < e.next → is_among o os ≡ false → o == p ≡ false
  other-since o p (inl among) lt ne = by_test (o == p) refl
    where
      by_test : (b : Bool) → o == p ≡ b → o == p ≡ false
      by_test true k = let at : o ≡ p = grind (arith, nat_tests, k) in absurd (let both = sym (ap (λ i. is_among i os) at ∙ among) ∙ ne in cc)
      by_test false k = k
  other-since o p (inr new) lt ne = by_test (o == p) refl
    where
      by_test : (b : Bool) → o == p ≡ b → o == p ≡ false
      by_test true k = absurd (let at : o ≡ p = grind (arith, nat_tests, k) in omega (arith, lt, at, new))
      by_test false k = k

  ended-since : (s : State) (p : ℕ) → IsOwn e os p → Q s → Q (with_object p gone s)
  ended-since s p own h = record {
    function = h.function;
    count = h.count;
    depth = h.depth;
    next = h.next;
    locals = h.locals;
    kept = λ o lt ne. ap (λ (t : Bool). (if t then gone (s.object p) else s.object o).is_gone) (other-since o p own lt ne) ∙ h.kept o lt ne;
    valued = λ o lt v. value-at s p (gone (s.object p)) (λ y. record { value = y.value; held = y.held }) o (o == p) refl (h.valued o lt v);
  }

  -- the storage of own objects ends
  pub keeps-ends : (ps : List ℕ) → ((o : ℕ) → is_among o ps ≡ true → IsOwn e os o) → Keeps Q (for_all ps (λ o. object_changed o gone))
  keeps-ends [] own = keeps-gives Q tt
  keeps-ends (p ∷ ps) own =
      keeps-next Q (object_changed p gone) (for_all ps (λ o. object_changed o gone))
      (record { by = λ s w h. record { by = ended-since s p (own p (among-first p ps)) h } }) (keeps-ends ps (λ o h. own o (among-more o p ps h)))

  module _ (again : Again) (P : Program) (none : P.classes ≡ []) where
    -- nothing is destroyed by a function
    destroys-nothing : (t : SourceType) (p : Place) → destroy again P t p ≡ done
    destroys-nothing void p = refl
    destroys-nothing (integer k) p = refl
    destroys-nothing (enumeration n) p = refl
    destroys-nothing (class c) p = ap (λ cs. by_destructor again P (destructor_in (class_named cs c)) p) none
    destroys-nothing (pointer t) p = refl
    destroys-nothing (reference t) p = refl
    destroys-nothing (array t n) p =
        ap (λ b. when b (for_each_back n (λ i. tick >> destroy again P t (inner (item i) p))) done) (ap (λ cs. has_destructor cs t) none ∙ no-destructor t)
    destroys-nothing (takes q t) p = refl
    destroys-nothing (gives_type t c) p = refl
    destroys-nothing (data_member c t) p = refl
    destroys-nothing (function_member c t) p = refl
    destroys-nothing (const t) p = destroys-nothing t p

    pub keeps-finish : (t : SourceType) (i : ℕ) → Keeps Q (state >>= (λ s. end_local again P t (s.frame.locals i)))
    keeps-finish t i = record { by = λ s w h. by_local s w h (s.frame.locals i) refl }
      where
        by_local : (s : State) (w : World) → Q s → (x : Option ℕ) → s.frame.locals i ≡ x
            → Always Q (end_local again P t x s w)
        by_local s w h None k = record { by = h }
        by_local s w h (Some o) k =
            subst (λ act. Always Q ((act >> doing (object_changed o gone)) s w)) (sym (destroys-nothing t (root o))) (record { by = ended-since s o (h.locals i o k) h })
