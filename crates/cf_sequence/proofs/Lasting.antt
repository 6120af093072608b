-- What lasts of the objects of before while expressions are evaluated and statements run: their types, how far they are built, and that they have not ended (6.6, 12.2).
use Rattle.std.proofs.Common.{◌≡◌, ℕ, zero, suc, ◌≤◌, ◌<◌, Bool, true, false, not, nat_lt, ◌&&◌, ◌==◌, if◌then◌else◌, List, [], ◌∷◌, ◌++◌, reverse, append-nil, refl, sym, ◌∙◌, ap, subst, arith}
use Rattle.std.specs.Prelude.{pos, Option, Some, None, find, bytes_eq, codes}
use Rattle.std.proofs.lemmas.Bool.Decides.{nat_tests}
use Rattle.std.proofs.lemmas.List.{reverse-append}
use Rattle.cf_base.specs.Event.{Enter}
use Rattle.cf_base.specs.World.{World, Went, spend_of, deeper, show, next_of}
use Rattle.cf_base.specs.declared.kind.Kind.{Kind}
use Rattle.cf_base.specs.Integers.{convert as converted}
use Rattle.cf_core.specs.Types.{Name, SourceType, result}
use Rattle.cf_core.specs.Classes.{Class}
use Rattle.cf_core.specs.Core.{item, Function}
use Rattle.cf_core.specs.Places.{Place, inner, type_at, is_scalar}
use Rattle.cf_core.specs.Store.{Value, Built, Number, Object, new_object, automatic, zero_of, hold, hold_all, is_constant_place}
use Rattle.cf_core.specs.Run.{State, Gives, Literal, Act, ◌>>=◌, ◌>>◌, gives, malformed, state, changed, tick, need, valid, some_or, when, for_all, upd, with_object, object_changed, born, declared_object, gone, with_frame, frame_changed, lists_local, lists_in_scope, lists_temporary, write_to_const}
use Rattle.cf_core.specs.Access.{place_type, used, names_scalar, use_place, write_place, first_value, fill_zeros}
use Rattle.cf_core.specs.Objects.{literal_of, found_literal, literal_object, new_local, settle, write_bytes}
use Rattle.cf_core.specs.Calls as calling
use Rattle.cf_core.specs.Calls.{Program, body, is_library, run_library, call_library, run_named, function_named, enter, enter_found, frame_of, local_count, argument, put, get, byte_value, leave_with, returned, end_object, full_expression, in_scope}
use Rattle.cf_sequence.proofs.Following.{Gave, gave-then, Pure, pure-gives, pure-malformed, pure-need, pure-valid, Answer, answers, fails, wrong, of_answer, Looks, looks-pure}
use Rattle.cf_sequence.proofs.Steps.{pure-used, looks-names_scalar, looks-use_place}
use Rattle.cf_sequence.proofs.Fulls.{closing}
use Rattle.cf_sequence.proofs.Moving.{all_gone, ends-all}

-- ---- acts that keep what is so

-- what is so before an act is so behind it
pub record Keeps {A : Type 0} (Q : State → Type 0) (act : Act A) : Type 0 where
  pub by : (s : State) (w : World) → Q s → Gave (λ (a : A) (t : State). Q t) (act s w)

-- and of what it gives something holds
pub record Makes {A : Type 0} (Q : State → Type 0) (V : A → Type 0) (act : Act A) : Type 0 where
  pub by : (s : State) (w : World) → Q s → Gave (λ (a : A) (t : State). V a × Q t) (act s w)

module _ (Q : State → Type 0) where
  pub keeps-gives : {A : Type 0} (a : A) → Keeps Q (gives a)
  keeps-gives a = record { by = λ s w q. q }

  pub keeps-malformed : {A : Type 0} → Keeps {A = A} Q malformed
  keeps-malformed = record { by = λ s w q. tt }

  pub keeps-then : {A B : Type 0} (act : Act A) (go : A → Act B) → Keeps Q act → ((a : A) → Keeps Q (go a)) → Keeps Q (act >>= go)
  keeps-then {A} {B} act go p k = record {
    by = λ s w q. gave-then (λ (a : A) (t : State). Q t) (λ (b : B) (t : State). Q t) (act s w) go (p.by s w q) (λ a t w q. Keeps.by (k a) t w q);
  }

  pub keeps-next : {A B : Type 0} (act : Act A) (next : Act B) → Keeps Q act → Keeps Q next → Keeps Q (act >> next)
  keeps-next act next p k = record { by = Keeps.by (keeps-then act (λ _. next) p (λ _. k)) }

  pub makes-then : {A B : Type 0} (V : A → Type 0) (act : Act A) (go : A → Act B) → Makes Q V act → ((a : A) → V a → Keeps Q (go a)) → Keeps Q (act >>= go)
  makes-then {A} {B} V act go p k = record {
    by = λ s w q. gave-then (λ (a : A) (t : State). V a × Q t) (λ (b : B) (t : State). Q t) (act s w) go (p.by s w q) (λ a t w q. Keeps.by (k a q.0) t w q.1);
  }

  pub makes-gives : {A : Type 0} (V : A → Type 0) (a : A) → V a → Makes Q V (gives a)
  makes-gives V a v = record { by = λ s w q. (v, q) }

  pub makes-all : {A B : Type 0} (V : A → Type 0) (W : B → Type 0) (act : Act A) (go : A → Act B) → Makes Q V act → ((a : A) → V a → Makes Q W (go a)) → Makes Q W (act >>= go)
  makes-all {A} {B} V W act go p k = record {
    by = λ s w q. gave-then (λ (a : A) (t : State). V a × Q t) (λ (b : B) (t : State). W b × Q t) (act s w) go (p.by s w q) (λ a t w q. Makes.by (k a q.0) t w q.1);
  }

  pub makes-behind : {A B : Type 0} (W : B → Type 0) (act : Act A) (next : Act B) → Keeps Q act → Makes Q W next → Makes Q W (act >> next)
  makes-behind {A} {B} W act next p k = record {
    by = λ s w q. gave-then (λ (a : A) (t : State). Q t) (λ (b : B) (t : State). W b × Q t) (act s w) (λ _. next) (p.by s w q) (λ a t w q. Makes.by k t w q);
  }

  pub keeps-at : {A : Type 0} (go : State → Act A) → ((s : State) → Keeps Q (go s)) → Keeps Q (state >>= go)
  keeps-at go k = record { by = λ s w q. Keeps.by (k s) s w q }

  -- where what is so is known of the state
  pub keeps-seen : {A : Type 0} (go : State → Act A) → ((s : State) → Q s → Keeps Q (go s)) → Keeps Q (state >>= go)
  keeps-seen go k = record { by = λ s w q. Keeps.by (k s q) s w q }

  pub keeps-when : {A : Type 0} (b : Bool) (act other : Act A) → Keeps Q act → Keeps Q other → Keeps Q (when b act other)
  keeps-when true act other p k = p
  keeps-when false act other p k = k

  pub keeps-some : {A : Type 0} (o : Option A) (act : Act A) → Keeps Q act → Keeps Q (some_or o act)
  keeps-some None act p = p
  keeps-some (Some a) act p = keeps-gives a

  by-answer : {A : Type 0} (x : Answer A) (s : State) (w : World) → Q s → Gave (λ (a : A) (t : State). Q t) (of_answer x s w)
  by-answer (answers a) s w q = q
  by-answer (fails n) s w q = tt
  by-answer wrong s w q = tt

  pub keeps-looks : {A : Type 0} (act : Act A) → Looks act → Keeps Q act
  keeps-looks {A} act p = record { by = λ s w q. subst (Gave (λ (a : A) (t : State). Q t)) (sym (p.runs s w)) (by-answer (p.answer s) s w q) }

  pub keeps-pure : {A : Type 0} (act : Act A) → Pure act → Keeps Q act
  keeps-pure act p = keeps-looks act (looks-pure act p)

  spend-keeps : (n : ℕ) (s : State) (w : World) → Q s → Gave (λ (u : Unit {0}) (t : State). Q t) (spend_of n w (λ w. Went (Gives tt s) w))
  spend-keeps zero s w q = tt
  spend-keeps (suc n) s w q = q

  pub keeps-tick : Keeps Q tick
  keeps-tick = record { by = λ s w q. spend-keeps w.ticks s w q }

-- ---- numbers of objects from a bound on

abbrev pub Newer : ℕ → List ℕ → Type 0
Newer m [] = Unit {0}
Newer m (o ∷ os) = (m ≤ o) × Newer m os

newer-both : (m : ℕ) (os ps : List ℕ) → Newer m os → Newer m ps → Newer m (os ++ ps)
newer-both m [] ps p q = q
newer-both m (o ∷ os) ps p q = (p.0, newer-both m os ps p.1 q)

pub newer-reverse : (m : ℕ) (os : List ℕ) → Newer m os → Newer m (reverse os)
newer-reverse m [] p = tt
newer-reverse m (o ∷ os) p = subst (Newer m) (sym (reverse-append (o ∷ []) os)) (newer-both m (reverse os) (o ∷ []) (newer-reverse m os p.1) (p.0, tt))

-- those in front of others
pub record Front (m : ℕ) (base os : List ℕ) : Type 0 where
  pub newer : List ℕ
  pub parts : os ≡ newer ++ base
  pub new : Newer m newer

pub front-all : (m : ℕ) (os : List ℕ) → Front m [] os → Newer m os
front-all m os f = subst (Newer m) (sym (f.parts ∙ append-nil f.newer)) f.new

-- ---- what lasts

-- an object as it was, but for what it holds
pub record Same (x y : Object) : Type 0 where
  pub type : y.type ≡ x.type
  pub life : y.life ≡ x.life
  pub gone : y.is_gone ≡ x.is_gone

same-then : (x y z : Object) → Same x y → Same y z → Same x z
same-then x y z a b = record { type = b.type ∙ a.type; life = b.life ∙ a.life; gone = b.gone ∙ a.gone }

-- The objects below the bound are as they were; temporaries, and the scope in front of its base, have newer ones.
pub record Lasting (m : ℕ) (before : ℕ → Object) (base : List ℕ) (s : State) : Type 0 where
  pub next : m ≤ s.next
  pub objects : (o : ℕ) → o < m → Same (before o) (s.object o)
  pub temporaries : Newer m s.frame.temporaries
  pub scope : Front m base s.frame.scope

module _ (m : ℕ) (before : ℕ → Object) where
  -- an object changes, which is as new as the bound or changes in what it holds alone
  changed-same : (objects : ℕ → Object) (p : ℕ) (x : Object) → (p < m → Same (objects p) x) → ((o : ℕ) → o < m → Same (before o) (objects o))
      → (o : ℕ) → o < m → Same (before o) (upd p x objects o)
  changed-same objects p x same h o lt = by (o == p) refl
    where
      by : (b : Bool) → (o == p) ≡ b → Same (before o) (if b then x else objects o)
      by true e =
          let at : o ≡ p = grind (arith, nat_tests, e) in
          same-then (before o) (objects o) x (h o lt) (subst (λ (i : ℕ). Same (objects i) x) (sym at) (same (subst (λ (i : ℕ). i < m) at lt)))
      by false e = h o lt

  module _ (base : List ℕ) where
    abbrev pub Q : State → Type 0
    Q = Lasting m before base

    lasting-object : (s : State) (p : ℕ) (x : Object) → (p < m → Same (s.object p) x) → Q s → Q (record s { object = upd p x s.object })
    lasting-object s p x same q =
        record { next = q.next; objects = changed-same s.object p x same q.objects; temporaries = q.temporaries; scope = q.scope }

    keeps-held : (p : ℕ) (f : Object → Object) → ((x : Object) → Same x (f x)) → Keeps Q (object_changed p f)
    keeps-held p f same = record { by = λ s w q. lasting-object s p (f (s.object p)) (λ lt. same (s.object p)) q }

    -- one of the new objects changes
    pub keeps-newer : (p : ℕ) (f : Object → Object) → m ≤ p → Keeps Q (object_changed p f)
    keeps-newer p f le = record { by = λ s w q. lasting-object s p (f (s.object p)) (λ lt. absurd (omega (arith, lt, le))) q }

    lasting-born : (s : State) (x : Object) → Q s → Q (record s { next = suc s.next; object = upd s.next x s.object })
    lasting-born s x q = record {
      next = (let le = q.next in omega (arith, le));
      objects = changed-same s.object s.next x (λ lt. absurd (let le = q.next in omega (arith, lt, le))) q.objects;
      temporaries = q.temporaries;
      scope = q.scope;
    }

    pub makes-declared : (t : SourceType) → Makes Q (λ (o : ℕ). m ≤ o) (declared_object t)
    makes-declared t = record { by = λ s w q. (q.next, lasting-born s (new_object t automatic) q) }

    -- ---- the frame

    pub keeps-local : (i o : ℕ) → Keeps Q (frame_changed (lists_local i o))
    keeps-local i o = record { by = λ s w q. record { next = q.next; objects = q.objects; temporaries = q.temporaries; scope = q.scope } }

    pub keeps-temporary : (o : ℕ) → m ≤ o → Keeps Q (frame_changed (lists_temporary o))
    keeps-temporary o le = record { by = λ s w q. record { next = q.next; objects = q.objects; temporaries = (le, q.temporaries); scope = q.scope } }

    pub keeps-scoped : (o : ℕ) → m ≤ o → Keeps Q (frame_changed (lists_in_scope o))
    keeps-scoped o le = record {
      by = λ s w q. record {
        next = q.next;
        objects = q.objects;
        temporaries = q.temporaries;
        scope = record { newer = o ∷ q.scope.newer; parts = ap (λ os. o ∷ os) q.scope.parts; new = (le, q.scope.new) };
      };
    }

    pub makes-new : (i : ℕ) (t : SourceType) → Makes Q (λ (o : ℕ). m ≤ o) (new_local i t)
    makes-new i t = record { by = λ s w q. by (nat_lt i s.frame.count) s w q }
      where
        by : (b : Bool) (s : State) (w : World) → Q s
            → Gave (λ (o : ℕ) (t : State). (m ≤ o) × Q t) ((valid b >> (declared_object t >>= (λ o. frame_changed (lists_local i o) >> gives o))) s w)
        by false s w q = tt
        by true s w q =
            let r = lasting-born s (new_object t automatic) q in
            (q.next, record { next = r.next; objects = r.objects; temporaries = r.temporaries; scope = r.scope })

    -- ---- what objects hold

    pub keeps-first : (p : Place) (v : Value) → Keeps Q (first_value p v)
    keeps-first p v = keeps-held p.object (hold p.route (Some v)) (λ x. record { type = refl; life = refl; gone = refl })

    pub keeps-write : (classes : List Class) (p : Place) (v : Value) → Keeps Q (write_place classes p v)
    keeps-write classes p v =
        keeps-next Q (names_scalar classes p) _ (keeps-looks Q (names_scalar classes p) (looks-names_scalar classes p))
        (keeps-next Q (use_place classes p) _ (keeps-looks Q (use_place classes p) (looks-use_place classes p))
        (keeps-at Q _ (λ s.
        keeps-next Q (need (not (is_constant_place classes (s.object p.object) p.route)) write_to_const) _ (keeps-pure Q _ (pure-need _ write_to_const))
        (keeps-held p.object (hold p.route (Some v)) (λ x. record { type = refl; life = refl; gone = refl })))))

    pub keeps-zeros : (classes : List Class) (p : Place) → Keeps Q (fill_zeros classes p)
    keeps-zeros classes p =
        keeps-at Q _ (λ s. keeps-held p.object (hold_all p.route (λ r. Some (zero_of (type_at classes (s.object p.object).type (r ++ p.route)))))
        (λ x. record { type = refl; life = refl; gone = refl }))

    pub keeps-bytes : (k : Kind) (p : Place) (i : ℕ) (b : List ℕ) → Keeps Q (write_bytes k p i b)
    keeps-bytes k p i [] = keeps-gives Q tt
    keeps-bytes k p i (b ∷ rest) =
        keeps-next Q (first_value (inner (item i) p) (Number (converted k (pos b)))) (write_bytes k p (suc i) rest) (keeps-first (inner (item i) p) _) (keeps-bytes k p (suc i) rest)

    keeps-scalar : (classes : List Class) (p : Place) (v : Value) → Keeps Q (state >>= (λ s. when (is_scalar (place_type classes s p)) (used v >>= first_value p) malformed))
    keeps-scalar classes p v =
        keeps-at Q _ (λ s. keeps-when Q (is_scalar (place_type classes s p)) (used v >>= first_value p) malformed
        (keeps-then Q (used v) (first_value p) (keeps-pure Q (used v) (pure-used v)) (keeps-first p)) (keeps-malformed Q))

    pub keeps-settle : (classes : List Class) (p : Place) (v : Value) → Keeps Q (settle classes p v)
    keeps-settle classes p Built = keeps-gives Q tt
    keeps-settle classes p v = keeps-scalar classes p v

    -- a literal's object comes
    pub keeps-literal : (j : ℕ) (bytes : List ℕ) → Keeps Q (literal_object j bytes)
    keeps-literal j bytes = record {
      by = λ s w q. by s w q (found_literal (find (λ (x : Literal). bytes_eq x.function s.frame.function && (x.number == j)) s.literals));
    }
      where
        by : (s : State) (w : World) → Q s → (x : Option ℕ)
            → Gave (λ (o : ℕ) (t : State). Q t) (some_or x (born (literal_of bytes) >>= (λ o. changed (λ s1. record s1 { literals = record { function = s.frame.function; number = j; object = o } ∷ s1.literals }) >> gives o)) s w)
        by s w q None =
            let r = lasting-born s (literal_of bytes) q in
            record { next = r.next; objects = r.objects; temporaries = r.temporaries; scope = r.scope }
        by s w q (Some o) = q

    -- ---- ends of objects

    lasting-gone : (os : List ℕ) → Newer m os → (s : State) → Q s → Q (all_gone os s)
    lasting-gone [] new s q = q
    lasting-gone (o ∷ os) new s q =
        lasting-gone os new.1 (with_object o gone s) (lasting-object s o (gone (s.object o)) (λ lt. absurd (let le = new.0 in omega (arith, lt, le))) q)

    pub keeps-ends : (again : calling.Again) (P : Program) → P.classes ≡ [] → (os : List ℕ) → Newer m os → Keeps Q (for_all os (end_object again P))
    keeps-ends again P classless os new = record {
      by = λ s w q. subst (Gave (λ (u : Unit {0}) (t : State). Q t)) (sym (ends-all again P classless os s w)) (lasting-gone os new s q);
    }

    pub keeps-gone : (os : List ℕ) → Newer m os → Keeps Q (for_all os (λ o. object_changed o gone))
    keeps-gone [] new = keeps-gives Q tt
    keeps-gone (o ∷ os) new = keeps-next Q (object_changed o gone) (for_all os (λ o. object_changed o gone)) (keeps-newer o gone new.0) (keeps-gone os new.1)

    -- ---- full expressions

    framed : (s : State) (ts : List ℕ) → Newer m ts → Q s → Q (with_frame (record s.frame { temporaries = ts }) s)
    framed s ts new q = record { next = q.next; objects = q.objects; temporaries = new; scope = q.scope }

    pub keeps-full : {A : Type 0} (again : calling.Again) (P : Program) → P.classes ≡ [] → (act : Act A) → Keeps Q act → Keeps Q (full_expression again P act)
    keeps-full {A} again P classless act p = record {
      by = λ s w q.
          gave-then (λ (a : A) (t : State). Q t) (λ (a : A) (t : State). Q t) (act (with_frame (record s.frame { temporaries = [] }) s) w) (closing again P s.frame.temporaries)
          (p.by (with_frame (record s.frame { temporaries = [] }) s) w (framed s [] tt q)) (λ a t w r.
          gave-then (λ (u : Unit {0}) (t : State). Q t) (λ (a : A) (t : State). Q t) (for_all t.frame.temporaries (end_object again P) t w)
          (λ u. frame_changed (λ f. record f { temporaries = s.frame.temporaries }) >> gives a)
          (Keeps.by (keeps-ends again P classless t.frame.temporaries r.temporaries) t w r) (λ u t w r. framed t s.frame.temporaries q.temporaries r));
    }

  -- ---- scopes

  pub keeps-scope : (again : calling.Again) (P : Program) → P.classes ≡ [] → (act : Act calling.Flow) → Keeps (Lasting m before []) act
      → (base : List ℕ) → Keeps (Lasting m before base) (in_scope again P act)
  keeps-scope again P classless act p base = record {
    by = λ s w q.
        let s0 : State = with_frame (record s.frame { scope = [] }) s in
        gave-then (λ (a : calling.Flow) (t : State). Lasting m before [] t) (λ (a : calling.Flow) (t : State). Lasting m before base t) (act s0 w)
        (λ flow. state >>= (λ t. for_all t.frame.scope (end_object again P) >> (frame_changed (λ f. record f { scope = s.frame.scope }) >> gives flow)))
        (p.by s0 w (record { next = q.next; objects = q.objects; temporaries = q.temporaries; scope = record { newer = []; parts = refl; new = tt } })) (λ flow t w r.
        gave-then (λ (u : Unit {0}) (t : State). Lasting m before [] t) (λ (a : calling.Flow) (t : State). Lasting m before base t) (for_all t.frame.scope (end_object again P) t w)
        (λ u. frame_changed (λ f. record f { scope = s.frame.scope }) >> gives flow)
        (Keeps.by (keeps-ends [] again P classless t.frame.scope (front-all m t.frame.scope r.scope)) t w r)
        (λ u t w r. record { next = r.next; objects = r.objects; temporaries = r.temporaries; scope = q.scope }));
  }

  -- ---- calls

  pure-returned : (t : SourceType) (flow : calling.Flow) → Pure (returned t flow)
  pure-returned t calling.Falls = pure-gives _
  pure-returned t calling.Breaks = pure-malformed
  pure-returned t calling.Continues = pure-malformed
  pure-returned t (calling.Returns v) = pure-gives _

  module _ (base : List ℕ) where
    abbrev R : State → Type 0
    R = Lasting m before base

    keeps-put : (v : Value) → Keeps R (put v)
    keeps-put (Number z) = record { by = λ s w q. q }
    keeps-put v = keeps-malformed R

    keeps-leave : (v : Value) → Keeps R (leave_with v)
    keeps-leave (Number z) = record { by = λ s w q. tt }
    keeps-leave v = keeps-malformed R

    keeps-get : Keeps R get
    keeps-get = record { by = λ s w q. by s w q w.input }
      where
        by : (s : State) (w : World) → R s → (xs : List ℕ) → Gave (λ (v : Value) (t : State). R t) (next_of xs w (λ b w. Went (Gives (byte_value b) s) w))
        by s w q [] = q
        by s w q (x ∷ xs) = q

    keeps-library : (name : Name) (args : List ℕ) → Keeps R (run_library name args)
    keeps-library name args = keeps-at R _ (λ s. by s (bytes_eq name (codes "getchar")))
      where
        by : (s : State) (b : Bool) → Keeps R (elim b as (λ _. Act Value) [
          | true ↦ get
          | false ↦ some_or (argument args s) malformed >>= (λ v. when (bytes_eq name (codes "putchar")) (put v) (leave_with v))
        ])
        by s true = keeps-get
        by s false =
            keeps-then R (some_or (argument args s) malformed) _ (keeps-some R (argument args s) malformed (keeps-malformed R))
            (λ v. keeps-when R (bytes_eq name (codes "putchar")) (put v) (leave_with v) (keeps-put v) (keeps-leave v))

    keeps-call : (name : Name) (args : List ℕ) → Newer m args → Keeps R (call_library name args)
    keeps-call name args new =
        keeps-then R (run_library name args) _ (keeps-library name args)
        (λ v. keeps-next R (for_all args (λ o. object_changed o gone)) (gives v) (keeps-gone base args new) (keeps-gives R v))

    module _ (again : calling.Again) (f : Function) (args : List ℕ) (this into : Option Place) (runs : Keeps (Lasting m before []) (again (body f args))) where
      entered : (s : State) (w : World) (depth : ℕ) → R s
          → Gave (λ (v : Value) (t : State). R t)
          ((again (body f args) >>= (λ flow. changed (with_frame s.frame) >> returned (result f.type) flow)) (with_frame (frame_of f.name (local_count f) args this into depth) s) (show (Enter f.name) w))
      entered s w depth q =
          gave-then (λ (flow : calling.Flow) (t : State). Lasting m before [] t) (λ (v : Value) (t : State). R t)
          (again (body f args) (with_frame (frame_of f.name (local_count f) args this into depth) s) (show (Enter f.name) w)) (λ flow. changed (with_frame s.frame) >> returned (result f.type) flow)
          (runs.by _ _ (record { next = q.next; objects = q.objects; temporaries = tt; scope = record { newer = []; parts = refl; new = tt } })) (λ flow t w r.
          Keeps.by (keeps-pure R (returned (result f.type) flow) (pure-returned (result f.type) flow)) (with_frame s.frame t) w
          (record { next = r.next; objects = r.objects; temporaries = q.temporaries; scope = q.scope }))

      by-depth : (d : ℕ) (s : State) (w : World) → R s
          → Gave (λ (v : Value) (t : State). R t)
          (deeper d w (λ depth. (again (body f args) >>= (λ flow. changed (with_frame s.frame) >> returned (result f.type) flow)) (with_frame (frame_of f.name (local_count f) args this into depth) s) (show (Enter f.name) w)))
      by-depth zero s w q = tt
      by-depth (suc d) s w q = entered s w d q

      by-ticks : (n : ℕ) (s : State) (w : World) → R s
          → Gave (λ (v : Value) (t : State). R t)
          (spend_of n w (λ w. deeper s.frame.depth w (λ depth.
          (again (body f args) >>= (λ flow. changed (with_frame s.frame) >> returned (result f.type) flow)) (with_frame (frame_of f.name (local_count f) args this into depth) s) (show (Enter f.name) w))))
      by-ticks zero s w q = tt
      by-ticks (suc n) s w q = by-depth s.frame.depth s (record w { ticks = n }) q

      keeps-enter : Keeps R (enter again f args this into)
      keeps-enter = record { by = λ s w q. by-ticks w.ticks s w q }

    -- what is called by name: each function of the program keeps what lasts
    pub keeps-named : (again : calling.Again) (P : Program) (name : Name) (args : List ℕ) (this into : Option Place)
        → ((f : Function) → function_named P name ≡ Some f → Keeps (Lasting m before []) (again (body f args))) → Newer m args → Keeps R (run_named again P name args this into)
    keeps-named again P name args this into runs new = by (is_library name)
      where
        found : (o : Option Function) → function_named P name ≡ o → Keeps R (enter_found again o args this into)
        found None e = keeps-malformed R
        found (Some f) e = keeps-next R (valid _) (enter again f args this into) (keeps-pure R _ (pure-valid _)) (keeps-enter again f args this into (runs f e))

        by : (b : Bool) → Keeps R (elim b as (λ _. Act Value) [ true ↦ call_library name args | false ↦ enter_found again (function_named P name) args this into ])
        by true = keeps-call name args new
        by false = found (function_named P name) refl
