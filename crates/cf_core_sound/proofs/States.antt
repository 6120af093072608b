-- A moment stays sound where an object is changed by values of its scalars' types, where one is made, and where the frame's lists change.
use Rattle.std.proofs.Common.{◌≡◌, ℕ, suc, ◌<◌, Bool, true, false, ◌==◌, List, [], ◌∷◌, ◌⊎◌, inl, inr, refl, sym, ap, ◌∙◌, subst, arith, length}
use Rattle.std.specs.Prelude.{Some, None, slice_get}
use Rattle.std.proofs.lemmas.Bool.{eqb-true}
use Rattle.std.proofs.lemmas.Bool.Decides.{nat_tests}
use Rattle.cf_core.specs.Types.{Name, SourceType}
use Rattle.cf_core.specs.Places.{Route, type_at, is_scalar}
use Rattle.cf_core.specs.Store.{Value, Object}
use Rattle.cf_core.specs.Run.{State, Frame, Literal, upd, with_object, with_frame}
use Rattle.cf_core.specs.Calls.{Program}
use Rattle.cf_core_sound.specs.Proper.{is_proper, shape}
use Rattle.cf_core_sound.specs.Values.{IsOf}
use Rattle.cf_core_sound.specs.States.{Stands, char_array, Sound, Later, Behind}
use Rattle.cf_core_sound.proofs.Moments.{is-later, stands-later, literals-later}

-- an object of this very type stays one
same-type : (s t : State) (i : ℕ) (a : SourceType) → Later s t → (i < s.next) × ((s.object i).type ≡ a) → (i < t.next) × ((t.object i).type ≡ a)
same-type s t i a h k = (let lt = k.0 in let le = h.next in omega (arith, lt, le), h.types i k.0 ∙ k.1)

-- ---- a map that is changed at a number

pub upd-cases : {A : Type 0} (i : ℕ) (a : A) (f : ℕ → A) (j : ℕ) → ((j ≡ i) × (upd i a f j ≡ a)) ⊎ ((j ≡ i → ⊥) × (upd i a f j ≡ f j))
upd-cases {A} i a f j = by_test (j == i) refl
  where
    by_test : (b : Bool) → (j == i) ≡ b → ((j ≡ i) × (upd i a f j ≡ a)) ⊎ ((j ≡ i → ⊥) × (upd i a f j ≡ f j))
    by_test true e = inl (eqb-true j i e, rw e refl)
    by_test false e = inr (λ k. grind (arith, nat_tests, e, k), rw e refl)

pub upd-there : {A : Type 0} (i : ℕ) (a : A) (f : ℕ → A) → upd i a f i ≡ a
upd-there i a f = by_case (upd-cases i a f i)
  where
    by_case : ((i ≡ i) × (upd i a f i ≡ a)) ⊎ ((i ≡ i → ⊥) × (upd i a f i ≡ f i)) → upd i a f i ≡ a
    by_case (inl k) = k.1
    by_case (inr k) = absurd (k.0 refl)

-- what an object holds
abbrev pub HoldsOf : Program → State → Object → Type 0
HoldsOf P s x = (π : Route) (v : Value) → is_scalar (type_at [] x.type π) ≡ true → x.held π ≡ Some v → IsOf P s (shape (type_at [] x.type π)) v

module _ (P : Program) (locals : List SourceType) (s : State) (h : Sound P locals s) where
  -- ---- an object is changed

  module _ (o : ℕ) (f : Object → Object) (same : (f (s.object o)).type ≡ (s.object o).type) where
    object-types : (j : ℕ) → ((with_object o f s).object j).type ≡ (s.object j).type
    object-types j = by_case (upd-cases o (f (s.object o)) s.object j)
      where
        by_case : ((j ≡ o) × (upd o (f (s.object o)) s.object j ≡ f (s.object o))) ⊎ ((j ≡ o → ⊥) × (upd o (f (s.object o)) s.object j ≡ s.object j))
            → ((with_object o f s).object j).type ≡ (s.object j).type
        by_case (inl k) = ap (λ (x : Object). x.type) k.1 ∙ same ∙ ap (λ i. (s.object i).type) (sym k.0)
        by_case (inr k) = ap (λ (x : Object). x.type) k.1

    object-later : Later s (with_object o f s)
    object-later = record { next = omega arith; types = λ j lt. object-types j }

    pub object-behind : (o < s.next → HoldsOf P s (f (s.object o))) → Behind P locals s (with_object o f s)
    object-behind holds = record {
      later = object-later;
      sound = record {
        statics = λ i x e. same-type s (with_object o f s) i x.type (object-later) (h.statics i x e);
        proper = λ j lt. subst (λ t. is_proper t ≡ true) (sym (object-types j)) (h.proper j lt);
        holds = λ j π v lt. by_case j π v lt (upd-cases o (f (s.object o)) s.object j);
        literals = literals-later s (with_object o f s) s.literals object-later h.literals;
        count = h.count;
        result = h.result;
        locals_stand = λ i j t e k. stands-later s (with_object o f s) t j object-later (h.locals_stand i j t e k);
      };
    }
      where
        Is : Object → Route → Value → Type 0
        Is x π v = is_scalar (type_at [] x.type π) ≡ true → x.held π ≡ Some v → IsOf P (with_object o f s) (shape (type_at [] x.type π)) v

        by_case : (j : ℕ) (π : Route) (v : Value) → j < s.next
            → ((j ≡ o) × (upd o (f (s.object o)) s.object j ≡ f (s.object o))) ⊎ ((j ≡ o → ⊥) × (upd o (f (s.object o)) s.object j ≡ s.object j))
            → is_scalar (type_at [] ((with_object o f s).object j).type π) ≡ true → ((with_object o f s).object j).held π ≡ Some v
            → IsOf P (with_object o f s) (shape (type_at [] ((with_object o f s).object j).type π)) v
        by_case j π v lt (inl k) =
            subst (λ (x : Object). is_scalar (type_at [] x.type π) ≡ true → x.held π ≡ Some v → IsOf P (with_object o f s) (shape (type_at [] x.type π)) v) (sym k.1)
            (λ sc e. is-later P s (with_object o f s) object-later _ v (holds (let e = k.0 in omega (arith, lt, e)) π v sc e))
        by_case j π v lt (inr k) =
            subst (λ (x : Object). is_scalar (type_at [] x.type π) ≡ true → x.held π ≡ Some v → IsOf P (with_object o f s) (shape (type_at [] x.type π)) v) (sym k.1)
            (λ sc e. is-later P s (with_object o f s) object-later _ v (h.holds j π v lt sc e))

  -- ---- an object is made

  module _ (x : Object) where
    abbrev pub with_new : State
    with_new = record s { next = suc s.next; object = upd s.next x s.object }

    new-types : (j : ℕ) → j < s.next → (with_new.object j).type ≡ (s.object j).type
    new-types j lt = by_case (upd-cases s.next x s.object j)
      where
        by_case : ((j ≡ s.next) × (upd s.next x s.object j ≡ x)) ⊎ ((j ≡ s.next → ⊥) × (upd s.next x s.object j ≡ s.object j)) → (with_new.object j).type ≡ (s.object j).type
        by_case (inl k) = absurd (let e = k.0 in omega (arith, lt, e))
        by_case (inr k) = ap (λ (y : Object). y.type) k.1

    pub new-later : Later s with_new
    new-later = record { next = omega arith; types = new-types }

    pub new-behind : is_proper x.type ≡ true → HoldsOf P s x → Behind P locals s with_new
    new-behind proper holds = record {
      later = new-later;
      sound = record {
        statics = λ i y e. same-type s with_new i y.type (new-later) (h.statics i y e);
        proper = λ j lt. proper_at j lt (upd-cases s.next x s.object j);
        holds = λ j π v lt. by_case j π v lt (upd-cases s.next x s.object j);
        literals = literals-later s with_new s.literals new-later h.literals;
        count = h.count;
        result = h.result;
        locals_stand = λ i j t e k. stands-later s with_new t j new-later (h.locals_stand i j t e k);
      };
    }
      where
        proper_at : (j : ℕ) → j < suc s.next → ((j ≡ s.next) × (upd s.next x s.object j ≡ x)) ⊎ ((j ≡ s.next → ⊥) × (upd s.next x s.object j ≡ s.object j))
            → is_proper (with_new.object j).type ≡ true
        proper_at j lt (inl k) = subst (λ (y : Object). is_proper y.type ≡ true) (sym k.1) proper
        proper_at j lt (inr k) = subst (λ (y : Object). is_proper y.type ≡ true) (sym k.1) (h.proper j (let ne = k.0 in omega (arith, lt, ne)))

        by_case : (j : ℕ) (π : Route) (v : Value) → j < suc s.next
            → ((j ≡ s.next) × (upd s.next x s.object j ≡ x)) ⊎ ((j ≡ s.next → ⊥) × (upd s.next x s.object j ≡ s.object j))
            → is_scalar (type_at [] (with_new.object j).type π) ≡ true → (with_new.object j).held π ≡ Some v
            → IsOf P with_new (shape (type_at [] (with_new.object j).type π)) v
        by_case j π v lt (inl k) =
            subst (λ (y : Object). is_scalar (type_at [] y.type π) ≡ true → y.held π ≡ Some v → IsOf P with_new (shape (type_at [] y.type π)) v) (sym k.1)
            (λ sc e. is-later P s with_new new-later _ v (holds π v sc e))
        by_case j π v lt (inr k) =
            subst (λ (y : Object). is_scalar (type_at [] y.type π) ≡ true → y.held π ≡ Some v → IsOf P with_new (shape (type_at [] y.type π)) v) (sym k.1)
            (λ sc e. is-later P s with_new new-later _ v (h.holds j π v (let ne = k.0 in omega (arith, lt, ne)) sc e))

  -- a literal's object is listed
  pub literal-behind : (x : Literal) → Stands s char_array x.object → Behind P locals s (record s { literals = x ∷ s.literals })
  literal-behind x stands = record {
    later = listed;
    sound = record {
      statics = λ i y e. same-type s (record s { literals = x ∷ s.literals }) i y.type (listed) (h.statics i y e);
      proper = h.proper;
      holds = λ j π v lt sc e. is-later P s (record s { literals = x ∷ s.literals }) listed _ v (h.holds j π v lt sc e);
      literals = (stands-later s (record s { literals = x ∷ s.literals }) char_array x.object listed stands, literals-later s (record s { literals = x ∷ s.literals }) s.literals listed h.literals);
      count = h.count;
      result = h.result;
      locals_stand = λ i j t e k. stands-later s (record s { literals = x ∷ s.literals }) t j listed (h.locals_stand i j t e k);
    };
  }
    where
      listed : Later s (record s { literals = x ∷ s.literals })
      listed = record { next = omega arith; types = λ j lt. refl }

  -- control has reached a static object
  pub reached-behind : (names : List Name) → Behind P locals s (record s { reached = names })
  reached-behind names = record {
    later = there;
    sound = record {
      statics = λ i y e. same-type s (record s { reached = names }) i y.type there (h.statics i y e);
      proper = h.proper;
      holds = λ j π v lt sc e. is-later P s (record s { reached = names }) there _ v (h.holds j π v lt sc e);
      literals = literals-later s (record s { reached = names }) s.literals there h.literals;
      count = h.count;
      result = h.result;
      locals_stand = λ i j t e k. stands-later s (record s { reached = names }) t j there (h.locals_stand i j t e k);
    };
  }
    where
      there : Later s (record s { reached = names })
      there = record { next = omega arith; types = λ j lt. refl }

  -- ---- the frame is changed

  pub frame-later : (f : Frame) → Later s (with_frame f s)
  frame-later f = record { next = omega arith; types = λ j lt. refl }

  -- another function's frame
  pub frame-sound : (ls : List SourceType) (f : Frame) → f.count ≡ length ls → f.result ≡ None
      → ((i o : ℕ) (t : SourceType) → f.locals i ≡ Some o → slice_get ls i ≡ Some t → Stands s t o) → Sound P ls (with_frame f s)
  frame-sound ls f count result stand = record {
    statics = λ i x e. same-type s (with_frame f s) i x.type ((frame-later f)) (h.statics i x e);
    proper = h.proper;
    holds = λ j π v lt sc e. is-later P s (with_frame f s) (frame-later f) _ v (h.holds j π v lt sc e);
    literals = literals-later s (with_frame f s) s.literals (frame-later f) h.literals;
    count = count;
    result = result;
    locals_stand = λ i j t e k. stands-later s (with_frame f s) t j (frame-later f) (stand i j t e k);
  }

  -- the same function's, with other lists
  pub frame-behind : (f : Frame) → f.count ≡ s.frame.count → f.result ≡ s.frame.result → f.locals ≡ s.frame.locals → Behind P locals s (with_frame f s)
  frame-behind f count result same = record {
    later = frame-later f;
    sound = frame-sound locals f (count ∙ h.count) (result ∙ h.result) (λ i o t e k. h.locals_stand i o t (ap (λ g. g i) (sym same) ∙ e) k);
  }

  -- a local is listed
  pub local-behind : (f : Frame) (i o : ℕ) (t : SourceType) → f.count ≡ s.frame.count → f.result ≡ s.frame.result → f.locals ≡ upd i (Some o) s.frame.locals
      → slice_get locals i ≡ Some t → Stands s t o → Behind P locals s (with_frame f s)
  local-behind f i o t count result same there stands = record {
    later = frame-later f;
    sound = frame-sound locals f (count ∙ h.count) (result ∙ h.result) (λ j q u e k. by_case j q u k (ap (λ g. g j) (sym same) ∙ e) (upd-cases i (Some o) s.frame.locals j));
  }
    where
      of-some : {A : Type 0} (a b : A) → Some a ≡ Some b → a ≡ b
      of-some a b e = cc

      by_case : (j q : ℕ) (u : SourceType) → slice_get locals j ≡ Some u → upd i (Some o) s.frame.locals j ≡ Some q
          → ((j ≡ i) × (upd i (Some o) s.frame.locals j ≡ Some o)) ⊎ ((j ≡ i → ⊥) × (upd i (Some o) s.frame.locals j ≡ s.frame.locals j)) → Stands s u q
      by_case j q u k e (inl m) =
          let to : o ≡ q = of-some o q (sym m.1 ∙ e) in
          let tu : t ≡ u = of-some t u (sym there ∙ ap (slice_get locals) (sym m.0) ∙ k) in
          subst (λ r. Stands s u r) to (subst (λ r. Stands s r o) tu stands)
      by_case j q u k e (inr m) = h.locals_stand j q u (sym m.1 ∙ e) k
