-- Functions and turns at each bound of ticks, and the whole run.
use Rattle.std.proofs.Common.{◌≡◌, ℕ, zero, suc, cond, Bool, true, false, not, List, [], ◌∷◌, reverse, inl, inr, refl, sym, subst, true≢false, bytes_eq}
use Rattle.std.specs.Prelude.{Some, None, slice_get, find}
use Rattle.std.specs.List.{list_all}
use Rattle.cf_base.proofs.Tests.{both}
use Rattle.cf_core.specs.Types.{Name, SourceType, result, is_class}
use Rattle.cf_core.specs.Core.{Core, Role, plain_function, member_function, constructor, destructor, Function, Static}
use Rattle.cf_core.specs.Run.{State, Act, ◌>>=◌, ◌>>◌, gives, state, done, for_all}
use Rattle.cf_core.specs.Calls.{Program, Setting, Flow, Falls, Breaks, Continues, Returns, Again, function_named, end_object, in_scope}
use Rattle.cf_core.specs.Statements.{does}
use Rattle.cf_core.specs.Program.{begins, unbuilds, ends, ended_well, runs}
use Rattle.cf_core.specs.Valid.{Body, fits}
use Rattle.cf_core_sound.specs.Proper.{is_proper, shape}
use Rattle.cf_core_sound.specs.States.{Sound, Later}
use Rattle.cf_core_sound.specs.Well.{Well}
use Rattle.cf_core_sound.specs.Simple.{is_chain}
use Rattle.cf_core_sound.specs.Statements.{is_object, is_simple_statement, EndsWell, Turns}
use Rattle.cf_core_sound.specs.Calls.{IsBack, frame_types, Bodies, Around, classless}
use Rattle.cf_core.specs.Places.{is_reference}
use Rattle.cf_core.specs.Types.{SourceType}
use Rattle.cf_core.specs.Typing.{is_function}
use Rattle.cf_core.specs.Valid.{body_of}
use Rattle.cf_core.specs.Run.{no_result}
use Rattle.cf_core_sound.specs.Programs.{is_plain_role, in_program, is_sound_function, is_sound_static}
use Rattle.cf_core_sound.proofs.Moments.{is-later}
use Rattle.cf_core_sound.proofs.Scopes.{Stays, ends-well, scope-well}
use Rattle.cf_core_sound.proofs.Turning.{does-well}
use Rattle.cf_core_sound.proofs.Wells.{well-then, well-next, well-gives, well-at, well-undefined}

no-test : false ≡ true → ⊥
no-test e = true≢false (sym e)

of-some : {A : Type 0} (a b : A) → Some a ≡ Some b → a ≡ b
of-some a b e = cc

none-is : {A : Type 0} (a : A) → None ≡ Some a → ⊥
none-is a e = absurd (cc)

not-true : (b : Bool) → not b ≡ true → b ≡ false
not-true true h = absurd (true≢false (sym h))
not-true false h = refl

role-is : (r : Role) → is_plain_role r ≡ true → r ≡ plain_function
role-is plain_function e = refl
role-is (member_function c) e = absurd (no-test e)
role-is (constructor c) e = absurd (no-test e)
role-is (destructor c) e = absurd (no-test e)

-- what all of a list are, each is
found-all : (test : Function → Bool) (name : Name) (fs : List Function) (f : Function) → list_all test fs ≡ true → find (λ (f : Function). bytes_eq f.name name) fs ≡ Some f → test f ≡ true
found-all test name [] f ok e = absurd (none-is f e)
found-all test name (g ∷ fs) f ok e =
    let parts = both (test g) (list_all test fs) ok in
    by_test (λ e. found-all test name fs f parts.1 e) parts.0 (bytes_eq g.name name) refl e
  where
    by_test : (find (λ (f : Function). bytes_eq f.name name) fs ≡ Some f → test f ≡ true) → test g ≡ true → (b : Bool) → bytes_eq g.name name ≡ b
        → cond b (Some g) (find (λ (f : Function). bytes_eq f.name name) fs) ≡ Some f → test f ≡ true
    by_test rest here true t e = subst (λ x. test x ≡ true) (of-some g f e) here
    by_test rest here false t e = rest e

pub at-all : {A : Type 0} (test : A → Bool) (xs : List A) (i : ℕ) (x : A) → list_all test xs ≡ true → slice_get xs i ≡ Some x → test x ≡ true
at-all test [] i x ok e = absurd (none-is x e)
at-all test (y ∷ xs) zero x ok e = subst (λ z. test z ≡ true) (of-some y x e) (both (test y) (list_all test xs) ok).0
at-all test (y ∷ xs) (suc i) x ok e = at-all test xs i x (both (test y) (list_all test xs) ok).1 e

module _ (fs : List Function) (xs : List Static) (ks : List Setting) (inits : List Function) where
  abbrev P : Program
  P = classless fs xs ks inits

  abbrev Bodied : Function → Body
  Bodied f = body_of (in_program P) f

  pub object-told : (t : SourceType) → is_object t ≡ true → (is_proper t ≡ true) × (is_function t ≡ false)
  object-told t e = let parts = both (is_proper t) (not (is_function t)) e in (parts.0, not-true (is_function t) parts.1)

  pub statics-around : list_all is_sound_static xs ≡ true → (i : ℕ) (x : Static) → slice_get xs i ≡ Some x → (is_proper x.type ≡ true) × (is_function x.type ≡ false)
  statics-around ok i x e = object-told x.type (both (is_object x.type) (not (is_reference x.type)) (at-all is_sound_static xs i x ok e)).0

  around-of : (f : Function) → list_all is_sound_static xs ≡ true → list_all is_object (frame_types f) ≡ true → Around P (frame_types f)
  around-of f ok all = record { locals = λ i t e. object-told t (at-all is_object (frame_types f) i t all e); statics = statics-around ok }

  -- a body of a plain function
  abbrev body_run : Again → Role → Bool → Core → List ℕ → Act Flow
  body_run again role b e args = state >>= (λ before. begins [] role before.frame.this >> (in_scope again P (does again P e) >>= (λ flow. ended_well b flow
      >> (unbuilds again P role before.frame.this >> (for_all (reverse args) (end_object again P) >> (ends [] role before.frame.this before >> gives flow))))))

  back-of : (t : SourceType) (flow : Flow) (s : State) → EndsWell P t false false flow s → IsBack P t flow s
  back-of t Falls s q = tt
  back-of t Breaks s q = no-test q
  back-of t Continues s q = no-test q
  back-of t (Returns v) s q = q

  ended-well : (L : List SourceType) (s : State) (b : Bool) (flow : Flow) → Sound P L s → Well P L s (λ _ u. Unit {0}) (ended_well b flow)
  ended-well L s true Falls h = well-undefined P L s no_result
  ended-well L s true Breaks h = well-gives P L s tt h tt
  ended-well L s true Continues h = well-gives P L s tt h tt
  ended-well L s true (Returns v) h = well-gives P L s tt h tt
  ended-well L s false flow h = well-gives P L s tt h tt

  end-later : (t : SourceType) (flow : Flow) (s u : State) → Later s u → EndsWell P t false false flow s → EndsWell P t false false flow u
  end-later t Falls s u l q = q
  end-later t Breaks s u l q = q
  end-later t Continues s u l q = q
  end-later t (Returns v) s u l (inl n) = inl n
  end-later t (Returns v) s u l (inr (inl m)) = inr (inl m)
  end-later t (Returns v) s u l (inr (inr i)) = inr (inr (is-later P s u l (shape t) v i))

  end-stays : (again : Again) (L : List SourceType) (t : SourceType) → Stays again fs xs ks inits L (EndsWell P t false false)
  unfolding Stays
  end-stays again L t flow s u l q = end-later t flow s u l q

  run-body : (again : Again) (f : Function) (b : Bool) (args : List ℕ) (s : State) → Sound P (frame_types f) s
      → ((u : State) → Sound P (frame_types f) u → Well P (frame_types f) u (EndsWell P (result f.type) false false) (does again P f.body))
      → Well P (frame_types f) s (IsBack P (result f.type)) (body_run again plain_function b f.body args)
  run-body again f b args s h k =
      well-at P L s (λ before. done >> (in_scope again P (does again P f.body) >>= (λ flow. ended_well b flow >> (done >> (for_all (reverse args) (end_object again P) >> (done >> gives flow)))))) h
      (record {
        by = λ w bytes. (well-then P L s (in_scope again P (does again P f.body)) (λ flow. ended_well b flow >> (done >> (for_all (reverse args) (end_object again P) >> (done >> gives flow))))
            (scope-well again fs xs ks inits L s (does again P f.body) h (end-stays again L (result f.type)) (λ u d. k u d.sound)) (λ flow u d q.
            well-next P L {Q = λ _ v. Unit {0}} u (ended_well b flow) (done >> (for_all (reverse args) (end_object again P) >> (done >> gives flow))) (ended-well L u b flow d.sound) (λ _ v e i.
            record {
              by = λ w bytes. (well-next P L {Q = λ _ v. Unit {0}} v (for_all (reverse args) (end_object again P)) (done >> gives flow) (ends-well again fs xs ks inits L (reverse args) v e.sound) (λ _ x g j.
                  record { by = λ w bytes. (well-gives P L x flow g.sound (back-of (result f.type) flow x (end-later (result f.type) flow v x g.later (end-later (result f.type) flow u v e.later q)))).by w bytes })).by w bytes;
            }))).by w bytes;
      })
    where
      L : List SourceType
      L = frame_types f

  -- ---- each bound of ticks

  record FunctionSound (f : Function) : Type 0 where
    role : f.role ≡ plain_function
    chain : is_chain f.type ≡ true
    objects : list_all is_object (frame_types f) ≡ true
    simple : is_simple_statement P (Bodied f).scope f.body ≡ true
    typed : fits (Bodied f) false false f.body ≡ true

  function-sound : (f : Function) → is_sound_function P f ≡ true → FunctionSound f
  function-sound f ok =
      let first = both (is_plain_role f.role) _ ok in
      let second = both (is_chain f.type) _ first.1 in
      let third = both (list_all is_object (frame_types f)) _ second.1 in
      let fourth = both (is_simple_statement P (Bodied f).scope f.body) (fits (Bodied f) false false f.body) third.1 in
      record { role = role-is f.role first.0; chain = second.0; objects = third.0; simple = fourth.0; typed = fourth.1 }

  module _ (functions : list_all (is_sound_function P) fs ≡ true) (statics : list_all is_sound_static xs ≡ true) where
    sound-of : (name : Name) (f : Function) → function_named P name ≡ Some f → FunctionSound f
    sound-of name f e = function-sound f (found-all (is_sound_function P) name fs f functions e)

    record Goes (again : Again) : Type 0 where
      bodies : Bodies P again
      turns : (B : Body) → Around P B.scope.locals → Turns P again B

    none-goes : Goes (runs P zero)
    none-goes = record {
      bodies = record { chain = λ name f e. (sound-of name f e).chain; by = λ name f e s os h. record { by = λ w bytes. record { by = tt } } };
      turns = λ B around. record { by = λ e ok b c k s h. record { by = λ w bytes. record { by = tt } } };
    }

    body-goes : (n : ℕ) → Goes (runs P n) → (f : Function) → FunctionSound f → (s : State) (os : List ℕ) → Sound P (frame_types f) s
        → Well P (frame_types f) s (IsBack P (result f.type)) (body_run (runs P n) f.role (is_class (result f.type)) f.body os)
    body-goes n g f fine s os h =
        subst (λ r. Well P (frame_types f) s (IsBack P (result f.type)) (body_run (runs P n) r (is_class (result f.type)) f.body os)) (sym fine.role)
        (run-body (runs P n) f (is_class (result f.type)) os s h (λ u h.
        does-well (runs P n) fs xs ks inits (Bodied f) (around-of f statics fine.objects) g.bodies (g.turns (Bodied f) (around-of f statics fine.objects)) false false f.body u fine.simple fine.typed h))

    more-goes : (n : ℕ) → Goes (runs P n) → Goes (runs P (suc n))
    more-goes n g = record {
      bodies = record {
        chain = λ name f e. (sound-of name f e).chain;
        by = λ name f e s os h. record { by = λ w bytes. (body-goes n g f (sound-of name f e) s os h).by w bytes };
      };
      turns = λ B around. record {
        by = λ e ok b c k s h. record {
          by = λ w bytes.
              (does-well (runs P n) fs xs ks inits B around g.bodies (g.turns B around) b c e s ok k h).by w bytes;
        };
      };
    }

    all-goes : (n : ℕ) → Goes (runs P n)
    all-goes zero = none-goes
    all-goes (suc n) = more-goes n (all-goes n)

    pub bodies-sound : (n : ℕ) → Bodies P (runs P n)
    bodies-sound n = (all-goes n).bodies
