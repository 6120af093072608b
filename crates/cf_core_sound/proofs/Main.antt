-- A whole run: static objects begin with zeros, constants are set, `main` runs, and nothing is destroyed.
use Rattle.std.proofs.Common.{◌≡◌, ℕ, zero, suc, ◌<◌, Bool, true, false, ◌&&◌, not, List, [], ◌∷◌, ℤ, pos, inl, inr, refl, sym, ap, subst, true≢false, arith, codes}
use Rattle.std.specs.Prelude.{Option, Some, None, slice_get}
use Rattle.std.specs.List.{list_all}
use Rattle.cf_base.proofs.Tests.{both}
use Rattle.cf_base.specs.World.{World, Ran, Went, Stops, and_then, world_at}
use Rattle.cf_base.specs.declared.kind.Kind.TheVariants.{Int}
use Rattle.cf_core.specs.Types.{SourceType, void, integer, enumeration, class, pointer, reference, array, takes, gives as gives_type, data_member, function_member, const}
use Rattle.cf_core.specs.Core.{Function, Static, item}
use Rattle.cf_core.specs.Places.{Route, Place, inner, type_at, is_scalar, is_reference}
use Rattle.cf_core.specs.Store.{Value}
use Rattle.cf_core.specs.Run.{State, Did, Gives, Exits, Malformed, ◌>>=◌, ◌>>◌, done, tick, when, for_each_back, for_all, changed, frame_changed}
use Rattle.cf_core.specs.Calls.{Program, Setting, Again, function_named, root, destroy, full_expression, finish_static, run_named}
use Rattle.cf_core.specs.Objects.{static_number, static_type, settled}
use Rattle.cf_core.specs.Expressions.{value}
use Rattle.cf_core.specs.Statements.{initialises}
use Rattle.cf_core.specs.Program.{runs, static_object_of, length_of, first_state, set_constant, status_of, main_run, left, destroy_static, resumed, destroy_statics, ended_run, run_outcome, Mean}
use Rattle.cf_core.specs.Typing.{of_result, is_function}
use Rattle.cf_core.specs.Typed.{typing}
use Rattle.cf_core_typed.proofs.Same.{type-equal}
use Rattle.cf_core_sound.specs.Proper.{is_proper, Whole, shape}
use Rattle.cf_core_sound.specs.Values.{IsFunction, IsOf, Fit}
use Rattle.cf_core_sound.specs.States.{Sound}
use Rattle.cf_core_sound.specs.Well.{OfBytes, Ends, Well}
use Rattle.cf_core_sound.specs.Simple.{has_object}
use Rattle.cf_core_sound.specs.Statements.{is_object, is_simple_initial}
use Rattle.cf_core_sound.specs.Calls.{Bodies, Around, classless}
use Rattle.cf_core_sound.specs.Programs.{is_sound_function, is_sound_static, outside, is_sound_setting, is_main, is_sound_program}
use Rattle.cf_core_sound.proofs.Shapes.{at-whole}
use Rattle.cf_core_sound.proofs.States.{frame-behind, reached-behind}
use Rattle.cf_core_sound.proofs.Access.{zero-of}
use Rattle.cf_core_sound.proofs.Names.{static-at, some-there, static-place}
use Rattle.cf_core_sound.proofs.Calling.{run-well}
use Rattle.cf_core_sound.proofs.Scopes.{no-destructor}
use Rattle.cf_core_sound.proofs.Initials.{initial-well}
use Rattle.cf_core_sound.proofs.Runs.{at-all, statics-around, bodies-sound}
use Rattle.cf_core_sound.proofs.Wells.{well-then, well-next, well-gives, well-as, well-changed}

no-test : false ≡ true → ⊥
no-test e = true≢false (sym e)

none-is : {A : Type 0} (a : A) → None ≡ Some a → ⊥
none-is a e = absurd (cc)

of-some : {A : Type 0} (a b : A) → Some a ≡ Some b → a ≡ b
of-some a b e = cc

not-true : (b : Bool) → not b ≡ true → b ≡ false
not-true true h = absurd (true≢false (sym h))
not-true false h = refl

there-below : (xs : List Static) (i : ℕ) (x : Static) → slice_get xs i ≡ Some x → i < length_of xs
there-below [] i x e = absurd (none-is x e)
there-below (y ∷ xs) zero x e = omega arith
there-below (y ∷ xs) (suc i) x e = let lt = there-below xs i x e in omega (arith, lt)

below-there : (xs : List Static) (i : ℕ) → i < length_of xs → (x : Static) × (slice_get xs i ≡ Some x)
below-there [] i lt = absurd (omega (arith, lt))
below-there (y ∷ xs) zero lt = (y, refl)
below-there (y ∷ xs) (suc i) lt = below-there xs i (omega (arith, lt))

module _ (fs : List Function) (xs : List Static) (ks : List Setting) where
  abbrev P : Program
  P = classless fs xs ks []

  -- ---- static storage

  first-sound : (depth : ℕ) → list_all is_sound_static xs ≡ true → Sound P [] (first_state P depth)
  first-sound depth ok = record {
    statics = λ i x e. (there-below xs i x e, ap (λ (o : Option Static). (static_object_of [] o).type) e);
    proper = λ o lt. proper o (below-there xs o lt);
    holds = λ o π v lt sc e. holds o π v (below-there xs o lt) sc e;
    literals = tt;
    count = refl;
    result = refl;
    locals_stand = λ i o t e k. absurd (none-is o e);
  }
    where
      whole : (o : ℕ) (x : Static) → slice_get xs o ≡ Some x → Whole x.type
      whole o x e =
          let parts = both (is_object x.type) (not (is_reference x.type)) (at-all is_sound_static xs o x ok e) in
          record { proper = (both (is_proper x.type) (not (is_function x.type)) parts.0).0; no_reference = not-true (is_reference x.type) parts.1 }

      proper : (o : ℕ) → (x : Static) × (slice_get xs o ≡ Some x) → is_proper (static_object_of [] (slice_get xs o)).type ≡ true
      proper o k = subst (λ (y : Option Static). is_proper (static_object_of [] y).type ≡ true) (sym k.1) (whole o k.0 k.1).proper

      holds : (o : ℕ) (π : Route) (v : Value) → (x : Static) × (slice_get xs o ≡ Some x) → is_scalar (type_at [] (static_object_of [] (slice_get xs o)).type π) ≡ true
          → (static_object_of [] (slice_get xs o)).held π ≡ Some v → IsOf P (first_state P depth) (shape (type_at [] (static_object_of [] (slice_get xs o)).type π)) v
      holds o π v k =
          subst (λ (y : Option Static). is_scalar (type_at [] (static_object_of [] y).type π) ≡ true → (static_object_of [] y).held π ≡ Some v
          → IsOf P (first_state P depth) (shape (type_at [] (static_object_of [] y).type π)) v) (sym k.1)
          (λ sc e. subst (λ z. IsOf P (first_state P depth) (shape (type_at [] k.0.type π)) z) (of-some _ v e)
          (zero-of P (first_state P depth) (type_at [] k.0.type π) sc (at-whole k.0.type π (whole o k.0 k.1)).no_reference))

  -- ---- constants

  abbrev type_found : Option Static → SourceType
  type_found None = void
  type_found (Some x) = x.type

  module _ (again : Again) (bodies : Bodies P again) (statics : list_all is_sound_static xs ≡ true) where
    around : Around P []
    around = record { locals = λ i t e. absurd (none-is t e); statics = statics-around fs xs ks [] statics }

    finish-well : (s : State) (t : SourceType) (o : ℕ) → Sound P [] s → Well P [] s (λ _ u. Unit {0}) (finish_static P t o)
    finish-well s t o h =
        subst (λ b. Well P [] s (λ _ u. Unit {0}) (when b (changed (λ s. record s { finished = o ∷ s.finished })) done)) (sym (no-destructor t)) (well-gives P [] s tt h tt)

    set-well : (x : Setting) (s : State) → is_sound_setting P x ≡ true → Sound P [] s → Well P [] s (λ _ u. Unit {0}) (set_constant again P x)
    set-well x s ok h =
        let first = both (has_object P x.object) (is_simple_initial P (outside P) x.start && (typing (outside P) x.start).start (static_type P x.object)) ok in
        let second = both (is_simple_initial P (outside P) x.start) ((typing (outside P) x.start).start (static_type P x.object)) first.1 in
        let number = some-there P [] (static_number P x.object) first.0 in
        let i = number.0 in
        let at = static-at x.object xs i number.1 in
        let type : static_type P x.object ≡ at.object.type = ap type_found at.found in
        let so = statics-around fs xs ks [] statics i at.object at.there in
        well-next P [] {Q = λ _ u. Unit {0}} s (frame_changed (λ g. record g { function = x.function })) (initialises again P x.object x.start)
        (well-as P [] s (frame_changed (λ g. record g { function = x.function }))
        (well-changed P [] s (λ s. record s { frame = record s.frame { function = x.function } }) (frame-behind P [] s h (record s.frame { function = x.function }) refl refl refl)) (λ _ u b e. tt)) (λ _ u b q.
        subst (λ act. Well P [] u (λ _ u. Unit {0}) (act >>= (λ p. changed (λ s. record s { reached = x.object ∷ s.reached })
        >> (full_expression again P (settled [] p (value again P x.start (Some p))) >> finish_static P (static_type P x.object) p.object)))) (sym (static-place P [] x.object i number.1))
        (record {
          by = λ w bytes. (well-next P [] {Q = λ _ u. Unit {0}} u (changed (λ s. record s { reached = x.object ∷ s.reached }))
              (full_expression again P (settled [] (root i) (value again P x.start (Some (root i)))) >> finish_static P (static_type P x.object) i)
              (well-as P [] u (changed (λ s. record s { reached = x.object ∷ s.reached })) (well-changed P [] u (λ s. record s { reached = x.object ∷ s.reached }) (reached-behind P [] u b.sound (x.object ∷ u.reached))) (λ _ v c e. tt)) (λ _ v c q.
              let there = c.sound.statics i at.object at.there in
              well-next P [] {Q = λ _ u. Unit {0}} v (full_expression again P (settled [] (root i) (value again P x.start (Some (root i))))) (finish_static P (static_type P x.object) i)
              (initial-well again fs xs ks [] (outside P) around bodies v at.object.type (root i) x.start c.sound (record { below = there.0; is = there.1 }) so.0 second.0
              (subst (λ t. (typing (outside P) x.start).start t ≡ true) type second.1)) (λ _ w d q.
              finish-well w (static_type P x.object) i d.sound))).by w bytes;
        }))

    settings-well : (ys : List Setting) (s : State) → list_all (is_sound_setting P) ys ≡ true → Sound P [] s → Well P [] s (λ _ u. Unit {0}) (for_all ys (set_constant again P))
    settings-well [] s ok h = well-gives P [] s tt h tt
    settings-well (y ∷ ys) s ok h =
        let parts = both (is_sound_setting P y) (list_all (is_sound_setting P) ys) ok in
        well-next P [] {Q = λ _ u. Unit {0}} s (set_constant again P y) (for_all ys (set_constant again P)) (set-well y s parts.0 h) (λ _ u b q. settings-well ys u parts.1 b.sound)

    -- ---- `main`

    status-well : (s : State) (v : Value) → Sound P [] s → Fit P s (of_result (integer Int)) v → Well P [] s (λ z u. Unit {0}) (status_of v)
    status-well s v h (inl e) = subst (λ x. Well P [] s (λ z u. Unit {0}) (status_of x)) (sym e) (well-gives P [] s (pos 0) h tt)
    status-well s v h (inr f) =
        let n = f.type (integer Int) refl in
        subst (λ x. Well P [] s (λ z u. Unit {0}) (status_of x)) (sym n.1) (well-gives P [] s n.0 h tt)

    main-function : (x : Option Function) → function_named P (codes "__main") ≡ x → is_main x ≡ true → IsFunction P (codes "__main") (shape (gives_type (integer Int) false))
    main-function None e k = absurd (no-test k)
    main-function (Some f) e k = record {
      type = f.type;
      found = rw e refl;
      same = ap shape (type-equal f.type (gives_type (integer Int) false) k);
    }

    main-well : (s : State) → list_all (is_sound_setting P) ks ≡ true → is_main (function_named P (codes "__main")) ≡ true → Sound P [] s → Well P [] s (λ z u. Unit {0}) (main_run again P)
    main-well s settings main h =
        well-next P [] {Q = λ _ u. Unit {0}} s (for_all ks (set_constant again P)) (done >> (run_named again P (codes "__main") [] None None >>= status_of)) (settings-well ks s settings h) (λ _ u b q.
        record {
          by = λ w bytes. (well-then P [] u (run_named again P (codes "__main") [] None None) status_of
              (run-well P [] again bodies u (codes "__main") (gives_type (integer Int) false) [] b.sound refl (main-function (function_named P (codes "__main")) refl main) tt (λ o e. absurd (cc)))
              (λ v x c f. status-well x v c.sound f)).by w bytes;
        })

  -- ---- nothing is destroyed

  module _ (again : Again) where
    destroyed : (t : SourceType) (p : Place) (s : State) (w : World) → destroy again P t p s w ≡ Went (Gives tt s) w
    destroyed void p s w = refl
    destroyed (integer k) p s w = refl
    destroyed (enumeration e) p s w = refl
    destroyed (class c) p s w = refl
    destroyed (pointer t) p s w = refl
    destroyed (reference t) p s w = refl
    destroyed (array t n) p s w = ap (λ b. when b (for_each_back n (λ i. tick >> destroy again P t (inner (item i) p))) done s w) (no-destructor t)
    destroyed (takes q t) p s w = refl
    destroyed (gives_type t c) p s w = refl
    destroyed (data_member c t) p s w = refl
    destroyed (function_member c t) p s w = refl
    destroyed (const t) p s w = destroyed t p s w

    some-none : {A : Type 0} (a : A) → Some a ≡ None → ⊥
    some-none a e = absurd (cc)

    statics-end : (depth m : ℕ) (z : ℤ) (s : State) (w : World) → run_outcome (destroy_statics again P depth m z s w) ≡ None → ⊥
    statics-end depth zero z s w e = some-none _ e
    statics-end depth (suc m) z s w e = by_list (λ s. statics-end depth m z s w) s.finished e
      where
        by_list : ((s : State) → run_outcome (destroy_statics again P depth m z s w) ≡ None → ⊥) → (os : List ℕ)
            → run_outcome (elim os as (λ x. Ran (Did ℤ)) [
              | [] ↦ Went (Gives z s) w
              | o ∷ rest ↦ and_then (destroy_static again P o (record s { finished = rest }) w) (resumed depth (destroy_statics again P depth m) z)
            ]) ≡ None → ⊥
        by_list next [] e = some-none _ e
        by_list next (o ∷ rest) e = next (record s { finished = rest })
            (subst (λ x. run_outcome (and_then x (resumed depth (destroy_statics again P depth m) z)) ≡ None) (destroyed (s.object o).type (root o) (record s { finished = rest }) w) e)

    outcome-there : (Q : ℤ → State → Type 0) (depth m : ℕ) (s : State) (x : Ran (Did ℤ)) → Ends P [] s Q x → run_outcome (and_then x (ended_run again P depth m)) ≡ None → ⊥
    outcome-there Q depth m s (Went (Gives z t) w) h e = statics-end depth m z (left depth t) w e
    outcome-there Q depth m s (Went (Exits z t) w) h e = statics-end depth m z (left depth t) w e
    outcome-there Q depth m s (Went Malformed w) h e = absurd h.by
    outcome-there Q depth m s (Stops end trace) h e = some-none _ e

  pub program-sound : is_sound_program P ≡ true → (input : List ℕ) → OfBytes input → (heap depth n : ℕ) → Mean P input heap depth n ≡ None → ⊥
  program-sound ok input bytes heap depth n =
      let first = both (is_main (function_named P (codes "__main"))) (list_all (is_sound_function P) fs && (list_all is_sound_static xs && list_all (is_sound_setting P) ks)) ok in
      let second = both (list_all (is_sound_function P) fs) (list_all is_sound_static xs && list_all (is_sound_setting P) ks) first.1 in
      let third = both (list_all is_sound_static xs) (list_all (is_sound_setting P) ks) second.1 in
      outcome-there (runs P n) (λ z u. Unit {0}) depth (suc n) (first_state P depth) (main_run (runs P n) P (first_state P depth) (world_at n input heap))
      ((main-well (runs P n) (bodies-sound fs xs ks [] second.0 third.0 n) third.0 (first_state P depth) third.1 first.0 (first-sound depth third.0)).by (world_at n input heap) bytes)

-- the same of a program that has neither classes nor initialisers
abbrev Law : Program → Type 0
Law Q = is_sound_program Q ≡ true → (input : List ℕ) → OfBytes input → (heap depth n : ℕ) → Mean Q input heap depth n ≡ None → ⊥

pub whole-sound : (P : Program) → P.classes ≡ [] → P.initialisers ≡ [] → is_sound_program P ≡ true → (input : List ℕ) → OfBytes input → (heap depth n : ℕ) → Mean P input heap depth n ≡ None → ⊥
whole-sound P none nothing =
    subst (λ cs. Law (record P { classes = cs })) (sym none)
    (subst (λ inits. Law (record P { classes = []; initialisers = inits })) (sym nothing) (λ ok. program-sound P.functions P.statics P.constants ok))
