-- Statements: from a sound moment none is malformed, and each ends as it may.
use Rattle.std.proofs.Common.{◌≡◌, ℕ, nat_le, Bool, true, false, ◌&&◌, not, List, [], ◌⊎◌, inl, inr, sym, refl, subst}
use Rattle.std.specs.Prelude.{Some, None, slice_get}
use Rattle.cf_base.proofs.Tests.{both}
use Rattle.cf_core.specs.Types.{SourceType}
use Rattle.cf_core.specs.Core as core
use Rattle.cf_core.specs.Core.{Core, MaybeCore, no_temporary, local_temporary, static_temporary, absent, given, Function, Static}
use Rattle.cf_core.specs.Store.{Value, Built}
use Rattle.cf_core.specs.Run.{State, Act, ◌>>=◌, ◌>>◌, gives, frame_changed, lists_in_scope}
use Rattle.cf_core.specs.Access.{using}
use Rattle.cf_core.specs.Scalars.{truth_of}
use Rattle.cf_core.specs.Calls.{Program, Setting, Falls, Breaks, Continues, Returns, Again, root, full_expression}
use Rattle.cf_core.specs.Objects.{new_local, settled}
use Rattle.cf_core.specs.Expressions.{value}
use Rattle.cf_core.specs.Statements.{holds, result_of, declares}
use Rattle.cf_core.specs.Joined.{is_nothing}
use Rattle.cf_core.specs.Typing.{Scope, Typing, is_function, is_expression, is_condition, same_type}
use Rattle.cf_core.specs.Typed.{typing}
use Rattle.cf_core.specs.Valid.{Body, fits, condition_fits, is_complete}
use Rattle.cf_core_sound.specs.Proper.{is_proper, shape}
use Rattle.cf_core_sound.specs.Values.{IsOf, Fits, Fit, told_start}
use Rattle.cf_core_sound.specs.States.{Sound}
use Rattle.cf_core_sound.specs.Well.{Well}
use Rattle.cf_core_sound.specs.Simple.{is_simple}
use Rattle.cf_core_sound.specs.Statements.{is_object, is_simple_start, is_simple_maybe, is_simple_initial, EndsWell}
use Rattle.cf_core_sound.specs.Calls.{Bodies, Around, classless}
use Rattle.cf_core_sound.proofs.Moments.{is-later, fit-later, fits-later}
use Rattle.cf_core_sound.proofs.Typings.{or-cases}
use Rattle.cf_core_sound.proofs.Steps.{Solid, solid-start, well-using}
use Rattle.cf_core_sound.proofs.Converting.{expression-told}
use Rattle.cf_core_sound.proofs.Parts.{test-well}
use Rattle.cf_core_sound.proofs.Scopes.{Stays, full-well}
use Rattle.cf_core_sound.proofs.Initials.{no-test, local-there, val, G, unit-stays, new-well, listed-well, initial-well}
use Rattle.cf_core_sound.proofs.Wells.{well-then, well-next, well-gives, well-at, well-as}

pub four : (a b c d : Bool) → (a && b && c && d) ≡ true → (a ≡ true) × (b ≡ true) × (c ≡ true) × (d ≡ true)
four true true true d e = (refl, refl, refl, e)
four true true false d e = absurd (no-test e)
four true false c d e = absurd (no-test e)
four false b c d e = absurd (no-test e)

nothing-is : (e : Core) → is_nothing e ≡ true → e ≡ core.blank
nothing-is core.blank k = refl
nothing-is e k = absurd (no-test k)

module _ (again : Again) (fs : List Function) (xs : List Static) (ks : List Setting) (inits : List Function) (f : Body)
    (around : Around (classless fs xs ks inits) f.scope.locals) (bodies : Bodies (classless fs xs ks inits) again) where
  abbrev P : Program
  P = classless fs xs ks inits

  abbrev L : List SourceType
  L = f.scope.locals

  abbrev S : Scope
  S = f.scope

  abbrev Done : Unit {0} → State → Type 0
  Done = λ _ u. Unit {0}

  pub ends-stay : (t : SourceType) (b c : Bool) → Stays again fs xs ks inits L (EndsWell P t b c)
  unfolding Stays
  ends-stay t b c Falls s u l q = q
  ends-stay t b c Breaks s u l q = q
  ends-stay t b c Continues s u l q = q
  ends-stay t b c (Returns v) s u l (inl n) = inl n
  ends-stay t b c (Returns v) s u l (inr (inl m)) = inr (inl m)
  ends-stay t b c (Returns v) s u l (inr (inr i)) = inr (inr (is-later P s u l (shape t) v i))

  fit-stays : (x : Typing) → Stays again fs xs ks inits L (λ v u. Fit P u x v)
  unfolding Stays
  fit-stays x v s u l q = fit-later P s u l x v q

  pub fits-stay : (x : Typing) → Stays again fs xs ks inits L (λ v u. Fits P u x v)
  unfolding Stays
  fits-stay x v s u l q = fits-later P s u l x v q

  -- ---- conditions and expressions

  pub given-holds : (e : Core) (s : State) → is_simple P S e ≡ true → is_condition (typing S e) ≡ true → Sound P L s → Well P L s (λ b u. Unit {0}) (full_expression again P (value again P e None >>= truth_of))
  given-holds e s ok k h = full-well again fs xs ks inits L s (value again P e None >>= truth_of) h (unit-stays again fs xs ks inits f.scope around bodies _) (λ u b. test-well P S L (typing S e) (value again P e None) u b.sound (val again fs xs ks inits f.scope around bodies e ok None) k)

  pub holds-well : (c : MaybeCore) (s : State) → is_simple_maybe P S c ≡ true → condition_fits f c ≡ true → Sound P L s → Well P L s (λ b u. Unit {0}) (holds again P c)
  holds-well absent s ok k h = well-gives P L s true h tt
  holds-well (given e) s ok k h = given-holds e s ok k h

  pub alone-well : (e : Core) (s : State) → is_simple P S e ≡ true → is_expression (typing S e) ≡ true → Sound P L s → Well P L s (λ v u. Unit {0}) (full_expression again P (value again P e None))
  alone-well e s ok k h = full-well again fs xs ks inits L s (value again P e None) h (unit-stays again fs xs ks inits f.scope around bodies _) (λ u b.
      well-as P L u (value again P e None) ((val again fs xs ks inits f.scope around bodies e ok None).by u b.sound (expression-told (typing S e) k)) (λ v w b q. tt))

  full-told : (b c : Bool) (e : Core) → is_simple P S e ≡ true → fits f b c (core.full e) ≡ true → is_expression (typing S e) ≡ true
  full-told b c core.blank ok k = absurd (no-test ok)
  full-told b c e ok k = k

  pub falls : (b c : Bool) (s : State) → Sound P L s → Well P L s (EndsWell P f.result b c) (gives Falls)
  falls b c s h = well-gives P L s Falls h tt

  pub full-does : (b c : Bool) (e : Core) (s : State) → is_simple_start P S e ≡ true → fits f b c (core.full e) ≡ true → Sound P L s
      → Well P L s (EndsWell P f.result b c) (full_expression again P (value again P e None) >> gives Falls)
  full-does b c e s ok k h = well-next P L {Q = λ v u. Unit {0}} s (full_expression again P (value again P e None)) (gives Falls) (by_form (or-cases (is_nothing e) (is_simple P S e) ok)) (λ v u d q. falls b c u d.sound)
    where
      by_form : (is_nothing e ≡ true) ⊎ (is_simple P S e ≡ true) → Well P L s (λ v u. Unit {0}) (full_expression again P (value again P e None))
      by_form (inl n) = subst (λ x. Well P L s (λ v u. Unit {0}) (full_expression again P (value again P x None))) (sym (nothing-is e n))
          (full-well again fs xs ks inits L s (gives Built) h (unit-stays again fs xs ks inits f.scope around bodies _) (λ u b. well-gives P L u Built b.sound tt))
      by_form (inr g) = alone-well e s g (full-told b c e g k) h

  -- ---- locals

  pub declare-does : (b c : Bool) (i : ℕ) (t : SourceType) (e : Core) (s : State) → is_object t && is_simple_initial P S e ≡ true → fits f b c (core.declare i t e) ≡ true → Sound P L s
      → Well P L s (EndsWell P f.result b c) (declares again P i t e >> gives Falls)
  declare-does b c i t e s ok k h =
      let parts = both (is_object t) (is_simple_initial P S e) ok in
      let object = both (is_proper t) (not (is_function t)) parts.0 in
      let typed = four (nat_le f.parameters i) (same_type (slice_get L i) t) (is_complete S.classes t) ((typing S e).start t) k in
      let there = local-there (slice_get L i) t typed.1 in
      well-next P L {Q = Done} s (declares again P i t e) (gives Falls)
      (well-then P L s (new_local i t) (λ o. full_expression again P (settled [] (root o) (value again P e (Some (root o)))) >> frame_changed (lists_in_scope o))
      (new-well again fs xs ks inits f.scope around bodies s i t there.0 h object.0 there.1 there.2) (λ o u d at.
      well-next P L {Q = Done} u (full_expression again P (settled [] (root o) (value again P e (Some (root o))))) (frame_changed (lists_in_scope o))
      (initial-well again fs xs ks inits f.scope around bodies u t (root o) e d.sound at object.0 parts.1 typed.3) (λ _ v g q. listed-well again fs xs ks inits f.scope around bodies v o g.sound))) (λ _ u d q. falls b c u d.sound)

  -- ---- what is returned

  pub give-well : (b c : Bool) (e : Core) (s : State) → is_simple P S e ≡ true → (typing S e).start f.result ≡ true → Sound P L s
      → Well P L s (EndsWell P f.result b c) (result_of again P e >>= (λ v. gives (Returns v)))
  give-well b c e s ok k h =
      well-then P L s (result_of again P e) (λ v. gives (Returns v))
      (well-at P L s (λ s. elim s.frame.result [
        | None ↦ full_expression again P (using (value again P e None))
        | Some p ↦ full_expression again P (settled [] p (value again P e (Some p))) >> gives Built
      ]) h (subst (λ r. Well P L s (λ v u. IsOf P u (shape f.result) v) (elim r as (λ x. Act Value) [
        | None ↦ full_expression again P (using (value again P e None))
        | Some p ↦ full_expression again P (settled [] p (value again P e (Some p))) >> gives Built
      ])) (sym h.result)
      (well-as P L s (full_expression again P (using (value again P e None)))
      (full-well again fs xs ks inits L s (using (value again P e None)) h (fits-stay (typing S e)) (λ u d. well-using P L u (typing S e) (value again P e None) ((val again fs xs ks inits f.scope around bodies e ok None).by u d.sound (told_start f.result k)) (start-solid e ok k)))
      (λ v u d g. g.start f.result k))))
      (λ v u d i. well-gives P L u (Returns v) d.sound (inr (inr i)))
    where
      start-solid : (e : Core) → is_simple P S e ≡ true → (typing S e).start f.result ≡ true → Solid P L (typing S e)
      start-solid e ok k = solid-start P L (typing S e) f.result k ((G again fs xs ks inits f.scope around bodies e ok).start f.result k)
