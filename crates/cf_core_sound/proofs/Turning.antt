-- Loops, labels, and all statements: from a sound moment none is malformed, and each ends as it may.
use Rattle.std.proofs.Common.{◌≡◌, nat_le, Bool, true, false, ◌&&◌, ◌||◌, not, List, ℤ, inl, refl, sym, subst, true≢false}
use Rattle.std.specs.Prelude.{None, slice_get, int_le}
use Rattle.cf_base.proofs.Tests.{both}
use Rattle.cf_core.specs.declared.operators.LoopForm.{LoopForm}
use Rattle.cf_core.specs.Types.{SourceType}
use Rattle.cf_core.specs.Core as core
use Rattle.cf_core.specs.Core.{Core, Cores, MaybeCore, no_temporary, local_temporary, static_temporary, absent, given, Function, Static}
use Rattle.cf_core.specs.Store.{Nothing}
use Rattle.cf_core.specs.Run.{State, Act, ◌>>=◌, gives, when, frame_changed, lists_in_scope}
use Rattle.cf_core.specs.Access.{using, number_of}
use Rattle.cf_core.specs.Calls.{Program, Setting, Flow, Falls, Breaks, Continues, Returns, Again, turn, full_expression, in_scope}
use Rattle.cf_core.specs.Objects.{new_local}
use Rattle.cf_core.specs.Expressions.{value}
use Rattle.cf_core.specs.Statements.{has_case, has_default, passes, passes_all, falling, turning, tests_first, leaving, holds, step_and, does, does_maybe, does_all, from_case, from_default}
use Rattle.cf_core.specs.Typing.{Scope, is_function, is_condition, is_integer, same_type}
use Rattle.cf_core.specs.Typed.{typing}
use Rattle.cf_core.specs.Valid.{Body, fits, fits_maybe, all_fit, labelled_fit, condition_fits, expression_fits, is_label, has_label, initialises_local, any_initialises, labels_differ, passes_none, is_complete}
use Rattle.cf_core_sound.specs.Proper.{is_proper}
use Rattle.cf_core_sound.specs.States.{Sound}
use Rattle.cf_core_sound.specs.Well.{Well}
use Rattle.cf_core_sound.specs.Simple.{is_simple}
use Rattle.cf_core_sound.specs.Statements.{is_object, is_simple_maybe, is_simple_statement, is_simple_inner, are_simple_statements, are_simple_cases, EndsWell, Turns}
use Rattle.cf_core_sound.specs.Calls.{Bodies, Around, classless}
use Rattle.cf_core_sound.proofs.Typings.{integer-number, integer-told}
use Rattle.cf_core_sound.proofs.Steps.{solid-integer, well-using}
use Rattle.cf_core_sound.proofs.Scopes.{full-well, scope-well}
use Rattle.cf_core_sound.proofs.Wells.{well-then, well-next, well-gives, well-when, well-tick}
use Rattle.cf_core_sound.proofs.Initials.{no-test, three, local-there, val, new-well, listed-well}
use Rattle.cf_core_sound.proofs.Doing.{fits-stay, four, ends-stay, given-holds, holds-well, alone-well, falls, full-does, declare-does, give-well}

or-second : (a b : Bool) → b ≡ true → (a || b) ≡ true
or-second true b e = refl
or-second false b e = e

or-false : (a b : Bool) → (a || b) ≡ false → (a ≡ false) × (b ≡ false)
or-false true b e = absurd (true≢false e)
or-false false b e = (refl, e)

module _ (again : Again) (fs : List Function) (xs : List Static) (ks : List Setting) (inits : List Function) (f : Body)
    (around : Around (classless fs xs ks inits) f.scope.locals) (bodies : Bodies (classless fs xs ks inits) again) where
  abbrev P : Program
  P = classless fs xs ks inits

  abbrev L : List SourceType
  L = f.scope.locals

  abbrev S : Scope
  S = f.scope

  abbrev Done : Unit {0} → State → Type 0
  Done = λ _ u. Unit {0}

  -- the number that a switch goes by
  number-well : (e : Core) (s : State) → is_simple P S e ≡ true → is_integer (typing S e) ≡ true → Sound P L s → Well P L s (λ z u. Unit {0}) (full_expression again P (using (value again P e None)) >>= number_of)
  number-well e s ok k h =
      well-then P L s (full_expression again P (using (value again P e None))) number_of
      (full-well again fs xs ks inits L s (using (value again P e None)) h (fits-stay again fs xs ks inits f around bodies (typing S e)) (λ u d.
      well-using P L u (typing S e) (value again P e None) ((val again fs xs ks inits f.scope around bodies e ok None).by u d.sound (integer-told (typing S e) k)) (solid-integer P L (typing S e) k))) (λ v u d g.
      let n = integer-number P u (typing S e) v k g in
      subst (λ x. Well P L u (λ z u. Unit {0}) (number_of x)) (sym n.1) (well-gives P L u n.0 d.sound tt))

  -- ---- statements of which each ends as it may

  module _ (turns : Turns P again f) where
    abbrev End : Bool → Bool → Flow → State → Type 0
    End b c = EndsWell P f.result b c

    -- a loop's body may break and continue, and the loop itself ends as the turns behind it do
    turning-well : (b c : Bool) (s : State) (next : Act Flow) (flow : Flow) → Sound P L s → EndsWell P f.result true true flow s → ((u : State) → Sound P L u → Well P L u (End b c) next)
        → Well P L s (End b c) (turning next flow)
    turning-well b c s next Falls h q k = k s h
    turning-well b c s next Continues h q k = k s h
    turning-well b c s next Breaks h q k = well-gives P L s Falls h tt
    turning-well b c s next (Returns v) h q k = well-gives P L s (Returns v) h q

    leaving-well : (b c : Bool) (s : State) (flow : Flow) → Sound P L s → EndsWell P f.result true c flow s → Well P L s (End b c) (leaving flow)
    leaving-well b c s Falls h q = well-gives P L s Falls h tt
    leaving-well b c s Breaks h q = well-gives P L s Falls h tt
    leaving-well b c s Continues h q = well-gives P L s Continues h q
    leaving-well b c s (Returns v) h q = well-gives P L s (Returns v) h q

    falling-well : (b c : Bool) (s : State) (next : Act Flow) (flow : Flow) → Sound P L s → End b c flow s → ((u : State) → Sound P L u → Well P L u (End b c) next) → Well P L s (End b c) (falling next flow)
    falling-well b c s next Falls h q k = k s h
    falling-well b c s next Breaks h q k = well-gives P L s Breaks h q
    falling-well b c s next Continues h q k = well-gives P L s Continues h q
    falling-well b c s next (Returns v) h q k = well-gives P L s (Returns v) h q

    step-well : (b c : Bool) (e : MaybeCore) (s : State) (next : Act Flow) → is_simple_maybe P S e ≡ true → expression_fits f e ≡ true → Sound P L s → ((u : State) → Sound P L u → Well P L u (End b c) next)
        → Well P L s (End b c) (step_and again P e next)
    step-well b c absent s next ok k h go = go s h
    step-well b c (given e) s next ok k h go = well-next P L {Q = λ v u. Unit {0}} s (full_expression again P (value again P e None)) next (alone-well again fs xs ks inits f around bodies e s ok k h) (λ v u d q. go u d.sound)

    -- a loop, by its body
    loop-well : (b c : Bool) (how : LoopForm) (t e : MaybeCore) (body : Core) (s : State) → Sound P L s
        → is_simple_statement P S (core.loop how t e body) ≡ true → fits f b c (core.loop how t e body) ≡ true
        → ((u : State) → Sound P L u → Well P L u (EndsWell P f.result true true) (does again P body))
        → Well P L s (End b c) (does again P (core.loop how t e body))
    loop-well b c how t e body s h ok k inner = well-tick P L s true _ h (λ u d. by_form (tests_first how) u d.sound)
      where
        simple : (is_simple_maybe P S t ≡ true) × ((is_simple_maybe P S e && is_simple_statement P S body) ≡ true)
        simple = both (is_simple_maybe P S t) (is_simple_maybe P S e && is_simple_statement P S body) ok

        test_fits : condition_fits f t ≡ true
        test_fits = (three (condition_fits f t) (expression_fits f e) (fits f true true body) k).0

        step_fits : expression_fits f e ≡ true
        step_fits = (three (condition_fits f t) (expression_fits f e) (fits f true true body) k).1

        again_well : (u : State) → Sound P L u → Well P L u (End b c) (again (turn (core.loop how t e body)))
        again_well u h = turns.by (core.loop how t e body) ok b c k u h

        body_well : (u : State) → Sound P L u → Well P L u (EndsWell P f.result true true) (in_scope again P (does again P body))
        body_well u h = scope-well again fs xs ks inits L u (does again P body) h (ends-stay again fs xs ks inits f around bodies f.result true true) (λ v d. inner v d.sound)

        first : (u : State) → Sound P L u → Well P L u (End b c)
            (holds again P t >>= (λ y. when y (in_scope again P (does again P body) >>= turning (step_and again P e (again (turn (core.loop how t e body))))) (gives Falls)))
        first u h = well-then P L u (holds again P t) (λ y. when y (in_scope again P (does again P body) >>= turning (step_and again P e (again (turn (core.loop how t e body))))) (gives Falls))
            (holds-well again fs xs ks inits f around bodies t u simple.0 test_fits h) (λ y v d q.
            well-when P L v y (in_scope again P (does again P body) >>= turning (step_and again P e (again (turn (core.loop how t e body))))) (gives Falls)
            (λ _. well-then P L v (in_scope again P (does again P body)) (turning (step_and again P e (again (turn (core.loop how t e body))))) (body_well v d.sound) (λ flow w g q.
            turning-well b c w (step_and again P e (again (turn (core.loop how t e body)))) flow g.sound q (λ x h. step-well b c e x (again (turn (core.loop how t e body))) (both (is_simple_maybe P S e) (is_simple_statement P S body) simple.1).0 step_fits h again_well)))
            (λ _. falls again fs xs ks inits f around bodies b c v d.sound))

        last : (u : State) → Sound P L u → Well P L u (End b c)
            (in_scope again P (does again P body) >>= turning (holds again P t >>= (λ y. when y (again (turn (core.loop how t e body))) (gives Falls))))
        last u h = well-then P L u (in_scope again P (does again P body)) (turning (holds again P t >>= (λ y. when y (again (turn (core.loop how t e body))) (gives Falls)))) (body_well u h) (λ flow v d q.
            turning-well b c v (holds again P t >>= (λ y. when y (again (turn (core.loop how t e body))) (gives Falls))) flow d.sound q (λ w h.
            well-then P L w (holds again P t) (λ y. when y (again (turn (core.loop how t e body))) (gives Falls)) (holds-well again fs xs ks inits f around bodies t w simple.0 test_fits h) (λ y x g q.
            well-when P L x y (again (turn (core.loop how t e body))) (gives Falls) (λ _. again_well x g.sound) (λ _. falls again fs xs ks inits f around bodies b c x g.sound))))

        by_form : (y : Bool) (u : State) → Sound P L u → Well P L u (End b c) (when y
            (holds again P t >>= (λ y. when y (in_scope again P (does again P body) >>= turning (step_and again P e (again (turn (core.loop how t e body))))) (gives Falls)))
            (in_scope again P (does again P body) >>= turning (holds again P t >>= (λ y. when y (again (turn (core.loop how t e body))) (gives Falls)))))
        by_form true u h = first u h
        by_form false u h = last u h

    -- ---- labels

    -- what a label passes: locals without initialisers
    mutual
      passes-well : (b c : Bool) (e : Core) (s : State) → (is_label e || is_simple_statement P S e) ≡ true → (is_label e || fits f b c e) ≡ true → initialises_local e ≡ false → Sound P L s → Well P L s Done (passes e)
      passes-well b c (core.declare i t core.blank) s ok k n h =
          let parts = both (is_object t) true ok in
          let object = both (is_proper t) (not (is_function t)) parts.0 in
          let typed = four (nat_le f.parameters i) (same_type (slice_get L i) t) (is_complete S.classes t) ((typing S core.blank).start t) k in
          let there = local-there (slice_get L i) t typed.1 in
          well-then P L s (new_local i t) (λ o. frame_changed (lists_in_scope o)) (new-well again fs xs ks inits f.scope around bodies s i t there.0 h object.0 there.1 there.2) (λ o u d at. listed-well again fs xs ks inits f.scope around bodies u o d.sound)
      passes-well b c (core.sequence es) s ok k n h = passes-all b c es s ok k n h
      passes-well b c (core.declare i t e) s ok k n h = absurd (true≢false n)
      passes-well b c e s ok k n h = well-gives P L s tt h tt

      passes-all : (b c : Bool) (es : Cores) (s : State) → are_simple_statements P S es ≡ true → all_fit f b c es ≡ true → any_initialises es ≡ false → Sound P L s → Well P L s Done (passes_all es)
      passes-all b c core.none s ok k n h = well-gives P L s tt h tt
      passes-all b c (core.more e es) s ok k n h =
          let parts = both (is_simple_statement P S e) (are_simple_statements P S es) ok in
          let typed = both (fits f b c e) (all_fit f b c es) k in
          let none = or-false (initialises_local e) (any_initialises es) n in
          well-next P L {Q = Done} s (passes e) (passes_all es) (passes-well b c e s (or-second (is_label e) _ parts.0) (or-second (is_label e) _ typed.0) none.0 h) (λ _ u d q. passes-all b c es u parts.1 typed.1 none.1 d.sound)

    -- ---- all statements

    case-label : (z : ℤ) (rest : Cores) → has_case z rest ≡ true → has_label rest ≡ true
    case-label z core.none k = absurd (no-test k)
    case-label z (core.more (core.case_label y) rest) k = refl
    case-label z (core.more core.default_label rest) k = refl
    case-label z (core.more e rest) k = or-second (is_label e) (has_label rest) (case-label z rest k)

    default-label : (rest : Cores) → has_default rest ≡ true → has_label rest ≡ true
    default-label core.none k = absurd (no-test k)
    default-label (core.more core.default_label rest) k = refl
    default-label (core.more (core.case_label y) rest) k = refl
    default-label (core.more e rest) k = or-second (is_label e) (has_label rest) (default-label rest k)

    not-passed : (a b : Bool) → not (a && b) ≡ true → b ≡ true → a ≡ false
    not-passed true true k e = absurd (no-test k)
    not-passed true false k e = absurd (no-test e)
    not-passed false b k e = refl

    -- a statement or a label of a switch's block
    one-well : (c : Bool) (e : Core) (s : State) → (is_label e || is_simple_statement P S e) ≡ true → (is_label e || fits f true c e) ≡ true → Sound P L s
        → (is_simple_statement P S e ≡ true → fits f true c e ≡ true → Well P L s (End true c) (does again P e)) → Well P L s (End true c) (does again P e)
    one-well c (core.case_label z) s ok k h go = falls again fs xs ks inits f around bodies true c s h
    one-well c core.default_label s ok k h go = falls again fs xs ks inits f around bodies true c s h
    one-well c e s ok k h go = go ok k

    mutual
      pub does-well : (b c : Bool) (e : Core) (s : State) → is_simple_statement P S e ≡ true → fits f b c e ≡ true → Sound P L s → Well P L s (End b c) (does again P e)
      does-well b c (core.full e) s ok k h = full-does again fs xs ks inits f around bodies b c e s ok k h
      does-well b c (core.block es) s ok k h = scope-well again fs xs ks inits L s (does_all again P es) h (ends-stay again fs xs ks inits f around bodies f.result b c) (λ u d. all-well b c es u ok k d.sound)
      does-well b c (core.sequence es) s ok k h = all-well b c es s ok k h
      does-well b c (core.declare i t e) s ok k h = declare-does again fs xs ks inits f around bodies b c i t e s ok k h
      does-well b c (core.branch t x y) s ok k h =
          let parts = both (is_simple P S t) (is_simple_statement P S x && is_simple_inner P S y) ok in
          let inner = both (is_simple_statement P S x) (is_simple_inner P S y) parts.1 in
          let typed = three (is_condition (typing S t)) (fits f b c x) (fits_maybe f b c y) k in
          well-then P L s (holds again P (given t)) (λ z. when z (does again P x) (does_maybe again P y)) (given-holds again fs xs ks inits f around bodies t s parts.0 typed.0 h) (λ z u d q.
          well-when P L u z (does again P x) (does_maybe again P y) (λ _. does-well b c x u inner.0 typed.1 d.sound) (λ _. maybe-well b c y u inner.1 typed.2 d.sound))
      does-well b c (core.loop how t e body) s ok k h =
          loop-well b c how t e body s h ok k (λ u h. does-well true true body u
          (both (is_simple_maybe P S e) (is_simple_statement P S body) (both (is_simple_maybe P S t) (is_simple_maybe P S e && is_simple_statement P S body) ok).1).1
          (three (condition_fits f t) (expression_fits f e) (fits f true true body) k).2 h)
      does-well b c (core.switch e es) s ok k h =
          let parts = both (is_simple P S e) (are_simple_cases P S es) ok in
          let typed = four (is_integer (typing S e)) (labels_differ es) (passes_none es) (labelled_fit f true c es) k in
          well-then P L s (full_expression again P (using (value again P e None)) >>= number_of)
          (λ z. in_scope again P (when (has_case z es) (from_case again P z es) (when (has_default es) (from_default again P es) (gives Falls))) >>= leaving)
          (number-well e s parts.0 typed.0 h) (λ z u d q.
          well-then P L u (in_scope again P (when (has_case z es) (from_case again P z es) (when (has_default es) (from_default again P es) (gives Falls)))) leaving
          (scope-well again fs xs ks inits L u (when (has_case z es) (from_case again P z es) (when (has_default es) (from_default again P es) (gives Falls))) d.sound (ends-stay again fs xs ks inits f around bodies f.result true c) (λ v g.
          well-when P L v (has_case z es) (from_case again P z es) (when (has_default es) (from_default again P es) (gives Falls))
          (λ has. case-well c z es v parts.1 typed.3 typed.2 has g.sound)
          (λ _. well-when P L v (has_default es) (from_default again P es) (gives Falls) (λ has. default-well c es v parts.1 typed.3 typed.2 has g.sound) (λ _. falls again fs xs ks inits f around bodies true c v g.sound))))
          (λ flow v g q. leaving-well b c v flow g.sound q))
      does-well b c core.leave s ok k h = well-gives P L s Breaks h k
      does-well b c core.continue s ok k h = well-gives P L s Continues h k
      does-well b c (core.give absent) s ok k h = well-gives P L s (Returns Nothing) h (inl refl)
      does-well b c (core.give (given e)) s ok k h = give-well again fs xs ks inits f around bodies b c e s ok k h
      does-well b c e s ok k h = absurd (no-test ok)

      maybe-well : (b c : Bool) (e : MaybeCore) (s : State) → is_simple_inner P S e ≡ true → fits_maybe f b c e ≡ true → Sound P L s → Well P L s (End b c) (does_maybe again P e)
      maybe-well b c absent s ok k h = falls again fs xs ks inits f around bodies b c s h
      maybe-well b c (given e) s ok k h = does-well b c e s ok k h

      all-well : (b c : Bool) (es : Cores) (s : State) → are_simple_statements P S es ≡ true → all_fit f b c es ≡ true → Sound P L s → Well P L s (End b c) (does_all again P es)
      all-well b c core.none s ok k h = falls again fs xs ks inits f around bodies b c s h
      all-well b c (core.more e es) s ok k h =
          let parts = both (is_simple_statement P S e) (are_simple_statements P S es) ok in
          let typed = both (fits f b c e) (all_fit f b c es) k in
          well-then P L s (does again P e) (falling (does_all again P es)) (does-well b c e s parts.0 typed.0 h) (λ flow u d q.
          falling-well b c u (does_all again P es) flow d.sound q (λ v h. all-well b c es v parts.1 typed.1 h))

      -- the statements of a switch's block, of which its labels do nothing
      labelled-well : (c : Bool) (es : Cores) (s : State) → are_simple_cases P S es ≡ true → labelled_fit f true c es ≡ true → Sound P L s → Well P L s (End true c) (does_all again P es)
      labelled-well c core.none s ok k h = falls again fs xs ks inits f around bodies true c s h
      labelled-well c (core.more e es) s ok k h =
          let parts = both (is_label e || is_simple_statement P S e) (are_simple_cases P S es) ok in
          let typed = both (is_label e || fits f true c e) (labelled_fit f true c es) k in
          well-then P L s (does again P e) (falling (does_all again P es)) (one-well c e s parts.0 typed.0 h (λ ok k. does-well true c e s ok k h)) (λ flow u d q.
          falling-well true c u (does_all again P es) flow d.sound q (λ v h. labelled-well c es v parts.1 typed.1 h))

      case-well : (c : Bool) (z : ℤ) (es : Cores) (s : State) → are_simple_cases P S es ≡ true → labelled_fit f true c es ≡ true → passes_none es ≡ true → has_case z es ≡ true → Sound P L s
          → Well P L s (End true c) (from_case again P z es)
      case-well c z core.none s ok k n has h = absurd (no-test has)
      case-well c z (core.more (core.case_label y) rest) s ok k n has h =
          well-when P L s (int_le y z && int_le z y) (does_all again P rest) (from_case again P z rest) (λ _. labelled-well c rest s ok k h)
          (λ other. case-well c z rest s ok k n (subst (λ t. (t || has_case z rest) ≡ true) other has) h)
      case-well c z (core.more e rest) s ok k n has h =
          let parts = both (is_label e || is_simple_statement P S e) (are_simple_cases P S rest) ok in
          let typed = both (is_label e || fits f true c e) (labelled_fit f true c rest) k in
          let none = both (not (initialises_local e && has_label rest)) (passes_none rest) n in
          well-next P L {Q = Done} s (passes e) (from_case again P z rest) (passes-well true c e s parts.0 typed.0 (not-passed (initialises_local e) (has_label rest) none.0 (case-label z rest has)) h) (λ _ u d q.
          case-well c z rest u parts.1 typed.1 none.1 has d.sound)

      default-well : (c : Bool) (es : Cores) (s : State) → are_simple_cases P S es ≡ true → labelled_fit f true c es ≡ true → passes_none es ≡ true → has_default es ≡ true → Sound P L s
          → Well P L s (End true c) (from_default again P es)
      default-well c core.none s ok k n has h = absurd (no-test has)
      default-well c (core.more core.default_label rest) s ok k n has h = labelled-well c rest s ok k h
      default-well c (core.more e rest) s ok k n has h =
          let parts = both (is_label e || is_simple_statement P S e) (are_simple_cases P S rest) ok in
          let typed = both (is_label e || fits f true c e) (labelled_fit f true c rest) k in
          let none = both (not (initialises_local e && has_label rest)) (passes_none rest) n in
          well-next P L {Q = Done} s (passes e) (from_default again P rest) (passes-well true c e s parts.0 typed.0 (not-passed (initialises_local e) (has_label rest) none.0 (default-label rest has)) h) (λ _ u d q.
          default-well c rest u parts.1 typed.1 none.1 has d.sound)
