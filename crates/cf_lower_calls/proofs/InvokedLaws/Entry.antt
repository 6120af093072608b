-- What the function is entered with.
use Rattle.std.proofs.Common.{◌≡◌, ℕ, suc, ◌<◌, ◌≤◌, true, false, ◌&&◌, ◌||◌, not, ◌==◌, Bool, List, [], ◌∷◌, refl, sym, ◌∙◌, ap, subst, arith}
use Rattle.std.specs.Prelude.{Some, Ok, length}
use Rattle.std.proofs.lemmas.Bool.Decides.{nat_tests}
use Rattle.cf_base.proofs.Tests.{both}
use Rattle.cf_core.specs.Types.{Name, SourceType, without_const, parameters}
use Rattle.cf_core.specs.Core.{Function}
use Rattle.cf_core.specs.Run.{State}
use Rattle.cf_core.specs.Objects.{static_number}
use Rattle.cf_plain.specs.Acts.{Registers}
use Rattle.cf_plain_frames.specs.Since.{is_among}
use Rattle.cc_whole_memory.specs.declared.value.Value.{Value}
use Rattle.cc_whole_mean.specs.declared.named.Named.TheVariants as meant
use Rattle.cc_whole_mean.specs.Flow as c
use Rattle.cc_whole_mean.specs.Flow.{born_arguments}
use Rattle.cc_whole_locals.proofs.Blocks.{arguments-below}
use Rattle.cf_lower.specs.Kept.{Keeping, Locals, type_of_local}
use Rattle.cf_lower_relate.specs.Map.{Fixed, Map, Stage, hidden, shown, ended, is_ended, is_shown, is_hidden, entered}
use Rattle.cf_lower_steps.specs.Own.{LocalObject}
use Rattle.cf_lower_steps.proofs.Values.{stage-shown}
use Rattle.cf_lower_turns.specs.Here.{Here}
use Rattle.cf_lower_turns.specs.Texts.{TextsLaid}
use Rattle.cf_lower_turns.specs.Scene.{Scene, fixed_in}
use Rattle.cf_lower_turns.proofs.Literals.{texts-stay}
use Rattle.cf_lower_calls.specs.Evaluated.Arguments.{NotAmong, Differ, AllPassed, StandIn, Enters, Evaluates, entered_all}
use Rattle.cf_lower_calls.proofs.EvaluatedLaws.Entering.{enters}
use Rattle.cf_lower_calls.proofs.EvaluatedLaws.Evaluating.{evaluates}
use Rattle.cf_lower_calls.specs.Arguments.Passing.{is_passed, are_passed, ArgumentsThere, AllInOwn}
use Rattle.cf_lower_calls.proofs.ArgumentsLaws.Standing.{local-there, in-locals, all-differ, all-own}
use Rattle.cf_lower_calls.specs.Returns.Called.{EntryMap, HaveTypes, StaticThere, Entry}
use Rattle.cf_lower_calls.proofs.ReturnsLaws.Objects.{free-entered}
use Rattle.cf_lower_calls.proofs.InvokedLaws.Arguments.{one-of}
use Rattle.cf_lower_calls.specs.Invoked.Invoking.{programs_of, HaveLocalTypes, Invokes, InvokedBefore}

-- ---- the map of the entry

count-all : (os : List ℕ) (b : ℕ) (F : Map) → (entered_all os b F).count ≡ F.count
count-all [] b F = refl
count-all (o ∷ os) b F = count-all os (suc b) (entered o b F)

none-among : (o : ℕ) (os : List ℕ) → is_among o os ≡ false → NotAmong o os
none-among o [] e = tt
none-among o (p ∷ ps) e = (λ same. differs same (halves (p == o) (is_among o ps) e).0, none-among o ps (halves (p == o) (is_among o ps) e).1)
  where
    halves : (a b : Bool) → (a || b) ≡ false → (a ≡ false) × (b ≡ false)
    halves true b k = absurd (let q = k in cc)
    halves false b k = (refl, k)

    differs : o ≡ p → p == o ≡ false → ⊥
    differs same ne = grind (arith, nat_tests, same, ne)

-- an argument's object stands in its block
pub entered-at : (E : Map) (os : List ℕ) (b : ℕ) → StandIn E os b → (o : ℕ) → is_among o os ≡ true → (is_shown (E.stage o) ≡ true) × (b ≤ E.block o)
entered-at E [] b h o e = absurd (let k = e in cc)
entered-at E (p ∷ ps) b h o e = by_test (λ k. entered-at E ps (suc b) h.1 o k) (p == o) refl
  where
    by_test : (is_among o ps ≡ true → (is_shown (E.stage o) ≡ true) × (suc b ≤ E.block o)) → (t : Bool) → p == o ≡ t → (is_shown (E.stage o) ≡ true) × (b ≤ E.block o)
    by_test others true k =
        let same : p ≡ o = grind (arith, nat_tests, k) in
        let at : E.block p ≡ b = h.0.0 in
        let block : E.block o ≡ E.block p = ap E.block (sym same) in
        (ap (λ q. is_shown (E.stage q)) (sym same) ∙ h.0.1.1, omega (arith, at, block))
    by_test others false k =
        let rest = others (sym (ap (λ t. t || is_among o ps) k) ∙ e) in
        let later = rest.1 in
        (rest.0, omega (arith, later))

shown-hidden : (st : Stage) → is_shown st ≡ true → is_hidden st ≡ true → ⊥
shown-hidden hidden h k = absurd (let q = h in cc)
shown-hidden shown h k = absurd (let q = k in cc)
shown-hidden ended h k = absurd (let q = h in cc)

hidden-stands : (st : Stage) → is_hidden st ≡ true → is_ended st ≡ false
hidden-stands hidden h = refl
hidden-stands shown h = absurd (let q = h in cc)
hidden-stands ended h = absurd (let q = h in cc)

-- as many objects as values, and as types
pub passed-count : (K : Fixed) (F : Map) (s : State) (os : List ℕ) (cs : List Value) → AllPassed K F s os cs → length cs ≡ length os
passed-count K F s [] [] xs = refl
passed-count K F s [] (c ∷ cs) xs = absurd xs
passed-count K F s (o ∷ os) [] xs = absurd xs
passed-count K F s (o ∷ os) (c ∷ cs) xs = ap suc (passed-count K F s os cs xs.1)

pub typed-count : (F : Map) (os : List ℕ) (ts : List SourceType) → HaveTypes F os ts → length os ≡ length ts
typed-count F [] [] xs = refl
typed-count F [] (t ∷ ts) xs = absurd xs
typed-count F (o ∷ os) [] xs = absurd xs
typed-count F (o ∷ os) (t ∷ ts) xs = ap suc (typed-count F os ts xs.1)

module _ (z : Scene) (d : ℕ) (p : Keeping) (f : Function) (is : List ℕ) (needs : Invokes z f is) (g : Registers) (s : State)
    (u : c.State) (h : Here (fixed_in z) z.body p d g s u) (os : List ℕ) (before : InvokedBefore z is os s) where
  pub values : Evaluates (fixed_in z) h.map z.body.scope s u.memory is os
  values =
      evaluates (fixed_in z) h.map z.body.scope s u.memory h.between.rel is os
      (in-locals (fixed_in z) z.body p d g s u h needs.shaped is os needs.passed before.there)

  pub differ : Differ os
  differ = all-differ (fixed_in z) z.body p d g s u h is os needs.passed before.there

  pub own : AllInOwn z.body.own h.map os
  own = all-own (fixed_in z) z.body p d g s u h is os needs.passed before.there

  pub entering : Enters (fixed_in z) h.map s u.memory os values.values
  entering = enters (fixed_in z) s os values.values h.map u.memory h.between.rel differ values.passed_there

  abbrev E : Map
  E = entered_all os u.memory.next h.map

  pub entry-map : EntryMap h.map E u.memory.next os
  entry-map = record {
    count = count-all os u.memory.next h.map;
    grows = entering.grows;
    shown = λ o e. (entered-at E os u.memory.next entering.stand o e).0;
    block = λ o e. (entered-at E os u.memory.next entering.stand o e).1;
    others = λ o e. record {
      stage = entering.stage o (none-among o os e);
      block = entering.block o (none-among o os e);
      base = entering.base o (none-among o os e);
    };
  }

  known-there : (o : ℕ) → o < E.count → o < h.map.count
  known-there o lt = let n = count-all os u.memory.next h.map in omega (arith, n, lt)

  -- nothing that pointed to no object is an argument now, but what has come since
  pub apart-from-first : (o : ℕ) → is_among o os ≡ true → o < z.body.start.count → is_hidden (z.body.start.stage o) ≡ true → ⊥
  apart-from-first o among lo hid =
      let x = own o among in
      let still = h.outer.hidden o lo hid in
      let one = x.block in
      let two = still.block in
      let three = h.outer.before o lo hid in
      let four = h.later.locals x.local x.there in
      omega (arith, one, two, three, four)

  -- the types of objects are those of their locals
  have-types : (js qs : List ℕ) (ts : List SourceType) → are_passed z.body.own.locals js ≡ true → ArgumentsThere s js qs → HaveLocalTypes z.body.own.locals js ts
      → HaveTypes E qs ts
  have-types [] [] [] pass there types = tt
  have-types [] [] (t ∷ ts) pass there types = absurd types
  have-types [] (q ∷ qs) ts pass there types = absurd there
  have-types (j ∷ js) [] ts pass there types = absurd there
  have-types (j ∷ js) (q ∷ qs) [] pass there types = absurd types
  have-types (j ∷ js) (q ∷ qs) (t ∷ ts) pass there types =
      let two = both (is_passed z.body.own.locals j) (not (is_among j js) && are_passed z.body.own.locals js) pass in
      let more = both (not (is_among j js)) (are_passed z.body.own.locals js) two.1 in
      let lt = local-there (fixed_in z) z.body p d g s u h j q two.0 there.0 in
      let object = h.between.locals.objects j q lt there.0.local in
      (ap without_const (entering.grows.type q object.known) ∙ object.type ∙ types.0, have-types js qs ts more.1 there.1 types.1)

  -- a static object is no argument
  static-other : (name : Name) (o : ℕ) → static_number z.program name ≡ Some o → is_among o os ≡ false
  static-other name o is = by_test (is_among o os) refl
    where
      by_test : (b : Bool) → is_among o os ≡ b → is_among o os ≡ false
      by_test false e = e
      by_test true e =
          let x = needs.statics name o is in
          absurd (let k = sym (own o e).hidden ∙ h.grows.visible o x.known x.visible in cc)

  static-there : (name : Name) (o : ℕ) → static_number z.program name ≡ Some o → StaticThere (programs_of z) E name o
  static-there name o is =
      let x = needs.statics name o is in
      let known : o < h.map.count = (let a = x.known in let b = h.grows.count in omega (arith, a, b)) in
      let live : is_ended (h.map.stage o) ≡ false = sym (h.between.rel.gone o known) ∙ before.statics name o is in
      let stands = stage-shown (h.map.stage o) (h.grows.visible o x.known x.visible) live in
      let still = entry-map.others o (static-other name o is) in
      record {
        shape = x.shape;
        named = x.named ∙ ap (λ b. Some (meant.Variable b x.shape)) (sym (still.block ∙ h.grows.block o x.known x.visible stands));
        known = let n = entry-map.count in omega (arith, n, known);
        type = entering.grows.type o known ∙ h.grows.type o x.known ∙ x.type;
        shown = ap is_shown still.stage ∙ stands;
        base = still.base ∙ h.grows.base o x.known x.visible stands ∙ x.base;
      }

  -- what nothing points to stands in a block of before
  hidden-before : (o : ℕ) → o < E.count → is_hidden (E.stage o) ≡ true → E.block o < u.memory.next
  hidden-before o lt hid = by_test (is_among o os) refl
    where
      by_test : (b : Bool) → is_among o os ≡ b → E.block o < u.memory.next
      by_test true e = absurd (shown-hidden (E.stage o) (entry-map.shown o e) hid)
      by_test false e =
          let still = entry-map.others o e in
          let there = h.between.rel.below o (known-there o lt) (hidden-stands (h.map.stage o) (sym (ap is_hidden still.stage) ∙ hid)) in
          let block = still.block in
          omega (arith, there, block)

  laid-now : TextsLaid (fixed_in z) z.body.texts u.memory.next
  laid-now = record {
    below = λ name j x is. let a = h.texts_laid.below name j x is in let b = h.outer.next in omega (arith, a, b);
    laid = h.texts_laid.laid;
    apart = h.texts_laid.apart;
  }

  pub entry : Entry (programs_of z) f E s u.memory os values.values
  entry = record {
    rel = entering.rel;
    stand = entering.stand;
    known = λ o e. let x = (own o e).known in let n = entry-map.count in omega (arith, x, n);
    count = passed-count (fixed_in z) h.map s os values.values values.passed_there;
    typed = have-types is os (parameters f.type) needs.passed before.there needs.typed;
    before = hidden-before;
    texts_laid = laid-now;
    texts = texts-stay (fixed_in z) z.body.texts u.memory.next h.map E entering.grows s s refl u.memory (born_arguments values.values u.memory) laid-now
        (λ b lb free. free-entered h.map E u.memory.next os entry-map b lb free) (λ b lb free. arguments-below values.values u.memory b lb) h.texts;
    statics = static-there;
    apart = static-other;
    valued = λ o e. let a = one-of s is os o before.there e in record { value = a.there.value; held = a.there.held };
  }
