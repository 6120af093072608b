-- All stands as between two statements where a function's body begins.
use Rattle.std.proofs.Common.{◌≡◌, ℕ, zero, suc, ◌+◌, ◌-◌, ◌<◌, ◌≤◌, nat_lt, Bool, true, false, ◌&&◌, ◌||◌, ◌==◌, List, [], ◌∷◌, length, slice_get, refl, sym, ◌∙◌, ap, subst, arith, inl, inr}
use Rattle.std.specs.Prelude.{Option, Some, None, ◌⊎◌}
use Rattle.std.proofs.lemmas.Bool.Decides.{nat_tests}
use Rattle.std.proofs.lemmas.Option.{slice_get_within}
use Rattle.cf_base.proofs.Tests.{both}
use Rattle.cf_core.specs.Types.{SourceType, without_const, parameters}
use Rattle.cf_core.specs.Core.{Function}
use Rattle.cf_core.specs.Places.{is_scalar}
use Rattle.cf_core.specs.Run.{State}
use Rattle.cf_lower_layout.specs.Sorts.{Sort}
use Rattle.cf_plain.specs.Plain.{Register}
use Rattle.cf_plain.specs.Acts.{no_registers}
use Rattle.cf_plain_frames.specs.Since.{is_among}
use Rattle.cc_whole_locals.proofs.Blocks.{arguments-below, arguments-next}
use Rattle.cc_whole_memory.specs.declared.value.Value.{Value}
use Rattle.cc_whole_memory.specs.Blocks.{Block, Memory}
use Rattle.cc_whole_mean.specs.Flow as c
use Rattle.cc_whole_mean.specs.Flow.{born_arguments}
use Rattle.cc_whole_mean.specs.Scope.{Scope}
use Rattle.cf_lower.specs.Kept.{nothing_kept, is_argument, type_of_local}
use Rattle.cf_lower_relate.specs.Map.{Fixed, Map, Stage, hidden, shown, ended, is_ended, is_shown, is_hidden}
use Rattle.cf_lower_relate.specs.Relation.{Rel}
use Rattle.cf_lower_relate.proofs.Objects.{rel-other}
use Rattle.cf_lower_relate.proofs.Values.{grows-same}
use Rattle.cf_lower_steps.specs.Own.{Own, OwnBlocks, LocalObject, InLocals}
use Rattle.cf_lower_turns.specs.Flags.{Flags, InFlags}
use Rattle.cf_lower_turns.specs.Here.{Body, Remains, Outer, InLocal, HiddenArguments, Here}
use Rattle.cf_lower_turns.specs.Texts.{InTexts}
use Rattle.cf_lower_turns.proofs.Literals.{texts-stay}
use Rattle.cf_lower_calls.specs.Evaluated.Arguments.{StandIn}
use Rattle.cf_lower_calls.specs.Returns.Called.{Programs, fixed, HaveTypes, Entry}
use Rattle.cf_lower_calls.specs.Frames.Frame.{body_of, Frame, TypesFit}

-- ---- the objects of parameters, by number

some-number : {i j : ℕ} → Some i ≡ Some j → i ≡ j
some-number e = cc

shown-seen : (st : Stage) → is_shown st ≡ true → is_hidden st ≡ false
shown-seen hidden h = absurd (let k = h in cc)
shown-seen shown h = refl
shown-seen ended h = absurd (let k = h in cc)

pub shown-stands : (st : Stage) → is_shown st ≡ true → is_ended st ≡ false
shown-stands hidden h = absurd (let k = h in cc)
shown-stands shown h = refl
shown-stands ended h = absurd (let k = h in cc)

-- the object of the parameter of this number
pub record At (E : Map) (b i o : ℕ) : Type 0 where
  pub block : E.block o ≡ b + i
  pub base : E.base o ≡ 0
  pub shown : is_shown (E.stage o) ≡ true

pub at-number : (E : Map) (os : List ℕ) (b : ℕ) → StandIn E os b → (i o : ℕ) → slice_get os i ≡ Some o → At E b i o
at-number E [] b h i o e = absurd (let k = e in cc)
at-number E (p ∷ ps) b h zero o e =
    subst (At E b 0) (some-number e) (record { block = let at = h.0.0 in omega (arith, at); base = h.0.1.0; shown = h.0.1.1 })
at-number E (p ∷ ps) b h (suc i) o e =
    let rest = at-number E ps (suc b) h.1 i o e in
    record { block = let at = rest.block in omega (arith, at); base = rest.base; shown = rest.shown }

pub typed-number : (E : Map) (kind : ℕ → SourceType) (os : List ℕ) (ts : List SourceType) → HaveTypes E os ts
    → ((i : ℕ) (t : SourceType) → slice_get ts i ≡ Some t → kind i ≡ t) → (i o : ℕ) → slice_get os i ≡ Some o → without_const (E.type o) ≡ without_const (kind i)
typed-number E kind [] ts h fit i o e = absurd (let k = e in cc)
typed-number E kind (p ∷ ps) [] h fit i o e = absurd h
typed-number E kind (p ∷ ps) (t ∷ ts) h fit zero o e =
    ap (λ q. without_const (E.type q)) (sym (some-number e)) ∙ h.0 ∙ ap without_const (sym (fit 0 t refl))
typed-number E kind (p ∷ ps) (t ∷ ts) h fit (suc i) o e = typed-number E (λ j. kind (suc j)) ps ts h.1 (λ j u is. fit (suc j) u is) i o e

or-later : (a b : Bool) → b ≡ true → (a || b) ≡ true
or-later true b h = refl
or-later false b h = h

pub among-number : (os : List ℕ) (i o : ℕ) → slice_get os i ≡ Some o → is_among o os ≡ true
among-number [] i o e = absurd (let k = e in cc)
among-number (p ∷ ps) zero o e =
    let at : p ≡ o = some-number e in
    let here : p == o ≡ true = grind (arith, nat_tests, at) in
    ap (λ (b : Bool). b || is_among o ps) here
among-number (p ∷ ps) (suc i) o e = or-later (p == o) (is_among o ps) (among-number ps i o e)

-- below the length there is one
pub record There (os : List ℕ) (i : ℕ) : Type 0 where
  pub object : ℕ
  pub is : slice_get os i ≡ Some object

pub there-at : (os : List ℕ) (i : ℕ) → i < length os → There os i
there-at [] i lt = absurd (let k : i < 0 = lt in omega (arith, k))
there-at (p ∷ ps) zero lt = record { object = p; is = refl }
there-at (p ∷ ps) (suc i) lt =
    let k : suc i < suc (length ps) = lt in
    let less : i < length ps = omega (arith, k) in
    let rest = there-at ps i less in
    record { object = rest.object; is = rest.is }

module _ (B : Programs) (f : Function) (E : Map) (s : State) (first : Memory) (os : List ℕ) (cs : List Value) (entry : Entry B f E s first os cs) (own : Own)
    (flags : Flags) (scope : Scope) (t : c.State) (frame : Frame (fixed B) own flags scope first cs t.memory) (fit : TypesFit own (parameters f.type))
    (args : (i : ℕ) → s.frame.locals i ≡ slice_get os i) where
  abbrev at : Body
  at = body_of own flags scope B.texts E first

  abbrev K : Fixed
  K = fixed B

  abbrev m : Memory
  m = t.memory

  -- an object stands in a block of before, or in that of a parameter
  below-all : (o : ℕ) → o < E.count → is_ended (E.stage o) ≡ false → E.block o < first.next + length cs
  below-all o lo live = let b = entry.rel.below o lo live in let n = arguments-next cs first in omega (arith, b, n)

  rel-first : Rel K E s m
  rel-first = rel-other K E s (born_arguments cs first) entry.rel m (let n = arguments-next cs first in let le = frame.next in omega (arith, n, le))
      (λ o lo live. frame.kept (E.block o) (below-all o lo live))

  before-same : (b : ℕ) → b < first.next → m.block b ≡ first.block b
  before-same b lt = frame.kept b (omega (arith, lt)) ∙ arguments-below cs first b lt

  blocks-first : OwnBlocks own E scope m
  blocks-first = record {
    named = frame.registers.named;
    lives = frame.registers.lives;
    apart = frame.registers.apart;
    free = λ a r lr o lo live e. let b = below-all o lo live in let n = frame.registers.behind a r lr in omega (arith, b, n, e);
  }

  number-below : (i o : ℕ) → s.frame.locals i ≡ Some o → i < length cs
  number-below i o e = let lt = slice_get_within os i o (sym (args i) ∙ e) in let n = entry.count in omega (arith, lt, n)

  objects-first : (i o : ℕ) → i < length own.locals.types → s.frame.locals i ≡ Some o → LocalObject own E i o
  objects-first i o li e =
      let is : slice_get os i ≡ Some o = sym (args i) ∙ e in
      let x = at-number E os first.next entry.stand i o is in
      record {
        known = entry.known o (among-number os i o is);
        type = typed-number E (type_of_local own.locals) os (parameters f.type) entry.typed fit i o is;
        visible = λ seen. shown-seen (E.stage o) x.shown;
        block = λ live. x.block ∙ sym (frame.locals.parameters i (number-below i o e));
        base = λ live. x.base;
      }

  only-first : (i o : ℕ) → i < length own.locals.types → o < E.count → is_ended (E.stage o) ≡ false → E.block o ≡ own.local i → s.frame.locals i ≡ Some o
  only-first i o li lo live e = by_test (nat_lt i (length cs)) refl
    where
      by_test : (b : Bool) → nat_lt i (length cs) ≡ b → s.frame.locals i ≡ Some o
      by_test true q =
          let lt : i < length cs = grind (arith, nat_tests, q) in
          let n = entry.count in
          let there = there-at os i (omega (arith, lt, n)) in
          let x = at-number E os first.next entry.stand i there.object there.is in
          let same : there.object ≡ o =
          entry.rel.apart there.object o (entry.known there.object (among-number os i there.object there.is)) lo (shown-stands (E.stage there.object) x.shown) live
          (x.block ∙ sym (frame.locals.parameters i lt) ∙ sym e) in
          args i ∙ there.is ∙ ap (λ (p : ℕ). Some p) same
      by_test false q =
          let le : length cs ≤ i = grind (arith, nat_tests, q) in
          let behind = frame.locals.behind i li le in
          let below = below-all o lo live in
          absurd (omega (arith, behind, below, e))

  locals-first : InLocals K own E scope s m
  locals-first = record { blocks = frame.locals.blocks; objects = objects-first; only = only-first }

  flags-first : InFlags own flags E scope m
  flags-first = record {
    named = frame.flags_there.named;
    lives = frame.flags_there.lives;
    apart = frame.flags_there.apart;
    registers = frame.flags_there.registers;
    locals = frame.flags_there.locals;
    free = λ d o ld lo live e. let b = below-all o lo live in let n = frame.flags_there.behind d ld in omega (arith, b, n, e);
  }

  outer-first : Outer B.texts E E first m
  outer-first = record {
    next = let n = frame.next in omega (arith, n);
    remains = λ b x lb e. record { block = x; there = before-same b lb ∙ e; size = omega arith };
    same = λ b lb no free. before-same b lb;
    free = λ b lb no free. free;
    hidden = λ o lo hid. record { stage = refl; block = refl; base = refl };
    before = entry.before;
  }

  homes-first : (o : ℕ) → o < E.count → is_ended (E.stage o) ≡ false → (E.block o < first.next) ⊎ InLocal at (E.block o)
  homes-first o lo live = by_test (nat_lt (E.block o) first.next) refl
    where
      by_test : (b : Bool) → nat_lt (E.block o) first.next ≡ b → (E.block o < first.next) ⊎ InLocal at (E.block o)
      by_test true q = inl (grind (arith, nat_tests, q))
      by_test false q =
          let le : first.next ≤ E.block o = grind (arith, nat_tests, q) in
          let below = below-all o lo live in
          let few = frame.locals.few in
          let lt : E.block o - first.next < length cs = omega (arith, le, below) in
          let place = frame.locals.parameters (E.block o - first.next) lt in
          let sum : first.next + (E.block o - first.next) ≡ E.block o = omega (arith, le) in
          inr (record { local = E.block o - first.next; there = omega (arith, lt, few); is = sym (place ∙ sum) })

  arguments-first : HiddenArguments own E s
  arguments-first i o li a e live =
      let none = frame.locals.none_passed i (number-below i o e) in
      let two = both (is_argument own.locals i) (is_scalar (type_of_local own.locals i)) a in
      absurd (let k = sym none ∙ two.0 in cc)

  texts-first : InTexts K B.texts E s m
  texts-first = texts-stay K B.texts first.next E E (grows-same E) s s refl (born_arguments cs first) m entry.texts_laid (λ b lb free. free)
      (λ b lb free. frame.kept b (omega (arith, lb))) entry.texts

  none-kept : {u : Sort} → None ≡ Some u → ⊥
  none-kept e = absurd (let k = e in cc)

  local-later : (i : ℕ) → i < length own.locals.types → first.next ≤ own.local i
  local-later i li = by_test (nat_lt i (length cs)) refl
    where
      by_test : (b : Bool) → nat_lt i (length cs) ≡ b → first.next ≤ own.local i
      by_test true q = (let lt : i < length cs = grind (arith, nat_tests, q) in let e = frame.locals.parameters i lt in omega (arith, e))
      by_test false q = (let le : length cs ≤ i = grind (arith, nat_tests, q) in let e = frame.locals.behind i li le in omega (arith, e))

  pub here-first : Here K at nothing_kept 0 no_registers s t
  here-first = record {
    map = E;
    grows = grows-same E;
    between = record { rel = rel-first; registers = λ r v e. tt; blocks = blocks-first; locals = locals-first };
    below = λ q u e. absurd (none-kept e);
    flags_there = flags-first;
    bounded = omega arith;
    unset = λ d lt. absurd (omega (arith, lt));
    outer = outer-first;
    placed = record { registers = frame.registers.below; flags = frame.flags_there.below; results = frame.results.room };
    homes = homes-first;
    arguments = arguments-first;
    texts_laid = entry.texts_laid;
    texts = texts-first;
    later = record {
      registers = λ a r lr. let n = frame.registers.behind a r lr in omega (arith, n);
      locals = local-later;
      flags = λ d ld. let n = frame.flags_there.behind d ld in omega (arith, n);
      results = λ x b is. record {
        named = frame.results.named x b is;
        later = let n = frame.results.behind x b is in omega (arith, n);
        registers = frame.results.registers x b is;
        locals = frame.results.locals x b is;
        flags = frame.results.flags_apart x b is;
      };
    };
  }
