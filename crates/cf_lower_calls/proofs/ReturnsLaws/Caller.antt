-- The caller stands again, block by block.
use Rattle.std.proofs.Common.{◌≡◌, ℕ, ◌+◌, ◌<◌, ◌≤◌, nat_lt, Bool, true, false, ◌&&◌, List, refl, sym, ◌∙◌, ap, subst, arith, inl, inr}
use Rattle.std.specs.Prelude.{Option, Some, length, ◌⊎◌}
use Rattle.std.proofs.lemmas.Bool.Decides.{nat_tests}
use Rattle.cf_base.specs.declared.kind.Kind.TheVariants.{Int}
use Rattle.cf_core.specs.Types.{without_const}
use Rattle.cf_core.specs.Places.{is_scalar}
use Rattle.cf_core.specs.Store as source
use Rattle.cf_core.specs.Run.{State, with_frame}
use Rattle.cf_lower_layout.specs.Sorts.{Sort}
use Rattle.cf_plain.specs.Plain.{Register}
use Rattle.cf_plain.specs.Acts.{Registers}
use Rattle.cf_plain_frames.specs.Since.{is_among}
use Rattle.cc_whole_memory.specs.declared.value.Scalar.TheVariants as scalar
use Rattle.cc_whole_memory.specs.Values.{bytes_of}
use Rattle.cc_whole_memory.specs.Cells.{load}
use Rattle.cc_whole_memory.specs.Blocks.{Block, Memory, inside, on_ok, value_or_act}
use Rattle.cc_whole_mean.specs.Types.{scalar_of}
use Rattle.cc_whole_mean.specs.Values.{named_value}
use Rattle.cc_whole_mean.specs.Flow as c
use Rattle.cc_whole_mean.specs.Flow.{ended_from, ending_state}
use Rattle.cc_whole_locals.proofs.Blocks.{ended-next, ended-below}
use Rattle.cf_lower.specs.Kept.{Keeping, is_argument, type_of_local}
use Rattle.cf_lower_relate.specs.Map.{Fixed, Map, is_ended, is_hidden}
use Rattle.cf_lower_relate.specs.Relation.{Rel}
use Rattle.cf_lower_relate.proofs.Objects.{rel-other}
use Rattle.cf_lower_relate.proofs.Values.{grows-same, grows-through}
use Rattle.cf_lower_steps.specs.Own.{Lives, OwnBlocks, LocalBlock, LocalObject, InLocals}
use Rattle.cf_lower_steps.specs.Steps.{InRegisters}
use Rattle.cf_lower_objects.proofs.Growth.{registers-grow}
use Rattle.cf_lower_turns.specs.Flags.{InFlags, Shows}
use Rattle.cf_lower_turns.specs.Here.{Body, Remains, HasRoom, Still, Outer, InLocal, HiddenArguments, Here}
use Rattle.cf_lower_turns.specs.Texts.{Text, NoText, Free, InTexts}
use Rattle.cf_lower_turns.proofs.Literals.{texts-stay}
use Rattle.cf_lower_calls.specs.Returns.Called.{EntryMap, CameBack}
use Rattle.cf_lower_calls.proofs.ReturnsLaws.Blocks.{rel-framed, registers-elsewhere}
use Rattle.cf_lower_calls.proofs.ReturnsLaws.Objects as objects

module _ (K : Fixed) (at : Body) (p : Keeping) (d : ℕ) (g : Registers) (s : State) (t : c.State) (h : Here K at p d g s t) (os : List ℕ) (E : Map)
    (entry : EntryMap h.map E t.memory.next os) (apart : (o : ℕ) → is_among o os ≡ true → o < at.start.count → is_hidden (at.start.stage o) ≡ true → ⊥)
    (result : Option Sort) (v : source.Value) (u : State) (flow : c.Flow) (back : CameBack K at.texts E t.memory s os result v u flow) (k : ℕ) where
  abbrev F : Map
  F = h.map

  abbrev m : Memory
  m = t.memory

  abbrev M : Map
  M = back.map

  -- the memory behind the function, and that in which the parameters' blocks have ended
  abbrev n : Memory
  n = back.after.memory

  abbrev e : Memory
  e = ended_from k m.next n

  abbrev w : State
  w = with_frame s.frame u

  abbrev Old : ℕ → Type 0
  Old o = objects.Old K at.texts F E s m os h.between.rel entry result v u flow back o

  old-object : (o : ℕ) → o < F.count → is_ended (M.stage o) ≡ false → Old o
  old-object = objects.old-object K at.texts F E s m os h.between.rel entry result v u flow back

  grows-count : F.count ≤ M.count
  grows-count = (objects.grows-back K at.texts F E s m os h.between.rel entry result v u flow back).count

  free-entered : (b : ℕ) → b < m.next → Free F b → Free E b
  free-entered = objects.free-entered F E m.next os entry

  new-object : (o : ℕ) → F.count ≤ o → o < M.count → is_ended (M.stage o) ≡ false → M.block o < at.first.next
  new-object = objects.new-object K at.texts F E s m os h.between.rel entry result v u flow back at.first.next h.texts_laid

  -- ---- blocks of the function's own

  module _ (b : ℕ) (later : at.first.next ≤ b) (lt : b < m.next) (free : Free F b) where
    no-text : NoText at.texts b
    no-text f j x is same = let below = h.texts_laid.below f j x is in omega (arith, below, same, later)

    own-same : e.block b ≡ m.block b
    own-same = ended-below k m.next n b lt ∙ back.outer.same b lt no-text (free-entered b lt free)

    own-free : Free M b
    own-free = back.outer.free b lt no-text (free-entered b lt free)

  register-later : (a : Sort) (r : Register) → r < at.own.bound → e.block (at.own.block a r) ≡ m.block (at.own.block a r)
  register-later a r lr = own-same (at.own.block a r) (h.later.registers a r lr) (h.placed.registers a r lr) (λ o lo live. h.between.blocks.free a r lr o lo live)

  flag-same : (i : ℕ) → i < at.flags.bound → e.block (at.flags.block i) ≡ m.block (at.flags.block i)
  flag-same i li = own-same (at.flags.block i) (h.later.flags i li) (h.placed.flags i li) (λ o lo live. h.flags_there.free i o li lo live)

  -- ---- objects

  in-first : (b : Bool) (o : ℕ) → nat_lt o F.count ≡ b → (o < F.count) ⊎ (F.count ≤ o)
  in-first true o q = inl (grind (arith, nat_tests, q))
  in-first false o q = inr (grind (arith, nat_tests, q))

  old-or-new : (o : ℕ) → (o < F.count) ⊎ (F.count ≤ o)
  old-or-new o = in-first (nat_lt o F.count) o refl

  pub rel-again : Rel K M w e
  rel-again = rel-other K M w n (rel-framed K M u n s.frame back.rel) e (let q = ended-next k m.next n in omega (arith, q))
      (λ o lo live. ended-below k m.next n (M.block o) (back.homes o lo live))

  pub registers-again : InRegisters K M p g at.scope e
  registers-again = registers-grow K F M (grows-through F E M entry.grows back.grows) p g at.scope e
      (registers-elsewhere K at.own at.scope F p g m e h.between.blocks h.below register-later h.between.registers)

  pub blocks-again : OwnBlocks at.own M at.scope e
  blocks-again = record {
    named = h.between.blocks.named;
    lives = λ a r lr. let x = h.between.blocks.lives a r lr in record { block = x.block; there = register-later a r lr ∙ x.there; size = x.size };
    apart = h.between.blocks.apart;
    free = λ a r lr o lo live same.
        own-free (at.own.block a r) (h.later.registers a r lr) (h.placed.registers a r lr) (λ q lq alive. h.between.blocks.free a r lr q lq alive) o lo live same;
  }

  -- ---- locals

  local-block : (i : ℕ) → i < length at.own.locals.types → LocalBlock K at.own at.scope e i
  local-block i li =
      let x = h.between.locals.blocks i li in
      let r = back.outer.remains (at.own.local i) x.block x.below x.there in
      record {
        shape = x.shape;
        named = x.named;
        block = r.block;
        there = ended-below k m.next n (at.own.local i) x.below ∙ r.there;
        size = let a = x.size in let b = r.size in omega (arith, a, b);
        below = let a = x.below in let b = back.outer.next in let q = ended-next k m.next n in omega (arith, a, b, q);
        apart = x.apart;
        alone = x.alone;
      }

  local-object : (i o : ℕ) → i < length at.own.locals.types → s.frame.locals i ≡ Some o → LocalObject at.own M i o
  local-object i o li there =
      let x = h.between.locals.objects i o li there in
      let grows = grows-through F E M entry.grows back.grows in
      record {
        known = let a = x.known in let b = grows-count in omega (arith, a, b);
        type = ap without_const (grows.type o x.known) ∙ x.type;
        visible = λ seen. grows.visible o x.known (x.visible seen);
        block = λ live. let old = old-object o x.known live in old.block ∙ x.block old.live;
        base = λ live. let old = old-object o x.known live in old.base ∙ x.base old.live;
      }

  local-only : (i o : ℕ) → i < length at.own.locals.types → o < M.count → is_ended (M.stage o) ≡ false → M.block o ≡ at.own.local i → s.frame.locals i ≡ Some o
  local-only i o li lo live same = by_case (old-or-new o)
    where
      by_case : (o < F.count) ⊎ (F.count ≤ o) → s.frame.locals i ≡ Some o
      by_case (inl old) = let x = old-object o old live in h.between.locals.only i o li old x.live (sym x.block ∙ same)
      by_case (inr new) = absurd (let below = new-object o new lo live in let later = h.later.locals i li in omega (arith, below, same, later))

  pub locals-again : InLocals K at.own M at.scope w e
  locals-again = record { blocks = local-block; objects = local-object; only = local-only }

  pub homes-again : (o : ℕ) → o < M.count → is_ended (M.stage o) ≡ false → (M.block o < at.first.next) ⊎ InLocal at (M.block o)
  homes-again o lo live = by_case (old-or-new o)
    where
      by_case : (o < F.count) ⊎ (F.count ≤ o) → (M.block o < at.first.next) ⊎ InLocal at (M.block o)
      by_case (inl old) =
          let x = old-object o old live in
          subst (λ b. (b < at.first.next) ⊎ InLocal at b) (sym x.block) (h.homes o old x.live)
      by_case (inr new) = inl (new-object o new lo live)

  pub arguments-again : HiddenArguments at.own M w
  arguments-again i o li a there live =
      let known = (h.between.locals.objects i o li there).known in
      let old = old-object o known live in
      old.hidden (h.arguments i o li a there old.live)

  -- ---- flags

  pub flags-again : InFlags at.own at.flags M at.scope e
  flags-again = record {
    named = h.flags_there.named;
    lives = λ i li. let x = h.flags_there.lives i li in record { block = x.block; there = flag-same i li ∙ x.there; size = x.size };
    apart = h.flags_there.apart;
    registers = h.flags_there.registers;
    locals = h.flags_there.locals;
    free = λ i o li lo live same.
        own-free (at.flags.block i) (h.later.flags i li) (h.placed.flags i li) (λ q lq alive. h.flags_there.free i q li lq alive) o lo live same;
  }

  pub shows-again : (i : ℕ) → i < at.flags.bound → Shows at.scope i 0 m → Shows at.scope i 0 e
  shows-again i li shows =
      ap (λ x. named_value x e) (h.flags_there.named i li)
      ∙ ap (λ x. on_ok (inside (at.flags.block i) 0 4 x) (λ place. value_or_act (load (scalar.Integer Int) place.block.cells place.offset))) (flag-same i li)
      ∙ sym (ap (λ x. named_value x m) (h.flags_there.named i li)) ∙ shows

  -- ---- what was there before the caller

  before : (b : ℕ) → b < at.first.next → b < m.next
  before b lb = let q = h.outer.next in omega (arith, lb, q)

  hidden-again : (o : ℕ) → o < at.start.count → is_hidden (at.start.stage o) ≡ true → Still at.start M o
  hidden-again o lo hid = by_test (is_among o os) refl
    where
      still : Still at.start F o
      still = h.outer.hidden o lo hid

      known : o < F.count
      known = let a = h.grows.count in omega (arith, a, lo)

      by_test : (b : Bool) → is_among o os ≡ b → Still at.start M o
      by_test true among = absurd (apart o among lo hid)
      by_test false ne =
          let out = entry.others o ne in
          let on = back.outer.hidden o (let q = entry.count in let l = known in omega (arith, q, l)) (ap is_hidden out.stage ∙ ap is_hidden still.stage ∙ hid) in
          record {
            stage = on.stage ∙ out.stage ∙ still.stage;
            block = on.block ∙ out.block ∙ still.block;
            base = on.base ∙ out.base ∙ still.base;
          }

  pub outer-again : Outer at.texts at.start M at.first e
  outer-again = record {
    next = let a = h.outer.next in let b = back.outer.next in let q = ended-next k m.next n in omega (arith, a, b, q);
    remains = λ b x lb is.
        let y = h.outer.remains b x lb is in
        let r = back.outer.remains b y.block (before b lb) y.there in
        record {
          block = r.block;
          there = ended-below k m.next n b (before b lb) ∙ r.there;
          size = let one = y.size in let two = r.size in omega (arith, one, two);
        };
    same = λ b lb no free.
        ended-below k m.next n b (before b lb) ∙ back.outer.same b (before b lb) no (free-entered b (before b lb) (h.outer.free b lb no free))
        ∙ h.outer.same b lb no free;
    free = λ b lb no free. back.outer.free b (before b lb) no (free-entered b (before b lb) (h.outer.free b lb no free));
    hidden = hidden-again;
    before = h.outer.before;
  }

  pub texts-again : InTexts K at.texts M w e
  texts-again = texts-stay K at.texts at.first.next M M (grows-same M) u w refl n e h.texts_laid (λ b lb free. free)
      (λ b lb free. ended-below k m.next n b (before b lb)) back.texts_there

  -- the C locals of results
  pub room-again : (b j : ℕ) → HasRoom m b j → HasRoom e b j
  room-again b j x =
      let r = back.outer.remains b x.block x.below x.there in
      record {
        block = r.block;
        there = ended-below k m.next n b x.below ∙ r.there;
        size = let one = x.size in let two = r.size in omega (arith, one, two);
        below = let a = x.below in let c = back.outer.next in let q = ended-next k m.next n in omega (arith, a, c, q);
      }

  abbrev pub here-again : Here K at p d g w (ending_state k m.next back.after)
  here-again = record {
    map = M;
    grows = grows-through at.start F M h.grows (grows-through F E M entry.grows back.grows);
    between = record { rel = rel-again; registers = registers-again; blocks = blocks-again; locals = locals-again };
    below = h.below;
    flags_there = flags-again;
    bounded = h.bounded;
    unset = λ i li. shows-again i (let b = h.bounded in omega (arith, li, b)) (h.unset i li);
    outer = outer-again;
    placed = record {
      registers = λ a r lr. let x = h.placed.registers a r lr in let b = back.outer.next in let q = ended-next k m.next n in omega (arith, x, b, q);
      flags = λ i li. let x = h.placed.flags i li in let b = back.outer.next in let q = ended-next k m.next n in omega (arith, x, b, q);
      results = λ x b is. room-again b (bytes_of (scalar_of x)) (h.placed.results x b is);
    };
    homes = homes-again;
    arguments = arguments-again;
    texts_laid = h.texts_laid;
    texts = texts-again;
    later = h.later;
  }
