-- Where objects stand when a function has come back: the caller's where they did, those of its parameters no more, and others in blocks of before that are free.
use Rattle.std.proofs.Common.{◌≡◌, ℕ, suc, ◌<◌, ◌≤◌, nat_lt, Bool, true, false, ◌||◌, ◌==◌, List, [], ◌∷◌, refl, sym, ◌∙◌, ap, subst, arith, inl, inr}
use Rattle.std.specs.Prelude.{Option, Some, ◌⊎◌}
use Rattle.std.proofs.lemmas.Bool.Decides.{nat_tests}
use Rattle.cf_core.specs.Store as source
use Rattle.cf_core.specs.Run.{State}
use Rattle.cf_lower_layout.specs.Sorts.{Sort}
use Rattle.cf_plain_frames.specs.Since.{is_among}
use Rattle.cc_whole_memory.specs.Blocks.{Memory}
use Rattle.cc_whole_mean.specs.Flow as c
use Rattle.cf_lower_relate.specs.Map.{Fixed, Map, Stage, hidden, shown, ended, Grows, is_ended, is_shown, is_hidden}
use Rattle.cf_lower_relate.specs.Relation.{Rel}
use Rattle.cf_lower_relate.proofs.Values.{grows-through}
use Rattle.cf_lower_steps.proofs.Values.{stage-shown}
use Rattle.cf_lower_turns.specs.Here.{Still}
use Rattle.cf_lower_turns.specs.Texts.{Texts, NoText, Free, TextsLaid}
use Rattle.cf_lower_calls.specs.Returns.Called.{EntryMap, CameBack}

shown-seen : (st : Stage) → is_shown st ≡ true → is_hidden st ≡ false
shown-seen hidden h = absurd (let k = h in cc)
shown-seen shown h = refl
shown-seen ended h = absurd (let k = h in cc)

-- blocks of before in which no object stood are free where the function is entered
module _ (F E : Map) (next : ℕ) (os : List ℕ) (entry : EntryMap F E next os) where
  pub free-entered : (b : ℕ) → b < next → Free F b → Free E b
  free-entered b lt free o lo live e = by_test (is_among o os) refl
    where
      by_test : (t : Bool) → is_among o os ≡ t → ⊥
      by_test true among = let at = entry.block o among in omega (arith, at, e, lt)
      by_test false ne =
          let out = entry.others o ne in
          free o (let n = entry.count in omega (arith, n, lo)) (sym (ap is_ended out.stage) ∙ live) (sym out.block ∙ e)

module _ (K : Fixed) (texts : Texts) (F E : Map) (s : State) (m : Memory) (os : List ℕ) (rel : Rel K F s m) (entry : EntryMap F E m.next os) (result : Option Sort)
    (v : source.Value) (u : State) (flow : c.Flow) (back : CameBack K texts E m s os result v u flow) where
  abbrev M : Map
  M = back.map

  pub grows-back : Grows F M
  grows-back = grows-through F E M entry.grows back.grows

  -- ---- the parameters' objects have ended

  pub argument-ended : (o : ℕ) → o < F.count → is_among o os ≡ true → is_ended (M.stage o) ≡ false → ⊥
  argument-ended o lo among live =
      let lt : o < E.count = (let n = entry.count in omega (arith, n, lo)) in
      let shown = shown-seen (E.stage o) (entry.shown o among) in
      let block = back.grows.block o lt shown (stage-shown (M.stage o) (back.grows.visible o lt shown) live) in
      let known : o < M.count = (let n = back.grows.count in omega (arith, n, lt)) in
      let home = back.homes o known live in
      let there = entry.block o among in
      omega (arith, home, block, there)

  -- ---- an object of before

  -- it stands where it did
  pub record Old (o : ℕ) : Type 0 where
    pub live : is_ended (F.stage o) ≡ false
    pub other : is_among o os ≡ false
    pub block : M.block o ≡ F.block o
    pub base : M.base o ≡ F.base o
    pub hidden : is_hidden (F.stage o) ≡ true → is_hidden (M.stage o) ≡ true

  ended-same : (o : ℕ) → o < F.count → is_among o os ≡ false → is_ended (M.stage o) ≡ is_ended (F.stage o)
  ended-same o lo ne =
      let known : o < M.count = (let n = grows-back.count in omega (arith, n, lo)) in
      let made : o < s.next = (let n = rel.count in omega (arith, n, lo)) in
      sym (back.rel.gone o known) ∙ back.kept o made ne ∙ rel.gone o lo

  old-other : (o : ℕ) → o < F.count → is_among o os ≡ false → is_ended (M.stage o) ≡ false → Old o
  old-other o lo ne live = by_stage (is_hidden (F.stage o)) refl
    where
      lt : o < E.count
      lt = let n = entry.count in omega (arith, n, lo)

      out : Still F E o
      out = entry.others o ne

      by_stage : (b : Bool) → is_hidden (F.stage o) ≡ b → Old o
      by_stage true hid =
          let still = back.outer.hidden o lt (ap is_hidden out.stage ∙ hid) in
          record {
            live = sym (ended-same o lo ne) ∙ live;
            other = ne;
            block = still.block ∙ out.block;
            base = still.base ∙ out.base;
            hidden = λ e. ap is_hidden still.stage ∙ ap is_hidden out.stage ∙ e;
          }
      by_stage false seen =
          let stands = stage-shown (M.stage o) (grows-back.visible o lo seen) live in
          record {
            live = sym (ended-same o lo ne) ∙ live;
            other = ne;
            block = grows-back.block o lo seen stands;
            base = grows-back.base o lo seen stands;
            hidden = λ e. absurd (let k = sym e ∙ seen in cc);
          }

  pub old-object : (o : ℕ) → o < F.count → is_ended (M.stage o) ≡ false → Old o
  old-object o lo live = by_test (is_among o os) refl
    where
      by_test : (b : Bool) → is_among o os ≡ b → Old o
      by_test true e = absurd (argument-ended o lo e live)
      by_test false e = old-other o lo e live

  -- ---- an object that has come

  -- it stands in the block of a literal
  pub new-object : (first : ℕ) → TextsLaid K texts first → (o : ℕ) → F.count ≤ o → o < M.count → is_ended (M.stage o) ≡ false → M.block o < first
  new-object first laid o new known live = by_test (nat_lt (M.block o) first) refl
    where
      free : first ≤ M.block o → Free E (M.block o)
      free le q lq stands e = by_among (is_among q os) refl
        where
          below : M.block o < m.next
          below = back.homes o known live

          lf : q < F.count
          lf = let n = entry.count in omega (arith, n, lq)

          by_among : (t : Bool) → is_among q os ≡ t → ⊥
          by_among true among = (let at = entry.block q among in let b = below in omega (arith, at, e, b))
          by_among false ne =
              let out = entry.others q ne in
              let still : is_ended (M.stage q) ≡ false = ended-same q lf ne ∙ sym (ap is_ended out.stage) ∙ stands in
              let l = lf in
              let lm : q < M.count = (let n = grows-back.count in omega (arith, n, l)) in
              let old = old-other q lf ne still in
              let one : q ≡ o = back.rel.apart q o lm known still live (old.block ∙ sym out.block ∙ e) in
              omega (arith, one, l, new)

      no-text : first ≤ M.block o → NoText texts (M.block o)
      no-text le f j x is e = let below = laid.below f j x is in omega (arith, below, e, le)

      by_test : (t : Bool) → nat_lt (M.block o) first ≡ t → M.block o < first
      by_test true e = grind (arith, nat_tests, e)
      by_test false e =
          let le : first ≤ M.block o = grind (arith, nat_tests, e) in
          absurd (back.outer.free (M.block o) (back.homes o known live) (no-text le) (free le) o known live refl)
