-- Where plain statements that are no control lead to: what they make of the frame, and which locals stand behind them.
use Rattle.std.proofs.Common.{◌≡◌, ℕ, zero, suc, ◌<◌, nat_lt, Bool, true, false, ◌==◌, if◌then◌else◌, List, [], ◌∷◌, refl, sym, ◌∙◌, ap, subst, arith, ◌⊎◌, inl, inr}
use Rattle.std.specs.Prelude.{ℤ, Option, Some, None, map}
use Rattle.std.proofs.lemmas.Bool.Decides.{nat_tests}
use Rattle.cf_base.proofs.Tests.{both}
use Rattle.cf_base.specs.World.{World, Ran, and_then}
use Rattle.cf_core.specs.Types.{Name, SourceType}
use Rattle.cf_core.specs.Places.{is_scalar}
use Rattle.cf_core.specs.Store as source
use Rattle.cf_core.specs.Store.{hold}
use Rattle.cf_core.specs.Run.{State, Did, onward, ◌>>=◌, ◌>>◌, gives, malformed, valid, some_or, when, declared_object, frame_changed, lists_local, object_changed, gone}
use Rattle.cf_core.specs.Access.{place_type, used, place_of, first_value}
use Rattle.cf_core.specs.Calls.{root}
use Rattle.cf_core.specs.Objects.{static_number, settle}
use Rattle.cf_lower_layout.specs.Layout.{has_bytes, const_once}
use Rattle.cf_lower_actions.proofs.LowerObjects.{destroyed}
use Rattle.cf_plain.specs.Plain as plain
use Rattle.cf_plain.specs.Plain.{Register, Action, Plain, act, set, give}
use Rattle.cf_plain.specs.Acts.{Registers, doing, held, used_in, end_local, acts}
use Rattle.cf_plain.specs.Running.{Flow, Falls, Breaks, Continues, Returns, Again, calls, keep, does}
use Rattle.cf_plain_frames.specs.Since.{HasValue}
use Rattle.cf_plain_frames.proofs.Values.{keeps-used_in}
use Rattle.cf_plain_kept.specs.Kept as told
use Rattle.cf_lower.specs.Kept.{Keeping}
use Rattle.cf_lower_kept.specs.Opened.{Opened, first_counts, further_counts, number_in, closed, declared_among, told_by, counted, object_kept, action_opens, opened_by, set_by, valued_in, set_in}
use Rattle.cf_lower_turns.specs.Scene.{Scene}
use Rattle.cf_lower_actions.specs.Leaf.{may_set, may_do, is_leaf}
use Rattle.cf_lower_actions.specs.Leaf as leaf
use Rattle.cf_lower_bounds.specs.Points.{Standing, never, these, Open, StandsAs, InFrame, local_count}
use Rattle.cf_lower_points.specs.Leading.{leads_on, standing_behind}
use Rattle.cf_lower_points.proofs.Before.{starts-as, BegunAs, PartAs, declared-below, declared-once}
use Rattle.cf_lower_points.proofs.Beginning.{open-declared, frame-declared, open-finished, frame-finished, open-nothing}
use Rattle.cf_lower_points.proofs.Indexed.{decay-gives, index-gives}
use Rattle.cf_lower_points.proofs.Placed.{GivesFirst, GivesFurther, first-parts, further-parts}
use Rattle.cf_lower_points.proofs.Quiet.{is_quiet, quiet-opens}
use Rattle.cf_lower_points.proofs.Results.{Given, given-then, given-always, given-both}
use Rattle.cf_lower_points.proofs.Standing.{Bounded, begun-member, open-placed, open-set, open-told, open-counted, open-stays, open-valued, frame-stays}
use Rattle.cf_lower_points.proofs.Stays.{Stays, stays-itself, first-stays, quiet-stays, keeps-first_value}

-- ---- what is so behind a statement: it falls to where these stand, or returns and none stands

abbrev pub Behind : Scene → Standing → Flow → State → Type 0
Behind z k (Falls g) s = InFrame z s × StandsAs (local_count z) k g s
Behind z k (Returns v) s = InFrame z s × ((i o : ℕ) → i < local_count z → s.frame.locals i ≡ Some o → (s.object o).is_gone ≡ true)
Behind z k (Breaks g) s = ⊥
Behind z k (Continues g) s = ⊥

some-register : {r q : Register} → Some r ≡ Some q → r ≡ q
some-register e = cc

itself : (o : ℕ) → o == o ≡ true
itself o = grind (arith, nat_tests)

-- what the source's `keep` gives
kept-same : (g : Registers) (r : Register) (v : source.Value) → keep g r v r ≡ Some v
kept-same g zero v = refl
kept-same g (suc r) v = kept-same (λ q. g (suc q)) r v

-- what the number that was set last tells of a register
number-there : (g : Registers) (o : Option (Register × ℤ)) (q : Register) → ((r : Register) (n : ℤ) → o ≡ Some (r, n) → g r ≡ Some (source.Number n)) → (n : ℤ)
    → number_in o q ≡ Some n → g q ≡ Some (source.Number n)
number-there g None q holds n e = absurd (let k = e in cc)
number-there g (Some x) q holds n e = by_test (x.0 == q) refl e
  where
    some-number : {a b : ℤ} → Some a ≡ Some b → a ≡ b
    some-number e = cc

    by_test : (b : Bool) → x.0 == q ≡ b → (if b then Some x.1 else None) ≡ Some n → g q ≡ Some (source.Number n)
    by_test true k e =
        let same : x.0 ≡ q = grind (arith, nat_tests, k) in
        subst (λ (r : Register). g r ≡ Some (source.Number n)) same (holds x.0 n (ap (λ (m : ℤ). Some (x.0, m)) (some-number e)))
    by_test false k e = absurd (let i = e in cc)

module _ (z : Scene) (again : Again) (gk : told.Keeping) (h : Keeping) (xs : List Opened) (g : Registers) (s : State) (w : World)
    (open_here : Open (local_count z) xs g s) (frame : InFrame z s) (bounded : Bounded (local_count z) s)
    (statics : (name : Name) (o : ℕ) → static_number z.program name ≡ Some o → o < s.next)
    (alone : (i j o : ℕ) → i < local_count z → j < local_count z → s.frame.locals i ≡ Some o → s.frame.locals j ≡ Some o → (s.object o).is_gone ≡ false → j ≡ i)
    (built_none : (q : Register) (r : Register) → leaf.may_first z.body.own.locals (h r) (h q) ≡ true → g q ≡ Some source.Built → ⊥) where
  abbrev does_so : Plain → Ran (Did Flow)
  does_so st = does again z.program st g s w

  -- ---- actions that make and end no local

  quiet-act : (a : Action) → is_quiet a ≡ true → Given (Behind z (these (opened_by gk None a xs))) (does_so (act a))
  quiet-act a q =
      given-then (λ (v : source.Value) u. Stays s u) (Behind z (these (opened_by gk None a xs))) (acts (calls again) z.program g a s w) (λ (v : source.Value). gives (Falls g))
      (given-always (Stays s) (acts (calls again) z.program g a s w) ((quiet-stays s again z.program g a q).by s w (stays-itself s)))
      (λ v u w st. record {
        by = (
          frame-stays z s u st frame statics,
          subst (λ ys. Open (local_count z) ys g u) (sym (quiet-opens gk None a xs q)) (open-stays (local_count z) g s u st bounded xs open_here),
        );
      })

  quiet-set : (r : Register) (a : Action) → is_quiet a ≡ true → Given (Behind z (these (opened_by gk (Some r) a (set_in r xs)))) (does_so (set r a))
  quiet-set r a q =
      given-then (λ (v : source.Value) u. Stays s u) (Behind z (these (opened_by gk (Some r) a (set_in r xs)))) (acts (calls again) z.program g a s w)
      (λ (v : source.Value). gives (Falls (keep g r v)))
      (given-always (Stays s) (acts (calls again) z.program g a s w) ((quiet-stays s again z.program g a q).by s w (stays-itself s)))
      (λ v u w st. record {
        by = (
          frame-stays z s u st frame statics,
          subst (λ ys. Open (local_count z) ys (keep g r v) u) (sym (quiet-opens gk (Some r) a (set_in r xs) q))
              (open-set (local_count z) r v g u xs (open-stays (local_count z) g s u st bounded xs open_here)),
        );
      })

  -- ---- a number, which may be what a flag tells

  number-act : (y : ℤ) → Given (Behind z (these xs)) (does_so (act (plain.number y)))
  number-act y = record { by = (frame, open_here) }

  number-set : (r : Register) (y : ℤ) → Given (Behind z (these (map (counted r y) (map (told_by r y) (set_in r xs))))) (does_so (set r (plain.number y)))
  number-set r y = record {
    by = (
      frame,
      open-counted (local_count z) r y (keep g r (source.Number y)) s (map (told_by r y) (set_in r xs)) (kept-same g r (source.Number y))
          (open-told (local_count z) r y (keep g r (source.Number y)) s (set_in r xs) (kept-same g r (source.Number y))
          (open-set (local_count z) r (source.Number y) g s xs open_here)),
    );
  }

  -- ---- a place in an object

  decay-set : (r q : Register) → Given (Behind z (these (set_by gk r (plain.decay q) xs))) (does_so (set r (plain.decay q)))
  decay-set r q =
      given-then (λ (v : source.Value) (u : State). Stays s u × GivesFirst g q v) (Behind z (these (set_by gk r (plain.decay q) xs)))
      (acts (calls again) z.program g (plain.decay q) s w) (λ (v : source.Value). gives (Falls (keep g r v)))
      (given-both (λ (v : source.Value) (u : State). Stays s u) (λ (v : source.Value) (u : State). GivesFirst g q v) (acts (calls again) z.program g (plain.decay q) s w)
      (given-always (Stays s) (acts (calls again) z.program g (plain.decay q) s w) ((quiet-stays s again z.program g (plain.decay q) refl).by s w (stays-itself s)))
      (decay-gives again z.program g s w q))
      (λ v u w two. record {
        by = (
          frame-stays z s u two.0 frame statics,
          open-placed (local_count z) r v (λ x. first_counts (x.places q)) g u
              (λ x k. first-parts (local_count z) x.local g (keep g r v) u r v (kept-same g r v) q two.1 (x.places q) (k.parts q)) xs
              (open-stays (local_count z) g s u two.0 bounded xs open_here),
        );
      })

  index-set : (r p q : Register) → Given (Behind z (these (set_by gk r (plain.index p q) xs))) (does_so (set r (plain.index p q)))
  index-set r p q =
      given-then (λ (v : source.Value) (u : State). Stays s u × GivesFurther g p q v) (Behind z (these (set_by gk r (plain.index p q) xs)))
      (acts (calls again) z.program g (plain.index p q) s w) (λ (v : source.Value). gives (Falls (keep g r v)))
      (given-both (λ (v : source.Value) (u : State). Stays s u) (λ (v : source.Value) (u : State). GivesFurther g p q v) (acts (calls again) z.program g (plain.index p q) s w)
      (given-always (Stays s) (acts (calls again) z.program g (plain.index p q) s w) ((quiet-stays s again z.program g (plain.index p q) refl).by s w (stays-itself s)))
      (index-gives again z.program g s w p q))
      (λ v u w two. record {
        by = (
          frame-stays z s u two.0 frame statics,
          open-placed (local_count z) r v (λ x. further_counts (number_in x.last q) (x.places p)) g u
              (λ x k. further-parts (local_count z) x.local g (keep g r v) u r v (kept-same g r v) p q two.1 (number_in x.last q) (number-there g x.last q k.last)
              (x.places p) (k.parts p)) xs
              (open-stays (local_count z) g s u two.0 bounded xs open_here),
        );
      })

  -- ---- a declaration

  module _ (i : ℕ) (t : SourceType) (lt : i < local_count z) (once : const_once t ≡ true) where
    declare-act : (b : Bool) → Given (Behind z (these (declared_among i None t xs)))
        (((valid b >> (declared_object t >>= (λ o. frame_changed (lists_local i o) >> gives o))) >>= (λ o. gives (source.At (root o))) >> gives (Falls g)) s w)
    declare-act true = record {
      by = (
        frame-declared (local_count z) s i t bounded lt once z frame statics,
        open-declared (local_count z) s i t bounded lt once g None xs open_here (λ r e. absurd (let k = e in cc)),
      );
    }
    declare-act false = record { by = tt }

    declare-set : (r : Register) (b : Bool) → Given (Behind z (these (declared_among i (Some r) t (set_in r xs))))
        (((valid b >> (declared_object t >>= (λ o. frame_changed (lists_local i o) >> gives o))) >>= (λ o. gives (source.At (root o))) >>= (λ v. gives (Falls (keep g r v)))) s w)
    declare-set r true = record {
      by = (
        frame-declared (local_count z) s i t bounded lt once z frame statics,
        open-declared (local_count z) s i t bounded lt once (keep g r (source.At (root s.next))) (Some r) (set_in r xs)
            (open-set (local_count z) r (source.At (root s.next)) g s xs open_here)
            (λ q e. ap (keep g r (source.At (root s.next))) (some-register (sym e)) ∙ kept-same g r (source.At (root s.next))),
      );
    }
    declare-set r false = record { by = tt }

  -- ---- a first value

  module _ (p q : Register) (i o : ℕ) (t : SourceType) (local : gk p ≡ Some (told.an_object i t)) (below : i < local_count z) (there : s.frame.locals i ≡ Some o)
      (live : (s.object o).is_gone ≡ false) (place : g p ≡ Some (source.At (root o))) (lo : o < s.next) (no_built : g q ≡ Some source.Built → ⊥) where
    abbrev Led : Flow → State → Type 0
    Led = Behind z (these (opened_by gk None (plain.first p q) xs))

    -- the object holds the value
    held-now : (v : source.Value) → HasValue (if o == o then hold [] (Some v) (s.object o) else s.object o)
    held-now v = subst (λ b. HasValue (if b then hold [] (Some v) (s.object o) else s.object o)) (sym (itself o)) (record { value = v; held = refl })

    by-scalar : (v : source.Value) (b : Bool) → Given Led (((doing (when b (first_value (root o) v) malformed)) >> gives (Falls g)) s w)
    by-scalar v false = record { by = tt }
    by-scalar v true =
        let st : Stays s (record s { object = λ j. if j == o then hold [] (Some v) (s.object o) else s.object j }) =
        ((keeps-first_value s (root o) v).by s w (stays-itself s)).by in
        record {
          by = (
            frame-stays z s (record s { object = λ j. if j == o then hold [] (Some v) (s.object o) else s.object j }) st frame statics,
            subst (λ k. Open (local_count z) (valued_in (object_kept k) xs) g (record s { object = λ j. if j == o then hold [] (Some v) (s.object o) else s.object j })) (sym local)
                (open-valued (local_count z) g (record s { object = λ j. if j == o then hold [] (Some v) (s.object o) else s.object j }) i
                (record { one = record { below = below; object = o; there = there; stands = st.gone o lo ∙ live }; value = held-now v }) xs
                (open-stays (local_count z) g s (record s { object = λ j. if j == o then hold [] (Some v) (s.object o) else s.object j }) st bounded xs open_here)),
          );
        }

    settled-by : (v : source.Value) (b : Bool) → Given Led (((doing (when b (gives v >>= first_value (root o)) malformed)) >> gives (Falls g)) s w)
    settled-by v true = by-scalar v true
    settled-by v false = record { by = tt }

    by-value : (y : Option source.Value) → g q ≡ y → Given Led ((((some_or y malformed) >>= (λ x. doing (settle z.program.classes (root o) x))) >> gives (Falls g)) s w)
    by-value None e = record { by = tt }
    by-value (Some source.Built) e = absurd (no_built e)
    by-value (Some source.Nothing) e = unusable (is_scalar (place_type z.program.classes s (root o)))
      where
        unusable : (b : Bool) → Given Led (((doing (when b (used source.Nothing >>= first_value (root o)) malformed)) >> gives (Falls g)) s w)
        unusable true = record { by = tt }
        unusable false = record { by = tt }
    by-value (Some source.Missing) e = unusable (is_scalar (place_type z.program.classes s (root o)))
      where
        unusable : (b : Bool) → Given Led (((doing (when b (used source.Missing >>= first_value (root o)) malformed)) >> gives (Falls g)) s w)
        unusable true = record { by = tt }
        unusable false = record { by = tt }
    by-value (Some (source.Number n)) e = settled-by (source.Number n) (is_scalar (place_type z.program.classes s (root o)))
    by-value (Some source.Null) e = settled-by source.Null (is_scalar (place_type z.program.classes s (root o)))
    by-value (Some (source.At x)) e = settled-by (source.At x) (is_scalar (place_type z.program.classes s (root o)))
    by-value (Some (source.Code f)) e = settled-by (source.Code f) (is_scalar (place_type z.program.classes s (root o)))
    by-value (Some (source.DataMember path j)) e = settled-by (source.DataMember path j) (is_scalar (place_type z.program.classes s (root o)))
    by-value (Some (source.FunctionMember path d)) e = settled-by (source.FunctionMember path d) (is_scalar (place_type z.program.classes s (root o)))

    first-act : Given Led (does_so (act (plain.first p q)))
    first-act =
        subst (λ y. Given Led ((((some_or y malformed >>= used) >>= place_of) >>= (λ x. held g q >>= (λ v. doing (settle z.program.classes x v))) >> gives (Falls g)) s w)) (sym place)
        (by-value (g q) refl)

  -- the first value of a part changes nothing that is told
  part-act : (p q : Register) (t : SourceType) → gk p ≡ Some (told.a_place t) → Given (Behind z (these (opened_by gk None (plain.first p q) xs))) (does_so (act (plain.first p q)))
  part-act p q t is =
      given-then (λ (v : source.Value) u. Stays s u) (Behind z (these (opened_by gk None (plain.first p q) xs))) (acts (calls again) z.program g (plain.first p q) s w)
      (λ (v : source.Value). gives (Falls g))
      (given-always (Stays s) (acts (calls again) z.program g (plain.first p q) s w) ((first-stays s again z.program g p q).by s w (stays-itself s)))
      (λ v u w st. record {
        by = (
          frame-stays z s u st frame statics,
          subst (λ k. Open (local_count z) (valued_in (object_kept k) xs) g u) (sym is) (open-stays (local_count z) g s u st bounded xs open_here),
        );
      })

  -- ---- the end of a local

  module _ (i : ℕ) (t : SourceType) (lt : i < local_count z) (some : has_bytes t ≡ true) where
    by-local : (x : Option ℕ) → s.frame.locals i ≡ x
        → Given (Behind z (these (closed i xs)))
        ((end_local (calls again) z.program t x >> gives (Falls g)) s w)
    by-local None e = record { by = (frame, open-nothing (local_count z) s i e g xs open_here) }
    by-local (Some o) e =
        subst (λ ran. Given (Behind z (these (closed i xs)))
        (and_then (and_then ran (λ did w. onward did (λ u. doing (object_changed o gone)) w)) (λ did w. onward did (λ u. gives (Falls g)) w)))
        (sym (destroyed (calls again) z.program t (root o) s w some))
        (record {
          by = (
            frame-finished (local_count z) s i o e (λ j lj k live. alone i j o lt lj e k live) z frame,
            open-finished (local_count z) s i o e (λ j lj k live. alone i j o lt lj e k live) g xs open_here,
          );
        })

    finish-act : Given (Behind z (these (closed i xs))) (does_so (act (plain.finish t i)))
    finish-act = by-local (s.frame.locals i) refl

  -- ---- statements

  abbrev LedBy : Plain → Type 0
  LedBy st = Given (Behind z (standing_behind gk st xs)) (does_so st)

  number-below : (i n : ℕ) → nat_lt i n ≡ true → i < n
  number-below i n e = grind (arith, nat_tests, e)

  act-led : (a : Action) → may_do z h a ≡ true → action_opens gk a xs ≡ true → LedBy (act a)
  act-led (plain.declare i t) l e =
      declare-act i t (declared-below z i t l) (declared-once z i t l) (nat_lt i s.frame.count)
  act-led (plain.first p q) l e = by_start (starts-as (gk p) p xs e)
    where
      by_start : BegunAs (gk p) p xs ⊎ PartAs (gk p) p xs → LedBy (act (plain.first p q))
      by_start (inl x) =
          let m = begun-member (local_count z) g s x.local p xs x.test open_here.each in
          first-act p q x.local m.one.object x.type x.is m.one.below m.one.there m.one.stands m.place (bounded x.local m.one.object m.one.below m.one.there) (built_none q p l)
      by_start (inr x) = part-act p q x.type x.is
  act-led (plain.finish t i) l e =
      let two = both (nat_lt i (local_count z)) (has_bytes t) l in
      finish-act i t (number-below i (local_count z) two.0) two.1
  act-led (plain.text j b) l e = quiet-act (plain.text j b) refl
  act-led (plain.store r q) l e = quiet-act (plain.store r q) refl
  act-led (plain.zeros r) l e = quiet-act (plain.zeros r) refl
  act-led (plain.bytes r b) l e = quiet-act (plain.bytes r b) refl
  act-led (plain.number y) l e = number-act y
  act-led (plain.local i) l e = quiet-act (plain.local i) refl
  act-led (plain.static_object name t) l e = quiet-act (plain.static_object name t) refl
  act-led (plain.function name t) l e = quiet-act (plain.function name t) refl
  act-led (plain.read r) l e = quiet-act (plain.read r) refl
  act-led (plain.dereference r) l e = quiet-act (plain.dereference r) refl
  act-led (plain.decay r) l e = quiet-act (plain.decay r) refl
  act-led (plain.index r q) l e = quiet-act (plain.index r q) refl
  act-led (plain.convert t r) l e = quiet-act (plain.convert t r) refl
  act-led (plain.from_void t r) l e = quiet-act (plain.from_void t r) refl
  act-led (plain.operate op k r q) l e = quiet-act (plain.operate op k r q) refl
  act-led (plain.unary op k r) l e = quiet-act (plain.unary op k r) refl
  act-led (plain.truth r) l e = quiet-act (plain.truth r) refl
  act-led (plain.logical_not r) l e = quiet-act (plain.logical_not r) refl
  act-led (plain.pointer_operate op r q) l e = quiet-act (plain.pointer_operate op r q) refl
  act-led (plain.changed change r q) l e = quiet-act (plain.changed change r q) refl
  act-led a l e = absurd (let k = l in cc)

  set-led : (r : Register) (a : Action) → may_set z h a ≡ true → action_opens gk a xs ≡ true → LedBy (set r a)
  set-led r (plain.declare i t) l e = declare-set i t (declared-below z i t l) (declared-once z i t l) r (nat_lt i s.frame.count)
  set-led r (plain.text j b) l e = quiet-set r (plain.text j b) refl
  set-led r (plain.number y) l e = number-set r y
  set-led r (plain.local i) l e = quiet-set r (plain.local i) refl
  set-led r (plain.static_object name t) l e = quiet-set r (plain.static_object name t) refl
  set-led r (plain.function name t) l e = quiet-set r (plain.function name t) refl
  set-led r (plain.read q) l e = quiet-set r (plain.read q) refl
  set-led r (plain.dereference q) l e = quiet-set r (plain.dereference q) refl
  set-led r (plain.decay q) l e = decay-set r q
  set-led r (plain.index p q) l e = index-set r p q
  set-led r (plain.convert t q) l e = quiet-set r (plain.convert t q) refl
  set-led r (plain.from_void t q) l e = quiet-set r (plain.from_void t q) refl
  set-led r (plain.operate op k p q) l e = quiet-set r (plain.operate op k p q) refl
  set-led r (plain.unary op k q) l e = quiet-set r (plain.unary op k q) refl
  set-led r (plain.truth q) l e = quiet-set r (plain.truth q) refl
  set-led r (plain.logical_not q) l e = quiet-set r (plain.logical_not q) refl
  set-led r (plain.pointer_operate op p q) l e = quiet-set r (plain.pointer_operate op p q) refl
  set-led r (plain.changed change p q) l e = quiet-set r (plain.changed change p q) refl
  set-led r a l e = absurd (let k = l in cc)

module _ (z : Scene) (again : Again) (gk : told.Keeping) (g : Registers) (s : State) (w : World) (frame : InFrame z s) (bounded : Bounded (local_count z) s)
    (statics : (name : Name) (o : ℕ) → static_number z.program name ≡ Some o → o < s.next) where
  -- nothing stands where a function returns
  give-led : (r : Option Register) → Open (local_count z) [] g s → Given (Behind z never) (does again z.program (give r) g s w)
  give-led None open_here = record { by = (frame, λ i o lt e. open_here.over i o lt refl e) }
  give-led (Some r) open_here =
      given-then (λ (v : source.Value) u. Stays s u) (Behind z never) (used_in g r s w) (λ (v : source.Value). gives (Returns v))
      (given-always (Stays s) (used_in g r s w) ((keeps-used_in (Stays s) g r).by s w (stays-itself s)))
      (λ v u w st. record {
        by = (
          frame-stays z s u st frame statics,
          λ i o lt e. (open-stays (local_count z) g s u st bounded [] open_here).over i o lt refl e,
        );
      })

module _ (z : Scene) (again : Again) (gk : told.Keeping) (h : Keeping) (g : Registers) (s : State) (w : World)
    (frame : InFrame z s) (bounded : Bounded (local_count z) s)
    (statics : (name : Name) (o : ℕ) → static_number z.program name ≡ Some o → o < s.next)
    (alone : (i j o : ℕ) → i < local_count z → j < local_count z → s.frame.locals i ≡ Some o → s.frame.locals j ≡ Some o → (s.object o).is_gone ≡ false → j ≡ i)
    (built_none : (q : Register) (r : Register) → leaf.may_first z.body.own.locals (h r) (h q) ≡ true → g q ≡ Some source.Built → ⊥) where
  -- a statement that is no control and may stand here
  pub led : (st : Plain) (xs : List Opened) → Open (local_count z) xs g s → is_leaf z h st ≡ true → leads_on gk st xs ≡ true
      → Given (Behind z (standing_behind gk st xs)) (does again z.program st g s w)
  led (act a) xs open_here l e = act-led z again gk h xs g s w open_here frame bounded statics alone built_none a l e
  led (set r a) xs open_here l e =
      set-led z again gk h xs g s w open_here frame bounded statics alone built_none r a (both (nat_lt r z.body.own.bound) (may_set z h a) l).1 e
  led (give r) [] open_here l e = give-led z again gk g s w frame bounded statics r open_here
  led (give r) (x ∷ xs) open_here l e = absurd (let k = e in cc)
  led st xs open_here l e = absurd (let k = e in cc)
