-- Locals that begin and end.
use Rattle.std.proofs.Common.{◌≡◌, ℕ, ◌<◌, ◌⊎◌, inr, Bool, true, false, ◌&&◌, ◌==◌, nat_lt, if◌then◌else◌, [], ◌∷◌, refl, sym, ◌∙◌, ap, subst, arith}
use Rattle.std.specs.Prelude.{List, Option, Some, None, length}
use Rattle.std.proofs.lemmas.Bool.Decides.{nat_tests}
use Rattle.cf_base.specs.World.{World, Went, and_then}
use Rattle.cf_core.specs.Types.{SourceType, const, without_const}
use Rattle.cf_core.specs.Places.{is_scalar}
use Rattle.cf_core.specs.Store as source
use Rattle.cf_core.specs.Run.{State, Gives, onward, gone, with_object, lists_local, ◌>>=◌, ◌>>◌, gives, valid, declared_object, frame_changed, object_changed}
use Rattle.cf_core.specs.Calls.{root}
use Rattle.cf_lower_layout.specs.Layout.{LaidOut, has_bytes}
use Rattle.cf_lower_layout.specs.Sorts.{address}
use Rattle.cf_plain.specs.Plain as plain
use Rattle.cf_plain.specs.Plain.{Register, act, set}
use Rattle.cf_plain.specs.Acts.{Registers, doing, end_local}
use Rattle.cf_plain.specs.Running.{Flow, Falls, calls, does, keep as keep_value}
use Rattle.cc_whole.specs.Plain as c_tree
use Rattle.cc_whole.specs.Plain.{Statement}
use Rattle.cc_whole_mean.specs.Flow as c
use Rattle.cf_lower_relate.specs.Map.{Map, Stage, hidden, shown, ended as over, is_ended, is_hidden, without}
use Rattle.cf_lower_relate.proofs.Births.{grows-without}
use Rattle.cf_lower_relate.proofs.Objects.{upd-same, upd-other, below-apart}
use Rattle.cf_lower.specs.Kept.{holds, argument, Keeping, keep, declared_kept, is_argument, type_of_local, local_kept, after}
use Rattle.cf_lower.specs.Written.{local_name}
use Rattle.cf_lower.specs.Statements.{lowered, put_in}
use Rattle.cf_lower_steps.specs.Flows.{Simulates}
use Rattle.cf_lower_steps.specs.Moment.{Moment}
use Rattle.cf_lower_turns.specs.Around.{Around, depth_of, inside_at}
use Rattle.cf_lower_turns.specs.Here.{Still, InLocal, Homes, HiddenArguments, Here}
use Rattle.cf_lower_turns.specs.Texts.{Free}
use Rattle.cf_lower_turns.specs.Ways.{ends}
use Rattle.cf_lower_turns.specs.Scene.{GivesBack, Scene, fixed_in, again_at, list_at}
use Rattle.cf_lower_turns.proofs.Following.{sim-here}
use Rattle.cf_lower_leaves.proofs.Setting.{set-step}
use Rattle.cf_lower_objects.proofs.Declaring as declaring
use Rattle.cf_lower_objects.proofs.Finishing as finishing
use Rattle.cf_lower_actions.specs.Fits.{Fits}
use Rattle.cf_lower_actions.specs.Leaf.{IsOver}
use Rattle.cf_lower_actions.proofs.Moments.{moment, stands}
use Rattle.cf_lower_actions.proofs.Runs.{here-grown, here-silent}

some-same : {i j : ℕ} → Some i ≡ Some j → i ≡ j
some-same e = cc

true-false : {b : Bool} → b ≡ true → b ≡ false → ⊥
true-false h k = absurd (cc)

scalar-const : (t : SourceType) → is_scalar t ≡ is_scalar (without_const t)
scalar-const (const t) = scalar-const t
scalar-const t = refl

hidden-live : (st : Stage) → is_hidden st ≡ true → is_ended st ≡ false
hidden-live hidden h = refl
hidden-live shown h = absurd (cc)
hidden-live over h = absurd (cc)

module _ (z : Scene) (fits : Fits z) (around : Around Keeping) (p : Keeping) (n : ℕ) (g : Registers) (s : State) (t : c.State) (w : World)
    (h : Here (fixed_in z) z.body p (depth_of around) g s t) where
  abbrev S : Keeping → Flow → State → c.Flow → Type 0
  S q = ends Keeping z.body.scope (Here (fixed_in z) z.body) (GivesBack (fixed_in z) z.body z.result) around q

  abbrev at : Moment
  at = moment z around p n g s t w h

  -- ---- a local begins

  module _ (i : ℕ) (y : SourceType) (lt : i < length z.body.own.locals.types) (typed : without_const y ≡ without_const (type_of_local z.body.own.locals i))
      (laid : LaidOut z.program.classes y) (over : IsOver s i) where
    -- its objects of before have ended in the map too
    ended : (o : ℕ) → s.frame.locals i ≡ Some o → is_ended (h.map.stage o) ≡ true
    ended o e = sym (h.between.rel.gone o (h.between.locals.objects i o lt e).known) ∙ over o e

    module _ (st : Stage) (live_now : is_ended st ≡ false) (seen : is_argument z.body.own.locals i && is_scalar (type_of_local z.body.own.locals i) ≡ false → is_hidden st ≡ false)
        (unpointed : is_argument z.body.own.locals i && is_scalar (type_of_local z.body.own.locals i) ≡ true → is_hidden st ≡ true) where
      abbrev G : Map
      G = declaring.G at (stands z around p n g s t w h fits) i y lt typed laid ended st live_now seen

      abbrev behind : State
      behind = declaring.born_state at (stands z around p n g s t w h fits) i y lt typed laid ended st live_now seen

      -- a block in which the object does not come to stand
      known : (o : ℕ) → o < G.count → o == s.next ≡ false → o < h.map.count
      known o lo e = let c = h.between.rel.count in grind (arith, nat_tests, e, lo, c)

      elsewhere : (o b : ℕ) → o < G.count → is_ended (G.stage o) ≡ false → G.block o ≡ b → (z.body.own.local i ≡ b → ⊥)
          → (o < h.map.count → is_ended (h.map.stage o) ≡ false → h.map.block o ≡ b → ⊥) → ⊥
      elsewhere o b lo live e new old = by_test (o == s.next) refl
        where
          by_test : (q : Bool) → o == s.next ≡ q → ⊥
          by_test true q = new (sym (ap (λ (x : Bool). if x then z.body.own.local i else h.map.block o) q) ∙ e)
          by_test false q =
              old (known o lo q) (sym (ap is_ended (upd-other s.next o st h.map.stage q)) ∙ live) (sym (upd-other s.next o (z.body.own.local i) h.map.block q) ∙ e)

      -- what nothing pointed to stands as it did
      still : (o : ℕ) → o < z.body.start.count → is_hidden (z.body.start.stage o) ≡ true → Still z.body.start h.map o → Still z.body.start G o
      still o lo hid x =
          let other : o == s.next ≡ false = below-apart s.next o (let c = h.between.rel.count in let m = h.grows.count in omega (arith, lo, c, m)) in
          record {
            stage = upd-other s.next o st h.map.stage other ∙ x.stage;
            block = upd-other s.next o (z.body.own.local i) h.map.block other ∙ x.block;
            base = upd-other s.next o 0 h.map.base other ∙ x.base;
          }

      homes : Homes z.body G
      homes o lo live = by_test (o == s.next) refl
        where
          by_test : (q : Bool) → o == s.next ≡ q → (G.block o < z.body.first.next) ⊎ InLocal z.body (G.block o)
          by_test true q = inr (record { local = i; there = lt; is = ap (λ (x : Bool). if x then z.body.own.local i else h.map.block o) q })
          by_test false q =
              subst (λ b. (b < z.body.first.next) ⊎ InLocal z.body b) (sym (upd-other s.next o (z.body.own.local i) h.map.block q))
              (h.homes o (known o lo q) (sym (ap is_ended (upd-other s.next o st h.map.stage q)) ∙ live))

      -- an argument's object is one that nothing points to
      arguments : HiddenArguments z.body.own G behind
      arguments k o lk a e live = by_local (k == i) refl
        where
          old_one : s.frame.locals k ≡ Some o → is_hidden (G.stage o) ≡ true
          old_one there =
              let other : o == s.next ≡ false =
              below-apart s.next o (let c = h.between.rel.count in let m = (h.between.locals.objects k o lk there).known in omega (arith, c, m)) in
              ap is_hidden (upd-other s.next o st h.map.stage other)
              ∙ h.arguments k o lk a there (sym (ap is_ended (upd-other s.next o st h.map.stage other)) ∙ live)

          by_local : (q : Bool) → k == i ≡ q → is_hidden (G.stage o) ≡ true
          by_local true q =
              let same : k ≡ i = grind (arith, nat_tests, q) in
              let number : s.next ≡ o = some-same (sym (ap (λ (b : Bool). if b then Some s.next else s.frame.locals k) q) ∙ e) in
              ap (λ m. is_hidden (G.stage m)) (sym number) ∙ ap is_hidden (upd-same s.next st h.map.stage)
              ∙ unpointed (ap (λ m. is_argument z.body.own.locals m && is_scalar (type_of_local z.body.own.locals m)) (sym same) ∙ a)
          by_local false q = old_one (sym (upd-other i k (Some s.next) s.frame.locals q) ∙ e)

      abbrev here-born : Here (fixed_in z) z.body p (depth_of around) g behind t
      here-born = here-grown (fixed_in z) z.body p p (depth_of around) g g s behind t h G
          (declaring.grows at (stands z around p n g s t w h fits) i y lt typed laid ended st live_now seen)
          (declaring.between-new at (stands z around p n g s t w h fits) i y lt typed laid ended st live_now seen) h.below
          (λ e o le lo live k. elsewhere o (z.body.flags.block e) lo live k (h.flags_there.locals e i le lt) (λ lm lv m. h.flags_there.free e o le lm lv m))
          (λ b lb free o lo live k. elsewhere o b lo live k (λ m. let later = h.later.locals i lt in omega (arith, lb, later, m)) (λ lm lv m. free o lm lv m))
          refl still homes arguments

      -- the declaration, whose place goes to a register or is dropped
      declared-then : (S' : Flow → State → c.Flow → Type 0) (go : source.Value → Flow) (ss : List Statement)
          → Simulates S' (Went (Gives (go (source.At (root s.next))) behind) w) (list_at z n ss t w)
          → (b : Bool) → Simulates S'
          (((valid b >> (declared_object y >>= (λ o. frame_changed (lists_local i o) >> gives o))) >>= (λ o. gives (source.At (root o))) >>= (λ v. gives (go v))) s w)
          (list_at z n ss t w)
      declared-then S' go ss there true = there
      declared-then S' go ss there false = record { by = tt }

      -- nothing is kept of it
      pub declare-done : Simulates (S p) (does (again_at z n) z.program (act (plain.declare i y)) g s w)
          (list_at z n (lowered (act (plain.declare i y)) (inside_at z.inside around) p) t w)
      declare-done = declared-then (S p) (λ v. Falls g) []
          (sim-here (S p) (Falls g) behind w (list_at z n [] t w) (c.Falls t) refl (record { after = t; is = refl; related = here-born })) (nat_lt i s.frame.count)

    -- a local of the function: the register has the address of the C local
    module _ (visible : is_argument z.body.own.locals i && is_scalar y ≡ false) where
      pub never : is_argument z.body.own.locals i && is_scalar (type_of_local z.body.own.locals i) ≡ true → is_hidden shown ≡ true
      never v = absurd (true-false (ap (λ b. is_argument z.body.own.locals i && b) (scalar-const y ∙ ap is_scalar typed ∙ sym (scalar-const (type_of_local z.body.own.locals i))) ∙ v) visible)

      kept-here : declared_kept z.inside.locals i y ≡ holds (address (without_const y))
      kept-here = declaring.kept-here at (stands z around p n g s t w h fits) i y lt typed laid ended visible

      pub declare-set : (r : Register) → r < z.body.own.bound
          → Simulates (S (after z.inside.locals (set r (plain.declare i y)) p)) (does (again_at z n) z.program (set r (plain.declare i y)) g s w)
          (list_at z n (lowered (set r (plain.declare i y)) (inside_at z.inside around) p) t w)
      declare-set r lr =
          subst (λ k. Simulates (S (keep p r k)) (does (again_at z n) z.program (set r (plain.declare i y)) g s w)
          (list_at z n (put_in (inside_at z.inside around) (local_kept k) r (c_tree.address (local_name i))) t w)) (sym kept-here)
          (declared-then shown refl (λ v. refl) never (S (keep p r (holds (address (without_const y))))) (λ v. Falls (keep_value g r v))
          (put_in (inside_at z.inside around) (Some (address (without_const y))) r (c_tree.address (local_name i)))
          (set-step z n around p (keep p r (holds (address (without_const y)))) g (behind shown refl (λ v. refl) never) t w (here-born shown refl (λ v. refl) never)
          (holds (address (without_const y))) (address (without_const y)) r lr refl
          (c_tree.address (local_name i)) refl refl (Went (Gives (source.At (root s.next)) (behind shown refl (λ v. refl) never)) w)
          (record { by = (refl, refl, declaring.given-new at (stands z around p n g s t w h fits) i y lt typed laid ended shown refl (λ v. refl) refl) }))
          (nat_lt i s.frame.count))

    -- the object of a parameter of a call: nothing points to it before the function is entered
    module _ (of_call : is_argument z.body.own.locals i && is_scalar y ≡ true) where
      argument-here : declared_kept z.inside.locals i y ≡ argument i y
      argument-here =
          ap (λ l. declared_kept l i y) fits.locals ∙ ap (λ (q : Bool). if q then argument i y else holds (address (without_const y))) of_call

      pub unseen : is_argument z.body.own.locals i && is_scalar (type_of_local z.body.own.locals i) ≡ false → is_hidden hidden ≡ false
      unseen v =
          absurd (true-false (ap (λ b. is_argument z.body.own.locals i && b) (sym (scalar-const y ∙ ap is_scalar typed ∙ sym (scalar-const (type_of_local z.body.own.locals i)))) ∙ of_call) v)

      pub argument-set : (r : Register) → Simulates (S (after z.inside.locals (set r (plain.declare i y)) p)) (does (again_at z n) z.program (set r (plain.declare i y)) g s w)
          (list_at z n (lowered (set r (plain.declare i y)) (inside_at z.inside around) p) t w)
      argument-set r =
          subst (λ k. Simulates (S (keep p r k)) (does (again_at z n) z.program (set r (plain.declare i y)) g s w)
          (list_at z n (put_in (inside_at z.inside around) (local_kept k) r (c_tree.address (local_name i))) t w)) (sym argument-here)
          (declared-then hidden refl unseen (λ v. refl) (S (keep p r (argument i y))) (λ v. Falls (keep_value g r v)) []
          (sim-here (S (keep p r (argument i y))) (Falls (keep_value g r (source.At (root s.next)))) (behind hidden refl unseen (λ v. refl)) w (list_at z n [] t w) (c.Falls t) refl
          (record {
            after = t;
            is = refl;
            related = here-silent (fixed_in z) z.body p (depth_of around) g (behind hidden refl unseen (λ v. refl)) t (here-born hidden refl unseen (λ v. refl)) (argument i y) refl r (source.At (root s.next));
          })) (nat_lt i s.frame.count))

  -- ---- the storage of a local ends

  module _ (i : ℕ) (y : SourceType) (lt : i < length z.body.own.locals.types) (some : has_bytes y ≡ true) where
    -- it is none of those that nothing pointed to as the function was entered
    still-there : (k : ℕ) → s.frame.locals i ≡ Some k → (o : ℕ) → o < z.body.start.count → is_hidden (z.body.start.stage o) ≡ true → Still z.body.start h.map o
        → Still z.body.start (without k h.map) o
    still-there k e o lo hid x = by_test (o == k) refl
      where
        by_test : (b : Bool) → o == k ≡ b → Still z.body.start (without k h.map) o
        by_test false q = record { stage = upd-other k o over h.map.stage q ∙ x.stage; block = x.block; base = x.base }
        by_test true q =
            let same : o ≡ k = grind (arith, nat_tests, q) in
            let a = h.between.locals.objects i k lt e in
            let live : is_ended (h.map.stage k) ≡ false = ap (λ j. is_ended (h.map.stage j)) (sym same) ∙ ap is_ended x.stage ∙ hidden-live (z.body.start.stage o) hid in
            let block : h.map.block k ≡ z.body.start.block o = ap h.map.block (sym same) ∙ x.block in
            let here = a.block live in
            let before = h.outer.before o lo hid in
            let later = h.later.locals i lt in
            absurd (omega (arith, block, here, before, later))

    unpointed-there : (o j k : ℕ) → j < length z.body.own.locals.types → is_argument z.body.own.locals j && is_scalar (type_of_local z.body.own.locals j) ≡ true
        → s.frame.locals j ≡ Some k → is_ended ((without o h.map).stage k) ≡ false → (b : Bool) → k == o ≡ b → is_hidden ((without o h.map).stage k) ≡ true
    unpointed-there o j k lj a there live true q = absurd (true-false (ap (λ (b : Bool). is_ended (if b then over else h.map.stage k)) q) live)
    unpointed-there o j k lj a there live false q =
        ap is_hidden (upd-other o k over h.map.stage q) ∙ h.arguments j k lj a there (sym (ap is_ended (upd-other o k over h.map.stage q)) ∙ live)

    here-ended : (o : ℕ) → s.frame.locals i ≡ Some o → Here (fixed_in z) z.body p (depth_of around) g (with_object o gone s) t
    here-ended o e = here-grown (fixed_in z) z.body p p (depth_of around) g g s (with_object o gone s) t h (without o h.map) (grows-without h.map o)
        (finishing.between-ended at (stands z around p n g s t w h fits) i y some o) h.below
        (λ e k le lk live m. h.flags_there.free e k le lk (finishing.live-before at (stands z around p n g s t w h fits) i y some o k live) m)
        (λ b lb free k lk live m. free k lk (finishing.live-before at (stands z around p n g s t w h fits) i y some o k live) m)
        refl (λ k lk hid x. still-there o e k lk hid x)
        (λ k lk live. h.homes k lk (finishing.live-before at (stands z around p n g s t w h fits) i y some o k live))
        (λ j k lj a there live. unpointed-there o j k lj a there live (k == o) refl)

    pub finish-done : Simulates (S p) (does (again_at z n) z.program (act (plain.finish y i)) g s w)
        (list_at z n (lowered (act (plain.finish y i)) (inside_at z.inside around) p) t w)
    finish-done = by_local (s.frame.locals i) refl
      where
        by_local : (x : Option ℕ) → s.frame.locals i ≡ x
            → Simulates (S p)
            ((end_local (calls (again_at z n)) z.program y x >> gives (Falls g)) s w)
            (list_at z n [] t w)
        by_local None e =
            sim-here (S p) (Falls g) s w (list_at z n [] t w) (c.Falls t) refl (record { after = t; is = refl; related = h })
        by_local (Some o) e =
            subst (λ ran. Simulates (S p)
            (and_then
            (and_then ran (λ did w. onward did (λ u. doing (object_changed o gone)) w))
            (λ did w. onward did (λ u. gives (Falls g)) w)) (list_at z n [] t w))
            (sym (finishing.destroyed (calls (again_at z n)) z.program y (root o) s w some))
            (sim-here (S p) (Falls g) (with_object o gone s) w (list_at z n [] t w) (c.Falls t) refl (record { after = t; is = refl; related = here-ended o e }))
