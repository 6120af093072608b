-- All statements of a function, by induction on their tree; and the turns of loops, by the bound of ticks.
use Rattle.std.proofs.Common.{◌≡◌, ℕ, Bool, true, false, ◌&&◌, ◌||◌, ◌==◌, if◌then◌else◌, [], ◌∷◌, refl, sym, ◌∙◌, ap, subst}
use Rattle.std.specs.Prelude.{ℤ, int_le, Option, Some, None}
use Rattle.cf_base.specs.declared.kind.Kind.{Kind}
use Rattle.cf_base.specs.declared.kind.Kind.TheVariants.{Int}
use Rattle.cf_base.specs.Integers.{fits, convert, bits_of}
use Rattle.cf_base.specs.World.{World, Ran, Went}
use Rattle.cf_base.proofs.Tests.{both}
use Rattle.cf_core.specs.Run.{State, Act, when}
use Rattle.cf_plain.specs.Plain.{Plain, Plains, act, set, branch, loop, switch, case_label, default_label, leave, continue, give, parts, nothing, more}
use Rattle.cf_plain.specs.Acts.{Registers}
use Rattle.cf_plain.specs.Running.{Flow, Falls, does, all, has_case, from_case, from_default}
use Rattle.cc_whole.specs.Plain as c_tree
use Rattle.cc_whole.specs.Plain.{Statement}
use Rattle.cc_whole_mean.specs.Flow as c
use Rattle.cc_whole_mean.specs.Mean as mean
use Rattle.cf_lower.specs.Kept.{Keeping, after}
use Rattle.cf_lower.specs.Expressions.{integer_in, zero as nought}
use Rattle.cf_lower.specs.Statements.{block, flag_set, if_flag, stated_all, items, all_lowered}
use Rattle.cf_lower_steps.specs.Flows.{Simulates}
use Rattle.cf_lower_steps.proofs.Branches.{falls-on}
use Rattle.cf_lower_turns.specs.Around.{Around, turns, stepped, step, cases, depth_of, going_on_of, inside_at}
use Rattle.cf_lower_place.specs.Input.{IsInput}
use Rattle.cf_lower_place.specs.InPlace.{labels_fit}
use Rattle.cf_lower_turns.proofs.Following.{sim-here, sim-as}
use Rattle.cf_lower_bounds.proofs.Labels.{number-same, same-label}
use Rattle.cf_lower_bounds.proofs.Leaving.{leave-does, continue-does}
use Rattle.cf_lower_bounds.proofs.Sequence.{then-all, then-items, branches}
use Rattle.cf_lower_bounds.proofs.Setup.{Setup, Runners, ends, Within, Passed, Needs, AllNeed, ItemsNeed, list, lowered_at, all_at, stepped_turn, SameFrom, TurnsAgain, LeavesRun}
use Rattle.cf_lower_bounds.proofs.Switching.{switches}
use Rattle.cf_lower_bounds.proofs.Turning.{plain-loop, step-loop}
use Rattle.cf_lower_bounds.proofs.Written.{from-behind}

either-of : (a b : Bool) → a || b ≡ true → a ≡ false → b ≡ true
either-of true b e h = absurd (let k = h in cc)
either-of false b e h = e

module _ (z : Setup) (m : Runners) (turns_again : TurnsAgain z m) (leaves_run : LeavesRun z m) where
  -- one statement alone, from a point within which it is
  one-within : (p h : z.Point) (around : Around z.Point) (f : Registers → Act Flow) (one : Statement) → Within z p h
      → ((g : Registers) (s : State) (t : c.State) (w : World) → z.R h (depth_of around) g s t → IsInput w.input
      → Simulates (ends z around h) (f g s w) (mean.does m.c_again m.helps m.c_program m.helper one z.scope m.depth t w))
      → SameFrom z m p around h f (λ t w. list z m (one ∷ []) t w)
  one-within p h around f one within same g s t w r i =
      sim-as (ends z around h) (f g s w) (mean.does m.c_again m.helps m.c_program m.helper one z.scope m.depth t w) (list z m (one ∷ []) t w)
      (falls-on (mean.does m.c_again m.helps m.c_program m.helper one z.scope m.depth t w)) (same g s t w (within (depth_of around) g s t r) i)

  -- the contents of a switch, where registers hold this at its labels and this in front of them: all of them, and from a label on
  abbrev contents : Plains → Around z.Point → Keeping → Keeping → c.State → World → Ran c.Flow
  contents ss around k i t w = mean.does_items m.c_again m.helps m.c_program m.helper (items ss (inside_at z.inside around) k i) z.scope m.depth t w

  abbrev jump : Option ℕ → Plains → Around z.Point → Keeping → Keeping → c.State → World → Ran c.Flow
  jump label ss around k i t w = mean.does_from m.c_again m.helps m.c_program m.helper label (items ss (inside_at z.inside around) k i) z.scope m.depth t w

  -- behind a statement that is no label
  from-statement : (label : Option ℕ) (s : Plain) (ss : Plains) (around : Around z.Point) (k : Keeping) (q h : z.Point) → z.kept h ≡ after z.inside.locals s (z.kept q)
      → (t : c.State) (w : World)
      → mean.does_from m.c_again m.helps m.c_program m.helper label
      (stated_all (lowered_at z s around q) (items ss (inside_at z.inside around) k (after z.inside.locals s (z.kept q)))) z.scope m.depth t w
      ≡ jump label ss around k (z.kept h) t w
  from-statement label s ss around k q h kept t w =
      from-behind m.c_again m.helps m.c_program m.grown m.helped m.helper z.scope m.depth label (lowered_at z s around q)
      (items ss (inside_at z.inside around) k (after z.inside.locals s (z.kept q))) t w
      ∙ ap (λ i. jump label ss around k i t w) (sym kept)

  -- at a label: both have it, or both go on to the next
  at-label : (ss : Plains) (around : Around z.Point) (k : Keeping) (p h : z.Point) (y n : ℤ)
      → bits_of 32 (convert Int y) == bits_of 32 (convert Int n) ≡ (int_le y n && int_le n y)
      → (int_le y n && int_le n y ≡ true → SameFrom z m p around h (all m.again m.program ss) (contents ss around k k))
      → (int_le y n && int_le n y ≡ false → SameFrom z m p around h (from_case m.again m.program n ss) (jump (Some (bits_of 32 (convert Int n))) ss around k k))
      → SameFrom z m p around h (λ g. when (int_le y n && int_le n y) (all m.again m.program ss g) (from_case m.again m.program n ss g))
      (λ t w. if bits_of 32 (convert Int y) == bits_of 32 (convert Int n) then contents ss around k k t w else jump (Some (bits_of 32 (convert Int n))) ss around k k t w)
  at-label ss around k p h y n e here later = λ g s t w r input.
      sim-as (ends z around h) _ _ _
      (ap (λ b. if b then contents ss around k k t w else jump (Some (bits_of 32 (convert Int n))) ss around k k t w) e) (by_test g s t w r input (int_le y n && int_le n y) refl)
    where
      by_test : (g : Registers) (s : State) (t : c.State) (w : World) → z.R p (depth_of around) g s t → IsInput w.input → (b : Bool) → int_le y n && int_le n y ≡ b
          → Simulates (ends z around h) (when b (all m.again m.program ss g) (from_case m.again m.program n ss g) s w)
          (if b then contents ss around k k t w else jump (Some (bits_of 32 (convert Int n))) ss around k k t w)
      by_test g s t w r input true i = here i g s t w r input
      by_test g s t w r input false i = later i g s t w r input

  -- registers hold behind a label what they hold at each
  at-kept : (ss : Plains) (around : Around z.Point) (p h : z.Point) (k : Keeping) → z.kept p ≡ k → SameFrom z m p around h (all m.again m.program ss) (contents ss around k (z.kept p))
      → SameFrom z m p around h (all m.again m.program ss) (contents ss around k k)
  at-kept ss around p h k kept same = subst (λ i. SameFrom z m p around h (all m.again m.program ss) (contents ss around k i)) kept same

  -- at a point at which registers hold what they do at another
  at-same : (ss : Plains) (around : Around z.Point) (p h q : z.Point) → z.kept h ≡ z.kept p → SameFrom z m h around q (all m.again m.program ss) (λ t w. list z m (all_at z ss around h) t w)
      → SameFrom z m h around q (all m.again m.program ss) (λ t w. list z m (all_at z ss around p) t w)
  at-same ss around p h q kept same =
      subst (λ k. SameFrom z m h around q (all m.again m.program ss) (λ t w. list z m (all_lowered ss (inside_at z.inside around) k) t w)) kept same

  mutual
    pub statement-same : (s : Plain) (around : Around z.Point) (p q : z.Point) → z.kept q ≡ after z.inside.locals s (z.kept p) → Needs z s around p q
        → SameFrom z m p around q (does m.again m.program s) (λ t w. list z m (lowered_at z s around p) t w)
    statement-same (act a) around p q kept needs = leaves_run around p (act a) q needs
    statement-same (set r a) around p q kept needs = leaves_run around p (set r a) q needs
    statement-same (branch r ss ts) around p q kept needs = λ g s t w k i.
        let two = needs.1 in
        branches z m around r ss ts p q two.if_set two.if_unset needs.0 (two.enters_set (depth_of around)) (two.enters_unset (depth_of around))
        (at-same ss around p two.if_set q two.kept_set (list-same ss around two.if_set q two.first))
        (at-same ts around p two.if_unset q two.kept_unset (list-same ts around two.if_unset q two.second)) g s t w k i
    statement-same (loop ss nothing) around p q kept needs =
        subst (λ k. SameFrom z m p around q (does m.again m.program (loop ss nothing))
        (λ t w. list z m (c_tree.loop (block (all_lowered ss (inside_at z.inside (turns q around)) k)) ∷ []) t w)) kept
        (one-within p q around (does m.again m.program (loop ss nothing)) (c_tree.loop (block (all_at z ss (turns q around) q))) needs.0
        (plain-loop z m around q ss (turns_again ss nothing around q needs.1) (list-same ss (turns q around) q q needs.1)))
    statement-same (loop ss ts) around p q kept needs =
        subst (λ k. SameFrom z m p around q (does m.again m.program (loop ss ts))
        (λ t w. list z m (c_tree.loop (block
        (flag_set (depth_of around) 0
        ∷ c_tree.select nought (c_tree.otherwise (stated_all (all_lowered ss (inside_at z.inside (stepped q around)) k) c_tree.closed))
        ∷ if_flag (depth_of around) (c_tree.leave ∷ [])
        ∷ all_lowered ts (inside_at z.inside (step q around)) k)) ∷ []) t w)) kept
        (one-within p q around (does m.again m.program (loop ss ts)) (c_tree.loop (block (stepped_turn z ss ts around q))) needs.0
        (step-loop z m around q ss ts (turns_again ss ts around q needs.1) needs.1.0 (list-same ss (stepped q around) q q needs.1.1.0)
        (list-same ts (step q around) q q needs.1.1.1)))
    statement-same (switch r ss) around p q kept needs =
        let into = needs.1.1 in
        subst (λ k. SameFrom z m p around q (does m.again m.program (switch r ss))
        (λ t w. list z m (flag_set (depth_of around) 0
        ∷ c_tree.select (integer_in r) (items ss (inside_at z.inside (cases q around)) k k)
        ∷ if_flag (depth_of around) (going_on_of around) ∷ []) t w)) kept
        (switches z m around r ss p q needs.0 needs.1.0 into.labels into.enters (z.kept q)
        (λ n fit there. subst (λ k. SameFrom z m (into.labels (Some n)) (cases q around) q (from_case m.again m.program n ss)
        (jump (Some (bits_of 32 (convert Int n))) ss (cases q around) (z.kept q) k)) into.kept_front
        (case-same ss (cases q around) q into.labels into.kept_at into.front needs.0.kind n fit needs.0.labels there into.items))
        (subst (λ k. SameFrom z m (into.labels None) (cases q around) q (from_default m.again m.program ss) (jump None ss (cases q around) (z.kept q) k)) into.kept_front
        (default-same ss (cases q around) q into.labels into.kept_at into.front into.items into.passed)))
    statement-same (case_label y) around p q kept needs = absurd needs
    statement-same default_label around p q kept needs = absurd needs
    statement-same leave around p q kept needs = λ g s t w k i. leave-does z m around p q needs g s t w k
    statement-same continue around p q kept needs = λ g s t w k i. continue-does z m around p q needs g s t w k
    statement-same (give r) around p q kept needs = leaves_run around p (give r) q needs
    statement-same (parts ps) around p q kept needs = absurd needs

    pub list-same : (ss : Plains) (around : Around z.Point) (p q : z.Point) → AllNeed z ss around p q
        → SameFrom z m p around q (all m.again m.program ss) (λ t w. list z m (all_at z ss around p) t w)
    list-same nothing around p q needs = λ g s t w k i.
        sim-here (ends z around q) (Falls g) s w (Went (c.Falls t) w) (c.Falls t) refl
        (record { after = t; is = refl; related = needs (depth_of around) g s t k })
    list-same (more s ss) around p q needs =
        then-all z m around s ss p needs.point q needs.kept_there (statement-same s around p needs.point needs.kept_there needs.first)
        (list-same ss around needs.point q needs.second)

    -- what stands behind a label
    items-same : (ss : Plains) (around : Around z.Point) (h : z.Point) (labels : Option ℤ → z.Point) → ((l : Option ℤ) → z.kept (labels l) ≡ z.kept h) → (q : z.Point)
        → ItemsNeed z ss around labels q h → SameFrom z m q around h (all m.again m.program ss) (contents ss around (z.kept h) (z.kept q))
    items-same nothing around h labels kept_at q needs = λ g s t w k i.
        sim-here (ends z around h) (Falls g) s w (Went (c.Falls t) w) (c.Falls t) refl
        (record { after = t; is = refl; related = needs (depth_of around) g s t k })
    items-same (more (case_label y) ss) around h labels kept_at q needs = λ g s t w k i.
        at-kept ss around (labels (Some y)) h (z.kept h) (kept_at (Some y)) (items-same ss around h labels kept_at (labels (Some y)) needs.1) g s t w (needs.0 (depth_of around) g s t k) i
    items-same (more default_label ss) around h labels kept_at q needs = λ g s t w k i.
        at-kept ss around (labels None) h (z.kept h) (kept_at None) (items-same ss around h labels kept_at (labels None) needs.1) g s t w (needs.0 (depth_of around) g s t k) i
    items-same (more s ss) around h labels kept_at q needs =
        then-items z m around s ss (z.kept h) q needs.point h needs.kept_there (statement-same s around q needs.point needs.kept_there needs.first)
        (items-same ss around h labels kept_at needs.point needs.second)

    -- the statements behind a label of this number
    case-same : (ss : Plains) (around : Around z.Point) (h : z.Point) (labels : Option ℤ → z.Point) → ((l : Option ℤ) → z.kept (labels l) ≡ z.kept h) → (q : z.Point) (k : Kind) (n : ℤ)
        → fits k n ≡ true → labels_fit k ss ≡ true → has_case n ss ≡ true → ItemsNeed z ss around labels q h
        → SameFrom z m (labels (Some n)) around h (from_case m.again m.program n ss) (jump (Some (bits_of 32 (convert Int n))) ss around (z.kept h) (z.kept q))
    case-same nothing around h labels kept_at q k n fit one_kind there needs = absurd (let i = there in cc)
    case-same (more (case_label y) ss) around h labels kept_at q k n fit one_kind there needs =
        let two = both (fits k y) (labels_fit k ss) one_kind in
        at-label ss around (z.kept h) (labels (Some n)) h y n (same-label k y n two.0 fit)
        (λ e. subst (λ i. SameFrom z m (labels (Some i)) around h (all m.again m.program ss) (contents ss around (z.kept h) (z.kept h))) (number-same y n e)
        (at-kept ss around (labels (Some y)) h (z.kept h) (kept_at (Some y)) (items-same ss around h labels kept_at (labels (Some y)) needs.1)))
        (λ e. subst (λ i. SameFrom z m (labels (Some n)) around h (from_case m.again m.program n ss) (jump (Some (bits_of 32 (convert Int n))) ss around (z.kept h) i)) (kept_at (Some y))
        (case-same ss around h labels kept_at (labels (Some y)) k n fit two.1 (either-of (int_le y n && int_le n y) (has_case n ss) there e) needs.1))
    case-same (more default_label ss) around h labels kept_at q k n fit one_kind there needs =
        subst (λ i. SameFrom z m (labels (Some n)) around h (from_case m.again m.program n ss) (jump (Some (bits_of 32 (convert Int n))) ss around (z.kept h) i)) (kept_at None)
        (case-same ss around h labels kept_at (labels None) k n fit one_kind there needs.1)
    case-same (more s ss) around h labels kept_at q k n fit one_kind there needs = λ g st t w r i.
        sim-as (ends z around h) _ _ _ (from-statement (Some (bits_of 32 (convert Int n))) s ss around (z.kept h) q needs.point needs.kept_there t w)
        (case-same ss around h labels kept_at needs.point k n fit one_kind there needs.second g st t w r i)

    default-same : (ss : Plains) (around : Around z.Point) (h : z.Point) (labels : Option ℤ → z.Point) → ((l : Option ℤ) → z.kept (labels l) ≡ z.kept h) → (q : z.Point)
        → ItemsNeed z ss around labels q h → Passed z ss (labels None) h
        → SameFrom z m (labels None) around h (from_default m.again m.program ss) (jump None ss around (z.kept h) (z.kept q))
    default-same nothing around h labels kept_at q needs passed = λ g s t w r i.
        sim-here (ends z around h) (Falls g) s w (Went (c.Falls t) w) (c.Falls t) refl
        (record { after = t; is = refl; related = passed (depth_of around) g s t r })
    default-same (more (case_label y) ss) around h labels kept_at q needs passed =
        subst (λ i. SameFrom z m (labels None) around h (from_default m.again m.program ss) (jump None ss around (z.kept h) i)) (kept_at (Some y))
        (default-same ss around h labels kept_at (labels (Some y)) needs.1 passed)
    default-same (more default_label ss) around h labels kept_at q needs passed =
        at-kept ss around (labels None) h (z.kept h) (kept_at None) (items-same ss around h labels kept_at (labels None) needs.1)
    default-same (more s ss) around h labels kept_at q needs passed = λ g st t w r i.
        sim-as (ends z around h) _ _ _ (from-statement None s ss around (z.kept h) q needs.point needs.kept_there t w)
        (default-same ss around h labels kept_at needs.point needs.second passed g st t w r i)
