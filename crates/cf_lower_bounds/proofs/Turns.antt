-- The turns of loops, by the bound of ticks, up to one.
use Rattle.std.proofs.Common.{ℕ, zero, suc, ◌≤◌, refl, subst, sym, arith}
use Rattle.cf_base.specs.World.{World}
use Rattle.cf_core.specs.Store.{Value}
use Rattle.cf_core.specs.Run.{State}
use Rattle.cf_plain.specs.Plain.{Plains, loop, nothing, more}
use Rattle.cf_plain.specs.Acts.{Registers}
use Rattle.cf_plain.specs.Running.{does, all}
use Rattle.cc_whole_mean.specs.Flow as c
use Rattle.cc_whole_mean.specs.Mean as mean
use Rattle.cc_whole_mean.proofs.Growth.{grows-runs, grows-helps}
use Rattle.cf_lower.specs.Statements.{all_lowered}
use Rattle.cf_lower_turns.specs.ControlLoops.{IsReturn}
use Rattle.cf_lower_steps.specs.Flows.{Simulates}
use Rattle.cf_lower_turns.specs.Around.{Around, turns, stepped, step, depth_of, inside_at}
use Rattle.cf_lower_turns.specs.Scene.{Scene, again_at, c_again_at, helps_at, list_at}
use Rattle.cf_lower_place.specs.Input.{IsInput}
use Rattle.cf_lower_bounds.proofs.Inputs.{takes-helps, takes-runs}
use Rattle.cf_lower_bounds.specs.Points.{Point, At, Returned}
use Rattle.cf_lower_bounds.specs.Bounds.{SameAt, LeafRunsTo, NeededTo}
use Rattle.cf_lower_bounds.proofs.Setup.{Setup, Runners, LoopNeeds, TurnsAgain, LeavesRun, loop_of, ends}
use Rattle.cf_lower_bounds.proofs.Standing.{at-laws}
use Rattle.cf_lower_bounds.proofs.Turning.{plain-loop, step-loop}
use Rattle.cf_lower_bounds.proofs.Whole.{list-same}

module _ (z : Scene) (n : ℕ) where
  returned : (v : Value) (s : State) (flow : c.Flow) → Returned z v s flow → IsReturn flow
  returned v s flow h = subst IsReturn (sym h.back.is) tt

  abbrev setup : Setup
  setup = record {
    Point = Point;
    kept = λ (p : Point). p.kept;
    flags = z.body.flags.bound;
    Leaf = LeafRunsTo z n;
    scope = z.body.scope;
    R = At z;
    gives = Returned z;
    inside = z.inside;
    laws = at-laws z;
    returns = returned;
  }

  abbrev runners : ℕ → Runners
  runners k = record {
    again = again_at z k;
    program = z.program;
    c_again = c_again_at z k;
    helps = helps_at z k;
    c_program = z.c_program;
    helper = z.helper;
    depth = z.depth;
    grown = grows-runs z.c_program k;
    helped = grows-helps z.c_program (mean.runs z.c_program k) (grows-runs z.c_program k) z.helper;
    left = takes-runs z.c_program k;
    left_helps = takes-helps z.c_program (mean.runs z.c_program k) (takes-runs z.c_program k) z.helper;
  }

  leaves-run : (k : ℕ) → k ≤ n → LeavesRun setup (runners k)
  leaves-run k le around p s q leaf = leaf k le

  turn-of : (k : ℕ) → k ≤ n → TurnsAgain setup (runners k) → (ss ts : Plains) (around : Around Point) (h : Point) → LoopNeeds setup ss ts around h
      → (g : Registers) (s : State) (t : c.State) (w : World) → At z h (depth_of around) g s t → IsInput w.input
      → Simulates (ends setup around h) (does (again_at z k) z.program (loop ss ts) g s w)
      (mean.does (c_again_at z k) (helps_at z k) z.c_program z.helper (loop_of setup ss ts around h) z.body.scope z.depth t w)
  turn-of k le again ss nothing around h needs =
      plain-loop setup (runners k) around h ss (again ss nothing around h needs)
      (list-same setup (runners k) again (leaves-run k le) ss (turns h around) h h needs)
  turn-of k le again ss (more t1 ts) around h needs =
      step-loop setup (runners k) around h ss (more t1 ts) (again ss (more t1 ts) around h needs) needs.0
      (list-same setup (runners k) again (leaves-run k le) ss (stepped h around) h h needs.1.0)
      (list-same setup (runners k) again (leaves-run k le) (more t1 ts) (step h around) h h needs.1.1)

  turns-again : (k : ℕ) → k ≤ n → TurnsAgain setup (runners k)
  turns-again zero le ss ts around h needs g s t w r i = record { by = refl }
  turns-again (suc k) le ss ts around h needs g s t w r i =
      let less : k ≤ n = omega (arith, le) in
      turn-of k less (turns-again k less) ss ts around h needs g s t w r i

  pub statements-to : (ss : Plains) (around : Around Point) (p q : Point) → NeededTo z n ss around p q
      → SameAt z p around q (all (again_at z n) z.program ss) (λ t w. list_at z n (all_lowered ss (inside_at z.inside around) p.kept) t w)
  statements-to ss around p q needed =
      let itself : n ≤ n = omega arith in
      list-same setup (runners n) (turns-again n itself) (leaves-run n itself) ss around p q needed
