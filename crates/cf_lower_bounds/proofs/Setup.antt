-- A function of both programs for the proofs on loops and switches: its points and what relates both there, and how what spends a tick runs.
use Rattle.std.specs.Prelude.{ℕ, Bool, List, [], ◌∷◌, ℤ, Option}
use Rattle.cf_base.specs.World.{World, Ran}
use Rattle.cf_core.specs.Store.{Value}
use Rattle.cf_core.specs.Run.{State, Act}
use Rattle.cf_core.specs.Calls.{Program}
use Rattle.cf_plain.specs.Plain.{Plain, Plains, nothing}
use Rattle.cf_plain.specs.Acts.{Registers}
use Rattle.cf_plain.specs.Running as plain
use Rattle.cf_plain.specs.Running.{Flow, turn}
use Rattle.cc_whole.specs.Plain as c_tree
use Rattle.cc_whole.specs.Plain.{Statement}
use Rattle.cc_whole_mean.specs.Scope.{Scope}
use Rattle.cc_whole_mean.specs.Flow as c
use Rattle.cc_whole_mean.specs.Mean as mean
use Rattle.cc_whole_mean.proofs.Growth.{GrowsAgain}
use Rattle.cf_lower.specs.Kept.{Keeping, after}
use Rattle.cf_lower.specs.Expressions.{zero as nought}
use Rattle.cf_lower.specs.Statements.{Inside, block, flag_set, if_flag, stated_all, lowered, all_lowered}
use Rattle.cf_lower_turns.specs.ControlLoops.{IsReturn}
use Rattle.cf_lower_steps.specs.Flows.{Simulates, Ways}
use Rattle.cf_lower_steps.specs.Lowering.{runs}
use Rattle.cf_lower_turns.specs.Around.{Around, turns, stepped, step, depth_of, inside_at}
use Rattle.cf_lower_turns.specs.Ways.{Relation, Giving}
use Rattle.cf_lower_turns.specs.Ways as ways
use Rattle.cf_lower_bounds.specs.Needs as needs
use Rattle.cf_lower_place.specs.Input.{IsInput}
use Rattle.cf_lower_bounds.proofs.Inputs.{TakesAgain}
use Rattle.cf_lower_bounds.proofs.Laws.{Laws}

pub record Setup : Type 1 where
  pub Point : Type 0
  pub kept : Point → Keeping
  pub flags : ℕ
  pub Leaf : Around Point → Point → Plain → Point → Type 0
  pub scope : Scope
  pub R : Relation Point
  pub gives : Giving
  pub inside : Inside
  pub laws : Laws Point kept flags scope R
  pub returns : (v : Value) (s : State) (flow : c.Flow) → gives v s flow → IsReturn flow

pub record Runners : Type 0 where
  pub again : plain.Again
  pub program : Program
  pub c_again : mean.Again
  pub helps : mean.Again
  pub c_program : mean.Program
  pub helper : Bool
  pub depth : ℕ
  pub grown : GrowsAgain c_again
  pub helped : GrowsAgain helps
  pub left : TakesAgain c_again
  pub left_helps : TakesAgain helps

module _ (z : Setup) where
  abbrev pub ways_of : Around z.Point → Ways
  ways_of around = ways.ways_of z.Point z.scope z.R z.gives around

  abbrev pub ends : Around z.Point → z.Point → Ways
  ends around p = ways.ends z.Point z.scope z.R z.gives around p

  abbrev pub after_in : Plain → Keeping → Keeping
  after_in s k = after z.inside.locals s k

  abbrev pub Within : z.Point → z.Point → Type 0
  Within p q = needs.Within z.Point z.kept after_in z.R z.flags z.Leaf p q

  abbrev pub WithinIf : z.Point → Option z.Point → Type 0
  WithinIf p o = needs.WithinIf z.Point z.kept after_in z.R z.flags z.Leaf p o

  abbrev pub Passed : Plains → z.Point → z.Point → Type 0
  Passed ss p q = needs.Passed z.Point z.kept after_in z.R z.flags z.Leaf ss p q

  abbrev pub Needs : Plain → Around z.Point → z.Point → z.Point → Type 0
  Needs s around p q = needs.Needs z.Point z.kept after_in z.R z.flags z.Leaf s around p q

  abbrev pub AllNeed : Plains → Around z.Point → z.Point → z.Point → Type 0
  AllNeed ss around p q = needs.AllNeed z.Point z.kept after_in z.R z.flags z.Leaf ss around p q

  abbrev pub ItemsNeed : Plains → Around z.Point → (Option ℤ → z.Point) → z.Point → z.Point → Type 0
  ItemsNeed ss around labels p q = needs.ItemsNeed z.Point z.kept after_in z.R z.flags z.Leaf ss around labels p q

  abbrev pub LoopNeeds : Plains → Plains → Around z.Point → z.Point → Type 0
  LoopNeeds ss ts around h = needs.LoopNeeds z.Point z.kept after_in z.R z.flags z.Leaf ss ts around h

  abbrev pub StepNeeds : Plains → Plains → Around z.Point → z.Point → Type 0
  StepNeeds ss ts around h = needs.StepNeeds z.Point z.kept after_in z.R z.flags z.Leaf ss ts around h

  -- the C of statements at a point
  abbrev pub lowered_at : Plain → Around z.Point → z.Point → List Statement
  lowered_at s around p = lowered s (inside_at z.inside around) (z.kept p)

  abbrev pub all_at : Plains → Around z.Point → z.Point → List Statement
  all_at ss around p = all_lowered ss (inside_at z.inside around) (z.kept p)

  -- the C of a turn of a loop with a step
  abbrev pub stepped_turn : Plains → Plains → Around z.Point → z.Point → List Statement
  stepped_turn ss ts around h =
      flag_set (depth_of around) 0
      ∷ c_tree.select nought (c_tree.otherwise (stated_all (all_at ss (stepped h around) h) c_tree.closed))
      ∷ if_flag (depth_of around) (c_tree.leave ∷ [])
      ∷ all_at ts (step h around) h

  -- of any loop
  abbrev pub turn_of : Plains → Plains → Around z.Point → z.Point → List Statement
  turn_of ss nothing around h = all_at ss (turns h around) h
  turn_of ss ts around h = stepped_turn ss ts around h

  abbrev pub loop_of : Plains → Plains → Around z.Point → z.Point → Statement
  loop_of ss ts around h = c_tree.loop (block (turn_of ss ts around h))

  module _ (m : Runners) where
    -- what a list of C statements does
    abbrev pub list : List Statement → c.State → World → Ran c.Flow
    list ss t w = runs m.c_again m.helps m.c_program m.helper z.scope m.depth ss t w

    -- from one point on, with so many flags at 0 and an input of bytes, both do the same
    abbrev pub SameFrom : z.Point → Around z.Point → z.Point → (Registers → Act Flow) → (c.State → World → Ran c.Flow) → Type 0
    SameFrom p around q f go =
        (g : Registers) (s : State) (t : c.State) (w : World) → z.R p (depth_of around) g s t → IsInput w.input
        → Simulates (ends around q) (f g s w) (go t w)

    -- the turns of loops that have a tick less
    abbrev pub TurnsAgain : Type 0
    TurnsAgain = (ss ts : Plains) (around : Around z.Point) (h : z.Point) → LoopNeeds ss ts around h
        → SameFrom h around h (λ g. m.again (turn ss ts g)) (λ t w. m.c_again m.helper (loop_of ss ts around h) z.scope m.depth t w)

    -- statements that are no control
    abbrev pub LeavesRun : Type 0
    LeavesRun = (around : Around z.Point) (p : z.Point) (s : Plain) (q : z.Point) → z.Leaf around p s q
        → SameFrom p around q (plain.does m.again m.program s) (λ t w. list (lowered_at s around p) t w)
