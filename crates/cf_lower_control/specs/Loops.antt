-- How statements in a function and in its loops end.
use Rattle.std.specs.Prelude.{◌≡◌, ℕ, Bool, List}
use Rattle.cf_base.specs.World.{World}
use Rattle.cf_base.specs.Agree.{Adds}
use Rattle.cf_core.specs.Run.{State}
use Rattle.cf_plain.specs.Plain.{Plains, nothing}
use Rattle.cf_plain.specs.Acts.{Registers}
use Rattle.cf_plain.specs.Running.{Flow, Falls, Breaks, Continues, Returns, turn, all}
use Rattle.cc_whole.specs.Plain.{Statement, loop}
use Rattle.cc_whole_memory.specs.Blocks.{Memory}
use Rattle.cc_whole_mean.specs.Scope.{Scope}
use Rattle.cc_whole_mean.specs.Flow as c
use Rattle.cc_whole_mean.specs.Mean as mean
use Rattle.cf_lower_layout.specs.Sorts.{Sort}
use Rattle.cf_lower_relate.specs.Map.{Fixed, Map, Grows}
use Rattle.cf_lower.specs.Kept.{Keeping, untouched}
use Rattle.cf_lower.specs.Statements.{block, in_loop, all_lowered}
use Rattle.cf_lower_steps.specs.Steps.{InRegisters}
use Rattle.cf_lower_steps.specs.Own.{Own}
use Rattle.cf_lower_steps.specs.Flows.{Between, Stays, Simulates, Ways, Ends}
use Rattle.cf_lower_steps.specs.Lowering.{runs}
use Rattle.cf_lower_steps.specs.Moment.{Moment, fixed}
use Rattle.cf_lower_control.specs.Returning.{Gives}

-- a `break` is the C's, and registers keep this
pub record BreaksAs (K : Fixed) (own : Own) (scope : Scope) (F : Map) (kept : Keeping) (g : Registers) (s : State) (flow : c.Flow) : Type 0 where
  pub after : c.State
  pub is : flow ≡ c.Breaks after
  pub stays : Stays K own scope F kept g s after

-- and so is a `continue`
pub record ContinuesAs (K : Fixed) (own : Own) (scope : Scope) (F : Map) (kept : Keeping) (g : Registers) (s : State) (flow : c.Flow) : Type 0 where
  pub after : c.State
  pub is : flow ≡ c.Continues after
  pub stays : Stays K own scope F kept g s after

-- the ways out of the body of a loop without a step, given those of the loop
abbrev pub InLoop : Fixed → Own → Scope → Map → Keeping → Ways → Ways
InLoop K own scope F kept ways (Falls g) s flow = ⊥
InLoop K own scope F kept ways (Breaks g) s flow = BreaksAs K own scope F kept g s flow
InLoop K own scope F kept ways (Continues g) s flow = ContinuesAs K own scope F kept g s flow
InLoop K own scope F kept ways (Returns v) s flow = ways (Returns v) s flow

-- what statements stand in: a function that gives a value of this sort, or the body of a loop without a step, with what the registers hold at its turns
pub data Around : Type 0 where
  function : Map → Sort → Around
  turns : Map → Keeping → Around → Around

-- the ways out of such statements
abbrev pub ways_of : Fixed → Own → Scope → Around → Ways
ways_of K own scope (function E u) = Gives K E u
ways_of K own scope (turns F kept around) = InLoop K own scope F kept (ways_of K own scope around)

-- the C returns
abbrev pub IsReturn : c.Flow → Type 0
IsReturn (c.Returns v t) = Unit {0}
IsReturn flow = ⊥

-- where a function returns the C's does
abbrev pub ReturnsToo : Ways → Type 0
ReturnsToo ways = (v : _) (s : State) (flow : c.Flow) → ways (Returns v) s flow → IsReturn flow

-- registers that hold what the first tells hold what the second tells
abbrev pub Weaker : Fixed → Scope → Keeping → Keeping → Type 0
Weaker K scope one two = (F : Map) (g : Registers) (m : Memory) → InRegisters K F one g scope m → InRegisters K F two g scope m

-- what runs with a tick less takes nothing back of a trace
abbrev pub Adding : mean.Again → Type 0
Adding again = (inside : Bool) (st : Statement) (scope : Scope) (depth : ℕ) (s : c.State) (w : World) → Adds w.trace (again inside st scope depth s w)

-- what the registers hold at each turn of these statements
abbrev pub at_turns : Moment → Plains → Keeping
at_turns at ss = untouched at.inside.locals at.kept ss

-- the C of a turn
abbrev pub body_of : Moment → Plains → List Statement
body_of at ss = all_lowered ss (in_loop at.inside) (at_turns at ss)

-- a turn of the statements does the same in both
abbrev pub EachTurn : Moment → Plains → Ways → Type 0
EachTurn at ss ways = (g : Registers) (s : State) (t : c.State) (w : World) → Between (fixed at) at.own at.scope at.map (at_turns at ss) g s t.memory
    → Simulates (Ends (fixed at) at.own at.scope at.map (at_turns at ss) (InLoop (fixed at) at.own at.scope at.map (at_turns at ss) ways))
    (all at.again at.program ss g s w) (runs at.c_again at.helps at.c_program at.helper at.scope at.depth (body_of at ss) t w)

-- and so do the turns behind it, which have a tick less
abbrev pub NextTurns : Moment → Plains → Ways → Type 0
NextTurns at ss ways = (G : Map) (g : Registers) (s : State) (t : c.State) (w : World) → Grows at.map G
    → Between (fixed at) at.own at.scope G (at_turns at ss) g s t.memory
    → Simulates (Ends (fixed at) at.own at.scope G (at_turns at ss) ways) (at.again (turn ss nothing g) s w)
    (at.c_again at.helper (loop (block (body_of at ss))) at.scope at.depth t w)
