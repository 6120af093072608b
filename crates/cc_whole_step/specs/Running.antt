-- What a moment of a run means: the rest of the run.
use Rattle.std.specs.Prelude.{◌≡◌, ℕ, List, [], ◌∷◌, ◌++◌, length, ℤ, Option, Some, None, map}
use Rattle.cf_base.specs.declared.kind.Kind.TheVariants as kind
use Rattle.cf_base.specs.Event.{Event, In}
use Rattle.cf_base.specs.World.{World, Ran, Went, and_then, Outcome, outcome}
use Rattle.cc_whole.specs.declared.statement.CStatement.{CStatement}
use Rattle.cc_whole.specs.declared.statement.CSwitchItem.{CSwitchItem}
use Rattle.cc_whole.specs.declared.unit.CProgram.{CProgram}
use Rattle.cc_whole.specs.Plain.{Statement, loop, Statements, in_order, statement_of, SwitchItems, switch_in_order, switch_item_of, Body, body_of, Function, items_of, functions_of}
use Rattle.cc_whole_memory.specs.declared.value.Value.{Value}
use Rattle.cc_whole_memory.specs.declared.value.Value.TheVariants as value
use Rattle.cc_whole_memory.specs.Store.{memory_of}
use Rattle.cc_whole_mean.specs.declared.named.Target.{Target}
use Rattle.cc_whole_mean.specs.Scope.{Scope}
use Rattle.cc_whole_mean.specs.Flow.{State, Flow, Falls, Breaks, Continues, Returns, Exits, falling, turning, switching, ending, Called, Back, Gone, called_back}
use Rattle.cc_whole_mean.specs.Callee.{Callee}
use Rattle.cc_whole_mean.specs.Library.{byte_or_end}
use Rattle.cc_whole_mean.specs.Mean.{Program, go_back, store_result, run_function, enter_helper, enter_function, called, does, does_body, does_all, does_items, helps_in, runs}
use Rattle.cc_whole_mean.specs.Start.{status_after, state_after, ended_main, exits}
use Rattle.cc_whole_start.specs.Table.{scope_of as file_scope}
use Rattle.cc_whole_step.specs.declared.mark.Mark.{Mark}
use Rattle.cc_whole_step.specs.declared.mark.Mark.TheVariants as mark
use Rattle.cc_whole_step.specs.declared.mark.Level.{Level}
use Rattle.cc_whole_step.specs.declared.mark.Flow.{Flow as Left}
use Rattle.cc_whole_step.specs.declared.mark.Flow.TheVariants as left
use Rattle.cc_whole_step.specs.declared.mark.Doing.{Doing}
use Rattle.cc_whole_step.specs.declared.mark.Doing.TheVariants as doing
use Rattle.cc_whole_step.specs.declared.moment.Moment.{Moment}
use Rattle.cc_whole_step.specs.Frames.{layer, scope_over, scope_of}

abbrev pub statements_of : List CStatement → Statements
statements_of all = in_order (map statement_of all)

abbrev pub switch_of : List CSwitchItem → SwitchItems
switch_of items = switch_in_order (map switch_item_of items)

abbrev pub functions_in : CProgram → List Function
functions_in program = functions_of (items_of program.items)

-- What stays as it is between two ends of `main` and of registered functions: the program, a bound that is above the ticks left, the limit of
-- depth, and the status once `main` has ended.
pub record Ground : Type 0 where
  pub program : Program
  pub bound : ℕ
  pub depth : ℕ
  pub status : Option ℤ

-- statements at a bound of ticks that is above those left
abbrev pub run_statement : Ground → Level → Statement → Scope → State → World → Ran Flow
run_statement g level st scope s w =
    does (runs g.program g.bound) (helps_in (runs g.program g.bound) g.program level.in_helper) g.program level.in_helper st scope level.depth s w

abbrev pub run_body : Ground → Level → Body → Scope → State → World → Ran Flow
run_body g level b scope s w =
    does_body (runs g.program g.bound) (helps_in (runs g.program g.bound) g.program level.in_helper) g.program level.in_helper b scope level.depth s w

abbrev pub run_all : Ground → Level → Statements → Scope → State → World → Ran Flow
run_all g level all scope s w =
    does_all (runs g.program g.bound) (helps_in (runs g.program g.bound) g.program level.in_helper) g.program level.in_helper all scope level.depth s w

abbrev pub run_items : Ground → Level → SwitchItems → Scope → State → World → Ran Flow
run_items g level items scope s w =
    does_items (runs g.program g.bound) (helps_in (runs g.program g.bound) g.program level.in_helper) g.program level.in_helper items scope level.depth s w

-- what is called runs
abbrev pub run_called : Ground → Level → Callee → List Value → State → World → Ran Called
run_called g level c vs s w =
    called (runs g.program g.bound) (helps_in (runs g.program g.bound) g.program level.in_helper) g.program level.in_helper c vs level.depth s w

-- a function runs at the level that it is entered at
abbrev pub run_own : Ground → Level → Function → List Value → State → World → Ran Called
run_own g level f vs s w = run_function (λ st scope depth s w.
    does (runs g.program g.bound) (helps_in (runs g.program g.bound) g.program level.in_helper) g.program level.in_helper st scope depth s w)
    g.program.names f vs level.depth s w

-- what has come back, as the end of a statement
abbrev pub flow_back : Called → Flow
flow_back (Back v s) = Returns v s
flow_back (Gone z s) = Exits z s

abbrev pub come_back : Ran Called → Ran Flow
come_back r = and_then r (λ c w. Went (flow_back c) w)

-- what a mark makes of the run above it
abbrev pub after : Ground → Scope → Mark → Ran Flow → Ran Flow
after g scope (mark.Rest level all) r = and_then r (falling (λ s w. run_all g level (statements_of all.now) scope s w))
after g scope (mark.Items level all) r = and_then r (falling (λ s w. run_items g level (switch_of all.now) scope s w))
after g scope (mark.Turn level b) r =
    and_then r (turning (λ s w. runs g.program g.bound level.in_helper (loop (body_of b.now)) scope level.depth s w))
after g scope mark.Switch r = and_then r (λ flow w. Went (switching flow) w)
after g scope (mark.Locals locals first) r = and_then r (λ flow w. Went (ending (length locals.now) first flow) w)
after g scope (mark.Parameters parameters first count) r = and_then r (λ flow w. Went (flow_back (called_back (ending count first flow))) w)
after g scope (mark.Back at) r = and_then r (λ flow w. go_back at (called_back flow) w)

-- what all marks make of it, the lowest of them first in the list
abbrev pub resume : Ground → Scope → List Mark → Ran Flow → Ran Flow
resume g scope [] r = r
resume g scope (m ∷ ms) r = after g scope m (resume g (layer g.program.names m scope) ms r)

-- what follows the end of `main`, or of a registered function
abbrev pub followed_up : Option ℤ → (ℤ → State → World → Ran ℤ) → Called → World → Ran ℤ
followed_up None exit c w = ended_main exit c w
followed_up (Some status) exit c w = exit (status_after status c) (state_after c) w

abbrev pub finish : Ground → Ran Flow → Outcome
finish g r = outcome (and_then r (λ flow w. followed_up g.status (exits g.program g.depth g.bound) (called_back flow) w))

abbrev pub whole : Ground → List Mark → Ran Flow → Outcome
whole g ms r = finish g (resume g g.program.names ms r)

abbrev pub flow_of : Left → State → Flow
flow_of left.Falls s = Falls s
flow_of left.Breaks s = Breaks s
flow_of left.Continues s = Continues s
flow_of (left.Returns v) s = Returns v s
flow_of (left.Exits z) s = Exits z s

abbrev pub run_doing : Ground → Level → Doing → Scope → State → World → Ran Flow
run_doing g level (doing.Run all) scope s w = run_all g level (statements_of all.now) scope s w
run_doing g level (doing.Items items) scope s w = run_items g level (switch_of items.now) scope s w
run_doing g level (doing.Leave flow) scope s w = Went (flow_of flow s) w

-- what the machine does not hold: the input left, and the trace so far
pub record Outside : Type 0 where
  pub input : List ℕ
  pub trace : List Event

abbrev pub noted : Option Event → Outside → Outside
noted None o = o
noted (Some event) o = record o { trace = o.trace ++ event ∷ [] }

-- the newest first
abbrev pub newest_first : List ℕ → List ℕ → List ℕ
newest_first later [] = later
newest_first later (f ∷ fs) = newest_first (f ∷ later) fs

abbrev pub program_of : Moment → Program
program_of m = record { functions = functions_in m.program.now; names = file_scope m.frames.file }

abbrev pub ground_of : ℕ → Moment → Ground
ground_of n m = record { program = program_of m; bound = n; depth = m.depth; status = m.status }

abbrev pub state_of : Moment → State
state_of m = record { memory = memory_of m.store; registered = newest_first [] m.registered.items }

abbrev pub world_of : Moment → Outside → World
world_of m o = record { ticks = m.ticks; input = o.input; heap = m.heap; trace = o.trace }

-- the outcome where this runs above the marks of a moment
abbrev pub going : ℕ → Moment → Outside → (Ground → Scope → State → World → Ran Flow) → Outcome
going n m o run = whole (ground_of n m) m.frames.marks.items (run (ground_of n m) (scope_of m.frames) (state_of m) (world_of m o))

-- the outcome of the run that goes on from a moment
abbrev pub total : ℕ → Moment → Outside → Outcome
total n m o = going n m o (λ g scope s w. run_doing g m.level m.doing scope s w)

-- the outcome where a statement begins
abbrev pub beginning : Statement → ℕ → Moment → Outside → Outcome
beginning st n m o = going n m o (λ g scope s w. run_statement g m.level st scope s w)

-- the outcome where a body is opened
abbrev pub opening : Body → ℕ → Moment → Outside → Outcome
opening b n m o = going n m o (λ g scope s w. run_body g m.level b scope s w)

abbrev pub listing : Statements → ℕ → Moment → Outside → Outcome
listing all n m o = going n m o (λ g scope s w. run_all g m.level all scope s w)

abbrev pub switching_on : SwitchItems → ℕ → Moment → Outside → Outcome
switching_on items n m o = going n m o (λ g scope s w. run_items g m.level items scope s w)

-- the outcome where what is called comes back with what this comes to
abbrev pub coming_back : (Ground → State → World → Ran Called) → ℕ → Moment → Outside → Outcome
coming_back run n m o = going n m o (λ g scope s w. come_back (run g s w))

abbrev pub calling : Callee → List Value → ℕ → Moment → Outside → Outcome
calling c vs n m o = coming_back (λ g s w. run_called g m.level c vs s w) n m o

abbrev pub entering : Function → List Value → ℕ → Moment → Outside → Outcome
entering f vs n m o = coming_back (λ g s w. run_own g m.level f vs s w) n m o

-- the outcome where a helper is entered, if it may be
abbrev pub helping : Function → List Value → ℕ → Moment → Outside → Outcome
helping f vs n m o = coming_back (λ g s w.
    enter_helper m.level.in_helper (helps_in (runs g.program g.bound) g.program m.level.in_helper) g.program.names f vs m.level.depth s w) n m o

-- the outcome where a function that is no helper is entered
abbrev pub spending : Function → List Value → ℕ → Moment → Outside → Outcome
spending f vs n m o = coming_back (λ g s w. enter_function (runs g.program g.bound) g.program.names f vs m.level.depth s w) n m o

-- the outcome of the run that goes on above a mark that was taken off the stack
abbrev pub popped : Mark → Left → ℕ → Moment → Outside → Outcome
popped mk flow n m o = going n m o (λ g scope s w. after g scope mk (Went (flow_of flow s) w))

-- the outcome where a statement has ended
abbrev pub leaving : Left → ℕ → Moment → Outside → Outcome
leaving flow n m o = going n m o (λ g scope s w. Went (flow_of flow s) w)

-- the outcome where this is next, if the statement before it falls to it
abbrev pub following : Level → Doing → Left → ℕ → Moment → Outside → Outcome
following level next flow n m o = going n m o (λ g scope s w. falling (λ s w. run_doing g level next scope s w) (flow_of flow s) w)

-- the outcome where a call's result is stored, or dropped
abbrev pub storing : Option Target → Option Value → ℕ → Moment → Outside → Outcome
storing at v n m o = going n m o (λ g scope s w. store_result at v s w)

-- the outcome where `main` or a registered function has come back with this
abbrev pub ending_as : Called → ℕ → Moment → Outside → Outcome
ending_as c n m o = outcome (followed_up m.status (exits (program_of m) m.depth n) c (world_of m o))

abbrev pub ending_all : Left → ℕ → Moment → Outside → Outcome
ending_all flow n m o = ending_as (called_back (flow_of flow (state_of m))) n m o

abbrev pub ending_with : Option Value → ℕ → Moment → Outside → Outcome
ending_with v n m o = ending_as (Back v (state_of m)) n m o

-- the outcome where the run leaves with this status
abbrev pub exiting : ℤ → ℕ → Moment → Outside → Outcome
exiting z n m o = outcome (exits (program_of m) m.depth n z (state_of m) (world_of m o))

-- the moment at which this was taken from the input
abbrev pub answered : Option ℕ → Moment → Moment
answered byte m = record m { doing = doing.Leave (left.Returns (Some (value.Number kind.Int (byte_or_end byte)))) }

abbrev pub taken_from : List ℕ → ℕ → Moment → Outside → Outcome
taken_from [] n m o = total n (answered None m) (noted (Some (In None)) o)
taken_from (byte ∷ rest) n m o = total n (answered (Some byte) m) (record { input = rest; trace = o.trace ++ In (Some byte) ∷ [] })

-- the outcome where the next byte of the input is taken
abbrev pub taken : ℕ → Moment → Outside → Outcome
taken n m o = taken_from o.input n m o
