-- A run's trace only grows.
use Rattle.std.proofs.Common.{◌≡◌, ℕ, List, [], ◌∷◌, ℤ, Option, Some, None, refl, ◌∙◌}
use Rattle.cf_base.specs.Stream.{IsFront}
use Rattle.cf_base.specs.Event.{Event}
use Rattle.cf_base.specs.World.{World, Ran, Went, Stops, and_then, shown, outcome}
use Rattle.cf_base.specs.Agree.{Adds}
use Rattle.cf_base.proofs.Agreement.{adds-then}
use Rattle.cc_whole.specs.Plain.{Statements, SwitchItems}
use Rattle.cc_whole_mean.specs.Scope.{Scope}
use Rattle.cc_whole_mean.specs.Flow.{State, Flow, Called, Back, Gone, called_back}
use Rattle.cc_whole_mean.specs.Mean.{runs, helps_in}
use Rattle.cc_whole_mean.specs.Start.{status_of, status_after, state_after, exits}
use Rattle.cc_whole_mean.proofs.Growth.{went, grows-tried, grows-falling, grows-turning, grows-back, grows-does_all, grows-does_items, grows-runs, grows-helps}
use Rattle.cc_whole_start.proofs.Exits.{grows-exits}
use Rattle.cc_whole_step.specs.declared.mark.Mark.{Mark}
use Rattle.cc_whole_step.specs.declared.mark.Mark.TheVariants as mark
use Rattle.cc_whole_step.specs.declared.mark.Level.{Level}
use Rattle.cc_whole_step.specs.declared.mark.Doing.{Doing}
use Rattle.cc_whole_step.specs.declared.mark.Doing.TheVariants as doing
use Rattle.cc_whole_step.specs.declared.moment.Moment.{Moment}
use Rattle.cc_whole_step.specs.Frames.{layer, scope_of}
use Rattle.cc_whole_step.specs.Running.{statements_of, switch_of, Ground, run_all, run_items, run_doing, after, resume, followed_up, Outside, ground_of, state_of, world_of, total}

grows-all : (g : Ground) (level : Level) (all : Statements) (scope : Scope) (s : State) (w : World) → Adds w.trace (run_all g level all scope s w)
grows-all g level all scope s w =
    grows-does_all (runs g.program g.bound) (helps_in (runs g.program g.bound) g.program level.in_helper) (grows-runs g.program g.bound)
    (grows-helps g.program (runs g.program g.bound) (grows-runs g.program g.bound) level.in_helper) g.program level.in_helper all scope level.depth s w

grows-items : (g : Ground) (level : Level) (items : SwitchItems) (scope : Scope) (s : State) (w : World) → Adds w.trace (run_items g level items scope s w)
grows-items g level items scope s w =
    grows-does_items (runs g.program g.bound) (helps_in (runs g.program g.bound) g.program level.in_helper) (grows-runs g.program g.bound)
    (grows-helps g.program (runs g.program g.bound) (grows-runs g.program g.bound) level.in_helper) g.program level.in_helper items scope level.depth s w

grows-after : (g : Ground) (scope : Scope) (m : Mark) (t : List Event) (r : Ran Flow) → Adds t r → Adds t (after g scope m r)
grows-after g scope (mark.Rest level all) t r h = adds-then t r _ h (grows-falling _ (λ s w. grows-all g level (statements_of all.now) scope s w))
grows-after g scope (mark.Items level items) t r h = adds-then t r _ h (grows-falling _ (λ s w. grows-items g level (switch_of items.now) scope s w))
grows-after g scope (mark.Turn level b) t r h = adds-then t r _ h (grows-turning _ (λ s w. grows-runs g.program g.bound level.in_helper _ scope level.depth s w))
grows-after g scope mark.Switch t r h = adds-then t r _ h (λ flow w. went _ w)
grows-after g scope (mark.Locals locals first) t r h = adds-then t r _ h (λ flow w. went _ w)
grows-after g scope (mark.Parameters parameters first count) t r h = adds-then t r _ h (λ flow w. went _ w)
grows-after g scope (mark.Back at) t r h = adds-then t r _ h (λ flow w. grows-back at (called_back flow) w)

grows-resume : (g : Ground) (scope : Scope) (ms : List Mark) (t : List Event) (r : Ran Flow) → Adds t r → Adds t (resume g scope ms r)
grows-resume g scope [] t r h = h
grows-resume g scope (m ∷ ms) t r h = grows-after g scope m t _ (grows-resume g (layer g.program.names m scope) ms t r h)

grows-doing : (g : Ground) (level : Level) (d : Doing) (scope : Scope) (s : State) (w : World) → Adds w.trace (run_doing g level d scope s w)
grows-doing g level (doing.Run all) scope s w = grows-all g level (statements_of all.now) scope s w
grows-doing g level (doing.Items items) scope s w = grows-items g level (switch_of items.now) scope s w
grows-doing g level (doing.Leave flow) scope s w = went _ w

grows-followed : (g : Ground) (status : Option ℤ) (c : Called) (w : World) → Adds w.trace (followed_up status (exits g.program g.depth g.bound) c w)
grows-followed g None (Back v s) w = grows-tried (status_of v) w _ (λ status. grows-exits g.program g.depth g.bound status s w)
grows-followed g None (Gone z s) w = grows-exits g.program g.depth g.bound z s w
grows-followed g (Some status) c w = grows-exits g.program g.depth g.bound (status_after status c) (state_after c) w

outcome-trace : (r : Ran ℤ) → (outcome r).trace ≡ shown r
outcome-trace (Went status w) = refl
outcome-trace (Stops end trace) = refl

pub grows-total : (n : ℕ) (m : Moment) (o : Outside) → IsFront o.trace (total n m o).trace
grows-total n m o =
    let g = ground_of n m in
    let r = resume g g.program.names m.frames.marks.items (run_doing g m.level m.doing (scope_of m.frames) (state_of m) (world_of m o)) in
    let h : Adds o.trace r = grows-resume g g.program.names m.frames.marks.items o.trace _ (grows-doing g m.level m.doing (scope_of m.frames) (state_of m) (world_of m o)) in
    let k : Adds o.trace (and_then r (λ flow w. followed_up g.status (exits g.program g.depth g.bound) (called_back flow) w)) =
    adds-then o.trace r _ h (λ flow w. grows-followed g g.status (called_back flow) w) in
    record { rest = k.by.rest; joined = outcome-trace (and_then r (λ flow w. followed_up g.status (exits g.program g.depth g.bound) (called_back flow) w)) ∙ k.by.parts }
