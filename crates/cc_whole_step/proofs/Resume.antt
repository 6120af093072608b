-- How marks resume a run.
use Rattle.std.proofs.Common.{◌≡◌, ℕ, ◌<◌, ◌≤◌, List, [], ◌∷◌, ◌++◌, Option, Some, None, Result, Ok, Err, refl, ap, sym, ◌∙◌, arith}
use Rattle.std.specs.Global.{Global}
use Rattle.std.specs.Prelude.{Vec}
use Rattle.cf_base.specs.Event.{Event, End, Undefined}
use Rattle.cf_base.specs.World.{World, Ran, Went, Stops, and_then}
use Rattle.cc_whole_memory.specs.declared.act.Act.{Act}
use Rattle.cc_whole_memory.specs.Store.{act_number}
use Rattle.cc_whole_mean.specs.Scope.{Scope}
use Rattle.cc_whole_mean.specs.Flow.{State, Flow}
use Rattle.cc_whole_step.specs.declared.mark.Mark.{Mark}
use Rattle.cc_whole_step.specs.declared.mark.Mark.TheVariants as mark
use Rattle.cc_whole_step.specs.declared.moment.Moment.{Moment}
use Rattle.cc_whole_step.specs.declared.moment.Step.{Step}
use Rattle.cc_whole_step.specs.declared.moment.Step.TheVariants as step
use Rattle.cc_whole_step.specs.declared.stop.Stop.{Stop}
use Rattle.cc_whole_step.specs.declared.stop.Stop.TheVariants as stop
use Rattle.cc_whole_step.specs.Frames.{layer, scope_over, scope_of}
use Rattle.cc_whole_step.specs.Running.{Ground, after, resume, finish, whole, Outside, ground_of, state_of, world_of, going}
use Rattle.cc_whole_step.specs.Comes.{Meaning, StepsOn, EndsAs, Comes}
use Rattle.cc_whole_step.proofs.Marks.{scope_over-push}

-- the names in scope above these marks
abbrev pub scope_above : Ground → List Mark → Scope
scope_above g ms = scope_over g.program.names g.program.names ms

-- a moment with other marks
abbrev pub with_marks : Vec Mark Global → Moment → Moment
with_marks marks m = record m { frames = record m.frames { marks = marks } }

resume-push : (g : Ground) (scope : Scope) (ms : List Mark) (m : Mark) (r : Ran Flow)
    → resume g scope (ms ++ m ∷ []) r ≡ resume g scope ms (after g (scope_over g.program.names scope ms) m r)
resume-push g scope [] m r = refl
resume-push g scope (x ∷ ms) m r = ap (after g scope x) (resume-push g (layer g.program.names x scope) ms m r)

-- one more mark on the stack
pub whole-push : (g : Ground) (ms : List Mark) (m : Mark) (r : Ran Flow) → whole g (ms ++ m ∷ []) r ≡ whole g ms (after g (scope_above g ms) m r)
whole-push g ms m r = ap (finish g) (resume-push g g.program.names ms m r)

-- one more mark, and what runs above it with the names there
pub pushed : (g : Ground) (ms new : List Mark) (m : Mark) (run : Scope → Ran Flow) → new ≡ ms ++ m ∷ []
    → whole g new (run (scope_above g new)) ≡ whole g ms (after g (scope_above g ms) m (run (layer g.program.names m (scope_above g ms))))
pushed g ms new m run is =
    ap (λ (l : List Mark). whole g l (run (scope_above g l))) is
    ∙ ap (λ (x : Scope). whole g (ms ++ m ∷ []) (run x)) (scope_over-push g.program.names g.program.names ms m)
    ∙ whole-push g ms m (run (layer g.program.names m (scope_above g ms)))

after-stops : (g : Ground) (scope : Scope) (m : Mark) (end : End) (trace : List Event) → after g scope m (Stops end trace) ≡ Stops end trace
after-stops g scope (mark.Rest level all) end trace = refl
after-stops g scope (mark.Items level all) end trace = refl
after-stops g scope (mark.Turn level b) end trace = refl
after-stops g scope mark.Switch end trace = refl
after-stops g scope (mark.Locals locals first) end trace = refl
after-stops g scope (mark.Parameters parameters first count) end trace = refl
after-stops g scope (mark.Back at) end trace = refl

resume-stops : (g : Ground) (scope : Scope) (ms : List Mark) (end : End) (trace : List Event) → resume g scope ms (Stops end trace) ≡ Stops end trace
resume-stops g scope [] end trace = refl
resume-stops g scope (m ∷ ms) end trace =
    ap (after g scope m) (resume-stops g (layer g.program.names m scope) ms end trace) ∙ after-stops g scope m end trace

-- a run that has ended stays so
pub whole-stops : (g : Ground) (ms : List Mark) (end : End) (trace : List Event) → whole g ms (Stops end trace) ≡ record { end = end; trace = trace }
whole-stops g ms end trace = ap (finish g) (resume-stops g g.program.names ms end trace)

-- what runs has ended
pub ends : (s : Moment) (M : Meaning) (end : End) (run : ℕ → Outside → Ran Flow)
    → ((n : ℕ) (o : Outside) → M n s o ≡ whole (ground_of n s) s.frames.marks.items (run n o))
    → ((n : ℕ) (o : Outside) → run n o ≡ Stops end o.trace) → EndsAs M end s
ends s M end run is stops = record {
  same = λ n o lt. is n o ∙ ap (whole (ground_of n s) s.frames.marks.items) (stops n o) ∙ whole-stops (ground_of n s) s.frames.marks.items end o.trace;
}

-- an answer that is an act ends the run
pub acts : {A : Type 0} (s : Moment) (M : Meaning) (x : Result A ℕ) (a : Act) (run : ℕ → Outside → Result A ℕ → Ran Flow)
    → ((n : ℕ) (o : Outside) → M n s o ≡ whole (ground_of n s) s.frames.marks.items (run n o x))
    → ((n : ℕ) (o : Outside) → run n o (Err (act_number a)) ≡ Stops (Undefined (act_number a)) o.trace)
    → x ≡ Err (act_number a) → EndsAs M (Undefined (act_number a)) s
unfolding ends
acts s M x a run is stops fails = ends s M (Undefined (act_number a)) (λ n o. run n o x) is (λ n o. ap (run n o) fails ∙ stops n o)

-- a step from what a moment comes to
pub comes-from : (M N : Meaning) (r : Result Step Stop) (s mid new : Moment) → ((n : ℕ) (o : Outside) → s.ticks < n → M n s o ≡ N n mid o)
    → mid.ticks ≤ s.ticks → Comes N r mid new → Comes M r s new
comes-from M N (Ok step.On) s mid new same le h = record {
  same = λ n o lt. same n o lt ∙ h.same n o (omega arith);
  ticks = let k : new.ticks ≤ mid.ticks = h.ticks in omega arith;
}
comes-from M N (Ok (step.Shows e)) s mid new same le h = record {
  same = λ n o lt. same n o lt ∙ h.same n o (omega arith);
  ticks = let k : new.ticks ≤ mid.ticks = h.ticks in omega arith;
}
comes-from M N (Ok step.Takes) s mid new same le h = record {
  same = λ n o lt. same n o lt ∙ h.same n o (omega arith);
  ticks = let k : new.ticks ≤ mid.ticks = h.ticks in omega arith;
}
comes-from M N (Ok (step.Ends e)) s mid new same le h = record { same = λ n o lt. same n o lt ∙ h.same n o (omega arith) }
comes-from M N (Err (stop.Act a)) s mid new same le h = record { same = λ n o lt. same n o lt ∙ h.same n o (omega arith) }
comes-from M N (Err stop.Memory) s mid new same le h = tt

pub on-from : (M N : Meaning) (s mid new : Moment) → ((n : ℕ) (o : Outside) → s.ticks < n → M n s o ≡ N n mid o)
    → mid.ticks ≤ s.ticks → StepsOn N None mid new → StepsOn M None s new
on-from M N s mid new same le h = record {
  same = λ n o lt. same n o lt ∙ h.same n o (omega arith);
  ticks = let k : new.ticks ≤ mid.ticks = h.ticks in omega arith;
}
