-- What a step of the machine keeps.
use Rattle.std.specs.Prelude.{◌≡◌, ℕ, ◌<◌, ◌≤◌, List, ℤ, Option, Some, None, Result, Ok, Err}
use Rattle.cf_base.specs.Event.{Event, Enter, Out, Ended, Ticks, Depth, Undefined, End as EndOf}
use Rattle.cf_base.specs.World.{Outcome}
use Rattle.cc_whole_memory.specs.declared.act.Act.{Act}
use Rattle.cc_whole_memory.specs.Store.{act_number}
use Rattle.cc_whole_step.specs.declared.stop.Stop.{Stop}
use Rattle.cc_whole_step.specs.declared.stop.Stop.TheVariants as stop
use Rattle.cc_whole_step.specs.declared.moment.Moment.{Moment}
use Rattle.cc_whole_step.specs.declared.moment.Shown.{Shown}
use Rattle.cc_whole_step.specs.declared.moment.Shown.TheVariants as shown
use Rattle.cc_whole_step.specs.declared.moment.Step.{Step}
use Rattle.cc_whole_step.specs.declared.moment.Step.TheVariants as step
use Rattle.cc_whole_step.specs.declared.moment.End.{End}
use Rattle.cc_whole_step.specs.declared.moment.End.TheVariants as end
use Rattle.cc_whole_step.specs.Running.{Outside, noted, total, taken}

-- what a moment means at a bound of ticks
abbrev pub Meaning : Type 0
Meaning = ℕ → Moment → Outside → Outcome

-- the run goes on from the new moment, with this event added to its trace
pub record StepsOn (meaning : Meaning) (event : Option Event) (old new : Moment) : Type 0 where
  pub same : (n : ℕ) (o : Outside) → old.ticks < n → meaning n old o ≡ total n new (noted event o)
  pub ticks : new.ticks ≤ old.ticks

-- the next byte of the input is taken, and is what returns at the new moment
pub record StepsTaking (meaning : Meaning) (old new : Moment) : Type 0 where
  pub same : (n : ℕ) (o : Outside) → old.ticks < n → meaning n old o ≡ taken n new o
  pub ticks : new.ticks ≤ old.ticks

-- the run ends here
pub record EndsAs (meaning : Meaning) (e : EndOf) (old : Moment) : Type 0 where
  pub same : (n : ℕ) (o : Outside) → old.ticks < n → meaning n old o ≡ record { end = e; trace = o.trace }

abbrev pub event_of : Shown → Event
event_of (shown.Enter name) = Enter name.now
event_of (shown.Out byte) = Out byte

abbrev pub end_of : End → EndOf
end_of (end.Ended status) = Ended status
end_of end.Ticks = Ticks
end_of end.Depth = Depth

-- what a step comes to from a moment that means this; want of memory may come anywhere
abbrev pub Comes : Meaning → Result Step Stop → Moment → Moment → Type 0
Comes meaning (Ok step.On) old new = StepsOn meaning None old new
Comes meaning (Ok (step.Shows s)) old new = StepsOn meaning (Some (event_of s)) old new
Comes meaning (Ok step.Takes) old new = StepsTaking meaning old new
Comes meaning (Ok (step.Ends e)) old new = EndsAs meaning (end_of e) old
Comes meaning (Err (stop.Act a)) old new = EndsAs meaning (Undefined (act_number a)) old
Comes meaning (Err stop.Memory) old new = Unit {0}
