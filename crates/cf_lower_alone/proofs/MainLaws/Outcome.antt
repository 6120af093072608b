-- The outcomes of both programs agree, where the C's `main` does what the source's run does.
use Rattle.std.proofs.Common.{◌≡◌, ℕ, zero, suc, List, [], ◌∷◌, ℤ, Option, Some, Result, Ok, Err, refl, ap, sym, subst, ◌∙◌}
use Rattle.cf_base.specs.declared.kind.Kind.TheVariants.{Int}
use Rattle.cf_base.specs.Event.{Event, Ended, Ticks, Depth, Undefined}
use Rattle.cf_base.specs.World.{World, Ran, Went, Stops, and_then, shown, Outcome, outcome}
use Rattle.cf_base.specs.Agree.{Begins}
use Rattle.cf_core.specs.Run.{State, Did, Gives, Exits, Malformed}
use Rattle.cf_core.specs.Calls as core
use Rattle.cf_core.specs.Calls.{Program}
use Rattle.cf_core.specs.Program.{left, destroy_static, resumed, destroy_statics, ended_run, run_outcome}
use Rattle.cc_whole_memory.specs.declared.value.Value.TheVariants as value
use Rattle.cc_whole_mean.specs.Flow as c
use Rattle.cc_whole_mean.specs.Flow.{in_memory, tried, ending, ended_from, Called, Back, Gone, called_back}
use Rattle.cc_whole_mean.specs.Mean as mean
use Rattle.cc_whole_mean.specs.Start.{state_after, call_registered, exits_with, no_exit, exits, status_of, ended_main}
use Rattle.cc_whole_registered.specs.Registered.{NothingRegistered}
use Rattle.cf_plain_finished.specs.Finished.{Always, NoneFinished}
use Rattle.cf_lower_steps.specs.Flows.{Simulates}
use Rattle.cf_lower_program.specs.Agrees.{AgreesWith}
use Rattle.cf_lower_alone.specs.Added.{MainEnds}

-- ---- the end of the C

exits-none : (p : mean.Program) (depth n : ℕ) (z : ℤ) (s : c.State) (w : World) → s.registered ≡ [] → exits p depth n z s w ≡ Went z w
exits-none p depth zero z s w none = ap (λ l. exits_with (call_registered (mean.runs p zero) p depth) no_exit l z s w) none
exits-none p depth (suc n) z s w none = ap (λ l. exits_with (call_registered (mean.runs p (suc n)) p depth) (exits p depth n) l z s w) none

module _ (cp : mean.Program) (depth n b e : ℕ) where
  -- the C's `main` as a function, whose local ends
  abbrev pub started : Ran c.Flow → Ran Called
  started y = and_then (and_then y (λ flow w. Went (ending 1 b flow) w)) (λ flow w. Went (called_back (ending 0 e flow)) w)

  abbrev pub c-outcome : Ran Called → Outcome
  c-outcome r = outcome (and_then r (λ r w. ended_main (exits cp depth n) r w))

  -- it has ended, and nothing is registered
  back-trace : (r : Result ℤ ℕ) (s : c.State) (w : World) → s.registered ≡ [] → (outcome (tried r w (λ z. exits cp depth n z s w))).trace ≡ w.trace
  back-trace (Ok z) s w none = ap (λ r. (outcome r).trace) (exits-none cp depth n z s w none)
  back-trace (Err act) s w none = refl

  called-trace : (r : Called) (w : World) → (state_after r).registered ≡ [] → (c-outcome (Went r w)).trace ≡ w.trace
  called-trace (Back v s) w none = back-trace (status_of v) s w none
  called-trace (Gone z s) w none = ap (λ r. (outcome r).trace) (exits-none cp depth n z s w none)

  started-trace : (y : Ran c.Flow) → NothingRegistered (started y) → (c-outcome (started y)).trace ≡ shown y
  started-trace (Went flow w) none = called-trace (called_back (ending 0 e (ending 1 b flow))) w none
  started-trace (Stops end trace) none = refl

  -- ---- the end of the source

  module _ (again : core.Again) (P : Program) where
    none-destroyed : (z : ℤ) (s : State) (w : World) → s.finished ≡ [] → destroy_statics again P depth (suc n) z s w ≡ Went (Gives z s) w
    none-destroyed z s w none =
        ap (λ l. elim l as (λ x. Ran (Did ℤ)) [
          | [] ↦ Went (Gives z s) w
          | o ∷ rest ↦ and_then (destroy_static again P o (record s { finished = rest }) w) (resumed depth (destroy_statics again P depth n) z)
        ]) none

    abbrev pub source-outcome : Ran (Did ℤ) → Option Outcome
    source-outcome x = run_outcome (and_then x (ended_run again P depth (suc n)))

    ended : (z : ℤ) (s : State) (w : World) → s.finished ≡ [] → source-outcome (Went (Gives z s) w) ≡ Some (record { end = Ended z; trace = w.trace })
    ended z s w none = ap run_outcome (none-destroyed z (left depth s) w none)

    gone : (z : ℤ) (s : State) (w : World) → s.finished ≡ [] → source-outcome (Went (Exits z s) w) ≡ Some (record { end = Ended z; trace = w.trace })
    gone z s w none = ap run_outcome (none-destroyed z (left depth s) w none)

    ends-with : (z : ℤ) (w : World) (o : Option Outcome) (r : Outcome) → o ≡ Some (record { end = Ended z; trace = w.trace }) → r ≡ record { end = Ended z; trace = w.trace }
        → AgreesWith o r
    ends-with z w o r e h = subst (λ o. AgreesWith o r) (sym e) (record { by = h })

    begins-at : (trace all found : List Event) → Begins trace all → found ≡ all → Begins trace found
    begins-at trace all found h e = record { rest = h.rest; parts = e ∙ h.parts }

    -- ---- both

    pub agrees : (x : Ran (Did ℤ)) (y : Ran c.Flow) → Simulates MainEnds x y → Always NoneFinished x → NothingRegistered (started y)
        → AgreesWith (source-outcome x) (c-outcome (started y))
    agrees (Went (Gives z s) w) y sim none nothing =
        let flow : c.Flow = c.Returns (Some (value.Number Int z)) sim.by.related.after in
        let is : y ≡ Went flow w = sim.by.run ∙ ap (λ f. Went f w) sim.by.related.is in
        subst (λ y. NothingRegistered (started y) → AgreesWith (source-outcome (Went (Gives z s) w)) (c-outcome (started y))) (sym is)
        (λ registered. ends-with z w (source-outcome (Went (Gives z s) w)) (c-outcome (started (Went flow w))) (ended z s w none.by)
        (ap outcome (exits-none cp depth n z (state_after (called_back (ending 0 e (ending 1 b flow)))) w registered))) nothing
    agrees (Went (Exits z s) w) y sim none nothing =
        let flow : c.Flow = c.Exits z sim.by.after in
        subst (λ y. NothingRegistered (started y) → AgreesWith (source-outcome (Went (Exits z s) w)) (c-outcome (started y))) (sym sim.by.run)
        (λ registered. ends-with z w (source-outcome (Went (Exits z s) w)) (c-outcome (started (Went flow w))) (gone z s w none.by)
        (ap outcome (exits-none cp depth n z (state_after (called_back (ending 0 e (ending 1 b flow)))) w registered))) nothing
    agrees (Went Malformed w) y sim none registered = tt
    agrees (Stops (Undefined act) trace) y sim none registered = record { by = begins-at trace (shown y) (c-outcome (started y)).trace sim.by (started-trace y registered) }
    agrees (Stops (Ended z) trace) y sim none registered = record { by = ap (λ y. c-outcome (started y)) sim.by }
    agrees (Stops Ticks trace) y sim none registered = record { by = ap (λ y. c-outcome (started y)) sim.by }
    agrees (Stops Depth trace) y sim none registered = record { by = ap (λ y. c-outcome (started y)) sim.by }
