-- What a step, or a byte of the input, makes of what lies ahead.
use Rattle.std.proofs.Common.{◌≡◌, ◌∙◌, ℕ, List, [], ◌∷◌, ◌++◌, Option, Some, None, Result, Ok, Err, ap, sym, subst}
use Rattle.cf_base.specs.Stream.{Stream}
use Rattle.std.specs.Borrow.{Bor}
use Rattle.cf_base.specs.Event.{Event, In, Out, Undefined, Ended as EndedAt, Ticks, Depth}
use Rattle.cf_core.specs.FromTypes.{Tables}
use Rattle.cf_core.specs.Calls.{byte_value}
use Rattle.cf_core.specs.Run.{gives}
use Rattle.cf_core_objects.specs.declared.answer.Stop.{Stop}
use Rattle.cf_core_objects.specs.declared.answer.Stop.TheVariants as stop
use Rattle.cf_core_objects.specs.declared.answer.Value.{Value as Given}
use Rattle.cf_core_objects.specs.Store.{value_of}
use Rattle.cf_core_run.specs.declared.mark.Doing.TheVariants as doing
use Rattle.cf_core_run.specs.declared.state.Machine.{Machine}
use Rattle.cf_core_run.specs.declared.state.RunEnd.{RunEnd}
use Rattle.cf_core_run.specs.declared.state.RunEnd.TheVariants as run_ending
use Rattle.cf_core_run.specs.declared.state.Step.{Step}
use Rattle.cf_core_run.specs.declared.state.Step.TheVariants as step
use Rattle.cf_core_run.specs.Going.{Comes, GoesOn, total, from_doing, from_value, end_of as end_at}
use Rattle.cf_core_run.specs.Whole.{Around}
use Rattle.cf_run_tree.specs.declared.program.Program.{Program}
use Rattle.cf_core_drive.specs.declared.types.End.{End}
use Rattle.cf_core_drive.specs.declared.types.End.TheVariants as ended
use Rattle.cf_core_drive.specs.declared.types.Fault.{Fault}
use Rattle.cf_core_drive.specs.declared.types.Fault.TheVariants as fault
use Rattle.cf_core_drive.specs.declared.types.Tally.{Tally}
use Rattle.cf_core_drive.specs.Run.{Streams, streams, ahead_of, LeavesAt}
use Rattle.cf_core_drive.specs.Going.{Turns, Counts, Puts, Answers, TookNot, run_end}
use Rattle.cf_core_drive.proofs.GoingLaws.{going-on, going-enters, going-puts, going-not_put, going-whole, going-none, going-answers, going-not_taken}

module _ (p : Program) (m new : Machine) (a : Streams) (t : Tally) (r : Result Step Stop) (h : Comes p (λ T o. total T p m o) r new) where
  pub turns-on : r ≡ Ok step.On → Turns p m new a a t t (Ok None)
  turns-on is = λ T around means old g.
      let s = subst (λ (r : Result Step Stop). Comes p (λ T o. total T p m o) r new) is h in
      going-on (ahead_of T p around) means m new old a t g (λ rest events. s.same T (record { input = rest; heap = around.heap; trace = events; bound = around.bound; depth = around.depth }))

  pub turns-act : (n : ℕ) → r ≡ Err (stop.Act n) → Turns p m new a a t t (Ok (Some (ended.Undefined n)))
  turns-act n is = λ T around means old g.
      let s = subst (λ (r : Result Step Stop). Comes p (λ T o. total T p m o) r new) is h in
      going-whole (ahead_of T p around) means m old a t (Undefined n) g (λ rest events. s.same T (record { input = rest; heap = around.heap; trace = events; bound = around.bound; depth = around.depth }))

  pub turns-none : r ≡ Err stop.Malformed → Turns p m new a a t t (Err fault.Malformed)
  turns-none is = λ T around means old g.
      let s = subst (λ (r : Result Step Stop). Comes p (λ T o. total T p m o) r new) is h in
      going-none (ahead_of T p around) means m old a t g (λ rest events. s.same T (record { input = rest; heap = around.heap; trace = events; bound = around.bound; depth = around.depth }))

  pub turns-ends : (e : RunEnd) (end : End) → r ≡ Ok (step.Ends e) → end ≡ run_end e → Turns p m new a a t t (Ok (Some end))
  turns-ends e end is same = λ T around means old g.
      let s = subst (λ (r : Result Step Stop). Comes p (λ T o. total T p m o) r new) is h in
      subst (λ (x : End). LeavesAt (ahead_of T p around) means old a t.entered x) (sym same)
      (at e (λ T around rest events. s.same T (record { input = rest; heap = around.heap; trace = events; bound = around.bound; depth = around.depth })) T around means old g)
    where
      at : (e : RunEnd) → ((T : Tables) (around : Around) (rest : List ℕ) (events : List Event) → ahead_of T p around m rest events ≡ Some (record { end = end_at e; trace = events }))
          → Turns p m new a a t t (Ok (Some (run_end e)))
      at (run_ending.Ended status) s = λ T around means old g. going-whole (ahead_of T p around) means m old a t (EndedAt status) g (s T around)
      at run_ending.Ticks s = λ T around means old g. going-whole (ahead_of T p around) means m old a t Ticks g (s T around)
      at run_ending.Depth s = λ T around means old g. going-whole (ahead_of T p around) means m old a t Depth g (s T around)

  -- a function is entered
  pub turns-enters : (name : Bor (List ℕ)) (u : Tally) → r ≡ Ok (step.Enters name) → Counts t u → Turns p m new a a t u (Ok None)
  turns-enters name u is counts = λ T around means old g.
      let s = subst (λ (r : Result Step Stop). Comes p (λ T o. total T p m o) r new) is h in
      going-enters (ahead_of T p around) means m new old a t u name.now g
      (λ rest events. s.same T (record { input = rest; heap = around.heap; trace = events; bound = around.bound; depth = around.depth })) counts

  -- a byte is put, or is not
  pub turns-puts : (byte : ℕ) (c : Stream) (answer : Option End) → r ≡ Ok (step.Puts byte) → Puts byte a.out c answer → Turns p m new a (streams a.input c) t t (Ok answer)
  turns-puts byte c answer is puts = by answer puts
    where
      s : GoesOn p (λ T o. total T p m o) (Some (Out byte)) new
      s = subst (λ (r : Result Step Stop). Comes p (λ T o. total T p m o) r new) is h

      ahead : (T : Tables) (around : Around) (rest : List ℕ) (events : List Event) → ahead_of T p around m rest events ≡ ahead_of T p around new rest (events ++ Out byte ∷ [])
      ahead T around rest events = s.same T (record { input = rest; heap = around.heap; trace = events; bound = around.bound; depth = around.depth })

      by : (answer : Option End) → Puts byte a.out c answer → Turns p m new a (streams a.input c) t t (Ok answer)
      by None k = λ T around means old g. going-puts (ahead_of T p around) means m new old a c t byte g (ahead T around) k
      by (Some ended.SinkFault) k = λ T around means old g. going-not_put (ahead_of T p around) means m new old a c t byte g (ahead T around) k
      by (Some x) k = absurd k

-- A byte that is awaited is taken, or the end of the input is met.
module _ (p : Program) (m new : Machine) (v : Given) (asks : m.doing ≡ doing.Asks) (is : new ≡ record m { doing = doing.Gives v }) where
  takes : (T : Tables) (around : Around) (byte : ℕ) → value_of v ≡ byte_value (Some byte) → (rest : List ℕ) (events : List Event)
      → ahead_of T p around m (byte ∷ rest) events ≡ ahead_of T p around new rest (events ++ In (Some byte) ∷ [])
  takes T around byte e rest events =
      ap (λ d. from_doing T p d m (record { input = byte ∷ rest; heap = around.heap; trace = events; bound = around.bound; depth = around.depth })) asks
      ∙ ap (λ x. from_value T p m (gives x) (record { input = rest; heap = around.heap; trace = events ++ In (Some byte) ∷ []; bound = around.bound; depth = around.depth })) (sym e)
      ∙ ap (λ (n : Machine). total T p n (record { input = rest; heap = around.heap; trace = events ++ In (Some byte) ∷ []; bound = around.bound; depth = around.depth })) (sym is)

  meets : (T : Tables) (around : Around) → value_of v ≡ byte_value None → (events : List Event)
      → ahead_of T p around m [] events ≡ ahead_of T p around new [] (events ++ In None ∷ [])
  meets T around e events =
      ap (λ d. from_doing T p d m (record { input = []; heap = around.heap; trace = events; bound = around.bound; depth = around.depth })) asks
      ∙ ap (λ x. from_value T p m (gives x) (record { input = []; heap = around.heap; trace = events ++ In None ∷ []; bound = around.bound; depth = around.depth })) (sym e)
      ∙ ap (λ (n : Machine). total T p n (record { input = []; heap = around.heap; trace = events ++ In None ∷ []; bound = around.bound; depth = around.depth })) (sym is)

  pub turns-takes : (a : Streams) (c : Stream) (t u : Tally) (byte : Option ℕ) → value_of v ≡ byte_value byte → Answers a.input c t.at_end u.at_end (Ok byte) → u.entered ≡ t.entered
      → Turns p m new a (streams c a.out) t u (Ok None)
  turns-takes a c t u byte e answers same = λ T around means old g.
      going-answers (ahead_of T p around) means m new old a c t u byte g
      (λ x k. takes T around x (e ∙ ap byte_value k)) (λ k. meets T around (e ∙ ap byte_value k)) answers same

pub turns-not_taken : (p : Program) (m : Machine) (a : Streams) (c : Stream) (t u : Tally) → TookNot a.input c t.at_end u.at_end → u.entered ≡ t.entered
    → Turns p m m a (streams c a.out) t u (Ok (Some ended.SourceFault))
turns-not_taken p m a c t u not same = λ T around means old g. going-not_taken (ahead_of T p around) means m old a c t u g not same
