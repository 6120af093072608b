-- How the turns of a run lead to its end.
use Rattle.std.proofs.Common.{◌≡◌, ◌∙◌, ℕ, List, [], ◌∷◌, ◌++◌, map, Option, Some, None, Result, Ok, Err, Bor, refl, ap, sym, subst, reverse, slice_get, codes}
use Rattle.std.specs.Global.{Global}
use Rattle.std.specs.Prelude.{Vec}
use Rattle.cf_core.specs.FromTypes.{Tables}
use Rattle.cf_core.specs.Program.{Mean, no_frame, first_state, set_constant, status_of}
use Rattle.cf_core.specs.Run.{Frame, State, for_all}
use Rattle.cf_core.specs.Store.{Value, Code}
use Rattle.cf_core_run.specs.declared.mark.Calling.{Calling}
use Rattle.cf_core_run.proofs.CallLaws.{passing-end}
use Rattle.cf_run_tree.specs.declared.program.Program.{Program}
use Rattle.cf_run_tree.specs.declared.program.RunStatic.{RunStatic}
use Rattle.cf_run_tree.specs.Tree.{program_of}
use Rattle.cf_core_objects.specs.declared.answer.Stop.{Stop}
use Rattle.cf_core_objects.specs.declared.answer.Stop.TheVariants as stop
use Rattle.cf_core_objects.specs.declared.object.Objects.{Objects}
use Rattle.cf_core_objects.specs.declared.object.Entered.{Entered}
use Rattle.cf_core_objects.specs.Store.{state_of, value_of, frame_of, local_object}
use Rattle.cf_core_run.specs.declared.mark.Mark.{Mark}
use Rattle.cf_core_run.specs.declared.mark.Doing.TheVariants as doing
use Rattle.cf_core_run.specs.declared.state.End.{End}
use Rattle.cf_core_run.specs.declared.state.End.TheVariants as ending
use Rattle.cf_core_run.specs.declared.state.Event.{Event}
use Rattle.cf_core_run.specs.declared.state.RunEnd.{RunEnd}
use Rattle.cf_core_run.specs.declared.state.Limits.{Limits}
use Rattle.cf_core_run.specs.declared.state.Machine.{Machine}
use Rattle.cf_core_run.specs.declared.state.Ran.{Ran}
use Rattle.cf_core_run.specs.declared.state.Seen.{Seen}
use Rattle.cf_core_run.specs.declared.state.Step.{Step}
use Rattle.cf_core_run.specs.declared.state.Step.TheVariants as step
use Rattle.cf_core_run.specs.Going.{Outside, Comes, GoesOn, total, from_value, on_value, finish, world_of, again, setting, called, event_of, end_of as run_end_of}
use Rattle.cf_core_objects.proofs.ThenLaws.{then-assoc}
use Rattle.cf_core_objects.specs.Then.{◌▷◌}
use Rattle.cf_core_run.specs.Whole.{outside, Starts, Turns, Reads, Runs, Goes, end_of}

map-more : {A B : Type 0} (f : A → B) (xs : List A) (y : A) → map f (xs ++ y ∷ []) ≡ map f xs ++ f y ∷ []
map-more f [] y = refl
map-more f (x ∷ xs) y = ap (λ l. f x ∷ l) (map-more f xs y)

pub turns-on : (p : Program) (old new : Machine) (s : Seen) (r : Result Step Stop) → r ≡ Ok step.On → Comes p (λ T o. total T p old o) r new → Turns p old new s s (Ok None)
turns-on p old new s r is h = λ T a. (subst (λ (r : Result Step Stop). Comes p (λ T o. total T p old o) r new) is h).same T (outside s a)

pub turns-shows : (p : Program) (old new : Machine) (s t : Seen) (e : Event) → GoesOn p (λ T o. total T p old o) (Some (event_of e)) new
    → t.rest.now ≡ s.rest.now → t.trace.items ≡ s.trace.items ++ e ∷ [] → Turns p old new s t (Ok None)
turns-shows p old new s t e h er et = λ T a.
    h.same T (outside s a)
    ∙ ap (λ l. total T p new (record (outside s a) { trace = l })) (sym (ap (map event_of) et ∙ map-more event_of s.trace.items e))
    ∙ ap (λ l. total T p new (record (outside t a) { input = l })) (sym er)

pub turns-ends : (p : Program) (old new : Machine) (s : Seen) (e : RunEnd) (whole : End) (r : Result Step Stop) → r ≡ Ok (step.Ends e) → Comes p (λ T o. total T p old o) r new
    → end_of whole ≡ run_end_of e → Turns p old new s s (Ok (Some whole))
turns-ends p old new s e whole r is h same = λ T a.
    (subst (λ (r : Result Step Stop). Comes p (λ T o. total T p old o) r new) is h).same T (outside s a)
    ∙ ap (λ e. Some (record { end = e; trace = map event_of s.trace.items })) (sym same)

pub turns-act : (p : Program) (old new : Machine) (s : Seen) (n : ℕ) (r : Result Step Stop) → r ≡ Err (stop.Act n) → Comes p (λ T o. total T p old o) r new
    → Turns p old new s s (Ok (Some (ending.Undefined n)))
turns-act p old new s n r is h = λ T a. (subst (λ (r : Result Step Stop). Comes p (λ T o. total T p old o) r new) is h).same T (outside s a)

pub turns-fails : (p : Program) (old new : Machine) (s : Seen) (r : Result Step Stop) → r ≡ Err stop.Malformed → Comes p (λ T o. total T p old o) r new
    → Turns p old new s s (Err stop.Malformed)
turns-fails p old new s r is h = λ T a. (subst (λ (r : Result Step Stop). Comes p (λ T o. total T p old o) r new) is h).same T (outside s a)

pub asks-err : (p : Program) (old new : Machine) (s t : Seen) (e : Stop) → Reads s t (Err e) → Turns p old new s t (Err e)
asks-err p old new s t (stop.Act n) h = h
asks-err p old new s t stop.Malformed h = absurd h
asks-err p old new s t stop.Memory h = tt

pub goes-on : (p : Program) (first m new : Machine) (begun s t : Seen) (r : Result (Option End) Stop) → r ≡ Ok None → Goes p first begun m s → Turns p m new s t r → Goes p first begun new t
goes-on p first m new begun s t r is g h = record { same = λ T a. g.same T a ∙ (subst (λ (r : Result (Option End) Stop). Turns p m new s t r) is h) T a }

pub turns-after : (p : Program) (first m new : Machine) (begun s t : Seen) (r out : Result (Option End) Stop) → r ≡ out → Goes p first begun m s → Turns p m new s t r → Turns p first new begun t out
turns-after p first m new begun s t r out is g h = at out (subst (λ (r : Result (Option End) Stop). Turns p m new s t r) is h)
  where
    at : (out : Result (Option End) Stop) → Turns p m new s t out → Turns p first new begun t out
    at (Ok None) h = λ T a. g.same T a ∙ h T a
    at (Ok (Some e)) h = λ T a. g.same T a ∙ h T a
    at (Err stop.Malformed) h = λ T a. g.same T a ∙ h T a
    at (Err stop.Memory) h = tt
    at (Err (stop.Act n)) h = h

module _ (p : Program) (limits : Limits) (input : List ℕ) (first : Machine) (begun : Seen) (starts : Starts p limits first) (rest : begun.rest.now ≡ input) (none : begun.trace.items ≡ []) where
  begins : (T : Tables) (heap : ℕ) → Mean (program_of T p) input heap limits.depth limits.ticks ≡ total T p first (outside begun (record { heap = heap; bound = limits.ticks; depth = limits.depth }))
  begins T heap =
      starts.same T input heap
      ∙ ap (λ l. total T p first (record { input = l; heap = heap; trace = []; bound = limits.ticks; depth = limits.depth })) (sym rest)
      ∙ ap (λ l. total T p first (record { input = begun.rest.now; heap = heap; trace = map event_of l; bound = limits.ticks; depth = limits.depth })) (sym none)

  pub runs-err : (m new : Machine) (s t : Seen) (e : Stop) (r : Result (Option End) Stop) → r ≡ Err e → Goes p first begun m s → Turns p m new s t r → Runs p limits input (Err e)
  runs-err m new s t e r is g h = at e (subst (λ (r : Result (Option End) Stop). Turns p m new s t r) is h)
    where
      at : (e : Stop) → Turns p m new s t (Err e) → Runs p limits input (Err e)
      at (stop.Act n) h = h
      at stop.Malformed h = λ T heap. begins T heap ∙ g.same T _ ∙ h T _
      at stop.Memory h = tt

  pub runs-ends : (m new : Machine) (s t : Seen) (e : End) (ran : Ran) (r : Result (Option End) Stop) → r ≡ Ok (Some e) → Goes p first begun m s → Turns p m new s t r
      → ran.end ≡ e → ran.trace.items ≡ t.trace.items → Runs p limits input (Ok ran)
  runs-ends m new s t e ran r is g h ee et = λ T heap.
      begins T heap ∙ g.same T _ ∙ (subst (λ (r : Result (Option End) Stop). Turns p m new s t r) is h) T _
      ∙ ap (λ e. Some (record { end = end_of e; trace = map event_of t.trace.items })) (sym ee)
      ∙ ap (λ l. Some (record { end = end_of ran.end; trace = map event_of l })) (sym et)

-- The first state.
pub first-goes : (p : Program) (limits : Limits) (alloc : Global) (stack : Vec Mark Global) (e : Entered) (objects : Objects)
    → stack.items ≡ [] → e.depth ≡ limits.depth
    → Starts p limits (record { alloc = alloc; stack = stack; doing = doing.Starts; entered = e; objects = objects; fuel = limits.ticks; ticks = limits.ticks })
first-goes p limits alloc stack e objects hs hd = record {
  same = λ T input heap.
      let o : Outside = record { input = input; heap = heap; trace = []; bound = limits.ticks; depth = limits.depth } in
      let w = world_of limits.ticks o in
      let n = limits.ticks in
      let C = for_all (program_of T p).constants (set_constant (again T p n) (program_of T p)) in
      sym (ap (λ (ms : List Mark). finish T p o (on_value T p (reverse ms) (setting T p n p.statics (first_state (program_of T p) e.depth) w))) hs
      ∙ ap (λ d. finish T p o (setting T p n p.statics (first_state (program_of T p) d) w ▷ status_of)) hd
      ∙ ap (finish T p o) (then-assoc (C (first_state (program_of T p) limits.depth) w) (λ u. called T p n (Code (codes "__main")) []) status_of));
}

-- The static objects are there, and nothing was entered.
begun-frame : (e : Entered) → e.count ≡ 0 → e.name.now ≡ [] → e.locals.items ≡ [] → e.scope.items ≡ [] → e.temporaries.items ≡ [] → frame_of e ≡ no_frame e.depth
begun-frame e ec en el es et =
    let mk : List ℕ → List (Option ℕ) → List ℕ → Frame = λ n l s. record { function = n; count = 0; this = None; result = None; depth = e.depth; locals = λ i. local_object (slice_get l i); scope = reverse s; temporaries = [] } in
    ap (λ (l : List ℕ). record (frame_of e) { temporaries = reverse l }) et ∙ ap (λ c. record (frame_of e) { count = c; temporaries = [] }) ec ∙ ap (λ n. mk n e.locals.items e.scope.items) en ∙ ap (λ l. mk [] l e.scope.items) el ∙ ap (λ s. mk [] [] s) es

pub begun-goes : (p : Program) (old : Machine) (e : Entered) (objects : Objects) (xs : Bor (List RunStatic))
    → ((T : Tables) (e : Entered) → state_of T e objects ≡ record (first_state (program_of T p) e.depth) { frame = frame_of e })
    → e.count ≡ 0 → e.name.now ≡ [] → e.locals.items ≡ [] → e.scope.items ≡ [] → e.temporaries.items ≡ [] → e.depth ≡ old.entered.depth → xs.now ≡ p.statics
    → GoesOn p (λ T o. from_value T p old (λ s w. setting T p old.fuel p.statics (first_state (program_of T p) old.entered.depth) w) o) None
    (record old { entered = e; objects = objects; doing = doing.Sets xs })
begun-goes p old e objects xs made ec en el es et ed ex = record {
  same = λ T o.
      let w = world_of old.ticks o in
      sym (ap (λ (l : List RunStatic). finish T p o (on_value T p (reverse old.stack.items) (setting T p old.fuel l (state_of T e objects) w))) ex
      ∙ ap (λ (s : State). finish T p o (on_value T p (reverse old.stack.items) (setting T p old.fuel p.statics s w)))
      (made T e ∙ ap (λ (f : Frame). record (first_state (program_of T p) e.depth) { frame = f }) (begun-frame e ec en el es et))
      ∙ ap (λ d. finish T p o (on_value T p (reverse old.stack.items) (setting T p old.fuel p.statics (first_state (program_of T p) d) w))) ed);
}

-- `main` is called.
pub main-goes : (p : Program) (old : Machine) (c : Calling) → value_of c.callee ≡ Code (codes "__main") → c.params.now ≡ [] → c.rest.now ≡ [] → c.made.items ≡ []
    → GoesOn p (λ T o. from_value T p old (called T p old.fuel (Code (codes "__main")) []) o) None (record old { doing = doing.Passes c })
main-goes p old c hc hp hr hm = record {
  same = λ T o.
      let S = state_of T old.entered old.objects in
      let w = world_of old.ticks o in
      ap (λ r. finish T p o (on_value T p (reverse old.stack.items) r))
      (sym (passing-end T p old.fuel c S w hp hr
      ∙ ap (λ (v : Value). called T p old.fuel v c.made.items S w) hc
      ∙ ap (λ (l : List ℕ). called T p old.fuel (Code (codes "__main")) l S w) hm));
}
