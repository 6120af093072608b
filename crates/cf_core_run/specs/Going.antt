-- What a state of the runner means: the rest of the run.
use Rattle.std.specs.Prelude.{◌≡◌, bytes_eq, codes, ℕ, zero, suc, ◌-◌, Bool, true, false, List, [], ◌∷◌, ◌++◌, reverse, map, option_map, ℤ, Option, Some, None, Result, Ok, Err}
use Rattle.cf_base.specs.declared.kind.Kind.{Kind}
use Rattle.cf_base.specs.Event.{Event, Enter, In, Out, End, Ended, Ticks, Depth, Undefined}
use Rattle.cf_base.specs.World.{World, Ran, and_then, Outcome}
use Rattle.cf_core.specs.FromTypes.{Tables}
use Rattle.cf_core.specs.Core.{Core, Cores, MaybeCore, loop}
use Rattle.cf_core.specs.View.{listed, maybe}
use Rattle.cf_core.specs.Core.{item}
use Rattle.cf_core.specs.Places.{Place, inner}
use Rattle.cf_core.specs.Joined.{in_file, constant_setting}
use Rattle.cf_core.specs.Store.{Value, Built, At, Code}
use Rattle.cf_core.specs.Pointers.{truth_value}
use Rattle.cf_core.specs.Run.{Did, Act, ◌>>=◌, ◌>>◌, gives, malformed, state, changed, when, for_all, with_frame, frame_changed, lists_in_scope, lists_temporary, declared_object, object_changed, gone, some_or}
use Rattle.cf_core.specs.Access.{used, number_of, fill_zeros}
use Rattle.cf_core.specs.Scalars.{truth_of}
use Rattle.cf_core.specs.Objects.{settle, settled, result_place, run_pointer, write_bytes}
use Rattle.cf_core.specs.Types.{SourceType, parameters}
use Rattle.cf_core.specs.Calls.{Flow, Falls, Breaks, Continues, Returns, body, turn, Again, root, get, name_function, enter, end_object, full_expression, returned, in_scope}
use Rattle.cf_core.specs.Expressions.{value, last_value, arguments}
use Rattle.cf_core.specs.Statements.{does, does_maybe, does_all, falling, turning, tests_first, leaving, holds, step_and, has_case, has_default, from_case, from_default}
use Rattle.cf_core.specs.Program.{runs, first_state, set_constant, status_of, ended_run, run_outcome}
use Rattle.cf_core.specs.Calls as calls
use Rattle.cf_run_tree.specs.declared.node.Binary.{Binary}
use Rattle.cf_run_tree.specs.declared.node.Node.{Node}
use Rattle.cf_run_tree.specs.declared.program.Program.{Program}
use Rattle.cf_run_tree.specs.declared.program.RunStatic.{RunStatic}
use Rattle.cf_run_tree.specs.declared.program.Signature.{Signature}
use Rattle.cf_run_tree.specs.declared.shape.Shape.{Shape}
use Rattle.cf_run_tree.specs.Tree.{core_of, shape_type, signature_type, function_of, static_of, constants_of, program_of}
use Rattle.cf_core_place.specs.declared.part.Part.TheVariants as site
use Rattle.cf_core_place.specs.declared.part.Place.{Place as Spot}
use Rattle.cf_core_place.specs.declared.goal.Goal.{Goal}
use Rattle.cf_core_place.specs.Routes.{goal_place, row_place}
use Rattle.cf_core_objects.specs.declared.answer.Stop.{Stop}
use Rattle.cf_core_objects.specs.declared.answer.Stop.TheVariants as stop
use Rattle.cf_core_objects.specs.declared.object.Entered.{Entered}
use Rattle.cf_core_store.specs.declared.results.Applied.{Applied}
use Rattle.cf_core_objects.specs.Then.{◌▷◌}
use Rattle.cf_core_run.specs.declared.mark.Flow.{Flow as Way}
use Rattle.cf_core_run.specs.declared.mark.Flow.TheVariants as way
use Rattle.cf_core_run.specs.declared.mark.Calling.{Calling}
use Rattle.cf_core_run.specs.declared.mark.Listing.{Listing}
use Rattle.cf_core_run.specs.declared.mark.Repeated.{Repeated}
use Rattle.cf_core_run.specs.declared.mark.ValueMark.{ValueMark}
use Rattle.cf_core_run.specs.declared.mark.ValueMark.TheVariants as on_value_mark
use Rattle.cf_core_run.specs.declared.mark.TestMark.{TestMark}
use Rattle.cf_core_run.specs.declared.mark.TestMark.TheVariants as test
use Rattle.cf_core_run.specs.declared.mark.FlowMark.{FlowMark}
use Rattle.cf_core_run.specs.declared.mark.FlowMark.TheVariants as part
use Rattle.cf_core_run.specs.declared.mark.Mark.{Mark}
use Rattle.cf_core_run.specs.declared.mark.Mark.TheVariants as mark
use Rattle.cf_core_run.specs.declared.mark.Doing.{Doing}
use Rattle.cf_core_run.specs.declared.mark.Doing.TheVariants as doing
use Rattle.cf_core_run.specs.declared.state.Machine.{Machine}
use Rattle.cf_core_run.specs.declared.state.Event.{Event as Seen}
use Rattle.cf_core_run.specs.declared.state.Event.TheVariants as seen
use Rattle.cf_core_run.specs.declared.state.RunEnd.{RunEnd}
use Rattle.cf_core_run.specs.declared.state.RunEnd.TheVariants as ending
use Rattle.cf_core_run.specs.declared.state.Step.{Step}
use Rattle.cf_core_run.specs.declared.state.Step.TheVariants as step
use Rattle.cf_core_objects.specs.Store.{state_of, value_of, frame_of}
use Rattle.cf_core_store.specs.Values.{ready, of_two, of_value}

-- a whole object
abbrev pub whole_place : ℕ → Spot
whole_place o = record { object = o; part = site.Whole }

abbrev pub flow_of : Way → Flow
flow_of way.Falls = Falls
flow_of way.Breaks = Breaks
flow_of way.Continues = Continues
flow_of (way.Returns v) = Returns (value_of v)

-- a function of the library has given a value, and the storage of its parameters ends, which stand here in reverse
abbrev pub go_library : List ℕ → Value → Act Value
go_library made v = for_all (reverse made) (λ o. object_changed o gone) >> gives v

-- what the runner does not hold: the input left, the heap left, the trace so far, and the bound and depth that the run began with
pub record Outside : Type 0 where
  pub input : List ℕ
  pub heap : ℕ
  pub trace : List Event
  pub bound : ℕ
  pub depth : ℕ

abbrev pub world_of : ℕ → Outside → World
world_of ticks o = record { ticks = ticks; input = o.input; heap = o.heap; trace = o.trace }

abbrev pub noted : Option Event → Outside → Outside
noted None o = o
noted (Some event) o = record o { trace = o.trace ++ event ∷ [] }

module _ (T : Tables) (p : Program) where
  abbrev pub core : Node → Core
  core e = core_of T p e

  abbrev pub cores : List Node → Cores
  cores es = listed (map (core_of T p) es)

  abbrev pub maybe_core : Option Node → MaybeCore
  maybe_core e = maybe (option_map (core_of T p) e)

  abbrev pub loop_of : Repeated → Core
  loop_of r = loop r.form (maybe_core r.condition.now) (maybe_core r.step.now) (core r.body.now)

  -- functions and turns, so deep
  abbrev pub again : ℕ → Again
  again k = runs (program_of T p) k

  abbrev pub valued : ℕ → Core → Option Place → Act Value
  valued k e into = value (again k) (program_of T p) e into

  abbrev pub performed : ℕ → Core → Act Flow
  performed k s = does (again k) (program_of T p) s

  abbrev pub performed_all : ℕ → Cores → Act Flow
  performed_all k es = does_all (again k) (program_of T p) es

  -- what a value that is called is run on, with the objects of its parameters
  abbrev pub called : ℕ → Value → List ℕ → Act Value
  called k f os = run_pointer (again k) (program_of T p) None f os None

  -- `putchar` or `exit` with a value, or with the first of these parameters
  abbrev pub put_or_exit : List ℕ → Value → Act Value
  put_or_exit name v = when (bytes_eq name (codes "putchar")) (calls.put v) (calls.leave_with v)

  -- `getchar`, where true, or another function of the library, where its first parameter holds this
  abbrev pub library_by : Bool → List ℕ → Option Value → Act Value
  library_by true name first = get
  library_by false name first = some_or first malformed >>= put_or_exit name

  abbrev pub library_on : List ℕ → Option Value → Act Value
  library_on name first = library_by (bytes_eq name (codes "getchar")) name first

  -- the other arguments of a call, and then the call
  abbrev pub passing : ℕ → Calling → Act Value
  passing k c = arguments (again k) (program_of T p) (map (shape_type T) c.params.now) (cores c.rest.now) >>= (λ os. called k (value_of c.callee) (c.made.items ++ os))

  -- the arguments of a call of a function of this type, and then the call
  abbrev pub starting : ℕ → Value → SourceType → Cores → Option Place → Act Value
  starting k f t es into =
      arguments (again k) (program_of T p) (parameters t) es >>= (λ os. run_pointer (again k) (program_of T p) None f os (result_place t into))

  -- what is called through a pointer, and then its arguments
  abbrev pub go_callee : ℕ → Signature → List Node → Value → Act Value
  go_callee k f es v = used v >>= (λ x. starting k x (signature_type T f) (cores es) None)

  -- a parameter of this type is built by its argument, and then the others
  abbrev pub pass_next : ℕ → Calling → Shape → Node → Act Value
  pass_next k c s e = do
    o ← declared_object (shape_type T s)
    settled [] (root o) (valued k (core_of T p e) (Some (root o)))
    os ← arguments (again k) (program_of T p) (map (shape_type T) c.params.now) (cores c.rest.now)
    called k (value_of c.callee) (c.made.items ++ o ∷ os)

  -- a full expression
  abbrev pub full : {A : Type 0} → ℕ → Act A → Act A
  full k act = full_expression (again k) (program_of T p) act

  -- one in which something is made of a value
  abbrev pub full_by : ℕ → Core → Applied → Act Value
  full_by k c a = full k (valued k c None >>= of_value T a)

  -- a full expression has ended with this: its temporaries end, and those of the one around it stand again
  abbrev pub closed : {A : Type 0} → ℕ → List ℕ → A → Act A
  closed k around v = do
    t ← state
    for_all t.frame.temporaries (end_object (again k) (program_of T p))
    frame_changed (λ f. record f { temporaries = around })
    gives v

  -- an initialiser has its value, which is stored at its goal before its full expression ends
  abbrev pub go_stored : ℕ → Goal → List ℕ → Value → Act Value
  go_stored k q around v = settle [] (goal_place q) v >>= (λ u. closed k (reverse around) Built)

  -- an initialiser of a place, as a full expression of its own, and then this
  abbrev pub initialised : {A : Type 0} → ℕ → Core → Place → Act A → Act A
  initialised k e q next = full k (settled [] q (valued k e (Some q))) >> next

  -- a temporary of the full expression has its value, or one that lives as long as a local
  abbrev pub go_temporary : ℕ → ℕ → Value → Act Value
  go_temporary k o v = settle [] (root o) v >>= (λ u. frame_changed (lists_temporary o) >> gives (At (root o)))

  abbrev pub go_held : ℕ → ℕ → Value → Act Value
  go_held k o v = settle [] (root o) v >>= (λ u. frame_changed (lists_in_scope o) >> gives (At (root o)))

  abbrev pub scoped : ℕ → Act Flow → Act Flow
  scoped k act = in_scope (again k) (program_of T p) act

  -- after the body of a loop
  abbrev pub turned : ℕ → Repeated → Bool → Act Flow
  turned k r true = step_and (again k) (program_of T p) (maybe_core r.step.now) (again k (turn (loop_of r)))
  turned k r false = holds (again k) (program_of T p) (maybe_core r.condition.now) >>= (λ t. when t (again k (turn (loop_of r))) (gives Falls))

  abbrev pub body_turn : ℕ → Repeated → Act Flow
  body_turn k r = scoped k (performed k (core r.body.now)) >>= turning (turned k r (tests_first r.form))

  abbrev pub last_of : ℕ → List Node → Act Value
  last_of k es = last_value (again k) (program_of T p) (cores es)

  -- 1 if an expression counts as true, or 0
  abbrev pub truth_by : ℕ → Node → Act Value
  truth_by k b = valued k (core_of T p b) None >>= truth_of >>= (λ y. gives (truth_value y))

  abbrev pub go_and : ℕ → Node → Value → Act Value
  go_and k b v =
      truth_of v >>= (λ x. when x (truth_by k b) (gives (truth_value false)))

  abbrev pub go_or : ℕ → Node → Value → Act Value
  go_or k b v =
      truth_of v >>= (λ x. when x (gives (truth_value true)) (truth_by k b))

  abbrev pub go_choice : ℕ → Node → Node → Value → Act Value
  go_choice k a b v = truth_of v >>= (λ x. when x (valued k (core_of T p a) None) (valued k (core_of T p b) None))

  abbrev pub go_right : ℕ → Binary → Node → Value → Act Value
  go_right k op b v = ready op v >>= (λ x. valued k (core_of T p b) None >>= of_two op x)

  abbrev pub go_argument : ℕ → Calling → ℕ → Value → Act Value
  go_argument k c o v =
      settle [] (root o) v
      >> (arguments (again k) (program_of T p) (map (shape_type T) c.params.now) (cores c.rest.now)
      >>= (λ os. called k (value_of c.callee) (c.made.items ++ o ∷ os)))

  -- a function is named with this type
  abbrev pub naming : List ℕ → SourceType → Act Value
  naming name t = name_function (program_of T p) name t >> gives (Code name)

  -- an array of zeros gets these bytes, or a place its zeros
  abbrev pub putting_bytes : Kind → Place → List ℕ → Act Value
  putting_bytes k q bytes = write_bytes k q 0 bytes >> gives Built

  abbrev pub writing : Kind → Place → List ℕ → Act Value
  writing k q bytes = fill_zeros [] q >> putting_bytes k q bytes

  abbrev pub zeroing : Place → Act Value
  zeroing q = fill_zeros [] q >> gives Built

  -- the element of an array at an index is initialised (8.4.1)
  abbrev pub one_element : ℕ → ℕ → Place → Node → Act (Unit {0})
  one_element k i q e = full k (settled [] (inner (item i) q) (valued k (core_of T p e) (Some (inner (item i) q))))

  -- so many elements from an index on, by initialisers of their own while there are some, and then by one
  abbrev pub elements_from : ℕ → ℕ → Place → ℕ → List Node → Node → Act Value
  elements_from k i q zero es filler = gives Built
  elements_from k i q (suc n) [] filler = one_element k i q filler >> elements_from k (suc i) q n [] filler
  elements_from k i q (suc n) (e ∷ es) filler = one_element k i q e >> elements_from k (suc i) q n es filler

  abbrev pub listing : ℕ → Listing → Act Value
  listing k l = elements_from k l.index (row_place l.array) (l.count - l.index) l.rest.now l.filler.now

  -- the next element is initialised so, and then come the others
  abbrev pub listing_with : ℕ → Listing → Node → Act Value
  listing_with k l e = one_element k l.index (row_place l.array) e >> elements_from k (suc l.index) (row_place l.array) (l.count - suc l.index) l.rest.now l.filler.now

  -- the constant initialisers of these static objects, and then `main`
  abbrev pub setting : ℕ → List RunStatic → Act Value
  setting k xs =
      for_all (constants_of (map (static_of T p) xs)) (set_constant (again k) (program_of T p)) >> called k (Code (codes "__main")) []

  abbrev pub setting_with : ℕ → RunStatic → List RunStatic → Act Value
  setting_with k x xs =
      set_constant (again k) (program_of T p) (constant_setting (in_file 1 (codes "__sti")) (static_of T p x)) >> setting k xs

  -- control has reached the static object of this number
  abbrev pub reaching : ℕ → RunStatic → ℕ → List RunStatic → Act Value
  reaching k x o xs = do
    changed (λ s. record s { reached = x.name ∷ s.reached })
    full k (settled [] (root o) (valued k (core_of T p x.start) (Some (root o))))
    setting k xs

  -- what a value leads to
  abbrev pub go_value : ℕ → ValueMark → Value → Act Value
  go_value k (on_value_mark.Apply a) v = of_value T a v
  go_value k (on_value_mark.Right op b) v = go_right k op b.now v
  go_value k (on_value_mark.And b) v = go_and k b.now v
  go_value k (on_value_mark.Or b) v = go_or k b.now v
  go_value k (on_value_mark.Choice a b) v = go_choice k a.now b.now v
  go_value k (on_value_mark.Comma es) v = last_of k es.now
  go_value k (on_value_mark.Callee f es) v = go_callee k f.now es.now v
  go_value k (on_value_mark.Argument c o) v = go_argument k c o v
  go_value k (on_value_mark.Temporary o) v = go_temporary k o v
  go_value k (on_value_mark.Held o) v = go_held k o v
  go_value k (on_value_mark.Library made) v = go_library made.items v
  go_value k (on_value_mark.Element l) v = listing k l
  go_value k (on_value_mark.Constant xs) v = setting k xs.now
  go_value k (on_value_mark.Whole around) v = closed k (reverse around.items) v
  go_value k (on_value_mark.Stored q around) v = go_stored k q around.items v

  -- the statements behind the label of a switch for this number
  abbrev pub labelled : ℕ → ℤ → Cores → Act Flow
  labelled k z es =
      when (has_case z es) (from_case (again k) (program_of T p) z es)
      (when (has_default es) (from_default (again k) (program_of T p) es) (gives Falls))

  abbrev pub selected : ℕ → Cores → ℤ → Act Flow
  selected k es z = scoped k (labelled k z es) >>= leaving

  abbrev pub go_switch : ℕ → Cores → Value → Act Flow
  go_switch k es v = number_of v >>= selected k es

  abbrev pub first_turn : ℕ → Repeated → Act Flow
  first_turn k r = holds (again k) (program_of T p) (maybe_core r.condition.now) >>= (λ t. when t (body_turn k r) (gives Falls))

  -- a local has its value
  abbrev pub go_declared : ℕ → ℕ → Act Flow
  go_declared k o = frame_changed (lists_in_scope o) >> gives Falls

  abbrev pub go_scope : ℕ → List ℕ → Flow → Act Flow
  go_scope k saved flow = do
    t ← state
    for_all t.frame.scope (end_object (again k) (program_of T p))
    frame_changed (λ f. record f { scope = reverse saved })
    gives flow

  abbrev pub go_parameters : ℕ → List ℕ → Flow → Act Flow
  go_parameters k args flow = for_all (reverse args) (end_object (again k) (program_of T p)) >> gives flow

  -- what stands behind `else`
  abbrev pub performed_other : ℕ → Option Node → Act Flow
  performed_other k b = does_maybe (again k) (program_of T p) (maybe_core b)

  abbrev pub go_if : ℕ → Node → Option Node → Value → Act Flow
  go_if k a b v = truth_of v >>= (λ t. when t (performed k (core_of T p a)) (performed_other k b))

  abbrev pub go_first : ℕ → Repeated → Value → Act Flow
  go_first k r v = truth_of v >>= (λ t. when t (body_turn k r) (gives Falls))

  abbrev pub go_last : ℕ → Repeated → Value → Act Flow
  go_last k r v = truth_of v >>= (λ t. when t (again k (turn (loop_of r))) (gives Falls))

  abbrev pub go_test : ℕ → TestMark → Value → Act Flow
  go_test k test.Statement v = gives Falls
  go_test k (test.If a b) v = go_if k a.now b.now v
  go_test k (test.First r) v = go_first k r v
  go_test k (test.Last r) v = go_last k r v
  go_test k (test.Stepped r) v = again k (turn (loop_of r))
  go_test k (test.Declared o) v = go_declared k o
  go_test k test.Result v = gives (Returns v)
  go_test k (test.Switch es) v = go_switch k (cores es.now) v

  abbrev pub go_flow : ℕ → FlowMark → Flow → Act Flow
  go_flow k (part.Rest es) flow = falling (performed_all k (cores es.now)) flow
  go_flow k (part.Scope saved) flow = go_scope k saved.items flow
  go_flow k (part.Turn r) flow = turning (turned k r (tests_first r.form)) flow
  go_flow k part.Leaving flow = leaving flow
  go_flow k (part.Parameters args) flow = go_parameters k args.items flow

  abbrev pub go_back : ℕ → Shape → Entered → Flow → Act Value
  go_back k s e flow = changed (with_frame (frame_of e)) >> returned (shape_type T s) flow

  -- what all marks make of a run that gives a value, or ends a statement; the newest mark first
  abbrev mutual
    pub on_value : List Mark → Ran (Did Value) → Ran (Did ℤ)
    on_value [] r = r ▷ status_of
    on_value (mark.Value k m ∷ ms) r = on_value ms (r ▷ go_value k m)
    on_value (mark.Test k m ∷ ms) r = on_flow ms (r ▷ go_test k m)
    on_value (mark.Flow k m ∷ ms) r = r ▷ (λ v. malformed)
    on_value (mark.Back k s e ∷ ms) r = r ▷ (λ v. malformed)

    pub on_flow : List Mark → Ran (Did Flow) → Ran (Did ℤ)
    on_flow [] r = r ▷ (λ flow. malformed)
    on_flow (mark.Value k m ∷ ms) r = r ▷ (λ flow. malformed)
    on_flow (mark.Test k m ∷ ms) r = r ▷ (λ flow. malformed)
    on_flow (mark.Flow k m ∷ ms) r = on_flow ms (r ▷ go_flow k m)
    on_flow (mark.Back k s e ∷ ms) r = on_value ms (r ▷ go_back k s e)

  abbrev pub finish : Outside → Ran (Did ℤ) → Option Outcome
  finish o r = run_outcome (and_then r (ended_run (again o.bound) (program_of T p) o.depth (suc o.bound)))

  -- the outcome where this act runs, and then what the marks say
  abbrev pub from_value : Machine → Act Value → Outside → Option Outcome
  from_value m act o = finish o (on_value (reverse m.stack.items) (act (state_of T m.entered m.objects) (world_of m.ticks o)))

  abbrev pub from_flow : Machine → Act Flow → Outside → Option Outcome
  from_flow m act o = finish o (on_flow (reverse m.stack.items) (act (state_of T m.entered m.objects) (world_of m.ticks o)))

  abbrev pub from_doing : Doing → Machine → Outside → Option Outcome
  from_doing doing.Starts m o = from_value m (λ s w. setting m.fuel p.statics (first_state (program_of T p) m.entered.depth) w) o
  from_doing (doing.Sets xs) m o = from_value m (setting m.fuel xs.now) o
  from_doing (doing.Evaluate e into) m o = from_value m (valued m.fuel (core e.now) (option_map goal_place into)) o
  from_doing (doing.Gives v) m o = from_value m (gives (value_of v)) o
  from_doing (doing.Lists l) m o = from_value m (listing m.fuel l) o
  from_doing (doing.Passes c) m o = from_value m (passing m.fuel c) o
  from_doing (doing.Enter f args) m o = from_value m (enter (again m.fuel) (function_of T p f.now) args.items None None) o
  from_doing (doing.Body f args) m o = from_flow m (again m.fuel (body (function_of T p f.now) args.items)) o
  from_doing (doing.Perform s) m o = from_flow m (performed m.fuel (core s.now)) o
  from_doing (doing.Follow es) m o = from_flow m (performed_all m.fuel (cores es.now)) o
  from_doing (doing.Case z es) m o = from_flow m (from_case (again m.fuel) (program_of T p) z (cores es.now)) o
  from_doing (doing.Default es) m o = from_flow m (from_default (again m.fuel) (program_of T p) (cores es.now)) o
  from_doing (doing.Repeat r) m o = from_flow m (again m.fuel (turn (loop_of r))) o
  from_doing (doing.Ends flow) m o = from_flow m (gives (flow_of flow)) o
  from_doing doing.Asks m o = from_value m get o

  -- the outcome that lies ahead of a state
  abbrev pub total : Machine → Outside → Option Outcome
  total m o = from_doing m.doing m o

-- what may lie ahead
abbrev pub Ahead : Type 0
Ahead = Tables → Outside → Option Outcome

-- the run goes on from the new state, with this event added to its trace
pub record GoesOn (p : Program) (ahead : Ahead) (event : Option Event) (new : Machine) : Type 0 where
  pub same : (T : Tables) (o : Outside) → ahead T o ≡ total T p new (noted event o)

-- the run ends here
pub record EndsAs (ahead : Ahead) (end : End) : Type 0 where
  pub same : (T : Tables) (o : Outside) → ahead T o ≡ Some (record { end = end; trace = o.trace })

pub record HasNone (ahead : Ahead) : Type 0 where
  pub same : (T : Tables) (o : Outside) → ahead T o ≡ None

abbrev pub event_of : Seen → Event
event_of (seen.Enter name) = Enter name.now
event_of (seen.In byte) = In byte
event_of (seen.Out byte) = Out byte

abbrev pub end_of : RunEnd → End
end_of (ending.Ended status) = Ended status
end_of ending.Ticks = Ticks
end_of ending.Depth = Depth

abbrev pub StopsAt : Ahead → Stop → Type 0
StopsAt ahead (stop.Act act) = EndsAs ahead (Undefined act)
StopsAt ahead stop.Malformed = HasNone ahead
StopsAt ahead stop.Memory = Unit {0}

-- what a step comes to, where this lies ahead
abbrev pub Comes : Program → Ahead → Result Step Stop → Machine → Type 0
Comes p ahead (Ok step.On) new = GoesOn p ahead None new
Comes p ahead (Ok (step.Enters name)) new = GoesOn p ahead (Some (Enter name.now)) new
Comes p ahead (Ok (step.Puts byte)) new = GoesOn p ahead (Some (Out byte)) new
Comes p ahead (Ok (step.Ends e)) new = EndsAs ahead (end_of e)
Comes p ahead (Err stop) new = StopsAt ahead stop

-- a scope was opened: what runs in it comes next
pub record OpensScope (old new : Machine) : Type 0 where
  pub same : (T : Tables) (p : Program) (act : Act Flow) (o : Outside) → from_flow T p old (scoped T p old.fuel act) o ≡ from_flow T p new act o
  pub fuel : new.fuel ≡ old.fuel

-- a full expression was begun: what runs in it comes next, and the mark says what its value leads to
pub record OpensWhole (old new : Machine) (m : TestMark) : Type 0 where
  pub same : (T : Tables) (p : Program) (act : Act Value) (o : Outside) → from_flow T p old (λ s w. full T p old.fuel act s w ▷ go_test T p old.fuel m) o ≡ from_value T p new act o
  pub fuel : new.fuel ≡ old.fuel

-- an initialiser of a goal was begun: what gives its value comes next, and the mark says what follows once that is stored
pub record OpensStart (old new : Machine) (q : Goal) (m : TestMark) : Type 0 where
  pub same : (T : Tables) (p : Program) (act : Act Value) (o : Outside)
      → from_flow T p old (full T p old.fuel (settled [] (goal_place q) act) >> go_test T p old.fuel m Built) o ≡ from_value T p new act o
  pub fuel : new.fuel ≡ old.fuel

-- the same inside an expression, or before a further initialiser
pub record OpensPart (old new : Machine) (q : Goal) (m : ValueMark) : Type 0 where
  pub same : (T : Tables) (p : Program) (act : Act Value) (o : Outside)
      → from_value T p old (full T p old.fuel (settled [] (goal_place q) act) >> go_value T p old.fuel m Built) o ≡ from_value T p new act o
  pub fuel : new.fuel ≡ old.fuel
