-- How a run goes on behind one that has given a value, and what the marks make of one that has ended.
use Rattle.std.proofs.Common.{◌≡◌, ◌∙◌, List, [], ◌∷◌, ◌++◌, ℤ, None, Result, Ok, Err, refl, ap, reverse, length, arith}
use Rattle.std.proofs.lemmas.List.{reverse-append}
use Rattle.cf_base.specs.Event.{Event, End, Undefined}
use Rattle.cf_base.specs.World.{World, Went, Stops}
use Rattle.cf_core.specs.FromTypes.{Tables}
use Rattle.cf_core.specs.Store.{Value}
use Rattle.cf_core.specs.Run.{State, Gives, Exits, Malformed, Act, ◌>>=◌}
use Rattle.cf_core.specs.Calls.{Flow}
use Rattle.cf_run_tree.specs.declared.program.Program.{Program}
use Rattle.cf_core_objects.specs.declared.answer.Stop.{Stop}
use Rattle.cf_core_objects.specs.declared.answer.Stop.TheVariants as stop
use Rattle.cf_core_objects.specs.declared.answer.Value.{Value as Given}
use Rattle.cf_core_objects.specs.declared.object.Entered.{Entered}
use Rattle.cf_core_objects.specs.declared.object.Objects.{Objects}
use Rattle.cf_core_run.specs.declared.mark.Flow.{Flow as Way}
use Rattle.cf_core_run.specs.declared.mark.Mark.{Mark}
use Rattle.cf_core_run.specs.declared.mark.Mark.TheVariants as mark
use Rattle.cf_core_run.specs.declared.mark.Doing.TheVariants as doing
use Rattle.cf_core_run.specs.declared.state.Machine.{Machine}
use Rattle.cf_core_run.specs.declared.state.Step.{Step}
use Rattle.cf_core_run.specs.declared.state.Step.TheVariants as step
use Rattle.cf_core_objects.specs.Answer.{Told, Stopped}
use Rattle.cf_core_objects.specs.Store.{state_of, value_of}
use Rattle.cf_core_objects.specs.Then.{◌▷◌}
use Rattle.cf_core_objects.proofs.ThenLaws.{told-err, told-ok, stops-on}
use Rattle.cf_core_run.specs.Going.{on_value, on_flow, finish, from_value, from_flow, flow_of, world_of, Outside, Ahead, GoesOn, StopsAt, Comes}

pub nil : {A : Type 0} (xs : List A) → length xs ≡ 0 → xs ≡ []
nil [] e = refl
nil (x ∷ xs) e = absurd (omega (arith, e))

-- The newest mark comes first.
pub pushed : (ms : List Mark) (m : Mark) → reverse (ms ++ m ∷ []) ≡ m ∷ reverse ms
pushed ms m = reverse-append ms (m ∷ [])

-- What has ended stays so.
mutual
  pub value-stops : (T : Tables) (p : Program) (ms : List Mark) (e : End) (t : List Event) → on_value T p ms (Stops e t) ≡ Stops e t
  value-stops T p [] e t = refl
  value-stops T p (mark.Value k m ∷ ms) e t = value-stops T p ms e t
  value-stops T p (mark.Test k m ∷ ms) e t = flow-stops T p ms e t
  value-stops T p (mark.Flow k m ∷ ms) e t = refl
  value-stops T p (mark.Back k s x ∷ ms) e t = refl

  pub flow-stops : (T : Tables) (p : Program) (ms : List Mark) (e : End) (t : List Event) → on_flow T p ms (Stops e t) ≡ Stops e t
  flow-stops T p [] e t = refl
  flow-stops T p (mark.Value k m ∷ ms) e t = refl
  flow-stops T p (mark.Test k m ∷ ms) e t = refl
  flow-stops T p (mark.Flow k m ∷ ms) e t = flow-stops T p ms e t
  flow-stops T p (mark.Back k s x ∷ ms) e t = value-stops T p ms e t

mutual
  pub value-fails : (T : Tables) (p : Program) (ms : List Mark) (w : World) → on_value T p ms (Went Malformed w) ≡ Went Malformed w
  value-fails T p [] w = refl
  value-fails T p (mark.Value k m ∷ ms) w = value-fails T p ms w
  value-fails T p (mark.Test k m ∷ ms) w = flow-fails T p ms w
  value-fails T p (mark.Flow k m ∷ ms) w = refl
  value-fails T p (mark.Back k s x ∷ ms) w = refl

  pub flow-fails : (T : Tables) (p : Program) (ms : List Mark) (w : World) → on_flow T p ms (Went Malformed w) ≡ Went Malformed w
  flow-fails T p [] w = refl
  flow-fails T p (mark.Value k m ∷ ms) w = refl
  flow-fails T p (mark.Test k m ∷ ms) w = refl
  flow-fails T p (mark.Flow k m ∷ ms) w = flow-fails T p ms w
  flow-fails T p (mark.Back k s x ∷ ms) w = value-fails T p ms w

mutual
  pub value-exits : (T : Tables) (p : Program) (ms : List Mark) (z : ℤ) (s : State) (w : World) → on_value T p ms (Went (Exits z s) w) ≡ Went (Exits z s) w
  value-exits T p [] z s w = refl
  value-exits T p (mark.Value k m ∷ ms) z s w = value-exits T p ms z s w
  value-exits T p (mark.Test k m ∷ ms) z s w = flow-exits T p ms z s w
  value-exits T p (mark.Flow k m ∷ ms) z s w = refl
  value-exits T p (mark.Back k x e ∷ ms) z s w = refl

  pub flow-exits : (T : Tables) (p : Program) (ms : List Mark) (z : ℤ) (s : State) (w : World) → on_flow T p ms (Went (Exits z s) w) ≡ Went (Exits z s) w
  flow-exits T p [] z s w = refl
  flow-exits T p (mark.Value k m ∷ ms) z s w = refl
  flow-exits T p (mark.Test k m ∷ ms) z s w = refl
  flow-exits T p (mark.Flow k m ∷ ms) z s w = flow-exits T p ms z s w
  flow-exits T p (mark.Back k x e ∷ ms) z s w = value-exits T p ms z s w

-- What an answer says of the run that it is about.

pub value-stopped : (p : Program) (m : Machine) (act : Tables → Act Value) (e : Stop)
    → ((T : Tables) (w : World) → Stopped e w (act T (state_of T m.entered m.objects) w)) → StopsAt (λ T o. from_value T p m (act T) o) e
value-stopped p m act (stop.Act n) h = record {
  same = λ T o. ap (λ r. finish T p o (on_value T p (reverse m.stack.items) r)) (h T (world_of m.ticks o))
      ∙ ap (finish T p o) (value-stops T p (reverse m.stack.items) (Undefined n) o.trace);
}
value-stopped p m act stop.Malformed h = record {
  same = λ T o. ap (λ r. finish T p o (on_value T p (reverse m.stack.items) r)) (h T (world_of m.ticks o))
      ∙ ap (finish T p o) (value-fails T p (reverse m.stack.items) (world_of m.ticks o));
}
value-stopped p m act stop.Memory h = tt

pub flow-stopped : (p : Program) (m : Machine) (act : Tables → Act Flow) (e : Stop)
    → ((T : Tables) (w : World) → Stopped e w (act T (state_of T m.entered m.objects) w)) → StopsAt (λ T o. from_flow T p m (act T) o) e
flow-stopped p m act (stop.Act n) h = record {
  same = λ T o. ap (λ r. finish T p o (on_flow T p (reverse m.stack.items) r)) (h T (world_of m.ticks o))
      ∙ ap (finish T p o) (flow-stops T p (reverse m.stack.items) (Undefined n) o.trace);
}
flow-stopped p m act stop.Malformed h = record {
  same = λ T o. ap (λ r. finish T p o (on_flow T p (reverse m.stack.items) r)) (h T (world_of m.ticks o))
      ∙ ap (finish T p o) (flow-fails T p (reverse m.stack.items) (world_of m.ticks o));
}
flow-stopped p m act stop.Memory h = tt

-- The act has given a value, which is given on.
pub value-gives : (p : Program) (m : Machine) (entered : Entered) (objects : Objects) (act : Tables → Act Value) (v : Given)
    → ((T : Tables) (w : World) → act T (state_of T m.entered m.objects) w ≡ Went (Gives (value_of v) (state_of T entered objects)) w)
    → GoesOn p (λ T o. from_value T p m (act T) o) None (record m { doing = doing.Gives v; entered = entered; objects = objects })
value-gives p m entered objects act v h = record { same = λ T o. ap (λ r. finish T p o (on_value T p (reverse m.stack.items) r)) (h T (world_of m.ticks o)) }

pub flow-ends : (p : Program) (m : Machine) (entered : Entered) (objects : Objects) (act : Tables → Act Flow) (flow : Way)
    → ((T : Tables) (w : World) → act T (state_of T m.entered m.objects) w ≡ Went (Gives (flow_of flow) (state_of T entered objects)) w)
    → GoesOn p (λ T o. from_flow T p m (act T) o) None (record m { doing = doing.Ends flow; entered = entered; objects = objects })
flow-ends p m entered objects act flow h = record { same = λ T o. ap (λ r. finish T p o (on_flow T p (reverse m.stack.items) r)) (h T (world_of m.ticks o)) }

-- What lies ahead is the same.
pub comes-by : (p : Program) (ahead other : Ahead) (r : Result Step Stop) (new : Machine) → ((T : Tables) (o : Outside) → ahead T o ≡ other T o) → Comes p other r new → Comes p ahead r new
comes-by p ahead other (Ok step.On) new e h = record { same = λ T o. e T o ∙ h.same T o }
comes-by p ahead other (Ok (step.Enters x)) new e h = record { same = λ T o. e T o ∙ h.same T o }
comes-by p ahead other (Ok (step.Puts x)) new e h = record { same = λ T o. e T o ∙ h.same T o }
comes-by p ahead other (Ok (step.Ends x)) new e h = record { same = λ T o. e T o ∙ h.same T o }
comes-by p ahead other (Err (stop.Act n)) new e h = record { same = λ T o. e T o ∙ h.same T o }
comes-by p ahead other (Err stop.Malformed) new e h = record { same = λ T o. e T o ∙ h.same T o }
comes-by p ahead other (Err stop.Memory) new e h = tt

pub value-as : (p : Program) (m : Machine) (act other : Tables → Act Value) (r : Result Step Stop) (new : Machine)
    → Comes p (λ T o. from_value T p m (other T) o) r new → ((T : Tables) (s : State) (w : World) → act T s w ≡ other T s w) → Comes p (λ T o. from_value T p m (act T) o) r new
value-as p m act other r new h e = comes-by p (λ T o. from_value T p m (act T) o) (λ T o. from_value T p m (other T) o) r new
    (λ T o. ap (λ r. finish T p o (on_value T p (reverse m.stack.items) r)) (e T (state_of T m.entered m.objects) (world_of m.ticks o))) h

pub flow-as : (p : Program) (m : Machine) (act other : Tables → Act Flow) (r : Result Step Stop) (new : Machine)
    → Comes p (λ T o. from_flow T p m (other T) o) r new → ((T : Tables) (w : World) → act T (state_of T m.entered m.objects) w ≡ other T (state_of T m.entered m.objects) w)
    → Comes p (λ T o. from_flow T p m (act T) o) r new
flow-as p m act other r new h e = comes-by p (λ T o. from_flow T p m (act T) o) (λ T o. from_flow T p m (other T) o) r new
    (λ T o. ap (λ r. finish T p o (on_flow T p (reverse m.stack.items) r)) (e T (world_of m.ticks o))) h

-- What is done first stops, or gives what the rest goes on with.
pub value-err : {A B : Type 0} (p : Program) (m : Machine) (view : A → B) (r : Result A Stop) (e : Stop) (first : Tables → Act B) (go : Tables → B → Act Value) (s : Tables → State)
    → r ≡ Err e → ((T : Tables) (w : World) → Told view r (s T) w (first T (state_of T m.entered m.objects) w)) → StopsAt (λ T o. from_value T p m (first T >>= go T) o) e
value-err p m view r e first go s is h = value-stopped p m (λ T. first T >>= go T) e
    (λ T w. stops-on e (first T (state_of T m.entered m.objects) w) (go T) w (told-err view r e (s T) w (first T (state_of T m.entered m.objects) w) is (h T w)))

pub value-ok : {A B : Type 0} (p : Program) (m : Machine) (entered : Entered) (objects : Objects) (view : A → B) (r : Result A Stop) (a : A) (first : Tables → Act B) (go : Tables → B → Act Value)
    (answer : Result Step Stop) (new : Machine) → r ≡ Ok a
    → ((T : Tables) (w : World) → Told view r (state_of T entered objects) w (first T (state_of T m.entered m.objects) w))
    → Comes p (λ T o. from_value T p (record m { entered = entered; objects = objects }) (go T (view a)) o) answer new
    → Comes p (λ T o. from_value T p m (first T >>= go T) o) answer new
value-ok p m entered objects view r a first go answer new is h rest =
    comes-by p (λ T o. from_value T p m (first T >>= go T) o) (λ T o. from_value T p (record m { entered = entered; objects = objects }) (go T (view a)) o) answer new
    (λ T o. ap (λ x. finish T p o (on_value T p (reverse m.stack.items) (x ▷ go T)))
    (told-ok view r a (state_of T entered objects) (world_of m.ticks o) (first T (state_of T m.entered m.objects) (world_of m.ticks o)) is (h T (world_of m.ticks o)))) rest

pub flow-err : {A B : Type 0} (p : Program) (m : Machine) (view : A → B) (r : Result A Stop) (e : Stop) (first : Tables → Act B) (go : Tables → B → Act Flow) (s : Tables → State)
    → r ≡ Err e → ((T : Tables) (w : World) → Told view r (s T) w (first T (state_of T m.entered m.objects) w)) → StopsAt (λ T o. from_flow T p m (first T >>= go T) o) e
flow-err p m view r e first go s is h = flow-stopped p m (λ T. first T >>= go T) e
    (λ T w. stops-on e (first T (state_of T m.entered m.objects) w) (go T) w (told-err view r e (s T) w (first T (state_of T m.entered m.objects) w) is (h T w)))

pub flow-ok : {A B : Type 0} (p : Program) (m : Machine) (entered : Entered) (objects : Objects) (view : A → B) (r : Result A Stop) (a : A) (first : Tables → Act B) (go : Tables → B → Act Flow)
    (answer : Result Step Stop) (new : Machine) → r ≡ Ok a
    → ((T : Tables) (w : World) → Told view r (state_of T entered objects) w (first T (state_of T m.entered m.objects) w))
    → Comes p (λ T o. from_flow T p (record m { entered = entered; objects = objects }) (go T (view a)) o) answer new
    → Comes p (λ T o. from_flow T p m (first T >>= go T) o) answer new
flow-ok p m entered objects view r a first go answer new is h rest =
    comes-by p (λ T o. from_flow T p m (first T >>= go T) o) (λ T o. from_flow T p (record m { entered = entered; objects = objects }) (go T (view a)) o) answer new
    (λ T o. ap (λ x. finish T p o (on_flow T p (reverse m.stack.items) (x ▷ go T)))
    (told-ok view r a (state_of T entered objects) (world_of m.ticks o) (first T (state_of T m.entered m.objects) (world_of m.ticks o)) is (h T (world_of m.ticks o)))) rest
