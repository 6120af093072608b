-- What is put on the stack of marks, and what is taken off.
use Rattle.std.proofs.Common.{◌≡◌, ◌∙◌, ℕ, List, [], ◌∷◌, ◌++◌, Some, None, Bor, refl, ap, sym, reverse}
use Rattle.std.specs.Global.{Global}
use Rattle.std.specs.Prelude.{Vec}
use Rattle.cf_base.specs.World.{World, Ran, Went, Stops}
use Rattle.cf_core.specs.FromTypes.{Tables}
use Rattle.cf_core.specs.Places.{Place}
use Rattle.cf_core.specs.Store.{Value, Built}
use Rattle.cf_core.specs.Run.{State, Did, Gives, Exits, Malformed, Act, ◌>>=◌, ◌>>◌, gives, for_all, frame_changed}
use Rattle.cf_core.specs.Objects.{settle, settled}
use Rattle.cf_core.specs.Calls.{Flow, root, end_object}
use Rattle.cf_run_tree.specs.declared.node.Node.{Node}
use Rattle.cf_run_tree.specs.declared.program.Program.{Program}
use Rattle.cf_run_tree.specs.Tree.{core_of, program_of}
use Rattle.cf_core_objects.specs.declared.object.Entered.{Entered}
use Rattle.cf_core_place.specs.declared.goal.Goal.{Goal}
use Rattle.cf_core_place.specs.Routes.{goal_place}
use Rattle.cf_core_run.specs.declared.mark.ValueMark.{ValueMark}
use Rattle.cf_core_run.specs.declared.mark.ValueMark.TheVariants as vm
use Rattle.cf_core_run.specs.declared.mark.TestMark.{TestMark}
use Rattle.cf_core_run.specs.declared.mark.TestMark.TheVariants as test
use Rattle.cf_core_run.specs.declared.mark.FlowMark.{FlowMark}
use Rattle.cf_core_run.specs.declared.mark.FlowMark.TheVariants as part
use Rattle.cf_core_run.specs.declared.mark.Mark.{Mark}
use Rattle.cf_core_run.specs.declared.mark.Mark.TheVariants as mark
use Rattle.cf_core_run.specs.declared.mark.Doing.TheVariants as doing
use Rattle.cf_core_run.specs.declared.state.Machine.{Machine}
use Rattle.cf_core_objects.specs.Store.{state_of, frame_of}
use Rattle.cf_core_objects.specs.Then.{◌▷◌}
use Rattle.cf_core_objects.proofs.ThenLaws.{then-assoc}
use Rattle.cf_core_run.specs.Going.{on_value, on_flow, finish, from_value, from_flow, world_of, Outside, GoesOn, OpensScope, OpensWhole, OpensStart, OpensPart, again, valued, go_value, go_test, go_flow, go_scope, go_stored, go_declared, full, closed}
use Rattle.cf_core_run.proofs.Laws.{pushed}

-- a part is evaluated first
pub down-goes : (p : Program) (old : Machine) (stack : Vec Mark Global) (m : ValueMark) (n : Node) (e : Bor Node)
    → stack.items ≡ old.stack.items ++ mark.Value old.fuel m ∷ [] → e.now ≡ n
    → GoesOn p (λ T o. from_value T p old (λ s w. valued T p old.fuel (core_of T p n) None s w ▷ go_value T p old.fuel m) o) None
    (record old { stack = stack; doing = doing.Evaluate e None })
down-goes p old stack m n e items is = record {
  same = λ T o.
      let S = state_of T old.entered old.objects in
      let w = world_of old.ticks o in
      sym (ap (λ (ms : List Mark). finish T p o (on_value T p (reverse ms) (valued T p old.fuel (core_of T p e.now) None S w))) items
      ∙ ap (λ (ms : List Mark). finish T p o (on_value T p ms (valued T p old.fuel (core_of T p e.now) None S w))) (pushed old.stack.items (mark.Value old.fuel m))
      ∙ ap (λ (n : Node). finish T p o (on_value T p (reverse old.stack.items) (valued T p old.fuel (core_of T p n) None S w ▷ go_value T p old.fuel m))) is);
}

-- a full expression is evaluated first, or an initialiser of an object
pub test-goes : (p : Program) (old opened : Machine) (m : TestMark) (n : Node) (e : Bor Node) → OpensWhole old opened m → e.now ≡ n
    → GoesOn p (λ T o. from_flow T p old (λ s w. full T p old.fuel (valued T p old.fuel (core_of T p n) None) s w ▷ go_test T p old.fuel m) o) None
    (record opened { doing = doing.Evaluate e None })
test-goes p old opened m n e opens is = record {
  same = λ T o. opens.same T p (valued T p old.fuel (core_of T p n) None) o
      ∙ ap (λ k. from_value T p opened (valued T p k (core_of T p n) None) o) (sym opens.fuel)
      ∙ ap (λ (n : Node). from_value T p opened (valued T p opened.fuel (core_of T p n) None) o) (sym is);
}

pub initialise-goes : (p : Program) (old opened : Machine) (object : ℕ) (g : Goal) (n : Node) (e : Bor Node) → OpensStart old opened g (test.Declared object) → e.now ≡ n → goal_place g ≡ root object
    → GoesOn p (λ T o. from_flow T p old (full T p old.fuel (settled [] (root object) (valued T p old.fuel (core_of T p n) (Some (root object)))) >> go_declared T p old.fuel object) o) None
    (record opened { doing = doing.Evaluate e (Some g) })
initialise-goes p old opened object g n e opens is goes = record {
  same = λ T o.
      ap (λ (q : Place). from_flow T p old (full T p old.fuel (settled [] q (valued T p old.fuel (core_of T p n) (Some q))) >> go_declared T p old.fuel object) o) (sym goes)
      ∙ opens.same T p (valued T p old.fuel (core_of T p n) (Some (goal_place g))) o
      ∙ ap (λ k. from_value T p opened (valued T p k (core_of T p n) (Some (goal_place g))) o) (sym opens.fuel)
      ∙ ap (λ (n : Node). from_value T p opened (valued T p opened.fuel (core_of T p n) (Some (goal_place g))) o) (sym is);
}

-- the newest mark gets a value, or the way in which a statement ended
pub value-pops : (T : Tables) (p : Program) (old : Machine) (ms : List Mark) (m : Mark) (v : Value) (o : Outside) → old.stack.items ≡ ms ++ m ∷ []
    → from_value T p old (gives v) o ≡ finish T p o (on_value T p (m ∷ reverse ms) (Went (Gives v (state_of T old.entered old.objects)) (world_of old.ticks o)))
value-pops T p old ms m v o items =
    ap (λ (ms : List Mark). finish T p o (on_value T p (reverse ms) (Went (Gives v (state_of T old.entered old.objects)) (world_of old.ticks o)))) items
    ∙ ap (λ (ms : List Mark). finish T p o (on_value T p ms (Went (Gives v (state_of T old.entered old.objects)) (world_of old.ticks o)))) (pushed ms m)

pub flow-pops : (T : Tables) (p : Program) (old : Machine) (ms : List Mark) (m : Mark) (flow : Flow) (o : Outside) → old.stack.items ≡ ms ++ m ∷ []
    → from_flow T p old (gives flow) o ≡ finish T p o (on_flow T p (m ∷ reverse ms) (Went (Gives flow (state_of T old.entered old.objects)) (world_of old.ticks o)))
flow-pops T p old ms m flow o items =
    ap (λ (ms : List Mark). finish T p o (on_flow T p (reverse ms) (Went (Gives flow (state_of T old.entered old.objects)) (world_of old.ticks o)))) items
    ∙ ap (λ (ms : List Mark). finish T p o (on_flow T p ms (Went (Gives flow (state_of T old.entered old.objects)) (world_of old.ticks o)))) (pushed ms m)

-- a mark that waits for the end of a statement
pub flow-pushed : (T : Tables) (p : Program) (old : Machine) (stack : Vec Mark Global) (k : ℕ) (m : FlowMark) (act : Act Flow) (o : Outside)
    → stack.items ≡ old.stack.items ++ mark.Flow k m ∷ []
    → from_flow T p (record old { stack = stack }) act o ≡ from_flow T p old (λ s w. act s w ▷ go_flow T p k m) o
flow-pushed T p old stack k m act o items =
    let S = state_of T old.entered old.objects in
    let w = world_of old.ticks o in
    ap (λ (ms : List Mark). finish T p o (on_flow T p (reverse ms) (act S w))) items
    ∙ ap (λ (ms : List Mark). finish T p o (on_flow T p ms (act S w))) (pushed old.stack.items (mark.Flow k m))

pub scope-opens : (old : Machine) (stack : Vec Mark Global) (scope : Vec ℕ Global) → stack.items ≡ old.stack.items ++ mark.Flow old.fuel (part.Scope old.entered.scope) ∷ [] → scope.items ≡ []
    → OpensScope old (record old { stack = stack; entered = record old.entered { scope = scope } })
scope-opens old stack scope items is = record {
  same = λ T p act o.
      let x : Entered = record old.entered { scope = scope } in
      let w = world_of old.ticks o in
      sym (flow-pushed T p (record old { entered = x }) stack old.fuel (part.Scope old.entered.scope) act o items
      ∙ ap (λ (l : List ℕ). finish T p o (on_flow T p (reverse old.stack.items)
      (act (record (state_of T old.entered old.objects) { frame = record (frame_of old.entered) { scope = reverse l } }) w ▷ go_scope T p old.fuel old.entered.scope.items))) is);
  fuel = refl;
}

pub whole-opens : (old : Machine) (first stack : Vec Mark Global) (m : TestMark) (temporaries : Vec ℕ Global) → first.items ≡ old.stack.items ++ mark.Test old.fuel m ∷ []
    → stack.items ≡ first.items ++ mark.Value old.fuel (vm.Whole old.entered.temporaries) ∷ [] → temporaries.items ≡ []
    → OpensWhole old (record old { stack = stack; entered = record old.entered { temporaries = temporaries } }) m
whole-opens old first stack m temporaries one two is = record {
  same = λ T p act o.
      let k = old.fuel in
      let S = state_of T old.entered old.objects in
      let w = world_of old.ticks o in
      let R = act (state_of T (record old.entered { temporaries = temporaries }) old.objects) w in
      let ends : Act Value = λ s w. act s w ▷ closed T p k (reverse old.entered.temporaries.items) in
      sym (ap (λ (ms : List Mark). finish T p o (on_value T p (reverse ms) R)) two
      ∙ ap (λ (ms : List Mark). finish T p o (on_value T p ms R)) (pushed first.items (mark.Value k (vm.Whole old.entered.temporaries)))
      ∙ ap (λ (ms : List Mark). finish T p o (on_value T p (reverse ms) (ends (state_of T (record old.entered { temporaries = temporaries }) old.objects) w))) one
      ∙ ap (λ (ms : List Mark). finish T p o (on_value T p ms (ends (state_of T (record old.entered { temporaries = temporaries }) old.objects) w))) (pushed old.stack.items (mark.Test k m))
      ∙ ap (λ (l : List ℕ). finish T p o (on_flow T p (reverse old.stack.items) (ends (record S { frame = record (frame_of old.entered) { temporaries = reverse l } }) w ▷ go_test T p k m))) is);
  fuel = refl;
}

-- A full expression stores a value, and what follows takes none.
module _ {B : Type 0} (T : Tables) (p : Program) (k : ℕ) (around : List ℕ) (G : Value → Act B) where
  stored-restored : (u : Unit {0}) (r : Ran (Did (Unit {0})))
      → ((r ▷ (λ x. frame_changed (λ f. record f { temporaries = around }) >> gives u)) ▷ (λ x. G Built))
      ≡ ((r ▷ (λ x. frame_changed (λ f. record f { temporaries = around }) >> gives Built)) ▷ G)
  stored-restored u (Went (Gives x s) w) = refl
  stored-restored u (Went (Exits z s) w) = refl
  stored-restored u (Went Malformed w) = refl
  stored-restored u (Stops e t) = refl

  stored-closed : (r : Ran (Did (Unit {0}))) → ((r ▷ closed T p k around) ▷ (λ x. G Built)) ≡ ((r ▷ (λ x. closed T p k around Built)) ▷ G)
  stored-closed (Went (Gives u s) w) = stored-restored u (for_all s.frame.temporaries (end_object (again T p k) (program_of T p)) s w)
  stored-closed (Went (Exits z s) w) = refl
  stored-closed (Went Malformed w) = refl
  stored-closed (Stops e t) = refl

  stored-whole : (q : Place) (r : Ran (Did Value))
      → (((r ▷ settle [] q) ▷ closed T p k around) ▷ (λ x. G Built)) ≡ ((r ▷ (λ v. settle [] q v >>= (λ x. closed T p k around Built))) ▷ G)
  stored-whole q r = stored-closed (r ▷ settle [] q) ∙ ap (λ x. x ▷ G) (then-assoc r (settle [] q) (λ x. closed T p k around Built))

-- an initialiser is begun
pub start-opens : (old : Machine) (first stack : Vec Mark Global) (g : Goal) (m : TestMark) (temporaries : Vec ℕ Global) → first.items ≡ old.stack.items ++ mark.Test old.fuel m ∷ []
    → stack.items ≡ first.items ++ mark.Value old.fuel (vm.Stored g old.entered.temporaries) ∷ [] → temporaries.items ≡ []
    → OpensStart old (record old { stack = stack; entered = record old.entered { temporaries = temporaries } }) g m
start-opens old first stack g m temporaries one two is = record {
  same = λ T p act o.
      let k = old.fuel in
      let S = state_of T old.entered old.objects in
      let w = world_of old.ticks o in
      let R = act (state_of T (record old.entered { temporaries = temporaries }) old.objects) w in
      let ends : Act Value = λ s w. act s w ▷ go_stored T p k g old.entered.temporaries.items in
      sym (ap (λ (ms : List Mark). finish T p o (on_value T p (reverse ms) R)) two
      ∙ ap (λ (ms : List Mark). finish T p o (on_value T p ms R)) (pushed first.items (mark.Value k (vm.Stored g old.entered.temporaries)))
      ∙ ap (λ (ms : List Mark). finish T p o (on_value T p (reverse ms) (ends (state_of T (record old.entered { temporaries = temporaries }) old.objects) w))) one
      ∙ ap (λ (ms : List Mark). finish T p o (on_value T p ms (ends (state_of T (record old.entered { temporaries = temporaries }) old.objects) w))) (pushed old.stack.items (mark.Test k m))
      ∙ ap (λ (l : List ℕ). finish T p o (on_flow T p (reverse old.stack.items) (ends (record S { frame = record (frame_of old.entered) { temporaries = reverse l } }) w ▷ go_test T p k m))) is
      ∙ ap (λ r. finish T p o (on_flow T p (reverse old.stack.items) r))
      (sym (stored-whole T p k (reverse old.entered.temporaries.items) (go_test T p k m) (goal_place g) (act (record S { frame = record (frame_of old.entered) { temporaries = [] } }) w))));
  fuel = refl;
}

-- the same inside an expression, or before a further initialiser
pub part-opens : (old : Machine) (first stack : Vec Mark Global) (g : Goal) (m : ValueMark) (temporaries : Vec ℕ Global) → first.items ≡ old.stack.items ++ mark.Value old.fuel m ∷ []
    → stack.items ≡ first.items ++ mark.Value old.fuel (vm.Stored g old.entered.temporaries) ∷ [] → temporaries.items ≡ []
    → OpensPart old (record old { stack = stack; entered = record old.entered { temporaries = temporaries } }) g m
part-opens old first stack g m temporaries one two is = record {
  same = λ T p act o.
      let k = old.fuel in
      let S = state_of T old.entered old.objects in
      let w = world_of old.ticks o in
      let R = act (state_of T (record old.entered { temporaries = temporaries }) old.objects) w in
      let ends : Act Value = λ s w. act s w ▷ go_stored T p k g old.entered.temporaries.items in
      sym (ap (λ (ms : List Mark). finish T p o (on_value T p (reverse ms) R)) two
      ∙ ap (λ (ms : List Mark). finish T p o (on_value T p ms R)) (pushed first.items (mark.Value k (vm.Stored g old.entered.temporaries)))
      ∙ ap (λ (ms : List Mark). finish T p o (on_value T p (reverse ms) (ends (state_of T (record old.entered { temporaries = temporaries }) old.objects) w))) one
      ∙ ap (λ (ms : List Mark). finish T p o (on_value T p ms (ends (state_of T (record old.entered { temporaries = temporaries }) old.objects) w))) (pushed old.stack.items (mark.Value k m))
      ∙ ap (λ (l : List ℕ). finish T p o (on_value T p (reverse old.stack.items) (ends (record S { frame = record (frame_of old.entered) { temporaries = reverse l } }) w ▷ go_value T p k m))) is
      ∙ ap (λ r. finish T p o (on_value T p (reverse old.stack.items) r))
      (sym (stored-whole T p k (reverse old.entered.temporaries.items) (go_value T p k m) (goal_place g) (act (record S { frame = record (frame_of old.entered) { temporaries = [] } }) w))));
  fuel = refl;
}

pub part-goes : (p : Program) (old opened : Machine) (m : ValueMark) (q : Goal) (e : Bor Node) → OpensPart old opened q m
    → GoesOn p (λ T o. from_value T p old (full T p old.fuel (settled [] (goal_place q) (valued T p old.fuel (core_of T p e.now) (Some (goal_place q)))) >> go_value T p old.fuel m Built) o) None
    (record opened { doing = doing.Evaluate e (Some q) })
part-goes p old opened m q e opens = record {
  same = λ T o. opens.same T p (valued T p old.fuel (core_of T p e.now) (Some (goal_place q))) o
      ∙ ap (λ k. from_value T p opened (valued T p k (core_of T p e.now) (Some (goal_place q))) o) (sym opens.fuel);
}

-- an initialiser of an object comes first, and the mark says what its value leads to
pub object-goes : (p : Program) (old : Machine) (stack : Vec Mark Global) (m : ValueMark) (object : ℕ) (g : Goal) (n : Node) (e : Bor Node)
    → stack.items ≡ old.stack.items ++ mark.Value old.fuel m ∷ [] → e.now ≡ n → goal_place g ≡ root object
    → GoesOn p (λ T o. from_value T p old (λ s w. valued T p old.fuel (core_of T p n) (Some (root object)) s w ▷ go_value T p old.fuel m) o) None
    (record old { stack = stack; doing = doing.Evaluate e (Some g) })
object-goes p old stack m object g n e items is goes = record {
  same = λ T o.
      let S = state_of T old.entered old.objects in
      let w = world_of old.ticks o in
      sym (ap (λ (q : Place). finish T p o (on_value T p (reverse stack.items) (valued T p old.fuel (core_of T p e.now) (Some q) S w))) goes
      ∙ ap (λ (ms : List Mark). finish T p o (on_value T p (reverse ms) (valued T p old.fuel (core_of T p e.now) (Some (root object)) S w))) items
      ∙ ap (λ (ms : List Mark). finish T p o (on_value T p ms (valued T p old.fuel (core_of T p e.now) (Some (root object)) S w))) (pushed old.stack.items (mark.Value old.fuel m))
      ∙ ap (λ (n : Node). finish T p o (on_value T p (reverse old.stack.items) (valued T p old.fuel (core_of T p n) (Some (root object)) S w ▷ go_value T p old.fuel m))) is);
}
