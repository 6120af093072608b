-- What each statement does first, and what is left of it then.
use Rattle.std.proofs.Common.{◌≡◌, ◌∙◌, ℕ, zero, suc, ◌-◌, Bool, true, false, List, [], ◌∷◌, ◌++◌, Option, Some, None, Bor, refl, ap, sym, reverse, arith}
use Rattle.std.specs.Global.{Global}
use Rattle.std.specs.Prelude.{Vec}
use Rattle.cf_base.specs.Event.{Ticks}
use Rattle.cf_base.specs.World.{World, Ran, Went, spend_of}
use Rattle.cf_core.specs.declared.operators.LoopForm.{LoopForm}
use Rattle.cf_core.specs.declared.operators.LoopForm.TheVariants as form
use Rattle.cf_core.specs.FromTypes.{Tables}
use Rattle.cf_core.specs.Types.{SourceType, void, integer, enumeration, class, pointer, reference, array, takes, gives as gives_type, data_member, function_member, const}
use Rattle.cf_core.specs.Core.{Core, declare, item, give, switch}
use Rattle.cf_core.specs.Places.{Place, inner}
use Rattle.cf_core.specs.Run.{State, Did, Gives, Act, ◌>>=◌, ◌>>◌, gives, done, tick, for_all, for_each_back, frame_changed, object_changed, gone, lists_in_scope, when}
use Rattle.cf_core.specs.Access.{number_of}
use Rattle.cf_core.specs.Scalars.{truth_of}
use Rattle.cf_core.specs.Pointers.{truth_value}
use Rattle.cf_core.specs.Store.{Value}
use Rattle.cf_core.specs.Run.{Exits, Malformed}
use Rattle.cf_base.specs.World.{Stops}
use Rattle.cf_core_store.specs.declared.results.Applied.TheVariants as applied
use Rattle.cf_core_store.specs.Values.{of_value}
use Rattle.cf_core.specs.Objects.{settled, new_local}
use Rattle.cf_core.specs.Calls.{Flow, Falls, Returns, Again, turn, root, end_object, destroy, has_destructor, full_expression}
use Rattle.cf_core.specs.Calls as calls
use Rattle.cf_core.specs.Statements.{tests_first}
use Rattle.cf_run_tree.specs.declared.node.Node.{Node}
use Rattle.cf_run_tree.specs.declared.node.Node.TheVariants as node
use Rattle.cf_run_tree.specs.declared.program.Program.{Program}
use Rattle.cf_run_tree.specs.Tree.{core_of, program_of}
use Rattle.cf_run_tree.proofs.Views.{core-Full, core-If, core-Switch}
use Rattle.cf_core_objects.specs.declared.object.Entered.{Entered}
use Rattle.cf_core_objects.specs.declared.object.Objects.{Objects}
use Rattle.cf_core_run.specs.declared.mark.Repeated.{Repeated}
use Rattle.cf_core_run.specs.declared.mark.FlowMark.TheVariants as part
use Rattle.cf_core_run.specs.declared.mark.TestMark.TheVariants as test
use Rattle.cf_core_run.specs.declared.mark.Mark.{Mark}
use Rattle.cf_core_run.specs.declared.mark.Mark.TheVariants as mark
use Rattle.cf_core_run.specs.declared.mark.Doing.TheVariants as doing
use Rattle.cf_core_run.specs.declared.state.Machine.{Machine}
use Rattle.cf_core_objects.specs.Store.{state_of}
use Rattle.cf_core_objects.specs.Then.{◌▷◌}
use Rattle.cf_core_run.specs.Going.{on_flow, finish, from_flow, world_of, Outside, GoesOn, EndsAs, OpensScope, valued, performed, performed_all, cores, maybe_core, scoped, again, loop_of, first_turn, body_turn, go_test, go_if, go_declared, selected, full, closed}
use Rattle.cf_core_objects.proofs.ThenLaws.{then-assoc}
use Rattle.cf_core_run.proofs.Laws.{flow-stops}
use Rattle.cf_core_run.proofs.Goes.{flow-pushed}

-- what is left of a declaration once the local is there
abbrev pub declare_rest : Tables → Program → ℕ → Core → ℕ → Act Flow
declare_rest T p k c o =
    (full_expression (again T p k) (program_of T p) (settled [] (root o) (valued T p k c (Some (root o)))) >> frame_changed (lists_in_scope o)) >> gives Falls

-- A full expression ends with a truth value, or with 1 or 0 for it.
module _ (T : Tables) (p : Program) (k : ℕ) (around : List ℕ) (K : Bool → Act Flow) where
  abbrev after_truth : Value → Act Flow
  after_truth v = truth_of v >>= K

  restored : (b : Bool) (r : Ran (Did (Unit {0})))
      → ((r ▷ (λ u. frame_changed (λ f. record f { temporaries = around }) >> gives b)) ▷ K)
      ≡ ((r ▷ (λ u. frame_changed (λ f. record f { temporaries = around }) >> gives (truth_value b))) ▷ after_truth)
  restored true (Went (Gives u s) w) = refl
  restored false (Went (Gives u s) w) = refl
  restored b (Went (Exits z s) w) = refl
  restored b (Went Malformed w) = refl
  restored b (Stops e t) = refl

  counted-closed : (r : Ran (Did Bool)) → ((r ▷ closed T p k around) ▷ K) ≡ (((r ▷ (λ b. gives (truth_value b))) ▷ closed T p k around) ▷ after_truth)
  counted-closed (Went (Gives b s) w) = restored b (for_all s.frame.temporaries (end_object (again T p k) (program_of T p)) s w)
  counted-closed (Went (Exits z s) w) = refl
  counted-closed (Went Malformed w) = refl
  counted-closed (Stops e t) = refl

pub truth-whole : (T : Tables) (p : Program) (k : ℕ) (V : Act Value) (K : Bool → Act Flow) (s : State) (w : World)
    → (full T p k (V >>= truth_of) s w ▷ K) ≡ (full T p k (V >>= of_value T applied.Truth) s w ▷ (λ v. truth_of v >>= K))
truth-whole T p k V K s w =
    let S : State = record s { frame = record s.frame { temporaries = [] } } in
    let around = s.frame.temporaries in
    counted-closed T p k around K (V S w ▷ truth_of)
    ∙ ap (λ (r : Ran (Did Value)). (r ▷ closed T p k around) ▷ (λ v. truth_of v >>= K)) (then-assoc (V S w) truth_of (λ b. gives (truth_value b)))

pub full-goes : (T : Tables) (p : Program) (k : ℕ) (e : Entered) (objects : Objects) (n : Node) (x : Node) (w : World) → n ≡ node.Full x
    → performed T p k (core_of T p n) (state_of T e objects) w ≡ (full T p k (valued T p k (core_of T p x) None) (state_of T e objects) w ▷ go_test T p k test.Statement)
full-goes T p k e objects n x w is = ap (λ c. performed T p k c (state_of T e objects) w) (ap (core_of T p) is ∙ core-Full T p x)

pub if-goes : (T : Tables) (p : Program) (k : ℕ) (e : Entered) (objects : Objects) (n c a : Node) (b : Option Node) (w : World) → n ≡ node.If c a b
    → performed T p k (core_of T p n) (state_of T e objects) w ≡ (full T p k (valued T p k (core_of T p c) None >>= of_value T applied.Truth) (state_of T e objects) w ▷ go_if T p k a b)
if-goes T p k e objects n c a b w is =
    ap (λ c. performed T p k c (state_of T e objects) w) (ap (core_of T p) is ∙ core-If T p c a b)
    ∙ truth-whole T p k (valued T p k (core_of T p c) None) _ (state_of T e objects) w

pub return-goes : (T : Tables) (p : Program) (k : ℕ) (e : Entered) (objects : Objects) (n : Option Node) (x : Node) (w : World) → n ≡ Some x
    → performed T p k (give (maybe_core T p n)) (state_of T e objects) w
    ≡ (full T p k (valued T p k (core_of T p x) None >>= of_value T applied.Used) (state_of T e objects) w ▷ go_test T p k test.Result)
return-goes T p k e objects n x w is = ap (λ (n : Option Node). performed T p k (give (maybe_core T p n)) (state_of T e objects) w) is

pub declare-goes : (T : Tables) (p : Program) (k : ℕ) (e : Entered) (objects : Objects) (c : Core) (o : ℕ) (w : World)
    → declare_rest T p k c o (state_of T e objects) w ≡ (full T p k (settled [] (root o) (valued T p k c (Some (root o)))) >> go_declared T p k o) (state_of T e objects) w
declare-goes T p k e objects c o w =
    then-assoc (full T p k (settled [] (root o) (valued T p k c (Some (root o)))) (state_of T e objects) w) (λ u. frame_changed (lists_in_scope o)) (λ u. gives Falls)

pub declare-first : (T : Tables) (p : Program) (k : ℕ) (i : ℕ) (t : SourceType) (c : Core) (s : State) (w : World)
    → performed T p k (declare i t c) s w ≡ (new_local i t s w ▷ (λ o. declare_rest T p k c o))
declare-first T p k i t c s w = then-assoc (new_local i t s w) _ (λ u. gives Falls)

-- The tick of a turn.
spends : {A : Type 0} (t : ℕ) (w : World) (go : World → Ran A) → (t ≡ 0 → ⊥) → spend_of t w go ≡ go (record w { ticks = t - 1 })
spends zero w go h = absurd (h refl)
spends (suc t) w go h = ap (λ n. go (record w { ticks = n })) (let e : t ≡ suc t - 1 = omega arith in e)

spent : (t : ℕ) (w : World) (x : Act Flow) (s : State) → (spend_of t w (λ w. let r : Ran (Did (Unit {0})) = Went (Gives tt s) w in r) ▷ (λ _. x)) ≡ spend_of t w (λ w. x s w)
spent zero w x s = refl
spent (suc t) w x s = refl

loop-first : (T : Tables) (p : Program) (k : ℕ) (f : LoopForm) (c x : Bor (Option Node)) (b : Bor Node) (s : State) (w : World)
    → performed T p k (loop_of T p (record { form = f; condition = c; step = x; body = b })) s w
    ≡ spend_of w.ticks w (λ w. when (tests_first f) (first_turn T p k (record { form = f; condition = c; step = x; body = b })) (body_turn T p k (record { form = f; condition = c; step = x; body = b })) s w)
loop-first T p k form.While c x b s w = spent w.ticks w _ s
loop-first T p k form.Do c x b s w = spent w.ticks w _ s
loop-first T p k form.For c x b s w = spent w.ticks w _ s

pub loop-goes : (T : Tables) (p : Program) (m : Machine) (r : Repeated) (o : Outside) → (m.ticks ≡ 0 → ⊥)
    → from_flow T p m (performed T p m.fuel (loop_of T p r)) o
    ≡ from_flow T p (record m { ticks = m.ticks - 1 }) (when (tests_first r.form) (first_turn T p m.fuel r) (body_turn T p m.fuel r)) o
loop-goes T p m r o h =
    ap (λ x. finish T p o (on_flow T p (reverse m.stack.items) x))
    (loop-first T p m.fuel r.form r.condition r.step r.body (state_of T m.entered m.objects) (world_of m.ticks o)
    ∙ spends m.ticks (world_of m.ticks o) _ h)

pub loop-ticks : (p : Program) (m : Machine) (r : Repeated) → m.ticks ≡ 0 → EndsAs (λ T o. from_flow T p m (performed T p m.fuel (loop_of T p r)) o) Ticks
loop-ticks p m r h = record {
  same = λ T o. ap (λ x. finish T p o (on_flow T p (reverse m.stack.items) x))
      (loop-first T p m.fuel r.form r.condition r.step r.body (state_of T m.entered m.objects) (world_of m.ticks o)
      ∙ ap (λ t. spend_of t (world_of m.ticks o) (λ w. when (tests_first r.form) (first_turn T p m.fuel r) (body_turn T p m.fuel r) (state_of T m.entered m.objects) w)) h)
      ∙ ap (finish T p o) (flow-stops T p (reverse m.stack.items) Ticks o.trace);
}

-- The turns of a loop and bodies of functions stand so deep.
pub again-none : (p : Program) (m : Machine) (task : Tables → calls.Task) → m.fuel ≡ 0 → EndsAs (λ T o. from_flow T p m (again T p m.fuel (task T)) o) Ticks
again-none p m task h = record {
  same = λ T o. ap (λ k. finish T p o (on_flow T p (reverse m.stack.items) (again T p k (task T) (state_of T m.entered m.objects) (world_of m.ticks o)))) h
      ∙ ap (finish T p o) (flow-stops T p (reverse m.stack.items) Ticks o.trace);
}

pub deeper-by : (k : ℕ) → (k ≡ 0 → ⊥) → k ≡ suc (k - 1)
deeper-by k h = omega (arith, h)

pub turn-goes : (T : Tables) (p : Program) (m : Machine) (r : Repeated) (o : Outside) → (m.fuel ≡ 0 → ⊥)
    → from_flow T p m (again T p m.fuel (turn (loop_of T p r))) o ≡ from_flow T p (record m { fuel = m.fuel - 1 }) (performed T p (m.fuel - 1) (loop_of T p r)) o
turn-goes T p m r o h = ap (λ k. from_flow T p m (again T p k (turn (loop_of T p r))) o) (deeper-by m.fuel h)

-- the body of a loop is opened
pub body-goes : (p : Program) (old opened : Machine) (stack : Vec Mark Global) (r : Repeated) (b : Bor Node) → stack.items ≡ old.stack.items ++ mark.Flow old.fuel (part.Turn r) ∷ []
    → OpensScope (record old { stack = stack }) opened → b.now ≡ r.body.now
    → GoesOn p (λ T o. from_flow T p old (body_turn T p old.fuel r) o) None (record opened { doing = doing.Perform b })
body-goes p old opened stack r b items opens is = record {
  same = λ T o.
      sym (flow-pushed T p old stack old.fuel (part.Turn r) (scoped T p old.fuel (performed T p old.fuel (core_of T p r.body.now))) o items)
      ∙ opens.same T p (performed T p old.fuel (core_of T p r.body.now)) o
      ∙ ap (λ (n : Node). from_flow T p opened (performed T p old.fuel (core_of T p n)) o) (sym is)
      ∙ ap (λ k. from_flow T p opened (performed T p k (core_of T p b.now)) o) (sym opens.fuel);
}

pub block-goes : (p : Program) (old opened : Machine) (all : Bor (List Node)) → OpensScope old opened
    → GoesOn p (λ T o. from_flow T p old (scoped T p old.fuel (performed_all T p old.fuel (cores T p all.now))) o) None (record opened { doing = doing.Follow all })
block-goes p old opened all opens = record {
  same = λ T o. opens.same T p (performed_all T p old.fuel (cores T p all.now)) o
      ∙ ap (λ k. from_flow T p opened (performed_all T p k (cores T p all.now)) o) (sym opens.fuel);
}

-- statements in order
pub follow-goes : (p : Program) (old : Machine) (stack : Vec Mark Global) (all : List Node) (first : Bor Node) (rest : Bor (List Node))
    → stack.items ≡ old.stack.items ++ mark.Flow old.fuel (part.Rest rest) ∷ [] → all ≡ first.now ∷ rest.now
    → GoesOn p (λ T o. from_flow T p old (performed_all T p old.fuel (cores T p all)) o) None (record old { stack = stack; doing = doing.Perform first })
follow-goes p old stack all first rest items is = record {
  same = λ T o. ap (λ (l : List Node). from_flow T p old (performed_all T p old.fuel (cores T p l)) o) is
      ∙ sym (flow-pushed T p old stack old.fuel (part.Rest rest) (performed T p old.fuel (core_of T p first.now)) o items);
}

-- Objects end without a destructor.
pub destructor-none : (t : SourceType) → has_destructor [] t ≡ false
destructor-none void = refl
destructor-none (integer k) = refl
destructor-none (enumeration n) = refl
destructor-none (class c) = refl
destructor-none (pointer t) = refl
destructor-none (reference t) = refl
destructor-none (array t n) = destructor-none t
destructor-none (takes q t) = refl
destructor-none (gives_type t c) = refl
destructor-none (data_member c t) = refl
destructor-none (function_member c t) = refl
destructor-none (const t) = destructor-none t

destroy-none : (T : Tables) (p : Program) (k : ℕ) (t : SourceType) (q : Place) (s : State) (w : World) → destroy (again T p k) (program_of T p) t q s w ≡ Went (Gives tt s) w
destroy-none T p k void q s w = refl
destroy-none T p k (integer n) q s w = refl
destroy-none T p k (enumeration n) q s w = refl
destroy-none T p k (class c) q s w = refl
destroy-none T p k (pointer t) q s w = refl
destroy-none T p k (reference t) q s w = refl
destroy-none T p k (array t n) q s w = ap (λ b. when b (for_each_back n (λ i. tick >> destroy (again T p k) (program_of T p) t (inner (item i) q))) done s w) (destructor-none t)
destroy-none T p k (takes u t) q s w = refl
destroy-none T p k (gives_type t c) q s w = refl
destroy-none T p k (data_member c t) q s w = refl
destroy-none T p k (function_member c t) q s w = refl
destroy-none T p k (const t) q s w = destroy-none T p k t q s w

end-one : (T : Tables) (p : Program) (k o : ℕ) (s : State) (w : World) → end_object (again T p k) (program_of T p) o s w ≡ object_changed o gone s w
end-one T p k o s w = ap (λ r. r ▷ (λ _. object_changed o gone)) (destroy-none T p k (s.object o).type (root o) s w)

pub end-all : (T : Tables) (p : Program) (k : ℕ) (os : List ℕ) (s : State) (w : World)
    → for_all os (end_object (again T p k) (program_of T p)) s w ≡ for_all os (λ o. object_changed o gone) s w
end-all T p k [] s w = refl
end-all T p k (o ∷ os) s w =
    ap (λ r. r ▷ (λ _. for_all os (end_object (again T p k) (program_of T p)))) (end-one T p k o s w)
    ∙ end-all T p k os _ w

pub switch-goes : (T : Tables) (p : Program) (k : ℕ) (e : Entered) (objects : Objects) (n x : Node) (all : List Node) (es : Bor (List Node)) (w : World) → n ≡ node.Switch x all → es.now ≡ all
    → performed T p k (core_of T p n) (state_of T e objects) w
    ≡ (full T p k (valued T p k (core_of T p x) None >>= of_value T applied.Used) (state_of T e objects) w ▷ go_test T p k (test.Switch es))
switch-goes T p k e objects n x all es w is same =
    let F = full T p k (valued T p k (core_of T p x) None >>= of_value T applied.Used) (state_of T e objects) w in
    let go = selected T p k (cores T p es.now) in
    ap (λ c. performed T p k c (state_of T e objects) w) (ap (core_of T p) is ∙ core-Switch T p x all)
    ∙ ap (λ (l : List Node). performed T p k (switch (core_of T p x) (cores T p l)) (state_of T e objects) w) (sym same)
    ∙ then-assoc F number_of go
