-- How near a state is to the end of its run: by the ticks that are left and, among states of equal ticks, by a number of steps that it takes at most until a
-- tick is spent or a byte is awaited.
use Rattle.std.specs.Prelude.{◌≡◌, ◌<◌, ◌≤◌, ◌+◌, ◌-◌, ◌*◌, ◌^◌, ℕ, suc, List, [], ◌∷◌, map, Option, Some, None, Result, Ok, Err}
use Rattle.cf_run_tree.specs.declared.node.Node.{Node, fold-Node}
use Rattle.cf_run_tree.specs.declared.node.Node.TheOpen.{Node-F}
use Rattle.cf_run_tree.specs.declared.program.Program.{Program}
use Rattle.cf_run_tree.specs.declared.program.RunStatic.{RunStatic}
use Rattle.cf_core_objects.specs.declared.answer.Stop.{Stop}
use Rattle.cf_core_run.specs.declared.mark.Calling.{Calling}
use Rattle.cf_core_run.specs.declared.mark.Listing.{Listing}
use Rattle.cf_core_run.specs.declared.mark.Repeated.{Repeated}
use Rattle.cf_core_run.specs.declared.mark.ValueMark.{ValueMark}
use Rattle.cf_core_run.specs.declared.mark.ValueMark.TheVariants as on_value_mark
use Rattle.cf_core_run.specs.declared.mark.TestMark.{TestMark}
use Rattle.cf_core_run.specs.declared.mark.TestMark.TheVariants as test
use Rattle.cf_core_run.specs.declared.mark.FlowMark.{FlowMark}
use Rattle.cf_core_run.specs.declared.mark.FlowMark.TheVariants as part
use Rattle.cf_core_run.specs.declared.mark.Mark.{Mark}
use Rattle.cf_core_run.specs.declared.mark.Mark.TheVariants as mark
use Rattle.cf_core_run.specs.declared.mark.Doing.{Doing}
use Rattle.cf_core_run.specs.declared.mark.Doing.TheVariants as doing
use Rattle.cf_core_run.specs.declared.state.End.{End}
use Rattle.cf_core_run.specs.declared.state.Machine.{Machine}
use Rattle.cf_core_run.specs.declared.state.Step.{Step}
use Rattle.cf_core_run.specs.declared.state.Step.TheVariants as step

-- the parts of a row, with two steps more for each
abbrev pub row : List ℕ → ℕ
row [] = 0
row (n ∷ ns) = 2 + n + row ns

abbrev pub or_none : Option ℕ → ℕ
or_none None = 0
or_none (Some n) = n

-- as many elements as any array has
unfoldable pub whole_array : ℕ → ℕ
whole_array n = 2 ^ 32 * n

-- How many steps an expression, an initialiser or a statement takes behind the one that begins it. A loop spends a tick at each turn, and its steps
-- are not counted.
abbrev pub weigh : Node-F ℕ → ℕ
weigh (Node-F.Apply op e) = 2 + e
weigh (Node-F.Join op a b) = 3 + a + b
weigh (Node-F.And a b) = 3 + a + b
weigh (Node-F.Or a b) = 3 + a + b
weigh (Node-F.Conditional c a b) = 2 + c + a + b
weigh (Node-F.Comma es) = row es
weigh (Node-F.Temporary s e) = 2 + e
weigh (Node-F.Call name f es) = 4 + row es
weigh (Node-F.PointerCall e f es) = 5 + e + row es
weigh (Node-F.Bind e) = 1 + e
weigh (Node-F.Hold i s e) = 2 + e
weigh (Node-F.List es rest) = 2 + whole_array (3 + rest) + row es
weigh (Node-F.Full e) = 3 + e
weigh (Node-F.Block es) = 3 + row es
weigh (Node-F.Sequence es) = 2 + row es
weigh (Node-F.Declare i t e) = 3 + e
weigh (Node-F.If c a b) = 4 + c + a + or_none b
weigh (Node-F.Switch e es) = 7 + e + row es
weigh (Node-F.Return e) = 4 + or_none e
weigh e = 1

unfoldable pub weight : Node → ℕ
weight = fold-Node ℕ weigh

unfoldable pub weights : List Node → ℕ
weights es = row (map weight es)

unfoldable pub maybe_weight : Option Node → ℕ
maybe_weight None = 0
maybe_weight (Some e) = weight e

-- How many steps follow the one that begins each of these.

abbrev pub arguments_left : Calling → ℕ
arguments_left c = 3 + weights c.rest.now

-- so many elements of an array
abbrev pub so_many : ℕ → Listing → ℕ
so_many n l = n * (3 + weight l.filler.now) + weights l.rest.now

abbrev pub elements_left : Listing → ℕ
elements_left l = 1 + so_many (l.count - l.index) l

abbrev pub statics_left : List RunStatic → ℕ
statics_left [] = 4
statics_left (x ∷ xs) = 3 + weight x.start + statics_left xs

abbrev pub statements_left : List Node → ℕ
statements_left es = 1 + weights es

-- How many steps are left of what stands in a mark, from the step on that takes the mark.

abbrev pub turn_left : Repeated → ℕ
turn_left r = 4 + maybe_weight r.condition.now + maybe_weight r.step.now

abbrev pub behind_value : ValueMark → ℕ
behind_value (on_value_mark.Apply a) = 1
behind_value (on_value_mark.Right op b) = 2 + weight b.now
behind_value (on_value_mark.And b) = 2 + weight b.now
behind_value (on_value_mark.Or b) = 2 + weight b.now
behind_value (on_value_mark.Choice a b) = 1 + weight a.now + weight b.now
behind_value (on_value_mark.Comma es) = weights es.now
behind_value (on_value_mark.Callee f es) = 4 + weights es.now
behind_value (on_value_mark.Argument c o) = 1 + arguments_left c
behind_value (on_value_mark.Temporary o) = 1
behind_value (on_value_mark.Held o) = 1
behind_value (on_value_mark.Library made) = 1
behind_value (on_value_mark.Element l) = 1 + elements_left l
behind_value (on_value_mark.Constant xs) = 1 + statics_left xs.now
behind_value (on_value_mark.Whole around) = 1
behind_value (on_value_mark.Stored q around) = 1

abbrev pub behind_test : TestMark → ℕ
behind_test test.Statement = 1
behind_test (test.If a b) = 1 + weight a.now + maybe_weight b.now
behind_test (test.First r) = 2 + turn_left r + weight r.body.now
behind_test (test.Last r) = 1
behind_test (test.Stepped r) = 1
behind_test (test.Declared o) = 1
behind_test test.Result = 1
behind_test (test.Switch es) = 3 + statements_left es.now

abbrev pub behind_flow : FlowMark → ℕ
behind_flow (part.Rest es) = 1 + statements_left es.now
behind_flow (part.Scope saved) = 1
behind_flow (part.Turn r) = turn_left r
behind_flow part.Leaving = 1
behind_flow (part.Parameters args) = 1

abbrev pub behind : Mark → ℕ
behind (mark.Value k m) = behind_value m
behind (mark.Test k m) = behind_test m
behind (mark.Flow k m) = behind_flow m
behind (mark.Back k s e) = 1

unfoldable pub marks_left : List Mark → ℕ
marks_left [] = 0
marks_left (m ∷ ms) = behind m + marks_left ms

-- how many steps are left of what is being done
abbrev pub doing_left : Program → Doing → ℕ
doing_left p doing.Starts = 2 + statics_left p.statics
doing_left p (doing.Sets xs) = 1 + statics_left xs.now
doing_left p (doing.Evaluate e into) = 1 + weight e.now
doing_left p (doing.Gives v) = 1
doing_left p (doing.Lists l) = 1 + elements_left l
doing_left p (doing.Passes c) = 1 + arguments_left c
doing_left p (doing.Enter f args) = 1
doing_left p (doing.Body f args) = 4 + weight f.now.body
doing_left p (doing.Perform s) = 1 + weight s.now
doing_left p (doing.Follow es) = 1 + statements_left es.now
doing_left p (doing.Case z es) = 1 + statements_left es.now
doing_left p (doing.Default es) = 1 + statements_left es.now
doing_left p (doing.Repeat r) = 1
doing_left p (doing.Ends flow) = 1
doing_left p doing.Asks = 2

-- at most so many steps are left
abbrev pub steps_left : Program → Machine → ℕ
steps_left p m = doing_left p m.doing + marks_left m.stack.items

-- those that are left behind this step, where the run goes on
abbrev pub onward : Program → Result Step Stop → Machine → ℕ
onward p (Ok step.On) m = steps_left p m
onward p (Ok (step.Enters name)) m = steps_left p m
onward p (Ok (step.Puts byte)) m = steps_left p m
onward p (Ok (step.Ends e)) m = 0
onward p (Err stop) m = 0

-- the ticks that are left and one more, where the run goes on
abbrev pub one_more : Result Step Stop → Machine → ℕ
one_more (Ok step.On) m = suc m.ticks
one_more (Ok (step.Enters name)) m = suc m.ticks
one_more (Ok (step.Puts byte)) m = suc m.ticks
one_more (Ok (step.Ends e)) m = 0
one_more (Err stop) m = 0

-- no tick came back, and where none was spent fewer than so many steps are left
pub record Below (p : Program) (before n : ℕ) (new : Machine) : Type 0 where
  pub ticks : new.ticks ≤ before
  pub steps : new.ticks ≡ before → steps_left p new < n

-- the same, where the run goes on
abbrev pub Nearer : Program → ℕ → ℕ → Result Step Stop → Machine → Type 0
Nearer p ticks n (Ok step.On) new = Below p ticks n new
Nearer p ticks n (Ok (step.Enters name)) new = Below p ticks n new
Nearer p ticks n (Ok (step.Puts byte)) new = Below p ticks n new
Nearer p ticks n (Ok (step.Ends e)) new = Unit {0}
Nearer p ticks n (Err stop) new = Unit {0}

-- the same of a turn, where the run goes on
abbrev pub Turned : Program → Machine → Machine → Result (Option End) Stop → Type 0
Turned p old new (Ok None) = Below p old.ticks (steps_left p old) new
Turned p old new (Ok (Some end)) = Unit {0}
Turned p old new (Err stop) = Unit {0}

-- a tick was spent, or the run has ended
abbrev pub Spent : Machine → Machine → Result (Option End) Stop → Type 0
Spent old new (Ok None) = new.ticks < old.ticks
Spent old new (Ok (Some end)) = Unit {0}
Spent old new (Err stop) = Unit {0}
