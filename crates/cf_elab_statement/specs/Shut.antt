-- The steps of statements, each under a name of its own that does not unfold. `Rattle.cf_elab_statement.proofs.Rows` says that the rows are these.
use Rattle.std.specs.Prelude.{ℕ, Bool, true, false, not, List, [], Option, None, Some}
use Rattle.cf_base.specs.declared.kind.Kind.{Kind}
use Rattle.cf_core.specs.declared.operators.LoopForm.{LoopForm}
use Rattle.cf_core.specs.declared.operators.LoopForm.TheVariants as form
use Rattle.cf_core.specs.declared.node.Core.{Core as Node}
use Rattle.cf_core.specs.declared.node.Core.TheVariants as node
use Rattle.cf_elab.specs.Answer.{Elab, ◌>>=◌, ◌>>◌, gives, known, none_at, need, hand_changed, maybe}
use Rattle.cf_elab.specs.ClassOperand.{scalar}
use Rattle.cf_elab.specs.Fit.{to_kind}
use Rattle.cf_elab.specs.Initial.{no_keeper}
use Rattle.cf_elab.specs.MethodNode.{unused}
use Rattle.cf_elab.specs.Operand.{Value, plain, sort_of, arithmetic}
use Rattle.cf_elab.specs.Statement as row
use Rattle.cf_elab.specs.Statement.{Made}
use Rattle.cf_elab.specs.UserFit.{initial}
use Rattle.cf_elab_statement.specs.declared.jumps.Jumps.{Jumps}
use Rattle.cf_elab_statement.specs.Parts.{if_made, has_no_result}

-- ---- simple statements

unfoldable pub expression : ℕ → Value → Elab Made
expression at v = known >>= (λ env. gives (row.made at (node.Full at (unused env v))))

-- ---- if and loops, behind their parts

unfoldable pub condition : ℕ → Value → Elab Node
condition = row.condition

unfoldable pub if_behind : ℕ → Value → Made → Option Made → Elab Made
if_behind at v a b = condition at v >>= (λ c. gives (if_made at c a b))

unfoldable pub loop_behind : ℕ → LoopForm → Value → Made → Elab Made
loop_behind at f v body = condition at v >>= (λ c. gives (row.loop_made at (row.loop_of at f (Some c) None body) body))

unfoldable pub maybe_condition : ℕ → Option Value → Elab (Option Node)
maybe_condition at v = maybe (condition at) v

unfoldable pub for_behind : ℕ → Made → Option Value → Option Value → Made → Elab Made
for_behind at first v step body = do
  c ← maybe_condition at v
  env ← known
  gives (row.with_first at first body (row.loop_of at form.For c (row.step_node env step) body))

-- ---- what is said of jumps before a body, and behind it

unfoldable pub begin_loop : Elab Jumps
begin_loop = do
  before ← known
  hand_changed (λ h. record h { breaks = true; continues = true })
  gives (record { breaks = before.hand.breaks; continues = before.hand.continues })

unfoldable pub end_loop : Jumps → Elab (Unit {0})
end_loop before = hand_changed (λ h. record h { breaks = before.breaks; continues = before.continues })

unfoldable pub begin_switch : Elab Bool
begin_switch = do
  before ← known
  hand_changed (λ h. record h { breaks = true })
  gives before.hand.breaks

unfoldable pub end_switch : Bool → Elab (Unit {0})
end_switch before = hand_changed (λ h. record h { breaks = before })

-- ---- switch, behind its operand and its statements

unfoldable pub fault : ℕ → Option ℕ → Elab (Unit {0})
fault rule place = none_at place rule

unfoldable pub check_labels : Kind → List Made → Elab (Unit {0})
check_labels k ms = row.labels_constant ms >> (row.labels_differ k [] ms >> row.labels_pass_none false ms)

-- with an operand of this promoted type
unfoldable pub switch_on : ℕ → Kind → Value → List Made → Elab Made
switch_on at k w ms = do
  operand ← to_kind k w
  row.labels_constant ms
  row.labels_differ k [] ms
  row.labels_pass_none false ms
  gives (row.made at (node.Switch at operand.node (row.labelled k ms)))

unfoldable pub switch_plain : ℕ → Value → List Made → Elab Made
switch_plain at w ms = do
  env ← known
  k ← row.switched at w (arithmetic (sort_of env.types w.type))
  switch_on at k w ms

unfoldable pub switch_behind : ℕ → Value → List Made → Elab Made
switch_behind at v ms = do
  u ← scalar 13 at v
  w ← plain u
  switch_plain at w ms

-- ---- jumps

unfoldable pub break_row : ℕ → Elab Made
break_row = row.break_row

unfoldable pub continue_row : ℕ → Elab Made
continue_row = row.continue_row

unfoldable pub result_value : ℕ → Value → Elab Node
result_value at v = do
  env ← known
  need (not (has_no_result env)) 22 at
  s ← initial no_keeper at env.hand.result v
  gives s.node

unfoldable pub returned : ℕ → Option Value → Elab (Option Node)
returned = row.returned

unfoldable pub return_behind : ℕ → Option Value → Elab Made
return_behind at v = returned at v >>= (λ n. gives (row.made at (node.Return at n)))
