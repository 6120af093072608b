-- What is written for statements, node by node.
use Rattle.std.specs.Prelude.{ℕ, zero, suc, drop, ◌-◌, Bool, true, false, ◌&&◌, ◌||◌, nat_lt, if◌then◌else◌, List, [], ◌∷◌, ◌++◌, length, Option, Some, None, is_some}
use Rattle.cf_types.specs.Table.{Table}
use Rattle.cf_core.specs.declared.operators.LoopForm.{LoopForm}
use Rattle.cf_core.specs.declared.operators.LoopForm.TheVariants as form
use Rattle.cf_core.specs.declared.node.Core.{Core as Node, fold-Core}
use Rattle.cf_core.specs.declared.node.Core.TheOpen.{Core-F}
use Rattle.cf_core.specs.declared.node.Core.TheFolds.{map-Core}
use Rattle.cf_core.specs.declared.node.PartStart.{PartStart-F}
use Rattle.cf_core.specs.declared.node.Holder.{Holder}
use Rattle.cf_core.specs.declared.node.Holder.TheVariants as holder
use Rattle.cf_plain.specs.declared.action.Action.TheVariants as action
use Rattle.cf_plain.specs.declared.statement.Plain.{Plain}
use Rattle.cf_plain.specs.declared.statement.Plain.TheVariants as plain
use Rattle.cf_sequence_expr.specs.declared.writing.Writing.{Writing}
use Rattle.cf_sequence_expr.specs.Pieces.{Piece, piece_step}
use Rattle.cf_sequence_stmt.specs.declared.body.Body.{Body}
use Rattle.cf_sequence_stmt.specs.declared.body.Open.{Open}
use Rattle.cf_sequence_stmt.specs.declared.body.Ways.{Ways}
use Rattle.cf_sequence_stmt.specs.declared.rows.Row.{Row}
use Rattle.cf_sequence_stmt.specs.Rows.{row_at}
use Rattle.cf_sequence_stmt.specs.Bodies.{Initial, does_nothing, fills, lists, gives, started, element_placed, with_held, behind_flags, left_to, closed_to, full, given, tested, declared, stated, begun, chosen, turned, switched, with_code, passed_at, set_aside, taken_back}

pub record Step : Type 0 where
  pub piece : Piece  -- as an expression
  pub initial : Initial  -- as an initialiser
  pub held : Option Open  -- the local that is the temporary of the reference that it initialises
  -- as a statement, where `break` and `continue` leave the locals behind so many
  pub act : Ways → Body → Body
  pub label : Option Plain  -- as a label of a switch
  pub opens : List Open → List Open  -- the locals that it declares in the scope at hand, also in the arms of an `if`, behind those so far

-- the statements in order
abbrev pub in_order : List Step → Ways → Body → Body
in_order [] ways b = b
in_order (s ∷ ss) ways b = in_order ss ways (s.act ways b)

-- the statement behind `else`, if there is one
abbrev pub or_nothing : Option Step → Ways → Body → Body
or_nothing None ways b = b
or_nothing (Some s) ways b = s.act ways b

-- statements in a scope of their own (6.3)
abbrev pub block : List Step → Ways → Body → Body
block ss ways b = closed_to (length b.scope) (in_order ss ways b)

-- where `break` and `continue` leave what is declared from here on
abbrev pub inside_loop : Body → Ways
inside_loop b = record { breaks = length b.scope; continues = length b.scope }

abbrev pub inside_switch : Ways → Body → Ways
inside_switch ways b = record { breaks = length b.scope; continues = ways.continues }

-- a loop is left where its condition doesn't hold
abbrev pub held : Option Step → Body → Body
held None b = b
held (Some c) b = let t = tested c.piece b in stated (plain.If (behind_flags 0 c.piece) [] (plain.Break ∷ [])) t

abbrev pub stepped : Option Step → Body → Body
stepped None b = b
stepped (Some e) b = full e.piece b

-- the body of a turn, in a scope of its own
abbrev pub turn : Step → Body → Body
turn s b = closed_to (length b.scope) (s.act (inside_loop b) b)

-- by the form of the loop: the condition comes first, or before each further turn (6.5)
abbrev pub repeated : LoopForm → List Plain → List Plain → List Plain → Step → Body → Body
repeated form.While before test next s b = turned before next (turn s (with_code test b))
repeated form.For before test next s b = turned before next (turn s (with_code test b))
repeated form.Do before test next s b = turned before test (turn s b)

abbrev pub loop : LoopForm → Option Step → Option Step → Step → Body → Body
loop how c e s b =
    let first = held c (begun b) in
    let second = stepped e (begun first) in
    repeated how b.writing.code first.writing.code second.writing.code s (begun second)

abbrev pub all_open : List Step → List Open → List Open
all_open [] xs = xs
all_open (s ∷ ss) xs = all_open ss (s.opens xs)

abbrev pub or_open : Option Step → List Open → List Open
or_open None xs = xs
or_open (Some s) xs = s.opens xs

-- a label of the switch before a switch: what it passes is there
abbrev pub labelled : Option Plain → List Open → Body → Body
labelled None xs b = b
labelled (Some l) xs b = passed_at l xs b

-- the labels of these statements, behind which these locals are there
abbrev pub passing : List Step → List Open → Body → Body
passing [] xs b = b
passing (s ∷ ss) xs b = passing ss (s.opens xs) (labelled s.label xs b)

-- whether one passes a local
abbrev pub passes : Bool → List Step → List Open → Bool
passes is [] xs = is
passes is (s ∷ ss) xs = passes (is || (is_some s.label && nat_lt 0 (length xs))) ss (s.opens xs)

-- the switch before, where a label passes a local (6.7)
abbrev pub selected : ℕ → List Step → Body → Body
selected n ss b =
    let c = passing ss [] (begun b) in
    if passes false ss [] then switched n b.writing.code c else with_code b.writing.code c

-- the statements of a switch, in a scope of their own
abbrev pub cases : List Step → Ways → Body → Body
cases ss ways b = closed_to (length b.scope) (in_order ss (inside_switch ways b) b)

abbrev pub selection : Step → List Step → Ways → Body → Body
selection e ss ways b =
    let v = selected (behind_flags 0 e.piece) ss (given e.piece b) in
    switched (behind_flags 0 e.piece) v.writing.code (cases ss ways (begun v))

-- What an arm declares by itself is open behind the `if` too, and not in the other arm (6.5.3).
abbrev pub choice : Step → Step → Option Step → Ways → Body → Body
choice c a b ways body =
    let t = tested c.piece body in
    let mark = length t.scope in
    let first = a.act ways (begun t) in
    let other = begun first in
    taken_back mark (drop mark other.scope) (chosen (behind_flags 0 c.piece) t.writing.code first.writing.code (or_nothing b ways (set_aside mark other)))

-- all that is open ends before the function does (6.6.3)
abbrev pub returned : Option Step → Body → Body
returned None b = stated (plain.Return None) (left_to 0 b)
returned (Some e) b = stated (plain.Return (Some (behind_flags 0 e.piece))) (left_to 0 (given e.piece b))

-- no statement
abbrev pub silent : Ways → Body → Body
silent ways b = b

abbrev pub act_step : Core-F Step Step → Ways → Body → Body
act_step (Core-F.Full at e) ways b = full e.piece b
act_step (Core-F.Block at ss) ways b = block ss ways b
act_step (Core-F.Sequence at ss) ways b = in_order ss ways b
act_step (Core-F.Declare at i t e) ways b = declared i t e.initial e.held e.piece b
act_step (Core-F.If at c a s) ways b = choice c a s ways b
act_step (Core-F.Loop at how c e s) ways b = loop how c e s b
act_step (Core-F.Switch at e ss) ways b = selection e ss ways b
act_step (Core-F.Case at z) ways b = stated (plain.Case z) b
act_step (Core-F.Default at) ways b = stated plain.Default b
act_step (Core-F.Break at) ways b = stated plain.Break (left_to ways.breaks b)
act_step (Core-F.Continue at) ways b = stated plain.Continue (left_to ways.continues b)
act_step (Core-F.Return at e) ways b = returned e b
act_step other ways b = b

abbrev pub label_step : Core-F Step Step → Option Plain
label_step (Core-F.Case at z) = Some (plain.Case z)
label_step (Core-F.Default at) = Some plain.Default
label_step other = None

abbrev pub opens_step : Core-F Step Step → List Open → List Open
opens_step (Core-F.Declare at i t e) xs = with_held e.held xs ++ record { number = i; ty = t } ∷ []
opens_step (Core-F.Sequence at ss) xs = all_open ss xs
opens_step (Core-F.If at c a b) xs = or_open b (a.opens xs)
opens_step other xs = xs

abbrev pub of_holder : Holder → Option Open
of_holder (holder.LocalTemporary i t) = Some (record { number = i; ty = t })
of_holder h = None

abbrev pub held_step : Core-F Step Step → Option Open
held_step (Core-F.Bind at h e) = of_holder h
held_step other = None

-- Whether an initialiser is a reference's.
abbrev pub binds_step : Core-F Bool Bool → Bool
binds_step (Core-F.Bind at h e) = true
binds_step other = false

abbrev pub binds_part : PartStart-F Bool Bool → Bool
binds_part x = x.start

abbrev pub binds : Node → Bool
binds = fold-Core Bool Bool binds_step binds_part

-- Lists (8.4.1).

-- elements from this number on, each by its own initialiser; they are of this type, and the place of their array is in register n
abbrev pub elements : ℕ → ℕ → ℕ → ℕ → List Step → Writing → Writing
elements t n m i [] w = w
elements t n m i (e ∷ es) w = elements t n m (suc i) es (started e.initial e.piece t m (element_placed n m i w))

-- so many from this number on, by one initialiser
abbrev pub left_out : ℕ → ℕ → ℕ → ℕ → ℕ → Step → Writing → Writing
left_out t n m i zero e w = w
left_out t n m i (suc count) e w = left_out t n m (suc i) count e (started e.initial e.piece t m (element_placed n m i w))

-- of an array, if it is one
unfoldable pub elements_in : Option Row → List Step → ℕ → ℕ → Writing → Writing
elements_in None es n m w = w
elements_in (Some r) es n m w = elements r.element n m 0 es w

unfoldable pub left_out_in : Option Row → ℕ → Step → ℕ → ℕ → Writing → Writing
left_out_in None first e n m w = w
left_out_in (Some r) first e n m w = left_out r.element n m first (r.bound - first) e w

-- the elements of an array, whose place is in register n, and those that the list leaves out
unfoldable pub listed : Option Row → List Step → Step → ℕ → ℕ → Writing → Writing
listed o es rest n m w = left_out_in o (length es) rest n m (elements_in o es n m w)

module _ (types : Table) where
  abbrev pub initial_step : Core-F Step Step → Initial
  initial_step (Core-F.Blank at) = does_nothing
  initial_step (Core-F.Zeros at) = fills action.Zeros
  initial_step (Core-F.Characters at bytes) = fills (λ n. action.Characters n bytes)
  initial_step (Core-F.List at es rest) = lists (λ t n m w. listed (row_at types t) es rest n m w)
  initial_step other = gives

  abbrev pub step_step : Core-F Step Step → Step
  step_step x = record {
    piece = piece_step types (map-Core _ _ _ _ Step.piece Step.piece x);
    initial = initial_step x;
    held = held_step x;
    act = act_step x;
    label = label_step x;
    opens = opens_step x;
  }

  abbrev pub part_step : PartStart-F Step Step → Step
  part_step x = x.start

  abbrev pub step : Node → Step
  step = fold-Core Step Step step_step part_step
