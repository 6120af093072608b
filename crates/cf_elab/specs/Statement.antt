-- Statements, and the definitions that hold them (6).
use Rattle.std.specs.Prelude.{ℕ, Bool, true, false, not, ◌&&◌, ◌||◌, List, [], ◌∷◌, map, ℤ, pos, int_le, Option, None, Some, is_some}
use Rattle.std.specs.List.{list_any}
use Rattle.std.specs.Option.{option_map, option_map_or}
use Rattle.cf_base.specs.declared.kind.Kind.{Kind}
use Rattle.cf_base.specs.Integers.{convert}
use Rattle.cf_core.specs.declared.operators.LoopForm.{LoopForm}
use Rattle.cf_core.specs.declared.operators.LoopForm.TheVariants as form
use Rattle.cf_core.specs.declared.node.Core.{Core as Node}
use Rattle.cf_core.specs.declared.node.Core.TheVariants as node
use Rattle.cf_elab.specs.Env.{Env, BodyKind, main_body}
use Rattle.cf_elab.specs.MethodNode.{unused}
use Rattle.cf_elab.specs.UserFit.{initial}
use Rattle.cf_elab.specs.ClassOperand.{truth, scalar}
use Rattle.cf_elab.specs.Answer.{Elab, ◌>>=◌, ◌>>◌, gives, done, breaks, need, known, hand_changed, maybe, all}
use Rattle.cf_elab.specs.Operand.{Value, Part, evaluated, plain, sort_of, arithmetic, is_void}
use Rattle.cf_elab.specs.Fit.{to_kind}
use Rattle.cf_elab.specs.Initial.{no_keeper}
use Rattle.cf_elab.specs.Names.{scoped}
use Rattle.cf_elab.specs.Objects.{Reached}

-- what a statement is to the braces around it: a label of a switch, or not
pub data Label : Type 0 where
  no_label : Label
  case_label : Value → Label
  default_label : Label

pub record Made : Type 0 where
  pub at : ℕ
  pub node : Node
  pub label : Label
  pub initialises : Bool

abbrev pub made : ℕ → Node → Made
made at n = record { at = at; node = n; label = no_label; initialises = false }

abbrev pub nodes_of : List Made → List Node
nodes_of ms = map (λ (m : Made). m.node) ms

-- ---- simple statements (6.2, 6.3, 6.7)

abbrev pub expression_row : ℕ → Part → Elab Made
expression_row at x = do
  v ← evaluated x
  env ← known
  gives (made at (node.Full at (unused env v)))

abbrev pub empty_row : ℕ → Elab Made
empty_row at = gives (made at (node.Full at (node.Blank at)))

abbrev pub block_row : ℕ → List (Elab Made) → Elab Made
block_row at ss = scoped (all ss) >>= (λ ms. gives (made at (node.Block at (nodes_of ms))))

abbrev pub one_or_all : ℕ → List Reached → Node
one_or_all at (r ∷ []) = r.node
one_or_all at rs = node.Sequence at (map (λ (r : Reached). r.node) rs)

abbrev pub declaration_made : ℕ → List Reached → Made
declaration_made at rs = record (made at (one_or_all at rs)) { initialises = list_any (λ (r : Reached). r.initialises) rs }

-- ---- if and loops: the parts, and then Truth at the keyword (6.4.1, 6.5)

abbrev pub condition : ℕ → Value → Elab Node
condition at v = truth 13 at v >>= (λ x. gives x.node)

abbrev pub if_row : ℕ → Part → Elab Made → Option (Elab Made) → Elab Made
if_row at x then_part else_part = do
  v ← evaluated x
  a ← then_part
  b ← maybe (λ (s : Elab Made). s) else_part
  c ← condition at v
  gives (record (made at (node.If at c a.node (node_of b))) { initialises = a.initialises || option_map_or (λ (m : Made). m.initialises) b false })
  where
    node_of : Option Made → Option Node
    node_of None = None
    node_of (Some m) = Some m.node

-- a body in which `break` and `continue` may stand
abbrev pub looped : Elab Made → Elab Made
looped run = do
  before ← known
  hand_changed (λ h. record h { breaks = true; continues = true })
  m ← run
  hand_changed (λ h. record h { breaks = before.hand.breaks; continues = before.hand.continues })
  gives m

abbrev pub loop_of : ℕ → LoopForm → Option Node → Option Node → Made → Node
loop_of at f c step body = node.Loop at f c step body.node

-- a body that is no block is no scope: what it declares counts for the labels behind
abbrev pub loop_made : ℕ → Node → Made → Made
loop_made at n body = record (made at n) { initialises = body.initialises }

abbrev pub while_row : ℕ → Part → Elab Made → Elab Made
while_row at x body = do
  v ← evaluated x
  m ← looped body
  c ← condition at v
  gives (loop_made at (loop_of at form.While (Some c) None m) m)

abbrev pub do_row : ℕ → Elab Made → Part → Elab Made
do_row at body x = do
  m ← looped body
  v ← evaluated x
  c ← condition at v
  gives (loop_made at (loop_of at form.Do (Some c) None m) m)

abbrev pub step_node : Env → Option Value → Option Node
step_node env w = option_map (unused env) w

-- what a `for` declares lives to the end of the block around it
abbrev pub with_first : ℕ → Made → Made → Node → Made
with_first at first body loop = record (made at (node.Sequence at (first.node ∷ loop ∷ []))) { initialises = first.initialises || body.initialises }

abbrev pub for_row : ℕ → Elab Made → Option Part → Option Part → Elab Made → Elab Made
for_row at first x step body = do
  f ← first
  v ← maybe evaluated x
  w ← maybe evaluated step
  m ← looped body
  c ← maybe (condition at) v
  env ← known
  gives (with_first at f m (loop_of at form.For c (step_node env w) m))

-- ---- switch (6.4.2)

-- a case's value as one of the operand's type
abbrev pub label_number : Kind → Value → Option ℤ
label_number k v = elim v.number [ None ↦ None | Some z ↦ Some (convert k z) ]

-- each label is a constant, K19
abbrev pub labels_constant : List Made → Elab (Unit {0})
labels_constant [] = done
labels_constant (m ∷ ms) = constant_label m.at m.label >> labels_constant ms
  where
    constant_label : ℕ → Label → Elab (Unit {0})
    constant_label at no_label = done
    constant_label at default_label = done
    constant_label at (case_label v) = need (is_some v.number) 19 at

abbrev pub same_number : Option ℤ → Option ℤ → Bool
same_number (Some a) (Some b) = int_le a b && int_le b a
same_number a b = false

abbrev pub same_label : Kind → Label → Label → Bool
same_label k (case_label v) (case_label w) = same_number (label_number k v) (label_number k w)
same_label k default_label default_label = true
same_label k a b = false

-- one twice, or two defaults: K20 at the later one
abbrev pub labels_differ : Kind → List Label → List Made → Elab (Unit {0})
labels_differ k before [] = done
labels_differ k before (m ∷ ms) = need (not (list_any (same_label k m.label) before)) 20 m.at >> labels_differ k (m.label ∷ before) ms

abbrev pub is_label : Label → Bool
is_label no_label = false
is_label other = true

-- a label behind a declaration with an initialiser passes it, K23
abbrev pub labels_pass_none : Bool → List Made → Elab (Unit {0})
labels_pass_none passed [] = done
labels_pass_none passed (m ∷ ms) = need (not (passed && is_label m.label)) 23 m.at >> labels_pass_none (passed || m.initialises) ms

abbrev pub number_or_zero : Option ℤ → ℤ
number_or_zero None = pos 0
number_or_zero (Some z) = z

abbrev pub label_node : Kind → ℕ → Node → Label → Node
label_node k at n no_label = n
label_node k at n default_label = node.Default at
label_node k at n (case_label v) = node.Case at (number_or_zero (label_number k v))

abbrev pub labelled : Kind → List Made → List Node
labelled k ms = map (λ (m : Made). label_node k m.at m.node m.label) ms

-- the operand as a value of its promoted type, K13
abbrev pub switched : ℕ → Value → Option Kind → Elab Kind
switched at x None = breaks 13 at
switched at x (Some k) = gives k

abbrev pub braces : List (Elab Made) → Elab (List Made)
braces ss = do
  before ← known
  hand_changed (λ h. record h { breaks = true })
  ms ← scoped (all ss)
  hand_changed (λ h. record h { breaks = before.hand.breaks })
  gives ms

abbrev pub switch_row : ℕ → Part → List (Elab Made) → Elab Made
switch_row at x ss = do
  v ← evaluated x
  ms ← braces ss
  u ← scalar 13 at v
  w ← plain u
  env ← known
  k ← switched at w (arithmetic (sort_of env.types w.type))
  operand ← to_kind k w
  labels_constant ms
  labels_differ k [] ms
  labels_pass_none false ms
  gives (made at (node.Switch at operand.node (labelled k ms)))

abbrev pub case_row : ℕ → Part → Elab Made
case_row at x = evaluated x >>= (λ v. gives (record (made at (node.Blank at)) { label = case_label v }))

abbrev pub default_row : ℕ → Elab Made
default_row at = gives (record (made at (node.Default at)) { label = default_label })

-- ---- jumps (6.6)

abbrev pub break_row : ℕ → Elab Made
break_row at = known >>= (λ env. need env.hand.breaks 21 at) >> gives (made at (node.Break at))

abbrev pub continue_row : ℕ → Elab Made
continue_row at = known >>= (λ env. need env.hand.continues 21 at) >> gives (made at (node.Continue at))

abbrev pub is_main_body : BodyKind → Bool
is_main_body main_body = true
is_main_body other = false

-- a value where there is no result, and none where there is one, but for `main`, is K22; then the result takes the value (6.6.3)
abbrev pub returned : ℕ → Option Value → Elab (Option Node)
returned at None = do
  env ← known
  need (is_void (sort_of env.types env.hand.result) || is_main_body env.hand.kind) 22 at
  gives None
returned at (Some v) = do
  env ← known
  need (not (is_void (sort_of env.types env.hand.result))) 22 at
  s ← initial no_keeper at env.hand.result v
  gives (Some s.node)

abbrev pub return_row : ℕ → Option Part → Elab Made
return_row at x = do
  v ← maybe evaluated x
  n ← returned at v
  gives (made at (node.Return at n))
