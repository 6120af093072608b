-- How many nodes trees have. Each place, expression, called type, statement, label, body, local, parameter, pair and item is one. An `if` without
-- `else` has an empty body there.
use Rattle.std.specs.Prelude.{ℕ, List, [], ◌∷◌, length, Option, Some, None}
use Rattle.cc_whole.specs.declared.unit.CInitialiser.{CInitialiser}
use Rattle.cc_whole.specs.declared.unit.CInitialiser.TheVariants as initialiser
use Rattle.cc_whole.specs.Plain.{Place, named, pointed, Expression, constant, load, unary, cast, address, binary, Callee, by_name, by_pointer, Statement, assign, call, block, leave, next, choose, loop, select, give, Statements, done, followed, SwitchItems, closed, labelled, otherwise, stated, SwitchItem, label, default_label, inner, Body, body, Item, declares, declares_variable, defines, defines_variable}
use Rattle.cc_whole_limits.specs.Sums.{Sum, plus}

abbrev mutual
  pub place_nodes : Sum → Place → ℕ
  place_nodes sum (named name) = 1
  place_nodes sum (pointed t e) = sum 1 (nodes sum e)

  pub nodes : Sum → Expression → ℕ
  nodes sum (constant c) = 1
  nodes sum (load p) = sum 1 (place_nodes sum p)
  nodes sum (unary o e) = sum 1 (nodes sum e)
  nodes sum (cast t e) = sum 1 (nodes sum e)
  nodes sum (address name) = 1
  nodes sum (binary o a b) = sum 1 (sum (nodes sum a) (nodes sum b))

-- of expressions, behind so many nodes
abbrev pub all_nodes : Sum → ℕ → List Expression → ℕ
all_nodes sum before_it [] = before_it
all_nodes sum before_it (e ∷ es) = all_nodes sum (sum before_it (nodes sum e)) es

abbrev pub target_nodes : Sum → Option Place → ℕ
target_nodes sum None = 0
target_nodes sum (Some p) = place_nodes sum p

abbrev pub callee_nodes : Sum → Callee → ℕ
callee_nodes sum (by_name name) = 1
callee_nodes sum (by_pointer s e) = sum 1 (sum (length s.parameters) (nodes sum e))

abbrev pub given_nodes : Sum → Option Expression → ℕ
given_nodes sum None = 0
given_nodes sum (Some e) = nodes sum e

abbrev mutual
  pub statement_nodes : Sum → Statement → ℕ
  statement_nodes sum (assign p e) = sum 1 (sum (place_nodes sum p) (nodes sum e))
  statement_nodes sum (call p c es) = sum 1 (sum (target_nodes sum p) (sum (callee_nodes sum c) (all_nodes sum 0 es)))
  statement_nodes sum (block b) = sum 1 (body_nodes sum b)
  statement_nodes sum leave = 1
  statement_nodes sum next = 1
  statement_nodes sum (choose e b other) = sum 1 (sum (nodes sum e) (sum (body_nodes sum b) (body_nodes sum other)))
  statement_nodes sum (loop b) = sum 1 (body_nodes sum b)
  statement_nodes sum (select e items) = sum 1 (sum (nodes sum e) (switch_nodes sum 0 items))
  statement_nodes sum (give e) = sum 1 (given_nodes sum e)

  -- behind so many nodes
  pub statements_nodes : Sum → ℕ → Statements → ℕ
  statements_nodes sum before_it done = before_it
  statements_nodes sum before_it (followed s rest) = statements_nodes sum (sum before_it (statement_nodes sum s)) rest

  pub switch_nodes : Sum → ℕ → SwitchItems → ℕ
  switch_nodes sum before_it closed = before_it
  switch_nodes sum before_it (labelled c rest) = switch_nodes sum (sum before_it 1) rest
  switch_nodes sum before_it (otherwise rest) = switch_nodes sum (sum before_it 1) rest
  switch_nodes sum before_it (stated s rest) = switch_nodes sum (sum before_it (statement_nodes sum s)) rest

  pub body_nodes : Sum → Body → ℕ
  body_nodes sum (body locals all) = sum 1 (sum (length locals) (statements_nodes sum 0 all))

-- a label or a statement of a `switch`
abbrev pub switch_item_nodes : Sum → SwitchItem → ℕ
switch_item_nodes sum (label c) = 1
switch_item_nodes sum default_label = 1
switch_item_nodes sum (inner s) = statement_nodes sum s

abbrev pub start_nodes : Option CInitialiser → ℕ
start_nodes None = 0
start_nodes (Some (initialiser.Text bytes)) = 1
start_nodes (Some (initialiser.Pairs ps)) = length ps

abbrev pub item_nodes : Sum → Item → ℕ
item_nodes sum (declares p) = sum 1 (length p.parameters)
item_nodes sum (declares_variable t name) = 1
item_nodes sum (defines f) = sum 1 (sum (length f.prototype.parameters) (body_nodes sum f.body))
item_nodes sum (defines_variable v) = sum 1 (start_nodes v.initialiser)

-- of items, behind so many nodes
abbrev pub items_nodes : Sum → ℕ → List Item → ℕ
items_nodes sum before_it [] = before_it
items_nodes sum before_it (i ∷ rest) = items_nodes sum (sum before_it (item_nodes sum i)) rest

abbrev pub nodes_of : List Item → ℕ
nodes_of items = items_nodes plus 0 items
