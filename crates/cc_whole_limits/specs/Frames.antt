-- The frame of a function: the most that its parameters and the locals of the bodies open at one place take, each rounded up to 8. A local
-- lives while its body runs.
use Rattle.std.specs.Prelude.{ℕ, max, List, [], ◌∷◌}
use Rattle.cc_whole.specs.declared.statement.CLocal.{CLocal}
use Rattle.cc_whole.specs.declared.unit.CParameter.{CParameter}
use Rattle.cc_whole.specs.Types.{local_type}
use Rattle.cc_whole.specs.Plain.{Statement, assign, call, block, leave, next, choose, loop, select, give, Statements, done, followed, SwitchItems, closed, labelled, otherwise, stated, SwitchItem, label, default_label, inner, Body, body, Item, declares, declares_variable, defines, defines_variable}
use Rattle.cc_whole_link.specs.Static.{type_bytes, variable_bytes, rounded}
use Rattle.cc_whole_limits.specs.Sums.{Sum, plus}

-- of parameters, behind so many bytes
abbrev pub parameters_bytes : Sum → ℕ → List CParameter → ℕ
parameters_bytes sum before_it [] = before_it
parameters_bytes sum before_it (p ∷ ps) = parameters_bytes sum (sum before_it (rounded (type_bytes p.ty))) ps

abbrev pub locals_bytes : Sum → ℕ → List CLocal → ℕ
locals_bytes sum before_it [] = before_it
locals_bytes sum before_it (x ∷ xs) = locals_bytes sum (sum before_it (rounded (variable_bytes (local_type x.ty)))) xs

-- what the bodies in a statement take
abbrev mutual
  pub room : Sum → Statement → ℕ
  room sum (assign p e) = 0
  room sum (call p c es) = 0
  room sum (block b) = body_room sum b
  room sum leave = 0
  room sum next = 0
  room sum (choose e b other) = max (body_room sum b) (body_room sum other)
  room sum (loop b) = body_room sum b
  room sum (select e items) = switch_room sum 0 items
  room sum (give e) = 0

  -- the most of statements, or what those before them take
  pub statements_room : Sum → ℕ → Statements → ℕ
  statements_room sum most done = most
  statements_room sum most (followed s rest) = statements_room sum (max most (room sum s)) rest

  pub switch_room : Sum → ℕ → SwitchItems → ℕ
  switch_room sum most closed = most
  switch_room sum most (labelled c rest) = switch_room sum most rest
  switch_room sum most (otherwise rest) = switch_room sum most rest
  switch_room sum most (stated s rest) = switch_room sum (max most (room sum s)) rest

  pub body_room : Sum → Body → ℕ
  body_room sum (body locals all) = sum (locals_bytes sum 0 locals) (statements_room sum 0 all)

-- a label takes nothing
abbrev pub switch_item_room : Sum → SwitchItem → ℕ
switch_item_room sum (label c) = 0
switch_item_room sum default_label = 0
switch_item_room sum (inner s) = room sum s

abbrev pub item_frame : Sum → Item → ℕ
item_frame sum (declares p) = 0
item_frame sum (declares_variable t name) = 0
item_frame sum (defines f) = sum (parameters_bytes sum 0 f.prototype.parameters) (body_room sum f.body)
item_frame sum (defines_variable v) = 0

-- the greatest frame of the functions that items define, or of those before them
abbrev pub items_frame : Sum → ℕ → List Item → ℕ
items_frame sum most [] = most
items_frame sum most (i ∷ rest) = items_frame sum (max most (item_frame sum i)) rest

abbrev pub greatest_frame : List Item → ℕ
greatest_frame items = items_frame plus 0 items
