-- Trees as plain data with other names for functions and variables of the unit. A name that a parameter or a local hides stays.
use Rattle.std.specs.Prelude.{List, [], ◌∷◌, Option, Some, None}
use Rattle.cc_whole.specs.Plain.{Place, named, pointed, Expression, constant, load, unary, cast, address, binary, Callee, by_name, by_pointer, Statement, assign, call, block, leave, next, choose, loop, select, give, Statements, done, followed, SwitchItems, closed, labelled, otherwise, stated, SwitchItem, label, default_label, inner, Body, body}
use Rattle.cc_whole.specs.Uses.{local_names}
use Rattle.cc_whole_link.specs.Rename.{Renaming, hiding}

abbrev mutual
  pub place_with : Place → Renaming → Place
  place_with (named name) r = named (r name)
  place_with (pointed t e) r = pointed t (expression_with e r)

  pub expression_with : Expression → Renaming → Expression
  expression_with (constant c) r = constant c
  expression_with (load p) r = load (place_with p r)
  expression_with (unary o e) r = unary o (expression_with e r)
  expression_with (cast t e) r = cast t (expression_with e r)
  expression_with (address name) r = address (r name)
  expression_with (binary o a b) r = binary o (expression_with a r) (expression_with b r)

abbrev pub expressions_with : List Expression → Renaming → List Expression
expressions_with [] r = []
expressions_with (e ∷ es) r = expression_with e r ∷ expressions_with es r

abbrev pub target_with : Option Place → Renaming → Option Place
target_with None r = None
target_with (Some p) r = Some (place_with p r)

abbrev pub callee_with : Callee → Renaming → Callee
callee_with (by_name name) r = by_name (r name)
callee_with (by_pointer s e) r = by_pointer s (expression_with e r)

abbrev pub given_with : Option Expression → Renaming → Option Expression
given_with None r = None
given_with (Some e) r = Some (expression_with e r)

abbrev mutual
  pub statement_with : Statement → Renaming → Statement
  statement_with (assign p e) r = assign (place_with p r) (expression_with e r)
  statement_with (call p c es) r = call (target_with p r) (callee_with c r) (expressions_with es r)
  statement_with (block b) r = block (body_with b r)
  statement_with leave r = leave
  statement_with next r = next
  statement_with (choose e b other) r = choose (expression_with e r) (body_with b r) (body_with other r)
  statement_with (loop b) r = loop (body_with b r)
  statement_with (select e items) r = select (expression_with e r) (switch_with items r)
  statement_with (give e) r = give (given_with e r)

  pub statements_with : Statements → Renaming → Statements
  statements_with done r = done
  statements_with (followed s rest) r = followed (statement_with s r) (statements_with rest r)

  pub switch_with : SwitchItems → Renaming → SwitchItems
  switch_with closed r = closed
  switch_with (labelled c rest) r = labelled c (switch_with rest r)
  switch_with (otherwise rest) r = otherwise (switch_with rest r)
  switch_with (stated s rest) r = stated (statement_with s r) (switch_with rest r)

  pub body_with : Body → Renaming → Body
  body_with (body locals all) r = body locals (statements_with all (hiding (local_names locals) r))

abbrev pub item_with : SwitchItem → Renaming → SwitchItem
item_with (label c) r = label c
item_with default_label r = default_label
item_with (inner s) r = inner (statement_with s r)
