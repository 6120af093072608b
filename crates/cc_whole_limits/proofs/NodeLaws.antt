-- The nodes that the code counts are those of the definition, as far as 64 bits tell.
use Rattle.std.proofs.Common.{◌≡◌, ℕ, List, [], ◌∷◌, length, Option, Some, None, refl}
use Rattle.cc_whole.specs.Plain.{Place, named, pointed, Expression, constant, load, unary, cast, address, binary, Callee, by_name, by_pointer, Statement, assign, call, block, leave, next, choose, loop, select, give, Statements, done, followed, SwitchItems, closed, labelled, otherwise, stated, Body, body, Item, declares, declares_variable, defines, defines_variable}
use Rattle.cc_whole_limits.specs.Sums.{plus, capped, capped_plus}
use Rattle.cc_whole_limits.specs.Nodes.{place_nodes, nodes, all_nodes, target_nodes, callee_nodes, given_nodes, statement_nodes, statements_nodes, switch_nodes, body_nodes, item_nodes, items_nodes}
use Rattle.cc_whole_limits.proofs.SumLaws.{right, left, both}

mutual
  place-capped : (p : Place) → place_nodes capped_plus p ≡ capped (place_nodes plus p)
  place-capped (named name) = refl
  place-capped (pointed t e) = right 1 (nodes plus e) (nodes capped_plus e) (nodes-capped e)

  nodes-capped : (e : Expression) → nodes capped_plus e ≡ capped (nodes plus e)
  nodes-capped (constant c) = refl
  nodes-capped (load p) = right 1 (place_nodes plus p) (place_nodes capped_plus p) (place-capped p)
  nodes-capped (unary o e) = right 1 (nodes plus e) (nodes capped_plus e) (nodes-capped e)
  nodes-capped (cast t e) = right 1 (nodes plus e) (nodes capped_plus e) (nodes-capped e)
  nodes-capped (address name) = refl
  nodes-capped (binary o a b) =
      right 1 (plus (nodes plus a) (nodes plus b)) (capped_plus (nodes capped_plus a) (nodes capped_plus b))
      (both (nodes plus a) (nodes plus b) (nodes capped_plus a) (nodes capped_plus b) (nodes-capped a) (nodes-capped b))

all-capped : (es : List Expression) (n x : ℕ) → x ≡ capped n → all_nodes capped_plus x es ≡ capped (all_nodes plus n es)
all-capped [] n x h = h
all-capped (e ∷ es) n x h = all-capped es (plus n (nodes plus e)) (capped_plus x (nodes capped_plus e)) (both n (nodes plus e) x (nodes capped_plus e) h (nodes-capped e))

target-capped : (p : Option Place) → target_nodes capped_plus p ≡ capped (target_nodes plus p)
target-capped None = refl
target-capped (Some p) = place-capped p

callee-capped : (c : Callee) → callee_nodes capped_plus c ≡ capped (callee_nodes plus c)
callee-capped (by_name name) = refl
callee-capped (by_pointer s e) =
    right 1 (plus (length s.parameters) (nodes plus e)) (capped_plus (length s.parameters) (nodes capped_plus e))
    (right (length s.parameters) (nodes plus e) (nodes capped_plus e) (nodes-capped e))

given-capped : (e : Option Expression) → given_nodes capped_plus e ≡ capped (given_nodes plus e)
given-capped None = refl
given-capped (Some e) = nodes-capped e

mutual
  statement-capped : (s : Statement) → statement_nodes capped_plus s ≡ capped (statement_nodes plus s)
  statement-capped (assign p e) =
      right 1 (plus (place_nodes plus p) (nodes plus e)) (capped_plus (place_nodes capped_plus p) (nodes capped_plus e))
      (both (place_nodes plus p) (nodes plus e) (place_nodes capped_plus p) (nodes capped_plus e) (place-capped p) (nodes-capped e))
  statement-capped (call p c es) =
      let called = both (callee_nodes plus c) (all_nodes plus 0 es) (callee_nodes capped_plus c) (all_nodes capped_plus 0 es) (callee-capped c) (all-capped es 0 0 refl) in
      right 1 (plus (target_nodes plus p) (plus (callee_nodes plus c) (all_nodes plus 0 es)))
      (capped_plus (target_nodes capped_plus p) (capped_plus (callee_nodes capped_plus c) (all_nodes capped_plus 0 es)))
      (both (target_nodes plus p) (plus (callee_nodes plus c) (all_nodes plus 0 es)) (target_nodes capped_plus p)
      (capped_plus (callee_nodes capped_plus c) (all_nodes capped_plus 0 es)) (target-capped p) called)
  statement-capped (block b) = right 1 (body_nodes plus b) (body_nodes capped_plus b) (body-capped b)
  statement-capped leave = refl
  statement-capped next = refl
  statement-capped (choose e b other) =
      let bodies = both (body_nodes plus b) (body_nodes plus other) (body_nodes capped_plus b) (body_nodes capped_plus other) (body-capped b) (body-capped other) in
      right 1 (plus (nodes plus e) (plus (body_nodes plus b) (body_nodes plus other)))
      (capped_plus (nodes capped_plus e) (capped_plus (body_nodes capped_plus b) (body_nodes capped_plus other)))
      (both (nodes plus e) (plus (body_nodes plus b) (body_nodes plus other)) (nodes capped_plus e)
      (capped_plus (body_nodes capped_plus b) (body_nodes capped_plus other)) (nodes-capped e) bodies)
  statement-capped (loop b) = right 1 (body_nodes plus b) (body_nodes capped_plus b) (body-capped b)
  statement-capped (select e items) =
      right 1 (plus (nodes plus e) (switch_nodes plus 0 items)) (capped_plus (nodes capped_plus e) (switch_nodes capped_plus 0 items))
      (both (nodes plus e) (switch_nodes plus 0 items) (nodes capped_plus e) (switch_nodes capped_plus 0 items) (nodes-capped e) (switch-capped items 0 0 refl))
  statement-capped (give e) = right 1 (given_nodes plus e) (given_nodes capped_plus e) (given-capped e)

  statements-capped : (all : Statements) (n x : ℕ) → x ≡ capped n → statements_nodes capped_plus x all ≡ capped (statements_nodes plus n all)
  statements-capped done n x h = h
  statements-capped (followed s rest) n x h =
      statements-capped rest (plus n (statement_nodes plus s)) (capped_plus x (statement_nodes capped_plus s))
      (both n (statement_nodes plus s) x (statement_nodes capped_plus s) h (statement-capped s))

  switch-capped : (items : SwitchItems) (n x : ℕ) → x ≡ capped n → switch_nodes capped_plus x items ≡ capped (switch_nodes plus n items)
  switch-capped closed n x h = h
  switch-capped (labelled c rest) n x h = switch-capped rest (plus n 1) (capped_plus x 1) (left n 1 x h)
  switch-capped (otherwise rest) n x h = switch-capped rest (plus n 1) (capped_plus x 1) (left n 1 x h)
  switch-capped (stated s rest) n x h =
      switch-capped rest (plus n (statement_nodes plus s)) (capped_plus x (statement_nodes capped_plus s))
      (both n (statement_nodes plus s) x (statement_nodes capped_plus s) h (statement-capped s))

  body-capped : (b : Body) → body_nodes capped_plus b ≡ capped (body_nodes plus b)
  body-capped (body locals all) =
      right 1 (plus (length locals) (statements_nodes plus 0 all)) (capped_plus (length locals) (statements_nodes capped_plus 0 all))
      (right (length locals) (statements_nodes plus 0 all) (statements_nodes capped_plus 0 all) (statements-capped all 0 0 refl))

item-capped : (i : Item) → item_nodes capped_plus i ≡ capped (item_nodes plus i)
item-capped (declares p) = refl
item-capped (declares_variable t name) = refl
item-capped (defines f) =
    right 1 (plus (length f.prototype.parameters) (body_nodes plus f.body)) (capped_plus (length f.prototype.parameters) (body_nodes capped_plus f.body))
    (right (length f.prototype.parameters) (body_nodes plus f.body) (body_nodes capped_plus f.body) (body-capped f.body))
item-capped (defines_variable v) = refl

items-behind : (items : List Item) (n x : ℕ) → x ≡ capped n → items_nodes capped_plus x items ≡ capped (items_nodes plus n items)
items-behind [] n x h = h
items-behind (i ∷ rest) n x h =
    items-behind rest (plus n (item_nodes plus i)) (capped_plus x (item_nodes capped_plus i)) (both n (item_nodes plus i) x (item_nodes capped_plus i) h (item-capped i))

pub items-capped : (items : List Item) → items_nodes capped_plus 0 items ≡ capped (items_nodes plus 0 items)
items-capped items = items-behind items 0 0 refl
