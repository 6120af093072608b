-- The frames that the code finds are those of the definition, as far as 64 bits tell.
use Rattle.std.proofs.Common.{◌≡◌, ℕ, List, [], ◌∷◌, refl}
use Rattle.std.specs.Prelude.{max}
use Rattle.cc_whole.specs.declared.statement.CLocal.{CLocal}
use Rattle.cc_whole.specs.declared.unit.CParameter.{CParameter}
use Rattle.cc_whole.specs.Types.{local_type}
use Rattle.cc_whole.specs.Plain.{Statement, assign, call, block, leave, next, choose, loop, select, give, Statements, done, followed, SwitchItems, closed, labelled, otherwise, stated, Body, body, Item, declares, declares_variable, defines, defines_variable}
use Rattle.cc_whole_link.specs.Static.{type_bytes, variable_bytes, rounded}
use Rattle.cc_whole_limits.specs.Sums.{plus, capped, capped_plus}
use Rattle.cc_whole_limits.specs.Frames.{parameters_bytes, locals_bytes, room, statements_room, switch_room, body_room, item_frame, items_frame}
use Rattle.cc_whole_limits.proofs.SumLaws.{left, both, greater}

parameters-capped : (ps : List CParameter) (n x : ℕ) → x ≡ capped n → parameters_bytes capped_plus x ps ≡ capped (parameters_bytes plus n ps)
parameters-capped [] n x h = h
parameters-capped (p ∷ ps) n x h =
    let bytes = rounded (type_bytes p.ty) in parameters-capped ps (plus n bytes) (capped_plus x bytes) (left n bytes x h)

locals-capped : (xs : List CLocal) (n x : ℕ) → x ≡ capped n → locals_bytes capped_plus x xs ≡ capped (locals_bytes plus n xs)
locals-capped [] n x h = h
locals-capped (l ∷ xs) n x h =
    let bytes = rounded (variable_bytes (local_type l.ty)) in locals-capped xs (plus n bytes) (capped_plus x bytes) (left n bytes x h)

mutual
  room-capped : (s : Statement) → room capped_plus s ≡ capped (room plus s)
  room-capped (assign p e) = refl
  room-capped (call p c es) = refl
  room-capped (block b) = body-capped b
  room-capped leave = refl
  room-capped next = refl
  room-capped (choose e b other) =
      greater (body_room plus b) (body_room plus other) (body_room capped_plus b) (body_room capped_plus other) (body-capped b) (body-capped other)
  room-capped (loop b) = body-capped b
  room-capped (select e items) = switch-capped items 0 0 refl
  room-capped (give e) = refl

  statements-capped : (all : Statements) (n x : ℕ) → x ≡ capped n → statements_room capped_plus x all ≡ capped (statements_room plus n all)
  statements-capped done n x h = h
  statements-capped (followed s rest) n x h =
      statements-capped rest (max n (room plus s)) (max x (room capped_plus s)) (greater n (room plus s) x (room capped_plus s) h (room-capped s))

  switch-capped : (items : SwitchItems) (n x : ℕ) → x ≡ capped n → switch_room capped_plus x items ≡ capped (switch_room plus n items)
  switch-capped closed n x h = h
  switch-capped (labelled c rest) n x h = switch-capped rest n x h
  switch-capped (otherwise rest) n x h = switch-capped rest n x h
  switch-capped (stated s rest) n x h =
      switch-capped rest (max n (room plus s)) (max x (room capped_plus s)) (greater n (room plus s) x (room capped_plus s) h (room-capped s))

  body-capped : (b : Body) → body_room capped_plus b ≡ capped (body_room plus b)
  body-capped (body locals all) =
      both (locals_bytes plus 0 locals) (statements_room plus 0 all) (locals_bytes capped_plus 0 locals) (statements_room capped_plus 0 all)
      (locals-capped locals 0 0 refl) (statements-capped all 0 0 refl)

item-capped : (i : Item) → item_frame capped_plus i ≡ capped (item_frame plus i)
item-capped (declares p) = refl
item-capped (declares_variable t name) = refl
item-capped (defines f) =
    both (parameters_bytes plus 0 f.prototype.parameters) (body_room plus f.body) (parameters_bytes capped_plus 0 f.prototype.parameters) (body_room capped_plus f.body)
    (parameters-capped f.prototype.parameters 0 0 refl) (body-capped f.body)
item-capped (defines_variable v) = refl

items-behind : (items : List Item) (n x : ℕ) → x ≡ capped n → items_frame capped_plus x items ≡ capped (items_frame plus n items)
items-behind [] n x h = h
items-behind (i ∷ rest) n x h =
    items-behind rest (max n (item_frame plus i)) (max x (item_frame capped_plus i)) (greater n (item_frame plus i) x (item_frame capped_plus i) h (item-capped i))

pub items-capped : (items : List Item) → items_frame capped_plus 0 items ≡ capped (items_frame plus 0 items)
items-capped items = items-behind items 0 0 refl
