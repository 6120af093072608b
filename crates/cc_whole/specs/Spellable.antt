-- The trees that have a text: their names, strings and versions are ones that a text can have. A used name needs no word of its own here:
-- rule V1 says that it is declared.
use Rattle.std.specs.Prelude.{ℕ, ◌^◌, nat_lt, Bool, true, false, ◌&&◌, List, [], ◌∷◌, Option, Some, None}
use Rattle.std.specs.List.{list_all}
use Rattle.cc_whole_tokens.specs.Token.{is_name}
use Rattle.cc_whole.specs.declared.statement.CLocal.{CLocal}
use Rattle.cc_whole.specs.declared.unit.CParameter.{CParameter}
use Rattle.cc_whole.specs.declared.unit.CPrototype.{CPrototype}
use Rattle.cc_whole.specs.declared.unit.CInitialiser.{CInitialiser}
use Rattle.cc_whole.specs.declared.unit.CInitialiser.TheVariants as initialiser
use Rattle.cc_whole.specs.Plain.{Statement, assign, call, block, leave, next, choose, loop, select, give, Statements, done, followed, SwitchItems, closed, labelled, otherwise, stated, Body, body, Item, declares, declares_variable, defines, defines_variable}

abbrev pub good_locals : List CLocal → Bool
good_locals locals = list_all (λ (x : CLocal). is_name x.name) locals

abbrev mutual
  -- the names of its locals are names
  pub spellable : Statement → Bool
  spellable (assign p e) = true
  spellable (call p c es) = true
  spellable (block b) = spellable_body b
  spellable leave = true
  spellable next = true
  spellable (choose e b other) = spellable_body b && spellable_body other
  spellable (loop b) = spellable_body b
  spellable (select e items) = spellable_switch items
  spellable (give e) = true

  pub spellable_statements : Statements → Bool
  spellable_statements done = true
  spellable_statements (followed s rest) = spellable s && spellable_statements rest

  pub spellable_switch : SwitchItems → Bool
  spellable_switch closed = true
  spellable_switch (labelled c rest) = spellable_switch rest
  spellable_switch (otherwise rest) = spellable_switch rest
  spellable_switch (stated s rest) = spellable s && spellable_switch rest

  pub spellable_body : Body → Bool
  spellable_body (body locals all) = good_locals locals && spellable_statements all

abbrev pub spellable_prototype : CPrototype → Bool
spellable_prototype p = is_name p.name && list_all (λ (x : CParameter). is_name x.name) p.parameters

-- a string has bytes, and there is one pair or more
abbrev pub spellable_start : Option CInitialiser → Bool
spellable_start None = true
spellable_start (Some (initialiser.Text bytes)) = list_all (λ b. nat_lt b 256) bytes
spellable_start (Some (initialiser.Pairs [])) = false
spellable_start (Some (initialiser.Pairs (p ∷ ps))) = true

abbrev pub spellable_item : Item → Bool
spellable_item (declares p) = spellable_prototype p
spellable_item (declares_variable t name) = is_name name
spellable_item (defines f) = spellable_prototype f.prototype && spellable_body f.body
spellable_item (defines_variable v) = is_name v.name && spellable_start v.initialiser

abbrev pub spellable_items : List Item → Bool
spellable_items items = list_all spellable_item items

-- 1 to 9 digits without a leading 0
abbrev pub spellable_version : ℕ → Bool
spellable_version version = nat_lt 0 version && nat_lt version (10 ^ 9)
