-- What the code decides of the names that are used: each passes a test, unless a parameter or a local hides it.
use Rattle.std.specs.Prelude.{ℕ, Bool, true, ◌&&◌, ◌||◌, List, [], ◌∷◌, ◌++◌, Option, Some, None, codes}
use Rattle.cc_whole.specs.declared.unit.CPair.{CPair}
use Rattle.cc_whole.specs.declared.unit.CInitialiser.{CInitialiser}
use Rattle.cc_whole.specs.declared.unit.CInitialiser.TheVariants as initialiser
use Rattle.cc_whole.specs.Plain.{Place, named, pointed, Expression, constant, load, unary, cast, address, binary, Callee, by_name, by_pointer, Statement, assign, call, block, leave, next, choose, loop, select, give, Statements, done, followed, SwitchItems, closed, labelled, otherwise, stated, SwitchItem, label, default_label, inner, Body, body, Item, declares, declares_variable, defines, defines_variable}
use Rattle.cc_whole.specs.Known.{is_in, is_library}
use Rattle.cc_whole.specs.Uses.{local_names, parameter_names}
use Rattle.cc_whole.specs.Valid.{defined_after}

-- the names that items define
abbrev pub all_defined : List Item → List (List ℕ) → List (List ℕ)
all_defined [] defined = defined
all_defined (i ∷ rest) defined = all_defined rest (defined_after i defined)

-- a name is one of the library functions, or defined
abbrev pub is_there : List (List ℕ) → List ℕ → Bool
is_there defined name = is_library name || is_in defined name

-- a used name is hidden, or there
abbrev pub good_name : List (List ℕ) → List (List ℕ) → List ℕ → Bool
good_name defined hidden name = is_in hidden name || is_there defined name

abbrev mutual
  pub good : Expression → List (List ℕ) → List (List ℕ) → Bool
  good (constant c) defined hidden = true
  good (load p) defined hidden = good_place p defined hidden
  good (unary o e) defined hidden = good e defined hidden
  good (cast t e) defined hidden = good e defined hidden
  good (address name) defined hidden = good_name defined hidden name
  good (binary o a b) defined hidden = good a defined hidden && good b defined hidden

  pub good_place : Place → List (List ℕ) → List (List ℕ) → Bool
  good_place (named name) defined hidden = good_name defined hidden name
  good_place (pointed t e) defined hidden = good e defined hidden

abbrev pub good_all : List Expression → List (List ℕ) → List (List ℕ) → Bool
good_all [] defined hidden = true
good_all (e ∷ es) defined hidden = good e defined hidden && good_all es defined hidden

abbrev pub good_target : Option Place → List (List ℕ) → List (List ℕ) → Bool
good_target None defined hidden = true
good_target (Some p) defined hidden = good_place p defined hidden

abbrev pub good_callee : Callee → List (List ℕ) → List (List ℕ) → Bool
good_callee (by_name name) defined hidden = good_name defined hidden name
good_callee (by_pointer s e) defined hidden = good e defined hidden

abbrev pub good_given : Option Expression → List (List ℕ) → List (List ℕ) → Bool
good_given None defined hidden = true
good_given (Some e) defined hidden = good e defined hidden

abbrev pub good_called : Option Place → Callee → List Expression → List (List ℕ) → List (List ℕ) → Bool
good_called p c es defined hidden = good_target p defined hidden && (good_callee c defined hidden && good_all es defined hidden)

abbrev mutual
  pub good_statement : Statement → List (List ℕ) → List (List ℕ) → Bool
  good_statement (assign p e) defined hidden = good_place p defined hidden && good e defined hidden
  good_statement (call p c es) defined hidden = good_called p c es defined hidden
  good_statement (block b) defined hidden = good_body b defined hidden
  good_statement leave defined hidden = true
  good_statement next defined hidden = true
  good_statement (choose e b other) defined hidden = good e defined hidden && (good_body b defined hidden && good_body other defined hidden)
  good_statement (loop b) defined hidden = good_body b defined hidden
  good_statement (select e items) defined hidden = good e defined hidden && good_switch items defined hidden
  good_statement (give e) defined hidden = good_given e defined hidden

  pub good_statements : Statements → List (List ℕ) → List (List ℕ) → Bool
  good_statements done defined hidden = true
  good_statements (followed s rest) defined hidden = good_statement s defined hidden && good_statements rest defined hidden

  pub good_switch : SwitchItems → List (List ℕ) → List (List ℕ) → Bool
  good_switch closed defined hidden = true
  good_switch (labelled c rest) defined hidden = good_switch rest defined hidden
  good_switch (otherwise rest) defined hidden = good_switch rest defined hidden
  good_switch (stated s rest) defined hidden = good_statement s defined hidden && good_switch rest defined hidden

  pub good_body : Body → List (List ℕ) → List (List ℕ) → Bool
  good_body (body locals all) defined hidden = good_statements all defined (local_names locals ++ hidden)

abbrev pub good_switch_item : SwitchItem → List (List ℕ) → List (List ℕ) → Bool
good_switch_item (label c) defined hidden = true
good_switch_item default_label defined hidden = true
good_switch_item (inner s) defined hidden = good_statement s defined hidden

abbrev pub good_function : Option (List ℕ) → List (List ℕ) → Bool
good_function None defined = true
good_function (Some name) defined = is_there defined name

abbrev pub good_pairs : List CPair → List (List ℕ) → Bool
good_pairs [] defined = true
good_pairs (p ∷ ps) defined = good_function p.function defined && good_pairs ps defined

abbrev pub good_start : Option CInitialiser → List (List ℕ) → Bool
good_start None defined = true
good_start (Some (initialiser.Text bytes)) defined = true
good_start (Some (initialiser.Pairs ps)) defined = good_pairs ps defined

abbrev pub good_item : Item → List (List ℕ) → Bool
good_item (declares p) defined = true
good_item (declares_variable t name) defined = true
good_item (defines f) defined = good_body f.body defined (parameter_names f.prototype.parameters)
good_item (defines_variable v) defined = good_start v.initialiser defined

abbrev pub good_items : List Item → List (List ℕ) → Bool
good_items [] defined = true
good_items (i ∷ rest) defined = good_item i defined && good_items rest defined

-- `main` is defined, and all that is used
abbrev pub is_closed : List Item → Bool
is_closed items = is_in (all_defined items []) (codes "main") && good_items items (all_defined items [])
