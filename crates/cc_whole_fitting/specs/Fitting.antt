-- The trees of which all constants fit 32 bits.
use Rattle.std.specs.Prelude.{Bool, true, ◌&&◌, List, [], ◌∷◌, Option, Some, None}
use Rattle.std.specs.List.{list_all}
use Rattle.cc_whole.specs.declared.types.CVariableType.{CVariableType}
use Rattle.cc_whole.specs.declared.types.CVariableType.TheVariants as variable
use Rattle.cc_whole.specs.declared.statement.CLocal.{CLocal}
use Rattle.cc_whole.specs.declared.unit.CPair.{CPair}
use Rattle.cc_whole.specs.declared.unit.CInitialiser.{CInitialiser}
use Rattle.cc_whole.specs.declared.unit.CInitialiser.TheVariants as initialiser
use Rattle.cc_whole.specs.Numbers.{fits_constant}
use Rattle.cc_whole.specs.Types.{local_type}
use Rattle.cc_whole.specs.Plain.{Place, named, pointed, Expression, constant, load, unary, cast, address, binary, Callee, by_name, by_pointer, Statement, assign, call, block, leave, next, choose, loop, select, give, Statements, done, followed, SwitchItems, closed, labelled, otherwise, stated, Body, body, Item, declares, declares_variable, defines, defines_variable}

abbrev mutual
  pub fitting_place : Place → Bool
  fitting_place (named name) = true
  fitting_place (pointed t e) = fitting e

  pub fitting : Expression → Bool
  fitting (constant c) = fits_constant c
  fitting (load p) = fitting_place p
  fitting (unary o e) = fitting e
  fitting (cast t e) = fitting e
  fitting (address name) = true
  fitting (binary o a b) = fitting a && fitting b

abbrev pub all_fitting : List Expression → Bool
all_fitting [] = true
all_fitting (e ∷ es) = fitting e && all_fitting es

abbrev pub fitting_target : Option Place → Bool
fitting_target None = true
fitting_target (Some p) = fitting_place p

abbrev pub fitting_callee : Callee → Bool
fitting_callee (by_name name) = true
fitting_callee (by_pointer s e) = fitting e

abbrev pub fitting_given : Option Expression → Bool
fitting_given None = true
fitting_given (Some e) = fitting e

-- the number of elements of an array
abbrev pub fitting_type : CVariableType → Bool
fitting_type (variable.Scalar t) = true
fitting_type (variable.Ints c) = fits_constant c
fitting_type (variable.Chars c) = fits_constant c
fitting_type (variable.Pairs c) = fits_constant c

abbrev pub fitting_local : CLocal → Bool
fitting_local l = fitting_type (local_type l.ty)

abbrev pub fitting_locals : List CLocal → Bool
fitting_locals ls = list_all fitting_local ls

abbrev mutual
  pub fitting_statement : Statement → Bool
  fitting_statement (assign p e) = fitting_place p && fitting e
  fitting_statement (call p c es) = fitting_target p && (fitting_callee c && all_fitting es)
  fitting_statement (block b) = fitting_body b
  fitting_statement leave = true
  fitting_statement next = true
  fitting_statement (choose e b other) = fitting e && (fitting_body b && fitting_body other)
  fitting_statement (loop b) = fitting_body b
  fitting_statement (select e items) = fitting e && fitting_switch items
  fitting_statement (give e) = fitting_given e

  pub fitting_statements : Statements → Bool
  fitting_statements done = true
  fitting_statements (followed s rest) = fitting_statement s && fitting_statements rest

  pub fitting_switch : SwitchItems → Bool
  fitting_switch closed = true
  fitting_switch (labelled c rest) = fits_constant c && fitting_switch rest
  fitting_switch (otherwise rest) = fitting_switch rest
  fitting_switch (stated s rest) = fitting_statement s && fitting_switch rest

  pub fitting_body : Body → Bool
  fitting_body (body locals all) = fitting_locals locals && fitting_statements all

abbrev pub fitting_pair : CPair → Bool
fitting_pair p = fits_constant p.number

abbrev pub fitting_pairs : List CPair → Bool
fitting_pairs ps = list_all fitting_pair ps

abbrev pub fitting_start : Option CInitialiser → Bool
fitting_start None = true
fitting_start (Some (initialiser.Text bytes)) = true
fitting_start (Some (initialiser.Pairs ps)) = fitting_pairs ps

abbrev pub fitting_item : Item → Bool
fitting_item (declares p) = true
fitting_item (declares_variable t name) = fitting_type t
fitting_item (defines f) = fitting_body f.body
fitting_item (defines_variable v) = fitting_type v.ty && fitting_start v.initialiser

abbrev pub fitting_items : List Item → Bool
fitting_items items = list_all fitting_item items
