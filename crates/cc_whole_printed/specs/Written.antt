-- The trees whose names are names and whose constants fit 32 bits, wherever they stand: what a text needs of a tree.
use Rattle.std.specs.Prelude.{ℕ, nat_lt, Bool, true, ◌&&◌, List, [], ◌∷◌, Option, Some, None}
use Rattle.std.specs.List.{list_all}
use Rattle.cc_whole_tokens.specs.Token.{is_name}
use Rattle.cc_whole.specs.declared.types.CConstant.{CConstant}
use Rattle.cc_whole.specs.declared.types.CVariableType.{CVariableType}
use Rattle.cc_whole.specs.declared.types.CVariableType.TheVariants as variable
use Rattle.cc_whole.specs.declared.statement.CLocal.{CLocal}
use Rattle.cc_whole.specs.declared.unit.CParameter.{CParameter}
use Rattle.cc_whole.specs.declared.unit.CPrototype.{CPrototype}
use Rattle.cc_whole.specs.declared.unit.CPair.{CPair}
use Rattle.cc_whole.specs.declared.unit.CInitialiser.{CInitialiser}
use Rattle.cc_whole.specs.declared.unit.CInitialiser.TheVariants as initialiser
use Rattle.cc_whole.specs.declared.unit.CUnit.{CUnit}
use Rattle.cc_whole.specs.Numbers.{fits_constant}
use Rattle.cc_whole.specs.Types.{local_type}
use Rattle.cc_whole.specs.Spellable.{spellable_prototype, spellable_start, spellable_version}
use Rattle.cc_whole.specs.Plain.{Place, named, pointed, Expression, constant, load, unary, cast, address, binary, Callee, by_name, by_pointer, Statement, assign, call, block, leave, next, choose, loop, select, give, Statements, done, followed, SwitchItems, closed, labelled, otherwise, stated, Body, body, Item, declares, declares_variable, defines, defines_variable, items_of}

abbrev mutual
  pub written_place : Place → Bool
  written_place (named name) = is_name name
  written_place (pointed t e) = written e

  pub written : Expression → Bool
  written (constant c) = fits_constant c
  written (load p) = written_place p
  written (unary o e) = written e
  written (cast t e) = written e
  written (address name) = is_name name
  written (binary o a b) = written a && written b

abbrev pub all_written : List Expression → Bool
all_written [] = true
all_written (e ∷ es) = written e && all_written es

abbrev pub written_target : Option Place → Bool
written_target None = true
written_target (Some p) = written_place p

abbrev pub written_callee : Callee → Bool
written_callee (by_name name) = is_name name
written_callee (by_pointer s e) = written e

abbrev pub written_given : Option Expression → Bool
written_given None = true
written_given (Some e) = written e

-- the number of elements of an array
abbrev pub written_type : CVariableType → Bool
written_type (variable.Scalar t) = true
written_type (variable.Ints c) = fits_constant c
written_type (variable.Chars c) = fits_constant c
written_type (variable.Pairs c) = fits_constant c

abbrev pub written_local : CLocal → Bool
written_local l = is_name l.name && written_type (local_type l.ty)

abbrev mutual
  pub written_statement : Statement → Bool
  written_statement (assign p e) = written_place p && written e
  written_statement (call p c es) = written_target p && (written_callee c && all_written es)
  written_statement (block b) = written_body b
  written_statement leave = true
  written_statement next = true
  written_statement (choose e b other) = written e && (written_body b && written_body other)
  written_statement (loop b) = written_body b
  written_statement (select e items) = written e && written_switch items
  written_statement (give e) = written_given e

  pub written_statements : Statements → Bool
  written_statements done = true
  written_statements (followed s rest) = written_statement s && written_statements rest

  pub written_switch : SwitchItems → Bool
  written_switch closed = true
  written_switch (labelled c rest) = fits_constant c && written_switch rest
  written_switch (otherwise rest) = written_switch rest
  written_switch (stated s rest) = written_statement s && written_switch rest

  pub written_body : Body → Bool
  written_body (body locals all) = list_all written_local locals && written_statements all

abbrev pub written_function : Option (List ℕ) → Bool
written_function None = true
written_function (Some name) = is_name name

abbrev pub written_pair : CPair → Bool
written_pair p = fits_constant p.number && written_function p.function

abbrev pub written_pairs : Option CInitialiser → Bool
written_pairs None = true
written_pairs (Some (initialiser.Text bytes)) = true
written_pairs (Some (initialiser.Pairs ps)) = list_all written_pair ps

abbrev pub written_item : Item → Bool
written_item (declares p) = spellable_prototype p
written_item (declares_variable t name) = is_name name && written_type t
written_item (defines f) = spellable_prototype f.prototype && written_body f.body
written_item (defines_variable v) = is_name v.name && (written_type v.ty && (spellable_start v.initialiser && written_pairs v.initialiser))

-- and there is a pair or more where there are pairs, bytes are bytes, and the version has 1 to 9 digits
abbrev pub written_unit : CUnit → Bool
written_unit u = spellable_version u.version && list_all written_item (items_of u.items)
