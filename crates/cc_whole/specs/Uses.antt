-- The names of a unit's functions and variables that an item uses, in the order of the text. A name that a parameter or a local of its own
-- hides is no use of them.
use Rattle.std.specs.Prelude.{ℕ, if◌then◌else◌, List, [], ◌∷◌, ◌++◌, Option, Some, None, map}
use Rattle.cc_whole.specs.declared.statement.CLocal.{CLocal}
use Rattle.cc_whole.specs.declared.unit.CParameter.{CParameter}
use Rattle.cc_whole.specs.declared.unit.CPair.{CPair}
use Rattle.cc_whole.specs.declared.unit.CInitialiser.{CInitialiser}
use Rattle.cc_whole.specs.declared.unit.CInitialiser.TheVariants as initialiser
use Rattle.cc_whole.specs.Plain.{Place, named, pointed, Expression, constant, load, unary, cast, address, binary, Callee, by_name, by_pointer, Statement, assign, call, block, leave, next, choose, loop, select, give, Statements, done, followed, SwitchItems, closed, labelled, otherwise, stated, Body, body, Item, declares, declares_variable, defines, defines_variable}
use Rattle.cc_whole.specs.Known.{is_in}

abbrev pub local_names : List CLocal → List (List ℕ)
local_names locals = map (λ (x : CLocal). x.name) locals

abbrev pub parameter_names : List CParameter → List (List ℕ)
parameter_names parameters = map (λ (p : CParameter). p.name) parameters

-- a name that no parameter or local of these hides
abbrev pub use_of : List ℕ → List (List ℕ) → List (List ℕ)
use_of name hidden = if is_in hidden name then [] else name ∷ []

abbrev mutual
  pub uses_of_place : Place → List (List ℕ) → List (List ℕ)
  uses_of_place (named name) hidden = use_of name hidden
  uses_of_place (pointed t e) hidden = uses_of e hidden

  pub uses_of : Expression → List (List ℕ) → List (List ℕ)
  uses_of (constant c) hidden = []
  uses_of (load p) hidden = uses_of_place p hidden
  uses_of (unary o e) hidden = uses_of e hidden
  uses_of (cast t e) hidden = uses_of e hidden
  uses_of (address name) hidden = use_of name hidden
  uses_of (binary o a b) hidden = uses_of a hidden ++ uses_of b hidden

abbrev pub uses_of_all : List Expression → List (List ℕ) → List (List ℕ)
uses_of_all [] hidden = []
uses_of_all (e ∷ es) hidden = uses_of e hidden ++ uses_of_all es hidden

abbrev pub uses_of_target : Option Place → List (List ℕ) → List (List ℕ)
uses_of_target None hidden = []
uses_of_target (Some p) hidden = uses_of_place p hidden

abbrev pub uses_of_callee : Callee → List (List ℕ) → List (List ℕ)
uses_of_callee (by_name name) hidden = use_of name hidden
uses_of_callee (by_pointer s e) hidden = uses_of e hidden

abbrev pub uses_of_given : Option Expression → List (List ℕ) → List (List ℕ)
uses_of_given None hidden = []
uses_of_given (Some e) hidden = uses_of e hidden

abbrev mutual
  pub uses_of_statement : Statement → List (List ℕ) → List (List ℕ)
  uses_of_statement (assign p e) hidden = uses_of_place p hidden ++ uses_of e hidden
  uses_of_statement (call p c es) hidden = uses_of_target p hidden ++ (uses_of_callee c hidden ++ uses_of_all es hidden)
  uses_of_statement (block b) hidden = uses_of_body b hidden
  uses_of_statement leave hidden = []
  uses_of_statement next hidden = []
  uses_of_statement (choose e b other) hidden = uses_of e hidden ++ (uses_of_body b hidden ++ uses_of_body other hidden)
  uses_of_statement (loop b) hidden = uses_of_body b hidden
  uses_of_statement (select e items) hidden = uses_of e hidden ++ uses_of_switch items hidden
  uses_of_statement (give e) hidden = uses_of_given e hidden

  pub uses_of_statements : Statements → List (List ℕ) → List (List ℕ)
  uses_of_statements done hidden = []
  uses_of_statements (followed s rest) hidden = uses_of_statement s hidden ++ uses_of_statements rest hidden

  pub uses_of_switch : SwitchItems → List (List ℕ) → List (List ℕ)
  uses_of_switch closed hidden = []
  uses_of_switch (labelled c rest) hidden = uses_of_switch rest hidden
  uses_of_switch (otherwise rest) hidden = uses_of_switch rest hidden
  uses_of_switch (stated s rest) hidden = uses_of_statement s hidden ++ uses_of_switch rest hidden

  pub uses_of_body : Body → List (List ℕ) → List (List ℕ)
  uses_of_body (body locals all) hidden = uses_of_statements all (local_names locals ++ hidden)

abbrev pub use_of_function : Option (List ℕ) → List (List ℕ)
use_of_function None = []
use_of_function (Some name) = name ∷ []

-- the functions of pairs
abbrev pub uses_of_pairs : List CPair → List (List ℕ)
uses_of_pairs [] = []
uses_of_pairs (p ∷ ps) = use_of_function p.function ++ uses_of_pairs ps

abbrev pub uses_of_start : Option CInitialiser → List (List ℕ)
uses_of_start None = []
uses_of_start (Some (initialiser.Text bytes)) = []
uses_of_start (Some (initialiser.Pairs ps)) = uses_of_pairs ps

abbrev pub uses_of_item : Item → List (List ℕ)
uses_of_item (declares p) = []
uses_of_item (declares_variable t name) = []
uses_of_item (defines f) = uses_of_body f.body (parameter_names f.prototype.parameters)
uses_of_item (defines_variable v) = uses_of_start v.initialiser
