-- The landmarks of a text: its names, numbers and strings, and its words but `extern` and `else`. All texts of a tree have as many, in
-- the same order; so they serve as places. This is how many each tree has.
use Rattle.std.specs.Prelude.{ℕ, ◌+◌, Bool, true, false, List, [], ◌∷◌, Option, Some, None}
use Rattle.cc_whole.specs.declared.types.CType.{CType}
use Rattle.cc_whole.specs.declared.types.CType.TheVariants as ty
use Rattle.cc_whole.specs.declared.types.CSignature.{CSignature}
use Rattle.cc_whole.specs.declared.types.CVariableType.{CVariableType}
use Rattle.cc_whole.specs.declared.types.CVariableType.TheVariants as variable
use Rattle.cc_whole.specs.declared.statement.CLocal.{CLocal}
use Rattle.cc_whole.specs.declared.unit.CParameter.{CParameter}
use Rattle.cc_whole.specs.declared.unit.CPrototype.{CPrototype}
use Rattle.cc_whole.specs.declared.unit.CPair.{CPair}
use Rattle.cc_whole.specs.declared.unit.CInitialiser.{CInitialiser}
use Rattle.cc_whole.specs.declared.unit.CInitialiser.TheVariants as initialiser
use Rattle.cc_whole.specs.Plain.{Place, named, pointed, Expression, constant, load, unary, cast, address, binary, Callee, by_name, by_pointer, Statement, assign, call, block, leave, next, choose, loop, select, give, Statements, done, followed, SwitchItems, closed, labelled, otherwise, stated, Body, body, Item, declares, declares_variable, defines, defines_variable}
use Rattle.cc_whole.specs.Types.{local_type}

abbrev pub type_marks : CType → ℕ
type_marks ty.UChar = 2
type_marks ty.UShort = 2
type_marks t = 1

abbrev pub result_marks : Option CType → ℕ
result_marks None = 1
result_marks (Some t) = type_marks t

abbrev pub all_types_marks : List CType → ℕ
all_types_marks [] = 0
all_types_marks (t ∷ ts) = type_marks t + all_types_marks ts

-- `void` stands where there is no type
abbrev pub types_marks : List CType → ℕ
types_marks [] = 1
types_marks (t ∷ ts) = all_types_marks (t ∷ ts)

abbrev pub signature_marks : CSignature → ℕ
signature_marks s = result_marks s.result + types_marks s.parameters

-- ---- expressions and places

abbrev mutual
  pub place_marks : Place → ℕ
  place_marks (named name) = 1
  place_marks (pointed t e) = type_marks t + marks e

  pub marks : Expression → ℕ
  marks (constant c) = 1
  marks (load p) = place_marks p
  marks (unary o e) = marks e
  marks (cast t e) = type_marks t + marks e
  marks (address name) = 2
  marks (binary o a b) = marks a + marks b

abbrev pub all_marks : List Expression → ℕ
all_marks [] = 0
all_marks (e ∷ es) = marks e + all_marks es

abbrev pub target_marks : Option Place → ℕ
target_marks None = 0
target_marks (Some p) = place_marks p

abbrev pub callee_marks : Callee → ℕ
callee_marks (by_name name) = 1
callee_marks (by_pointer s e) = signature_marks s + marks e

abbrev pub given_marks : Option Expression → ℕ
given_marks None = 0
given_marks (Some e) = marks e

-- ---- variables and locals

-- those before the name of a variable
abbrev pub marks_before : CVariableType → ℕ
marks_before (variable.Scalar t) = type_marks t
marks_before (variable.Ints c) = 1
marks_before (variable.Chars c) = 1
marks_before (variable.Pairs c) = 2

-- those behind its name: the number of its elements
abbrev pub marks_behind : CVariableType → ℕ
marks_behind (variable.Scalar t) = 0
marks_behind t = 1

abbrev pub variable_marks : CVariableType → ℕ
variable_marks t = marks_before t + (1 + marks_behind t)

abbrev pub local_marks : CLocal → ℕ
local_marks x = variable_marks (local_type x.ty)

abbrev pub locals_marks : List CLocal → ℕ
locals_marks [] = 0
locals_marks (x ∷ xs) = local_marks x + locals_marks xs

-- ---- statements and bodies

abbrev mutual
  pub statement_marks : Statement → ℕ
  statement_marks (assign p e) = place_marks p + marks e
  statement_marks (call p c es) = target_marks p + (callee_marks c + all_marks es)
  statement_marks (block b) = body_marks b
  statement_marks leave = 1
  statement_marks next = 1
  statement_marks (choose e b other) = 1 + (marks e + (body_marks b + body_marks other))
  statement_marks (loop b) = 1 + body_marks b
  statement_marks (select e items) = 1 + (marks e + switch_marks items)
  statement_marks (give e) = 1 + given_marks e

  pub statements_marks : Statements → ℕ
  statements_marks done = 0
  statements_marks (followed s rest) = statement_marks s + statements_marks rest

  pub switch_marks : SwitchItems → ℕ
  switch_marks closed = 0
  switch_marks (labelled c rest) = 2 + switch_marks rest
  switch_marks (otherwise rest) = 1 + switch_marks rest
  switch_marks (stated s rest) = statement_marks s + switch_marks rest

  pub body_marks : Body → ℕ
  body_marks (body locals all) = locals_marks locals + statements_marks all

-- ---- items

abbrev pub static_marks : Bool → ℕ
static_marks true = 1
static_marks false = 0

abbrev pub all_parameters_marks : List CParameter → ℕ
all_parameters_marks [] = 0
all_parameters_marks (p ∷ ps) = type_marks p.ty + (1 + all_parameters_marks ps)

-- `void` stands where there is no parameter
abbrev pub parameters_marks : List CParameter → ℕ
parameters_marks [] = 1
parameters_marks (p ∷ ps) = all_parameters_marks (p ∷ ps)

-- those before the name of a function
abbrev pub marks_before_name : CPrototype → ℕ
marks_before_name p = static_marks p.is_static + result_marks p.result

abbrev pub prototype_marks : CPrototype → ℕ
prototype_marks p = marks_before_name p + (1 + parameters_marks p.parameters)

abbrev pub pairs_marks : List CPair → ℕ
pairs_marks [] = 0
pairs_marks (p ∷ ps) = 2 + pairs_marks ps

abbrev pub initialiser_marks : Option CInitialiser → ℕ
initialiser_marks None = 0
initialiser_marks (Some (initialiser.Text bytes)) = 1
initialiser_marks (Some (initialiser.Pairs ps)) = pairs_marks ps

abbrev pub item_marks : Item → ℕ
item_marks (declares p) = prototype_marks p
item_marks (declares_variable t name) = variable_marks t
item_marks (defines f) = prototype_marks f.prototype + body_marks f.body
item_marks (defines_variable v) = static_marks v.is_static + (variable_marks v.ty + initialiser_marks v.initialiser)
