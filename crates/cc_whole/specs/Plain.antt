-- The trees as plain data, for definitions by cases, and what each tree is there. An `if` without `else` has an empty body there.
use Rattle.std.specs.Prelude.{ℕ, Bool, List, [], ◌∷◌, Option, Some, None, option_map, map}
use Rattle.cf_base.specs.declared.arith.Arith.{Arith}
use Rattle.cc_whole.specs.declared.types.CType.{CType}
use Rattle.cc_whole.specs.declared.types.CConstant.{CConstant}
use Rattle.cc_whole.specs.declared.types.CSignature.{CSignature}
use Rattle.cc_whole.specs.declared.types.CVariableType.{CVariableType}
use Rattle.cc_whole.specs.declared.expression.Prefix.{Prefix}
use Rattle.cc_whole.specs.declared.expression.CPlace.{CPlace, fold-CPlace}
use Rattle.cc_whole.specs.declared.expression.CExpression.{CExpression, fold-CExpression}
use Rattle.cc_whole.specs.declared.expression.CExpression.TheOpen.{CExpression-F, CPlace-F}
use Rattle.cc_whole.specs.declared.statement.CLocal.{CLocal}
use Rattle.cc_whole.specs.declared.statement.CCallee.{CCallee}
use Rattle.cc_whole.specs.declared.statement.CCallee.TheVariants as callee
use Rattle.cc_whole.specs.declared.statement.CBody.{CBody, CBody-F, fold-CBody}
use Rattle.cc_whole.specs.declared.statement.CStatement.{CStatement, fold-CStatement}
use Rattle.cc_whole.specs.declared.statement.CStatement.TheOpen.{CStatement-F, CSwitchItem-F}
use Rattle.cc_whole.specs.declared.statement.CSwitchItem.{CSwitchItem, fold-CSwitchItem}
use Rattle.cc_whole.specs.declared.unit.CPrototype.{CPrototype}
use Rattle.cc_whole.specs.declared.unit.CFunction.{CFunction}
use Rattle.cc_whole.specs.declared.unit.CVariable.{CVariable}
use Rattle.cc_whole.specs.declared.unit.CItem.{CItem}
use Rattle.cc_whole.specs.declared.unit.CItem.TheVariants as item

mutual
  pub data Place : Type 0 where
    named : List ℕ → Place
    pointed : CType → Expression → Place

  pub data Expression : Type 0 where
    constant : CConstant → Expression
    load : Place → Expression
    unary : Prefix → Expression → Expression
    cast : CType → Expression → Expression
    address : List ℕ → Expression
    binary : Arith → Expression → Expression → Expression

-- what a call calls: a function by its name, or through a pointer with a type
pub data Callee : Type 0 where
  by_name : List ℕ → Callee
  by_pointer : CSignature → Expression → Callee

mutual
  pub data Statement : Type 0 where
    assign : Place → Expression → Statement
    call : Option Place → Callee → List Expression → Statement
    block : Body → Statement
    leave : Statement
    next : Statement
    choose : Expression → Body → Body → Statement
    loop : Body → Statement
    select : Expression → SwitchItems → Statement
    give : Option Expression → Statement

  pub data Statements : Type 0 where
    done : Statements
    followed : Statement → Statements → Statements

  -- what stands in the braces of a `switch`: its labels and statements, in order
  pub data SwitchItems : Type 0 where
    closed : SwitchItems
    labelled : CConstant → SwitchItems → SwitchItems
    otherwise : SwitchItems → SwitchItems
    stated : Statement → SwitchItems → SwitchItems

  pub data Body : Type 0 where
    body : List CLocal → Statements → Body

abbrev pub place_step : CPlace-F Expression Place → Place
place_step (CPlace-F.Name name) = named name
place_step (CPlace-F.At t e) = pointed t e

abbrev pub expression_step : CExpression-F Expression Place → Expression
expression_step (CExpression-F.Constant c) = constant c
expression_step (CExpression-F.Load p) = load p
expression_step (CExpression-F.Unary o e) = unary o e
expression_step (CExpression-F.Cast t e) = cast t e
expression_step (CExpression-F.AddressOf name) = address name
expression_step (CExpression-F.Binary o a b) = binary o a b

abbrev pub place_of : CPlace → Place
place_of = fold-CPlace Expression Place expression_step place_step

abbrev pub expression_of : CExpression → Expression
expression_of = fold-CExpression Expression Place expression_step place_step

abbrev pub callee_of : CCallee → Callee
callee_of (callee.Name name) = by_name name
callee_of (callee.Pointer signature e) = by_pointer signature (expression_of e)

abbrev pub in_order : List Statement → Statements
in_order [] = done
in_order (s ∷ rest) = followed s (in_order rest)

-- an item of a `switch`, put before others
pub data SwitchItem : Type 0 where
  label : CConstant → SwitchItem
  default_label : SwitchItem
  inner : Statement → SwitchItem

abbrev pub switch_in_order : List SwitchItem → SwitchItems
switch_in_order [] = closed
switch_in_order (label c ∷ rest) = labelled c (switch_in_order rest)
switch_in_order (default_label ∷ rest) = otherwise (switch_in_order rest)
switch_in_order (inner s ∷ rest) = stated s (switch_in_order rest)

abbrev pub else_of : Option Body → Body
else_of None = body [] done
else_of (Some b) = b

abbrev pub statement_step : CStatement-F Statement SwitchItem Body → Statement
statement_step (CStatement-F.Assign p e) = assign (place_of p) (expression_of e)
statement_step (CStatement-F.Call p c es) = call (option_map place_of p) (callee_of c) (map expression_of es)
statement_step (CStatement-F.Block b) = block b
statement_step CStatement-F.Break = leave
statement_step CStatement-F.Continue = next
statement_step (CStatement-F.If e b other) = choose (expression_of e) b (else_of other)
statement_step (CStatement-F.Loop b) = loop b
statement_step (CStatement-F.Switch e items) = select (expression_of e) (switch_in_order items)
statement_step (CStatement-F.Return e) = give (option_map expression_of e)

abbrev pub switch_step : CSwitchItem-F Statement SwitchItem Body → SwitchItem
switch_step (CSwitchItem-F.Case c) = label c
switch_step CSwitchItem-F.Default = default_label
switch_step (CSwitchItem-F.Statement s) = inner s

abbrev pub body_step : CBody-F Statement SwitchItem Body → Body
body_step b = body b.locals (in_order b.statements)

abbrev pub statement_of : CStatement → Statement
statement_of = fold-CStatement Statement SwitchItem Body statement_step switch_step body_step

abbrev pub switch_item_of : CSwitchItem → SwitchItem
switch_item_of = fold-CSwitchItem Statement SwitchItem Body statement_step switch_step body_step

abbrev pub body_of : CBody → Body
body_of = fold-CBody Statement SwitchItem Body statement_step switch_step body_step

pub record Function : Type 0 where
  pub is_shared : Bool
  pub prototype : CPrototype
  pub body : Body

abbrev pub function_of : CFunction → Function
function_of f = record { is_shared = f.is_shared; prototype = f.prototype; body = body_of f.body }

pub data Item : Type 0 where
  declares : CPrototype → Item
  declares_variable : CVariableType → List ℕ → Item
  defines : Function → Item
  defines_variable : CVariable → Item

abbrev pub item_of : CItem → Item
item_of (item.Prototype p) = declares p
item_of (item.Extern t name) = declares_variable t name
item_of (item.Function f) = defines (function_of f)
item_of (item.Variable v) = defines_variable v

abbrev pub items_of : List CItem → List Item
items_of items = map item_of items

abbrev pub name_of : Item → List ℕ
name_of (declares p) = p.name
name_of (declares_variable t name) = name
name_of (defines f) = f.prototype.name
name_of (defines_variable v) = v.name

-- the functions that are defined, in order
abbrev pub functions_of : List Item → List Function
functions_of [] = []
functions_of (declares p ∷ rest) = functions_of rest
functions_of (declares_variable t name ∷ rest) = functions_of rest
functions_of (defines f ∷ rest) = f ∷ functions_of rest
functions_of (defines_variable v ∷ rest) = functions_of rest

-- the variables that are defined, in order
abbrev pub variables_of : List Item → List CVariable
variables_of [] = []
variables_of (declares p ∷ rest) = variables_of rest
variables_of (declares_variable t name ∷ rest) = variables_of rest
variables_of (defines f ∷ rest) = variables_of rest
variables_of (defines_variable v ∷ rest) = v ∷ variables_of rest
