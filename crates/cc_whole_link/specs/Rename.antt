-- Trees with other names for functions and variables of the unit. A name that a parameter or a local hides stays.
use Rattle.std.specs.Prelude.{ℕ, false, if◌then◌else◌, List, [], ◌∷◌, Option, Some, None, option_map, map}
use Rattle.cc_whole.specs.declared.expression.CPlace.{CPlace, fold-CPlace}
use Rattle.cc_whole.specs.declared.expression.CPlace.TheVariants as place
use Rattle.cc_whole.specs.declared.expression.CExpression.{CExpression, fold-CExpression}
use Rattle.cc_whole.specs.declared.expression.CExpression.TheOpen.{CExpression-F, CPlace-F}
use Rattle.cc_whole.specs.declared.expression.CExpression.TheVariants as tree
use Rattle.cc_whole.specs.declared.statement.CCallee.{CCallee}
use Rattle.cc_whole.specs.declared.statement.CCallee.TheVariants as callee
use Rattle.cc_whole.specs.declared.statement.CBody.{CBody, CBody-F, fold-CBody}
use Rattle.cc_whole.specs.declared.statement.CStatement.{CStatement}
use Rattle.cc_whole.specs.declared.statement.CStatement.TheOpen.{CStatement-F, CSwitchItem-F}
use Rattle.cc_whole.specs.declared.statement.CStatement.TheVariants as statement
use Rattle.cc_whole.specs.declared.statement.CSwitchItem.{CSwitchItem}
use Rattle.cc_whole.specs.declared.statement.CSwitchItem.TheVariants as part
use Rattle.cc_whole.specs.declared.unit.CPrototype.{CPrototype}
use Rattle.cc_whole.specs.declared.unit.CFunction.{CFunction}
use Rattle.cc_whole.specs.declared.unit.CPair.{CPair}
use Rattle.cc_whole.specs.declared.unit.CInitialiser.{CInitialiser}
use Rattle.cc_whole.specs.declared.unit.CInitialiser.TheVariants as initialiser
use Rattle.cc_whole.specs.declared.unit.CVariable.{CVariable}
use Rattle.cc_whole.specs.declared.unit.CItem.{CItem}
use Rattle.cc_whole.specs.declared.unit.CItem.TheVariants as item
use Rattle.cc_whole.specs.Build.{made_body}
use Rattle.cc_whole.specs.Known.{is_in}
use Rattle.cc_whole.specs.Uses.{local_names, parameter_names}

abbrev pub Renaming : Type 0
Renaming = List ℕ → List ℕ

-- the same, but these names stay
abbrev pub hiding : List (List ℕ) → Renaming → Renaming
hiding names r name = if is_in names name then name else r name

abbrev pub place_step : CPlace-F (Renaming → CExpression) (Renaming → CPlace) → Renaming → CPlace
place_step (CPlace-F.Name name) r = place.Name (r name)
place_step (CPlace-F.At t e) r = place.At t (e r)

abbrev pub expression_step : CExpression-F (Renaming → CExpression) (Renaming → CPlace) → Renaming → CExpression
expression_step (CExpression-F.Constant c) r = tree.Constant c
expression_step (CExpression-F.Load p) r = tree.Load (p r)
expression_step (CExpression-F.Unary o e) r = tree.Unary o (e r)
expression_step (CExpression-F.Cast t e) r = tree.Cast t (e r)
expression_step (CExpression-F.AddressOf name) r = tree.AddressOf (r name)
expression_step (CExpression-F.Binary o a b) r = tree.Binary o (a r) (b r)

abbrev pub place_renamed : CPlace → Renaming → CPlace
place_renamed = fold-CPlace (Renaming → CExpression) (Renaming → CPlace) expression_step place_step

abbrev pub expression_renamed : CExpression → Renaming → CExpression
expression_renamed = fold-CExpression (Renaming → CExpression) (Renaming → CPlace) expression_step place_step

abbrev pub callee_renamed : CCallee → Renaming → CCallee
callee_renamed (callee.Name name) r = callee.Name (r name)
callee_renamed (callee.Pointer s e) r = callee.Pointer s (expression_renamed e r)

abbrev pub Renames : Type 0 → Type 0
Renames A = Renaming → A

-- each of them, with the same names
abbrev pub all_renamed : {A : Type 0} → List (Renaming → A) → Renaming → List A
all_renamed [] r = []
all_renamed (x ∷ xs) r = x r ∷ all_renamed xs r

abbrev pub maybe_renamed : {A : Type 0} → Option (Renaming → A) → Renaming → Option A
maybe_renamed None r = None
maybe_renamed (Some x) r = Some (x r)

abbrev pub statement_step : CStatement-F (Renames CStatement) (Renames CSwitchItem) (Renames CBody) → Renaming → CStatement
statement_step (CStatement-F.Assign p e) r = statement.Assign (place_renamed p r) (expression_renamed e r)
statement_step (CStatement-F.Call p c es) r =
    statement.Call (option_map (λ x. place_renamed x r) p) (callee_renamed c r) (map (λ e. expression_renamed e r) es)
statement_step (CStatement-F.Block b) r = statement.Block (b r)
statement_step CStatement-F.Break r = statement.Break
statement_step CStatement-F.Continue r = statement.Continue
statement_step (CStatement-F.If e b other) r = statement.If (expression_renamed e r) (b r) (maybe_renamed other r)
statement_step (CStatement-F.Loop b) r = statement.Loop (b r)
statement_step (CStatement-F.Switch e items) r = statement.Switch (expression_renamed e r) (all_renamed items r)
statement_step (CStatement-F.Return e) r = statement.Return (option_map (λ x. expression_renamed x r) e)

abbrev pub switch_step : CSwitchItem-F (Renames CStatement) (Renames CSwitchItem) (Renames CBody) → Renaming → CSwitchItem
switch_step (CSwitchItem-F.Case c) r = part.Case c
switch_step CSwitchItem-F.Default r = part.Default
switch_step (CSwitchItem-F.Statement s) r = part.Statement (s r)

abbrev pub body_step : CBody-F (Renames CStatement) (Renames CSwitchItem) (Renames CBody) → Renaming → CBody
body_step b r = made_body b.locals (all_renamed b.statements (hiding (local_names b.locals) r))

abbrev pub body_renamed : CBody → Renaming → CBody
body_renamed = fold-CBody (Renames CStatement) (Renames CSwitchItem) (Renames CBody) statement_step switch_step body_step

-- a renamed item is static no more
abbrev pub prototype_renamed : CPrototype → Renaming → CPrototype
prototype_renamed p r = record p { is_static = false; name = r p.name }

abbrev pub pair_renamed : CPair → Renaming → CPair
pair_renamed p r = record p { function = option_map r p.function }

abbrev pub start_renamed : CInitialiser → Renaming → CInitialiser
start_renamed (initialiser.Text bytes) r = initialiser.Text bytes
start_renamed (initialiser.Pairs ps) r = initialiser.Pairs (map (λ p. pair_renamed p r) ps)

abbrev pub function_renamed : CFunction → Renaming → CFunction
function_renamed f r = record {
  is_shared = f.is_shared;
  prototype = prototype_renamed f.prototype r;
  body = body_renamed f.body (hiding (parameter_names f.prototype.parameters) r);
}

abbrev pub variable_renamed : CVariable → Renaming → CVariable
variable_renamed v r = record v { is_static = false; name = r v.name; initialiser = option_map (λ s. start_renamed s r) v.initialiser }

abbrev pub item_renamed : CItem → Renaming → CItem
item_renamed (item.Prototype p) r = item.Prototype (prototype_renamed p r)
item_renamed (item.Extern t name) r = item.Extern t (r name)
item_renamed (item.Function f) r = item.Function (function_renamed f r)
item_renamed (item.Variable v) r = item.Variable (variable_renamed v r)
