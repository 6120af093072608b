-- How the code reads statements and bodies.
use Rattle.std.specs.Prelude.{ℕ, zero, suc, List, [], Option, Some, None}
use Rattle.cc_whole_tokens.specs.declared.mark.Mark.TheVariants as mark
use Rattle.cc_whole.specs.declared.expression.CPlace.{CPlace}
use Rattle.cc_whole.specs.declared.expression.CExpression.{CExpression}
use Rattle.cc_whole.specs.declared.statement.CLocal.{CLocal}
use Rattle.cc_whole.specs.declared.statement.CCallee.{CCallee}
use Rattle.cc_whole.specs.declared.statement.CBody.{CBody}
use Rattle.cc_whole.specs.declared.statement.CStatement.{CStatement}
use Rattle.cc_whole.specs.declared.statement.CStatement.TheVariants as statement
use Rattle.cc_whole.specs.declared.statement.CSwitchItem.{CSwitchItem}
use Rattle.cc_whole.specs.declared.statement.CSwitchItem.TheVariants as part
use Rattle.cc_whole.specs.Build.{made_body}
use Rattle.cc_whole_reading.specs.Parse.{Parse, ◌>>=◌, pure, refuse, if_test, if_next, either, all_of, sees, sees_not, expect}
use Rattle.cc_whole_reading.specs.Constants.{Keep, constant}
use Rattle.cc_whole_read_types.specs.ReadTypes.{sees_type, one_local}
use Rattle.cc_whole_read_expr.specs.ReadExpr.{expression, one_place, arguments, callee}
use Rattle.cc_whole_read_body.specs.declared.effects.CallParts.{CallParts}
use Rattle.cc_whole_read_body.specs.declared.effects.Right.{Right}
use Rattle.cc_whole_read_body.specs.declared.effects.Right.TheVariants as right

unfoldable pub local_line : Keep → Parse CLocal
local_line keep = do
  x ← one_local keep
  _ ← expect mark.Semicolon
  pure x

abbrev pub locals : Keep → Parse (List CLocal)
locals keep = all_of sees_type (local_line keep) []

-- ---- statements that call or assign

-- behind what it calls
unfoldable pub called_of : Parse CExpression → CCallee → Parse CallParts
called_of ex c = do
  _ ← expect mark.LeftParen
  es ← arguments ex
  _ ← expect mark.RightParen
  _ ← expect mark.Semicolon
  pure (record { callee = c; arguments = es })

unfoldable pub called : Parse CExpression → Parse CallParts
called ex = callee ex >>= (λ c. called_of ex c)

unfoldable pub right_call : Parse CExpression → Parse Right
right_call ex = do
  k ← called ex
  pure (right.Call k)

unfoldable pub value : Parse CExpression → Parse Right
value ex = do
  e ← ex
  _ ← expect mark.Semicolon
  pure (right.Value e)

-- behind `=`: what is no expression is a call
unfoldable pub right_side : Parse CExpression → Parse Right
right_side ex = either (value ex) (right_call ex)

abbrev pub stored : CPlace → Right → CStatement
stored p (right.Value e) = statement.Assign p e
stored p (right.Call k) = statement.Call (Some p) k.callee k.arguments

-- behind a place
unfoldable pub store_to : Parse CExpression → CPlace → Parse CStatement
store_to ex p = do
  _ ← expect mark.Assign
  r ← right_side ex
  pure (stored p r)

unfoldable pub store : Parse CExpression → Parse CStatement
store ex = one_place ex >>= (λ p. store_to ex p)

abbrev pub unstored : CallParts → CStatement
unstored k = statement.Call None k.callee k.arguments

unfoldable pub call : Parse CExpression → Parse CStatement
call ex = do
  k ← called ex
  pure (unstored k)

-- what does not store is a call
unfoldable pub effect : Parse CExpression → Parse CStatement
effect ex = either (store ex) (call ex)

-- ---- the other statements

unfoldable pub block : Parse CBody → Parse CStatement
block bo = do
  b ← bo
  pure (statement.Block b)

-- behind `break`
unfoldable pub leaves : Parse CStatement
leaves = do
  _ ← expect mark.Semicolon
  pure statement.Break

-- behind `continue`
unfoldable pub continues : Parse CStatement
continues = do
  _ ← expect mark.Semicolon
  pure statement.Continue

-- an expression in brackets
unfoldable pub condition : Parse CExpression → Parse CExpression
condition ex = do
  _ ← expect mark.LeftParen
  e ← ex
  _ ← expect mark.RightParen
  pure e

unfoldable pub some_body : Parse CBody → Parse (Option CBody)
some_body bo = do
  b ← bo
  pure (Some b)

unfoldable pub otherwise : Parse CBody → Parse (Option CBody)
otherwise bo = if_next mark.Else (some_body bo) (pure None)

-- behind the condition
unfoldable pub branches : Parse CBody → CExpression → Parse CStatement
branches bo e = do
  b ← bo
  other ← otherwise bo
  pure (statement.If e b other)

-- behind `if`
unfoldable pub conditional : Parse CExpression → Parse CBody → Parse CStatement
conditional ex bo = condition ex >>= (λ e. branches bo e)

-- behind `for`
unfoldable pub forever : Parse CBody → Parse CStatement
forever bo = do
  _ ← expect mark.LeftParen
  _ ← expect mark.Semicolon
  _ ← expect mark.Semicolon
  _ ← expect mark.RightParen
  b ← bo
  pure (statement.Loop b)

-- behind `case`
unfoldable pub label : Keep → Parse CSwitchItem
label keep = do
  c ← constant keep
  _ ← expect mark.Colon
  pure (part.Case c)

-- behind `default`
unfoldable pub default_label : Parse CSwitchItem
default_label = do
  _ ← expect mark.Colon
  pure part.Default

unfoldable pub inner : Parse CStatement → Parse CSwitchItem
inner st = do
  s ← st
  pure (part.Statement s)

unfoldable pub switch_item : Keep → Parse CStatement → Parse CSwitchItem
switch_item keep st = if_next mark.Case (label keep) (if_next mark.Default default_label (inner st))

abbrev pub switch_items : Keep → Parse CStatement → Parse (List CSwitchItem)
switch_items keep st = all_of (sees_not mark.RightBrace) (switch_item keep st) []

-- behind the value
unfoldable pub cases : Keep → Parse CStatement → CExpression → Parse CStatement
cases keep st e = do
  _ ← expect mark.LeftBrace
  all ← switch_items keep st
  _ ← expect mark.RightBrace
  pure (statement.Switch e all)

-- behind `switch`
unfoldable pub switch : Keep → Parse CExpression → Parse CStatement → Parse CStatement
switch keep ex st = condition ex >>= (λ e. cases keep st e)

unfoldable pub gives : Parse CExpression → Parse CStatement
gives ex = do
  e ← ex
  _ ← expect mark.Semicolon
  pure (statement.Return (Some e))

-- behind `return`
unfoldable pub returned : Parse CExpression → Parse CStatement
returned ex = if_next mark.Semicolon (pure (statement.Return None)) (gives ex)

-- a statement without a word at its front
unfoldable pub plain : Parse CExpression → Parse CBody → Parse CStatement
plain ex bo = if_test (sees mark.LeftBrace) (block bo) (effect ex)

unfoldable pub leaving : Parse CExpression → Parse CBody → Parse CStatement
leaving ex bo = if_next mark.Break leaves (if_next mark.Continue continues (if_next mark.Return (returned ex) (plain ex bo)))

unfoldable pub statement_by : Keep → Parse CExpression → Parse CBody → Parse CStatement → Parse CStatement
statement_by keep ex bo st =
    if_next mark.If (conditional ex bo) (if_next mark.For (forever bo) (if_next mark.Switch (switch keep ex st) (leaving ex bo)))

-- ---- bodies

abbrev pub statements : Parse CStatement → Parse (List CStatement)
statements st = all_of (sees_not mark.RightBrace) st []

unfoldable pub body_by : Keep → Parse CStatement → Parse CBody
body_by keep st = do
  _ ← expect mark.LeftBrace
  ls ← locals keep
  all ← statements st
  _ ← expect mark.RightBrace
  pure (made_body ls all)

-- a statement; the number bounds how deep statements stand in it
unfoldable pub one_statement : Keep → ℕ → Parse CStatement
one_statement keep zero = refuse
one_statement keep (suc n) = statement_by keep (expression keep n) (body_by keep (one_statement keep n)) (one_statement keep n)

-- a body
abbrev pub body : Keep → ℕ → Parse CBody
body keep n = body_by keep (one_statement keep n)
