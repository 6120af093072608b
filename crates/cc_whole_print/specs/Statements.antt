-- The text that is printed for statements and bodies.
use Rattle.std.specs.Prelude.{ℕ, Option, Some, None, List, [], ◌++◌, map}
use Rattle.std.specs.List.{concat}
use Rattle.cc_whole_tokens.specs.declared.mark.Mark.{Mark}
use Rattle.cc_whole_tokens.specs.declared.mark.Mark.TheVariants as mark
use Rattle.cc_whole.specs.declared.types.CConstant.{CConstant}
use Rattle.cc_whole.specs.declared.expression.CPlace.{CPlace}
use Rattle.cc_whole.specs.declared.expression.CExpression.{CExpression}
use Rattle.cc_whole.specs.declared.statement.CCallee.{CCallee}
use Rattle.cc_whole.specs.declared.statement.CCallee.TheVariants as callee
use Rattle.cc_whole.specs.declared.statement.CBody.{CBody, CBody-F, fold-CBody}
use Rattle.cc_whole.specs.declared.statement.CStatement.{CStatement, fold-CStatement}
use Rattle.cc_whole.specs.declared.statement.CStatement.TheOpen.{CStatement-F, CSwitchItem-F}
use Rattle.cc_whole.specs.declared.statement.CSwitchItem.{CSwitchItem, fold-CSwitchItem}
use Rattle.cc_whole_print.specs.Lines.{spaced, printed_mark, constant_text}
use Rattle.cc_whole_print.specs.Types.{signature_text, local_text}
use Rattle.cc_whole_print.specs.Expressions.{bracketed_text, place_text, whole_text, arguments_text}

abbrev pub target_text : Option CPlace → List ℕ
target_text None = []
target_text (Some p) = place_text p ++ printed_mark mark.Assign

-- a name, or `((type (*)(types))(expression))`
abbrev pub callee_text : CCallee → List ℕ
callee_text (callee.Name name) = spaced name
callee_text (callee.Pointer s e) = bracketed_text (signature_text s ++ bracketed_text (whole_text e))

abbrev pub call_text : Option CPlace → CCallee → List CExpression → List ℕ
call_text p c all = target_text p ++ (callee_text c ++ (arguments_text all ++ printed_mark mark.Semicolon))

abbrev pub value_text : Option CExpression → List ℕ
value_text None = []
value_text (Some e) = whole_text e

abbrev pub assignment_text : CPlace → CExpression → List ℕ
assignment_text p e = place_text p ++ (printed_mark mark.Assign ++ (whole_text e ++ printed_mark mark.Semicolon))

abbrev pub alone_text : Mark → List ℕ
alone_text m = printed_mark m ++ printed_mark mark.Semicolon

abbrev pub head_text : Mark → CExpression → List ℕ
head_text m e = printed_mark m ++ bracketed_text (whole_text e)

abbrev pub forever_text : List ℕ
forever_text =
    printed_mark mark.For
    ++ (printed_mark mark.LeftParen ++ (printed_mark mark.Semicolon ++ (printed_mark mark.Semicolon ++ printed_mark mark.RightParen)))

abbrev pub return_text : Option CExpression → List ℕ
return_text e = printed_mark mark.Return ++ (value_text e ++ printed_mark mark.Semicolon)

abbrev pub case_text : CConstant → List ℕ
case_text c = printed_mark mark.Case ++ (constant_text c ++ printed_mark mark.Colon)

abbrev pub default_text : List ℕ
default_text = printed_mark mark.Default ++ printed_mark mark.Colon

abbrev pub else_text : Option (List ℕ) → List ℕ
else_text None = []
else_text (Some body) = printed_mark mark.Else ++ body

abbrev pub statement_step : CStatement-F (List ℕ) (List ℕ) (List ℕ) → List ℕ
statement_step (CStatement-F.Assign p e) = assignment_text p e
statement_step (CStatement-F.Call p c all) = call_text p c all
statement_step (CStatement-F.Block b) = b
statement_step CStatement-F.Break = alone_text mark.Break
statement_step CStatement-F.Continue = alone_text mark.Continue
statement_step (CStatement-F.If e b c) = head_text mark.If e ++ (b ++ else_text c)
statement_step (CStatement-F.Loop b) = forever_text ++ b
statement_step (CStatement-F.Switch e items) = head_text mark.Switch e ++ (printed_mark mark.LeftBrace ++ (concat items ++ printed_mark mark.RightBrace))
statement_step (CStatement-F.Return e) = return_text e

abbrev pub switch_step : CSwitchItem-F (List ℕ) (List ℕ) (List ℕ) → List ℕ
switch_step (CSwitchItem-F.Case c) = case_text c
switch_step CSwitchItem-F.Default = default_text
switch_step (CSwitchItem-F.Statement s) = s

abbrev pub body_step : CBody-F (List ℕ) (List ℕ) (List ℕ) → List ℕ
body_step b = printed_mark mark.LeftBrace ++ (concat (map local_text b.locals) ++ (concat b.statements ++ printed_mark mark.RightBrace))

abbrev pub statement_text : CStatement → List ℕ
statement_text = fold-CStatement (List ℕ) (List ℕ) (List ℕ) statement_step switch_step body_step

abbrev pub switch_item_text : CSwitchItem → List ℕ
switch_item_text = fold-CSwitchItem (List ℕ) (List ℕ) (List ℕ) statement_step switch_step body_step

abbrev pub body_text : CBody → List ℕ
body_text = fold-CBody (List ℕ) (List ℕ) (List ℕ) statement_step switch_step body_step
