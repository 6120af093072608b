-- What text is printed for each place, expression, statement and body.
use Rattle.std.proofs.Common.{◌≡◌, ℕ, List, ◌++◌, Option, Some, None, option_map, map, ap, sym, ◌∙◌}
use Rattle.std.specs.List.{concat}
use Rattle.cf_base.specs.declared.arith.Arith.{Arith}
use Rattle.cc_whole_tokens.specs.declared.mark.Mark.TheVariants as mark
use Rattle.cc_whole.specs.declared.types.CType.{CType}
use Rattle.cc_whole.specs.declared.types.CType.TheVariants as ty
use Rattle.cc_whole.specs.declared.types.CConstant.{CConstant}
use Rattle.cc_whole.specs.declared.expression.Prefix.{Prefix}
use Rattle.cc_whole.specs.declared.expression.CPlace.{CPlace}
use Rattle.cc_whole.specs.declared.expression.CPlace.TheVariants as place
use Rattle.cc_whole.specs.declared.expression.CPlace.TheVariants.{rolls-Name, rolls-At}
use Rattle.cc_whole.specs.declared.expression.CExpression.{CExpression}
use Rattle.cc_whole.specs.declared.expression.CExpression.TheFolds.{fold-roll-CExpression, fold-roll-CPlace}
use Rattle.cc_whole.specs.declared.expression.CExpression.TheOpen.{CExpression-F, CPlace-F}
use Rattle.cc_whole.specs.declared.expression.CExpression.TheVariants as tree
use Rattle.cc_whole.specs.declared.expression.CExpression.TheVariants.{rolls-Constant, rolls-Load, rolls-Unary, rolls-Cast, rolls-AddressOf, rolls-Binary}
use Rattle.cc_whole.specs.declared.statement.CLocal.{CLocal}
use Rattle.cc_whole.specs.declared.statement.CCallee.{CCallee}
use Rattle.cc_whole.specs.declared.statement.CBody.{CBody}
use Rattle.cc_whole.specs.declared.statement.CStatement.{CStatement}
use Rattle.cc_whole.specs.declared.statement.CStatement.TheFolds.{fold-roll-CStatement, fold-roll-CSwitchItem, fold-roll-CBody}
use Rattle.cc_whole.specs.declared.statement.CStatement.TheOpen.{CStatement-F, CSwitchItem-F}
use Rattle.cc_whole.specs.declared.statement.CStatement.TheVariants as statement
use Rattle.cc_whole.specs.declared.statement.CStatement.TheVariants.{rolls-Assign, rolls-Call, rolls-Block, rolls-Break, rolls-Continue, rolls-If, rolls-Loop, rolls-Switch, rolls-Return}
use Rattle.cc_whole.specs.declared.statement.CSwitchItem.{CSwitchItem}
use Rattle.cc_whole.specs.declared.statement.CSwitchItem.TheVariants as part
use Rattle.cc_whole.specs.declared.statement.CSwitchItem.TheVariants.{rolls-Case, rolls-Default, rolls-Statement}
use Rattle.cc_whole.specs.Build.{made_body}
use Rattle.cc_whole.specs.Operators.{prefix_mark}
use Rattle.cc_whole_print.specs.Lines.{printed_mark, spaced, constant_text}
use Rattle.cc_whole_print.specs.Types.{local_text}
use Rattle.cc_whole_print.specs.Expressions.{cast_text, pointed_text, bracketed_text, joined_text, place_text, place_step, expression_text, expression_step, whole_text}
use Rattle.cc_whole_print.specs.Statements.{assignment_text, call_text, alone_text, head_text, forever_text, return_text, case_text, default_text, else_text, statement_text, statement_step, switch_item_text, switch_step, body_text, body_step}

pub text-Name : (name : List ℕ) → place_text (place.Name name) ≡ spaced name
text-Name name = ap place_text (sym (rolls-Name name)) ∙ fold-roll-CPlace (ℕ → List ℕ) (List ℕ) expression_step place_step (CPlace-F.Name name)

pub text-At : (t : CType) (e : CExpression) → place_text (place.At t e) ≡ pointed_text t ++ bracketed_text (whole_text e)
text-At t e = ap place_text (sym (rolls-At t e)) ∙ fold-roll-CPlace (ℕ → List ℕ) (List ℕ) expression_step place_step (CPlace-F.At t e)

pub text-Constant : (c : CConstant) (l : ℕ) → expression_text (tree.Constant c) l ≡ constant_text c
text-Constant c l =
    ap (λ e. expression_text e l) (sym (rolls-Constant c))
    ∙ ap (λ f. f l) (fold-roll-CExpression (ℕ → List ℕ) (List ℕ) expression_step place_step (CExpression-F.Constant c))

pub text-Load : (p : CPlace) (l : ℕ) → expression_text (tree.Load p) l ≡ place_text p
text-Load p l =
    ap (λ e. expression_text e l) (sym (rolls-Load p)) ∙ ap (λ f. f l) (fold-roll-CExpression (ℕ → List ℕ) (List ℕ) expression_step place_step (CExpression-F.Load p))

pub text-Unary : (o : Prefix) (e : CExpression) (l : ℕ) → expression_text (tree.Unary o e) l ≡ printed_mark (prefix_mark o) ++ expression_text e 0
text-Unary o e l =
    ap (λ e. expression_text e l) (sym (rolls-Unary o e))
    ∙ ap (λ f. f l) (fold-roll-CExpression (ℕ → List ℕ) (List ℕ) expression_step place_step (CExpression-F.Unary o e))

pub text-Cast : (t : CType) (e : CExpression) (l : ℕ) → expression_text (tree.Cast t e) l ≡ cast_text t ++ expression_text e 0
text-Cast t e l =
    ap (λ e. expression_text e l) (sym (rolls-Cast t e)) ∙ ap (λ f. f l) (fold-roll-CExpression (ℕ → List ℕ) (List ℕ) expression_step place_step (CExpression-F.Cast t e))

pub text-AddressOf : (name : List ℕ) (l : ℕ) → expression_text (tree.AddressOf name) l ≡ cast_text ty.Pointer ++ (printed_mark mark.And ++ spaced name)
text-AddressOf name l =
    ap (λ e. expression_text e l) (sym (rolls-AddressOf name))
    ∙ ap (λ f. f l) (fold-roll-CExpression (ℕ → List ℕ) (List ℕ) expression_step place_step (CExpression-F.AddressOf name))

pub text-Binary : (o : Arith) (a b : CExpression) (l : ℕ) → expression_text (tree.Binary o a b) l ≡ joined_text o (expression_text a) (expression_text b) l
text-Binary o a b l =
    ap (λ e. expression_text e l) (sym (rolls-Binary o a b))
    ∙ ap (λ f. f l) (fold-roll-CExpression (ℕ → List ℕ) (List ℕ) expression_step place_step (CExpression-F.Binary o a b))

-- ---- statements and bodies

pub text-Assign : (p : CPlace) (e : CExpression) → statement_text (statement.Assign p e) ≡ assignment_text p e
text-Assign p e = ap statement_text (sym (rolls-Assign p e)) ∙ fold-roll-CStatement (List ℕ) (List ℕ) (List ℕ) statement_step switch_step body_step (CStatement-F.Assign p e)

pub text-Call : (p : Option CPlace) (c : CCallee) (es : List CExpression) → statement_text (statement.Call p c es) ≡ call_text p c es
text-Call p c es = ap statement_text (sym (rolls-Call p c es)) ∙ fold-roll-CStatement (List ℕ) (List ℕ) (List ℕ) statement_step switch_step body_step (CStatement-F.Call p c es)

pub text-Block : (b : CBody) → statement_text (statement.Block b) ≡ body_text b
text-Block b = ap statement_text (sym (rolls-Block b)) ∙ fold-roll-CStatement (List ℕ) (List ℕ) (List ℕ) statement_step switch_step body_step (CStatement-F.Block b)

pub text-Break : statement_text statement.Break ≡ alone_text mark.Break
text-Break = ap statement_text (sym rolls-Break) ∙ fold-roll-CStatement (List ℕ) (List ℕ) (List ℕ) statement_step switch_step body_step CStatement-F.Break

pub text-Continue : statement_text statement.Continue ≡ alone_text mark.Continue
text-Continue = ap statement_text (sym rolls-Continue) ∙ fold-roll-CStatement (List ℕ) (List ℕ) (List ℕ) statement_step switch_step body_step CStatement-F.Continue

pub text-If : (e : CExpression) (b : CBody) (c : Option CBody)
    → statement_text (statement.If e b c) ≡ head_text mark.If e ++ (body_text b ++ else_text (option_map body_text c))
text-If e b None = ap statement_text (sym (rolls-If e b None)) ∙ fold-roll-CStatement (List ℕ) (List ℕ) (List ℕ) statement_step switch_step body_step (CStatement-F.If e b None)
text-If e b (Some c) =
    ap statement_text (sym (rolls-If e b (Some c))) ∙ fold-roll-CStatement (List ℕ) (List ℕ) (List ℕ) statement_step switch_step body_step (CStatement-F.If e b (Some c))

pub text-Loop : (b : CBody) → statement_text (statement.Loop b) ≡ forever_text ++ body_text b
text-Loop b = ap statement_text (sym (rolls-Loop b)) ∙ fold-roll-CStatement (List ℕ) (List ℕ) (List ℕ) statement_step switch_step body_step (CStatement-F.Loop b)

pub text-Switch : (e : CExpression) (all : List CSwitchItem) → statement_text (statement.Switch e all)
    ≡ head_text mark.Switch e ++ (printed_mark mark.LeftBrace ++ (concat (map switch_item_text all) ++ printed_mark mark.RightBrace))
text-Switch e all =
    ap statement_text (sym (rolls-Switch e all)) ∙ fold-roll-CStatement (List ℕ) (List ℕ) (List ℕ) statement_step switch_step body_step (CStatement-F.Switch e all)

pub text-Return : (e : Option CExpression) → statement_text (statement.Return e) ≡ return_text e
text-Return e = ap statement_text (sym (rolls-Return e)) ∙ fold-roll-CStatement (List ℕ) (List ℕ) (List ℕ) statement_step switch_step body_step (CStatement-F.Return e)

pub text-Case : (c : CConstant) → switch_item_text (part.Case c) ≡ case_text c
text-Case c = ap switch_item_text (sym (rolls-Case c)) ∙ fold-roll-CSwitchItem (List ℕ) (List ℕ) (List ℕ) statement_step switch_step body_step (CSwitchItem-F.Case c)

pub text-Default : switch_item_text part.Default ≡ default_text
text-Default = ap switch_item_text (sym rolls-Default) ∙ fold-roll-CSwitchItem (List ℕ) (List ℕ) (List ℕ) statement_step switch_step body_step CSwitchItem-F.Default

pub text-Statement : (s : CStatement) → switch_item_text (part.Statement s) ≡ statement_text s
text-Statement s =
    ap switch_item_text (sym (rolls-Statement s)) ∙ fold-roll-CSwitchItem (List ℕ) (List ℕ) (List ℕ) statement_step switch_step body_step (CSwitchItem-F.Statement s)

pub text-made : (locals : List CLocal) (all : List CStatement) → body_text (made_body locals all)
    ≡ printed_mark mark.LeftBrace ++ (concat (map local_text locals) ++ (concat (map statement_text all) ++ printed_mark mark.RightBrace))
text-made locals all = fold-roll-CBody (List ℕ) (List ℕ) (List ℕ) statement_step switch_step body_step (record { locals = locals; statements = all })
