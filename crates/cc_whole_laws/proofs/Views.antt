-- What each tree is as plain data.
use Rattle.std.proofs.Common.{◌≡◌, ℕ, List, Option, Some, None, option_map, map, ap, sym, ◌∙◌}
use Rattle.cf_base.specs.declared.arith.Arith.{Arith}
use Rattle.cc_whole.specs.declared.types.CType.{CType}
use Rattle.cc_whole.specs.declared.types.CConstant.{CConstant}
use Rattle.cc_whole.specs.declared.expression.Prefix.{Prefix}
use Rattle.cc_whole.specs.declared.expression.CPlace.{CPlace}
use Rattle.cc_whole.specs.declared.expression.CPlace.TheVariants as place
use Rattle.cc_whole.specs.declared.expression.CPlace.TheVariants.{rolls-Name, rolls-At}
use Rattle.cc_whole.specs.declared.expression.CExpression.{CExpression}
use Rattle.cc_whole.specs.declared.expression.CExpression.TheFolds.{fold-roll-CExpression, fold-roll-CPlace}
use Rattle.cc_whole.specs.declared.expression.CExpression.TheOpen.{CExpression-F, CPlace-F}
use Rattle.cc_whole.specs.declared.expression.CExpression.TheVariants as tree
use Rattle.cc_whole.specs.declared.expression.CExpression.TheVariants.{rolls-Constant, rolls-Load, rolls-Unary, rolls-Cast, rolls-AddressOf, rolls-Binary}
use Rattle.cc_whole.specs.declared.statement.CLocal.{CLocal}
use Rattle.cc_whole.specs.declared.statement.CCallee.{CCallee}
use Rattle.cc_whole.specs.declared.statement.CBody.{CBody}
use Rattle.cc_whole.specs.declared.statement.CStatement.{CStatement}
use Rattle.cc_whole.specs.declared.statement.CStatement.TheFolds.{fold-roll-CStatement, fold-roll-CSwitchItem, fold-roll-CBody}
use Rattle.cc_whole.specs.declared.statement.CStatement.TheOpen.{CStatement-F, CSwitchItem-F}
use Rattle.cc_whole.specs.declared.statement.CStatement.TheVariants as statement
use Rattle.cc_whole.specs.declared.statement.CStatement.TheVariants.{rolls-Assign, rolls-Call, rolls-Block, rolls-Break, rolls-Continue, rolls-If, rolls-Loop, rolls-Switch, rolls-Return}
use Rattle.cc_whole.specs.declared.statement.CSwitchItem.{CSwitchItem}
use Rattle.cc_whole.specs.declared.statement.CSwitchItem.TheVariants as part
use Rattle.cc_whole.specs.declared.statement.CSwitchItem.TheVariants.{rolls-Case, rolls-Default, rolls-Statement}
use Rattle.cc_whole.specs.Build.{made_body}
use Rattle.cc_whole.specs.Plain.{Place, named, pointed, Expression, constant, load, unary, cast, address, binary, place_of, expression_of, callee_of, place_step, expression_step, Statement, assign, call, block, leave, next, choose, loop, select, give, in_order, Body, body, SwitchItem, label, default_label, inner, switch_in_order, statement_of, switch_item_of, body_of, else_of, statement_step, switch_step, body_step}

pub of-Name : (name : List ℕ) → place_of (place.Name name) ≡ named name
of-Name name = ap place_of (sym (rolls-Name name)) ∙ fold-roll-CPlace Expression Place expression_step place_step (CPlace-F.Name name)

pub of-At : (t : CType) (e : CExpression) → place_of (place.At t e) ≡ pointed t (expression_of e)
of-At t e = ap place_of (sym (rolls-At t e)) ∙ fold-roll-CPlace Expression Place expression_step place_step (CPlace-F.At t e)

pub of-Constant : (c : CConstant) → expression_of (tree.Constant c) ≡ constant c
of-Constant c = ap expression_of (sym (rolls-Constant c)) ∙ fold-roll-CExpression Expression Place expression_step place_step (CExpression-F.Constant c)

pub of-Load : (p : CPlace) → expression_of (tree.Load p) ≡ load (place_of p)
of-Load p = ap expression_of (sym (rolls-Load p)) ∙ fold-roll-CExpression Expression Place expression_step place_step (CExpression-F.Load p)

pub of-Unary : (o : Prefix) (e : CExpression) → expression_of (tree.Unary o e) ≡ unary o (expression_of e)
of-Unary o e = ap expression_of (sym (rolls-Unary o e)) ∙ fold-roll-CExpression Expression Place expression_step place_step (CExpression-F.Unary o e)

pub of-Cast : (t : CType) (e : CExpression) → expression_of (tree.Cast t e) ≡ cast t (expression_of e)
of-Cast t e = ap expression_of (sym (rolls-Cast t e)) ∙ fold-roll-CExpression Expression Place expression_step place_step (CExpression-F.Cast t e)

pub of-AddressOf : (name : List ℕ) → expression_of (tree.AddressOf name) ≡ address name
of-AddressOf name = ap expression_of (sym (rolls-AddressOf name)) ∙ fold-roll-CExpression Expression Place expression_step place_step (CExpression-F.AddressOf name)

pub of-Binary : (o : Arith) (a b : CExpression) → expression_of (tree.Binary o a b) ≡ binary o (expression_of a) (expression_of b)
of-Binary o a b = ap expression_of (sym (rolls-Binary o a b)) ∙ fold-roll-CExpression Expression Place expression_step place_step (CExpression-F.Binary o a b)

pub of-Assign : (p : CPlace) (e : CExpression) → statement_of (statement.Assign p e) ≡ assign (place_of p) (expression_of e)
of-Assign p e = ap statement_of (sym (rolls-Assign p e)) ∙ fold-roll-CStatement Statement SwitchItem Body statement_step switch_step body_step (CStatement-F.Assign p e)

pub of-Call : (p : Option CPlace) (c : CCallee) (es : List CExpression)
    → statement_of (statement.Call p c es) ≡ call (option_map place_of p) (callee_of c) (map expression_of es)
of-Call p c es = ap statement_of (sym (rolls-Call p c es)) ∙ fold-roll-CStatement Statement SwitchItem Body statement_step switch_step body_step (CStatement-F.Call p c es)

pub of-Block : (b : CBody) → statement_of (statement.Block b) ≡ block (body_of b)
of-Block b = ap statement_of (sym (rolls-Block b)) ∙ fold-roll-CStatement Statement SwitchItem Body statement_step switch_step body_step (CStatement-F.Block b)

pub of-Break : statement_of statement.Break ≡ leave
of-Break = ap statement_of (sym rolls-Break) ∙ fold-roll-CStatement Statement SwitchItem Body statement_step switch_step body_step CStatement-F.Break

pub of-Continue : statement_of statement.Continue ≡ next
of-Continue = ap statement_of (sym rolls-Continue) ∙ fold-roll-CStatement Statement SwitchItem Body statement_step switch_step body_step CStatement-F.Continue

pub of-If : (e : CExpression) (b c : CBody) → statement_of (statement.If e b (Some c)) ≡ choose (expression_of e) (body_of b) (body_of c)
of-If e b c = ap statement_of (sym (rolls-If e b (Some c))) ∙ fold-roll-CStatement Statement SwitchItem Body statement_step switch_step body_step (CStatement-F.If e b (Some c))

pub of-If-only : (e : CExpression) (b : CBody) → statement_of (statement.If e b None) ≡ choose (expression_of e) (body_of b) (else_of None)
of-If-only e b = ap statement_of (sym (rolls-If e b None)) ∙ fold-roll-CStatement Statement SwitchItem Body statement_step switch_step body_step (CStatement-F.If e b None)

pub of-Loop : (b : CBody) → statement_of (statement.Loop b) ≡ loop (body_of b)
of-Loop b = ap statement_of (sym (rolls-Loop b)) ∙ fold-roll-CStatement Statement SwitchItem Body statement_step switch_step body_step (CStatement-F.Loop b)

pub of-Switch : (e : CExpression) (all : List CSwitchItem) → statement_of (statement.Switch e all) ≡ select (expression_of e) (switch_in_order (map switch_item_of all))
of-Switch e all = ap statement_of (sym (rolls-Switch e all)) ∙ fold-roll-CStatement Statement SwitchItem Body statement_step switch_step body_step (CStatement-F.Switch e all)

pub of-Return : (e : Option CExpression) → statement_of (statement.Return e) ≡ give (option_map expression_of e)
of-Return e = ap statement_of (sym (rolls-Return e)) ∙ fold-roll-CStatement Statement SwitchItem Body statement_step switch_step body_step (CStatement-F.Return e)

pub of-Case : (c : CConstant) → switch_item_of (part.Case c) ≡ label c
of-Case c = ap switch_item_of (sym (rolls-Case c)) ∙ fold-roll-CSwitchItem Statement SwitchItem Body statement_step switch_step body_step (CSwitchItem-F.Case c)

pub of-Default : switch_item_of part.Default ≡ default_label
of-Default = ap switch_item_of (sym rolls-Default) ∙ fold-roll-CSwitchItem Statement SwitchItem Body statement_step switch_step body_step CSwitchItem-F.Default

pub of-Statement : (s : CStatement) → switch_item_of (part.Statement s) ≡ inner (statement_of s)
of-Statement s = ap switch_item_of (sym (rolls-Statement s)) ∙ fold-roll-CSwitchItem Statement SwitchItem Body statement_step switch_step body_step (CSwitchItem-F.Statement s)

pub of-made : (locals : List CLocal) (all : List CStatement) → body_of (made_body locals all) ≡ body locals (in_order (map statement_of all))
of-made locals all = fold-roll-CBody Statement SwitchItem Body statement_step switch_step body_step (record { locals = locals; statements = all })
