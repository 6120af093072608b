-- Expressions, statements and bodies.
use Rattle.std.proofs.Common.{◌≡◌, ℕ, Bool, true, ◌&&◌, List, [], ◌∷◌, ◌++◌, Option, Some, None, option_map, map, refl, ap, sym, ◌∙◌}
use Rattle.cc_whole_tokens.specs.declared.mark.Mark.TheVariants as mark
use Rattle.cc_whole_tokens.specs.declared.token.Token.{Token}
use Rattle.cc_whole_tokens.specs.declared.token.Token.TheVariants as token
use Rattle.cc_whole.specs.declared.expression.CPlace.{CPlace}
use Rattle.cc_whole.specs.declared.expression.CExpression.{CExpression}
use Rattle.cc_whole.specs.declared.statement.CLocal.{CLocal}
use Rattle.cc_whole.specs.declared.statement.CCallee.{CCallee}
use Rattle.cc_whole.specs.declared.statement.CBody.{CBody}
use Rattle.cc_whole.specs.declared.statement.CStatement.{CStatement}
use Rattle.cc_whole.specs.declared.statement.CSwitchItem.{CSwitchItem}
use Rattle.cc_whole.specs.SpellsTypes.{sign}
use Rattle.cc_whole.specs.Spells as g
use Rattle.cc_whole.specs.Spells.{bracketed, SpellsPlace, SpellsExpression, SpellsSome, SpellsArguments, SpellsCallee, SpellsTarget, SpellsLocals, SpellsBody, SpellsStatements, SpellsStatement, SpellsSwitch}
use Rattle.cc_whole.specs.Plain.{place_of, expression_of, callee_of, statement_of, switch_item_of, body_of, in_order, switch_in_order}
use Rattle.cc_whole_laws.proofs.Views.{of-Name, of-At, of-Constant, of-Load, of-Unary, of-Cast, of-AddressOf, of-Binary, of-Assign, of-Call, of-Block, of-Break, of-Continue, of-If, of-If-only, of-Loop, of-Switch, of-Return, of-Case, of-Default, of-Statement, of-made}
use Rattle.cc_whole_fitting.specs.declared.before.Before.{Before}
use Rattle.cc_whole_fitting.specs.declared.before.Before.TheVariants as before
use Rattle.cc_whole_fitting.specs.Numbers.{behind, behind_star}
use Rattle.cc_whole_fitting.specs.Fitting.{fitting_place, fitting, all_fitting, fitting_target, fitting_callee, fitting_locals, fitting_statement, fitting_statements, fitting_switch, fitting_body}
use Rattle.cc_whole_fitting.proofs.Runs.{Run, and_true, nothing, told, both, fine, closed, put, put_name, one, brackets}
use Rattle.cc_whole_fitting.proofs.TypeRuns.{run_constant, joins_behind, prefix_behind, run_signature, run_cast, run_pointed, run_local}

mutual
  run_place : {p : CPlace} {xs : List Token} (s : Before) → SpellsPlace p xs → Run s xs (fitting_place (place_of p)) before.Operand
  run_place s (g.SpellsPlace.name name) = told (ap fitting_place (of-Name name)) (put_name name (nothing before.Operand))
  run_place s (g.SpellsPlace.pointed t e xs d) =
      told (ap fitting_place (of-At t e)) (put mark.Star (fine (run_pointed t (behind_star s)) (brackets before.Other (run_expression d))))

  run_expression : {level : ℕ} {e : CExpression} {xs : List Token} → SpellsExpression level e xs → Run before.Other xs (fitting (expression_of e)) before.Operand
  run_expression (g.SpellsExpression.number c xs d) = told (ap fitting (of-Constant c)) (run_constant d)
  run_expression (g.SpellsExpression.load p ps d) = told (ap fitting (of-Load p)) (run_place before.Other d)
  run_expression (g.SpellsExpression.prefixed o e xs d) = told (ap fitting (of-Unary o e)) (fine (prefix_behind o before.Other) (run_expression d))
  run_expression (g.SpellsExpression.cast t e xs d) = told (ap fitting (of-Cast t e)) (fine (run_cast t before.Other) (run_expression d))
  run_expression (g.SpellsExpression.address name) = told (ap fitting (of-AddressOf name)) (record { fit = refl; after = refl })
  run_expression (g.SpellsExpression.brackets e xs d) = brackets before.Other (run_expression d)
  run_expression (g.SpellsExpression.tighter level e xs d) = run_expression d
  run_expression (g.SpellsExpression.joined level t o a b xs ys j c d) =
      told (ap fitting (of-Binary o a b)) (both (run_expression c) (fine (joins_behind t _ j) (run_expression d)))

run_some : {es : List CExpression} {xs : List Token} → SpellsSome es xs → Run before.Other xs (all_fitting (map expression_of es)) before.Operand
run_some (g.SpellsSome.last e xs d) = told (and_true (fitting (expression_of e))) (run_expression d)
run_some (g.SpellsSome.more e xs es ys d r) = both (run_expression d) (put mark.Comma (run_some r))

-- arguments in their brackets
run_arguments : {es : List CExpression} {xs : List Token} (s : Before) → SpellsArguments es xs → Run s (bracketed xs) (all_fitting (map expression_of es)) before.Operand
run_arguments s g.SpellsArguments.none = record { fit = refl; after = refl }
run_arguments s (g.SpellsArguments.some es xs d) = brackets s (run_some d)

run_callee : {c : CCallee} {xs : List Token} (s : Before) → SpellsCallee c xs → Run s xs (fitting_callee (callee_of c)) before.Operand
run_callee s (g.SpellsCallee.name name) = put_name name (nothing before.Operand)
run_callee s (g.SpellsCallee.pointer signature e xs d) = brackets s (fine (run_signature signature before.Other) (brackets before.Operand (run_expression d)))

run_target : {p : Option CPlace} {xs : List Token} → SpellsTarget p xs → Run before.Other xs (fitting_target (option_map place_of p)) before.Other
run_target g.SpellsTarget.none = nothing before.Other
run_target (g.SpellsTarget.some p ps d) = closed (run_place before.Other d) (one mark.Assign before.Operand)

run_locals : {locals : List CLocal} {xs : List Token} → SpellsLocals locals xs → Run before.Other xs (fitting_locals locals) before.Other
run_locals g.SpellsLocals.none = nothing before.Other
run_locals (g.SpellsLocals.more t name ts locals xs d r) = let l = run_local before.Other d in both l.run (put mark.Semicolon (run_locals r))

-- `(;;)`
forever : (s : Before) → Run s (bracketed (token.Mark mark.Semicolon ∷ sign mark.Semicolon)) true before.Operand
forever s = record { fit = refl; after = refl }

mutual
  pub run_body : {b : CBody} {xs : List Token} (s : Before) → SpellsBody b xs → Run s xs (fitting_body (body_of b)) before.Other
  run_body s (g.SpellsBody.body locals xs all ys d r) =
      told (ap fitting_body (of-made locals all)) (put mark.LeftBrace (both (run_locals d) (closed (run_statements r) (one mark.RightBrace before.Other))))

  run_statements : {all : List CStatement} {xs : List Token} → SpellsStatements all xs → Run before.Other xs (fitting_statements (in_order (map statement_of all))) before.Other
  run_statements g.SpellsStatements.none = nothing before.Other
  run_statements (g.SpellsStatements.more s xs all ys d r) = both (run_statement d) (run_statements r)

  run_statement : {s : CStatement} {xs : List Token} → SpellsStatement s xs → Run before.Other xs (fitting_statement (statement_of s)) before.Other
  run_statement (g.SpellsStatement.assign p ps e xs c d) =
      told (ap fitting_statement (of-Assign p e)) (both (run_place before.Other c) (put mark.Assign (closed (run_expression d) (one mark.Semicolon before.Operand))))
  run_statement (g.SpellsStatement.calls p ps c cs es xs d f h) =
      told (ap fitting_statement (of-Call p c es))
      (both (run_target d) (both (run_callee before.Other f) (closed (run_arguments before.Operand h) (one mark.Semicolon before.Operand))))
  run_statement (g.SpellsStatement.block b xs d) = told (ap fitting_statement (of-Block b)) (run_body before.Other d)
  run_statement g.SpellsStatement.leaves = told (ap fitting_statement of-Break) (record { fit = refl; after = refl })
  run_statement g.SpellsStatement.continues = told (ap fitting_statement of-Continue) (record { fit = refl; after = refl })
  run_statement (g.SpellsStatement.if_only e xs b ys c d) =
      told (ap fitting_statement (of-If-only e b) ∙ ap (λ x. fitting (expression_of e) && x) (and_true (fitting_body (body_of b))))
      (put mark.If (both (brackets before.Other (run_expression c)) (run_body before.Operand d)))
  run_statement (g.SpellsStatement.if_else e xs b ys c zs d f h) =
      told (ap fitting_statement (of-If e b c))
      (put mark.If (both (brackets before.Other (run_expression d)) (both (run_body before.Operand f) (put mark.Else (run_body before.Other h)))))
  run_statement (g.SpellsStatement.loops b xs d) =
      told (ap fitting_statement (of-Loop b)) (put mark.For (fine (forever before.Other) (run_body before.Operand d)))
  run_statement (g.SpellsStatement.switches e xs all ys c d) =
      told (ap fitting_statement (of-Switch e all))
      (put mark.Switch (both (brackets before.Other (run_expression c)) (put mark.LeftBrace (closed (run_switch d) (one mark.RightBrace before.Other)))))
  run_statement g.SpellsStatement.returns = told (ap fitting_statement (of-Return None)) (record { fit = refl; after = refl })
  run_statement (g.SpellsStatement.gives e xs d) =
      told (ap fitting_statement (of-Return (Some e))) (put mark.Return (closed (run_expression d) (one mark.Semicolon before.Operand)))

  run_switch : {all : List CSwitchItem} {xs : List Token} → SpellsSwitch all xs → Run before.Other xs (fitting_switch (switch_in_order (map switch_item_of all))) before.Other
  run_switch g.SpellsSwitch.closed = nothing before.Other
  run_switch (g.SpellsSwitch.label c cs all ys d r) =
      told (ap (λ i. fitting_switch (switch_in_order (i ∷ map switch_item_of all))) (of-Case c))
      (put mark.Case (both (run_constant d) (put mark.Colon (run_switch r))))
  run_switch (g.SpellsSwitch.otherwise all ys r) =
      told (ap (λ i. fitting_switch (switch_in_order (i ∷ map switch_item_of all))) of-Default) (put mark.Default (put mark.Colon (run_switch r)))
  run_switch (g.SpellsSwitch.stated s xs all ys d r) =
      told (ap (λ i. fitting_switch (switch_in_order (i ∷ map switch_item_of all))) (of-Statement s)) (both (run_statement d) (run_switch r))
