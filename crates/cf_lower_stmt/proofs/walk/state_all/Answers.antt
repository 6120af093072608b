use Rattle.std.proofs.Common.{arith, List, length, map, ◌≤◌, ◌++◌, ◌∷◌, [], ap, sym, ◌∙◌, append-nil}
use Rattle.std.proofs.lemmas.Iterator.Adapters.{YieldsList-from_vec}
use Rattle.std.proofs.lemmas.Iterator.Consumers.{YieldsList-turn, YieldsList-end}
use Rattle.std.proofs.lemmas.List.{length_push, at_drop_all}
use Rattle.cc_whole.specs.Plain.{inner}
use Rattle.cc_whole.specs.declared.statement.CStatement.{CStatement}
use Rattle.cf_lower_stmt.specs.Steps.{written, written_items}
use Rattle.cf_lower_stmt.proofs.Labels.{stated_more}
use Rattle.cf_lower_stmt.proofs.walk.state_all.Goals as goal

pub loop-statement-preserved : goal.loop-statement-preserved
loop-statement-preserved c =
    let all = c.into_vec-statement-items.ensures in
    let given = c.into_iter-statement-iterator.ensures.into_iter_gives in
    let items = YieldsList-from_vec {s = c.into_iter-statement-iterator.result} c.args.statements (given.0 ∙ all) (given.1 ∙ c.into_vec-statement-items.result.ok.0 ∙ ap length all) in
    let turn = YieldsList-turn items c.loop-statement.yielded c.loop-statement.statement-iterator c.loop-statement.yielded_by _ c.next.new.self c.in-Some.statement c.in-Some.is c.next.ensures.steps in
    stated_more (written_items c.loop-statement.items) (written_items c.state.new.items) _ c.args.statements (length c.loop-statement.yielded)
    (length (c.loop-statement.yielded ++ c.in-Some.statement ∷ [])) c.in-Some.statement turn.0 turn.1 c.loop-statement.invariant c.in_ok-state.ensures
    (length_push c.loop-statement.yielded c.in-Some.statement)

pub returns : goal.returns
returns c =
    let all = c.into_vec-statement-items.ensures in
    let given = c.into_iter-statement-iterator.ensures.into_iter_gives in
    let items = YieldsList-from_vec {s = c.into_iter-statement-iterator.result} c.args.statements (given.0 ∙ all) (given.1 ∙ c.into_vec-statement-items.result.ok.0 ∙ ap length all) in
    let last = YieldsList-end items c.loop-statement.yielded c.loop-statement.statement-iterator c.loop-statement.yielded_by _ c.next.new.self c.in-None.is c.next.ensures.steps in
    let past : length c.args.statements ≤ length c.loop-statement.yielded = omega (arith, last.1) in
    sym (append-nil (written_items c.loop-statement.items))
    ∙ sym (at_drop_all (λ (l : List CStatement). written_items c.loop-statement.items ++ map inner (written l)) c.args.statements (length c.loop-statement.yielded) past)
    ∙ c.loop-statement.invariant
