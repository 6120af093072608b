use Rattle.std.proofs.Common.{◌+◌, drop}
use Rattle.cc_whole.specs.Plain.{body_of, expression_of, switch_in_order}
use Rattle.cf_lower.specs.Kept.{kept_by}
use Rattle.cf_lower.specs.Statements.{all_lowered, items}
use Rattle.cf_lower_held.specs.Holds.{kept_in}
use Rattle.cf_lower_held.specs.Scenes.{action_in, holding, locals_in, statement_in, statements_in}
use Rattle.cf_lower_stmt.specs.Steps.{in_front, inside, written, written_items}
use Rattle.cf_lower_stmt.proofs.Forms.{written_act, written_set, written_if, written_loop, written_switch, nothing_case, nothing_default, written_break, written_continue, written_return, nothing_parts, behind_act, behind_set, behind_if, behind_loop, behind_switch, behind_case, behind_default, behind_break, behind_continue, behind_return, behind_parts}
use Rattle.cf_lower_stmt.proofs.Labels.{label_turn, statement_turn}
use Rattle.cf_lower_stmt.proofs.Loops.{begun_alone, begun_before, body_is, ended_is, loop_is, turn_is, turn_items}
use Rattle.cf_lower_stmt.proofs.Switches.{items_begun, items_turn, items_ended, switched_is}
use Rattle.cf_lower_stmt.proofs.Walks.{all_written, all_held, branched_is, held_behind, met_behind, nothing_held, one_statement, set_held}
use Rattle.cf_lower_stmt.proofs.walk.+statements.Goals as goal

-- ---- statements in order

pub body-returns : goal.body-returns
body-returns t c =
    let x = c.args.x.now in
    record {
      code = body_is c.new-code.result c.statements.new.code (all_lowered (statements_in x c.args.all.now) (inside x c.args.around) (holding x c.args.rs.now)) (body_of c.in_ok-made.made)
          c.new-code.ensures c.in_ok-statements.ensures.code c.in_ok-made.ensures;
      held = c.in_ok-statements.ensures.held;
    }

pub statements-loop-s-preserved : goal.statements-loop-s-preserved
statements-loop-s-preserved t c =
    let x = c.args.x.now in
    record {
      code = one_statement x c.as_slice-s-items.result.now c.loop-s.s-index c.s-item.result c.loop-s-test.true c.s-item.is (holding x c.loop-s.rs) (holding x c.statement.new.rs)
          c.in_ok-statement.ensures.held c.args.around (written c.loop-s.code) (written c.statement.new.code) _ c.in_ok-statement.ensures.code c.loop-s.invariant.code;
      held = held_behind x c.as_slice-s-items.result.now c.loop-s.s-index c.s-item.result c.loop-s-test.true c.s-item.is (holding x c.loop-s.rs) (holding x c.statement.new.rs)
          c.in_ok-statement.ensures.held _ c.loop-s.invariant.held;
    }

pub statements-returns : goal.statements-returns
statements-returns t c =
    let x = c.args.x.now in
    record {
      code = all_written x c.as_slice-s-items.result.now c.args.all.now c.as_slice-s-items.ensures c.loop-s.s-index c.loop-s-test.false c.args.around (holding x c.args.rs.now)
          (holding x c.loop-s.rs) (written c.args.code.now) (written c.loop-s.code) c.loop-s.invariant.code;
      held = all_held x c.as_slice-s-items.result.now c.args.all.now c.as_slice-s-items.ensures c.loop-s.s-index c.loop-s-test.false c.loop-s.rs (holding x c.args.rs.now)
          c.loop-s.invariant.held;
    }

-- ---- loops

pub plain_turn-returns : goal.plain_turn-returns
plain_turn-returns t c =
    let x = c.args.x.now in
    turn_is (inside x c.args.around) (inside x c.in_loop.result) (statements_in x c.args.turn.now) (holding x c.args.rs.now) (holding x c.in_ok-inner.inner) c.new-made.result
    c.statements.new.code (c.in_loop.ensures x) (c.in_ok-inner.ensures x.tables.now) c.new-made.ensures c.in_ok-statements.ensures.code

pub stepped_turn-returns : goal.stepped_turn-returns
stepped_turn-returns t c =
    let x = c.args.x.now in
    turn_items (inside x c.args.around) (inside x c.in_ok-in_stepped.field-0) (statements_in x c.args.turn.now) (holding x c.args.rs.now) (holding x c.in_ok-inner.inner)
    c.in_ok-items.items c.state_all.new.items c.new-code.result c.statements.new.code (c.in_ok-in_stepped.ensures x) (c.in_ok-inner.ensures x.tables.now) c.new-code.ensures
    c.in_ok-statements.ensures.code c.in_ok-items.ensures c.in_ok-state_all.ensures

pub begin_turn-returns-in_ok-plain : goal.begin_turn-returns-in_ok-plain
begin_turn-returns-in_ok-plain t c =
    let x = c.args.x.now in
    begun_alone (inside x c.args.around) (statements_in x c.args.turn.now) (holding x c.args.rs.now) c.args.alone _ c.if-alone.true c.in_ok-plain.ensures

pub begin_turn-returns-in_ok-made : goal.begin_turn-returns-in_ok-made
begin_turn-returns-in_ok-made t c =
    let x = c.args.x.now in
    begun_before (inside x c.args.around) (statements_in x c.args.turn.now) (holding x c.args.rs.now) c.args.alone _ _ c.if-alone.false c.in_ok-items.ensures c.in_ok-made.ensures

pub end_turn-returns : goal.end_turn-returns
end_turn-returns t c =
    let x = c.args.x.now in
    ended_is (inside x c.args.around) (inside x c.in_loop.result) (statements_in x c.args.step.now) (holding x c.args.rs.now) (holding x c.in_ok-inner.inner) (written c.args.first)
    (written c.statements.new.code) (written c.args.code.now) (written c.put_loop.new.code) (body_of c.in_ok-whole.whole) (c.in_loop.ensures x) (c.in_ok-inner.ensures x.tables.now)
    c.in_ok-statements.ensures.code c.in_ok-whole.ensures c.in_ok-put_loop.ensures

-- ---- switches

pub item-returns-in_ok-running-in-Some : goal.item-returns-in_ok-running-in-Some
item-returns-in_ok-running-in-Some t c =
    let x = c.args.x.now in
    λ rest. label_turn (inside x c.args.around) (holding x c.args.rs.now) (holding x c.args.running.now) rest (statement_in x c.args.s.now) _
    (c.in_ok-found.ensures x) _ c.in-Some.found (written_items c.args.made.now) (written_items c.put_label.new.items) c.in-Some.is
    c.in_ok-put_label-in-Some.ensures (c.in_ok-running-in-Some.ensures x.tables.now)

pub item-returns-in_ok-state_all-in-None : goal.item-returns-in_ok-state_all-in-None
item-returns-in_ok-state_all-in-None t c =
    let x = c.args.x.now in
    λ rest. statement_turn (inside x c.args.around) (holding x c.args.rs.now) (holding x c.args.running.now) rest (statement_in x c.args.s.now) _
    (c.in_ok-found.ensures x) (holding x c.statement.new.rs) c.new-code.result c.statement.new.code (written_items c.args.made.now) (written_items c.state_all.new.items) c.in-None.is
    c.new-code.ensures c.in_ok-statement-in-None.ensures.code c.in_ok-statement-in-None.ensures.held c.in_ok-state_all-in-None.ensures

pub items-loop-s-init : goal.items-loop-s-init
items-loop-s-init t c =
    let x = c.args.x.now in
    items_begun (inside x c.args.around) (holding x c.args.rs.now) (holding x c.in_ok-running.running) (statements_in x c.as_slice-s-items.result.now) c.new-made.result c.new-made.ensures
    (c.in_ok-running.ensures x.tables.now)

pub items-loop-s-preserved : goal.items-loop-s-preserved
items-loop-s-preserved t c =
    let x = c.args.x.now in
    let all = c.as_slice-s-items.result.now in
    items_turn x (inside x c.args.around) (holding x c.args.rs.now) (holding x c.loop-s.running) all c.loop-s.s-index c.s-item.result (written_items c.loop-s.made)
    (in_front (written_items c.item.new.made) (items (statements_in x (drop (c.loop-s.s-index + 1) all)) (inside x c.args.around) (holding x c.args.rs.now) (holding x c.item.new.running)))
    (items (statements_in x all) (inside x c.args.around) (holding x c.args.rs.now) (holding x c.args.rs.now)) c.loop-s-test.true
    c.s-item.is (c.in_ok-item.ensures (statements_in x (drop (c.loop-s.s-index + 1) all))) c.loop-s.invariant

pub items-returns : goal.items-returns
items-returns t c =
    let x = c.args.x.now in
    items_ended x (inside x c.args.around) (holding x c.args.rs.now) (holding x c.loop-s.running) c.as_slice-s-items.result.now c.loop-s.s-index (written_items c.loop-s.made) c.args.all.now
    c.as_slice-s-items.ensures c.loop-s-test.false c.loop-s.invariant

pub switched-returns : goal.switched-returns
switched-returns t c =
    let x = c.args.x.now in
    record {
      code = switched_is (inside x c.args.around) (inside x c.in_ok-in_switch.field-0) c.args.register (statements_in x c.args.all.now) (holding x c.args.rs.now) (holding x c.forget.new.rs)
          (switch_in_order (written_items c.in_ok-made.made)) (expression_of c.in_ok-tested.tested) (written c.flag_set.new.code) (written c.put_switch.new.code) (written c.args.code.now)
          (written c.if_flag.new.code) c.new-onward.result c.put_way.new.code c.in_ok-flag_set.ensures c.forget.ensures (c.in_ok-in_switch.ensures x) c.in_ok-made.ensures
          c.in_ok-tested.ensures c.in_ok-put_switch.ensures c.new-onward.ensures c.in_ok-put_way.ensures c.in_ok-if_flag.ensures;
      held = c.forget.ensures;
    }

-- ---- one statement

pub statement-returns-in_ok-done-in-Act : goal.statement-returns-in_ok-done-in-Act
statement-returns-in_ok-done-in-Act t c =
    let x = c.args.x.now in
    record {
      code = written_act x c.args.s.now (inside x c.args.around) (holding x c.args.rs.now) (written c.args.code.now) (written c.done.new.code) _ c.in-Act.is
          (c.in_ok-done-in-Act.ensures c.args.around);
      held = behind_act x c.args.s.now c.args.rs.now _ c.in-Act.is;
    }

pub statement-returns-in_ok-keep-in-Set : goal.statement-returns-in_ok-keep-in-Set
statement-returns-in_ok-keep-in-Set t c =
    let x = c.args.x.now in
    let g = holding x c.args.rs.now in
    let a = c.in-Set.action in
    record {
      code = written_set x c.args.s.now (inside x c.args.around) g (written c.args.code.now) (written c.kept.new.code) c.in-Set.register a c.in-Set.is
          (c.in_ok-kept-in-Set.ensures c.args.around);
      held = behind_set x c.args.s.now c.keep.new.self g c.in-Set.register a c.in-Set.is
          (set_held x c.args.rs.now c.in-Set.register (kept_by (locals_in x) g (action_in x a)) (kept_in x.tables.now c.kept_by-held.result) (holding x c.keep.new.self)
          c.kept_by-held.ensures (c.in_ok-keep-in-Set.ensures x.tables.now));
    }

pub statement-returns-in_ok-join-in-If : goal.statement-returns-in_ok-join-in-If
statement-returns-in_ok-join-in-If t c =
    let x = c.args.x.now in
    let ss = statements_in x c.in-If.yes in
    let ts = statements_in x c.in-If.no in
    let g = holding x c.args.rs.now in
    record {
      code = written_if x c.args.s.now (inside x c.args.around) g (written c.args.code.now) (written c.join.new.code) c.in-If.register c.in-If.yes c.in-If.no c.in-If.is
          (branched_is (inside x c.args.around) c.in-If.register ss ts g (holding x c.in_ok-other-in-If.other) (body_of c.in_ok-chosen-in-If.chosen) (body_of c.in_ok-rest-in-If.rest)
          (written c.args.code.now) (written c.join.new.code) (c.in_ok-other-in-If.ensures x.tables.now) c.in_ok-chosen-in-If.ensures.code c.in_ok-rest-in-If.ensures.code
          c.in_ok-join-in-If.ensures.code);
      held = behind_if x c.args.s.now c.join.new.rs g c.in-If.register c.in-If.yes c.in-If.no c.in-If.is
          (met_behind x c.join.new.rs ss ts g (holding x c.in_ok-other-in-If.other) _ _ (c.in_ok-other-in-If.ensures x.tables.now)
          c.in_ok-chosen-in-If.ensures.held c.in_ok-rest-in-If.ensures.held c.in_ok-join-in-If.ensures.held);
    }

pub statement-returns-in_ok-end_turn-in-Loop : goal.statement-returns-in_ok-end_turn-in-Loop
statement-returns-in_ok-end_turn-in-Loop t c =
    let x = c.args.x.now in
    record {
      code = written_loop x c.args.s.now (inside x c.args.around) (holding x c.args.rs.now) (written c.args.code.now) (written c.end_turn.new.code) c.in-Loop.turn c.in-Loop.next c.in-Loop.is
          (loop_is x (inside x c.args.around) (statements_in x c.in-Loop.turn) (holding x c.args.rs.now) c.in-Loop.next c.is_empty.result (holding x c.forget_loop.new.rs)
          (written c.in_ok-first-in-Loop.first) (written c.args.code.now) (written c.end_turn.new.code) c.is_empty.ensures c.forget_loop.ensures c.in_ok-first-in-Loop.ensures
          c.in_ok-end_turn-in-Loop.ensures);
      held = behind_loop x c.args.s.now c.forget_loop.new.rs (holding x c.args.rs.now) c.in-Loop.turn c.in-Loop.next c.in-Loop.is c.forget_loop.ensures;
    }

pub statement-returns-in_ok-switched-in-Switch : goal.statement-returns-in_ok-switched-in-Switch
statement-returns-in_ok-switched-in-Switch t c =
    let x = c.args.x.now in
    record {
      code = written_switch x c.args.s.now (inside x c.args.around) (holding x c.args.rs.now) (written c.args.code.now) (written c.switched.new.code) c.in-Switch.register
          c.in-Switch.body c.in-Switch.is c.in_ok-switched-in-Switch.ensures.code;
      held = behind_switch x c.args.s.now c.switched.new.rs (holding x c.args.rs.now) c.in-Switch.register c.in-Switch.body c.in-Switch.is c.in_ok-switched-in-Switch.ensures.held;
    }

pub statement-returns-in-Case : goal.statement-returns-in-Case
statement-returns-in-Case t c =
    let x = c.args.x.now in
    record {
      code = nothing_case x c.args.s.now (inside x c.args.around) (holding x c.args.rs.now) (written c.args.code.now) (written c.args.code.now) c.in-Case.value c.in-Case.is;
      held = behind_case x c.args.s.now c.args.rs.now c.in-Case.value c.in-Case.is;
    }

pub statement-returns-in-Default : goal.statement-returns-in-Default
statement-returns-in-Default t c =
    let x = c.args.x.now in
    record {
      code = nothing_default x c.args.s.now (inside x c.args.around) (holding x c.args.rs.now) (written c.args.code.now) (written c.args.code.now) c.in-Default.is;
      held = behind_default x c.args.s.now c.args.rs.now c.in-Default.is;
    }

pub statement-returns-in_ok-put_way-in-Break : goal.statement-returns-in_ok-put_way-in-Break
statement-returns-in_ok-put_way-in-Break t c =
    let x = c.args.x.now in
    record {
      code = written_break x c.args.s.now (inside x c.args.around) (holding x c.args.rs.now) (written c.args.code.now) (written c.put_way.new.code) c.in-Break.is
          c.in_ok-put_way-in-Break.ensures;
      held = behind_break x c.args.s.now c.args.rs.now c.in-Break.is;
    }

pub statement-returns-in_ok-put_way-in-Continue : goal.statement-returns-in_ok-put_way-in-Continue
statement-returns-in_ok-put_way-in-Continue t c =
    let x = c.args.x.now in
    record {
      code = written_continue x c.args.s.now (inside x c.args.around) (holding x c.args.rs.now) (written c.args.code.now) (written c.put_way-in-Continue.new.code) c.in-Continue.is
          c.in_ok-put_way-in-Continue.ensures;
      held = behind_continue x c.args.s.now c.args.rs.now c.in-Continue.is;
    }

pub statement-returns-in_ok-put_return-in-Return : goal.statement-returns-in_ok-put_return-in-Return
statement-returns-in_ok-put_return-in-Return t c =
    let x = c.args.x.now in
    record {
      code = written_return x c.args.s.now (inside x c.args.around) (holding x c.args.rs.now) (written c.args.code.now) (written c.put_return.new.code) c.in-Return.register c.in-Return.is
          (c.in_ok-put_return-in-Return.ensures c.args.around);
      held = behind_return x c.args.s.now c.args.rs.now c.in-Return.register c.in-Return.is;
    }

pub statement-returns-in-Parts : goal.statement-returns-in-Parts
statement-returns-in-Parts t c =
    let x = c.args.x.now in
    record {
      code = nothing_parts x c.args.s.now (inside x c.args.around) (holding x c.args.rs.now) (written c.args.code.now) (written c.args.code.now) _ c.in-Parts.is;
      held = behind_parts x c.args.s.now c.clear_all.new.self (holding x c.args.rs.now) _ c.in-Parts.is (nothing_held x c.clear_all.new.self c.clear_all.ensures);
    }
