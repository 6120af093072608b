use Rattle.std.proofs.Common.{false, ◌+◌, drop, refl}
use Rattle.cf_core.specs.FromClasses.{signature_of}
use Rattle.cf_lower_held.specs.Scenes.{statements_in}
use Rattle.cf_lower_held.proofs.Views.{is-Act, is-Set, is-If, is-Loop, is-Switch, is-Case, is-Default, is-Break, is-Continue, is-Return, is-Parts}
use Rattle.cf_lowerable_places.specs.Contents.{known, knowing}
use Rattle.cf_lowerable_places.proofs.StatementLaws.{placed_more, behind_more, listed_more, placed_all, behind_all, listed_all, listed_begun, apart_same, placed_at, behind_at, turns_placed, branch_placed, branch_behind, loop_placed, switch_placed, label_turn, statement_turn}
use Rattle.cf_lowerable_places.proofs.statements.+statements.Goals as goal

-- ---- statements in order

pub statements-loop-s-preserved : goal.statements-loop-s-preserved
statements-loop-s-preserved t c =
    let x = c.args.x.now in
    let all = c.as_slice-s-items.result.now in
    record {
      placed = placed_more x all c.loop-s.s-index c.s-item.result c.loop-s-test.true c.s-item.is c.args.breaks c.args.continues c.loop-s.good c.in_ok-here.here c.both-good.result _
          (knowing x c.loop-s.cs) (knowing x c.statement.new.cs) c.in_ok-here.ensures.placed c.in_ok-here.ensures.held c.both-good.ensures c.loop-s.invariant.placed;
      held = behind_more x all c.loop-s.s-index c.s-item.result c.loop-s-test.true c.s-item.is _ (knowing x c.loop-s.cs) (knowing x c.statement.new.cs) c.in_ok-here.ensures.held
          c.loop-s.invariant.held;
    }

pub statements-returns : goal.statements-returns
statements-returns t c =
    let x = c.args.x.now in
    let items = c.as_slice-s-items.result.now in
    record {
      placed = placed_all x items c.args.all.now c.as_slice-s-items.ensures c.loop-s.s-index c.loop-s-test.false c.args.breaks c.args.continues c.loop-s.good (knowing x c.args.cs.now)
          (knowing x c.loop-s.cs) c.loop-s.invariant.placed;
      held = behind_all x items c.args.all.now c.as_slice-s-items.ensures c.loop-s.s-index c.loop-s-test.false (knowing x c.args.cs.now) (knowing x c.loop-s.cs) c.loop-s.invariant.held;
    }

pub apart-returns : goal.apart-returns
apart-returns t c =
    let x = c.args.x.now in
    apart_same x c.args.breaks c.args.continues c.in_ok-good.good c.args.all.now (knowing x c.args.cs.now) (knowing x c.in_ok-inner.inner) (c.in_ok-inner.ensures x.tables.now)
    c.in_ok-good.ensures.placed

-- ---- switches

pub items-loop-s-init : goal.items-loop-s-init
items-loop-s-init t c =
    let x = c.args.x.now in
    listed_begun x c.args.continues c.as_slice-s-items.result.now (knowing x c.args.cs.now) (knowing x c.in_ok-running.running) (c.in_ok-running.ensures x.tables.now)

pub items-loop-s-preserved : goal.items-loop-s-preserved
items-loop-s-preserved t c =
    let x = c.args.x.now in
    let all = c.as_slice-s-items.result.now in
    listed_more x all c.loop-s.s-index c.s-item.result c.loop-s-test.true c.s-item.is c.args.continues c.loop-s.good c.in_ok-here.here c.both-good.result _ (knowing x c.args.cs.now)
    (knowing x c.loop-s.running) (knowing x c.item.new.running) (c.in_ok-here.ensures (statements_in x (drop (c.loop-s.s-index + 1) all))) c.both-good.ensures c.loop-s.invariant

pub items-returns : goal.items-returns
items-returns t c =
    let x = c.args.x.now in
    listed_all x c.as_slice-s-items.result.now c.args.all.now c.as_slice-s-items.ensures c.loop-s.s-index c.loop-s-test.false c.args.continues c.loop-s.good (knowing x c.args.cs.now)
    (knowing x c.args.cs.now) (knowing x c.loop-s.running) c.loop-s.invariant

pub switched-returns : goal.switched-returns
switched-returns t c =
    let x = c.args.x.now in
    record {
      placed = λ b. switch_placed x b c.args.continues c.switches-selected.result c.labels_differ-differ.result c.in_ok-placed.placed c.all_three.result c.args.register c.args.all.now
          (knowing x c.args.cs.now) (knowing x c.forget.new.self) (known x.tables.now c.held.result) c.held.ensures (c.switches-selected.ensures x) (c.labels_differ-differ.ensures x)
          c.forget.ensures c.in_ok-placed.ensures c.all_three.ensures;
      held = c.forget.ensures;
    }

pub item-returns-in_ok-running : goal.item-returns-in_ok-running
item-returns-in_ok-running t c =
    let x = c.args.x.now in
    λ rest. label_turn x c.args.continues c.is_label.result c.args.s.now c.label_of.result rest (knowing x c.args.cs.now) (knowing x c.args.running.now)
    (knowing x c.in_ok-running.field-0) (c.label_of.ensures x) c.is_label.ensures c.if-is_label.true (c.in_ok-running.ensures x.tables.now)

pub item-returns-in_ok-good : goal.item-returns-in_ok-good
item-returns-in_ok-good t c =
    let x = c.args.x.now in
    λ rest. statement_turn x c.args.continues c.in_ok-good.good c.is_label.result c.args.s.now c.label_of.result rest (knowing x c.args.cs.now) (knowing x c.args.running.now)
    (knowing x c.statement.new.cs) (c.label_of.ensures x) c.is_label.ensures c.if-is_label.false c.in_ok-good.ensures.placed c.in_ok-good.ensures.held

-- ---- one statement, by its form

pub statement-returns-in_ok-good-in-Act : goal.statement-returns-in_ok-good-in-Act
statement-returns-in_ok-good-in-Act t c =
    let x = c.args.x.now in
    let s = c.args.s.now in
    let g = knowing x c.args.cs.now in
    let is = is-Act x.tables.now (signature_of x.tables.now) s c.in-Act.action c.in-Act.is in
    record {
      placed = placed_at x s _ is c.args.breaks c.args.continues c.in_ok-good-in-Act.good g c.in_ok-good-in-Act.ensures;
      held = behind_at x s _ is g g refl;
    }

pub statement-returns-in_ok-good-in-Set : goal.statement-returns-in_ok-good-in-Set
statement-returns-in_ok-good-in-Set t c =
    let x = c.args.x.now in
    let s = c.args.s.now in
    let g = knowing x c.args.cs.now in
    let is = is-Set x.tables.now (signature_of x.tables.now) s c.in-Set.register c.in-Set.action c.in-Set.is in
    record {
      placed = placed_at x s _ is c.args.breaks c.args.continues c.in_ok-good-in-Set.good g c.in_ok-good-in-Set.ensures.placed;
      held = behind_at x s _ is g (knowing x c.sets.new.cs) c.in_ok-good-in-Set.ensures.held;
    }

pub statement-returns-in_ok-meet-in-If : goal.statement-returns-in_ok-meet-in-If
statement-returns-in_ok-meet-in-If t c =
    let x = c.args.x.now in
    let s = c.args.s.now in
    let g = knowing x c.args.cs.now in
    let k = knowing x c.in_ok-other-in-If.other in
    let is = is-If x.tables.now (signature_of x.tables.now) s c.in-If.register c.in-If.yes c.in-If.no c.in-If.is in
    let same = c.in_ok-other-in-If.ensures x.tables.now in
    record {
      placed = placed_at x s _ is c.args.breaks c.args.continues c.all_three.result g
          (branch_placed x c.in-If.register c.in-If.yes c.in-If.no g k same c.args.breaks c.args.continues c.is_number-tested.result c.in_ok-first-in-If.first c.in_ok-second-in-If.second
          c.all_three.result c.is_number-tested.ensures c.in_ok-first-in-If.ensures.placed c.in_ok-second-in-If.ensures.placed c.all_three.ensures);
      held = behind_at x s _ is g (knowing x c.meet.new.self)
          (branch_behind x c.in-If.register c.in-If.yes c.in-If.no g k same _ _ (knowing x c.meet.new.self) c.in_ok-first-in-If.ensures.held c.in_ok-second-in-If.ensures.held
          c.in_ok-meet-in-If.ensures);
    }

pub statement-returns-in_ok-second-in-Loop : goal.statement-returns-in_ok-second-in-Loop
statement-returns-in_ok-second-in-Loop t c =
    let x = c.args.x.now in
    let s = c.args.s.now in
    let g = knowing x c.args.cs.now in
    let h = knowing x c.forget_loop.new.cs in
    let is = is-Loop x.tables.now (signature_of x.tables.now) s c.in-Loop.body c.in-Loop.next c.in-Loop.is in
    record {
      placed = placed_at x s _ is c.args.breaks c.args.continues c.both.result g
          (loop_placed x c.args.breaks c.args.continues c.both.result c.in-Loop.body c.in-Loop.next g h c.forget_loop.ensures
          (turns_placed x c.in_ok-first-in-Loop.first c.in_ok-second-in-Loop.second c.both.result c.in-Loop.body c.in-Loop.next h c.in_ok-first-in-Loop.ensures
          c.in_ok-second-in-Loop.ensures c.both.ensures));
      held = behind_at x s _ is g h c.forget_loop.ensures;
    }

pub statement-returns-in_ok-good-in-Switch : goal.statement-returns-in_ok-good-in-Switch
statement-returns-in_ok-good-in-Switch t c =
    let x = c.args.x.now in
    let s = c.args.s.now in
    let g = knowing x c.args.cs.now in
    let is = is-Switch x.tables.now (signature_of x.tables.now) s c.in-Switch.register c.in-Switch.body c.in-Switch.is in
    record {
      placed = placed_at x s _ is c.args.breaks c.args.continues c.in_ok-good-in-Switch.good g (c.in_ok-good-in-Switch.ensures.placed c.args.breaks);
      held = behind_at x s _ is g (knowing x c.switched.new.cs) c.in_ok-good-in-Switch.ensures.held;
    }

pub statement-returns-in-Case : goal.statement-returns-in-Case
statement-returns-in-Case t c =
    let x = c.args.x.now in
    let s = c.args.s.now in
    let g = knowing x c.args.cs.now in
    let is = is-Case x.tables.now (signature_of x.tables.now) s c.in-Case.value c.in-Case.is in
    record {
      placed = placed_at x s _ is c.args.breaks c.args.continues false g refl;
      held = behind_at x s _ is g g refl;
    }

pub statement-returns-in-Default : goal.statement-returns-in-Default
statement-returns-in-Default t c =
    let x = c.args.x.now in
    let s = c.args.s.now in
    let g = knowing x c.args.cs.now in
    let is = is-Default x.tables.now (signature_of x.tables.now) s c.in-Default.is in
    record {
      placed = placed_at x s _ is c.args.breaks c.args.continues false g refl;
      held = behind_at x s _ is g g refl;
    }

pub statement-returns-in-Break : goal.statement-returns-in-Break
statement-returns-in-Break t c =
    let x = c.args.x.now in
    let s = c.args.s.now in
    let g = knowing x c.args.cs.now in
    let is = is-Break x.tables.now (signature_of x.tables.now) s c.in-Break.is in
    record {
      placed = placed_at x s _ is c.args.breaks c.args.continues c.args.breaks g refl;
      held = behind_at x s _ is g g refl;
    }

pub statement-returns-in-Continue : goal.statement-returns-in-Continue
statement-returns-in-Continue t c =
    let x = c.args.x.now in
    let s = c.args.s.now in
    let g = knowing x c.args.cs.now in
    let is = is-Continue x.tables.now (signature_of x.tables.now) s c.in-Continue.is in
    record {
      placed = placed_at x s _ is c.args.breaks c.args.continues c.args.continues g refl;
      held = behind_at x s _ is g g refl;
    }

pub statement-returns-in_ok-good-in-Return : goal.statement-returns-in_ok-good-in-Return
statement-returns-in_ok-good-in-Return t c =
    let x = c.args.x.now in
    let s = c.args.s.now in
    let g = knowing x c.args.cs.now in
    let is = is-Return x.tables.now (signature_of x.tables.now) s c.in-Return.register c.in-Return.is in
    record {
      placed = placed_at x s _ is c.args.breaks c.args.continues c.in_ok-good-in-Return.good g c.in_ok-good-in-Return.ensures;
      held = behind_at x s _ is g g refl;
    }

pub statement-returns-in-Parts : goal.statement-returns-in-Parts
statement-returns-in-Parts t c =
    let x = c.args.x.now in
    let s = c.args.s.now in
    let g = knowing x c.args.cs.now in
    let is = is-Parts x.tables.now (signature_of x.tables.now) s c.in-Parts.parts c.in-Parts.is in
    record {
      placed = placed_at x s _ is c.args.breaks c.args.continues false g refl;
      held = behind_at x s _ is g (knowing x c.clear_all.new.self) (c.clear_all.ensures x.tables.now);
    }
