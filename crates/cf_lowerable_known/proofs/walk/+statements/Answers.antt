use Rattle.std.proofs.Common.{false, refl}
use Rattle.cf_core.specs.FromClasses.{signature_of}
use Rattle.cf_plain.specs.Plain as plain
use Rattle.cf_lower_constants.specs.Sites.{action_at, statements_at, told_all}
use Rattle.cf_lower_constants.proofs.Lists.{knows_nothing}
use Rattle.cf_lower_held.proofs.Views.{is-Act, is-Set, is-If, is-Loop, is-Switch, is-Case, is-Default, is-Break, is-Continue, is-Return, is-Parts}
use Rattle.cf_lowerable_known.proofs.Forms.{Walked, by_form}
use Rattle.cf_lowerable_known.proofs.Turns.{behind_all, behind_more, false_behind, false_known, known_all, known_more, true_behind, true_known, untold_behind, untold_known}
use Rattle.cf_lowerable_known.proofs.walk.+statements.Goals as goal

-- ---- all statements

pub statements_known-loop-statement-preserved : goal.statements_known-loop-statement-preserved
statements_known-loop-statement-preserved t c =
    let x = c.args.x.now in
    let all = c.as_slice-statement-items.result.now in
    let i = c.loop-statement.statement-index in
    let s = c.statement-item.result in
    let old = told_all x c.loop-statement.known in
    let new = told_all x c.statement_known.new.known in
    let told = c.in_ok-is.ensures in
    record {
      known = known_more x all i s c.loop-statement-test.true c.statement-item.is old new told.behind c.loop-statement.so_far c.in_ok-is.is' c.both-joined.result _
          c.both-joined.ensures told.known
          c.loop-statement.invariant.known;
      behind = behind_more x all i s c.loop-statement-test.true c.statement-item.is old new told.behind _ c.loop-statement.invariant.behind;
    }

pub statements_known-returns : goal.statements_known-returns
statements_known-returns t c =
    let x = c.args.x.now in
    let items = c.as_slice-statement-items.result.now in
    let i = c.loop-statement.statement-index in
    let old = told_all x c.args.known.now in
    let new = told_all x c.loop-statement.known in
    record {
      known = known_all x items c.args.all.now c.as_slice-statement-items.ensures i c.loop-statement-test.false new old c.loop-statement.so_far c.loop-statement.invariant.known;
      behind = behind_all x items c.args.all.now c.as_slice-statement-items.ensures i c.loop-statement-test.false new old c.loop-statement.invariant.behind;
    }

-- ---- one statement, by its form

pub statement_known-returns-in_ok-is-in-Act : goal.statement_known-returns-in_ok-is-in-Act
statement_known-returns-in_ok-is-in-Act t c =
    let x = c.args.x.now in
    let g = told_all x c.args.known.now in
    let walked =
    by_form x c.args.statement.now (plain.act (action_at x c.in-Act.action)) g g c.in_ok-is-in-Act.is'
    (is-Act x.tables.now (signature_of x.tables.now) c.args.statement.now c.in-Act.action c.in-Act.is) (record { known = c.in_ok-is-in-Act.ensures; behind = refl }) in
    record { known = Walked.known walked; behind = Walked.behind walked }

pub statement_known-returns-in_ok-is-in-Set : goal.statement_known-returns-in_ok-is-in-Set
statement_known-returns-in_ok-is-in-Set t c =
    let x = c.args.x.now in
    let g = told_all x c.args.known.now in
    let walked =
    by_form x c.args.statement.now (plain.set c.in-Set.register (action_at x c.in-Set.action)) g _ c.in_ok-is-in-Set.is'
    (is-Set x.tables.now (signature_of x.tables.now) c.args.statement.now c.in-Set.register c.in-Set.action c.in-Set.is)
    (record { known = c.in_ok-is-in-Set.ensures.known; behind = c.in_ok-is-in-Set.ensures.behind }) in
    record { known = Walked.known walked; behind = Walked.behind walked }

pub statement_known-returns-in-None : goal.statement_known-returns-in-None
statement_known-returns-in-None t c =
    let x = c.args.x.now in
    let g = told_all x c.args.known.now in
    let h = told_all x c.forget.new.self in
    let r = c.in-If.register in
    let yes = statements_at x c.in-If.yes in
    let no = statements_at x c.in-If.no in
    let o = c.in_ok-truth-in-If.truth in
    let truth = c.in_ok-truth-in-If.ensures in
    let walked =
    by_form x c.args.statement.now (plain.branch r yes no) g h false
    (is-If x.tables.now (signature_of x.tables.now) c.args.statement.now c.in-If.register c.in-If.yes c.in-If.no c.in-If.is)
    (record {
      known = untold_known x g r yes no o truth c.in-None.is;
      behind = untold_behind x g r yes no o truth h c.in-None.is (knows_nothing x.tables.now c.forget.new.self c.forget.ensures);
    }) in
    record { known = Walked.known walked; behind = Walked.behind walked }

pub statement_known-returns-then-taken : goal.statement_known-returns-then-taken
statement_known-returns-then-taken t c =
    let x = c.args.x.now in
    let g = told_all x c.args.known.now in
    let r = c.in-If.register in
    let yes = statements_at x c.in-If.yes in
    let no = statements_at x c.in-If.no in
    let o = c.in_ok-truth-in-If.truth in
    let truth = c.in_ok-truth-in-If.ensures in
    let walked =
    by_form x c.args.statement.now (plain.branch r yes no) g _ c.in_ok-are-in-Some.are
    (is-If x.tables.now (signature_of x.tables.now) c.args.statement.now c.in-If.register c.in-If.yes c.in-If.no c.in-If.is)
    (record {
      known = true_known x g r yes no o truth c.in-Some.taken c.in-Some.is c.in_ok-are-in-Some.are c.if-taken.true c.in_ok-are-in-Some.ensures.known;
      behind = true_behind x g r yes no o truth c.in-Some.taken c.in-Some.is _ c.if-taken.true c.in_ok-are-in-Some.ensures.behind;
    }) in
    record { known = Walked.known walked; behind = Walked.behind walked }

pub statement_known-returns-in_ok-are-in-Some-2 : goal.statement_known-returns-in_ok-are-in-Some-2
statement_known-returns-in_ok-are-in-Some-2 t c =
    let x = c.args.x.now in
    let g = told_all x c.args.known.now in
    let r = c.in-If.register in
    let yes = statements_at x c.in-If.yes in
    let no = statements_at x c.in-If.no in
    let o = c.in_ok-truth-in-If.truth in
    let truth = c.in_ok-truth-in-If.ensures in
    let walked =
    by_form x c.args.statement.now (plain.branch r yes no) g _ c.in_ok-are-in-Some-2.are
    (is-If x.tables.now (signature_of x.tables.now) c.args.statement.now c.in-If.register c.in-If.yes c.in-If.no c.in-If.is)
    (record {
      known = false_known x g r yes no o truth c.in-Some.taken c.in-Some.is c.in_ok-are-in-Some-2.are c.if-taken.false c.in_ok-are-in-Some-2.ensures.known;
      behind = false_behind x g r yes no o truth c.in-Some.taken c.in-Some.is _ c.if-taken.false c.in_ok-are-in-Some-2.ensures.behind;
    }) in
    record { known = Walked.known walked; behind = Walked.behind walked }

pub statement_known-returns-in-Loop : goal.statement_known-returns-in-Loop
statement_known-returns-in-Loop t c =
    let x = c.args.x.now in
    let g = told_all x c.args.known.now in
    let walked =
    by_form x c.args.statement.now (plain.loop _ _) g g false (is-Loop x.tables.now (signature_of x.tables.now) c.args.statement.now _ _ c.in-Loop.is)
    (record { known = refl; behind = refl }) in
    record { known = Walked.known walked; behind = Walked.behind walked }

pub statement_known-returns-in-Switch : goal.statement_known-returns-in-Switch
statement_known-returns-in-Switch t c =
    let x = c.args.x.now in
    let g = told_all x c.args.known.now in
    let walked =
    by_form x c.args.statement.now (plain.switch _ _) g g false (is-Switch x.tables.now (signature_of x.tables.now) c.args.statement.now _ _ c.in-Switch.is)
    (record { known = refl; behind = refl }) in
    record { known = Walked.known walked; behind = Walked.behind walked }

pub statement_known-returns-in-Case : goal.statement_known-returns-in-Case
statement_known-returns-in-Case t c =
    let x = c.args.x.now in
    let g = told_all x c.args.known.now in
    let walked =
    by_form x c.args.statement.now (plain.case_label _) g g false (is-Case x.tables.now (signature_of x.tables.now) c.args.statement.now _ c.in-Case.is)
    (record { known = refl; behind = refl }) in
    record { known = Walked.known walked; behind = Walked.behind walked }

pub statement_known-returns-in-Default : goal.statement_known-returns-in-Default
statement_known-returns-in-Default t c =
    let x = c.args.x.now in
    let g = told_all x c.args.known.now in
    let walked =
    by_form x c.args.statement.now plain.default_label g g false (is-Default x.tables.now (signature_of x.tables.now) c.args.statement.now c.in-Default.is)
    (record { known = refl; behind = refl }) in
    record { known = Walked.known walked; behind = Walked.behind walked }

pub statement_known-returns-in-Break : goal.statement_known-returns-in-Break
statement_known-returns-in-Break t c =
    let x = c.args.x.now in
    let g = told_all x c.args.known.now in
    let walked =
    by_form x c.args.statement.now plain.leave g g false (is-Break x.tables.now (signature_of x.tables.now) c.args.statement.now c.in-Break.is)
    (record { known = refl; behind = refl }) in
    record { known = Walked.known walked; behind = Walked.behind walked }

pub statement_known-returns-in-Continue : goal.statement_known-returns-in-Continue
statement_known-returns-in-Continue t c =
    let x = c.args.x.now in
    let g = told_all x c.args.known.now in
    let walked =
    by_form x c.args.statement.now plain.continue g g false (is-Continue x.tables.now (signature_of x.tables.now) c.args.statement.now c.in-Continue.is)
    (record { known = refl; behind = refl }) in
    record { known = Walked.known walked; behind = Walked.behind walked }

pub statement_known-returns-in-Return : goal.statement_known-returns-in-Return
statement_known-returns-in-Return t c =
    let x = c.args.x.now in
    let g = told_all x c.args.known.now in
    let walked =
    by_form x c.args.statement.now (plain.give _) g g false (is-Return x.tables.now (signature_of x.tables.now) c.args.statement.now _ c.in-Return.is)
    (record { known = refl; behind = refl }) in
    record { known = Walked.known walked; behind = Walked.behind walked }

pub statement_known-returns-in-Parts : goal.statement_known-returns-in-Parts
statement_known-returns-in-Parts t c =
    let x = c.args.x.now in
    let g = told_all x c.args.known.now in
    let walked =
    by_form x c.args.statement.now (plain.parts _) g g false (is-Parts x.tables.now (signature_of x.tables.now) c.args.statement.now _ c.in-Parts.is)
    (record { known = refl; behind = refl }) in
    record { known = Walked.known walked; behind = Walked.behind walked }
