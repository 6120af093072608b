use Rattle.std.proofs.Common.{false, refl}
use Rattle.cf_core.specs.FromClasses.{signature_of}
use Rattle.cf_plain.specs.Plain as plain
use Rattle.cf_lower_constants.specs.Sites.{action_at, statements_at}
use Rattle.cf_lower_held.proofs.Views.{is-Act, is-Set, is-If, is-Loop, is-Switch, is-Case, is-Default, is-Break, is-Continue, is-Return, is-Parts}
use Rattle.cf_lowerable_starts.specs.Telling.{knows, tells}
use Rattle.cf_lowerable_starts.proofs.Forms.{Walked, by_form}
use Rattle.cf_lowerable_starts.proofs.Turns.{alike_all, alike_more, false_alike, false_known, false_told, known_all, known_more, told_all, told_more, true_alike, true_known, true_told, untold_alike, untold_known, untold_told}
use Rattle.cf_lowerable_starts.proofs.walk.+statements.Goals as goal

-- ---- all statements

pub statements_alike-loop-statement-preserved : goal.statements_alike-loop-statement-preserved
statements_alike-loop-statement-preserved t c =
    let x = c.args.x.now in
    let name = c.args.name.now in
    let all = c.as_slice-statement-items.result.now in
    let i = c.loop-statement.statement-index in
    let s = c.statement-item.result in
    let old = c.loop-statement.s in
    let new = c.statement_alike.new.s in
    let told = c.in_ok-is.ensures in
    record {
      alike = alike_more x name all i s c.loop-statement-test.true c.statement-item.is (knows x old) (knows x new) (tells x old) (tells x new) told.known told.told
          c.loop-statement.so_far c.in_ok-is.is' c.both-joined.result _ c.both-joined.ensures told.alike c.loop-statement.invariant.alike;
      known = known_more x name all i s c.loop-statement-test.true c.statement-item.is (knows x old) (knows x new) (tells x old) (tells x new) told.known told.told
          _ c.loop-statement.invariant.known;
      told = told_more x name all i s c.loop-statement-test.true c.statement-item.is (knows x old) (knows x new) (tells x old) (tells x new) told.known told.told
          _ c.loop-statement.invariant.told;
    }

pub statements_alike-returns : goal.statements_alike-returns
statements_alike-returns t c =
    let x = c.args.x.now in
    let name = c.args.name.now in
    let items = c.as_slice-statement-items.result.now in
    let i = c.loop-statement.statement-index in
    let old = c.args.s.now in
    let new = c.loop-statement.s in
    record {
      alike = alike_all x name items c.args.all.now c.as_slice-statement-items.ensures i c.loop-statement-test.false (knows x new) (knows x old) (tells x new) (tells x old)
          c.loop-statement.so_far c.loop-statement.invariant.alike;
      known = known_all x name items c.args.all.now c.as_slice-statement-items.ensures i c.loop-statement-test.false (knows x new) (knows x old) (tells x new) (tells x old)
          c.loop-statement.invariant.known;
      told = told_all x name items c.args.all.now c.as_slice-statement-items.ensures i c.loop-statement-test.false (knows x new) (knows x old) (tells x new) (tells x old)
          c.loop-statement.invariant.told;
    }

-- ---- one statement, by its form

pub statement_alike-returns-in_ok-is-in-Act : goal.statement_alike-returns-in_ok-is-in-Act
statement_alike-returns-in_ok-is-in-Act t c =
    let x = c.args.x.now in
    let name = c.args.name.now in
    let g = knows x c.args.s.now in
    let u = tells x c.args.s.now in
    let walked = by_form x name c.args.statement.now (plain.act (action_at x c.in-Act.action)) g _ u _ c.in_ok-is-in-Act.is'
    (is-Act x.tables.now (signature_of x.tables.now) c.args.statement.now c.in-Act.action c.in-Act.is) (record { alike = c.in_ok-is-in-Act.ensures.alike; known = c.in_ok-is-in-Act.ensures.known; told = c.in_ok-is-in-Act.ensures.told }) in
    record { alike = Walked.alike walked; known = Walked.known walked; told = Walked.told walked }

pub statement_alike-returns-in_ok-is-in-Set : goal.statement_alike-returns-in_ok-is-in-Set
statement_alike-returns-in_ok-is-in-Set t c =
    let x = c.args.x.now in
    let name = c.args.name.now in
    let g = knows x c.args.s.now in
    let u = tells x c.args.s.now in
    let walked = by_form x name c.args.statement.now (plain.set c.in-Set.register (action_at x c.in-Set.action)) g _ u _ c.in_ok-is-in-Set.is'
    (is-Set x.tables.now (signature_of x.tables.now) c.args.statement.now c.in-Set.register c.in-Set.action c.in-Set.is) (record { alike = c.in_ok-is-in-Set.ensures.alike; known = c.in_ok-is-in-Set.ensures.known; told = c.in_ok-is-in-Set.ensures.told }) in
    record { alike = Walked.alike walked; known = Walked.known walked; told = Walked.told walked }

pub statement_alike-returns-in-None : goal.statement_alike-returns-in-None
statement_alike-returns-in-None t c =
    let x = c.args.x.now in
    let name = c.args.name.now in
    let g = knows x c.args.s.now in
    let u = tells x c.args.s.now in
    let new = c.forget.new.self in
    let r = c.in-If.register in
    let yes = statements_at x c.in-If.yes in
    let no = statements_at x c.in-If.no in
    let o = c.in_ok-truth-in-If.truth in
    let truth = c.in_ok-truth-in-If.ensures in
    let walked = by_form x name c.args.statement.now (plain.branch r yes no) g (knows x new) u (tells x new) false
    (is-If x.tables.now (signature_of x.tables.now) c.args.statement.now c.in-If.register c.in-If.yes c.in-If.no c.in-If.is) (record { alike = untold_alike x name g u r yes no o truth c.in-None.is; known = untold_known x name g u r yes no o truth (knows x new) c.in-None.is (c.forget.ensures.known x); told = untold_told x name g u r yes no o truth (tells x new) c.in-None.is (c.forget.ensures.told x) }) in
    record { alike = Walked.alike walked; known = Walked.known walked; told = Walked.told walked }

pub statement_alike-returns-then-taken : goal.statement_alike-returns-then-taken
statement_alike-returns-then-taken t c =
    let x = c.args.x.now in
    let name = c.args.name.now in
    let g = knows x c.args.s.now in
    let u = tells x c.args.s.now in
    let r = c.in-If.register in
    let yes = statements_at x c.in-If.yes in
    let no = statements_at x c.in-If.no in
    let o = c.in_ok-truth-in-If.truth in
    let truth = c.in_ok-truth-in-If.ensures in
    let walked = by_form x name c.args.statement.now (plain.branch r yes no) g _ u _ c.both-first.result
    (is-If x.tables.now (signature_of x.tables.now) c.args.statement.now c.in-If.register c.in-If.yes c.in-If.no c.in-If.is) (record { alike = true_alike x name g u r yes no o truth c.in_ok-number-in-If.number c.in_ok-are-in-Some.are c.in_ok-number-in-If.ensures c.in-Some.taken c.in-Some.is c.both-first.result c.both-first.ensures c.if-taken.true c.in_ok-are-in-Some.ensures.alike; known = true_known x name g u r yes no o truth c.in-Some.taken c.in-Some.is _ c.if-taken.true c.in_ok-are-in-Some.ensures.known; told = true_told x name g u r yes no o truth c.in-Some.taken c.in-Some.is _ c.if-taken.true c.in_ok-are-in-Some.ensures.told }) in
    record { alike = Walked.alike walked; known = Walked.known walked; told = Walked.told walked }

pub statement_alike-returns-in_ok-are-in-Some-2 : goal.statement_alike-returns-in_ok-are-in-Some-2
statement_alike-returns-in_ok-are-in-Some-2 t c =
    let x = c.args.x.now in
    let name = c.args.name.now in
    let g = knows x c.args.s.now in
    let u = tells x c.args.s.now in
    let r = c.in-If.register in
    let yes = statements_at x c.in-If.yes in
    let no = statements_at x c.in-If.no in
    let o = c.in_ok-truth-in-If.truth in
    let truth = c.in_ok-truth-in-If.ensures in
    let walked = by_form x name c.args.statement.now (plain.branch r yes no) g _ u _ c.both-second.result
    (is-If x.tables.now (signature_of x.tables.now) c.args.statement.now c.in-If.register c.in-If.yes c.in-If.no c.in-If.is) (record { alike = false_alike x name g u r yes no o truth c.in_ok-number-in-If.number c.in_ok-are-in-Some-2.are c.in_ok-number-in-If.ensures c.in-Some.taken c.in-Some.is c.both-second.result c.both-second.ensures c.if-taken.false c.in_ok-are-in-Some-2.ensures.alike; known = false_known x name g u r yes no o truth c.in-Some.taken c.in-Some.is _ c.if-taken.false c.in_ok-are-in-Some-2.ensures.known; told = false_told x name g u r yes no o truth c.in-Some.taken c.in-Some.is _ c.if-taken.false c.in_ok-are-in-Some-2.ensures.told }) in
    record { alike = Walked.alike walked; known = Walked.known walked; told = Walked.told walked }

pub statement_alike-returns-in-Loop : goal.statement_alike-returns-in-Loop
statement_alike-returns-in-Loop t c =
    let x = c.args.x.now in
    let name = c.args.name.now in
    let g = knows x c.args.s.now in
    let u = tells x c.args.s.now in
    let new = c.args.s.now in
    let walked = by_form x name c.args.statement.now (plain.loop _ _) g (knows x new) u (tells x new) false
    (is-Loop x.tables.now (signature_of x.tables.now) c.args.statement.now _ _ c.in-Loop.is) (record { alike = refl; known = refl; told = refl }) in
    record { alike = Walked.alike walked; known = Walked.known walked; told = Walked.told walked }

pub statement_alike-returns-in-Switch : goal.statement_alike-returns-in-Switch
statement_alike-returns-in-Switch t c =
    let x = c.args.x.now in
    let name = c.args.name.now in
    let g = knows x c.args.s.now in
    let u = tells x c.args.s.now in
    let new = c.args.s.now in
    let walked = by_form x name c.args.statement.now (plain.switch _ _) g (knows x new) u (tells x new) false
    (is-Switch x.tables.now (signature_of x.tables.now) c.args.statement.now _ _ c.in-Switch.is) (record { alike = refl; known = refl; told = refl }) in
    record { alike = Walked.alike walked; known = Walked.known walked; told = Walked.told walked }

pub statement_alike-returns-in-Case : goal.statement_alike-returns-in-Case
statement_alike-returns-in-Case t c =
    let x = c.args.x.now in
    let name = c.args.name.now in
    let g = knows x c.args.s.now in
    let u = tells x c.args.s.now in
    let new = c.args.s.now in
    let walked = by_form x name c.args.statement.now (plain.case_label _) g (knows x new) u (tells x new) false
    (is-Case x.tables.now (signature_of x.tables.now) c.args.statement.now _ c.in-Case.is) (record { alike = refl; known = refl; told = refl }) in
    record { alike = Walked.alike walked; known = Walked.known walked; told = Walked.told walked }

pub statement_alike-returns-in-Default : goal.statement_alike-returns-in-Default
statement_alike-returns-in-Default t c =
    let x = c.args.x.now in
    let name = c.args.name.now in
    let g = knows x c.args.s.now in
    let u = tells x c.args.s.now in
    let new = c.args.s.now in
    let walked = by_form x name c.args.statement.now (plain.default_label) g (knows x new) u (tells x new) false
    (is-Default x.tables.now (signature_of x.tables.now) c.args.statement.now c.in-Default.is) (record { alike = refl; known = refl; told = refl }) in
    record { alike = Walked.alike walked; known = Walked.known walked; told = Walked.told walked }

pub statement_alike-returns-in-Break : goal.statement_alike-returns-in-Break
statement_alike-returns-in-Break t c =
    let x = c.args.x.now in
    let name = c.args.name.now in
    let g = knows x c.args.s.now in
    let u = tells x c.args.s.now in
    let new = c.args.s.now in
    let walked = by_form x name c.args.statement.now (plain.leave) g (knows x new) u (tells x new) false
    (is-Break x.tables.now (signature_of x.tables.now) c.args.statement.now c.in-Break.is) (record { alike = refl; known = refl; told = refl }) in
    record { alike = Walked.alike walked; known = Walked.known walked; told = Walked.told walked }

pub statement_alike-returns-in-Continue : goal.statement_alike-returns-in-Continue
statement_alike-returns-in-Continue t c =
    let x = c.args.x.now in
    let name = c.args.name.now in
    let g = knows x c.args.s.now in
    let u = tells x c.args.s.now in
    let new = c.args.s.now in
    let walked = by_form x name c.args.statement.now (plain.continue) g (knows x new) u (tells x new) false
    (is-Continue x.tables.now (signature_of x.tables.now) c.args.statement.now c.in-Continue.is) (record { alike = refl; known = refl; told = refl }) in
    record { alike = Walked.alike walked; known = Walked.known walked; told = Walked.told walked }

pub statement_alike-returns-in-Return : goal.statement_alike-returns-in-Return
statement_alike-returns-in-Return t c =
    let x = c.args.x.now in
    let name = c.args.name.now in
    let g = knows x c.args.s.now in
    let u = tells x c.args.s.now in
    let new = c.args.s.now in
    let walked = by_form x name c.args.statement.now (plain.give _) g (knows x new) u (tells x new) false
    (is-Return x.tables.now (signature_of x.tables.now) c.args.statement.now _ c.in-Return.is) (record { alike = refl; known = refl; told = refl }) in
    record { alike = Walked.alike walked; known = Walked.known walked; told = Walked.told walked }

pub statement_alike-returns-in-Parts : goal.statement_alike-returns-in-Parts
statement_alike-returns-in-Parts t c =
    let x = c.args.x.now in
    let name = c.args.name.now in
    let g = knows x c.args.s.now in
    let u = tells x c.args.s.now in
    let new = c.args.s.now in
    let walked = by_form x name c.args.statement.now (plain.parts _) g (knows x new) u (tells x new) false
    (is-Parts x.tables.now (signature_of x.tables.now) c.args.statement.now _ c.in-Parts.is) (record { alike = refl; known = refl; told = refl }) in
    record { alike = Walked.alike walked; known = Walked.known walked; told = Walked.told walked }
