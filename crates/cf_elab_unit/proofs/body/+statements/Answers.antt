use Rattle.std.proofs.Common.{rules, arith, ◌≤◌, ◌∙◌, ap, sym, subst, drop, ◌+◌, List, length}
use Rattle.std.proofs.lemmas.Result.{err_from_is_err_and}
use denote.Param.Weighed.{most, at_most}
use Rattle.cf_unit.proofs.statement.Stmt.TheLaws.{the_size}
use Rattle.cf_unit.specs.declared.statement.Stmt.{Stmt}
use Rattle.cf_elab.specs.Statement.{Made}
use Rattle.cf_elab_env.proofs.Growth.{grows_through}
use Rattle.cf_elab_unit.specs.Body.Shut as shut
use Rattle.cf_elab_unit.proofs.BodyLaws.BuiltForms.{one_built}
use Rattle.cf_elab_env.proofs.InOrder.{behind}
use Rattle.cf_elab_unit.proofs.BodyLaws.InTurn.{stopped, going, at_end}
use Rattle.cf_elab_unit.proofs.BodyLaws.Parts.{if_stops}
use Rattle.cf_elab_unit.proofs.body.+statements.Goals as goal

pub lists::statements-statement-requires : goal.lists::statements-statement-requires
lists::statements-statement-requires t c =
    let items = c.args.list.now in
    let le = at_most (λ (x : Stmt). the_size x) items c.loop-s.s-index c.s-item.result c.loop-s-test.true in
    let there : the_size c.s-item.result ≤ most (λ (x : Stmt). the_size x) items =
    subst (λ (x : Stmt). the_size x ≤ most (λ (x : Stmt). the_size x) items) (sym c.s-item.is) le in
    (grind (arith, there), one_built items c.loop-s.s-index c.s-item.result c.requires c.loop-s-test.true c.s-item.is)

pub lists::statements-returns-in_err-statement-clause-made : goal.lists::statements-returns-in_err-statement-clause-made
lists::statements-returns-in_err-statement-clause-made t c =
    let p = err_from_is_err_and c.from_residual.result c.from_residual.ensures.1 in
    rw (p.1, p.2)
    (stopped (shut.statements c.args.list.now c.args.env.now) c.loop-s.found c.args.list.now c.loop-s.s-index c.s-item.result c.loop-s.env c.loop-s.invariant.made c.loop-s-test.true c.s-item.is
    c.in_err-statement.field-0.0 c.in_err-statement.ensures.made)

pub lists::statements-loop-s-preserved : goal.lists::statements-loop-s-preserved
lists::statements-loop-s-preserved t c =
    let m = c.in_ok-statement.field-0 in
    let next = c.statement.new.env in
    let more = going (shut.statements c.args.list.now c.args.env.now) c.loop-s.found c.args.list.now c.loop-s.s-index c.s-item.result c.loop-s.env c.loop-s.invariant.made c.loop-s-test.true c.s-item.is m next
    c.in_ok-statement.ensures.made in
    record {
      made = more ∙ ap (λ (l : List Made). behind l (shut.statements (drop (c.loop-s.s-index + 1) c.args.list.now) next)) (sym c.in_ok-push.ensures.ok);
      grows = grows_through c.args.env.now.types c.loop-s.env.types next.types c.loop-s.invariant.grows c.in_ok-statement.ensures.grows;
    }

pub lists::statements-returns-clause-made : goal.lists::statements-returns-clause-made
lists::statements-returns-clause-made t c =
    let past : length c.args.list.now ≤ c.loop-s.s-index = search rules in
    c.loop-s.invariant.made ∙ at_end c.loop-s.found c.args.list.now c.loop-s.s-index c.loop-s.env past

pub forms::statement-returns-in_err-made-in-If-clause-made : goal.forms::statement-returns-in_err-made-in-If-clause-made
forms::statement-returns-in_err-made-in-If-clause-made t c =
    let p = err_from_is_err_and c.from_residual-in_err-made-in-If.result c.from_residual-in_err-made-in-If.ensures.1 in
    rw (p.1, p.2)
    (if_stops c.args.s.now c.in-If.at c.in-If.e c.in-If.yes c.in-If.no c.args.env.now c.chosen.new.env c.in_ok-chosen-in-If.chosen c.in_err-made-in-If.field-0.0 c.in-If.is
    c.in_ok-chosen-in-If.ensures.made c.in_err-made-in-If.ensures.made)
