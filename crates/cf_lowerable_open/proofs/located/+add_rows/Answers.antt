use Rattle.std.proofs.lemmas.Result.{on_ok_weaker}
use Rattle.cf_lowerable_open.proofs.RowLaws.{row_end, row_more}
use Rattle.cf_lowerable_open.proofs.located.+add_rows.Goals as goal

pub returns-in-None : goal.returns-in-None
returns-in-None t c = row_end c.args.tables.now c.args.id c.form_of.result c.form_of.ensures.is c.elements_in.result c.elements_in.ensures c.args.made.now c.in-None.is

pub returns-in_ok-push-in-Some : goal.returns-in_ok-push-in-Some
returns-in_ok-push-in-Some t c =
    on_ok_weaker c.add_rows.result
    (row_more c.args.tables.now c.args.id c.form_of.result c.form_of.ensures.is c.elements_in.result c.elements_in.ensures c.args.made.now c.in-Some.elements c.push.new.self c.add_rows.new.made
    c.in-Some.is c.in_ok-push-in-Some.ensures.ok)
    c.add_rows.ensures
