use Rattle.cf_lowerable_starts.proofs.HeadLaws.{int_at}
use Rattle.cf_lowerable_starts.proofs.functions.is_int.Goals as goal

pub returns : goal.returns
returns c = int_at c.args.tables.now c.args.id c.form_of.result c.form_of.ensures.is c.is_int_form.result c.is_int_form.ensures
