use Rattle.std.proofs.Common.{sym, subst}
use Rattle.cf_lowerable_ready.specs.Types.{IsKnown}
use Rattle.cf_lowerable_ready.proofs.InnerTypes.{function_there}
use Rattle.cf_lowerable_ready.proofs.forms.+inner.Goals as goal

pub returns-in-None-clause-known : goal.returns-in-None-clause-known
returns-in-None-clause-known t c =
    let tables = c.args.tables.now in
    subst (IsKnown tables) (sym c.form_in.ensures) (function_there tables c.args.id c.entry-ty.result c.entry-ty.ensures.named)
