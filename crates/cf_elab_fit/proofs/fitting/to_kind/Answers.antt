use Rattle.cf_elab_fit.proofs.FitLaws.{kind_number}
use Rattle.cf_elab_fit.proofs.fitting.to_kind.Goals as goal

pub returns-clause-number : goal.returns-clause-number
returns-clause-number c =
    let to = c.in_ok-to.ensures in
    let fitted = c.in_ok-fitted.ensures in
    kind_number c.of_kind.new.self.types c.fit.new.env.types c.in_ok-fitted.fitted c.in_ok-to.to c.args.kind c.holds.ensures.table fitted.grows to.known to.sort fitted.wanted fitted.known
