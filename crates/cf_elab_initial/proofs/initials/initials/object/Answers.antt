use Rattle.cf_elab_initial.proofs.InitialsLaws.InitialLaws.{number_taken}
use Rattle.cf_elab_initial.proofs.initials.initials.object.Goals as goal

pub returns-clause-number : goal.returns-clause-number
returns-clause-number c =
    let fitted = c.in_ok-fitted.ensures in
    number_taken c.args.env.now.types c.fit.new.env.types c.args.ty c.bare-bare.result c.in_ok-fitted.fitted c.of_value.result c.holds.ensures.table fitted.grows c.requires.typed
    c.bare-bare.ensures.value fitted.wanted fitted.known c.of_value.ensures
