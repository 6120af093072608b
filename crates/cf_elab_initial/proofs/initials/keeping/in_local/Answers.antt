use Rattle.cf_elab_initial.proofs.InitialsLaws.KeepingLaws.{local_held}
use Rattle.cf_elab_initial.proofs.initials.keeping.in_local.Goals as goal

pub returns-clause-made : goal.returns-clause-made
returns-clause-made c =
    local_held c.args.at c.args.to c.args.value c.args.env.now c.new_local.new.self c.in_ok-local.local c.in_ok-start.start c.in_ok-local.ensures.made c.in_ok-start.ensures
