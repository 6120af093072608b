use Rattle.cf_lower_constants.proofs.Lists.{knows_nothing}
use Rattle.cf_lowerable_starts.proofs.StateLaws.{nothing}
use Rattle.cf_lowerable_starts.specs.declared.state.State.{State}
use Rattle.cf_lowerable_starts.proofs.state.State.forget.Goals as goal

pub returns : goal.returns
returns c =
    let s : State = record { known = c.forget.new.self; details = c.forget-2.new.self; parts = c.truncate.new.self } in
    record { known = λ x. knows_nothing x.tables.now c.forget.new.self c.forget.ensures; told = λ x. nothing x s c.forget-2.ensures c.truncate.ensures.items }
