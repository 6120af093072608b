use Rattle.cf_lower_constants.proofs.Lists.{knows_nothing}
use Rattle.cf_lowerable_starts.proofs.StateLaws.{nothing}
use Rattle.cf_lowerable_starts.specs.declared.state.State.{State}
use Rattle.cf_lowerable_starts.proofs.state.State.new.Goals as goal

pub returns : goal.returns
returns c =
    let s : State = record { known = c.new.result; details = c.new-2.result; parts = c.new-3.result } in
    record { known = λ x. knows_nothing x.tables.now c.new.result c.new.ensures; told = λ x. nothing x s c.new-2.ensures c.new-3.ensures.items }
