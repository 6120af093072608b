use Rattle.cc_whole.specs.Plain.{items_of}
use Rattle.cf_lower_unit.proofs.Joined.{variables_are}
use Rattle.cf_lower_unit.proofs.variables.own_variables.Goals as goal

pub returns : goal.returns
returns c =
    variables_are c.args.tables.now c.args.functions.now c.args.statics.now c.new-made.result (items_of c.define_statics.new.made) (items_of c.function_literals.new.made)
    (items_of c.start_literals.new.made) c.new-made.ensures c.in_ok-define_statics.ensures c.in_ok-function_literals.ensures c.in_ok-start_literals.ensures
