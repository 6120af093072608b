use Rattle.cf_lowerable_ready.specs.Scenes.{knowing}
use Rattle.cf_lowerable_ready.proofs.FunctionForms.{function_told}
use Rattle.cf_lowerable_ready.proofs.functions.is_ready.Goals as goal

pub returns : goal.returns
returns c =
    let x = c.in_ok-x.x in
    function_told c.args.tables.now c.args.f.now x c.in_ok-good.good (knowing x c.new-cs.result) (knowing x c.statements.new.cs) c.in_ok-x.ensures.at c.in_ok-x.ensures.given
    c.in_ok-x.ensures.types (c.new-cs.ensures x.tables.now) c.in_ok-good.ensures
