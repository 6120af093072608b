use Rattle.cf_elab_unit.proofs.DefinitionsLaws.Rows.{ended}
use Rattle.cf_elab_unit.proofs.definitions.bodies.end_body.Goals as goal

pub returns-clause-made : goal.returns-clause-made
returns-clause-made c =
    let head = c.in_ok-head.head in
    ended c.args.before c.args.entry.now c.args.returned c.args.parameters.now c.args.body c.args.env.now
    c.leave_scope.new.self c.replace_hand-hand.new.self c.add_function.new.self c.replace_hand-hand.result head.name head.is_internal head.params head.locals c.objects_at.result.now
    c.core_function-function.result c.leave_scope.ensures.made c.replace_hand-hand.ensures.before c.replace_hand-hand.ensures.state c.objects_at.ensures
    c.in_ok-head.ensures.name c.in_ok-head.ensures.internal c.in_ok-head.ensures.params c.in_ok-head.ensures.locals c.core_function-function.ensures c.in_ok-add_function.ensures.state
