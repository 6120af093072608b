use Rattle.std.proofs.Common.{rules}
use Rattle.cf_elab_unit.proofs.DefinitionsLaws.HandLaws.{hand_known}
use Rattle.cf_elab_unit.proofs.DefinitionsLaws.Rows.{define_is}
use Rattle.cf_elab_unit.proofs.definitions.bodies.define.Goals as goal

pub begin_body-requires-clause-known : goal.begin_body-requires-clause-known
begin_body-requires-clause-known c =
    hand_known c.args.env.now.types c.args.entry.now c.result_of-returned.result c.args.parameters.now c.in_ok-hand.hand c.result_of-returned.ensures.known c.requires.objects c.in_ok-hand.ensures

pub returns-in_err-before-clause-made : goal.returns-in_err-before-clause-made
returns-in_err-before-clause-made c =
    rw (define_is c.args.entry.now c.args.parameters.now c.args.at c.args.body.now c.args.env.now c.result_of-returned.result c.in_ok-hand.hand c.result_of-returned.ensures.value c.in_ok-hand.ensures)
    (search rules)

pub returns-in_err-node-clause-made : goal.returns-in_err-node-clause-made
returns-in_err-node-clause-made c =
    rw (define_is c.args.entry.now c.args.parameters.now c.args.at c.args.body.now c.args.env.now c.result_of-returned.result c.in_ok-hand.hand c.result_of-returned.ensures.value c.in_ok-hand.ensures)
    (search rules)

pub returns-clause-made : goal.returns-clause-made
returns-clause-made c =
    rw (define_is c.args.entry.now c.args.parameters.now c.args.at c.args.body.now c.args.env.now c.result_of-returned.result c.in_ok-hand.hand c.result_of-returned.ensures.value c.in_ok-hand.ensures)
    (search rules)
