use Rattle.std.proofs.Common.{refl}
use Rattle.cc_whole.specs.Plain.{items_of}
use Rattle.cf_lower_fn.specs.Walks.{told}
use Rattle.cf_lower_unit.specs.Pieces.{texts}
use Rattle.cf_lower_unit.proofs.Turns.{literals_more, no_more}
use Rattle.cf_lower_unit.proofs.literals.define_literals.Goals as goal

pub loop-action-preserved : goal.loop-action-preserved
loop-action-preserved c =
    literals_more c.args.tables.now c.args.all.now c.loop-action.action-index c.action-item.result c.loop-action-test.true c.action-item.is c.args.owner.now
    c.args.is_shared c.args.is_local (items_of c.loop-action.made) (items_of c.define_literal.new.made) _ c.loop-action.invariant
    (c.in_ok-define_literal.ensures c.args.tables.now)

pub returns : goal.returns
returns c =
    no_more (λ bs. texts c.args.owner.now c.args.is_shared c.args.is_local (told c.args.tables.now bs)) refl c.args.all.now c.loop-action.action-index
    (items_of c.loop-action.made) _ c.loop-action-test.false c.loop-action.invariant
