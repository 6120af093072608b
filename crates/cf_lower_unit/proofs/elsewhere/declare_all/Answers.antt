use Rattle.std.proofs.Common.{refl}
use Rattle.cc_whole.specs.Plain.{items_of}
use Rattle.cf_lower.specs.Functions.{other_names}
use Rattle.cf_lower_fn.specs.Walks.{told}
use Rattle.cf_lower_unit.specs.Pieces.{named_by}
use Rattle.cf_lower_unit.proofs.Turns.{no_more, others_more}
use Rattle.cf_lower_unit.proofs.elsewhere.declare_all.Goals as goal

pub loop-action-preserved : goal.loop-action-preserved
loop-action-preserved c =
    others_more c.args.tables.now c.args.all.now c.loop-action.action-index c.action-item.result c.loop-action-test.true c.action-item.is (items_of c.loop-action.made)
    (items_of c.declare.new.made) _ c.loop-action.names c.declare.new.names c.loop-action.invariant c.in_ok-declare.ensures.made c.in_ok-declare.ensures.names

pub returns : goal.returns
returns c =
    no_more (λ bs. other_names c.loop-action.names (named_by c.args.tables.now (told c.args.tables.now bs))) refl c.args.all.now c.loop-action.action-index
    (items_of c.loop-action.made) _ c.loop-action-test.false c.loop-action.invariant
