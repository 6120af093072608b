use Rattle.std.specs.Borrow.{Bor}
use Rattle.cf_core.specs.declared.node.Core.{Core}
use Rattle.cf_sequence_lowered.specs.Literals.{literal_of}
use Rattle.cf_core_nodes.specs.Views.{view}
use Rattle.cf_lowerable_core.proofs.Puts.{put_more}
use Rattle.cf_lowerable_core.proofs.literals.add_literals.Goals as goal

pub loop-e-preserved : goal.loop-e-preserved
loop-e-preserved c = λ tables.
    put_more (λ (e : Bor Core). view tables e.now) (literal_of c.args.function.now) c.args.nodes.now c.loop-e.e-index c.e-item.result c.loop-e-test.true c.e-item.is
    c.loop-e.names c.add_literal.new.names _ (c.in_ok-add_literal.ensures tables) (c.loop-e.invariant tables)
