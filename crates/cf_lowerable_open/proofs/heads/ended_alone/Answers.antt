use Rattle.std.proofs.Common.{arith}
use Rattle.cf_lowerable_open.proofs.Alone.{alone_other}
use Rattle.cf_lowerable_open.proofs.heads.ended_alone.Goals as goal

pub returns-else-all-eq1 : goal.returns-else-all-eq1
returns-else-all-eq1 c = alone_other c.args.x.now c.args.all.now (λ e. omega (arith, e, c.if-all-eq1.false))
