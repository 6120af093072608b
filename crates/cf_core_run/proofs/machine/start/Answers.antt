use Rattle.std.proofs.Common.{refl}
use Rattle.cf_core_run.proofs.WholeLaws.{first-goes}
use Rattle.cf_core_run.proofs.machine.start.Goals as goal

pub returns : goal.returns
returns c = λ p. first-goes p c.args.limits c.args.alloc c.new.result _ _ c.new.ensures.items refl
