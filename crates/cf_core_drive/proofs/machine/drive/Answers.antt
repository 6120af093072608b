use Rattle.cf_core_drive.specs.Run.{meant}
use Rattle.cf_core_drive.proofs.machine.drive.Goals as goal

pub returns : goal.returns
returns g c T heap =
    c.go.ensures T (record { heap = heap; bound = c.args.limits.ticks; depth = c.args.limits.depth }) (meant T c.args.program.now c.args.limits heap) (λ input. (c.start-machine.ensures c.args.program.now).same T input heap)
