use Rattle.std.proofs.Common.{Ok, Err}
use Rattle.cf_core.specs.FromUnit.{tables_of}
use Rattle.cf_core_go.proofs.Meant.{ran_to}
use Rattle.cf_core_go.proofs.run.run_unit.Goals as goal

pub returns-in-Err-drive : goal.returns-in-Err-drive
returns-in-Err-drive g c heap =
    ran_to c.args.unit.now c.in-Ok.program c.args.limits heap _ _ (Err c.in-Err-drive.fault) c.in-Ok.ensures.value.1 c.in-Ok.ensures.program
    (c.in-Err-drive.ensures (tables_of c.args.unit.now) heap)

pub returns : goal.returns
returns g c heap =
    ran_to c.args.unit.now c.in-Ok.program c.args.limits heap _ _ (Ok c.in-Ok-drive.driven) c.in-Ok.ensures.value.1 c.in-Ok.ensures.program
    (c.in-Ok-drive.ensures (tables_of c.args.unit.now) heap)
