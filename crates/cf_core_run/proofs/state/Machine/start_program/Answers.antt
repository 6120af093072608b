use Rattle.cf_core_run.specs.Nearer.{statics_left}
use Rattle.std.proofs.Common.{refl, arith, ap}
use Rattle.cf_core_run.proofs.WholeLaws.{begun-goes}
use Rattle.cf_core_run.proofs.state.Machine.start_program.Goals as goal

pub returns-clause-comes : goal.returns-clause-comes
returns-clause-comes c = begun-goes c.args.program.now c.args.self.now (record { name = c.as_slice.result; depth = c.args.self.now.entered.depth; count = 0; locals = c.new.result; scope = c.new-2.result; temporaries = c.new-3.result }) c.in_ok-objects.objects c.as_slice-2.result
    c.in_ok-objects.ensures refl c.as_slice.ensures c.new.ensures.items c.new-2.ensures.items c.new-3.ensures.items refl c.as_slice-2.ensures

pub returns-clause-within : goal.returns-clause-within
returns-clause-within c = λ p. omega (arith, ap statics_left c.as_slice-2.ensures)
