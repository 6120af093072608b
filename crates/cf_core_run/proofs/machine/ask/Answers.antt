use Rattle.std.proofs.Common.{◌∙◌, ap, subst, arith, Result}
use Rattle.cf_core_run.specs.Nearer.{doing_left}
use Rattle.cf_core_objects.specs.declared.answer.Stop.{Stop}
use Rattle.cf_core_objects.specs.declared.answer.Value.{Value as Given}
use Rattle.cf_core_run.specs.Going.{from_doing}
use Rattle.cf_core_run.specs.Whole.{outside, Reads}
use Rattle.cf_core_run.proofs.WholeLaws.{asks-err}
use Rattle.cf_core_run.proofs.machine.ask.Goals as goal

pub returns-in-Err-clause-turns : goal.returns-in-Err-clause-turns
returns-in-Err-clause-turns c = λ p. asks-err p c.args.machine.now c.args.machine.now c.args.seen.now c.next_byte.new.seen c.in-Err.stop (subst (λ (r : Result Given Stop). Reads c.args.seen.now c.next_byte.new.seen r) c.in-Err.is c.next_byte.ensures)

pub returns-in-Ok-clause-turns : goal.returns-in-Ok-clause-turns
returns-in-Ok-clause-turns c = λ p T a.
    ap (λ d. from_doing T p d c.args.machine.now (outside c.args.seen.now a)) c.requires
    ∙ (subst (λ (r : Result Given Stop). Reads c.args.seen.now c.next_byte.new.seen r) c.in-Ok.is c.next_byte.ensures) T p c.args.machine.now a

pub returns-in-Ok-clause-nearer : goal.returns-in-Ok-clause-nearer
returns-in-Ok-clause-nearer c = λ p. record { ticks = omega arith; steps = λ s. omega (arith, ap (doing_left p) c.requires) }
