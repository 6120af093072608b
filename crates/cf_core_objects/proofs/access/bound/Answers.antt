use Rattle.std.proofs.Common.{sym, subst}
use Rattle.cf_base.specs.World.{Ran}
use Rattle.cf_core.specs.Access.{bound_to}
use Rattle.cf_core.specs.Run.{Did}
use Rattle.cf_core_objects.specs.Answer.{Told}
use Rattle.cf_core_objects.specs.Log.{value_of}
use Rattle.cf_core_objects.proofs.AccessLaws.{err-then, ok-then}
use Rattle.cf_core_objects.proofs.access.bound.Goals as goal

pub returns-in-Err : goal.returns-in-Err
returns-in-Err c = λ act s w h. err-then value_of c.args.found c.in-Err.stop s s w act bound_to c.in-Err.is h

pub returns-in-Ok : goal.returns-in-Ok
returns-in-Ok c = λ act s w h.
    subst (λ (r : Ran (Did _)). Told value_of c.not_null.result s w r) (sym (ok-then value_of c.args.found c.in-Ok.v s s w act bound_to c.in-Ok.is h)) (c.not_null.ensures s w)
