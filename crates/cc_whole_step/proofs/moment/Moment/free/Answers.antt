use Rattle.std.proofs.Common.{◌≡◌, ◌∙◌, ◌≤◌, ◌<◌, ◌+◌, ◌^◌, ◌==◌, false, ℕ, List, [], ◌∷◌, ◌++◌, length, Some, None, Option, Ok, ℤ, pos, rules, arith, ap, sym, refl, subst, FitsSigned, w64, to_z-of_z}
use Rattle.cf_base.specs.declared.kind.Kind.TheVariants as kind
use Rattle.cf_base.specs.Event.{Undefined}
use Rattle.cc_whole_memory.specs.declared.value.Value.{Value}
use Rattle.cc_whole_memory.specs.declared.value.Value.TheVariants as value
use Rattle.cc_whole_callee.specs.declared.library.Library.{Library}
use Rattle.cc_whole_callee.specs.View.{library_of}
use Rattle.cc_whole_mean.specs.Callee.{atexit, free}
use Rattle.cc_whole_mean.specs.Library as does
use Rattle.cc_whole_step.specs.declared.mark.Flow.{Flow}
use Rattle.cc_whole_step.specs.declared.mark.Flow.TheVariants as left
use Rattle.cc_whole_step.specs.Running.{coming_back, leaving}
use Rattle.cc_whole_step.specs.Comes.{Comes, StepsTaking}
use Rattle.cc_whole_step.proofs.Resume.{comes-from}
use Rattle.cc_whole_step.proofs.CallLaws.{free-acts}
use Rattle.std.proofs.lemmas.Result.{err_from_is_err_and}
use Rattle.cc_whole_step.proofs.moment.Moment.free.Goals as goal

pub returns-in_err-heap : goal.returns-in_err-heap
returns-in_err-heap c =
    let p = err_from_is_err_and c.from_residual.result c.from_residual.ensures.1 in
    rw (p.1, p.2) (free-acts c.args.self.now c.args.pointer _ c.in_err-heap.ensures.err)
