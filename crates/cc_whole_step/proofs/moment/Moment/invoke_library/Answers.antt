use Rattle.std.proofs.Common.{◌≡◌, ◌∙◌, ◌≤◌, ◌<◌, ◌+◌, ◌^◌, ◌==◌, false, ℕ, List, [], ◌∷◌, ◌++◌, length, Some, None, Option, Ok, ℤ, pos, rules, arith, ap, sym, refl, subst, FitsSigned, w64, to_z-of_z}
use Rattle.cf_base.specs.declared.kind.Kind.TheVariants as kind
use Rattle.cf_base.specs.Event.{Undefined}
use Rattle.cc_whole_memory.specs.declared.value.Value.{Value}
use Rattle.cc_whole_memory.specs.declared.value.Value.TheVariants as value
use Rattle.cc_whole_callee.specs.declared.library.Library.{Library}
use Rattle.cc_whole_callee.specs.View.{library_of}
use Rattle.cc_whole_mean.specs.Callee.{atexit, free}
use Rattle.cc_whole_mean.specs.Library as does
use Rattle.cc_whole_step.specs.declared.mark.Flow.{Flow}
use Rattle.cc_whole_step.specs.declared.mark.Flow.TheVariants as left
use Rattle.cc_whole_step.specs.Running.{coming_back, leaving}
use Rattle.cc_whole_step.specs.Comes.{Comes, StepsTaking}
use Rattle.cc_whole_step.proofs.Resume.{comes-from}
use Rattle.cc_whole_step.proofs.CallLaws.{many-ends}
use Rattle.cc_whole_step.proofs.moment.Moment.invoke_library.Goals as goal

pub returns-else-is_empty : goal.returns-else-is_empty
returns-else-is_empty c =
    many-ends c.args.self.now (library_of c.args.library) c.args.found.now c.in-Some.others.now c.in-Some.v.now c.in-Some.ensures.cases.0 (sym c.is_empty.ensures ∙ c.if-is_empty.false)
