use Rattle.std.proofs.Common.{◌≡◌, ◌∙◌, ◌≤◌, ◌<◌, ◌+◌, ◌^◌, ◌==◌, false, ℕ, List, [], ◌∷◌, ◌++◌, length, Some, None, Option, Ok, ℤ, pos, rules, arith, ap, sym, refl, subst, FitsSigned, w64, to_z-of_z}
use Rattle.cf_base.specs.declared.kind.Kind.TheVariants as kind
use Rattle.cf_base.specs.Event.{Undefined}
use Rattle.cc_whole_memory.specs.declared.value.Value.{Value}
use Rattle.cc_whole_memory.specs.declared.value.Value.TheVariants as value
use Rattle.cc_whole_callee.specs.declared.library.Library.{Library}
use Rattle.cc_whole_callee.specs.View.{library_of}
use Rattle.cc_whole_mean.specs.Callee.{atexit, free}
use Rattle.cc_whole_mean.specs.Library as does
use Rattle.cc_whole_step.specs.declared.mark.Flow.{Flow}
use Rattle.cc_whole_step.specs.declared.mark.Flow.TheVariants as left
use Rattle.cc_whole_step.specs.Running.{coming_back, leaving}
use Rattle.cc_whole_step.specs.Comes.{Comes, StepsTaking}
use Rattle.cc_whole_step.proofs.Resume.{comes-from}
use Rattle.cc_whole_step.proofs.moment.Moment.library_of_one.Goals as goal

pub returns-in-Number : goal.returns-in-Number
returns-in-Number c =
    let fits : FitsSigned w64 c.in-Number.number = search rules in
    subst (λ (v : Value). Comes (coming_back (λ g s w. does.of_one (library_of c.args.library) c.args.self.now.level.in_helper v s w)) c.library_of_number.result c.args.self.now c.library_of_number.new.self)
    (sym c.in-Number.is)
    (subst (λ (z : ℤ). Comes (coming_back (λ g s w. does.of_number (library_of c.args.library) z s w)) c.library_of_number.result c.args.self.now c.library_of_number.new.self)
    (to_z-of_z {w = w64} {z = c.in-Number.number} fits) c.library_of_number.ensures)
