use Rattle.std.proofs.Common.{◌∙◌, sym, ap}
use Rattle.cf_core.specs.Joined.{is_nothing}
use Rattle.cf_run_tree.specs.Tree.{core_of}
use Rattle.cf_run_tree.proofs.Views.{core-Blank}
use Rattle.cf_core_run.proofs.StaticLaws.{not-nothing}
use Rattle.cf_core_run.proofs.statics.is_blank.Goals as goal

pub returns-in-Blank : goal.returns-in-Blank
returns-in-Blank c = λ T p. sym (ap is_nothing (ap (core_of T p) c.in-Blank.is ∙ core-Blank T p))

pub returns-in_default : goal.returns-in_default
returns-in_default c = λ T p. sym (not-nothing T p c.args.start.now c.in_default.not-Blank)
