use Rattle.std.proofs.Common.{◌∙◌}
use Rattle.cf_base.specs.declared.kind.Kind.TheVariants.{Int}
use Rattle.cf_core.specs.Types.{integer}
use Rattle.cf_lowerable_starts.proofs.HeadLaws.{head_of_none, no_head_of_none}
use Rattle.cf_lowerable_starts.proofs.functions.gets.Goals as goal

pub returns-in-Function : goal.returns-in-Function
returns-in-Function c =
    c.both.ensures
    ∙ head_of_none c.args.tables.now c.args.id c.in-Function.number c.form_of.result c.fun-function.result.now c.form_of.ensures.is c.in-Function.is c.fun-function.ensures
    c.takes_nothing-taken.result c.is_int-given.result (integer Int) c.is_int-given.ensures c.takes_nothing-taken.ensures

pub returns-in_default : goal.returns-in_default
returns-in_default c = no_head_of_none c.args.tables.now (integer Int) c.args.id c.form_of.result c.form_of.ensures.is c.in_default.not-Function
