use Rattle.std.proofs.Common.{ap, sym, ◌∙◌}
use Rattle.cf_convert.specs.Constness.{is_const, const_step}
use Rattle.cf_convert.proofs.Constness.{const-at, const_of_others}
use Rattle.cf_elab_env.proofs.types.+is_const.Goals as goal

pub returns-in-Const : goal.returns-in-Const
returns-in-Const t c =
    let types = c.args.types.now in
    sym (const-at types c.args.id c.get.result.now c.get.ensures.kept c.get.ensures.earlier ∙ ap (const_step (is_const types)) c.in-Const.is)

pub returns-in-Array : goal.returns-in-Array
returns-in-Array t c =
    let types = c.args.types.now in
    c.is_const.ensures ∙ sym (const-at types c.args.id c.get.result.now c.get.ensures.kept c.get.ensures.earlier ∙ ap (const_step (is_const types)) c.in-Array.is)

pub returns-in_default : goal.returns-in_default
returns-in_default t c =
    let types = c.args.types.now in
    sym (const-at types c.args.id c.get.result.now c.get.ensures.kept c.get.ensures.earlier ∙ const_of_others (is_const types) c.get.result.now c.in_default.not-Const c.in_default.not-Array)
