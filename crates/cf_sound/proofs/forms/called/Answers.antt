use Rattle.std.proofs.Common.{ap, sym, ◌∙◌}
use Rattle.cf_core.specs.FromUnit.{tables_of}
use Rattle.cf_core.specs.Types.{result}
use Rattle.cf_core_sound.specs.Forms.{given_back}
use Rattle.cf_sound.proofs.FormLaws.{result_by_others, result_by_fun}
use Rattle.cf_sound.proofs.forms.called.Goals as goal

pub returns-in-Fun : goal.returns-in-Fun
returns-in-Fun c =
    c.given_back.ensures
    ∙ ap given_back (result_by_fun (tables_of c.args.unit.now) c.args.id _ c.entry.result c.fun.result.now c.entry.ensures.value c.in-Fun.is c.fun.ensures)

pub returns-in_default : goal.returns-in_default
returns-in_default c =
    result_by_others (tables_of c.args.unit.now) c.entry.result c.in_default.not-Fun ∙ sym (ap (λ t. given_back (result t)) c.entry.ensures.value)
