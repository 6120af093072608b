use Rattle.std.proofs.Common.{ℕ, List, ap, map, sym, ◌∙◌}
use Rattle.cf_core.specs.FromTypes.{type_of}
use Rattle.cf_core.specs.FromUnit.{tables_of}
use Rattle.cf_lower_program.specs.Types.{is_lowered}
use Rattle.cf_sequence_lowered.specs.Types.{is_of_function}
use Rattle.cf_lowerable_core.specs.Looks.{signature_looks}
use Rattle.cf_lowerable_core.proofs.Entries.{function_by_fun, no_function}
use Rattle.cf_lowerable_core.proofs.types.is_of_function.Goals as goal

pub returns-in-Fun : goal.returns-in-Fun
returns-in-Fun c =
    let tables = tables_of c.args.unit.now in
    let g = c.fun-fun.result.now in
    c.signature_fits.ensures
    ∙ ap (λ (l : List ℕ). signature_looks (map (type_of tables) l) (type_of tables g.result)) c.as_slice.ensures
    ∙ function_by_fun tables c.args.id _ c.entry.result g c.entry.ensures.value c.in-Fun.is c.fun-fun.ensures

pub returns-in_default : goal.returns-in_default
returns-in_default c =
    c.is_lowered.ensures ∙ ap is_lowered c.entry.ensures.value ∙ no_function (tables_of c.args.unit.now) c.entry.result c.in_default.not-Fun ∙ sym (ap is_of_function c.entry.ensures.value)
