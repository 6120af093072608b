use Rattle.std.proofs.Common.{ℕ, List, ◌&&◌, map, ap, sym, ◌∙◌}
use Rattle.cf_core.specs.FromTypes.{type_of}
use Rattle.cf_core.specs.FromUnit.{tables_of}
use Rattle.cf_types.specs.declared.ty.Ty.TheVariants as ty
use Rattle.cf_core.specs.Types.{same_but_const}
use Rattle.cf_sound.specs.Named.{signature, parameters_fit, result_fits}
use Rattle.cf_sound.proofs.Entries.{by_form}
use Rattle.cf_sound.proofs.NameLaws.{no_signature, signature_by_fun}
use Rattle.cf_sound.proofs.names.+has_signature.Goals as goal

pub returns-then-takes : goal.returns-then-takes
returns-then-takes t c =
    let tables = tables_of c.args.unit.now in
    let g = c.fun-fun.result.now in
    c.result_fits.ensures
    ∙ ap (λ b. b && result_fits c.args.gives_int (type_of tables g.result))
    (sym c.if-takes.true ∙ c.parameters_fit-takes.ensures ∙ ap (λ (l : List ℕ). parameters_fit c.args.takes_int (map (type_of tables) l)) c.as_slice.ensures)
    ∙ signature_by_fun tables c.args.takes_int c.args.gives_int c.args.id _ c.entry.result g c.entry.ensures.value c.in-Fun.is c.fun-fun.ensures

pub returns-else-takes : goal.returns-else-takes
returns-else-takes t c =
    let tables = tables_of c.args.unit.now in
    let g = c.fun-fun.result.now in
    c.if-takes.false
    ∙ ap (λ b. b && result_fits c.args.gives_int (type_of tables g.result))
    (sym c.if-takes.false ∙ c.parameters_fit-takes.ensures ∙ ap (λ (l : List ℕ). parameters_fit c.args.takes_int (map (type_of tables) l)) c.as_slice.ensures)
    ∙ signature_by_fun tables c.args.takes_int c.args.gives_int c.args.id _ c.entry.result g c.entry.ensures.value c.in-Fun.is c.fun-fun.ensures

pub returns-in-Const : goal.returns-in-Const
returns-in-Const t c =
    c.has_signature.ensures
    ∙ by_form (tables_of c.args.unit.now) (same_but_const (signature c.args.takes_int c.args.gives_int)) c.args.id c.entry.result (ty.Const _) c.entry.ensures.value
    c.in-Const.is

pub returns-in_default : goal.returns-in_default
returns-in_default t c =
    no_signature (tables_of c.args.unit.now) c.args.takes_int c.args.gives_int c.entry.result c.in_default.not-Fun c.in_default.not-Const
    ∙ sym (ap (same_but_const (signature c.args.takes_int c.args.gives_int)) c.entry.ensures.value)
