use Rattle.std.proofs.Common.{ℕ, false, List, map, ap, ◌∙◌}
use Rattle.cf_core.specs.FromTypes.{type_of}
use Rattle.cf_core.specs.FromUnit.{tables_of}
use Rattle.cf_lowerable_core.specs.Looks.{signature_looks}
use Rattle.cf_lowerable_core.proofs.Entries.{by_signature}
use Rattle.cf_lowerable_core.proofs.files.function_fits.Goals as goal

pub returns : goal.returns
returns c =
    let tables = tables_of c.args.unit.now in
    let f = c.args.f.now in
    c.signature_fits.ensures
    ∙ ap (λ (l : List ℕ). signature_looks (map (type_of tables) l) (type_of tables f.result)) c.as_slice.ensures
    ∙ by_signature (type_of tables f.result) false (map (type_of tables) f.params)
