use Rattle.std.proofs.Common.{sym, ◌∙◌}
use Rattle.cf_core.specs.FromUnit.{file_of, tables_of}
use Rattle.cf_sound.proofs.FileLaws.{body_fails, body_told}
use Rattle.cf_sound.proofs.files.body_fits.Goals as goal

pub returns-then-not-are_proper : goal.returns-then-not-are_proper
returns-then-not-are_proper c =
    body_fails (tables_of c.args.unit.now) (file_of c.args.unit.now) c.args.f.now c.as_slice-types.result.now _ c.as_slice-types.ensures c.in_ok-frame.ensures
    (sym c.if-not-are_proper.true ∙ c.are_proper.ensures)

pub returns : goal.returns
returns c =
    body_told (tables_of c.args.unit.now) (file_of c.args.unit.now) c.args.f.now c.as_slice-types.result.now _ c.as_slice-types.ensures c.in_ok-frame.ensures
    _ (sym c.if-not-are_proper.false ∙ c.are_proper.ensures) c.in_ok-fits.ensures
