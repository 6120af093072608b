use Rattle.std.proofs.Common.{◌≡◌, length, ap, arith}
use Rattle.cf_core.specs.FromUnit.{tables_of}
use Rattle.cf_lower_types.proofs.Entries.{found, missing}
use Rattle.cf_types.specs.Table.{Table}
use Rattle.cf_sound.proofs.types.entry.Goals as goal

pub returns-then-number-count-clause-value : goal.returns-then-number-count-clause-value
returns-then-number-count-clause-value c = found (tables_of c.args.unit.now) c.args.id c.ty.result.now c.ty.ensures.kept c.ty.ensures.names

pub returns-else-number-count-clause-value : goal.returns-else-number-count-clause-value
returns-else-number-count-clause-value c =
    let same : length c.types.result.now.types ≡ length c.args.unit.now.types.types = ap (λ (t : Table). length t.types) c.types.ensures in
    missing (tables_of c.args.unit.now) c.args.id (omega (arith, same))
