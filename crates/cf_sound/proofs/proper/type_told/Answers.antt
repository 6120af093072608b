use Rattle.std.proofs.Common.{◌∙◌}
use Rattle.cf_core.specs.FromUnit.{tables_of}
use Rattle.cf_sound.proofs.TableLaws.{type_known}
use Rattle.cf_sound.proofs.proper.type_told.Goals as goal

pub returns : goal.returns
returns c =
    c.entry_told.ensures
    ∙ type_known (tables_of c.args.unit.now) c.args.id c.args.known.now c.requires c.entry.result c.entry.ensures.named c.entry.ensures.value
