use Rattle.std.proofs.Common.{◌∙◌}
use Rattle.cf_core.specs.FromTypes.{type_of}
use Rattle.cf_lowerable_ready.specs.Contents.{known}
use Rattle.cf_lowerable_ready.proofs.TypeLaws.{value_given}
use Rattle.cf_lowerable_ready.proofs.types.given_by.Goals as goal

pub returns : goal.returns
returns c =
    let tables = c.args.tables.now in
    c.valued.ensures tables ∙ value_given (type_of tables c.args.given) (known tables c.scalar_of.result) c.scalar_of.ensures
