use Rattle.std.proofs.Common.{ap, ◌∙◌}
use Rattle.cf_core.specs.FromUnit.{tables_of}
use Rattle.cf_core_nodes.specs.Views.{shown}
use Rattle.cf_lowerable_core.proofs.files.initialiser_looks.Goals as goal

pub starts_fit-requires : goal.starts_fit-requires
starts_fit-requires c =
    let tables = tables_of c.args.unit.now in
    record { none = c.requires; listed = ap (shown tables) c.as_slice.ensures.value ∙ c.in_ok-nodes.ensures tables }
