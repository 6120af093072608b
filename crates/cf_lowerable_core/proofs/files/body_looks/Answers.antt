use Rattle.std.proofs.Common.{ap, ◌∙◌}
use Rattle.cf_core.specs.FromUnit.{tables_of}
use Rattle.cf_core_nodes.specs.Views.{shown}
use Rattle.cf_lowerable_core.proofs.files.body_looks.Goals as goal

pub nodes_fit-requires : goal.nodes_fit-requires
nodes_fit-requires c =
    let tables = tables_of c.args.unit.now in
    record { none = c.requires; listed = ap (shown tables) c.as_slice.ensures.value ∙ c.in_ok-nodes.ensures tables }
