use Rattle.std.proofs.Common.{ap, ◌∙◌, map}
use Rattle.std.specs.List.{list_all}
use Rattle.cf_core.specs.FromTypes.{type_of}
use Rattle.cf_core.specs.FromUnit.{file_of, tables_of}
use Rattle.cf_core_nodes.specs.Views.{shown}
use Rattle.cf_sound.specs.Asked.{node_fits}
use Rattle.cf_sound.proofs.files.tree_fits.Goals as goal

pub returns : goal.returns
returns c =
    let tables = tables_of c.args.unit.now in
    c.nodes_fit.ensures
    ∙ ap (list_all (node_fits (file_of c.args.unit.now) (map (type_of tables) c.args.frame.now))) (ap (shown tables) c.as_slice.ensures.value ∙ c.in_ok-nodes.ensures tables)
