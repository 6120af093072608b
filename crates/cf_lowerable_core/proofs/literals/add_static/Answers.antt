use Rattle.std.proofs.Common.{ℕ, List, ◌++◌, ap, ◌∙◌}
use Rattle.std.specs.Borrow.{Bor}
use Rattle.std.specs.List.{flat_map}
use Rattle.cf_core.specs.Core as plain
use Rattle.cf_core.specs.Nodes.{nodes}
use Rattle.cf_core.specs.declared.node.Core.{Core}
use Rattle.cf_sequence_lowered.specs.Literals.{literal_of}
use Rattle.cf_core_nodes.specs.Views.{view, shown}
use Rattle.cf_lowerable_core.proofs.literals.add_static.Goals as goal

pub returns : goal.returns
returns c = λ tables.
    let names = c.args.names.now in
    let function = c.owner_name.result.now in
    c.in_ok-add_literals.ensures tables
    ∙ ap (λ (l : List (Bor Core)). names ++ flat_map (literal_of function) (shown tables l)) c.as_slice.ensures.value
    ∙ ap (λ (l : List plain.Core). names ++ flat_map (literal_of function) l) (c.in_ok-nodes.ensures tables)
    ∙ ap (λ (n : List ℕ). names ++ flat_map (literal_of n) (nodes (view tables c.args.x.now.start))) (c.owner_name.ensures tables)
