use Rattle.std.proofs.Common.{◌∙◌, ap, nat_lt}
use Rattle.cc_whole.specs.Plain.{items_of}
use Rattle.cc_whole_limits.specs.Nodes.{nodes_of}
use Rattle.cc_whole_limits.specs.StartLimit.{most_nodes}
use Rattle.cc_whole_limits.proofs.LimitLaws.{nodes-test}
use Rattle.cc_whole_limits.proofs.NodeLaws as nodes
use Rattle.cc_whole_limits.proofs.limit.passes_nodes.Goals as goal

pub returns : goal.returns
returns c =
    let items = items_of c.as_slice.result.now in
    ap (nat_lt most_nodes) (c.nodes.ensures ∙ nodes.items-capped items) ∙ nodes-test (nodes_of items) ∙ ap (λ l. nat_lt most_nodes (nodes_of (items_of l))) c.as_slice.ensures
