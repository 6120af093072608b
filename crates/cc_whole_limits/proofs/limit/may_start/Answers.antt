use Rattle.std.proofs.Common.{◌∙◌, ap}
use Rattle.cc_whole.specs.Plain.{items_of}
use Rattle.cc_whole_limits.specs.Frames.{greatest_frame}
use Rattle.cc_whole_limits.specs.Nodes.{nodes_of}
use Rattle.cc_whole_limits.specs.Sums.{capped}
use Rattle.cc_whole_limits.specs.StartLimit.{allows, may_start}
use Rattle.cc_whole_limits.proofs.FrameLaws as frames
use Rattle.cc_whole_limits.proofs.LimitLaws.{allows-capped}
use Rattle.cc_whole_limits.proofs.NodeLaws as nodes
use Rattle.cc_whole_limits.proofs.limit.may_start.Goals as goal

pub returns : goal.returns
returns c =
    let items = items_of c.as_slice-items.result.now in
    c.allows.ensures ∙ ap (λ n. allows n c.greatest_frame.result c.args.depth) (c.nodes.ensures ∙ nodes.items-capped items)
    ∙ ap (λ f. allows (capped (nodes_of items)) f c.args.depth) (c.greatest_frame.ensures ∙ frames.items-capped items)
    ∙ allows-capped (nodes_of items) (greatest_frame items) c.args.depth ∙ ap (λ l. may_start (items_of l) c.args.depth) c.as_slice-items.ensures
