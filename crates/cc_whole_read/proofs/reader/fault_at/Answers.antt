use Rattle.std.proofs.Common.{sym, ◌∙◌}
use Rattle.cc_whole_read.proofs.Answering.{fault_found, landmark_there}
use Rattle.cc_whole_read.proofs.reader.fault_at.Goals as goal

pub unreachable-requires : goal.unreachable-requires
unreachable-requires c =
    landmark_there c.args.front.now c.args.fault c.as_slice.result.now c.as_slice.ensures.value (sym c.landmark_at.ensures ∙ c.in-None.is) c.requires

pub returns : goal.returns
returns c =
    fault_found c.args.front.now c.args.fault c.as_slice.result.now c.as_slice.ensures.value c.in-Some.index c.place_of.result (sym c.landmark_at.ensures ∙ c.in-Some.is) c.place_of.ensures
