use Rattle.std.proofs.Common.{◌≡◌, drop}
use Rattle.cc_whole_read.specs.Landmarks.{landmark_from}
use Rattle.cc_whole_read.proofs.landmarks.landmark_at.Given as goal

-- the tokens behind decide
abbrev pub invariant-loop-index : goal.invariant-loop-index
invariant-loop-index l = landmark_from (drop l.index l.tokens) l.index l.left ≡ landmark_from l.tokens 0 l.number
