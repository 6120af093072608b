-- Why a program is not run: it has too many nodes, or its greatest frame, once for each level of depth, takes too much.
use Rattle.std.specs.Prelude.{ℕ, ◌*◌, ◌-◌, ◌^◌, nat_lt, if◌then◌else◌, List, Result, Ok, Err}
use Rattle.cc_whole.specs.Plain.{Item}
use Rattle.cc_whole_limits.specs.declared.limit.StartLimit.{StartLimit}
use Rattle.cc_whole_limits.specs.declared.limit.StartLimit.TheVariants as limit
use Rattle.cc_whole_limits.specs.Frames.{greatest_frame}
use Rattle.cc_whole_limits.specs.Nodes.{nodes_of}
use Rattle.cc_whole_limits.specs.Sums.{capped}

-- the most nodes of a program that is run
abbrev pub most_nodes : ℕ
most_nodes = 2 ^ 32 - 1

-- the most that the greatest frame, times the depth, is
abbrev pub most_frames : ℕ
most_frames = 2 ^ 23

abbrev pub frames_allow : ℕ → Result (Unit {0}) StartLimit
frames_allow product = if nat_lt most_frames product then Err (limit.Frames (capped product)) else Ok tt

-- whether a program of so many nodes and this greatest frame may run
abbrev pub allows : ℕ → ℕ → ℕ → Result (Unit {0}) StartLimit
allows nodes frame depth = if nat_lt most_nodes nodes then Err limit.Nodes else frames_allow (frame * depth)

abbrev pub may_start : List Item → ℕ → Result (Unit {0}) StartLimit
may_start items depth = allows (nodes_of items) (greatest_frame items) depth
