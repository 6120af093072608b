use Rattle.std.proofs.Common.{◌≡◌, ◌+◌, drop}
use Rattle.cc_whole_nesting.specs.Nesting.{depth_of}
use Rattle.cc_whole_nesting.proofs.levels.Levels.exceeds.Given as goal

abbrev pub invariant-loop-level : goal.invariant-loop-level
invariant-loop-level l = l.total + depth_of (drop l.level-index l.level-items) ≡ l.self.count + depth_of l.level-items
