use Rattle.std.proofs.Common.{◌≡◌, length}
use Rattle.cf_lowerable_ready.proofs.Keepings.{IsMet}
use Rattle.cf_lowerable_ready.proofs.contents.Contents.meet.Given as goal

abbrev pub invariant-loop-index : goal.invariant-loop-index
invariant-loop-index l = record {
  long : length l.self.held.items ≡ length l.initial.self.held.items;
  met : IsMet l.tables l.initial.self.held.items l.other.held.items l.index l.self.held.items;
}
