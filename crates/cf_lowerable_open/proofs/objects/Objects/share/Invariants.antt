use Rattle.std.proofs.Common.{◌≡◌, length}
use Rattle.cf_lowerable_open.proofs.Holding.{IsMet}
use Rattle.cf_lowerable_open.proofs.objects.Objects.share.Given as goal

abbrev pub invariant-loop-index : goal.invariant-loop-index
invariant-loop-index l = record {
  long : length l.self.held.items ≡ length l.initial.self.held.items;
  met : IsMet l.initial.self.held.items l.other.held.items l.index l.self.held.items;
}
