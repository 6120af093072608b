use Rattle.std.proofs.Common.{◌≡◌, length}
use Rattle.cf_lowerable_places.proofs.Holding.{AreMet}
use Rattle.cf_lowerable_places.proofs.contents.meet_all.Given as goal

abbrev pub invariant-loop-index : goal.invariant-loop-index
invariant-loop-index l = record {
  long : length l.all.items ≡ length l.initial.all.items;
  met : AreMet l.initial.all.items l.other l.index l.all.items;
}
