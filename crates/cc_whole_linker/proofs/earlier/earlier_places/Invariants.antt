use Rattle.std.proofs.Common.{◌≡◌, length, take}
use Rattle.cc_whole_linker.specs.Earlier.{Chained, names_of}
use Rattle.cc_whole_linker.specs.Rules.{seen}
use Rattle.cc_whole_linker.proofs.earlier.earlier_places.Given as goal

abbrev pub invariant-loop-placed : goal.invariant-loop-placed
invariant-loop-placed l = record {
  names : l.names ≡ names_of (seen (take l.placed-index l.all));
  chained : Chained (seen (take l.placed-index l.all)) l.earlier.items;
  long : length l.earlier.items ≡ length (seen (take l.placed-index l.all));
}
