use Rattle.std.proofs.Common.{◌≡◌, drop}
use Rattle.cc_whole_link.specs.Link.{other_version}
use Rattle.cc_whole_linker.proofs.linking.other_version.Given as goal

abbrev pub invariant-loop-unit : goal.invariant-loop-unit
invariant-loop-unit l = other_version l.units ≡ other_version (drop l.unit-index l.units)
