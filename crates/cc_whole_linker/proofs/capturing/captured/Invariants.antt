use Rattle.std.proofs.Common.{◌≡◌, drop}
use Rattle.std.specs.Prelude.{find}
use Rattle.cc_whole.specs.Known.{is_in}
use Rattle.cc_whole_uses.specs.Told.{told}
use Rattle.cc_whole_linker.proofs.capturing.captured.Given as goal

abbrev pub invariant-loop-name : goal.invariant-loop-name
invariant-loop-name l = find (is_in l.placed.longer_names) (told (drop l.name-index l.name-items)) ≡ find (is_in l.placed.longer_names) (told l.name-items)
