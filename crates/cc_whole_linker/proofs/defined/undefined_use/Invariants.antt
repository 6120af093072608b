use Rattle.std.proofs.Common.{◌≡◌, drop}
use Rattle.std.specs.Prelude.{find}
use Rattle.cc_whole_linker.specs.Rules.{is_undefined}
use Rattle.cc_whole_linker.proofs.defined.undefined_use.Given as goal

abbrev pub invariant-loop-name : goal.invariant-loop-name
invariant-loop-name l = find (is_undefined l.defined) (drop l.name-index l.uses) ≡ find (is_undefined l.defined) l.uses
