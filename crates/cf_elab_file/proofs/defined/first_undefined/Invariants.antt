use Rattle.std.proofs.Common.{◌≡◌, drop}
use Rattle.cf_elab.specs.File.{first_undefined}
use Rattle.cf_elab_file.proofs.defined.first_undefined.Given as goal

abbrev pub invariant-loop-entry : goal.invariant-loop-entry
invariant-loop-entry l = first_undefined (drop l.entry-index l.entries) ≡ first_undefined l.entries
