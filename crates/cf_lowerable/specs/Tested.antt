-- The tests of a core that stand for laws on lowering, and all tests together.
use Rattle.std.specs.Prelude.{◌≡◌, Bool, true, ◌&&◌}
use Rattle.cf_core.specs.Core.{CoreFile}
use Rattle.cf_lowerable_core.specs.Looks.{looks, Looked}
use Rattle.cf_plain.specs.Plain.{PlainFile}
use Rattle.cf_sequence_lowered.specs.Literals.{core_literals_differ}
use Rattle.cf_lowerable.specs.Remaining.{Remaining}

pub record CoreTested (file : CoreFile) : Type 0 where
  pub looked : Looked file
  pub literals : core_literals_differ file ≡ true

abbrev pub core_passes : CoreFile → Bool
core_passes file = looks file && core_literals_differ file

-- of a core and what sequencing makes of it
pub record Tested (core : CoreFile) (made : PlainFile) : Type 0 where
  pub tested : CoreTested core
  pub remaining : Remaining made
