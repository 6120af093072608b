-- What is asked of a file, as it is tested before a text is written.
use Rattle.cf_core.specs.FromUnit.{Unit as CoreUnit, file_of}
use Rattle.cf_lower_program.specs.Lowerable.{Lowerable}
use Rattle.cf_lowerable.specs.Tested.{CoreTested}
use Rattle.cf_one_file.specs.Means.{IsSound}
use Rattle.cf_sequence.specs.Sequenced.{sequenced_file}

-- a core that passes the tests of lowering, and is sound if it has a `main`, so that it has a meaning then
pub record CoreFits (core : CoreUnit) : Type 0 where
  pub tested : CoreTested (file_of core)
  pub sound : IsSound core

-- The core fits, and what sequencing makes of it is of the files that the laws of lowering are about.
pub record Lowers (core : CoreUnit) : Type 0 where
  pub fits : CoreFits core
  pub lowerable : Lowerable (sequenced_file (file_of core))
