-- What is asked of a core so that the laws of lowering are about its plain file, and is not shown yet of each core that elaboration gives.
use Rattle.cf_core.specs.FromUnit.{Unit as CoreUnit, file_of}
use Rattle.cf_sequence.specs.Sequenced.{sequenced_file}
use Rattle.cf_sequence_lowered.specs.Lowers.{CoreLowers, Left}

pub record Covered (core : CoreUnit) : Type 0 where
  pub lowers : CoreLowers (file_of core)
  pub left : Left (sequenced_file (file_of core))
