-- Cores of files that are built so far.
use Rattle.std.specs.Prelude.{◌≡◌, true, List, [], ◌∷◌}
use Rattle.cf_core.specs.FromUnit.{Unit as CoreUnit, IsValid, file_of}
use Rattle.cf_sequence.specs.Built.{is_built_file}

-- a valid core of built functions
pub record IsBuilt (unit : CoreUnit) : Type 0 where
  pub valid : IsValid unit
  pub built : is_built_file (file_of unit) ≡ true

abbrev pub AreBuilt : List CoreUnit → Type 0
AreBuilt [] = Unit {0}
AreBuilt (u ∷ us) = IsBuilt u × AreBuilt us
