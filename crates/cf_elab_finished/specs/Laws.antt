-- What the core of a file is, whatever its end.
use Rattle.std.specs.Prelude.{◌≡◌, Option, Some}
use Rattle.cf_unit.specs.declared.file.Unit.{Unit as FileTree}
use Rattle.cf_core.specs.FromUnit.{Unit as CoreUnit}
use Rattle.cf_elab.specs.Built.{first_of_file}
use Rattle.cf_elab.specs.File.{Core}
use Rattle.cf_elab_finished.specs.Finished.{Ended}

-- one answer alone
abbrev pub OneCore : Type 0
OneCore = (u : FileTree) (a b : Option CoreUnit) → Ended u a → Ended u b → a ≡ b

-- a core is that of `First`
abbrev pub CoreOfFirst : Type 0
CoreOfFirst = (u : FileTree) (core : CoreUnit) → Ended u (Some core) → first_of_file u ≡ Core core
