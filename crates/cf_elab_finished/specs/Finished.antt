-- The core of a file whose end is known, and of a file (17).
use Rattle.std.specs.Prelude.{◌≡◌, ◌&&◌, if◌then◌else◌, Bool, Option, None, Some, Result, Ok, Err}
use Rattle.cf_unit.specs.declared.file.Unit.{Unit as FileTree}
use Rattle.cf_core.specs.FromUnit.{Unit as CoreUnit}
use Rattle.cf_elab.specs.Built.{first_of_file}
use Rattle.cf_elab.specs.Env.{Env}
use Rattle.cf_elab.specs.File.{core_unit}
use Rattle.cf_elab_env.specs.declared.stop.Stop.{Stop}
use Rattle.cf_elab_unit.specs.Unit.First.{IsFirst, EndsAs}
use Rattle.cf_elab_valid_files.specs.File.Ends.{is_finished}
use Rattle.cf_elab_valid_files.specs.File.Laws.{file_fits}

-- whether the tree is as those of texts are, and a look at the end finds it well formed: then the core of the end is valid
abbrev pub looks_right : FileTree → Env → Bool
looks_right u end = file_fits u && is_finished end

abbrev pub finished : FileTree → Env → Option CoreUnit
finished u end = if looks_right u end then Some (core_unit end) else None

-- a file that elaboration takes: the core of its end, or none where one of the two looks says no
pub record Ended (u : FileTree) (core : Option CoreUnit) : Type 0 where
  pub end : Env
  pub ends : EndsAs u end
  pub core_is : core ≡ finished u end

-- or the first rule that it breaks, or a limit
abbrev pub IsCore : FileTree → Result (Option CoreUnit) Stop → Type 0
IsCore u (Ok core) = Ended u core
IsCore u (Err stop) = IsFirst (first_of_file u) (Err stop)
