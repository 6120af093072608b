-- What elaboration makes of a whole file is a valid core (3.4, 17).
use Rattle.std.specs.Prelude.{◌≡◌, true, map, None}
use Rattle.cf_types.specs.Table.{IsTable}
use Rattle.cf_unit.specs.declared.file.Unit.{Unit as FileTree}
use Rattle.cf_core.specs.FromUnit.{IsValid}
use Rattle.cf_elab.specs.Answer.{Made}
use Rattle.cf_elab.specs.Built.{not_built}
use Rattle.cf_elab.specs.Env.{Env, Extent}
use Rattle.cf_elab.specs.File.{first_env, item_row, in_turn, core_unit}
use Rattle.cf_elab.specs.Scan.{defined_names}
use Rattle.cf_elab_valid_files.specs.File.Ends.{is_finished}
use Rattle.cf_elab_valid_files.specs.File.Laws.{file_fits, IsFinished}

-- a file of forms that are built
abbrev pub ElaboratedFilesAreValid : Type 0
ElaboratedFilesAreValid =
    (extent : Extent) (u : FileTree) → not_built u ≡ None → file_fits u ≡ true
    → (end : Env) → in_turn (map item_row u.items) (first_env extent (defined_names u)) ≡ Made tt end → IsFinished end → IsValid (core_unit end)

-- where a look at the end finds it well formed
abbrev pub FinishedFilesAreValid : Type 0
FinishedFilesAreValid =
    (extent : Extent) (u : FileTree) → not_built u ≡ None → file_fits u ≡ true
    → (end : Env) → in_turn (map item_row u.items) (first_env extent (defined_names u)) ≡ Made tt end → IsTable end.types → is_finished end ≡ true → IsValid (core_unit end)
