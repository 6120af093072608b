-- The looks and what follows from them, each under a name of its own that does not unfold. `Rattle.cf_elab_finished.proofs.Ends` says what each is.
use Rattle.std.specs.Prelude.{Bool, Option}
use Rattle.cf_unit.specs.declared.file.Unit.{Unit as FileTree}
use Rattle.cf_core.specs.FromUnit.{Unit as CoreUnit}
use Rattle.cf_elab.specs.Env.{Env}
use Rattle.cf_elab_finished.specs.Finished as spec

unfoldable pub looks_right : FileTree → Env → Bool
looks_right = spec.looks_right

unfoldable pub finished : FileTree → Env → Option CoreUnit
finished = spec.finished
