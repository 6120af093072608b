-- What the run of a file's core leaves on its input and its output.
use Rattle.std.specs.Prelude.{◌≡◌, ℕ, [], ◌∷◌, Result, Ok, Err}
use Rattle.cf_core.specs.FromUnit.{Unit, tables_of, units_mean}
use Rattle.cf_run_tree.specs.declared.program.Program.{Program}
use Rattle.cf_core_load.specs.declared.fault.LoadFault.{LoadFault}
use Rattle.cf_core_load.specs.Files.{program_of}
use Rattle.cf_core_load.specs.Loads.{Loads}
use Rattle.cf_core_run.specs.declared.state.Limits.{Limits}
use Rattle.cf_core_drive.specs.declared.types.Driven.{Driven}
use Rattle.cf_core_drive.specs.declared.types.Fault.{Fault}
use Rattle.cf_core_drive.specs.Run.{Streams, Meaning, Ahead, LeavesBy, ahead_of}
use Rattle.cf_core_go.specs.declared.fault.UnitFault.{UnitFault}
use Rattle.cf_core_go.specs.declared.fault.UnitFault.TheVariants as fault

-- what a file means alone within these limits, for an input
abbrev pub file_means : Unit → Limits → ℕ → Meaning
file_means unit limits heap input = units_mean (unit ∷ []) input heap limits.depth limits.ticks

-- what lies ahead of a state of the run of a file's trees
abbrev pub ahead_in : Unit → Program → Limits → ℕ → Ahead
ahead_in unit p limits heap = ahead_of (tables_of unit) p (record { heap = heap; bound = limits.ticks; depth = limits.depth })

-- the file's trees were run, and what is left is what the file means
pub record RanTo (unit : Unit) (limits : Limits) (heap : ℕ) (old new : Streams) (result : Result Driven Fault) : Type 0 where
  pub program : Program
  pub loaded : program_of unit ≡ Ok program
  pub leaves : LeavesBy (ahead_in unit program limits heap) (file_means unit limits heap) old new result

-- the file's core gives no program, and nothing was done
pub record NotRun (unit : Unit) (old new : Streams) (result : Result Program LoadFault) : Type 0 where
  pub loads : Loads unit result
  pub same : new ≡ old

abbrev pub Runs : Unit → Limits → ℕ → Streams → Streams → Result Driven UnitFault → Type 0
Runs unit limits heap old new (Ok driven) = RanTo unit limits heap old new (Ok driven)
Runs unit limits heap old new (Err (fault.Run f)) = RanTo unit limits heap old new (Err f)
Runs unit limits heap old new (Err (fault.Load f)) = NotRun unit old new (Err f)
