-- What the program of a file's trees means is what the file means.
use Rattle.std.proofs.Common.{◌≡◌, ℕ, [], ◌∷◌, ap, subst, Result, Ok}
use Rattle.cf_core.specs.FromUnit.{Unit, tables_of, file_of}
use Rattle.cf_core.specs.Calls as calls
use Rattle.cf_core.specs.Joined.{program_of as joined}
use Rattle.cf_core.specs.Program.{Mean}
use Rattle.cf_run_tree.specs.Tree as tree
use Rattle.cf_run_tree.specs.declared.program.Program.{Program}
use Rattle.cf_core_load.specs.Files.{program_of}
use Rattle.cf_core_run.specs.declared.state.Limits.{Limits}
use Rattle.cf_core_drive.specs.declared.types.Driven.{Driven}
use Rattle.cf_core_drive.specs.declared.types.Fault.{Fault}
use Rattle.cf_core_drive.specs.Run.{Streams, Meaning, LeavesBy, meant}
use Rattle.cf_core_go.specs.Runs.{RanTo, file_means, ahead_in}

pub meant_is : (unit : Unit) (p : Program) (limits : Limits) (heap : ℕ) → tree.program_of (tables_of unit) p ≡ joined (file_of unit ∷ [])
    → meant (tables_of unit) p limits heap ≡ file_means unit limits heap
meant_is unit p limits heap e =
    let within : calls.Program → Meaning = λ P input. Mean P input heap limits.depth limits.ticks in
    ap within e

pub ran_to : (unit : Unit) (p : Program) (limits : Limits) (heap : ℕ) (old new : Streams) (result : Result Driven Fault)
    → program_of unit ≡ Ok p → tree.program_of (tables_of unit) p ≡ joined (file_of unit ∷ [])
    → LeavesBy (ahead_in unit p limits heap) (meant (tables_of unit) p limits heap) old new result → RanTo unit limits heap old new result
ran_to unit p limits heap old new result loaded same leaves = record {
  program = p;
  loaded = loaded;
  leaves = subst (λ m. LeavesBy (ahead_in unit p limits heap) m old new result) (meant_is unit p limits heap same) leaves;
}
