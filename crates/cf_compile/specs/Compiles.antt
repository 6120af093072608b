-- What becomes of a file.
use Rattle.std.specs.Prelude.{◌≡◌, ℕ, ◌≤◌, List, Result, Ok, Err}
use Rattle.cf_core.specs.FromUnit.{Unit as CoreUnit}
use Rattle.cf_first.specs.First.{breaks, passes}
use Rattle.cf_compile.specs.Means.{KeepsMeaning}
use Rattle.cf_compile.specs.Takes.{Takes, frame_bound, most_frame}
use Rattle.cf_compile.specs.declared.compiled.Compiled.{Compiled}
use Rattle.cf_compile.specs.declared.fault.Fault.{Fault}
use Rattle.cf_compile.specs.declared.fault.Fault.TheVariants as fault

-- the file is taken with this core, and this is the core's unit with its text; the frames of its functions have this bound
pub record IsCompiled (bytes : List ℕ) (made : Compiled) : Type 0 where
  pub core : CoreUnit
  pub taken : Takes bytes (Ok core)
  pub keeps : KeepsMeaning core made.unit made.text.items
  pub frame : made.frame ≡ frame_bound core
  pub within : made.frame ≤ most_frame

-- unless memory fails
abbrev pub Compiles : List ℕ → Result Compiled Fault → Type 0
Compiles bytes (Ok made) = IsCompiled bytes made
Compiles bytes (Err (fault.Broken b)) = Takes bytes (Err (breaks b))
Compiles bytes (Err (fault.Limit limit)) = Takes bytes (Err (passes limit))
Compiles bytes (Err fault.Memory) = Unit {0}
