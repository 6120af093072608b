-- What reading a file gives.
use Rattle.std.specs.Prelude.{ℕ, List, Result, Ok, Err}
use Rattle.cf_core.specs.FromUnit.{Unit as CoreUnit}
use Rattle.cf_first.specs.declared.fault.Fault.{Fault}
use Rattle.cf_first.specs.declared.fault.Fault.TheVariants as fault
use Rattle.cf_first.specs.First.{First, breaks, passes}

-- what the file is, unless memory fails
abbrev pub Reads : List ℕ → Result CoreUnit Fault → Type 0
Reads bytes (Ok core) = First bytes (Ok core)
Reads bytes (Err (fault.Broken b)) = First bytes (Err (breaks b))
Reads bytes (Err (fault.Limit limit)) = First bytes (Err (passes limit))
Reads bytes (Err fault.Memory) = Unit {0}
