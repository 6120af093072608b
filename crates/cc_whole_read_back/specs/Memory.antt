-- The answer that tells nothing of a text.
use Rattle.std.specs.Prelude.{Bool, true, false, Result, Ok, Err}
use Rattle.cc_whole.specs.declared.unit.CUnit.{CUnit}
use Rattle.cc_whole_read.specs.declared.error.ReadErr.{ReadErr}
use Rattle.cc_whole_read.specs.declared.error.ReadErr.TheVariants as error

-- memory fails
abbrev pub is_memory : Result CUnit ReadErr → Bool
is_memory (Ok unit) = false
is_memory (Err (error.NotC at)) = false
is_memory (Err (error.Invalid rule at)) = false
is_memory (Err (error.Limit l)) = false
is_memory (Err error.Memory) = true
