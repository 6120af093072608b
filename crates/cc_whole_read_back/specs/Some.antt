-- That a text has an answer.
use Rattle.std.specs.Prelude.{◌≡◌, ℕ, false, List, Result}
use Rattle.cc_whole.specs.declared.unit.CUnit.{CUnit}
use Rattle.cc_whole_read.specs.declared.error.ReadErr.{ReadErr}
use Rattle.cc_whole_read.specs.Read.{IsRead}
use Rattle.cc_whole_read_back.specs.Memory.{is_memory}

-- an answer of reading that is no want of memory
pub record HasAnswer (text : List ℕ) : Type 0 where
  pub answer : Result CUnit ReadErr
  pub is : IsRead text answer
  pub told : is_memory answer ≡ false
