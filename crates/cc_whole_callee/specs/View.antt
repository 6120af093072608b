-- What was found, as the meaning has it.
use Rattle.std.specs.Prelude.{◌≡◌, ℕ, ◌-◌, List, length, Some, None, Result, Ok, Err, slice_get, map}
use Rattle.std.specs.Borrow.{Bor}
use Rattle.cc_whole.specs.declared.types.CType.{CType}
use Rattle.cc_whole.specs.declared.unit.CParameter.{CParameter}
use Rattle.cc_whole.specs.declared.unit.CFunction.{CFunction}
use Rattle.cc_whole.specs.Plain.{Function, function_of}
use Rattle.cc_whole_memory.specs.declared.act.Act.{Act}
use Rattle.cc_whole_memory.specs.Store.{act_number}
use Rattle.cc_whole_mean.specs.Callee as callee
use Rattle.cc_whole_callee.specs.declared.library.Library.{Library}
use Rattle.cc_whole_callee.specs.declared.library.Library.TheVariants as library
use Rattle.cc_whole_callee.specs.declared.find.Callee.{Callee}
use Rattle.cc_whole_callee.specs.declared.find.Callee.TheVariants as found

abbrev pub library_of : Library → callee.Library
library_of library.Putchar = callee.putchar
library_of library.Getchar = callee.getchar
library_of library.Exit = callee.exit
library_of library.Malloc = callee.malloc
library_of library.Free = callee.free
library_of library.Atexit = callee.atexit

abbrev pub callee_of : Callee → callee.Callee
callee_of (found.Own f) = callee.own (function_of f.now)
callee_of (found.BuiltIn l) = callee.built_in (library_of l)

abbrev pub answer_of : Result Callee Act → Result callee.Callee ℕ
answer_of (Ok c) = Ok (callee_of c)
answer_of (Err a) = Err (act_number a)

-- the function at a place, or how far behind all of them it is
pub record IsBehind (fs : List Function) (index left : ℕ) : Type 0 where
  pub none : slice_get fs index ≡ None
  pub over : left ≡ index - length fs

abbrev pub Finds : List Function → ℕ → Result (Bor CFunction) ℕ → Type 0
Finds fs index (Ok f) = slice_get fs index ≡ Some (function_of f.now)
Finds fs index (Err left) = IsBehind fs index left

abbrev pub types_of : List CParameter → List CType
types_of parameters = map (λ (x : CParameter). x.ty) parameters
