-- What a call calls.
use Rattle.std.specs.Prelude.{ℕ, zero, suc, ◌-◌, Bool, true, false, ◌&&◌, ◌==◌, if◌then◌else◌, List, [], ◌∷◌, length, Option, Some, None, Result, Ok, Err, bytes_eq, codes, find, map, slice_get}
use Rattle.cc_whole.specs.declared.types.CType.{CType}
use Rattle.cc_whole.specs.declared.types.CType.TheVariants as ty
use Rattle.cc_whole.specs.declared.unit.CParameter.{CParameter}
use Rattle.cc_whole.specs.Plain.{Function}
use Rattle.cc_whole_memory.specs.Blocks.{null_used}

-- a function called with another type, or one that is not there
abbrev pub wrong_type : ℕ
wrong_type = 9

-- the library functions
pub data Library : Type 0 where
  putchar : Library
  getchar : Library
  exit : Library
  malloc : Library
  free : Library
  atexit : Library

pub data Callee : Type 0 where
  own : Function → Callee
  built_in : Library → Callee

abbrev pub library_named : List ℕ → Option Library
library_named name =
    if bytes_eq name (codes "putchar") then Some putchar
    else (if bytes_eq name (codes "getchar") then Some getchar
    else (if bytes_eq name (codes "exit") then Some exit
    else (if bytes_eq name (codes "malloc") then Some malloc
    else (if bytes_eq name (codes "free") then Some free
    else (if bytes_eq name (codes "atexit") then Some atexit else None)))))

-- in the order of their numbers
abbrev pub library_functions : List Library
library_functions = putchar ∷ getchar ∷ exit ∷ malloc ∷ free ∷ atexit ∷ []

abbrev pub found_function : Option Function → Result Callee ℕ
found_function None = Err wrong_type
found_function (Some f) = Ok (own f)

abbrev pub found_library : Option Library → Result Callee ℕ → Result Callee ℕ
found_library None otherwise = otherwise
found_library (Some l) otherwise = Ok (built_in l)

abbrev pub function_named : List Function → List ℕ → Option Function
function_named fs name = find (λ (f : Function). bytes_eq f.prototype.name name) fs

-- a call by name
abbrev pub callee_named : List Function → List ℕ → Result Callee ℕ
callee_named fs name = found_library (library_named name) (found_function (function_named fs name))

abbrev pub own_or_library : Option Function → Option Library → Result Callee ℕ
own_or_library (Some f) l = Ok (own f)
own_or_library None l = found_library l (Err wrong_type)

-- a call through a pointer: 0 is null, the program's functions have the numbers from 1, and the library functions those behind them
abbrev pub callee_numbered : List Function → ℕ → Result Callee ℕ
callee_numbered fs zero = Err null_used
callee_numbered fs (suc i) = own_or_library (slice_get fs i) (slice_get library_functions (i - length fs))

abbrev pub type_number : CType → ℕ
type_number ty.Char = 0
type_number ty.UChar = 1
type_number ty.Short = 2
type_number ty.UShort = 3
type_number ty.Int = 4
type_number ty.UInt = 5
type_number ty.Pointer = 6
type_number ty.FunctionPointer = 7

abbrev pub same_type : CType → CType → Bool
same_type s t = type_number s == type_number t

abbrev pub same_types : List CType → List CType → Bool
same_types [] [] = true
same_types [] (t ∷ ts) = false
same_types (s ∷ ss) [] = false
same_types (s ∷ ss) (t ∷ ts) = same_type s t && same_types ss ts

abbrev pub same_result : Option CType → Option CType → Bool
same_result None None = true
same_result None (Some t) = false
same_result (Some s) None = false
same_result (Some s) (Some t) = same_type s t

abbrev pub library_result : Library → Option CType
library_result putchar = Some ty.Int
library_result getchar = Some ty.Int
library_result exit = None
library_result malloc = Some ty.Pointer
library_result free = None
library_result atexit = Some ty.Int

abbrev pub library_parameters : Library → List CType
library_parameters putchar = ty.Int ∷ []
library_parameters getchar = []
library_parameters exit = ty.Int ∷ []
library_parameters malloc = ty.UInt ∷ []
library_parameters free = ty.Pointer ∷ []
library_parameters atexit = ty.FunctionPointer ∷ []

abbrev pub result_of : Callee → Option CType
result_of (own f) = f.prototype.result
result_of (built_in l) = library_result l

abbrev pub parameters_of : Callee → List CType
parameters_of (own f) = map (λ (x : CParameter). x.ty) f.prototype.parameters
parameters_of (built_in l) = library_parameters l

-- whether the function has this type
abbrev pub has_type : Option CType → List CType → Callee → Bool
has_type result parameters c = same_result result (result_of c) && same_types parameters (parameters_of c)
