-- The plain statements that change no object but the function's own and what pointers lead to: those without classes and the free store.
use Rattle.std.specs.Prelude.{Bool, true, false, ◌&&◌, List, None}
use Rattle.std.specs.List.{list_all}
use Rattle.cf_core.specs.Core.{Role, plain_function}
use Rattle.cf_plain.specs.Plain.{Action, number, text, local, static_object, function, read, dereference, decay, index, convert, from_void, operate, unary, truth, logical_not, pointer_operate, changed, store, declare, first, zeros, bytes, finish, call, pointer_call, Plain, Plains, act, set, branch, loop, switch, parts, nothing, more, PlainFunction}

abbrev pub is_simple : Action → Bool
is_simple (number z) = true
is_simple (text j b) = true
is_simple (local i) = true
is_simple (static_object name t) = true
is_simple (function name t) = true
is_simple (read r) = true
is_simple (dereference r) = true
is_simple (decay r) = true
is_simple (index r q) = true
is_simple (convert t r) = true
is_simple (from_void t r) = true
is_simple (operate op k r q) = true
is_simple (unary op k r) = true
is_simple (truth r) = true
is_simple (logical_not r) = true
is_simple (pointer_operate op r q) = true
is_simple (changed change r q) = true
is_simple (store r q) = true
is_simple (declare i t) = true
is_simple (first r q) = true
is_simple (zeros r) = true
is_simple (bytes r b) = true
is_simple (finish t i) = true
is_simple (call name t None is None) = true
is_simple (pointer_call None r t is None) = true
is_simple a = false

abbrev mutual
  pub simple : Plain → Bool
  simple (act a) = is_simple a
  simple (set r a) = is_simple a
  simple (branch r ss ts) = all_simple ss && all_simple ts
  simple (loop ss ts) = all_simple ss && all_simple ts
  simple (switch r ss) = all_simple ss
  simple (parts ps) = false
  simple s = true

  pub all_simple : Plains → Bool
  all_simple nothing = true
  all_simple (more s ss) = simple s && all_simple ss

abbrev pub is_plain : Role → Bool
is_plain plain_function = true
is_plain role = false

abbrev pub function_simple : PlainFunction → Bool
function_simple f = is_plain f.role && all_simple f.body

abbrev pub functions_simple : List PlainFunction → Bool
functions_simple fs = list_all function_simple fs
