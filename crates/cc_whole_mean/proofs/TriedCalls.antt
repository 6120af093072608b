-- The definitions, evaluated on small programs: calls, statements, the library, the end.
use Rattle.std.proofs.Common.{◌≡◌, ℕ, List, [], ◌∷◌, pos, negsuc, Some, None, refl, codes}
use Rattle.cf_base.specs.declared.arith.Arith.TheVariants as op
use Rattle.cf_base.specs.Event.{Enter, In, Out, Ticks, Depth}
use Rattle.cf_base.specs.World.{Outcome}
use Rattle.cc_whole.specs.declared.types.CType.{CType}
use Rattle.cc_whole.specs.declared.types.CType.TheVariants as ty
use Rattle.cc_whole.specs.declared.types.CConstant.TheVariants as constants
use Rattle.cc_whole.specs.declared.unit.CParameter.{CParameter}
use Rattle.cc_whole.specs.Plain.{Expression, Statement, Item, cast, binary, call, leave, next, choose, loop, select, body, in_order, SwitchItems, closed, labelled, otherwise, stated, by_pointer, pointed, named}
use Rattle.cc_whole_mean.specs.Start.{mean_of}
use Rattle.cc_whole_mean.proofs.Small.{int, minus, uint, var, set, star, store, plus, less, same, null, ret, run, get, function, main, outcome_of, of_main, ends, ended, acts, act}

abbrev one : CType → List ℕ → List CParameter
one t name = record { ty = t; name = name } ∷ []

-- `int g(int n) { putchar(n); return n + 1; }`, `int h(char *p) { return 4; }`, `int __ha(void) { return 6; }`, `int e(void) { }`
abbrev helpers : List Item
helpers = function (Some ty.Int) (codes "g") (one ty.Int (codes "n")) [] (run (codes "putchar") (var (codes "n") ∷ []) ∷ ret (plus (var (codes "n")) (int 1)) ∷ [])
    ∷ function (Some ty.Int) (codes "h") (one ty.Pointer (codes "p")) [] (ret (int 4) ∷ [])
    ∷ function (Some ty.Int) (codes "__ha") [] [] (ret (int 6) ∷ [])
    ∷ function (Some ty.Int) (codes "e") [] [] []
    ∷ []

abbrev with : List Statement → Outcome
with all = outcome_of (main all ∷ helpers)

abbrev through : CType → Expression → List Expression → Statement
through t f es = call (Some (named (codes "x"))) (by_pointer (record { result = Some ty.Int; parameters = t ∷ [] }) f) es

a_call : with (get (codes "x") (codes "g") (int 65 ∷ []) ∷ ret (var (codes "x")) ∷ []) ≡ ends (pos 66) (Enter (codes "g") ∷ Out 65 ∷ [])
a_call = refl

through_a_pointer : with (set (codes "f") (var (codes "g")) ∷ through ty.Int (var (codes "f")) (int 65 ∷ []) ∷ ret (var (codes "x")) ∷ [])
    ≡ ends (pos 66) (Enter (codes "g") ∷ Out 65 ∷ [])
through_a_pointer = refl

null_called : with (set (codes "f") (int 0) ∷ through ty.Int (var (codes "f")) (int 1 ∷ []) ∷ []) ≡ act 4
null_called = refl

arguments_before_null : with (set (codes "f") (int 0) ∷ through ty.Int (var (codes "f")) (var (codes "x") ∷ []) ∷ []) ≡ act 7
arguments_before_null = refl

called_before_arguments : with (through ty.Int (var (codes "f")) (binary op.Divide (int 1) (int 0) ∷ []) ∷ []) ≡ act 7
called_before_arguments = refl

place_before_called : with (call (Some (pointed ty.Int (plus (var (codes "a")) (int 99)))) (by_pointer (record { result = Some ty.Int; parameters = [] }) (var (codes "f"))) [] ∷ []) ≡ act 6
place_before_called = refl

another_parameter : with (set (codes "f") (var (codes "h")) ∷ through ty.Int (var (codes "f")) (int 1 ∷ []) ∷ []) ≡ act 9
another_parameter = refl

another_result : with (call None (by_pointer (record { result = None; parameters = [] }) (var (codes "e"))) [] ∷ []) ≡ act 9
another_result = refl

a_library_function_through_a_pointer : with (through ty.Int (var (codes "putchar")) (int 66 ∷ []) ∷ ret (var (codes "x")) ∷ []) ≡ ends (pos 66) (Out 66 ∷ [])
a_library_function_through_a_pointer = refl

pointers_to_functions_are_compared : with (ret (same (var (codes "g")) (var (codes "h"))) ∷ []) ≡ ended 0
pointers_to_functions_are_compared = refl

a_result_that_was_not_returned : with (get (codes "x") (codes "e") [] ∷ []) ≡ acts 11 (Enter (codes "e") ∷ [])
a_result_that_was_not_returned = refl

a_result_that_is_dropped : with (run (codes "e") [] ∷ ret (int 1) ∷ []) ≡ ends (pos 1) (Enter (codes "e") ∷ [])
a_result_that_is_dropped = refl

off_the_end_of_main : of_main [] ≡ act 11
off_the_end_of_main = refl

-- Ticks and depth. `main` takes none, nor does a helper.

no_tick_for_a_helper : mean_of (main (get (codes "x") (codes "__ha") [] ∷ ret (var (codes "x")) ∷ []) ∷ helpers) [] 0 0 0 ≡ ended 6
no_tick_for_a_helper = refl

tick_before_depth : mean_of (main (run (codes "e") [] ∷ []) ∷ helpers) [] 0 0 0 ≡ record { end = Ticks; trace = [] }
tick_before_depth = refl

depth_before_the_event : mean_of (main (run (codes "e") [] ∷ []) ∷ helpers) [] 0 0 1 ≡ record { end = Depth; trace = [] }
depth_before_the_event = refl

depth_comes_back : mean_of (main (run (codes "e") [] ∷ run (codes "e") [] ∷ ret (int 1) ∷ []) ∷ helpers) [] 0 1 2 ≡ ends (pos 1) (Enter (codes "e") ∷ Enter (codes "e") ∷ [])
depth_comes_back = refl

a_tick_each_turn : mean_of (main (loop (body [] (in_order [])) ∷ []) ∷ []) [] 0 1 5 ≡ record { end = Ticks; trace = [] }
a_tick_each_turn = refl

-- `x = 0; for (;;) { x = x + 1; if (x < 3) { continue; } break; }`: three turns
abbrev three_turns : List Statement
three_turns = set (codes "x") (int 0)
    ∷ loop (body [] (in_order (set (codes "x") (plus (var (codes "x")) (int 1)) ∷ choose (less (var (codes "x")) (int 3)) (body [] (in_order (next ∷ []))) (body [] (in_order [])) ∷ leave ∷ [])))
    ∷ ret (var (codes "x")) ∷ []

three_ticks : mean_of (main three_turns ∷ []) [] 0 1 3 ≡ ended 3
three_ticks = refl

two_ticks : mean_of (main three_turns ∷ []) [] 0 1 2 ≡ record { end = Ticks; trace = [] }
two_ticks = refl

-- `switch (e) { case 1: x = 1; break; default: x = 2; case 4294967295u: x = x + 10; }`
abbrev labels : SwitchItems
labels = labelled (constants.Signed (pos 1)) (stated (set (codes "x") (int 1)) (stated leave (otherwise (stated (set (codes "x") (int 2))
    (labelled (constants.Unsigned 4294967295) (stated (set (codes "x") (plus (var (codes "x")) (int 10))) closed))))))

abbrev switched : Expression → Outcome
switched e = of_main (set (codes "x") (int 5) ∷ select e labels ∷ ret (var (codes "x")) ∷ [])

a_case : switched (int 1) ≡ ended 1
a_case = refl

the_default_falls_through : switched (int 7) ≡ ended 12
the_default_falls_through = refl

labels_modulo_2_to_32 : switched (minus 0) ≡ ended 15
labels_modulo_2_to_32 = refl

no_label : of_main (select (int 2) (labelled (constants.Signed (pos 1)) (stated (ret (int 9)) closed)) ∷ ret (int 3) ∷ []) ≡ ended 3
no_label = refl

continue_in_a_switch : mean_of (main (set (codes "x") (int 0) ∷ loop (body [] (in_order (
    choose (same (var (codes "x")) (int 1)) (body [] (in_order (ret (int 7) ∷ []))) (body [] (in_order []))
    ∷ set (codes "x") (int 1) ∷ select (int 1) (labelled (constants.Signed (pos 1)) (stated next closed)) ∷ ret (int 8) ∷ []))) ∷ []) ∷ []) [] 0 1 9 ≡ ended 7
continue_in_a_switch = refl

-- The library. The input is `hi`.

a_byte_is_put_modulo_256 : of_main (get (codes "x") (codes "putchar") (minus 0 ∷ []) ∷ ret (var (codes "x")) ∷ []) ≡ ends (pos 255) (Out 255 ∷ [])
a_byte_is_put_modulo_256 = refl

bytes_are_taken : of_main (run (codes "getchar") [] ∷ run (codes "getchar") [] ∷ get (codes "x") (codes "getchar") [] ∷ ret (var (codes "x")) ∷ [])
    ≡ ends (negsuc 0) (In (Some 104) ∷ In (Some 105) ∷ In None ∷ [])
bytes_are_taken = refl

abbrev leaves : Outcome
leaves = outcome_of (main (run (codes "q") [] ∷ ret (int 1) ∷ []) ∷ function None (codes "q") [] [] (run (codes "exit") (int 3 ∷ []) ∷ []) ∷ [])

exit_ends_every_function : leaves ≡ ends (pos 3) (Enter (codes "q") ∷ [])
exit_ends_every_function = refl

-- `void r(void) { putchar(114); }`, `void s(void) { exit(5); }`, `void __hd(void) { putchar(100); }`, `void u(void) { atexit(r); }`
abbrev at_end : List Statement → Outcome
at_end all = outcome_of (main all
    ∷ function None (codes "r") [] [] (run (codes "putchar") (int 114 ∷ []) ∷ [])
    ∷ function None (codes "s") [] [] (run (codes "exit") (int 5 ∷ []) ∷ [])
    ∷ function None (codes "__hd") [] [] (run (codes "putchar") (int 100 ∷ []) ∷ [])
    ∷ function None (codes "u") [] [] (run (codes "atexit") (var (codes "r") ∷ []) ∷ [])
    ∷ [])

abbrev register : List ℕ → Statement
register f = run (codes "atexit") (var f ∷ [])

registered_gives_0 : at_end (get (codes "x") (codes "atexit") (var (codes "__hd") ∷ []) ∷ ret (var (codes "x")) ∷ []) ≡ ends (pos 0) (Out 100 ∷ [])
registered_gives_0 = refl

newest_first : at_end (register (codes "__hd") ∷ register (codes "r") ∷ ret (int 1) ∷ []) ≡ ends (pos 1) (Enter (codes "r") ∷ Out 114 ∷ Out 100 ∷ [])
newest_first = refl

exit_while_functions_are_called : at_end (register (codes "r") ∷ register (codes "s") ∷ register (codes "__hd") ∷ ret (int 1) ∷ [])
    ≡ ends (pos 5) (Out 100 ∷ Enter (codes "s") ∷ Enter (codes "r") ∷ Out 114 ∷ [])
exit_while_functions_are_called = refl

registered_while_functions_are_called : at_end (register (codes "__hd") ∷ register (codes "u") ∷ run (codes "exit") (int 2 ∷ []) ∷ [])
    ≡ ends (pos 2) (Enter (codes "u") ∷ Enter (codes "r") ∷ Out 114 ∷ Out 100 ∷ [])
registered_while_functions_are_called = refl

null_is_registered : at_end (run (codes "atexit") (cast ty.FunctionPointer (int 0) ∷ []) ∷ ret (int 1) ∷ []) ≡ act 4
null_is_registered = refl

a_function_of_another_type_is_registered : outcome_of (main (run (codes "atexit") (var (codes "g") ∷ []) ∷ ret (int 1) ∷ []) ∷ helpers) ≡ act 9
a_function_of_another_type_is_registered = refl

-- The heap, of 64 bytes.

abbrev allots : ℕ → Statement
allots n = get (codes "p") (codes "malloc") (uint n ∷ [])

abbrev frees : Expression → Statement
frees e = run (codes "free") (e ∷ [])

all_of_the_heap : of_main (allots 64 ∷ ret (same (var (codes "p")) (int 0)) ∷ []) ≡ ended 0
all_of_the_heap = refl

more_than_the_heap : of_main (allots 65 ∷ ret (same (var (codes "p")) (int 0)) ∷ []) ≡ ended 1
more_than_the_heap = refl

eight_bytes_at_least : of_main (allots 0 ∷ allots 57 ∷ ret (same (var (codes "p")) (int 0)) ∷ []) ≡ ended 1
eight_bytes_at_least = refl

freed_bytes_come_back : of_main (allots 64 ∷ frees (var (codes "p")) ∷ allots 64 ∷ store ty.Int (var (codes "p")) (int 3) ∷ ret (star ty.Int (var (codes "p"))) ∷ []) ≡ ended 3
freed_bytes_come_back = refl

null_is_freed : of_main (frees null ∷ ret (int 1) ∷ []) ≡ ended 1
null_is_freed = refl

freed_twice : of_main (allots 8 ∷ frees (var (codes "p")) ∷ frees (var (codes "p")) ∷ []) ≡ act 10
freed_twice = refl

not_the_start : of_main (allots 8 ∷ frees (plus (var (codes "p")) (int 4)) ∷ []) ≡ act 10
not_the_start = refl

a_local_is_freed : of_main (frees (var (codes "a")) ∷ []) ≡ act 10
a_local_is_freed = refl

read_once_freed : of_main (allots 8 ∷ frees (var (codes "p")) ∷ ret (star ty.Int (var (codes "p"))) ∷ []) ≡ act 5
read_once_freed = refl

the_heap_has_no_values : of_main (allots 8 ∷ ret (star ty.Int (var (codes "p"))) ∷ []) ≡ act 7
the_heap_has_no_values = refl
