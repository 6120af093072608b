-- Flow of control, conditions and compound assignments: cores and their plain statements show the same.
use Rattle.std.proofs.Common.{◌≡◌, ℕ, List, [], ◌∷◌, refl}
use Rattle.std.specs.List.{list_all}
use Rattle.std.specs.Prelude.{pos, negsuc, ◌++◌, codes, true, false}
use Rattle.cf_base.specs.declared.kind.Kind.TheVariants.{Int, Char}
use Rattle.cf_base.specs.declared.arith.Arith.TheVariants as op
use Rattle.cf_base.specs.Event.{Ended, Ticks, Undefined}
use Rattle.cf_core.specs.declared.operators.LoopForm.TheVariants as form
use Rattle.cf_core.specs.Types.{integer, void, pointer, reference, array, const}
use Rattle.cf_core.specs.Core.{Core, absent, given, local, read, address, dereference, decay, index, operate, logical_and, logical_or, conditional, comma, update, step, store, arithmetic, temporary, bind, local_temporary, list, zeros, string, blank, full, declare, once, branch, loop, switch, case_label, default_label, leave, continue, static_object, new, delete}
use Rattle.cf_core.specs.Calls.{Program}
use Rattle.cf_core.proofs.Sample.{int, function_of, listed, in_block, main_of, program, static_of, returns, num, add, put_code, put_digit, value_of, set, called, referred}
use Rattle.cf_sequence.specs.Built.{is_plainly_built}
use Rattle.cf_sequence.proofs.Sample.{Shows}

abbrev less : Core → Core → Core
less a b = operate op.Less Int a b

-- a digit is put, and the number given
abbrev shown : ℕ → Core
shown n = called (codes "p__Fi") (int ∷ []) int (num n ∷ [])

-- int p(int a){putchar('0'+a);return a;} and a main function
abbrev with_main : List Core → Program
with_main ss = program []
    (function_of (codes "p__Fi") (int ∷ []) int (in_block (put_digit (value_of 0) ∷ returns (value_of 0) ∷ [])) ∷ main_of ss ∷ []) []

-- return p(1)-p(2);
operands_left_to_right : Shows (with_main (returns (operate op.Subtract Int (shown 1) (shown 2)) ∷ [])) [] 9 (record { end = Ended (negsuc 0); out = codes "12" })
operands_left_to_right = record { core = refl; plain = refl }

-- int a[3];a[p(1)]=p(2);return a[1]+p(3);
place_before_value :
    Shows (with_main (declare 0 (array int 3) blank ∷ set (index (decay (local 0)) (shown 1)) (shown 2) ∷ returns (add (read (index (decay (local 0)) (num 1))) (shown 3)) ∷ []))
    [] 9 (record { end = Ended (pos 5); out = codes "123" })
place_before_value = record { core = refl; plain = refl }

-- p(0)&&p(1);p(2)&&p(3);p(4)||p(5);p(0)||p(6);return p(7)?p(8):p(9);
branches :
    Shows (with_main (full (logical_and (shown 0) (shown 1)) ∷ full (logical_and (shown 2) (shown 3)) ∷ full (logical_or (shown 4) (shown 5)) ∷ full (logical_or (shown 0) (shown 6))
    ∷ returns (conditional (shown 7) (shown 8) (shown 9)) ∷ [])) [] 20 (record { end = Ended (pos 8); out = codes "023406" ++ codes "78" })
branches = record { core = refl; plain = refl }

-- int x=1;x+=(x=5,p(2));return x++*10+ ++x;: the value of the left side is read behind the right one
old_value_behind_the_right_side :
    Shows (with_main (declare 0 int (num 1)
    ∷ full (update (local 0) (arithmetic op.Add Int Int) (comma (listed (store (local 0) (num 5) ∷ shown 2 ∷ []))))
    ∷ returns (add (operate op.Multiply Int (step true (arithmetic op.Add Int Int) (local 0)) (num 10)) (read (step false (arithmetic op.Add Int Int) (local 0)))) ∷ []))
    [] 9 (record { end = Ended (pos 79); out = codes "2" })
old_value_behind_the_right_side = record { core = refl; plain = refl }

-- int s=0;for(int i=0;i<5;i++){if(i==2)continue;s+=i;}return s;
abbrev with_continue : Program
with_continue = with_main (declare 0 int (num 0) ∷ declare 1 int (num 0)
    ∷ loop form.For (given (less (value_of 1) (num 5))) (given (step true (arithmetic op.Add Int Int) (local 1)))
    (in_block (branch (operate op.Equal Int (value_of 1) (num 2)) continue absent ∷ full (update (local 0) (arithmetic op.Add Int Int) (value_of 1)) ∷ []))
    ∷ returns (value_of 0) ∷ [])

continue_goes_to_the_step : Shows with_continue [] 7 (record { end = Ended (pos 8); out = [] })
continue_goes_to_the_step = record { core = refl; plain = refl }

each_turn_spends_a_tick : Shows with_continue [] 6 (record { end = Ticks; out = [] })
each_turn_spends_a_tick = record { core = refl; plain = refl }

-- int i=0;do{int k=i;if(k==3)break;i++;}while(p(i)<9);return i;
do_with_break :
    Shows (with_main (declare 0 int (num 0)
    ∷ loop form.Do (given (less (called (codes "p__Fi") (int ∷ []) int (value_of 0 ∷ [])) (num 9))) absent
    (in_block (declare 1 int (value_of 0) ∷ branch (operate op.Equal Int (value_of 1) (num 3)) leave absent ∷ full (step true (arithmetic op.Add Int Int) (local 0)) ∷ []))
    ∷ returns (value_of 0) ∷ [])) [] 20 (record { end = Ended (pos 3); out = codes "123" })
do_with_break = record { core = refl; plain = refl }

-- for(int i=0;i<3;i++){switch(i){case 1:continue;case 2:break;}putchar('0'+i);}return 0;
break_leaves_the_switch_alone :
    Shows (with_main (declare 0 int (num 0)
    ∷ loop form.For (given (less (value_of 0) (num 3))) (given (step true (arithmetic op.Add Int Int) (local 0)))
    (in_block (switch (value_of 0) (listed (case_label (pos 1) ∷ continue ∷ case_label (pos 2) ∷ leave ∷ [])) ∷ put_digit (value_of 0) ∷ []))
    ∷ returns (num 0) ∷ [])) [] 20 (record { end = Ended (pos 0); out = codes "02" })
break_leaves_the_switch_alone = record { core = refl; plain = refl }

-- switch(z){int y;case 1:y=1;break;default:y=8;case 2:return y;}return 3;: the declaration is passed
abbrev passing : ℕ → Program
passing z = with_main (switch (num z) (listed (declare 0 int blank ∷ case_label (pos 1) ∷ set (local 0) (num 1) ∷ leave
    ∷ default_label ∷ set (local 0) (num 8) ∷ case_label (pos 2) ∷ returns (value_of 0) ∷ [])) ∷ returns (num 3) ∷ [])

default_passes_a_declaration : Shows (passing 4) [] 9 (record { end = Ended (pos 8); out = [] })
default_passes_a_declaration = record { core = refl; plain = refl }

label_passes_a_declaration : Shows (passing 1) [] 9 (record { end = Ended (pos 3); out = [] })
label_passes_a_declaration = record { core = refl; plain = refl }

passed_local_has_no_value : Shows (passing 2) [] 9 (record { end = Undefined 7; out = [] })
passed_local_has_no_value = record { core = refl; plain = refl }

-- int*q;{int x=1;q=&x;}return *q;: the local has ended with its block
local_ends_with_its_block :
    Shows (with_main (declare 0 (pointer int) blank ∷ in_block (declare 1 int (num 1) ∷ set (local 0) (address (local 1)) ∷ []) ∷ returns (read (dereference (value_of 0))) ∷ []))
    [] 9 (record { end = Undefined 5; out = [] })
local_ends_with_its_block = record { core = refl; plain = refl }

-- int f(){putchar('f');}int main(){return p(1)+(f()+p(2));}: the value is used where it is an operand
missing_value_is_used_at_once :
    Shows (program []
    (function_of (codes "p__Fi") (int ∷ []) int (in_block (put_digit (value_of 0) ∷ returns (value_of 0) ∷ []))
    ∷ function_of (codes "f__Fv") [] int (in_block (put_code 102 ∷ []))
    ∷ main_of (returns (add (shown 1) (add (called (codes "f__Fv") [] int []) (shown 2))) ∷ []) ∷ []) []) [] 9 (record { end = Undefined 16; out = codes "1f" })
missing_value_is_used_at_once = record { core = refl; plain = refl }

-- const int&r=p(4);return r+p(1);: a reference's temporary
abbrev bound : Program
bound = with_main (declare 0 (reference (const int)) (bind (local_temporary 1 (const int)) (shown 4)) ∷ returns (add (value_of 0) (shown 1)) ∷ [])

temporary_of_a_reference : Shows bound [] 9 (record { end = Ended (pos 5); out = codes "41" })
temporary_of_a_reference = record { core = refl; plain = refl }

-- const int*q;{const int&r=p(4);q=&r;putchar('0'+r);}return *q;: the temporary lives as long as its reference, and no longer
abbrev bound_inside : Program
bound_inside = with_main (declare 0 (pointer (const int)) blank
    ∷ in_block (declare 1 (reference (const int)) (bind (local_temporary 2 (const int)) (shown 4)) ∷ set (local 0) (address (local 1)) ∷ put_digit (value_of 1) ∷ [])
    ∷ returns (read (dereference (value_of 0))) ∷ [])

temporary_ends_with_its_reference : Shows bound_inside [] 9 (record { end = Undefined 5; out = codes "44" })
temporary_ends_with_its_reference = record { core = refl; plain = refl }

-- int f(const int&r){return r;}int main(){int i=4;return f(i)+(0?f(5):f(2));}: temporaries of arguments, under a branch too
temporaries_of_arguments :
    Shows (program [] (function_of (codes "f__FRCi") (reference (const int) ∷ []) int (in_block (returns (value_of 0) ∷ []))
    ∷ main_of (declare 0 int (num 4)
    ∷ returns (add (called (codes "f__FRCi") (reference (const int) ∷ []) int (referred (local 0) ∷ []))
    (conditional (num 0) (called (codes "f__FRCi") (reference (const int) ∷ []) int (referred (temporary (const int) (num 5)) ∷ []))
    (called (codes "f__FRCi") (reference (const int) ∷ []) int (referred (temporary (const int) (num 2)) ∷ [])))) ∷ []) ∷ []) []) [] 9
    (record { end = Ended (pos 6); out = [] })
temporaries_of_arguments = record { core = refl; plain = refl }

-- int a[2][2]={{p(1),2},{3}};char s[4]="ab";return a[0][0]+a[1][0]+a[1][1]+s[1];
abbrev listed_arrays : Program
listed_arrays = with_main (declare 0 (array (array int 2) 2) (list (listed (list (listed (shown 1 ∷ num 2 ∷ [])) zeros ∷ list (listed (num 3 ∷ [])) zeros ∷ [])) zeros)
    ∷ declare 1 (array (integer Char) 4) (string (97 ∷ 98 ∷ []))
    ∷ returns (add (add (read (index (decay (index (decay (local 0)) (num 0))) (num 0))) (add (read (index (decay (index (decay (local 0)) (num 1))) (num 0)))
    (read (index (decay (index (decay (local 0)) (num 1))) (num 1)))))
    (read (index (decay (local 1)) (num 1)))) ∷ [])

lists_and_literals : Shows listed_arrays [] 9 (record { end = Ended (pos 102); out = codes "1" })
lists_and_literals = record { core = refl; plain = refl }

-- void f(){exit(3);}int main(){f();return 0;}
exit_ends_the_run :
    Shows (program [] (function_of (codes "f__Fv") [] void (in_block (full (called (codes "exit") (int ∷ []) void (num 3 ∷ [])) ∷ put_code 120 ∷ []))
    ∷ main_of (full (called (codes "f__Fv") [] void []) ∷ returns (num 0) ∷ []) ∷ []) []) [] 9 (record { end = Ended (pos 3); out = [] })
exit_ends_the_run = record { core = refl; plain = refl }

-- int*q=new int(7);int x=*q;delete q;return x;
storage_of_new :
    Shows (with_main (declare 0 (pointer int) (new int (num 7)) ∷ declare 1 int (read (dereference (value_of 0))) ∷ full (delete int (value_of 0)) ∷ returns (value_of 1) ∷ []))
    [] 9 (record { end = Ended (pos 7); out = [] })
storage_of_new = record { core = refl; plain = refl }

-- int main(){int i=0;while(i<2){static int n=p(5);n++;i++;}..}: initialised once
local_static :
    Shows (record (with_main (declare 0 int (num 0)
    ∷ loop form.While (given (less (value_of 0) (num 2))) absent
    (in_block (once (codes "n") (shown 5) ∷ full (step true (arithmetic op.Add Int Int) (static_object (codes "n") int)) ∷ full (step true (arithmetic op.Add Int Int) (local 0)) ∷ []))
    ∷ returns (read (static_object (codes "n") int)) ∷ [])) { statics = static_of (codes "n") int ∷ [] }) [] 20 (record { end = Ended (pos 7); out = codes "5" })
local_static = record { core = refl; plain = refl }

-- Which of these programs are built.
loops_are_built : is_plainly_built with_continue ≡ true
loops_are_built = refl

label_that_passes_a_local_is_built : is_plainly_built (passing 1) ≡ true
label_that_passes_a_local_is_built = refl

temporaries_of_local_references_are_built : list_all is_plainly_built (bound ∷ bound_inside ∷ []) ≡ true
temporaries_of_local_references_are_built = refl

lists_are_built : is_plainly_built listed_arrays ≡ true
lists_are_built = refl
