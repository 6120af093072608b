-- Programs over integers, enumerations, pointers, arrays and references, and what each run shows.
use Rattle.std.proofs.Common.{◌≡◌, [], ◌∷◌, refl}
use Rattle.std.specs.Prelude.{pos, Some, true, codes}
use Rattle.cf_base.specs.declared.kind.Kind.TheVariants.{Int, UInt, Long, ULong}
use Rattle.cf_base.specs.declared.arith.Arith.TheVariants as op
use Rattle.cf_base.specs.Event.{Enter, Ended, Ticks, Depth, Undefined}
use Rattle.cf_core.specs.declared.operators.UnaryOperator.TheVariants as sign
use Rattle.cf_core.specs.declared.operators.PointerOperator.TheVariants as ptr
use Rattle.cf_core.specs.declared.operators.LoopForm.TheVariants as form
use Rattle.cf_core.specs.Types.{void, integer, enumeration, pointer, reference, array, const}
use Rattle.cf_core.specs.Core.{absent, given, local, read, operate, unary, convert, full, declare, blank, update, step, arithmetic, loop, store, switch, case_label, default_label, leave, static_object, decay, dereference, pointer_operate, temporary}
use Rattle.cf_core.specs.Calls.{Program}
use Rattle.cf_core.specs.Program.{Mean}
use Rattle.cf_core.proofs.Sample.{int, function_of, listed, in_block, main_of, program, static_of, returns, num, add, put, put_code, put_digit, value_of, set, called, referred, shown_of, run}

-- int main(){return 7;}
abbrev pub seven : Program
seven = program [] (main_of (returns (num 7) ∷ []) ∷ []) []

returns_seven : Mean seven [] 0 1 1 ≡ Some (record { end = Ended (pos 7); trace = Enter (codes "__main") ∷ [] })
returns_seven = refl

no_tick_for_main : Mean seven [] 0 1 0 ≡ Some (record { end = Ticks; trace = [] })
no_tick_for_main = refl

-- int main(){}
flow_off_main : run (program [] (main_of [] ∷ []) []) 1 ≡ Some (record { end = Ended (pos 0); out = [] })
flow_off_main = refl

-- int main(){for(;;);}
endless_loop : run (program [] (main_of (loop form.For absent absent (full blank) ∷ []) ∷ []) []) 5 ≡ Some (record { end = Ticks; out = [] })
endless_loop = refl

-- int f(){return f();}int main(){return f();}
abbrev pub deep : Program
deep = program []
    (function_of (codes "f__Fv") [] int (in_block (returns (called (codes "f__Fv") [] int []) ∷ []))
    ∷ main_of (returns (called (codes "f__Fv") [] int []) ∷ []) ∷ []) []

too_deep : Mean deep [] 0 3 100 ≡ Some (record { end = Depth; trace = Enter (codes "__main") ∷ Enter (codes "f__Fv") ∷ Enter (codes "f__Fv") ∷ [] })
too_deep = refl

-- int g(int a){putchar('0'+a);return a;}int f(int a,int b){return a+b;}int main(){return f(g(1),g(2));}
abbrev pub arguments_in_order : Program
arguments_in_order = program []
    (function_of (codes "g__Fi") (int ∷ []) int (in_block (put_digit (value_of 0) ∷ returns (value_of 0) ∷ []))
    ∷ function_of (codes "f__Fii") (int ∷ int ∷ []) int (in_block (returns (add (value_of 0) (value_of 1)) ∷ []))
    ∷ main_of (returns (called (codes "f__Fii") (int ∷ int ∷ []) int
    (called (codes "g__Fi") (int ∷ []) int (num 1 ∷ []) ∷ called (codes "g__Fi") (int ∷ []) int (num 2 ∷ []) ∷ [])) ∷ []) ∷ []) []

arguments_left_to_right : run arguments_in_order 10 ≡ Some (record { end = Ended (pos 3); out = codes "12" })
arguments_left_to_right = refl

-- int main(){int a=2147483647;int b=1;putchar('a');a=a+b;putchar('b');return 0;}
overflow_after_output :
    run (program [] (main_of (declare 0 int (num 2147483647) ∷ declare 1 int (num 1) ∷ put_code 97
    ∷ set (local 0) (add (value_of 0) (value_of 1)) ∷ put_code 98 ∷ returns (num 0) ∷ []) ∷ []) []) 10
    ≡ Some (record { end = Undefined 1; out = codes "a" })
overflow_after_output = refl

-- int main(){int c;while((c=getchar())!=-1)putchar(c);return 0;}
abbrev pub echo : Program
echo = program [] (main_of (declare 0 int blank
    ∷ loop form.While (given (operate op.NotEqual Int (read (store (local 0) (called (codes "getchar") [] int []))) (unary sign.Negate Int (num 1)))) absent (put (value_of 0))
    ∷ returns (num 0) ∷ []) ∷ []) []

last_turn_spends_a_tick : shown_of (Mean echo (codes "hi") 0 1 4) ≡ Some (record { end = Ended (pos 0); out = codes "hi" })
last_turn_spends_a_tick = refl

no_tick_for_last_turn : shown_of (Mean echo (codes "hi") 0 1 3) ≡ Some (record { end = Ticks; out = codes "hi" })
no_tick_for_last_turn = refl

-- int main(){unsigned a=0;long b=-1;return (a-1)==b;}
unsigned_long_wins :
    run (program [] (main_of (declare 0 (integer UInt) (convert (integer UInt) (num 0)) ∷ declare 1 (integer Long) (convert (integer Long) (unary sign.Negate Int (num 1)))
    ∷ returns (operate op.Equal ULong
    (convert (integer ULong) (operate op.Subtract UInt (value_of 0) (convert (integer UInt) (num 1))))
    (convert (integer ULong) (value_of 1))) ∷ []) ∷ []) []) 10
    ≡ Some (record { end = Ended (pos 1); out = [] })
unsigned_long_wins = refl

-- enum E{P,Q=5,R};int main(){E e=R;switch(e){case Q:return 1;case R:return 2;}return 3;}
switch_over_enumerators :
    run (program [] (main_of (declare 0 (enumeration (codes "1E")) (num 6)
    ∷ switch (convert int (value_of 0)) (listed (case_label (pos 5) ∷ returns (num 1) ∷ case_label (pos 6) ∷ returns (num 2) ∷ []))
    ∷ returns (num 3) ∷ []) ∷ []) []) 10
    ≡ Some (record { end = Ended (pos 2); out = [] })
switch_over_enumerators = refl

-- int main(){switch(4){int y;case 1:y=1;break;default:y=8;case 2:return y;}return 3;}: the declaration is passed, and the label after falls through
label_passes_declaration :
    run (program [] (main_of (switch (num 4) (listed (declare 0 int blank ∷ case_label (pos 1) ∷ set (local 0) (num 1) ∷ leave
    ∷ default_label ∷ set (local 0) (num 8) ∷ case_label (pos 2) ∷ returns (value_of 0) ∷ []))
    ∷ returns (num 3) ∷ []) ∷ []) []) 10
    ≡ Some (record { end = Ended (pos 8); out = [] })
label_passes_declaration = refl

-- int a[3];int main(){int*p=a;p=p+3;*p=1;return 0;}
end_of_array_is_used :
    run (program [] (main_of (declare 0 (pointer int) (decay (static_object (codes "a") (array int 3)))
    ∷ set (local 0) (pointer_operate ptr.Add (value_of 0) (num 3))
    ∷ set (dereference (value_of 0)) (num 1) ∷ returns (num 0) ∷ []) ∷ []) (static_of (codes "a") (array int 3) ∷ [])) 10
    ≡ Some (record { end = Undefined 6; out = [] })
end_of_array_is_used = refl

-- int f(const int&r){return r;}int main(){int i=4;int&j=i;j=j+1;return f(i)+f(2);}
references_are_other_names :
    run (program [] (function_of (codes "f__FRCi") (reference (const int) ∷ []) int (in_block (returns (value_of 0) ∷ []))
    ∷ main_of (declare 0 int (num 4) ∷ declare 1 (reference int) (referred (local 0)) ∷ set (local 1) (add (value_of 1) (num 1))
    ∷ returns (add (called (codes "f__FRCi") (reference (const int) ∷ []) int (referred (local 0) ∷ []))
    (called (codes "f__FRCi") (reference (const int) ∷ []) int (referred (temporary (const int) (num 2)) ∷ []))) ∷ []) ∷ []) []) 10
    ≡ Some (record { end = Ended (pos 7); out = [] })
references_are_other_names = refl

-- int main(){int x;return x;}
no_value_is_read :
    run (program [] (main_of (declare 0 int blank ∷ returns (value_of 0) ∷ []) ∷ []) []) 10 ≡ Some (record { end = Undefined 7; out = [] })
no_value_is_read = refl

-- int f(){}int main(){f();return f();}: the value is used at the second call
result_is_used :
    run (program [] (function_of (codes "f__Fv") [] int (in_block (put_code 102 ∷ []))
    ∷ main_of (full (called (codes "f__Fv") [] int []) ∷ returns (called (codes "f__Fv") [] int []) ∷ []) ∷ []) []) 10
    ≡ Some (record { end = Undefined 16; out = codes "ff" })
result_is_used = refl

-- void f(){exit(3);}int main(){f();return 0;}
exit_ends_the_run :
    run (program [] (function_of (codes "f__Fv") [] void (in_block (full (called (codes "exit") (int ∷ []) void (num 3 ∷ [])) ∷ put_code 120 ∷ []))
    ∷ main_of (full (called (codes "f__Fv") [] void []) ∷ returns (num 0) ∷ []) ∷ []) []) 10
    ≡ Some (record { end = Ended (pos 3); out = [] })
exit_ends_the_run = refl

-- int main(){int i=0;int s=0;do{s+=i;i++;}while(i<5);return s;} with main and five turns
abbrev pub sum_to_four : Program
sum_to_four = program [] (main_of (declare 0 int (num 0) ∷ declare 1 int (num 0)
    ∷ loop form.Do (given (operate op.Less Int (value_of 0) (num 5))) absent
    (in_block (full (update (local 1) (arithmetic op.Add Int Int) (value_of 0)) ∷ full (step true (arithmetic op.Add Int Int) (local 0)) ∷ []))
    ∷ returns (value_of 1) ∷ []) ∷ []) []

do_loop : run sum_to_four 6 ≡ Some (record { end = Ended (pos 10); out = [] })
do_loop = refl

do_loop_needs_six_ticks : run sum_to_four 5 ≡ Some (record { end = Ticks; out = [] })
do_loop_needs_six_ticks = refl

-- unsigned a=5;return ~a==4294967290;
complement_of_an_unsigned :
    run (program [] (main_of (declare 0 (integer UInt) (convert (integer UInt) (num 5))
    ∷ returns (operate op.Equal UInt (unary sign.Complement UInt (value_of 0)) (num 4294967290)) ∷ []) ∷ []) []) 10
    ≡ Some (record { end = Ended (pos 1); out = [] })
complement_of_an_unsigned = refl
