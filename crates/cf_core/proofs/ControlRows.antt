-- Flow of control, scopes, lifetimes and copies, and what each run shows.
use Rattle.std.proofs.Common.{◌≡◌, ℕ, List, [], ◌∷◌, ◌++◌, refl}
use Rattle.std.specs.Prelude.{pos, Some, None, true, codes}
use Rattle.cf_base.specs.declared.kind.Kind.TheVariants.{Int, Char}
use Rattle.cf_base.specs.declared.arith.Arith.TheVariants as op
use Rattle.cf_base.specs.Event.{Ended, Ticks, Undefined}
use Rattle.cf_core.specs.declared.operators.LoopForm.TheVariants as form
use Rattle.cf_core.specs.declared.operators.PointerOperator.TheVariants as ptr
use Rattle.cf_core.specs.Types.{SourceType, integer, void, class, pointer, reference, array, const}
use Rattle.cf_core.specs.Classes.{Class}
use Rattle.cf_core.specs.Subobjects.{base, virtual}
use Rattle.cf_core.specs.Core.{Core, field, within, none, absent, given, no_parts, part, Function, text, this, local, member, read, address, dereference, decay, index, up, function, operate, logical_and, logical_or, pointer_operate, update, step, assign, arithmetic, temporary, virtual_call, pointer_call, new, delete, copy, list, zeros, blank, full, declare, once, branch, loop, switch, case_label, leave, continue, static_object}
use Rattle.cf_core.specs.Calls.{Program}
use Rattle.cf_core.proofs.Sample.{int, function_type, function_of, listed, in_block, main_of, program, static_of, returns, num, add, put_code, put_digit, value_of, set, called, built, referred, base_of, virtual_base_of, plain_class, built_class, copying, virtual_function, nonvirtual_function, constructor_of, destructor_of, method_of, run}

abbrev less : Core → Core → Core
less a b = operate op.Less Int a b

abbrev increment : ℕ → Core
increment i = step true (arithmetic op.Add Int Int) (local i)

-- int s=0;for(int i=0;i<5;i++){if(i==2)continue;s+=i;}return s;
continue_goes_to_the_step :
    run (program [] (main_of (declare 0 int (num 0) ∷ declare 1 int (num 0)
    ∷ loop form.For (given (less (value_of 1) (num 5))) (given (increment 1))
    (in_block (branch (operate op.Equal Int (value_of 1) (num 2)) continue absent ∷ full (update (local 0) (arithmetic op.Add Int Int) (value_of 1)) ∷ []))
    ∷ returns (value_of 0) ∷ []) ∷ []) []) 20
    ≡ Some (record { end = Ended (pos 8); out = [] })
continue_goes_to_the_step = refl

-- for(int i=0;i<3;i++){switch(i){case 1:continue;case 2:break;}putchar('0'+i);}return 0;
break_leaves_the_switch_alone :
    run (program [] (main_of (declare 0 int (num 0)
    ∷ loop form.For (given (less (value_of 0) (num 3))) (given (increment 0))
    (in_block (switch (value_of 0) (listed (case_label (pos 1) ∷ continue ∷ case_label (pos 2) ∷ leave ∷ [])) ∷ put_digit (value_of 0) ∷ []))
    ∷ returns (num 0) ∷ []) ∷ []) []) 20
    ≡ Some (record { end = Ended (pos 0); out = codes "02" })
break_leaves_the_switch_alone = refl

-- putchar('a')&&0||putchar('b');return 0;
right_operands_are_skipped :
    run (program [] (main_of (full (logical_or (logical_and (called (codes "putchar") (int ∷ []) int (num 97 ∷ [])) (num 0)) (called (codes "putchar") (int ∷ []) int (num 98 ∷ [])))
    ∷ full (logical_and (num 0) (called (codes "putchar") (int ∷ []) int (num 99 ∷ []))) ∷ returns (num 0) ∷ []) ∷ []) []) 20
    ≡ Some (record { end = Ended (pos 0); out = codes "ab" })
right_operands_are_skipped = refl

-- int x=5;int*p=&x;int**q=&p;**q=7;return x;
pointer_to_a_pointer :
    run (program [] (main_of (declare 0 int (num 5) ∷ declare 1 (pointer int) (address (local 0)) ∷ declare 2 (pointer (pointer int)) (address (local 1))
    ∷ set (dereference (read (dereference (value_of 2)))) (num 7) ∷ returns (value_of 0) ∷ []) ∷ []) []) 20
    ≡ Some (record { end = Ended (pos 7); out = [] })
pointer_to_a_pointer = refl

-- int f(){return 3;}int g(){return 4;}int main(){int(*t[2])()={f,g};return t[1]();}
pointers_to_functions :
    run (program []
    (function_of (codes "f__Fv") [] int (in_block (returns (num 3) ∷ [])) ∷ function_of (codes "g__Fv") [] int (in_block (returns (num 4) ∷ []))
    ∷ main_of (declare 0 (array (pointer (function_type [] int)) 2) (list (listed (function (codes "f__Fv") (function_type [] int) ∷ function (codes "g__Fv") (function_type [] int) ∷ [])) zeros)
    ∷ returns (pointer_call absent (read (index (decay (local 0)) (num 1))) (function_type [] int) none) ∷ []) ∷ []) []) 20
    ≡ Some (record { end = Ended (pos 4); out = [] })
pointers_to_functions = refl

-- const char*f(){return "x";}int main(){const char*p=f();return p==f();}
literal_is_one_object :
    run (program []
    (function_of (codes "f__Fv") [] (pointer (const (integer Char))) (in_block (returns (decay (text 1 (120 ∷ 0 ∷ []))) ∷ []))
    ∷ main_of (declare 0 (pointer (const (integer Char))) (called (codes "f__Fv") [] (pointer (const (integer Char))) [])
    ∷ returns (pointer_operate ptr.Equal (value_of 0) (called (codes "f__Fv") [] (pointer (const (integer Char))) [])) ∷ []) ∷ []) []) 20
    ≡ Some (record { end = Ended (pos 1); out = [] })
literal_is_one_object = refl

-- struct T{int v;T(int a){v=a;putchar('c');putchar('0'+a);}~T(){putchar('d');putchar('0'+v);}};
abbrev T : SourceType
T = class (codes "1T")

abbrev loud : List Class
loud = built_class (codes "1T") [] (int ∷ []) (nonvirtual_function (codes "__dt__Fv") (codes "__dt__1TFv") ∷ []) (Some (codes "__dt__1TFv")) ∷ []

abbrev loud_functions : List Function
loud_functions =
    constructor_of (codes "1T") (codes "__ct__1TFi") (int ∷ []) no_parts
    (set (member this 0) (value_of 0) ∷ put_code 99 ∷ put_digit (value_of 0) ∷ [])
    ∷ destructor_of (codes "1T") (codes "__dt__1TFv") (put_code 100 ∷ put_digit (read (member this 0)) ∷ []) ∷ []

abbrev made : ℕ → Core
made n = built (codes "__ct__1TFi") (int ∷ []) (num n ∷ [])

-- void f(T a,T b){T c(3);}int main(){f(T(1),T(2));putchar('|');return 0;}
parameters_end_after_locals :
    run (program loud
    (function_of (codes "f__F1T1T") (T ∷ T ∷ []) void (in_block (declare 2 T (made 3) ∷ []))
    ∷ main_of (full (called (codes "f__F1T1T") (T ∷ T ∷ []) void (made 1 ∷ made 2 ∷ [])) ∷ put_code 124 ∷ returns (num 0) ∷ []) ∷ loud_functions) []) 20
    ≡ Some (record { end = Ended (pos 0); out = codes "c1c2c3d3d2d1|" })
parameters_end_after_locals = refl

-- int main(){T a(1);return T(2).v;}
return_ends_temporaries_then_locals :
    run (program loud (main_of (declare 0 T (made 1) ∷ returns (read (member (temporary T (made 2)) 0)) ∷ []) ∷ loud_functions) []) 20
    ≡ Some (record { end = Ended (pos 2); out = codes "c1c2d2d1" })
return_ends_temporaries_then_locals = refl

-- int main(){int i=0;while(T(i).v<2){T a(i+5);i++;}return 0;}: a condition's temporaries end before the body
condition_is_a_full_expression :
    run (program loud (main_of (declare 0 int (num 0)
    ∷ loop form.While (given (less (read (member (temporary T (built (codes "__ct__1TFi") (int ∷ []) (value_of 0 ∷ []))) 0)) (num 2))) absent
    (in_block (declare 1 T (built (codes "__ct__1TFi") (int ∷ []) (add (value_of 0) (num 5) ∷ [])) ∷ full (increment 0) ∷ []))
    ∷ returns (num 0) ∷ []) ∷ loud_functions) []) 40
    ≡ Some (record { end = Ended (pos 0); out = codes "c0d0c5d5c1d1c6d6c2d2" })
condition_is_a_full_expression = refl

-- T*p=new T(5);delete p;return p->v;
object_is_used_after_delete :
    run (program loud (main_of (declare 0 (pointer T) (new T (made 5)) ∷ full (delete T (value_of 0)) ∷ returns (read (member (dereference (value_of 0)) 0)) ∷ []) ∷ loud_functions) []) 20
    ≡ Some (record { end = Undefined 5; out = codes "c5d5" })
object_is_used_after_delete = refl

-- struct X{~X(){exit(9);}};T t(1);X x;int main(){return 0;}: the status changes and the rest goes on
exit_while_statics_end :
    run (record (program (built_class (codes "1X") [] [] [] (Some (codes "__dt__1XFv")) ∷ loud)
    (destructor_of (codes "1X") (codes "__dt__1XFv") (full (called (codes "exit") (int ∷ []) void (num 9 ∷ [])) ∷ [])
    ∷ constructor_of (codes "1X") (codes "__ct__1XFv") [] no_parts []
    ∷ main_of (returns (num 0) ∷ []) ∷ loud_functions) (static_of (codes "t") T ∷ static_of (codes "x") (class (codes "1X")) ∷ []))
    { initialisers = function_of (codes "__sti__u1") [] void (in_block (once (codes "t") (made 1) ∷ once (codes "x") (built (codes "__ct__1XFv") [] []) ∷ [])) ∷ [] }) 20
    ≡ Some (record { end = Ended (pos 9); out = codes "c1d1" })
exit_while_statics_end = refl

-- T t(1) is used by an initialiser that runs before its own
static_is_used_unbuilt :
    run (record (program loud (main_of (returns (num 0) ∷ []) ∷ loud_functions) (static_of (codes "x") int ∷ static_of (codes "t") T ∷ []))
    { initialisers = function_of (codes "__sti__u1") [] void (in_block (once (codes "x") (read (member (static_object (codes "t") T) 0)) ∷ once (codes "t") (made 1) ∷ [])) ∷ [] }) 20
    ≡ Some (record { end = Undefined 5; out = [] })
static_is_used_unbuilt = refl

-- struct A{virtual void f(){putchar('A');}~A(){f();}};struct B:A{void f(){putchar('B');}~B(){f();}};int main(){B b;return 0;}
abbrev call_f : Core → Core
call_f object = full (virtual_call (codes "f__Fv") (function_type [] void) object none)

destructors_run_their_own :
    run (program
    (built_class (codes "1A") [] [] (virtual_function (codes "f__Fv") (codes "f__1AFv") ∷ []) (Some (codes "__dt__1AFv"))
    ∷ built_class (codes "1B") (base_of (codes "1A") ∷ []) [] (virtual_function (codes "f__Fv") (codes "f__1BFv") ∷ []) (Some (codes "__dt__1BFv")) ∷ [])
    (constructor_of (codes "1A") (codes "__ct__1AFv") [] no_parts []
    ∷ constructor_of (codes "1B") (codes "__ct__1BFv") [] (part (within (base 0)) (built (codes "__ct__1AFv") [] []) no_parts) []
    ∷ destructor_of (codes "1A") (codes "__dt__1AFv") (call_f this ∷ []) ∷ destructor_of (codes "1B") (codes "__dt__1BFv") (call_f this ∷ [])
    ∷ method_of (codes "1A") (codes "f__1AFv") void (put_code 65 ∷ []) ∷ method_of (codes "1B") (codes "f__1BFv") void (put_code 66 ∷ [])
    ∷ main_of (declare 0 (class (codes "1B")) (built (codes "__ct__1BFv") [] []) ∷ returns (num 0) ∷ []) ∷ []) []) 20
    ≡ Some (record { end = Ended (pos 0); out = codes "BA" })
destructors_run_their_own = refl

-- struct V{int v;};struct A:virtual V{};struct B{B(A*p){V*q=p;}};struct C:B,A{C():B(this){}};C c;
conversion_before_construction :
    run (program
    (plain_class (codes "1V") [] (int ∷ []) ∷ built_class (codes "1A") (virtual_base_of (codes "1V") ∷ []) [] [] None
    ∷ built_class (codes "1B") [] [] [] None ∷ built_class (codes "1C") (base_of (codes "1B") ∷ base_of (codes "1A") ∷ []) [] [] None ∷ [])
    (constructor_of (codes "1A") (codes "__ct__1AFv") [] no_parts []
    ∷ constructor_of (codes "1B") (codes "__ct__1BFP1A") (pointer (class (codes "1A")) ∷ []) no_parts
    (put_code 98 ∷ declare 1 (pointer (class (codes "1V"))) (up (virtual (codes "1V") ∷ []) (value_of 0)) ∷ [])
    ∷ constructor_of (codes "1C") (codes "__ct__1CFv") []
    (part (within (base 0)) (built (codes "__ct__1BFP1A") (pointer (class (codes "1A")) ∷ []) (up (base 1 ∷ []) (address this) ∷ []))
    (part (within (base 1)) (built (codes "__ct__1AFv") [] []) no_parts)) []
    ∷ main_of (declare 0 (class (codes "1C")) (built (codes "__ct__1CFv") [] []) ∷ returns (num 0) ∷ []) ∷ []) []) 20
    ≡ Some (record { end = Undefined 14; out = codes "b" })
conversion_before_construction = refl

-- struct P{int a;int b;};P p;p.a=1;P q=p;: a copy moves what has no value too
abbrev P : SourceType
P = class (codes "1P")

abbrev copied : Core → Program
copied value = program (plain_class (codes "1P") [] (int ∷ int ∷ []) ∷ [])
    (main_of (declare 0 P blank ∷ set (member (local 0) 0) (num 1) ∷ declare 1 P (copy P (local 0) none) ∷ declare 2 P blank ∷ full (assign P (local 2) (local 1) none) ∷ returns value ∷ []) ∷ []) []

copy_moves_values : run (copied (read (member (local 2) 0))) 10 ≡ Some (record { end = Ended (pos 1); out = [] })
copy_moves_values = refl

copy_moves_no_value_too : run (copied (read (member (local 2) 1))) 10 ≡ Some (record { end = Undefined 7; out = [] })
copy_moves_no_value_too = refl

-- struct K{int v;K(int a){v=a;}K(const K&k){v=k.v;putchar('k');}};struct H{K a[2];H():..{}};H h;H j=h;return j.a[1].v;
-- with main, H's constructor, two elements at two ticks each, and the same for H's generated copy
abbrev K : SourceType
K = class (codes "1K")

abbrev pub arrays_in_members : Program
arrays_in_members = program
    (record (built_class (codes "1K") [] (int ∷ []) [] None) { copy = copying (codes "1K") (codes "__ct__1KFRC1K") [] }
    ∷ record (built_class (codes "1H") [] (array K 2 ∷ []) [] None) { copy = copying (codes "1H") (codes "__ct__1HFRC1H") [] } ∷ [])
    (constructor_of (codes "1K") (codes "__ct__1KFi") (int ∷ []) no_parts (set (member this 0) (value_of 0) ∷ [])
    ∷ constructor_of (codes "1K") (codes "__ct__1KFRC1K") (reference (const K) ∷ []) no_parts (set (member this 0) (read (member (local 0) 0)) ∷ put_code 107 ∷ [])
    ∷ constructor_of (codes "1H") (codes "__ct__1HFv") [] (part (field 0) (list (listed (built (codes "__ct__1KFi") (int ∷ []) (num 3 ∷ []) ∷ built (codes "__ct__1KFi") (int ∷ []) (num 4 ∷ []) ∷ [])) blank) no_parts) []
    ∷ constructor_of (codes "1H") (codes "__ct__1HFRC1H") (reference (const (class (codes "1H"))) ∷ []) (part (field 0) (copy (array K 2) (member (local 0) 0) none) no_parts) []
    ∷ main_of (declare 0 (class (codes "1H")) (built (codes "__ct__1HFv") [] []) ∷ declare 1 (class (codes "1H")) (copy (class (codes "1H")) (local 0) none)
    ∷ returns (read (member (index (decay (member (local 1) 0)) (num 1)) 0)) ∷ []) ∷ []) []

elements_are_copied : run arrays_in_members 11 ≡ Some (record { end = Ended (pos 4); out = codes "kk" })
elements_are_copied = refl

each_copied_element_spends_a_tick : run arrays_in_members 10 ≡ Some (record { end = Ticks; out = codes "k" })
each_copied_element_spends_a_tick = refl

-- struct C{const int c;int&r;C(int&x):c(4),r(x){r=c+1;}};int main(){int i=0;C k(i);return i;}
const_and_reference_members :
    run (program (built_class (codes "1C") [] (const int ∷ reference int ∷ []) [] None ∷ [])
    (constructor_of (codes "1C") (codes "__ct__1CFRi") (reference int ∷ []) (part (field 0) (num 4) (part (field 1) (referred (local 0)) no_parts))
    (set (member this 1) (add (read (member this 0)) (num 1)) ∷ [])
    ∷ main_of (declare 0 int (num 0) ∷ declare 1 (class (codes "1C")) (built (codes "__ct__1CFRi") (reference int ∷ []) (referred (local 0) ∷ [])) ∷ returns (value_of 0) ∷ []) ∷ []) []) 10
    ≡ Some (record { end = Ended (pos 5); out = [] })
const_and_reference_members = refl

-- struct T as above but with T(){..} too; struct Q{T t;int x;};int main(){Q q={T(1),2};return q.x+q.t.v;}: a list builds what has a generated constructor
list_builds_an_object :
    run (program (loud ++ built_class (codes "1Q") [] (T ∷ int ∷ []) [] (Some (codes "__dt__1QFv")) ∷ [])
    (destructor_of (codes "1Q") (codes "__dt__1QFv") []
    ∷ main_of (declare 0 (class (codes "1Q")) (list (listed (made 1 ∷ num 2 ∷ [])) zeros)
    ∷ returns (add (read (member (local 0) 1)) (read (member (member (local 0) 0) 0))) ∷ []) ∷ loud_functions) []) 20
    ≡ Some (record { end = Ended (pos 3); out = codes "c1d1" })
list_builds_an_object = refl

-- const Q q={T(1),2}; with T's constructor writing its member: the object is const only once it is built
list_builds_a_const_object :
    run (program (loud ++ built_class (codes "1Q") [] (T ∷ int ∷ []) [] (Some (codes "__dt__1QFv")) ∷ [])
    (destructor_of (codes "1Q") (codes "__dt__1QFv") []
    ∷ main_of (declare 0 (const (class (codes "1Q"))) (list (listed (made 1 ∷ num 2 ∷ [])) zeros)
    ∷ put_digit (read (member (local 0) 1)) ∷ set (member (local 0) 1) (num 3) ∷ returns (num 0) ∷ []) ∷ loud_functions) []) 20
    ≡ Some (record { end = Undefined 15; out = codes "c12" })
list_builds_a_const_object = refl
