-- Programs with classes: construction, dispatch, conversions, temporaries, pointers to members; and what each run shows.
use Rattle.std.proofs.Common.{◌≡◌, ℕ, List, [], ◌∷◌, refl}
use Rattle.std.specs.Prelude.{pos, Some, None, codes}
use Rattle.cf_base.specs.declared.kind.Kind.TheVariants.{Int}
use Rattle.cf_base.specs.declared.arith.Arith.TheVariants as op
use Rattle.cf_base.specs.Event.{Ended}
use Rattle.cf_core.specs.declared.operators.PointerOperator.TheVariants as ptr
use Rattle.cf_core.specs.Types.{SourceType, void, class, pointer, reference, const, data_member, function_member}
use Rattle.cf_core.specs.Classes.{Class}
use Rattle.cf_core.specs.Subobjects.{base, virtual}
use Rattle.cf_core.specs.Core.{Core, within, direct, dispatched, local_temporary, none, given, no_parts, part, Function, this, local, member, read, address, dereference, convert, up, to_member, data_pointer, function_pointer, through, operate, pointer_operate, conditional, comma, temporary, virtual_call, pointer_call, copy, bind, blank, full, declare}
use Rattle.cf_core.specs.Calls.{Program}
use Rattle.cf_core.proofs.Sample.{int, function_type, function_of, listed, in_block, main_of, program, returns, num, add, put_code, put_digit, value_of, set, called, built, referred, base_of, virtual_base_of, plain_class, built_class, virtual_function, nonvirtual_function, constructor_of, destructor_of, method_of, run}

-- struct T{int v;T(int a){v=a;putchar('c');putchar('0'+a);}~T(){putchar('d');putchar('0'+v);}};
abbrev T : SourceType
T = class (codes "1T")

abbrev loud : List Class
loud = built_class (codes "1T") [] (int ∷ []) (nonvirtual_function (codes "__dt__Fv") (codes "__dt__1TFv") ∷ []) (Some (codes "__dt__1TFv")) ∷ []

abbrev loud_functions : List Function
loud_functions =
    constructor_of (codes "1T") (codes "__ct__1TFi") (int ∷ []) no_parts
    (set (member this 0) (value_of 0) ∷ put_code 99 ∷ put_digit (value_of 0) ∷ [])
    ∷ destructor_of (codes "1T") (codes "__dt__1TFv") (put_code 100 ∷ put_digit (read (member this 0)) ∷ []) ∷ []

abbrev made : ℕ → Core
made n = built (codes "__ct__1TFi") (int ∷ []) (num n ∷ [])

-- T(1),T(2);putchar('|');return 0;
temporaries_end_with_their_expression :
    run (program loud (main_of (full (comma (listed (temporary T (made 1) ∷ temporary T (made 2) ∷ []))) ∷ put_code 124 ∷ returns (num 0) ∷ []) ∷ loud_functions) []) 20
    ≡ Some (record { end = Ended (pos 0); out = codes "c1c2d2d1|" })
temporaries_end_with_their_expression = refl

-- const T&r=T(1);putchar('|');return 0;
temporary_lives_as_its_reference :
    run (program loud (main_of (declare 0 (reference (const T)) (bind (local_temporary 1 (const T)) (made 1)) ∷ put_code 124 ∷ returns (num 0) ∷ []) ∷ loud_functions) []) 20
    ≡ Some (record { end = Ended (pos 0); out = codes "c1|d1" })
temporary_lives_as_its_reference = refl

-- int c=0;int x=c?T(1).v:T(2).v;return x;
only_the_taken_branch_makes_its_temporary :
    run (program loud (main_of (declare 0 int (num 0)
    ∷ declare 1 int (conditional (value_of 0) (read (member (temporary T (made 1)) 0)) (read (member (temporary T (made 2)) 0)))
    ∷ returns (value_of 1) ∷ []) ∷ loud_functions) []) 20
    ≡ Some (record { end = Ended (pos 2); out = codes "c2d2" })
only_the_taken_branch_makes_its_temporary = refl

-- struct A{int a;};struct B{int b;};struct C:A,B{};int main(){C*c=0;B*b=c;return b==0;}
null_stays_null :
    run (program (plain_class (codes "1A") [] (int ∷ []) ∷ plain_class (codes "1B") [] (int ∷ []) ∷ plain_class (codes "1C") (base_of (codes "1A") ∷ base_of (codes "1B") ∷ []) [] ∷ [])
    (main_of (declare 0 (pointer (class (codes "1C"))) (convert (pointer (class (codes "1C"))) (num 0))
    ∷ declare 1 (pointer (class (codes "1B"))) (up (base 1 ∷ []) (value_of 0))
    ∷ returns (pointer_operate ptr.Equal (value_of 1) (convert (pointer (class (codes "1B"))) (num 0))) ∷ []) ∷ []) []) 10
    ≡ Some (record { end = Ended (pos 1); out = [] })
null_stays_null = refl

-- struct V{int v;V(int a){v=a;}virtual void f(){putchar('V');}};
-- struct A:virtual V{A():V(1){}void f(){putchar('A');}};struct B:virtual V{B():V(2){f();}};struct D:A,B{D():V(3){f();}};
-- int main(){D d;V&r=d;r.f();putchar('0'+d.v);return 0;}
abbrev f_of : Core → Core
f_of object = virtual_call (codes "f__Fv") (function_type [] void) object none

abbrev diamond : List Class
diamond =
    built_class (codes "1V") [] (int ∷ []) (virtual_function (codes "f__Fv") (codes "f__1VFv") ∷ []) None
    ∷ built_class (codes "1A") (virtual_base_of (codes "1V") ∷ []) [] (virtual_function (codes "f__Fv") (codes "f__1AFv") ∷ []) None
    ∷ built_class (codes "1B") (virtual_base_of (codes "1V") ∷ []) [] [] None
    ∷ built_class (codes "1D") (base_of (codes "1A") ∷ base_of (codes "1B") ∷ []) [] [] None ∷ []

abbrev V_by : ℕ → Core
V_by n = built (codes "__ct__1VFi") (int ∷ []) (num n ∷ [])

abbrev pub dispatch_during_construction : Program
dispatch_during_construction = program diamond
    (constructor_of (codes "1V") (codes "__ct__1VFi") (int ∷ []) no_parts (set (member this 0) (value_of 0) ∷ [])
    ∷ method_of (codes "1V") (codes "f__1VFv") void (put_code 86 ∷ [])
    ∷ constructor_of (codes "1A") (codes "__ct__1AFv") [] (part (within (virtual (codes "1V"))) (V_by 1) no_parts) []
    ∷ method_of (codes "1A") (codes "f__1AFv") void (put_code 65 ∷ [])
    ∷ constructor_of (codes "1B") (codes "__ct__1BFv") [] (part (within (virtual (codes "1V"))) (V_by 2) no_parts)
    (full (f_of (up (virtual (codes "1V") ∷ []) this)) ∷ [])
    ∷ constructor_of (codes "1D") (codes "__ct__1DFv") []
    (part (within (virtual (codes "1V"))) (V_by 3) (part (within (base 0)) (built (codes "__ct__1AFv") [] []) (part (within (base 1)) (built (codes "__ct__1BFv") [] []) no_parts)))
    (full (f_of (up (base 0 ∷ []) this)) ∷ [])
    ∷ main_of (declare 0 (class (codes "1D")) (built (codes "__ct__1DFv") [] [])
    ∷ declare 1 (reference (class (codes "1V"))) (referred (up (virtual (codes "1V") ∷ []) (local 0)))
    ∷ full (f_of (local 1))
    ∷ put_digit (read (member (up (virtual (codes "1V") ∷ []) (local 0)) 0))
    ∷ returns (num 0) ∷ []) ∷ []) []

calls_run_the_part_under_construction : run dispatch_during_construction 30 ≡ Some (record { end = Ended (pos 0); out = codes "VAA3" })
calls_run_the_part_under_construction = refl

-- struct A{virtual int f(){return 1;}int a;};struct B{virtual int g(){return 2;}int b;};struct C:A,B{int c;int g(){return c;}};
-- int main(){C x;x.c=5;B*p=&x;return p->g();}
override_through_second_base :
    run (program
    (built_class (codes "1A") [] (int ∷ []) (virtual_function (codes "f__Fv") (codes "f__1AFv") ∷ []) None
    ∷ built_class (codes "1B") [] (int ∷ []) (virtual_function (codes "g__Fv") (codes "g__1BFv") ∷ []) None
    ∷ built_class (codes "1C") (base_of (codes "1A") ∷ base_of (codes "1B") ∷ []) (int ∷ []) (virtual_function (codes "g__Fv") (codes "g__1CFv") ∷ []) None ∷ [])
    (constructor_of (codes "1A") (codes "__ct__1AFv") [] no_parts []
    ∷ constructor_of (codes "1B") (codes "__ct__1BFv") [] no_parts []
    ∷ constructor_of (codes "1C") (codes "__ct__1CFv") [] (part (within (base 0)) (built (codes "__ct__1AFv") [] []) (part (within (base 1)) (built (codes "__ct__1BFv") [] []) no_parts)) []
    ∷ method_of (codes "1A") (codes "f__1AFv") int (returns (num 1) ∷ [])
    ∷ method_of (codes "1B") (codes "g__1BFv") int (returns (num 2) ∷ [])
    ∷ method_of (codes "1C") (codes "g__1CFv") int (returns (read (member this 0)) ∷ [])
    ∷ main_of (declare 0 (class (codes "1C")) (built (codes "__ct__1CFv") [] [])
    ∷ set (member (local 0) 0) (num 5)
    ∷ declare 1 (pointer (class (codes "1B"))) (up (base 1 ∷ []) (address (local 0)))
    ∷ returns (virtual_call (codes "g__Fv") (function_type [] int) (dereference (value_of 1)) none) ∷ []) ∷ []) []) 20
    ≡ Some (record { end = Ended (pos 5); out = [] })
override_through_second_base = refl

-- struct A{virtual int f(){return 1;}int r;A(){r=f();}};struct B:A{int f(){return 2;}};int main(){B b;return b.r*10+b.f();}
base_constructor_runs_its_own :
    run (program
    (built_class (codes "1A") [] (int ∷ []) (virtual_function (codes "f__Fv") (codes "f__1AFv") ∷ []) None
    ∷ built_class (codes "1B") (base_of (codes "1A") ∷ []) [] (virtual_function (codes "f__Fv") (codes "f__1BFv") ∷ []) None ∷ [])
    (constructor_of (codes "1A") (codes "__ct__1AFv") [] no_parts (set (member this 0) (virtual_call (codes "f__Fv") (function_type [] int) this none) ∷ [])
    ∷ constructor_of (codes "1B") (codes "__ct__1BFv") [] (part (within (base 0)) (built (codes "__ct__1AFv") [] []) no_parts) []
    ∷ method_of (codes "1A") (codes "f__1AFv") int (returns (num 1) ∷ [])
    ∷ method_of (codes "1B") (codes "f__1BFv") int (returns (num 2) ∷ [])
    ∷ main_of (declare 0 (class (codes "1B")) (built (codes "__ct__1BFv") [] [])
    ∷ returns (add (operate op.Multiply Int (read (member (up (base 0 ∷ []) (local 0)) 0)) (num 10)) (virtual_call (codes "f__Fv") (function_type [] int) (local 0) none)) ∷ []) ∷ []) []) 20
    ≡ Some (record { end = Ended (pos 12); out = [] })
base_constructor_runs_its_own = refl

-- struct V{V(){putchar('V');}~V(){putchar('v');}};struct A:virtual V{A(){putchar('A');}};struct B:virtual V{B(){putchar('B');}};
-- struct D:A,B{D(){putchar('D');}};int main(){D d;return 0;}: each class with the generated destructor that it needs
abbrev with_destructor : List Class
with_destructor =
    built_class (codes "1V") [] [] [] (Some (codes "__dt__1VFv"))
    ∷ built_class (codes "1A") (virtual_base_of (codes "1V") ∷ []) [] [] (Some (codes "__dt__1AFv"))
    ∷ built_class (codes "1B") (virtual_base_of (codes "1V") ∷ []) [] [] (Some (codes "__dt__1BFv"))
    ∷ built_class (codes "1D") (base_of (codes "1A") ∷ base_of (codes "1B") ∷ []) [] [] (Some (codes "__dt__1DFv")) ∷ []

shared_base_is_built_once :
    run (program with_destructor
    (constructor_of (codes "1V") (codes "__ct__1VFv") [] no_parts (put_code 86 ∷ [])
    ∷ destructor_of (codes "1V") (codes "__dt__1VFv") (put_code 118 ∷ [])
    ∷ destructor_of (codes "1A") (codes "__dt__1AFv") [] ∷ destructor_of (codes "1B") (codes "__dt__1BFv") [] ∷ destructor_of (codes "1D") (codes "__dt__1DFv") []
    ∷ constructor_of (codes "1A") (codes "__ct__1AFv") [] (part (within (virtual (codes "1V"))) (built (codes "__ct__1VFv") [] []) no_parts) (put_code 65 ∷ [])
    ∷ constructor_of (codes "1B") (codes "__ct__1BFv") [] (part (within (virtual (codes "1V"))) (built (codes "__ct__1VFv") [] []) no_parts) (put_code 66 ∷ [])
    ∷ constructor_of (codes "1D") (codes "__ct__1DFv") []
    (part (within (virtual (codes "1V"))) (built (codes "__ct__1VFv") [] []) (part (within (base 0)) (built (codes "__ct__1AFv") [] []) (part (within (base 1)) (built (codes "__ct__1BFv") [] []) no_parts)))
    (put_code 68 ∷ [])
    ∷ main_of (declare 0 (class (codes "1D")) (built (codes "__ct__1DFv") [] []) ∷ returns (num 0) ∷ []) ∷ []) []) 20
    ≡ Some (record { end = Ended (pos 0); out = codes "VABDv" })
shared_base_is_built_once = refl

-- struct P{int a;int b;};P f(int x){P p;p.a=x;p.b=x+1;return p;}int main(){P q=f(3);return q.a*10+q.b;}
abbrev pair_type : SourceType
pair_type = class (codes "1P")

class_result_is_built_in_place :
    run (program (plain_class (codes "1P") [] (int ∷ int ∷ []) ∷ [])
    (function_of (codes "f__Fi") (int ∷ []) pair_type (in_block (declare 1 pair_type blank ∷ set (member (local 1) 0) (value_of 0) ∷ set (member (local 1) 1) (add (value_of 0) (num 1)) ∷ returns (copy pair_type (local 1) none) ∷ []))
    ∷ main_of (declare 0 pair_type (called (codes "f__Fi") (int ∷ []) pair_type (num 3 ∷ []))
    ∷ returns (add (operate op.Multiply Int (read (member (local 0) 0)) (num 10)) (read (member (local 0) 1))) ∷ []) ∷ []) []) 10
    ≡ Some (record { end = Ended (pos 34); out = [] })
class_result_is_built_in_place = refl

-- struct T{int v;T(int a){v=a;}T(const T&t){v=t.v+1;putchar('k');}};int f(T t){return t.v;}int main(){T a(1);return f(a);}
by_value_argument_is_copied :
    run (program (built_class (codes "1T") [] (int ∷ []) [] None ∷ [])
    (constructor_of (codes "1T") (codes "__ct__1TFi") (int ∷ []) no_parts (set (member this 0) (value_of 0) ∷ [])
    ∷ constructor_of (codes "1T") (codes "__ct__1TFRC1T") (reference (const T) ∷ []) no_parts (set (member this 0) (add (read (member (local 0) 0)) (num 1)) ∷ put_code 107 ∷ [])
    ∷ function_of (codes "f__F1T") (T ∷ []) int (in_block (returns (read (member (local 0) 0)) ∷ []))
    ∷ main_of (declare 0 T (made 1)
    ∷ returns (called (codes "f__F1T") (T ∷ []) int (built (codes "__ct__1TFRC1T") (reference (const T) ∷ []) (referred (local 0) ∷ []) ∷ [])) ∷ []) ∷ []) []) 10
    ≡ Some (record { end = Ended (pos 2); out = codes "k" })
by_value_argument_is_copied = refl

-- struct A{int x;virtual int f(){return 1;}};struct B:A{int f(){return x;}};
-- int main(){B b;b.x=9;int (A::*p)()=&A::f;int A::*q=&A::x;return (b.*p)()+b.*q;}
abbrev A_function : SourceType
A_function = function_member (codes "1A") (function_type [] int)

pointer_to_virtual_member :
    run (program
    (built_class (codes "1A") [] (int ∷ []) (virtual_function (codes "f__Fv") (codes "f__1AFv") ∷ []) None
    ∷ built_class (codes "1B") (base_of (codes "1A") ∷ []) [] (virtual_function (codes "f__Fv") (codes "f__1BFv") ∷ []) None ∷ [])
    (constructor_of (codes "1A") (codes "__ct__1AFv") [] no_parts []
    ∷ constructor_of (codes "1B") (codes "__ct__1BFv") [] (part (within (base 0)) (built (codes "__ct__1AFv") [] []) no_parts) []
    ∷ method_of (codes "1A") (codes "f__1AFv") int (returns (num 1) ∷ [])
    ∷ method_of (codes "1B") (codes "f__1BFv") int (returns (read (member (up (base 0 ∷ []) this) 0)) ∷ [])
    ∷ main_of (declare 0 (class (codes "1B")) (built (codes "__ct__1BFv") [] [])
    ∷ set (member (up (base 0 ∷ []) (local 0)) 0) (num 9)
    ∷ declare 1 A_function (function_pointer (dispatched (codes "f__Fv")))
    ∷ declare 2 (data_member (codes "1A") int) (data_pointer 0)
    ∷ returns (add (pointer_call (given (up (base 0 ∷ []) (local 0))) (value_of 1) (function_type [] int) none)
    (read (through (up (base 0 ∷ []) (local 0)) (value_of 2)))) ∷ []) ∷ []) []) 20
    ≡ Some (record { end = Ended (pos 18); out = [] })
pointer_to_virtual_member = refl

-- struct A{int a;int f(){return a;}};struct B{int b;int g(){return b;}};struct C:A,B{};
-- int main(){C c;c.a=1;c.b=2;int (B::*p)()=&B::g;int (C::*q)()=p;int B::*m=&B::b;int C::*n=m;return (c.*q)()*10+c.*n;}
pointers_to_members_of_a_base :
    run (program
    (plain_class (codes "1A") [] (int ∷ []) ∷ plain_class (codes "1B") [] (int ∷ []) ∷ plain_class (codes "1C") (base_of (codes "1A") ∷ base_of (codes "1B") ∷ []) [] ∷ [])
    (method_of (codes "1B") (codes "g__1BFv") int (returns (read (member this 0)) ∷ [])
    ∷ main_of (declare 0 (class (codes "1C")) blank
    ∷ set (member (up (base 0 ∷ []) (local 0)) 0) (num 1) ∷ set (member (up (base 1 ∷ []) (local 0)) 0) (num 2)
    ∷ declare 1 (function_member (codes "1B") (function_type [] int)) (function_pointer (direct (codes "g__1BFv")))
    ∷ declare 2 (function_member (codes "1C") (function_type [] int)) (to_member (base 1 ∷ []) (value_of 1))
    ∷ declare 3 (data_member (codes "1B") int) (data_pointer 0)
    ∷ declare 4 (data_member (codes "1C") int) (to_member (base 1 ∷ []) (value_of 3))
    ∷ returns (add (operate op.Multiply Int (pointer_call (given (local 0)) (value_of 2) (function_type [] int) none) (num 10)) (read (through (local 0) (value_of 4)))) ∷ []) ∷ []) []) 20
    ≡ Some (record { end = Ended (pos 22); out = [] })
pointers_to_members_of_a_base = refl

-- struct A{int x;};struct C:A{};int main(){int A::*m=0;int C::*n=m;return n==0;}
null_pointer_to_member :
    run (program (plain_class (codes "1A") [] (int ∷ []) ∷ plain_class (codes "1C") (base_of (codes "1A") ∷ []) [] ∷ [])
    (main_of (declare 0 (data_member (codes "1A") int) (convert (data_member (codes "1A") int) (num 0))
    ∷ declare 1 (data_member (codes "1C") int) (to_member (base 0 ∷ []) (value_of 0))
    ∷ returns (pointer_operate ptr.Equal (value_of 1) (convert (data_member (codes "1C") int) (num 0))) ∷ []) ∷ []) []) 10
    ≡ Some (record { end = Ended (pos 1); out = [] })
null_pointer_to_member = refl
