-- Each act that has no meaning, met by a program.
use Rattle.std.proofs.Common.{◌≡◌, ℕ, List, [], ◌∷◌, refl}
use Rattle.std.specs.Prelude.{pos, Option, Some, None, codes}
use Rattle.cf_base.specs.declared.kind.Kind.TheVariants.{Int, Char, UInt}
use Rattle.cf_base.specs.Event.{Ended, Undefined}
use Rattle.cf_core.specs.declared.operators.PointerOperator.TheVariants as ptr
use Rattle.cf_core.specs.declared.operators.UnaryOperator.TheVariants as sign
use Rattle.cf_core.specs.Types.{SourceType, integer, void, class, pointer, array, const, function_member}
use Rattle.cf_core.specs.Classes.{Class}
use Rattle.cf_core.specs.Subobjects.{base}
use Rattle.cf_core.specs.Core.{Core, within, none, absent, given, no_parts, part, direct, Function, text, this, local, member, read, address, decay, index, convert, dereference, up, down, from_void, unary, pointer_operate, call, virtual_call, pointer_call, function_pointer, new, new_array, delete, delete_array, each, blank, full, block, declare, static_object}
use Rattle.cf_core.proofs.Sample.{int, function_type, function_of, listed, in_block, main_of, program, static_of, returns, num, value_of, set, called, built, base_of, plain_class, built_class, virtual_function, nonvirtual_function, pure_function, constructor_of, method_of, Shown, run}

-- the end of a run of these statements as `main`, over these classes and functions
abbrev pub ends_of : List Class → List Function → List Core → Option Shown
ends_of cs fs ss = run (program cs (main_of ss ∷ fs) (static_of (codes "a") (array int 3) ∷ static_of (codes "b") (array int 3) ∷ [])) 40

abbrev pub act : ℕ → Option Shown
act u = Some (record { end = Undefined u; out = [] })

abbrev pub status : ℕ → Option Shown
status z = Some (record { end = Ended (pos z); out = [] })

abbrev pub int_pointer : SourceType
int_pointer = pointer int

abbrev pub array_a : Core
array_a = decay (static_object (codes "a") (array int 3))

abbrev array_b : Core
array_b = decay (static_object (codes "b") (array int 3))

abbrev pub plus : Core → ℕ → Core
plus p n = pointer_operate ptr.Add p (num n)

-- int*p=0;return *p;
null_is_used : ends_of [] [] (declare 0 int_pointer (convert int_pointer (num 0)) ∷ returns (read (dereference (value_of 0))) ∷ []) ≡ act 4
null_is_used = refl

-- int(*p)()=0;return p();
null_is_called : ends_of [] [] (declare 0 (pointer (function_type [] int)) (convert (pointer (function_type [] int)) (num 0)) ∷ returns (pointer_call absent (value_of 0) (function_type [] int) none) ∷ []) ≡ act 4
null_is_called = refl

-- int*p;{int x=1;p=&x;}return *p;
local_has_ended : ends_of [] [] (declare 0 int_pointer blank ∷ block (listed (declare 1 int (num 1) ∷ set (local 0) (address (local 1)) ∷ [])) ∷ returns (read (dereference (value_of 0))) ∷ []) ≡ act 5
local_has_ended = refl

-- int*p=new int;delete p;delete p;
deleted_twice : ends_of [] [] (declare 0 int_pointer (new int blank) ∷ full (delete int (value_of 0)) ∷ full (delete int (value_of 0)) ∷ []) ≡ act 5
deleted_twice = refl

-- int x;delete &x;
local_is_deleted : ends_of [] [] (declare 0 int blank ∷ full (delete int (address (local 0))) ∷ []) ≡ act 5
local_is_deleted = refl

-- a+4; and a-1;
past_the_end : ends_of [] [] (full (plus array_a 4) ∷ []) ≡ act 6
past_the_end = refl

before_the_start : ends_of [] [] (full (pointer_operate ptr.Subtract array_a (num 1)) ∷ []) ≡ act 6
before_the_start = refl

-- int x=7;int*p=&x+1;return *(p-1); and return *p;
lone_object_is_an_array_of_one : ends_of [] [] (declare 0 int (num 7) ∷ declare 1 int_pointer (plus (address (local 0)) 1) ∷ returns (read (dereference (pointer_operate ptr.Subtract (value_of 1) (num 1)))) ∷ []) ≡ status 7
lone_object_is_an_array_of_one = refl

end_of_lone_object_is_used : ends_of [] [] (declare 0 int (num 7) ∷ declare 1 int_pointer (plus (address (local 0)) 1) ∷ returns (read (dereference (value_of 1))) ∷ []) ≡ act 6
end_of_lone_object_is_used = refl

-- (a+2)-a is 2, and a-b has no meaning
difference_in_one_array : ends_of [] [] (returns (pointer_operate ptr.Difference (plus array_a 2) array_a) ∷ []) ≡ status 2
difference_in_one_array = refl

difference_of_two_arrays : ends_of [] [] (full (pointer_operate ptr.Difference array_a array_b) ∷ []) ≡ act 6
difference_of_two_arrays = refl

-- int*p=new int[3];delete[]p;p-p;: the difference is a use of what isn't alive
difference_in_a_dead_array : ends_of [] [] (declare 0 int_pointer (new_array int (num 3) blank) ∷ full (delete_array int (value_of 0)) ∷ full (pointer_operate ptr.Difference (value_of 0) (value_of 0)) ∷ []) ≡ act 5
difference_in_a_dead_array = refl

-- new int[-1]
negative_count : ends_of [] [] (full (new_array int (unary sign.Negate Int (num 1)) blank) ∷ []) ≡ act 6
negative_count = refl

-- struct A{};struct B:A{};A a;B*p=(B*)&a; and B b;A*q=&b;B*r=(B*)q;
abbrev pub two_classes : List Class
two_classes = plain_class (codes "1A") [] (int ∷ []) ∷ plain_class (codes "1B") (base_of (codes "1A") ∷ []) (int ∷ []) ∷ []

no_object_of_the_class : ends_of two_classes [] (declare 0 (class (codes "1A")) blank ∷ full (down (codes "1B") (base 0 ∷ []) (address (local 0))) ∷ []) ≡ act 8
no_object_of_the_class = refl

-- B*p=new B;delete p; and then &p->x, A*q=p, and (p->*f)() of a member function f that is not virtual
abbrev deleted_B : List Core → List Core
deleted_B cs = declare 0 (pointer (class (codes "1B"))) (new (class (codes "1B")) blank) ∷ full (delete (class (codes "1B")) (value_of 0)) ∷ cs

member_of_what_has_ended : ends_of two_classes [] (deleted_B (full (address (member (dereference (value_of 0)) 0)) ∷ [])) ≡ act 5
member_of_what_has_ended = refl

base_of_what_has_ended : ends_of two_classes [] (deleted_B (full (up (base 0 ∷ []) (value_of 0)) ∷ [])) ≡ act 5
base_of_what_has_ended = refl

function_on_what_has_ended :
    ends_of two_classes (method_of (codes "1B") (codes "f__1BFv") void [] ∷ [])
    (deleted_B (declare 1 (function_member (codes "1B") (function_type [] void)) (function_pointer (direct (codes "f__1BFv")))
    ∷ full (pointer_call (given (dereference (value_of 0))) (value_of 1) (function_type [] void) none) ∷ [])) ≡ act 5
function_on_what_has_ended = refl

-- A*p;{B b;p=&b;}(B*)p;
derived_class_of_what_has_ended :
    ends_of two_classes [] (declare 0 (pointer (class (codes "1A"))) blank
    ∷ block (listed (declare 1 (class (codes "1B")) blank ∷ set (local 0) (up (base 0 ∷ []) (address (local 1))) ∷ []))
    ∷ full (down (codes "1B") (base 0 ∷ []) (value_of 0)) ∷ []) ≡ act 5
derived_class_of_what_has_ended = refl

-- struct T{T(){delete[]this;}};new T[2];
array_is_deleted_while_it_is_built :
    ends_of (built_class (codes "1T") [] [] [] None ∷ []) (constructor_of (codes "1T") (codes "__ct__1TFv") [] no_parts (full (delete_array (class (codes "1T")) this) ∷ []) ∷ [])
    (full (new_array (class (codes "1T")) (num 2) (each (built (codes "__ct__1TFv") [] []))) ∷ []) ≡ act 5
array_is_deleted_while_it_is_built = refl

-- B b;A*q=&b;q+1 and q+0: a base part is no array of its own
step_from_a_base_part : ends_of two_classes [] (declare 0 (class (codes "1B")) blank ∷ full (plus (up (base 0 ∷ []) (address (local 0))) 1) ∷ []) ≡ act 6
step_from_a_base_part = refl

no_step_from_a_base_part : ends_of two_classes [] (declare 0 (class (codes "1B")) blank ∷ full (plus (up (base 0 ∷ []) (address (local 0))) 0) ∷ returns (num 0) ∷ []) ≡ status 0
no_step_from_a_base_part = refl

down_and_up : ends_of two_classes [] (declare 0 (class (codes "1B")) blank ∷ set (member (local 0) 0) (num 3) ∷ returns (read (member (dereference (down (codes "1B") (base 0 ∷ []) (up (base 0 ∷ []) (address (local 0))))) 0)) ∷ []) ≡ status 3
down_and_up = refl

-- unsigned u=1;void*p=&u;return *(int*)p; and with int u it is 1
cast_to_another_type : ends_of [] [] (declare 0 (integer UInt) (convert (integer UInt) (num 1)) ∷ declare 1 (pointer void) (address (local 0)) ∷ returns (read (dereference (from_void int (value_of 1)))) ∷ []) ≡ act 9
cast_to_another_type = refl

cast_to_its_type : ends_of [] [] (declare 0 int (num 1) ∷ declare 1 (pointer void) (address (local 0)) ∷ returns (read (dereference (from_void int (value_of 1)))) ∷ []) ≡ status 1
cast_to_its_type = refl

-- a file declares `extern char a[3];`
declared_with_another_type : ends_of [] [] (full (decay (static_object (codes "a") (array (integer Char) 3))) ∷ []) ≡ act 9
declared_with_another_type = refl

-- int*p;{int x;p=&x;}p==a; and p==0
dead_object_is_compared : ends_of [] [] (declare 0 int_pointer blank ∷ block (listed (declare 1 int blank ∷ set (local 0) (address (local 1)) ∷ [])) ∷ full (pointer_operate ptr.Equal (value_of 0) array_a) ∷ []) ≡ act 10
dead_object_is_compared = refl

dead_object_and_null : ends_of [] [] (declare 0 int_pointer blank ∷ block (listed (declare 1 int blank ∷ set (local 0) (address (local 1)) ∷ [])) ∷ returns (pointer_operate ptr.Equal (value_of 0) (convert int_pointer (num 0))) ∷ []) ≡ status 0
dead_object_and_null = refl

-- a<b; a+3==b; a+3==a+2 is 0; a==b is 0
order_of_two_arrays : ends_of [] [] (full (pointer_operate ptr.Less array_a array_b) ∷ []) ≡ act 10
order_of_two_arrays = refl

end_and_another_array : ends_of [] [] (full (pointer_operate ptr.Equal (plus array_a 3) array_b) ∷ []) ≡ act 10
end_and_another_array = refl

end_and_its_array : ends_of [] [] (returns (pointer_operate ptr.Equal (plus array_a 3) (plus array_a 2)) ∷ []) ≡ status 0
end_and_its_array = refl

two_arrays : ends_of [] [] (returns (pointer_operate ptr.Equal array_a array_b) ∷ []) ≡ status 0
two_arrays = refl

-- B b;(void*)&b==(void*)(A*)&b
one_place_in_the_other : ends_of two_classes [] (declare 0 (class (codes "1B")) blank ∷ full (pointer_operate ptr.Equal (address (local 0)) (up (base 0 ∷ []) (address (local 0)))) ∷ []) ≡ act 10
one_place_in_the_other = refl

-- delete new int[3]; and delete[] new int;
array_is_deleted_as_one : ends_of [] [] (full (delete int (new_array int (num 3) blank)) ∷ []) ≡ act 11
array_is_deleted_as_one = refl

one_is_deleted_as_array : ends_of [] [] (full (delete_array int (new int blank)) ∷ []) ≡ act 11
one_is_deleted_as_array = refl

-- A*p=new B;delete p; and A*p=new B[2];delete[]p;
no_virtual_destructor : ends_of two_classes [] (full (delete (class (codes "1A")) (up (base 0 ∷ []) (new (class (codes "1B")) blank))) ∷ []) ≡ act 12
no_virtual_destructor = refl

array_through_base : ends_of two_classes [] (full (delete_array (class (codes "1A")) (up (base 0 ∷ []) (new_array (class (codes "1B")) (num 2) blank))) ∷ []) ≡ act 12
array_through_base = refl

-- struct A{virtual void f()=0;A(){g();}void g(){f();}};struct B:A{void f(){}};B b;
pure_function_is_called :
    ends_of (built_class (codes "1A") [] [] (pure_function (codes "f__Fv") (codes "f__1AFv") ∷ nonvirtual_function (codes "g__Fv") (codes "g__1AFv") ∷ []) None
    ∷ built_class (codes "1B") (base_of (codes "1A") ∷ []) [] (virtual_function (codes "f__Fv") (codes "f__1BFv") ∷ []) None ∷ [])
    (constructor_of (codes "1A") (codes "__ct__1AFv") [] no_parts (full (call (codes "g__1AFv") (function_type [] void) (given this) none) ∷ [])
    ∷ constructor_of (codes "1B") (codes "__ct__1BFv") [] (part (within (base 0)) (built (codes "__ct__1AFv") [] []) no_parts) []
    ∷ method_of (codes "1A") (codes "g__1AFv") void (full (virtual_call (codes "f__Fv") (function_type [] void) this none) ∷ [])
    ∷ method_of (codes "1B") (codes "f__1BFv") void [] ∷ [])
    (declare 0 (class (codes "1B")) (built (codes "__ct__1BFv") [] []) ∷ returns (num 0) ∷ []) ≡ act 13
pure_function_is_called = refl

-- struct A{virtual void f(){}};struct B{int b;B(A*p){p->f();}};struct C:B,A{C():B(this){}};C c;: A's part isn't begun
not_under_construction :
    ends_of (built_class (codes "1A") [] [] (virtual_function (codes "f__Fv") (codes "f__1AFv") ∷ []) None
    ∷ built_class (codes "1B") [] (int ∷ []) [] None
    ∷ built_class (codes "1C") (base_of (codes "1B") ∷ base_of (codes "1A") ∷ []) [] [] None ∷ [])
    (constructor_of (codes "1A") (codes "__ct__1AFv") [] no_parts []
    ∷ constructor_of (codes "1B") (codes "__ct__1BFP1A") (pointer (class (codes "1A")) ∷ []) no_parts (full (virtual_call (codes "f__Fv") (function_type [] void) (dereference (value_of 0)) none) ∷ [])
    ∷ constructor_of (codes "1C") (codes "__ct__1CFv") []
    (part (within (base 0)) (built (codes "__ct__1BFP1A") (pointer (class (codes "1A")) ∷ []) (up (base 1 ∷ []) (address this) ∷ []))
    (part (within (base 1)) (built (codes "__ct__1AFv") [] []) no_parts)) []
    ∷ method_of (codes "1A") (codes "f__1AFv") void [] ∷ [])
    (declare 0 (class (codes "1C")) (built (codes "__ct__1CFv") [] []) ∷ returns (num 0) ∷ []) ≡ act 14
not_under_construction = refl

-- *(char*)"x"='y'; and const int x=1;*(int*)&x=2;
literal_is_written : ends_of [] [] (set (index (decay (text 1 (120 ∷ 0 ∷ []))) (num 0)) (convert (integer Char) (num 121)) ∷ []) ≡ act 15
literal_is_written = refl

const_object_is_written : ends_of [] [] (declare 0 (const int) (num 1) ∷ set (dereference (address (local 0))) (num 2) ∷ []) ≡ act 15
const_object_is_written = refl

-- struct T{int v;T(){v=1;}};const T t;t.v=2 by a cast: the constructor writes, and then nothing may
const_object_is_built :
    ends_of (built_class (codes "1T") [] (int ∷ []) [] None ∷ [])
    (constructor_of (codes "1T") (codes "__ct__1TFv") [] no_parts (set (member this 0) (num 1) ∷ []) ∷ [])
    (declare 0 (const (class (codes "1T"))) (built (codes "__ct__1TFv") [] []) ∷ set (member (local 0) 0) (num 2) ∷ []) ≡ act 15
const_object_is_built = refl

-- struct P{int a;};P f(){}P p=f();
class_result_is_missing :
    ends_of (plain_class (codes "1P") [] (int ∷ []) ∷ []) (function_of (codes "f__Fv") [] (class (codes "1P")) (in_block []) ∷ [])
    (declare 0 (class (codes "1P")) (called (codes "f__Fv") [] (class (codes "1P")) []) ∷ returns (num 0) ∷ []) ≡ act 16
class_result_is_missing = refl
