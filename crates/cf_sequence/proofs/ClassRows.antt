-- Objects of classes: temporaries, parameters, scopes, constructors and static objects.
use Rattle.std.proofs.Common.{List, [], ◌∷◌, refl}
use Rattle.std.specs.Prelude.{pos, Some, codes, true}
use Rattle.cf_base.specs.declared.kind.Kind.TheVariants.{Int}
use Rattle.cf_base.specs.declared.arith.Arith.TheVariants as op
use Rattle.cf_base.specs.Event.{Ended, Ticks, Undefined}
use Rattle.cf_core.specs.declared.operators.LoopForm.TheVariants as form
use Rattle.cf_core.specs.Types.{SourceType, class, void, pointer, array}
use Rattle.cf_core.specs.Classes.{Class}
use Rattle.cf_core.specs.Subobjects.{base}
use Rattle.cf_core.specs.Core.{Core, within, none, absent, given, no_parts, part, Function, this, local, member, read, dereference, operate, step, arithmetic, conditional, comma, temporary, virtual_call, new, delete, copy, assign, list, blank, full, declare, once, branch, loop, leave, static_object}
use Rattle.cf_core.specs.Calls.{Program}
use Rattle.cf_core.proofs.Sample.{int, function_type, function_of, listed, in_block, main_of, program, static_of, returns, num, add, put_code, put_digit, value_of, set, called, built, base_of, plain_class, built_class, virtual_function, nonvirtual_function, constructor_of, destructor_of, method_of}
use Rattle.cf_sequence.proofs.Sample.{Shows}

-- struct T{int v;T(int a){v=a;putchar('c');putchar('0'+a);}~T(){putchar('d');putchar('0'+v);}};
abbrev T : SourceType
T = class (codes "1T")

abbrev loud : List Class
loud = built_class (codes "1T") [] (int ∷ []) (nonvirtual_function (codes "__dt__Fv") (codes "__dt__1TFv") ∷ []) (Some (codes "__dt__1TFv")) ∷ []

abbrev loud_functions : List Function
loud_functions =
    constructor_of (codes "1T") (codes "__ct__1TFi") (int ∷ []) no_parts (set (member this 0) (value_of 0) ∷ put_code 99 ∷ put_digit (value_of 0) ∷ [])
    ∷ destructor_of (codes "1T") (codes "__dt__1TFv") (put_code 100 ∷ put_digit (read (member this 0)) ∷ []) ∷ []

abbrev made : Core → Core
made e = built (codes "__ct__1TFi") (int ∷ []) (e ∷ [])

abbrev value_in : Core → Core
value_in e = read (member e 0)

abbrev with_main : List Core → Program
with_main ss = program loud (main_of ss ∷ loud_functions) []

-- T(1),T(2);putchar('|');return 0;
temporaries_end_backwards :
    Shows (with_main (full (comma (listed (temporary T (made (num 1)) ∷ temporary T (made (num 2)) ∷ []))) ∷ put_code 124 ∷ returns (num 0) ∷ [])) [] 20
    (record { end = Ended (pos 0); out = codes "c1c2d2d1|" })
temporaries_end_backwards = record { core = refl; plain = refl }

-- int c=0;int x=c?T(1).v:T(2).v;return x;
temporary_of_a_branch :
    Shows (with_main (declare 0 int (num 0) ∷ declare 1 int (conditional (value_of 0) (value_in (temporary T (made (num 1)))) (value_in (temporary T (made (num 2))))) ∷ returns (value_of 1) ∷ [])) [] 20
    (record { end = Ended (pos 2); out = codes "c2d2" })
temporary_of_a_branch = record { core = refl; plain = refl }

-- void f(T a,T b){T c(3);}int main(){f(T(1),T(2));putchar('|');return 0;}
parameters_end_after_locals :
    Shows (program loud
    (function_of (codes "f__F1T1T") (T ∷ T ∷ []) void (in_block (declare 2 T (made (num 3)) ∷ []))
    ∷ main_of (full (called (codes "f__F1T1T") (T ∷ T ∷ []) void (made (num 1) ∷ made (num 2) ∷ [])) ∷ put_code 124 ∷ returns (num 0) ∷ []) ∷ loud_functions) []) [] 20
    (record { end = Ended (pos 0); out = codes "c1c2c3d3d2d1|" })
parameters_end_after_locals = record { core = refl; plain = refl }

-- T f(T a){return T(a.v+1);}int main(){return f(T(1)).v;}: the result is built in the caller's temporary
result_is_built_in_place :
    Shows (program loud
    (function_of (codes "f__F1T") (T ∷ []) T (in_block (returns (made (add (value_in (local 0)) (num 1))) ∷ []))
    ∷ main_of (returns (value_in (temporary T (called (codes "f__F1T") (T ∷ []) T (made (num 1) ∷ [])))) ∷ []) ∷ loud_functions) []) [] 20
    (record { end = Ended (pos 2); out = codes "c1c2d1d2" })
result_is_built_in_place = record { core = refl; plain = refl }

-- T a(1);return T(2).v;
return_ends_temporaries_then_locals :
    Shows (with_main (declare 0 T (made (num 1)) ∷ returns (value_in (temporary T (made (num 2)))) ∷ [])) [] 20 (record { end = Ended (pos 2); out = codes "c1c2d2d1" })
return_ends_temporaries_then_locals = record { core = refl; plain = refl }

-- int i=0;while(T(i).v<2){T a(i+5);if(i)break;i++;}return 0;
condition_is_a_full_expression :
    Shows (with_main (declare 0 int (num 0)
    ∷ loop form.While (given (operate op.Less Int (value_in (temporary T (made (value_of 0)))) (num 2))) absent
    (in_block (declare 1 T (made (add (value_of 0) (num 5))) ∷ branch (value_of 0) leave absent ∷ full (step true (arithmetic op.Add Int Int) (local 0)) ∷ []))
    ∷ returns (num 0) ∷ [])) [] 40 (record { end = Ended (pos 0); out = codes "c0d0c5d5c1d1c6d6" })
condition_is_a_full_expression = record { core = refl; plain = refl }

-- T*p=new T(5);delete p;return p->v;
object_is_used_after_delete :
    Shows (with_main (declare 0 (pointer T) (new T (made (num 5))) ∷ full (delete T (value_of 0)) ∷ returns (value_in (dereference (value_of 0))) ∷ [])) [] 20
    (record { end = Undefined 5; out = codes "c5d5" })
object_is_used_after_delete = record { core = refl; plain = refl }

-- T s[2]={T(1),T(2)};return 0;: a tick for each element that is built and for each that is destroyed
abbrev array_of_two : Program
array_of_two = with_main (declare 0 (array T 2) (list (listed (made (num 1) ∷ made (num 2) ∷ [])) blank) ∷ returns (num 0) ∷ [])

elements_are_built_in_order : Shows array_of_two [] 9 (record { end = Ended (pos 0); out = codes "c1c2d2d1" })
elements_are_built_in_order = record { core = refl; plain = refl }

each_element_spends_a_tick : Shows array_of_two [] 8 (record { end = Ticks; out = codes "c1c2d2" })
each_element_spends_a_tick = record { core = refl; plain = refl }

-- struct A{virtual void f(){putchar('A');}~A(){f();}};struct B:A{void f(){putchar('B');}~B(){f();}};int main(){B b;return 0;}
abbrev call_f : Core → Core
call_f object = full (virtual_call (codes "f__Fv") (function_type [] void) object none)

destructors_run_their_own :
    Shows (program
    (built_class (codes "1A") [] [] (virtual_function (codes "f__Fv") (codes "f__1AFv") ∷ []) (Some (codes "__dt__1AFv"))
    ∷ built_class (codes "1B") (base_of (codes "1A") ∷ []) [] (virtual_function (codes "f__Fv") (codes "f__1BFv") ∷ []) (Some (codes "__dt__1BFv")) ∷ [])
    (constructor_of (codes "1A") (codes "__ct__1AFv") [] no_parts []
    ∷ constructor_of (codes "1B") (codes "__ct__1BFv") [] (part (within (base 0)) (built (codes "__ct__1AFv") [] []) no_parts) []
    ∷ destructor_of (codes "1A") (codes "__dt__1AFv") (call_f this ∷ []) ∷ destructor_of (codes "1B") (codes "__dt__1BFv") (call_f this ∷ [])
    ∷ method_of (codes "1A") (codes "f__1AFv") void (put_code 65 ∷ []) ∷ method_of (codes "1B") (codes "f__1BFv") void (put_code 66 ∷ [])
    ∷ main_of (declare 0 (class (codes "1B")) (built (codes "__ct__1BFv") [] []) ∷ returns (num 0) ∷ []) ∷ []) []) [] 20
    (record { end = Ended (pos 0); out = codes "BA" })
destructors_run_their_own = record { core = refl; plain = refl }

-- T t(1);T u(2);int main(){return t.v;}: static objects are initialised in order and destroyed backwards
static_objects :
    Shows (record (program loud (main_of (returns (value_in (static_object (codes "t") T)) ∷ []) ∷ loud_functions) (static_of (codes "t") T ∷ static_of (codes "u") T ∷ []))
    { initialisers = function_of (codes "__sti__u1") [] void (in_block (once (codes "t") (made (num 1)) ∷ once (codes "u") (made (num 2)) ∷ [])) ∷ [] }) [] 20
    (record { end = Ended (pos 1); out = codes "c1c2d2d1" })
static_objects = record { core = refl; plain = refl }

-- struct P{int a;int b;};P p;p.a=1;P q=p;P r;r=q;return r.a;
copies :
    Shows (program (plain_class (codes "1P") [] (int ∷ int ∷ []) ∷ [])
    (main_of (declare 0 (class (codes "1P")) blank ∷ set (member (local 0) 0) (num 1) ∷ declare 1 (class (codes "1P")) (copy (class (codes "1P")) (local 0) none)
    ∷ declare 2 (class (codes "1P")) blank ∷ full (assign (class (codes "1P")) (local 2) (local 1) none) ∷ returns (value_in (local 2)) ∷ []) ∷ []) []) [] 9
    (record { end = Ended (pos 1); out = [] })
copies = record { core = refl; plain = refl }
