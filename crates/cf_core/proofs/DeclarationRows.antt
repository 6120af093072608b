-- Declarations that are passed, reached or not reached, and statements in sequence; and what each run shows.
use Rattle.std.proofs.Common.{◌≡◌, List, [], ◌∷◌, refl, true}
use Rattle.std.specs.Prelude.{pos, Option, Some, None, codes}
use Rattle.cf_base.specs.declared.kind.Kind.TheVariants.{Int}
use Rattle.cf_base.specs.declared.arith.Arith.TheVariants as op
use Rattle.cf_base.specs.Event.{Ended, Undefined}
use Rattle.cf_core.specs.declared.operators.LoopForm.TheVariants as form
use Rattle.cf_core.specs.Types.{SourceType, class, pointer}
use Rattle.cf_core.specs.Classes.{Class}
use Rattle.cf_core.specs.Core.{Core, absent, given, no_parts, Function, this, local, member, read, address, dereference, operate, step, arithmetic, temporary, blank, full, sequence, declare, branch, loop, switch, case_label, leave}
use Rattle.cf_core.proofs.Sample.{int, listed, main_of, program, returns, num, put_code, put_digit, value_of, set, built, plain_class, built_class, nonvirtual_function, constructor_of, destructor_of, Shown, run}

-- struct D{int v;~D(){putchar('d');putchar('0'+v);}}; and struct T{int v;T(int a){v=a;putchar('c');putchar('0'+a);}~T(){..}};
abbrev D : SourceType
D = class (codes "1D")

abbrev T : SourceType
T = class (codes "1T")

abbrev classes : List Class
classes =
    record (plain_class (codes "1D") [] (int ∷ [])) { destructor = Some (codes "__dt__1DFv") }
    ∷ built_class (codes "1T") [] (int ∷ []) (nonvirtual_function (codes "__dt__Fv") (codes "__dt__1TFv") ∷ []) (Some (codes "__dt__1TFv")) ∷ []

abbrev functions : List Function
functions =
    destructor_of (codes "1D") (codes "__dt__1DFv") (put_code 100 ∷ put_digit (read (member this 0)) ∷ [])
    ∷ constructor_of (codes "1T") (codes "__ct__1TFi") (int ∷ []) no_parts
    (set (member this 0) (value_of 0) ∷ put_code 99 ∷ put_digit (value_of 0) ∷ [])
    ∷ destructor_of (codes "1T") (codes "__dt__1TFv") (put_code 100 ∷ put_digit (read (member this 0)) ∷ []) ∷ []

abbrev run_main : List Core → Option Shown
run_main ss = run (program classes (main_of ss ∷ functions) []) 40

-- switch(2){D a;D b;case 1:putchar('1');case 2:a.v=1;b.v=2;D c;c.v=3;putchar('|');}return 0;
declared_in_order_of_passing :
    run_main (switch (num 2) (listed (declare 0 D blank ∷ declare 1 D blank ∷ case_label (pos 1) ∷ put_code 49 ∷ case_label (pos 2)
    ∷ set (member (local 0) 0) (num 1) ∷ set (member (local 1) 0) (num 2) ∷ declare 2 D blank ∷ set (member (local 2) 0) (num 3) ∷ put_code 124 ∷ []))
    ∷ returns (num 0) ∷ [])
    ≡ Some (record { end = Ended (pos 0); out = codes "|d3d2d1" })
declared_in_order_of_passing = refl

-- switch(7){D a;case 1:;}return 0;: no label is chosen and nothing is declared
nothing_is_passed_without_a_label :
    run_main (switch (num 7) (listed (declare 0 D blank ∷ case_label (pos 1) ∷ full blank ∷ [])) ∷ returns (num 0) ∷ []) ≡ Some (record { end = Ended (pos 0); out = [] })
nothing_is_passed_without_a_label = refl

-- switch(1){case 1:break;D a;case 2:;}return 0;: what stands behind is not declared
nothing_behind_is_declared :
    run_main (switch (num 1) (listed (case_label (pos 1) ∷ leave ∷ declare 0 D blank ∷ case_label (pos 2) ∷ full blank ∷ [])) ∷ returns (num 0) ∷ [])
    ≡ Some (record { end = Ended (pos 0); out = [] })
nothing_behind_is_declared = refl

-- switch(1){for(D a;0;);case 1:a.v=4;}return 0;: the declaration of a `for` is one of the switch's block
declaration_of_a_for_is_passed :
    run_main (switch (num 1) (listed (sequence (listed (declare 0 D blank ∷ loop form.For (given (num 0)) absent (full blank) ∷ [])) ∷ case_label (pos 1) ∷ set (member (local 0) 0) (num 4) ∷ []))
    ∷ returns (num 0) ∷ [])
    ≡ Some (record { end = Ended (pos 0); out = codes "d4" })
declaration_of_a_for_is_passed = refl

-- if(1)for(T t(1);0;);putchar('|');return 0;: t lives to the end of the block round the `if`
for_as_the_body_of_an_if :
    run_main (branch (num 1) (sequence (listed (declare 0 T (built (codes "__ct__1TFi") (int ∷ []) (num 1 ∷ [])) ∷ loop form.For (given (num 0)) absent (full blank) ∷ []))) absent
    ∷ put_code 124 ∷ returns (num 0) ∷ [])
    ≡ Some (record { end = Ended (pos 0); out = codes "c1|d1" })
for_as_the_body_of_an_if = refl

-- int i=0;while(i<2)for(T t(i);0;)i; with i++ as the condition's step: each turn has a t of its own
for_as_the_body_of_a_loop :
    run_main (declare 0 int (num 0)
    ∷ loop form.While (given (operate op.Less Int (value_of 0) (num 2))) absent
    (sequence (listed (declare 1 T (built (codes "__ct__1TFi") (int ∷ []) (value_of 0 ∷ [])) ∷ full (step true (arithmetic op.Add Int Int) (local 0)) ∷ [])))
    ∷ returns (num 0) ∷ [])
    ≡ Some (record { end = Ended (pos 0); out = codes "c0d0c1d1" })
for_as_the_body_of_a_loop = refl

-- if(0)for(int i=3;0;);return i;: the declaration was not reached
local_is_not_reached :
    run_main (branch (num 0) (sequence (listed (declare 0 int (num 3) ∷ loop form.For (given (num 0)) absent (full blank) ∷ []))) absent ∷ returns (value_of 0) ∷ [])
    ≡ Some (record { end = Undefined 5; out = [] })
local_is_not_reached = refl

-- a local that the function has not got
no_such_local : run_main (declare 0 int (num 3) ∷ returns (value_of 1) ∷ []) ≡ None
no_such_local = refl

-- a label that passes an initialiser, which no accepted program has
initialiser_is_passed : run_main (switch (num 1) (listed (declare 0 int (num 2) ∷ case_label (pos 1) ∷ [])) ∷ []) ≡ None
initialiser_is_passed = refl

-- struct P{int*p;int v;P(int*q){p=q;v=5;}~P(){putchar('0'+*p);}};int main(){int y=P(&y).v;return y;}: y has its value before the temporary ends
value_is_stored_before_temporaries_end :
    run (program (built_class (codes "1P") [] (pointer int ∷ int ∷ []) (nonvirtual_function (codes "__dt__Fv") (codes "__dt__1PFv") ∷ []) (Some (codes "__dt__1PFv")) ∷ [])
    (constructor_of (codes "1P") (codes "__ct__1PFPi") (pointer int ∷ []) no_parts (set (member this 0) (value_of 0) ∷ set (member this 1) (num 5) ∷ [])
    ∷ destructor_of (codes "1P") (codes "__dt__1PFv") (put_digit (read (dereference (read (member this 0)))) ∷ [])
    ∷ main_of (declare 0 int (read (member (temporary (class (codes "1P")) (built (codes "__ct__1PFPi") (pointer int ∷ []) (address (local 0) ∷ []))) 1))
    ∷ returns (value_of 0) ∷ []) ∷ []) []) 10
    ≡ Some (record { end = Ended (pos 5); out = codes "5" })
value_is_stored_before_temporaries_end = refl
