-- Copies and assignments by functions of several forms, and what each run shows.
use Rattle.std.proofs.Common.{◌≡◌, List, [], ◌∷◌, refl}
use Rattle.std.specs.Prelude.{pos, Some, None, codes}
use Rattle.cf_base.specs.Event.{Ended}
use Rattle.cf_core.specs.Types.{SourceType, class, array, reference, const}
use Rattle.cf_core.specs.Classes.{Class}
use Rattle.cf_core.specs.Core.{Core, none, no_parts, Function, this, local, member, read, decay, index, temporary, assign, each, copy, blank, full, declare}
use Rattle.cf_core.proofs.Sample.{int, function_type, listed, main_of, program, returns, num, add, put_code, put_digit, value_of, set, built, plain_class, built_class, copying, nonvirtual_function, constructor_of, destructor_of, function_as, in_block, run}
use Rattle.cf_core.specs.Core as plain

abbrev T : SourceType
T = class (codes "1T")

abbrev K : SourceType
K = class (codes "1K")

-- struct T{int v;~T(){putchar('d');putchar('0'+v);}T operator=(const T&t){v=t.v+1;putchar('a');return *this;}};
-- int main(){T a;T b;a.v=1;b.v=5;a=b;putchar('|');return 0;} with the memberwise form of the assignment
assignment_gives_an_object :
    run (program
    (record (plain_class (codes "1T") [] (int ∷ [])) { destructor = Some (codes "__dt__1TFv"); assignment = Some (record { name = codes "__as__1TFRC1T"; type = function_type (reference (const T) ∷ []) T }) } ∷ [])
    (destructor_of (codes "1T") (codes "__dt__1TFv") (put_code 100 ∷ put_digit (read (member this 0)) ∷ [])
    ∷ function_as (plain.member_function (codes "1T")) (codes "__as__1TFRC1T") (reference (const T) ∷ []) T
    (in_block (set (member this 0) (add (read (member (local 0) 0)) (num 1)) ∷ put_code 97 ∷ returns (copy T this none) ∷ []))
    ∷ main_of (declare 0 T blank ∷ declare 1 T blank ∷ set (member (local 0) 0) (num 1) ∷ set (member (local 1) 0) (num 5)
    ∷ full (assign T (local 0) (local 1) none) ∷ put_code 124 ∷ returns (num 0) ∷ []) ∷ []) []) 20
    ≡ Some (record { end = Ended (pos 0); out = codes "ad6|d5d6" })
assignment_gives_an_object = refl

-- struct T{int v;T(int a){v=a;putchar('c');putchar('0'+a);}~T(){..}};struct K{int v;K(int a){v=a;}K(const K&k,int n=T(3).v){v=k.v+n;}};
-- struct H{K a[2];}; as a copy of an array: each element's default argument is a full expression of its own
abbrev classes : List Class
classes =
    built_class (codes "1T") [] (int ∷ []) (nonvirtual_function (codes "__dt__Fv") (codes "__dt__1TFv") ∷ []) (Some (codes "__dt__1TFv"))
    ∷ record (built_class (codes "1K") [] (int ∷ []) [] None) { copy = copying (codes "1K") (codes "__ct__1KFRC1Ki") (int ∷ []) } ∷ []

abbrev functions : List Function
functions =
    constructor_of (codes "1T") (codes "__ct__1TFi") (int ∷ []) no_parts
    (set (member this 0) (value_of 0) ∷ put_code 99 ∷ put_digit (value_of 0) ∷ [])
    ∷ destructor_of (codes "1T") (codes "__dt__1TFv") (put_code 100 ∷ put_digit (read (member this 0)) ∷ [])
    ∷ constructor_of (codes "1K") (codes "__ct__1KFi") (int ∷ []) no_parts (set (member this 0) (value_of 0) ∷ [])
    ∷ constructor_of (codes "1K") (codes "__ct__1KFRC1Ki") (reference (const K) ∷ int ∷ []) no_parts
    (set (member this 0) (add (read (member (local 0) 0)) (value_of 1)) ∷ []) ∷ []

abbrev default_argument : Core
default_argument = read (member (temporary T (built (codes "__ct__1TFi") (int ∷ []) (num 3 ∷ []))) 0)

copies_with_a_default_argument :
    run (program classes
    (main_of (declare 0 (array K 2) (each (built (codes "__ct__1KFi") (int ∷ []) (num 4 ∷ [])))
    ∷ declare 1 (array K 2) (copy (array K 2) (local 0) (listed (default_argument ∷ [])))
    ∷ returns (read (member (index (decay (local 1)) (num 1)) 0)) ∷ []) ∷ functions) []) 40
    ≡ Some (record { end = Ended (pos 7); out = codes "c3d3c3d3" })
copies_with_a_default_argument = refl

-- int a;int b;b=a; as a generated assignment does it: no act, also where there is no value
scalar_without_a_value_is_assigned :
    run (program [] (main_of (declare 0 int blank ∷ declare 1 int blank ∷ full (assign int (local 1) (local 0) none) ∷ returns (num 0) ∷ []) ∷ []) []) 9
    ≡ Some (record { end = Ended (pos 0); out = [] })
scalar_without_a_value_is_assigned = refl

-- struct L{int v;L(int a){v=a;}};L x(4);L a[1][1]={{x}};return a[0][0].v; spends two ticks: no element is built by a function
element_that_is_moved_costs_nothing :
    run (program (built_class (codes "1L") [] (int ∷ []) [] None ∷ [])
    (constructor_of (codes "1L") (codes "__ct__1LFi") (int ∷ []) no_parts (set (member this 0) (value_of 0) ∷ [])
    ∷ main_of (declare 0 (class (codes "1L")) (built (codes "__ct__1LFi") (int ∷ []) (num 4 ∷ []))
    ∷ declare 1 (array (array (class (codes "1L")) 1) 1)
    (plain.list (listed (plain.list (listed (copy (class (codes "1L")) (local 0) none ∷ [])) (built (codes "__ct__1LFi") (int ∷ []) (num 5 ∷ [])) ∷ [])) blank)
    ∷ returns (read (member (index (decay (index (decay (local 1)) (num 0))) (num 0)) 0)) ∷ []) ∷ []) []) 2
    ≡ Some (record { end = Ended (pos 4); out = [] })
element_that_is_moved_costs_nothing = refl
