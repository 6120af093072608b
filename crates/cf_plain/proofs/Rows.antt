-- Small programs as plain statements, and what each run shows.
use Rattle.std.proofs.Common.{◌≡◌, ℕ, Bool, map, List, [], ◌∷◌, ◌++◌, refl}
use Rattle.std.specs.Prelude.{pos, Option, Some, None, true, false, codes}
use Rattle.std.specs.Fmt.{digits}
use Rattle.cf_base.specs.declared.kind.Kind.TheVariants.{Int}
use Rattle.cf_base.specs.declared.arith.Arith.TheVariants as op
use Rattle.cf_base.specs.Event.{Ended, Ticks, Undefined}
use Rattle.cf_core.specs.Types.{Name, SourceType, class, pointer, void}
use Rattle.cf_core.specs.Classes.{Class}
use Rattle.cf_core.specs.Core.{Role, plain_function, constructor, destructor, arithmetic}
use Rattle.cf_core.proofs.Sample.{int, function_type, Shown, shown_of, built_class, nonvirtual_function, virtual_function}
use Rattle.cf_plain.specs.Plain.{Action, Plain, Plains, PlainFunction, nothing, more, act, set, branch, loop, leave, continue, give, number, this, local, member, read, operate, truth, store, declare, first, finish, call, build, changed, is_reached, reach, finish_static, static_object, new, delete, dereference, PlainStatic, PlainFile}
use Rattle.cf_plain.specs.Join.{defined_names, uses_in}
use Rattle.cf_plain.specs.Joined.{files_mean}
use Rattle.cf_plain.specs.Named.{Named}
use Rattle.cf_plain.specs.Program.{PlainProgram, PlainMean}
use Rattle.cf_plain.specs.Valid.{valid_file}

abbrev in_order : List Plain → Plains
in_order [] = nothing
in_order (s ∷ ss) = more s (in_order ss)

abbrev function_as : Role → Name → List SourceType → SourceType → List SourceType → List Plain → PlainFunction
function_as role name ps t locals ss = record {
  name = name;
  role = role;
  type = function_type ps t;
  locals = locals;
  body = in_order ss;
  is_shared = false;
  is_local = false;
}

abbrev function_of : Name → List SourceType → SourceType → List SourceType → List Plain → PlainFunction
function_of = function_as plain_function

abbrev program : List Class → List PlainFunction → PlainProgram
program cs fs = record { classes = cs; functions = fs; statics = []; constants = []; initialisers = [] }

abbrev run : PlainProgram → ℕ → Option Shown
run Q n = shown_of (PlainMean Q [] 1048576 1024 n)

-- an int local i with the value of a register
abbrev int_local : ℕ → ℕ → ℕ → List Plain
int_local r i q = set r (declare i int) ∷ act (first r q) ∷ []

-- the value of a local in the second register
abbrev value_of : ℕ → ℕ → ℕ → List Plain
value_of r q i = set r (local i) ∷ set q (read r) ∷ []

-- what stands in a register is put, by a parameter's object of this number
abbrev put : ℕ → ℕ → ℕ → List Plain
put r q i = set r (declare i int) ∷ act (first r q) ∷ act (call (codes "putchar") (function_type (int ∷ []) int) None (i ∷ []) None) ∷ []

-- int main(){return 7;}
seven : run (program [] (function_of (codes "__main") [] int [] (set 0 (number (pos 7)) ∷ give (Some 0) ∷ []) ∷ [])) 1 ≡ Some (record { end = Ended (pos 7); out = [] })
seven = refl

-- int g(int a){putchar('0'+a);return a;}int f(int a,int b){return a+b;}int main(){return f(g(1),g(2));}
abbrev called : Name → List SourceType → List ℕ → Action
called name ps is = call name (function_type ps int) None is None

abbrev arguments : PlainProgram
arguments = program []
    (function_of (codes "g__Fi") (int ∷ []) int (int ∷ [])
    (set 0 (number (pos 48)) ∷ value_of 1 2 0 ++ set 3 (operate op.Add Int 0 2) ∷ put 4 3 1 ++ value_of 1 2 0 ++ act (finish int 0) ∷ give (Some 2) ∷ [])
    ∷ function_of (codes "f__Fii") (int ∷ int ∷ []) int []
    (value_of 0 1 0 ++ value_of 0 2 1 ++ set 3 (operate op.Add Int 1 2) ∷ act (finish int 1) ∷ act (finish int 0) ∷ give (Some 3) ∷ [])
    ∷ function_of (codes "__main") [] int (int ∷ int ∷ int ∷ int ∷ [])
    (set 0 (declare 0 int) ∷ set 1 (number (pos 1)) ∷ int_local 2 1 1 ++ set 3 (called (codes "g__Fi") (int ∷ []) (1 ∷ [])) ∷ act (first 0 3)
    ∷ set 4 (declare 2 int) ∷ set 1 (number (pos 2)) ∷ int_local 2 3 1 ++ set 3 (called (codes "g__Fi") (int ∷ []) (3 ∷ [])) ∷ act (first 4 3)
    ∷ set 5 (called (codes "f__Fii") (int ∷ int ∷ []) (0 ∷ 2 ∷ [])) ∷ give (Some 5) ∷ []) ∷ [])

arguments_in_order : run arguments 4 ≡ Some (record { end = Ended (pos 3); out = codes "12" })
arguments_in_order = refl

each_function_spends_a_tick : run arguments 3 ≡ Some (record { end = Ticks; out = codes "12" })
each_function_spends_a_tick = refl

-- struct T{int v;T(int a){v=a;putchar('c');putchar('0'+a);}~T(){putchar('d');putchar('0'+v);}};
abbrev T : SourceType
T = class (codes "1T")

abbrev loud : List Class
loud = built_class (codes "1T") [] (int ∷ []) (nonvirtual_function (codes "__dt__Fv") (codes "__dt__1TFv") ∷ []) (Some (codes "__dt__1TFv")) ∷ []

abbrev loud_functions : List PlainFunction
loud_functions =
    function_as (constructor (codes "1T")) (codes "__ct__1TFi") (int ∷ []) void (int ∷ int ∷ [])
    (set 0 this ∷ set 1 (member 0 0) ∷ value_of 2 3 0 ++ act (store 1 3) ∷ set 4 (number (pos 99)) ∷ put 5 4 1 ++ set 4 (number (pos 48)) ∷ set 6 (operate op.Add Int 4 3) ∷ put 5 6 2
    ++ act (finish int 0) ∷ [])
    ∷ function_as (destructor (codes "1T")) (codes "__dt__1TFv") [] void (int ∷ int ∷ [])
    (set 0 this ∷ set 1 (member 0 0) ∷ set 4 (number (pos 100)) ∷ put 5 4 0 ++ set 3 (read 1) ∷ set 4 (number (pos 48)) ∷ set 6 (operate op.Add Int 4 3) ∷ put 5 6 1) ∷ []

-- a temporary local of type T, built by a number on the object of its parameter, and its flag
abbrev made : ℕ → ℕ → ℕ → ℕ → List Plain
made i j n flag =
    set 8 (declare i T) ∷ set 9 (number (pos n)) ∷ int_local 10 j 9 ++ act (build (codes "__ct__1TFi") (function_type (int ∷ []) void) 8 (j ∷ [])) ∷ set flag (number (pos 1)) ∷ []

abbrev finish_if : ℕ → ℕ → Plain
finish_if flag i = branch flag (in_order (act (finish T i) ∷ [])) nothing

-- int main(){int c=0;int x=c?T(1).v:T(2).v;return x;}: a flag for each branch's temporary
temporary_of_a_branch :
    run (program loud (function_of (codes "__main") [] int (int ∷ int ∷ T ∷ T ∷ int ∷ int ∷ [])
    (set 1 (number (pos 0)) ∷ int_local 0 0 1 ++ set 2 (declare 1 int) ∷ set 3 (number (pos 0)) ∷ set 4 (number (pos 0)) ∷ value_of 5 6 0 ++ set 7 (truth 6)
    ∷ branch 7 (in_order (made 2 4 1 3 ++ set 11 (member 8 0) ∷ set 12 (read 11) ∷ [])) (in_order (made 3 5 2 4 ++ set 11 (member 8 0) ∷ set 12 (read 11) ∷ []))
    ∷ finish_if 4 3 ∷ finish_if 3 2 ∷ act (first 2 12) ∷ value_of 5 6 1 ++ act (finish int 1) ∷ act (finish int 0) ∷ give (Some 6) ∷ []) ∷ loud_functions)) 10
    ≡ Some (record { end = Ended (pos 2); out = codes "c2d2" })
temporary_of_a_branch = refl

-- int main(){int s=0;int i=0;for(;i<5;i++){if(i==2)continue;s+=i;}return s;}: six turns
abbrev sum_to_four : PlainProgram
sum_to_four = program []
    (function_of (codes "__main") [] int (int ∷ int ∷ [])
    (set 1 (number (pos 0)) ∷ int_local 0 0 1 ++ set 1 (number (pos 0)) ∷ int_local 0 1 1
    ++ loop (in_order (value_of 2 3 1 ++ set 4 (number (pos 5)) ∷ set 5 (operate op.Less Int 3 4) ∷ branch 5 nothing (in_order (leave ∷ []))
    ∷ value_of 2 3 1 ++ set 4 (number (pos 2)) ∷ set 5 (operate op.Equal Int 3 4) ∷ branch 5 (in_order (continue ∷ [])) nothing
    ∷ set 6 (local 0) ∷ value_of 2 3 1 ++ set 7 (read 6) ∷ set 8 (changed (arithmetic op.Add Int Int) 7 3) ∷ act (store 6 8) ∷ []))
    (in_order (set 2 (local 1) ∷ set 3 (read 2) ∷ set 4 (number (pos 1)) ∷ set 5 (changed (arithmetic op.Add Int Int) 3 4) ∷ act (store 2 5) ∷ []))
    ∷ value_of 2 3 0 ++ act (finish int 1) ∷ act (finish int 0) ∷ give (Some 3) ∷ []) ∷ [])

continue_goes_to_the_step : run sum_to_four 7 ≡ Some (record { end = Ended (pos 8); out = [] })
continue_goes_to_the_step = refl

each_turn_spends_a_tick : run sum_to_four 6 ≡ Some (record { end = Ticks; out = [] })
each_turn_spends_a_tick = refl

-- int main(){int x;return x;}
no_value : run (program [] (function_of (codes "__main") [] int (int ∷ []) (set 0 (declare 0 int) ∷ value_of 1 2 0 ++ give (Some 2) ∷ []) ∷ [])) 1 ≡ Some (record { end = Undefined 7; out = [] })
no_value = refl

-- int main(){static int n=g();return n;}int g(){return 4;}: the flag of a local static object
abbrev with_static : PlainProgram
with_static = record (program []
    (function_of (codes "g__Fv") [] int [] (set 0 (number (pos 4)) ∷ give (Some 0) ∷ [])
    ∷ function_of (codes "__main") [] int []
    (set 0 (is_reached (codes "n")) ∷ branch 0 nothing (in_order (act (reach (codes "n")) ∷ set 1 (static_object (codes "n") int) ∷ set 2 (called (codes "g__Fv") [] []) ∷ act (first 1 2)
    ∷ act (finish_static (codes "n")) ∷ []))
    ∷ set 1 (static_object (codes "n") int) ∷ set 2 (read 1) ∷ give (Some 2) ∷ []) ∷ []))
    { statics = record { name = codes "n"; type = int; locals = []; start = nothing; owner = Some (codes "__main"); is_constant = false; is_shared = false; is_local = false } ∷ [] }

local_static : run with_static 2 ≡ Some (record { end = Ended (pos 4); out = [] })
local_static = refl

-- T*p=new T(5);delete p;return p->v; with the heap limit
abbrev delete_and_use : PlainProgram
delete_and_use = program loud
    (function_of (codes "__main") [] int (pointer T ∷ int ∷ [])
    (set 0 (declare 0 (pointer T)) ∷ set 1 (new T) ∷ set 2 (truth 1)
    ∷ branch 2 (in_order (set 3 (number (pos 5)) ∷ int_local 4 1 3 ++ act (build (codes "__ct__1TFi") (function_type (int ∷ []) void) 1 (1 ∷ [])) ∷ [])) nothing
    ∷ act (first 0 1) ∷ set 5 (local 0) ∷ set 6 (read 5) ∷ act (delete false T 6) ∷ set 7 (truth 6) ∷ branch 7 (in_order (set 8 (dereference 6) ∷ set 9 (member 8 0) ∷ set 10 (read 9) ∷ give (Some 10) ∷ [])) nothing
    ∷ set 10 (number (pos 0)) ∷ give (Some 10) ∷ []) ∷ loud_functions)

object_is_used_after_delete : run delete_and_use 9 ≡ Some (record { end = Undefined 5; out = codes "c5d5" })
object_is_used_after_delete = refl

null_where_the_heap_is_full : shown_of (PlainMean delete_and_use [] 11 9 9) ≡ Some (record { end = Ended (pos 0); out = [] })
null_where_the_heap_is_full = refl

-- Validity of these, and of a program with a fault.
abbrev is_valid : PlainProgram → Bool
is_valid Q = valid_file (record { classes = Q.classes; functions = Q.functions; statics = Q.statics })

arguments_are_valid : is_valid arguments ≡ true
arguments_are_valid = refl

loop_is_valid : is_valid sum_to_four ≡ true
loop_is_valid = refl

static_is_valid : is_valid with_static ≡ true
static_is_valid = refl

break_without_a_loop : is_valid (program [] (function_of (codes "__main") [] int [] (leave ∷ []) ∷ [])) ≡ false
break_without_a_loop = refl

local_of_another_type : is_valid (program [] (function_of (codes "__main") [] int (int ∷ []) (act (declare 0 T) ∷ []) ∷ [])) ≡ false
local_of_another_type = refl

-- struct A{virtual ~A();}: what ends a local names its destructor, and deletes through a pointer don't
abbrev A_class : List Class
A_class = built_class (codes "1A") [] [] (virtual_function (codes "__dt__Fv") (codes "__dt__1AFv") ∷ []) (Some (codes "__dt__1AFv")) ∷ []

destructors_named :
    Named A_class (function_of (codes "f__Fv") [] void (class (codes "1A") ∷ []) (act (delete false (class (codes "1A")) 0) ∷ branch 1 (in_order (act (finish (class (codes "1A")) 0) ∷ [])) nothing ∷ []))
    ≡ codes "__dt__1AFv" ∷ []
destructors_named = refl

-- Two files, T t(1);  and  static int f(){return 2;}T s(2);int main(){return f();}: initialised in order, destroyed backwards, the local function under its file's name
abbrev static_T : Name → ℕ → PlainStatic
static_T name n = record {
  name = name;
  type = T;
  locals = int ∷ [];
  start = in_order (act (reach name) ∷ set 0 (static_object name T) ∷ set 1 (number (pos n)) ∷ int_local 2 0 1
      ++ act (build (codes "__ct__1TFi") (function_type (int ∷ []) void) 0 (0 ∷ [])) ∷ act (finish_static name) ∷ []);
  owner = None;
  is_constant = false;
  is_shared = false;
  is_local = false;
}

abbrev shared_functions : List PlainFunction
shared_functions = map (λ (f : PlainFunction). record f { is_shared = true }) loud_functions

abbrev two_files : List PlainFile
two_files =
    record { classes = loud; functions = shared_functions; statics = static_T (codes "t") 1 ∷ [] }
    ∷ record {
      classes = loud;
      functions = record (function_of (codes "f__Fv") [] int [] (set 0 (number (pos 2)) ∷ give (Some 0) ∷ [])) { is_local = true }
          ∷ function_of (codes "__main") [] int [] (set 0 (called (codes "f__Fv") [] []) ∷ give (Some 0) ∷ []) ∷ shared_functions;
      statics = static_T (codes "s") 2 ∷ [];
    } ∷ []

files_in_order : shown_of (files_mean two_files [] 0 9 20) ≡ Some (record { end = Ended (pos 2); out = codes "c1c2d2d1" })
unfolding digits
files_in_order = refl

files_define :
    defined_names two_files
    ≡ codes "__ct__1TFi" ∷ codes "__dt__1TFv" ∷ codes "t" ∷ codes "f__Fv__u2" ∷ codes "__main" ∷ codes "__ct__1TFi" ∷ codes "__dt__1TFv" ∷ codes "s" ∷ []
unfolding digits
files_define = refl

-- struct A{virtual ~A();};A a; uses its destructor as an object and in its table
destructor_is_used :
    uses_in (record { classes = A_class; functions = []; statics = record (static_T (codes "a") 1) { type = class (codes "1A"); start = nothing } ∷ [] })
    ≡ codes "__dt__1AFv" ∷ codes "__dt__1AFv" ∷ []
destructor_is_used = refl
