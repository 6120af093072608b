-- Small files of plain statements: each means what its C does.
use Rattle.std.proofs.Common.{◌≡◌, ℕ, List, [], ◌∷◌, ◌++◌, refl}
use Rattle.std.specs.Prelude.{pos, Option, Some, None, true, false, codes}
use Rattle.std.specs.Fmt.{digits}
use Rattle.cf_base.specs.declared.kind.Kind.TheVariants.{Char, UChar, Int}
use Rattle.cf_base.specs.declared.arith.Arith.TheVariants as op
use Rattle.cf_base.specs.World.{Outcome}
use Rattle.cf_core.specs.declared.operators.PointerOperator.TheVariants as ptr
use Rattle.cf_core.specs.Types.{Name, SourceType, integer, array, pointer, takes, gives}
use Rattle.cf_core.specs.Core.{plain_function, arithmetic}
use Rattle.cf_plain.specs.Plain.{Action, Plain, Plains, PlainFunction, PlainStatic, PlainFile, nothing, more, act, set, branch, loop, switch, case_label, default_label, leave, continue, give, number, text, local, read, decay, index, convert, operate, store, declare, first, finish, call, pointer_call, function, changed, static_object, reach, finish_static, dereference, pointer_operate}
use Rattle.cf_plain.specs.Joined.{files_mean}
use Rattle.cc_whole.specs.declared.types.CType.TheVariants as ty
use Rattle.cc_whole.specs.Plain.{Item, Statement, named, load, by_name, call as c_call, give as c_give, defines, body, in_order}
use Rattle.cc_whole.specs.Types.{same_type}
use Rattle.cc_whole.specs.ValidUnit.{valid_items}
use Rattle.cc_whole_mean.specs.Start.{mean_of}
use Rattle.cf_lower.specs.Functions.{scalar, lowered_file}

abbrev pub statements : List Plain → Plains
statements [] = nothing
statements (s ∷ ss) = more s (statements ss)

abbrev pub function_type : List SourceType → SourceType → SourceType
function_type [] t = gives t false
function_type (p ∷ ps) t = takes p (function_type ps t)

abbrev pub int : SourceType
int = integer Int

abbrev pub function_of : Name → List SourceType → SourceType → List SourceType → List Plain → PlainFunction
function_of name ps t locals ss = record {
  name = name;
  role = plain_function;
  type = function_type ps t;
  locals = locals;
  body = statements ss;
  is_shared = false;
  is_local = false;
}

abbrev pub main_of : List SourceType → List Plain → PlainFunction
main_of locals ss = function_of (codes "__main") [] int locals ss

abbrev pub file : List PlainFunction → List PlainStatic → PlainFile
file fs xs = record { classes = []; functions = fs; statics = xs }

abbrev pub of_main : List SourceType → List Plain → PlainFile
of_main locals ss = file (main_of locals ss ∷ []) []

abbrev pub constant : Name → SourceType → List Plain → PlainStatic
constant name t ss = record {
  name = name;
  type = t;
  locals = [];
  start = statements (act (reach name) ∷ set 0 (static_object name t) ∷ ss ++ act (finish_static name) ∷ []);
  owner = None;
  is_constant = true;
  is_shared = false;
  is_local = false;
}

-- the `main` that linking adds, with the constants or without
abbrev pub main_item : List Statement → Item
main_item before = defines (record {
  is_shared = false;
  prototype = record { is_static = false; result = Some ty.Int; name = codes "main"; parameters = [] };
  body = body (scalar ty.Int (codes "r") ∷ [])
      (in_order (before ++ c_call (Some (named (codes "r"))) (by_name (codes "__main")) [] ∷ c_give (Some (load (named (codes "r")))) ∷ []));
})

abbrev pub items : PlainFile → List Item
items f = lowered_file f ++ main_item [] ∷ []

abbrev pub with_constants : PlainFile → List Item
with_constants f = lowered_file f ++ main_item (c_call None (by_name (codes "__hci")) [] ∷ []) ∷ []

abbrev pub source : PlainFile → ℕ → Option Outcome
source f n = files_mean (f ∷ []) (codes "hi") 1048576 64 n

abbrev pub target : List Item → ℕ → Outcome
target is n = mean_of is (codes "hi") 1048576 64 n

-- int main(){return 7;}
abbrev seven : PlainFile
seven = of_main [] (set 0 (number (pos 7)) ∷ give (Some 0) ∷ [])

seven-agrees : source seven 1 ≡ Some (target (items seven) 1)
unfolding digits
seven-agrees = refl

seven-valid : valid_items (items seven) ≡ true
unfolding digits same_type
seven-valid = refl

-- an int local i with the value of a register
abbrev pub int_local : ℕ → ℕ → ℕ → List Plain
int_local r i q = set r (declare i int) ∷ act (first r q) ∷ []

abbrev pub value_of : ℕ → ℕ → ℕ → List Plain
value_of r q i = set r (local i) ∷ set q (read r) ∷ []

-- int main(){int s=0;int i=0;for(;i<5;i++){if(i==2)continue;s+=i;}return s;}
abbrev sum_to_four : PlainFile
sum_to_four = of_main (int ∷ int ∷ [])
    (set 1 (number (pos 0)) ∷ int_local 0 0 1 ++ set 1 (number (pos 0)) ∷ int_local 0 1 1
    ++ loop (statements (value_of 2 3 1 ++ set 4 (number (pos 5)) ∷ set 5 (operate op.Less Int 3 4) ∷ branch 5 nothing (statements (leave ∷ []))
    ∷ value_of 2 3 1 ++ set 4 (number (pos 2)) ∷ set 5 (operate op.Equal Int 3 4) ∷ branch 5 (statements (continue ∷ [])) nothing
    ∷ set 6 (local 0) ∷ value_of 2 3 1 ++ set 7 (read 6) ∷ set 8 (changed (arithmetic op.Add Int Int) 7 3) ∷ act (store 6 8) ∷ []))
    (statements (set 2 (local 1) ∷ set 3 (read 2) ∷ set 4 (number (pos 1)) ∷ set 5 (changed (arithmetic op.Add Int Int) 3 4) ∷ act (store 2 5) ∷ []))
    ∷ value_of 2 3 0 ++ act (finish int 1) ∷ act (finish int 0) ∷ give (Some 3) ∷ [])

sum-agrees : source sum_to_four 7 ≡ Some (target (items sum_to_four) 7)
unfolding digits
sum-agrees = refl

sum-out-of-ticks : source sum_to_four 6 ≡ Some (target (items sum_to_four) 6)
unfolding digits
sum-out-of-ticks = refl

sum-valid : valid_items (items sum_to_four) ≡ true
unfolding digits same_type
sum-valid = refl

-- ---- calls

-- what stands in a register is put, by a parameter's object of this number
abbrev put : ℕ → ℕ → ℕ → List Plain
put r q i = set r (declare i int) ∷ act (first r q) ∷ act (call (codes "putchar") (function_type (int ∷ []) int) None (i ∷ []) None) ∷ []

abbrev pub called : Name → List SourceType → List ℕ → Action
called name ps is = call name (function_type ps int) None is None

-- int g(int a){putchar('0'+a);return a;}int f(int a,int b){return a+b;}int main(){return f(g(1),g(2));}
abbrev arguments : PlainFile
arguments = file
    (function_of (codes "g__Fi") (int ∷ []) int (int ∷ [])
    (set 0 (number (pos 48)) ∷ value_of 1 2 0 ++ set 3 (operate op.Add Int 0 2) ∷ put 4 3 1 ++ value_of 1 2 0 ++ act (finish int 0) ∷ give (Some 2) ∷ [])
    ∷ function_of (codes "f__Fii") (int ∷ int ∷ []) int []
    (value_of 0 1 0 ++ value_of 0 2 1 ++ set 3 (operate op.Add Int 1 2) ∷ act (finish int 1) ∷ act (finish int 0) ∷ give (Some 3) ∷ [])
    ∷ main_of (int ∷ int ∷ int ∷ int ∷ [])
    (set 0 (declare 0 int) ∷ set 1 (number (pos 1)) ∷ int_local 2 1 1 ++ set 3 (called (codes "g__Fi") (int ∷ []) (1 ∷ [])) ∷ act (first 0 3)
    ∷ set 4 (declare 2 int) ∷ set 1 (number (pos 2)) ∷ int_local 2 3 1 ++ set 3 (called (codes "g__Fi") (int ∷ []) (3 ∷ [])) ∷ act (first 4 3)
    ∷ set 5 (called (codes "f__Fii") (int ∷ int ∷ []) (0 ∷ 2 ∷ [])) ∷ give (Some 5) ∷ []) ∷ []) []

arguments-agrees : source arguments 4 ≡ Some (target (items arguments) 4)
unfolding digits
arguments-agrees = refl

arguments-out-of-ticks : source arguments 3 ≡ Some (target (items arguments) 3)
unfolding digits
arguments-out-of-ticks = refl

arguments-valid : valid_items (items arguments) ≡ true
unfolding digits same_type
arguments-valid = refl

-- int h(int a){return a+1;}int main(){int(*p)(int)=h;return p(4);}
abbrev pub h_type : SourceType
h_type = function_type (int ∷ []) int

abbrev by_pointer : PlainFile
by_pointer = file
    (function_of (codes "h__Fi") (int ∷ []) int []
    (value_of 0 1 0 ++ set 2 (number (pos 1)) ∷ set 1 (operate op.Add Int 1 2) ∷ act (finish int 0) ∷ give (Some 1) ∷ [])
    ∷ main_of (pointer h_type ∷ int ∷ [])
    (set 0 (declare 0 (pointer h_type)) ∷ set 1 (function (codes "h__Fi") h_type) ∷ act (first 0 1)
    ∷ set 0 (local 0) ∷ set 0 (read 0) ∷ set 0 (dereference 0) ∷ set 1 (declare 1 int) ∷ set 2 (number (pos 4)) ∷ act (first 1 2)
    ∷ set 0 (pointer_call None 0 h_type (1 ∷ []) None) ∷ give (Some 0) ∷ []) ∷ []) []

by_pointer-agrees : source by_pointer 2 ≡ Some (target (items by_pointer) 2)
unfolding digits
by_pointer-agrees = refl

by_pointer-valid : valid_items (items by_pointer) ≡ true
unfolding digits same_type
by_pointer-valid = refl

-- ---- arrays and pointers

abbrev three : SourceType
three = array int 3

-- int main(){int a[3];int*p=a;p=p+K;*p=5;return a[K]+(p-a);}
abbrev in_array : ℕ → PlainFile
in_array k = of_main (three ∷ pointer int ∷ [])
    (set 0 (declare 0 three) ∷ set 0 (declare 1 (pointer int)) ∷ set 1 (local 0) ∷ set 1 (decay 1) ∷ act (first 0 1)
    ∷ set 0 (local 1) ∷ set 1 (local 1) ∷ set 1 (read 1) ∷ set 2 (number (pos k)) ∷ set 1 (pointer_operate ptr.Add 1 2) ∷ act (store 0 1)
    ∷ set 0 (local 1) ∷ set 0 (read 0) ∷ set 0 (dereference 0) ∷ set 1 (number (pos 5)) ∷ act (store 0 1)
    ∷ set 0 (local 0) ∷ set 0 (decay 0) ∷ set 1 (number (pos k)) ∷ set 0 (index 0 1) ∷ set 0 (read 0)
    ∷ set 1 (local 1) ∷ set 1 (read 1) ∷ set 2 (local 0) ∷ set 2 (decay 2) ∷ set 1 (pointer_operate ptr.Difference 1 2) ∷ set 0 (operate op.Add Int 0 1)
    ∷ act (finish (pointer int) 1) ∷ act (finish three 0) ∷ give (Some 0) ∷ [])

in_array-agrees : source (in_array 2) 1 ≡ Some (target (items (in_array 2)) 1)
unfolding digits
in_array-agrees = refl

in_array-valid : valid_items (items (in_array 2)) ≡ true
unfolding digits same_type
in_array-valid = refl

-- a write behind the end is undefined in both, by acts of one number
behind-the-end-agrees : source (in_array 3) 1 ≡ Some (target (items (in_array 3)) 1)
unfolding digits
behind-the-end-agrees = refl

-- int main(){int x;return x;}
abbrev without_value : PlainFile
without_value = of_main (int ∷ []) (set 0 (declare 0 int) ∷ value_of 1 2 0 ++ give (Some 2) ∷ [])

without_value-agrees : source without_value 1 ≡ Some (target (items without_value) 1)
unfolding digits
without_value-agrees = refl

-- ---- small integers, a switch, constants

-- int main(){unsigned char c=300;switch(c){case 1:return 9;case 44:putchar(c);default:return c+1;}}
abbrev small : PlainFile
small = of_main (integer UChar ∷ int ∷ [])
    (set 0 (declare 0 (integer UChar)) ∷ set 1 (number (pos 300)) ∷ set 1 (convert (integer UChar) 1) ∷ act (first 0 1)
    ∷ set 0 (local 0) ∷ set 0 (read 0) ∷ set 0 (convert int 0)
    ∷ switch 0 (statements (case_label (pos 1) ∷ set 0 (number (pos 9)) ∷ give (Some 0) ∷ case_label (pos 44) ∷ set 0 (local 0) ∷ set 0 (read 0) ∷ set 0 (convert int 0) ∷ put 1 0 1
    ++ default_label ∷ set 0 (local 0) ∷ set 0 (read 0) ∷ set 0 (convert int 0) ∷ set 1 (number (pos 1)) ∷ set 0 (operate op.Add Int 0 1) ∷ give (Some 0) ∷ []))
    ∷ [])

small-agrees : source small 1 ≡ Some (target (items small) 1)
unfolding digits
small-agrees = refl

small-valid : valid_items (items small) ≡ true
unfolding digits same_type
small-valid = refl

-- int a[2]={4,5};char*s="ab";int*p=a+1;int main(){putchar(*s);return *p+s[1];}
abbrev char : SourceType
char = integer Char

abbrev two : SourceType
two = array int 2

abbrev constants : PlainFile
constants = file
    (main_of (int ∷ [])
    (set 0 (static_object (codes "s") (pointer char)) ∷ set 0 (read 0) ∷ set 0 (dereference 0) ∷ set 0 (read 0) ∷ set 0 (convert int 0) ∷ put 1 0 0
    ++ set 0 (static_object (codes "p") (pointer int)) ∷ set 0 (read 0) ∷ set 0 (dereference 0) ∷ set 0 (read 0)
    ∷ set 1 (static_object (codes "s") (pointer char)) ∷ set 1 (read 1) ∷ set 2 (number (pos 1)) ∷ set 1 (index 1 2) ∷ set 1 (read 1) ∷ set 1 (convert int 1)
    ∷ set 0 (operate op.Add Int 0 1) ∷ give (Some 0) ∷ []) ∷ [])
    (constant (codes "a") two
    (set 1 (decay 0) ∷ set 2 (number (pos 0)) ∷ set 1 (index 1 2) ∷ set 2 (number (pos 4)) ∷ act (first 1 2)
    ∷ set 1 (decay 0) ∷ set 2 (number (pos 1)) ∷ set 1 (index 1 2) ∷ set 2 (number (pos 5)) ∷ act (first 1 2) ∷ [])
    ∷ constant (codes "s") (pointer char) (set 1 (text 0 (97 ∷ 98 ∷ 0 ∷ [])) ∷ set 1 (decay 1) ∷ act (first 0 1) ∷ [])
    ∷ constant (codes "p") (pointer int)
    (set 1 (static_object (codes "a") two) ∷ set 1 (decay 1) ∷ set 2 (number (pos 1)) ∷ set 1 (pointer_operate ptr.Add 1 2) ∷ act (first 0 1) ∷ []) ∷ [])

constants-agrees : source constants 1 ≡ Some (target (with_constants constants) 1)
unfolding digits
constants-agrees = refl

constants-valid : valid_items (with_constants constants) ≡ true
unfolding digits same_type
constants-valid = refl
