-- Programs with the free store, arrays of objects and static objects, and what each run shows.
use Rattle.std.proofs.Common.{◌≡◌, ℕ, [], ◌∷◌, refl}
use Rattle.std.specs.Prelude.{pos, negsuc, Some, codes}
use Rattle.cf_base.specs.declared.kind.Kind.{Kind}
use Rattle.cf_base.specs.declared.kind.Kind.TheVariants.{Int, Char, SChar, UChar}
use Rattle.cf_base.specs.declared.arith.Arith.TheVariants as op
use Rattle.cf_base.specs.Event.{Ended, Ticks}
use Rattle.cf_core.specs.declared.operators.PointerOperator.TheVariants as ptr
use Rattle.cf_core.specs.declared.operators.LoopForm.TheVariants as form
use Rattle.cf_core.specs.Types.{SourceType, integer, void, class, pointer, array, const}
use Rattle.cf_core.specs.Subobjects.{base}
use Rattle.cf_core.specs.Core.{Core, within, absent, given, no_parts, part, text, this, local, member, read, address, decay, index, conditional, convert, up, operate, pointer_operate, store, new, new_array, delete, delete_array, each, list, string, zeros, blank, full, declare, once, branch, loop, static_object}
use Rattle.cf_core.specs.Calls.{Program}
use Rattle.cf_core.specs.Program.{Mean}
use Rattle.cf_core.proofs.Sample.{int, function_of, listed, in_block, main_of, program, static_of, returns, num, add, put, put_code, put_digit, value_of, set, called, built, base_of, plain_class, built_class, virtual_function, nonvirtual_function, constructor_of, destructor_of, shown_of, run}

-- struct N{int a[10];};int main(){int i;N*p=0;N*q;for(i=0;i<3;i=i+1){q=new N;putchar(q?'1':'0');if(q)p=q;}
-- delete p;q=new N;putchar(q?'1':'0');return 0;}
abbrev N : SourceType
N = class (codes "1N")

abbrev put_whether : Core
put_whether = put (conditional (value_of 2) (num 49) (num 48))

abbrev pub three_objects : Program
three_objects = program (plain_class (codes "1N") [] (array int 10 ∷ []) ∷ [])
    (main_of (declare 0 int blank ∷ declare 1 (pointer N) (convert (pointer N) (num 0)) ∷ declare 2 (pointer N) blank
    ∷ set (local 0) (num 0)
    ∷ loop form.While (given (operate op.Less Int (value_of 0) (num 3))) (given (store (local 0) (add (value_of 0) (num 1))))
    (in_block (set (local 2) (new N blank) ∷ put_whether ∷ branch (value_of 2) (set (local 1) (value_of 2)) absent ∷ []))
    ∷ full (delete N (value_of 1)) ∷ set (local 2) (new N blank) ∷ put_whether ∷ returns (num 0) ∷ []) ∷ []) []

heap_of_100_bytes_holds_two : shown_of (Mean three_objects [] 100 1024 20) ≡ Some (record { end = Ended (pos 0); out = codes "1101" })
heap_of_100_bytes_holds_two = refl

-- struct A{virtual ~A(){putchar('a');}};struct B:A{int x[3];~B(){putchar('b');}};int main(){A*p=new B;delete p;return 0;}
delete_through_virtual_destructor :
    run (program
    (built_class (codes "1A") [] [] (virtual_function (codes "__dt__Fv") (codes "__dt__1AFv") ∷ []) (Some (codes "__dt__1AFv"))
    ∷ built_class (codes "1B") (base_of (codes "1A") ∷ []) (array int 3 ∷ []) (virtual_function (codes "__dt__Fv") (codes "__dt__1BFv") ∷ []) (Some (codes "__dt__1BFv")) ∷ [])
    (constructor_of (codes "1A") (codes "__ct__1AFv") [] no_parts []
    ∷ constructor_of (codes "1B") (codes "__ct__1BFv") [] (part (within (base 0)) (built (codes "__ct__1AFv") [] []) no_parts) []
    ∷ destructor_of (codes "1A") (codes "__dt__1AFv") (put_code 97 ∷ []) ∷ destructor_of (codes "1B") (codes "__dt__1BFv") (put_code 98 ∷ [])
    ∷ main_of (declare 0 (pointer (class (codes "1A"))) (up (base 0 ∷ []) (new (class (codes "1B")) (built (codes "__ct__1BFv") [] [])))
    ∷ full (delete (class (codes "1A")) (value_of 0)) ∷ returns (num 0) ∷ []) ∷ []) []) 20
    ≡ Some (record { end = Ended (pos 0); out = codes "ba" })
delete_through_virtual_destructor = refl

-- struct T{T(){putchar('+');}~T(){putchar('-');}};int main(){T*p=new T[3];delete[]p;return 0;}
abbrev T : SourceType
T = class (codes "1T")

abbrev pub array_of_three : Program
array_of_three = program (built_class (codes "1T") [] [] (nonvirtual_function (codes "__dt__Fv") (codes "__dt__1TFv") ∷ []) (Some (codes "__dt__1TFv")) ∷ [])
    (constructor_of (codes "1T") (codes "__ct__1TFv") [] no_parts (put_code 43 ∷ []) ∷ destructor_of (codes "1T") (codes "__dt__1TFv") (put_code 45 ∷ [])
    ∷ main_of (declare 0 (pointer T) (new_array T (num 3) (each (built (codes "__ct__1TFv") [] [])))
    ∷ full (delete_array T (value_of 0)) ∷ returns (num 0) ∷ []) ∷ []) []

each_element_spends_a_tick : run array_of_three 13 ≡ Some (record { end = Ended (pos 0); out = codes "+++---" })
each_element_spends_a_tick = refl

no_tick_for_the_last_element : run array_of_three 12 ≡ Some (record { end = Ticks; out = codes "+++--" })
no_tick_for_the_last_element = refl

-- int main(){T a[2][2];return 0;}: main, six elements built at two levels, and as many destroyed
abbrev pub array_of_arrays : Program
array_of_arrays = program (built_class (codes "1T") [] [] (nonvirtual_function (codes "__dt__Fv") (codes "__dt__1TFv") ∷ []) (Some (codes "__dt__1TFv")) ∷ [])
    (constructor_of (codes "1T") (codes "__ct__1TFv") [] no_parts (put_code 43 ∷ []) ∷ destructor_of (codes "1T") (codes "__dt__1TFv") (put_code 45 ∷ [])
    ∷ main_of (declare 0 (array (array T 2) 2) (each (each (built (codes "__ct__1TFv") [] []))) ∷ returns (num 0) ∷ []) ∷ []) []

elements_count_at_each_level : run array_of_arrays 21 ≡ Some (record { end = Ended (pos 0); out = codes "++++----" })
elements_count_at_each_level = refl

one_tick_less : run array_of_arrays 20 ≡ Some (record { end = Ticks; out = codes "++++---" })
one_tick_less = refl

-- int main(){T*p=new T[0];delete[]p;return p==0;}
no_element_has_a_place :
    run (program (built_class (codes "1T") [] [] [] (Some (codes "__dt__1TFv")) ∷ [])
    (main_of (declare 0 (pointer T) (new_array T (num 0) (each (built (codes "__ct__1TFv") [] [])))
    ∷ declare 1 int (pointer_operate ptr.Equal (value_of 0) (convert (pointer T) (num 0)))
    ∷ full (delete_array T (value_of 0)) ∷ returns (value_of 1) ∷ []) ∷ []) []) 20
    ≡ Some (record { end = Ended (pos 0); out = [] })
no_element_has_a_place = refl

-- struct S{int n;S(int a){n=a;putchar('a'+a);}~S(){putchar('A'+n);}};
-- one file with S s1(0); and one with S s2(1);void f(){static S s3(2);exit(3);}int main(){S l(3);f();return 0;}
abbrev S : SourceType
S = class (codes "1S")

abbrev S_by : ℕ → Core
S_by n = built (codes "__ct__1SFi") (int ∷ []) (num n ∷ [])

abbrev pub three_statics : Program
three_statics = record {
  classes = built_class (codes "1S") [] (int ∷ []) (nonvirtual_function (codes "__dt__Fv") (codes "__dt__1SFv") ∷ []) (Some (codes "__dt__1SFv")) ∷ [];
  functions =
      constructor_of (codes "1S") (codes "__ct__1SFi") (int ∷ []) no_parts (set (member this 0) (value_of 0) ∷ put (add (num 97) (value_of 0)) ∷ [])
      ∷ destructor_of (codes "1S") (codes "__dt__1SFv") (put (add (num 65) (read (member this 0))) ∷ [])
      ∷ function_of (codes "f__Fv") [] void (in_block (once (codes "s3__L1__f__Fv") (S_by 2) ∷ full (called (codes "exit") (int ∷ []) void (num 3 ∷ [])) ∷ []))
      ∷ main_of (declare 0 S (S_by 3) ∷ full (called (codes "f__Fv") [] void []) ∷ returns (num 0) ∷ []) ∷ [];
  statics = static_of (codes "s1") S ∷ static_of (codes "s2") S ∷ static_of (codes "s3__L1__f__Fv") S ∷ [];
  constants = [];
  initialisers =
      function_of (codes "__sti__u1") [] void (in_block (once (codes "s1") (S_by 0) ∷ []))
      ∷ function_of (codes "__sti__u2") [] void (in_block (once (codes "s2") (S_by 1) ∷ [])) ∷ [];
}

statics_end_in_reverse : run three_statics 30 ≡ Some (record { end = Ended (pos 3); out = codes "abdcCBA" })
statics_end_in_reverse = refl

-- int f();int x=f();int main(){return x;} and int y=3;int f(){return y+1;}
constants_come_first :
    run (record {
      classes = [];
      functions = main_of (returns (read (static_object (codes "x") int)) ∷ [])
          ∷ function_of (codes "f__Fv") [] int (in_block (returns (add (read (static_object (codes "y") int)) (num 1)) ∷ [])) ∷ [];
      statics = static_of (codes "x") int ∷ static_of (codes "y") int ∷ [];
      constants = record { function = codes "__sti__u2"; object = codes "y"; start = num 3 } ∷ [];
      initialisers = function_of (codes "__sti__u1") [] void (in_block (once (codes "x") (called (codes "f__Fv") [] int []) ∷ [])) ∷ [];
    }) 10
    ≡ Some (record { end = Ended (pos 4); out = [] })
constants_come_first = refl

-- int c(){putchar('c');return 5;}int g(){static int s=c();s=s+1;return s;}int main(){g();return g();}
local_static_is_initialised_once :
    run (program []
    (function_of (codes "c__Fv") [] int (in_block (put_code 99 ∷ returns (num 5) ∷ []))
    ∷ function_of (codes "g__Fv") [] int (in_block (once (codes "s__L1__g__Fv") (called (codes "c__Fv") [] int [])
    ∷ set (static_object (codes "s__L1__g__Fv") int) (add (read (static_object (codes "s__L1__g__Fv") int)) (num 1))
    ∷ returns (read (static_object (codes "s__L1__g__Fv") int)) ∷ []))
    ∷ main_of (full (called (codes "g__Fv") [] int []) ∷ returns (called (codes "g__Fv") [] int []) ∷ []) ∷ [])
    (static_of (codes "s__L1__g__Fv") int ∷ [])) 10
    ≡ Some (record { end = Ended (pos 7); out = codes "c" })
local_static_is_initialised_once = refl

-- char s[4]="ab";int main(){const char*p="ab";return (s[1]==p[1])*10+s[3];} with s a local
strings_fill_with_zeros :
    run (program [] (main_of (declare 0 (array (integer Char) 4) (string (codes "ab"))
    ∷ declare 1 (pointer (const (integer Char))) (decay (text 1 (97 ∷ 98 ∷ 0 ∷ [])))
    ∷ returns (add (operate op.Multiply Int (operate op.Equal Int (convert int (read (index (decay (local 0)) (num 1)))) (convert int (read (index (value_of 1) (num 1))))) (num 10))
    (convert int (read (index (decay (local 0)) (num 3))))) ∷ []) ∷ []) []) 10
    ≡ Some (record { end = Ended (pos 10); out = [] })
strings_fill_with_zeros = refl

-- int main(){unsigned char s[2]="\310";return s[0];}, and the same with the other kinds of characters
abbrev byte_of : Kind → Program
byte_of k = program [] (main_of (declare 0 (array (integer k) 2) (string (200 ∷ [])) ∷ returns (convert int (read (index (decay (local 0)) (num 0)))) ∷ []) ∷ []) []

byte_of_unsigned_char : run (byte_of UChar) 10 ≡ Some (record { end = Ended (pos 200); out = [] })
byte_of_unsigned_char = refl

byte_of_signed_char : run (byte_of SChar) 10 ≡ Some (record { end = Ended (negsuc 55); out = [] })
byte_of_signed_char = refl

byte_of_char : run (byte_of Char) 10 ≡ Some (record { end = Ended (negsuc 55); out = [] })
byte_of_char = refl

-- struct D{D*q;~D(){putchar('0'+(q+0-this));}};int main(){D a[2];a[0].q=&a[1];a[1].q=&a[1];return 0;}: a[1] is destroyed first
abbrev D : SourceType
D = class (codes "1D")

abbrev element : ℕ → Core
element n = index (decay (local 0)) (num n)

destroyed_elements_are_counted :
    run (program (record (plain_class (codes "1D") [] (pointer D ∷ [])) { destructor = Some (codes "__dt__1DFv") } ∷ [])
    (destructor_of (codes "1D") (codes "__dt__1DFv")
    (put_digit (pointer_operate ptr.Difference (pointer_operate ptr.Add (read (member this 0)) (num 0)) this) ∷ [])
    ∷ main_of (declare 0 (array D 2) blank ∷ set (member (element 0) 0) (address (element 1)) ∷ set (member (element 1) 0) (address (element 1))
    ∷ returns (num 0) ∷ []) ∷ []) []) 20
    ≡ Some (record { end = Ended (pos 0); out = codes "01" })
destroyed_elements_are_counted = refl

-- int main(){int a[2][2]={{1,2},{3}};return a[1][0]*10+a[1][1];}
rest_of_a_list_is_zero :
    run (program [] (main_of (declare 0 (array (array int 2) 2) (list (listed (list (listed (num 1 ∷ num 2 ∷ [])) zeros ∷ list (listed (num 3 ∷ [])) zeros ∷ [])) zeros)
    ∷ returns (add (operate op.Multiply Int (read (index (decay (index (decay (local 0)) (num 1))) (num 0))) (num 10))
    (read (index (decay (index (decay (local 0)) (num 1))) (num 1)))) ∷ []) ∷ []) []) 10
    ≡ Some (record { end = Ended (pos 30); out = [] })
rest_of_a_list_is_zero = refl
