-- Orders of evaluation, and static objects with constant initialisers: cores and their plain statements show the same.
use Rattle.std.proofs.Common.{◌≡◌, ℕ, List, [], ◌∷◌, refl}
use Rattle.std.specs.Prelude.{pos, codes, true, false}
use Rattle.std.specs.List.{list_all}
use Rattle.cf_base.specs.declared.kind.Kind.TheVariants.{Int, Char}
use Rattle.cf_base.specs.declared.arith.Arith.TheVariants as op
use Rattle.cf_base.specs.Event.{Ended, Undefined}
use Rattle.cf_core.specs.declared.operators.PointerOperator.TheVariants as pointer_op
use Rattle.cf_core.specs.Types.{SourceType, integer, array, pointer}
use Rattle.cf_core.specs.Core.{Core, Function, Static, CoreFile, absent, given, branch, convert, function, pointer_call, operate, switch, case_label, default_label, leave, static_object, address, read, dereference, local, decay, index, logical_and, logical_or, conditional, pointer_operate, comma, declare, blank, string, full, store, update, step, arithmetic}
use Rattle.cf_core.specs.Calls.{Program}
use Rattle.cf_core.proofs.Sample.{int, function_type, function_of, listed, in_block, main_of, program, static_of, returns, num, add, put_digit, value_of, set, called}
use Rattle.cf_sequence.specs.Built.{is_plainly_built, is_built_file}
use Rattle.cf_sequence.proofs.Sample.{Shows}

-- int p(int a){putchar('0'+a);return a;}
abbrev p : Function
p = function_of (codes "p__Fi") (int ∷ []) int (in_block (put_digit (value_of 0) ∷ returns (value_of 0) ∷ []))

abbrev shown : ℕ → Core
shown n = called (codes "p__Fi") (int ∷ []) int (num n ∷ [])

abbrev with_main : List Core → Program
with_main ss = program [] (p ∷ main_of ss ∷ []) []

-- int a[3];a[p(1)]=2;return a[p(1)]+p(3);: a subscript before the right operand
abbrev subscripts : Program
subscripts = with_main (declare 0 (array int 3) blank ∷ set (index (decay (local 0)) (num 1)) (num 2) ∷ returns (add (read (index (decay (local 0)) (shown 1))) (shown 3)) ∷ [])

subscript_before_the_right_operand : Shows subscripts [] 9 (record { end = Ended (pos 5); out = codes "13" })
subscript_before_the_right_operand = record { core = refl; plain = refl }

subscripts_are_built : is_plainly_built subscripts ≡ true
subscripts_are_built = refl

-- return p(p(1)+(p(2),p(3)));: an argument is evaluated as it stands
abbrev nested : Program
nested = with_main (returns (called (codes "p__Fi") (int ∷ []) int (add (shown 1) (comma (listed (shown 2 ∷ shown 3 ∷ []))) ∷ [])) ∷ [])

operands_of_an_argument : Shows nested [] 9 (record { end = Ended (pos 4); out = codes "1234" })
operands_of_an_argument = record { core = refl; plain = refl }

-- int x=1;return x++ +(p(0)&&x++)+x;: what is left out by `&&` changes nothing
abbrev left_out : Program
left_out = with_main (declare 0 int (num 1)
    ∷ returns (add (add (step true (arithmetic op.Add Int Int) (local 0)) (logical_and (shown 0) (step true (arithmetic op.Add Int Int) (local 0)))) (value_of 0)) ∷ [])

what_is_left_out_changes_nothing : Shows left_out [] 9 (record { end = Ended (pos 3); out = codes "0" })
what_is_left_out_changes_nothing = record { core = refl; plain = refl }

-- int a[2];a[0]=1;a[1]=2;a[p(0)]+=a[p(1)];return a[0];: the place of `+=` before its right side
abbrev compound : Program
compound = with_main (declare 0 (array int 2) blank ∷ set (index (decay (local 0)) (num 0)) (num 1) ∷ set (index (decay (local 0)) (num 1)) (num 2)
    ∷ full (update (index (decay (local 0)) (shown 0)) (arithmetic op.Add Int Int) (read (index (decay (local 0)) (shown 1))))
    ∷ returns (read (index (decay (local 0)) (num 0))) ∷ [])

place_before_the_right_side : Shows compound [] 9 (record { end = Ended (pos 3); out = codes "01" })
place_before_the_right_side = record { core = refl; plain = refl }

-- int x=1;return (p(1)||x++)+(p(0)||x++)+x;: what is left out by `||` changes nothing
abbrev up : Core → Core
up place = step true (arithmetic op.Add Int Int) place

abbrev either : Program
either = with_main (declare 0 int (num 1) ∷ returns (add (add (logical_or (shown 1) (up (local 0))) (logical_or (shown 0) (up (local 0)))) (value_of 0)) ∷ [])

right_side_only_where_the_left_is_0 : Shows either [] 9 (record { end = Ended (pos 4); out = codes "10" })
right_side_only_where_the_left_is_0 = record { core = refl; plain = refl }

-- int x=1;return (p(0)?x++:p(2))+x;: the condition, and then one arm alone
abbrev one_arm : Program
one_arm = with_main (declare 0 int (num 1) ∷ returns (add (conditional (shown 0) (up (local 0)) (shown 2)) (value_of 0)) ∷ [])

condition_before_one_arm : Shows one_arm [] 9 (record { end = Ended (pos 3); out = codes "02" })
condition_before_one_arm = record { core = refl; plain = refl }

-- int a=1;int b=2;(p(1)?a:b)=p(5);return a+b;: a place that is chosen, before the value
abbrev chosen_place : Program
chosen_place = with_main (declare 0 int (num 1) ∷ declare 1 int (num 2) ∷ set (conditional (shown 1) (local 0) (local 1)) (shown 5) ∷ returns (add (value_of 0) (value_of 1)) ∷ [])

chosen_place_before_the_value : Shows chosen_place [] 9 (record { end = Ended (pos 7); out = codes "15" })
chosen_place_before_the_value = record { core = refl; plain = refl }

-- int x;int*q(){putchar('7');return &x;}int main(){(*q())++;return ++*q()+x;}: the place of an increment is found once
abbrev counted : Program
counted = program []
    (function_of (codes "q__Fv") [] (pointer int) (in_block (put_digit (num 7) ∷ returns (address (static_object (codes "x") int)) ∷ []))
    ∷ main_of (full (up (dereference (called (codes "q__Fv") [] (pointer int) [])))
    ∷ returns (add (read (step false (arithmetic op.Add Int Int) (dereference (called (codes "q__Fv") [] (pointer int) [])))) (read (static_object (codes "x") int))) ∷ []) ∷ [])
    (static_of (codes "x") int ∷ [])

place_of_an_increment_once : Shows counted [] 9 (record { end = Ended (pos 4); out = codes "77" })
place_of_an_increment_once = record { core = refl; plain = refl }

-- int a[2];a[1]=4;return a[p(1)]++ +a[p(1)];: the place has its new value before the right operand
abbrev element : Core → Core
element i = index (decay (local 0)) i

abbrev raised : Program
raised = with_main (declare 0 (array int 2) blank ∷ set (element (num 1)) (num 4) ∷ returns (add (up (element (shown 1))) (read (element (shown 1)))) ∷ [])

new_value_before_the_right_operand : Shows raised [] 9 (record { end = Ended (pos 9); out = codes "11" })
new_value_before_the_right_operand = record { core = refl; plain = refl }

-- int a[2];a[p(0)]=a[p(1)]=p(2);return a[0]+a[1];: each place before the value on its right
abbrev chained : Program
chained = with_main (declare 0 (array int 2) blank ∷ set (element (shown 0)) (read (store (element (shown 1)) (shown 2)))
    ∷ returns (add (read (element (num 0))) (read (element (num 1)))) ∷ [])

places_before_values : Shows chained [] 9 (record { end = Ended (pos 4); out = codes "012" })
places_before_values = record { core = refl; plain = refl }

-- int a[3];return (a+p(2))-(a+p(1));: operands that are pointers
abbrev distance : Program
distance = with_main (declare 0 (array int 3) blank
    ∷ returns (pointer_operate pointer_op.Difference (pointer_operate pointer_op.Add (decay (local 0)) (shown 2)) (pointer_operate pointer_op.Add (decay (local 0)) (shown 1))) ∷ [])

pointers_left_to_right : Shows distance [] 9 (record { end = Ended (pos 1); out = codes "21" })
pointers_left_to_right = record { core = refl; plain = refl }

orders_are_built : list_all is_plainly_built (either ∷ one_arm ∷ chosen_place ∷ counted ∷ raised ∷ chained ∷ distance ∷ []) ≡ true
orders_are_built = refl

-- Initialisers that fill their object.

-- char s[4]="ab";return s[1]+s[3];
abbrev characters : Program
characters = with_main (declare 0 (array (integer Char) 4) (string (97 ∷ 98 ∷ [])) ∷ returns (add (read (element (num 1))) (read (element (num 3)))) ∷ [])

rest_of_a_literal_is_0 : Shows characters [] 9 (record { end = Ended (pos 98); out = [] })
rest_of_a_literal_is_0 = record { core = refl; plain = refl }

characters_are_built : is_plainly_built characters ≡ true
characters_are_built = refl

-- switch(p(z)){case 1:p(3);break;default:int y=p(4);return y+p(5);}return 7;: a local behind the last label
abbrev declaring : ℕ → Program
declaring z = with_main (switch (shown z) (listed (case_label (pos 1) ∷ full (shown 3) ∷ leave ∷ default_label ∷ declare 0 int (shown 4) ∷ returns (add (value_of 0) (shown 5)) ∷ []))
    ∷ returns (num 7) ∷ [])

label_before_a_declaration : Shows (declaring 2) [] 9 (record { end = Ended (pos 9); out = codes "245" })
label_before_a_declaration = record { core = refl; plain = refl }

declaration_that_is_not_reached : Shows (declaring 1) [] 9 (record { end = Ended (pos 7); out = codes "13" })
declaration_that_is_not_reached = record { core = refl; plain = refl }

locals_of_a_switch_are_built : is_plainly_built (declaring 1) ≡ true
locals_of_a_switch_are_built = refl

-- int*q;switch(1){case 1:int y=1;q=&y;break;}return *q;: the local has ended with the switch
abbrev left_by_break : Program
left_by_break = with_main (declare 0 (pointer int) blank
    ∷ switch (num 1) (listed (case_label (pos 1) ∷ declare 1 int (num 1) ∷ set (local 0) (address (local 1)) ∷ leave ∷ []))
    ∷ returns (read (dereference (value_of 0))) ∷ [])

local_ends_with_its_switch : Shows left_by_break [] 9 (record { end = Undefined 5; out = [] })
local_ends_with_its_switch = record { core = refl; plain = refl }

left_by_break_is_built : is_plainly_built left_by_break ≡ true
left_by_break_is_built = refl

-- int g(int a,int b){return a-b;} int main(){return (p(3),g)(p(2),p(1));}: the function before the arguments
abbrev two_ints : SourceType
two_ints = function_type (int ∷ int ∷ []) int

abbrev by_pointer : Program
by_pointer = program []
    (p ∷ function_of (codes "g__Fii") (int ∷ int ∷ []) int (in_block (returns (operate op.Subtract Int (value_of 0) (value_of 1)) ∷ []))
    ∷ main_of (returns (pointer_call absent (comma (listed (shown 3 ∷ function (codes "g__Fii") two_ints ∷ []))) two_ints (listed (shown 2 ∷ shown 1 ∷ []))) ∷ []) ∷ []) []

function_before_the_arguments : Shows by_pointer [] 9 (record { end = Ended (pos 1); out = codes "321" })
function_before_the_arguments = record { core = refl; plain = refl }

-- int main(){int(*h)(int,int);if(p(z))h=g;else h=0;return h(p(2),p(1));}: what the pointer holds is called, and null only behind the arguments
abbrev by_local : ℕ → Program
by_local z = program []
    (p ∷ function_of (codes "g__Fii") (int ∷ int ∷ []) int (in_block (returns (operate op.Subtract Int (value_of 0) (value_of 1)) ∷ []))
    ∷ main_of (declare 0 (pointer two_ints) blank
    ∷ branch (shown z) (set (local 0) (function (codes "g__Fii") two_ints)) (given (set (local 0) (convert (pointer two_ints) (num 0))))
    ∷ returns (pointer_call absent (value_of 0) two_ints (listed (shown 2 ∷ shown 1 ∷ []))) ∷ []) ∷ []) []

function_that_a_pointer_holds : Shows (by_local 3) [] 9 (record { end = Ended (pos 1); out = codes "321" })
function_that_a_pointer_holds = record { core = refl; plain = refl }

null_is_called_behind_its_arguments : Shows (by_local 0) [] 9 (record { end = Undefined 4; out = codes "021" })
null_is_called_behind_its_arguments = record { core = refl; plain = refl }

calls_through_pointers_are_built : list_all is_plainly_built (by_pointer ∷ by_local 0 ∷ []) ≡ true
calls_through_pointers_are_built = refl

-- Static objects.

abbrev started : Static → Core → Static
started x e = record x { start = e }

-- int x=3;int*q=&x;int main(){return *q+1;}, as a program: the constants take effect in order
abbrev constants : Program
constants = record (program [] (main_of (returns (add (read (static_object (codes "x") int)) (num 1)) ∷ []) ∷ []) (static_of (codes "x") int ∷ static_of (codes "q") (pointer int) ∷ [])) {
  constants = record { function = codes "__sti__u1"; object = codes "x"; start = num 3 }
      ∷ record { function = codes "__sti__u1"; object = codes "q"; start = address (static_object (codes "x") int) } ∷ [];
}

constants_first : Shows constants [] 1 (record { end = Ended (pos 4); out = [] })
constants_first = record { core = refl; plain = refl }

constants_are_built : is_plainly_built constants ≡ true
constants_are_built = refl

-- char t[3]="xy";int main(){return t[1];}
abbrev fixed_text : Program
fixed_text = record (program [] (main_of (returns (read (index (decay (static_object (codes "t") (array (integer Char) 3))) (num 1))) ∷ []) ∷ []) (static_of (codes "t") (array (integer Char) 3) ∷ [])) {
  constants = record { function = codes "__sti__u1"; object = codes "t"; start = string (120 ∷ 121 ∷ []) } ∷ [];
}

characters_of_a_static_object : Shows fixed_text [] 1 (record { end = Ended (pos 121); out = [] })
characters_of_a_static_object = record { core = refl; plain = refl }

such_objects_are_built : is_plainly_built fixed_text ≡ true
such_objects_are_built = refl

-- static int n=1;int f(){return n;} and static int n=2;int f();int main(){return f()+n;}: an object that is local to its file
abbrev local_n : Core → Static
local_n e = record (started (static_of (codes "n") int) e) { is_local = true }

abbrev read_n : Core
read_n = read (static_object (codes "n") int)

abbrev two_files : List CoreFile
two_files =
    record { classes = []; functions = function_of (codes "f__Fv") [] int (in_block (returns read_n ∷ [])) ∷ []; statics = local_n (num 1) ∷ [] }
    ∷ record { classes = []; functions = main_of (returns (add (called (codes "f__Fv") [] int []) read_n) ∷ []) ∷ []; statics = local_n (num 2) ∷ [] } ∷ []

such_files_are_built : list_all is_built_file two_files ≡ true
such_files_are_built = refl
