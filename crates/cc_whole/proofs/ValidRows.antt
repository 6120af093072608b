-- The rules of validity, evaluated on small units.
use Rattle.std.proofs.Common.{◌≡◌, ℕ, Bool, true, false, List, [], ◌∷◌, pos, negsuc, Option, Some, None, refl, codes}
use Rattle.cf_base.specs.declared.arith.Arith.TheVariants as op
use Rattle.cc_whole.specs.declared.types.CType.{CType}
use Rattle.cc_whole.specs.declared.types.CType.TheVariants as ty
use Rattle.cc_whole.specs.declared.types.CConstant.TheVariants as int
use Rattle.cc_whole.specs.declared.types.CVariableType.{CVariableType}
use Rattle.cc_whole.specs.declared.types.CVariableType.TheVariants as variable
use Rattle.cc_whole.specs.declared.types.CLocalType.TheVariants as «local»
use Rattle.cc_whole.specs.declared.statement.CLocal.{CLocal}
use Rattle.cc_whole.specs.declared.unit.CParameter.{CParameter}
use Rattle.cc_whole.specs.declared.unit.CInitialiser.{CInitialiser}
use Rattle.cc_whole.specs.declared.unit.CInitialiser.TheVariants as initialiser
use Rattle.cc_whole.specs.Plain.{named, pointed, Expression, constant, load, cast, address, binary, by_name, by_pointer, Statement, assign, call, leave, next, choose, loop, select, give, done, followed, closed, labelled, otherwise, stated, body, in_order, Item, declares, declares_variable, defines, defines_variable}
use Rattle.cc_whole.specs.Types.{same_type}
use Rattle.cc_whole.specs.Fault.{Checks, fine, broken}
use Rattle.cc_whole.specs.Valid.{first_fault}
use Rattle.cc_whole.specs.ValidUnit.{valid_program_items}

abbrev var : List ℕ → Expression
var name = load (named name)

abbrev number : ℕ → Expression
number n = constant (int.Signed (pos n))

abbrev parameter : CType → List ℕ → CParameter
parameter t name = record { ty = t; name = name }

abbrev local_of : CType → List ℕ → CLocal
local_of t name = record { ty = «local».Scalar t; name = name }

abbrev declared : Option CType → List ℕ → List CParameter → Item
declared result name ps = declares (record { is_static = false; result = result; name = name; parameters = ps })

abbrev function : Option CType → List ℕ → List CParameter → List CLocal → List Statement → Item
function result name ps xs all = defines (record {
  is_shared = false;
  prototype = record { is_static = false; result = result; name = name; parameters = ps };
  body = body xs (in_order all);
})

abbrev variable_of : Bool → Bool → CVariableType → List ℕ → Option CInitialiser → Item
variable_of shared static t name start =
    defines_variable (record { is_shared = shared; is_static = static; ty = t; name = name; initialiser = start })

-- `int f(void) { locals statements }`: three landmarks and `void` stand before the body
abbrev f : List CLocal → List Statement → Item
f xs all = function (Some ty.Int) (codes "f") [] xs all

abbrev x : List ℕ
x = codes "x"

abbrev p : List ℕ
p = codes "p"

abbrev faults : List CLocal → List Statement → Checks
faults xs all = first_fault (f xs all ∷ [])

abbrev with_x : List Statement → Checks
with_x all = faults (local_of ty.Int x ∷ []) all

abbrev with_p : List Statement → Checks
with_p all = faults (local_of ty.Int x ∷ local_of ty.Pointer p ∷ []) all

-- ---- V1

undeclared : with_x (assign (named x) (var (codes "y")) ∷ []) ≡ broken 1 6
undeclared = refl

own_name_is_declared : faults (local_of ty.Int x ∷ []) (call (Some (named x)) (by_name (codes "f")) [] ∷ []) ≡ fine
unfolding same_type
own_name_is_declared = refl

declared_behind : first_fault (f [] (call None (by_name (codes "g")) [] ∷ []) ∷ function None (codes "g") [] [] [] ∷ []) ≡ broken 1 3
declared_behind = refl

-- ---- V2

other_type : first_fault (declared (Some ty.Int) (codes "f") (parameter ty.Int x ∷ []) ∷ f [] [] ∷ []) ≡ broken 2 5
unfolding same_type
other_type = refl

defined_twice : first_fault (f [] [] ∷ f [] [] ∷ []) ≡ broken 2 4
unfolding same_type
defined_twice = refl

two_locals : faults (local_of ty.Int x ∷ local_of ty.Pointer x ∷ []) [] ≡ broken 2 6
two_locals = refl

two_parameters : first_fault (function None (codes "g") (parameter ty.UChar x ∷ parameter ty.Int x ∷ []) [] [] ∷ []) ≡ broken 2 6
two_parameters = refl

a_local_hides_a_parameter : first_fault (function None (codes "g") (parameter ty.Pointer x ∷ []) (local_of ty.Int x ∷ []) (assign (named x) (number 1) ∷ []) ∷ []) ≡ fine
unfolding same_type
a_local_hides_a_parameter = refl

-- ---- V3

number_and_pointer : with_p (assign (named p) (binary op.Add (number 1) (var p)) ∷ []) ≡ fine
unfolding same_type
number_and_pointer = refl

number_less_pointer : with_p (assign (named p) (binary op.Subtract (number 1) (var p)) ∷ []) ≡ broken 3 9
number_less_pointer = refl

pointer_times : with_p (assign (named x) (binary op.Multiply (var p) (number 1)) ∷ []) ≡ broken 3 8
pointer_times = refl

two_pointers : with_p (assign (named x) (binary op.Subtract (var p) (var p)) ∷ []) ≡ fine
unfolding same_type
two_pointers = refl

null_test : with_p (assign (named x) (binary op.Equal (var p) (number 0)) ∷ assign (named x) (binary op.NotEqual (number 0) (var (codes "f"))) ∷ []) ≡ fine
unfolding same_type
null_test = refl

function_less : with_x (assign (named x) (binary op.Less (var (codes "f")) (number 0)) ∷ []) ≡ broken 3 6
function_less = refl

function_assigned : with_x (assign (named (codes "f")) (number 0) ∷ []) ≡ broken 3 5
function_assigned = refl

address_is_a_pointer : with_x (assign (pointed ty.UShort (var x)) (number 0) ∷ []) ≡ broken 3 7
address_is_a_pointer = refl

address_of_function : with_x (assign (named x) (cast ty.Int (address (codes "f"))) ∷ []) ≡ broken 3 8
address_of_function = refl

calls_a_variable : with_x (call None (by_name x) [] ∷ []) ≡ broken 3 5
calls_a_variable = refl

calls_through_a_number : with_x (call None (by_pointer (record { result = None; parameters = [] }) (var x)) [] ∷ []) ≡ broken 3 7
calls_through_a_number = refl

condition_is_a_number : with_p (choose (var p) (body [] done) (body [] done) ∷ []) ≡ broken 3 8
condition_is_a_number = refl

string_in_ints : first_fault (variable_of false false (variable.Ints (int.Signed (pos 2))) x (Some (initialiser.Text (codes "ab"))) ∷ []) ≡ broken 3 3
string_in_ints = refl

-- ---- V4

pointer_to_number : with_p (assign (named x) (var p) ∷ []) ≡ broken 4 8
unfolding same_type
pointer_to_number = refl

null_to_pointer : with_p (assign (named p) (number 0) ∷ []) ≡ fine
unfolding same_type
null_to_pointer = refl

int_to_char : with_p (assign (pointed ty.Char (var p)) (number 1) ∷ assign (pointed ty.Char (var p)) (cast ty.Char (number 1)) ∷ []) ≡ broken 4 9
unfolding same_type
int_to_char = refl

no_result : first_fault (function None (codes "g") [] (local_of ty.Int x ∷ []) (call (Some (named x)) (by_name (codes "g")) [] ∷ []) ∷ []) ≡ broken 4 6
no_result = refl

-- ---- V5

too_many : with_x (call None (by_name (codes "f")) (number 1 ∷ []) ∷ []) ≡ broken 5 5
too_many = refl

null_argument : first_fault (declared None (codes "free") (parameter ty.Pointer p ∷ []) ∷ f [] (call None (by_name (codes "free")) (number 0 ∷ []) ∷ []) ∷ []) ≡ broken 5 8
unfolding same_type
null_argument = refl

-- ---- V6

no_value : faults [] (give None ∷ []) ≡ broken 6 3
no_value = refl

value_of_void : first_fault (function None (codes "g") [] [] (give (Some (number 1)) ∷ []) ∷ []) ≡ broken 6 3
value_of_void = refl

null_returned : first_fault (function (Some ty.FunctionPointer) (codes "g") [] [] (give (Some (number 0)) ∷ []) ∷ []) ≡ fine
unfolding same_type
null_returned = refl

-- ---- V7

break_outside : faults [] (leave ∷ []) ≡ broken 7 3
break_outside = refl

continue_in_switch : with_x (select (var x) (stated next closed) ∷ []) ≡ broken 7 7
continue_in_switch = refl

break_in_switch : with_x (select (var x) (stated leave closed) ∷ loop (body [] (followed next done)) ∷ []) ≡ fine
break_in_switch = refl

-- ---- V8

same_label : with_x (select (var x) (labelled (int.Signed (negsuc 0)) (labelled (int.Unsigned 4294967295) closed)) ∷ []) ≡ broken 8 9
same_label = refl

two_defaults : with_x (select (var x) (otherwise (labelled (int.Signed (pos 1)) (otherwise closed))) ∷ []) ≡ broken 8 10
two_defaults = refl

-- ---- V9

helper_calls_helper : first_fault (function None (codes "__hd1") [] [] (call None (by_name (codes "__hd1")) [] ∷ []) ∷ []) ≡ broken 9 3
helper_calls_helper = refl

helper_calls_through_pointer : first_fault (function None (codes "__h") [] []
    (call None (by_pointer (record { result = None; parameters = [] }) (number 0)) [] ∷ []) ∷ []) ≡ broken 9 3
helper_calls_through_pointer = refl

-- ---- V10

main_with_parameter : first_fault (declared (Some ty.Int) (codes "main") (parameter ty.Int x ∷ []) ∷ []) ≡ broken 10 1
unfolding same_type
main_with_parameter = refl

main_is_used : first_fault (declared (Some ty.Int) (codes "main") [] ∷ f [] (give (Some (cast ty.Int (var (codes "main")))) ∷ []) ∷ []) ≡ broken 10 8
unfolding same_type
main_is_used = refl

library_is_defined : first_fault (function (Some ty.Int) (codes "getchar") [] [] [] ∷ []) ≡ broken 10 1
unfolding same_type
library_is_defined = refl

start_is_a_variable : first_fault (variable_of false true (variable.Scalar ty.Int) (codes "__sti") None ∷ []) ≡ broken 10 2
start_is_a_variable = refl

-- ---- V11

no_element : first_fault (declares_variable (variable.Pairs (int.Signed (pos 0))) x ∷ []) ≡ broken 11 3
no_element = refl

most_elements : first_fault (declares_variable (variable.Ints (int.Signed (pos 4194304))) x ∷ []) ≡ fine
most_elements = refl

too_many_elements : first_fault (declares_variable (variable.Ints (int.Signed (pos 4194305))) x ∷ []) ≡ broken 11 2
too_many_elements = refl

-- the 0 at the end of a string isn't counted
string_fits : first_fault (variable_of false false (variable.Chars (int.Signed (pos 2))) x (Some (initialiser.Text (codes "ab"))) ∷ []) ≡ fine
string_fits = refl

string_too_long : first_fault (variable_of false false (variable.Chars (int.Signed (pos 2))) x (Some (initialiser.Text (codes "abc"))) ∷ []) ≡ broken 11 2
string_too_long = refl

int_too_large : with_x (assign (named x) (number 2147483648) ∷ []) ≡ broken 11 6
int_too_large = refl

unsigned_fits : faults (local_of ty.UInt x ∷ []) (assign (named x) (constant (int.Unsigned 4294967295)) ∷ []) ≡ fine
unfolding same_type
unsigned_fits = refl

-- ---- V12

shared_and_static : first_fault (variable_of true true (variable.Scalar ty.Int) x None ∷ []) ≡ broken 12 0
shared_and_static = refl

-- ---- pairs and programs

pairs_of_functions : first_fault (f [] [] ∷ variable_of false true (variable.Pairs (int.Signed (pos 2))) (codes "t")
    (Some (initialiser.Pairs (record { number = int.Signed (negsuc 7); function = Some (codes "f") } ∷ record { number = int.Signed (pos 0); function = None } ∷ []))) ∷ [])
    ≡ fine
pairs_of_functions = refl

pair_of_no_function : first_fault (variable_of false true (variable.Pairs (int.Signed (pos 2))) (codes "t")
    (Some (initialiser.Pairs (record { number = int.Signed (pos 0); function = Some (codes "t") } ∷ []))) ∷ []) ≡ broken 3 6
pair_of_no_function = refl

a_program : valid_program_items (function (Some ty.Int) (codes "main") [] [] (give (Some (number 3)) ∷ []) ∷ []) ≡ true
unfolding same_type
a_program = refl

uses_what_nothing_defines : valid_program_items (declares_variable (variable.Scalar ty.Int) x
    ∷ function (Some ty.Int) (codes "main") [] [] (give (Some (var x)) ∷ []) ∷ []) ≡ false
unfolding same_type
uses_what_nothing_defines = refl
