-- Where names are known, which numbers are, and which of several rules comes first.
use Rattle.std.proofs.Common.{◌≡◌, ℕ, ◌+◌, List, [], ◌∷◌, refl}
use Rattle.std.specs.Prelude.{true, false, Some, None, codes, pos}
use Rattle.cf_syntax.specs.declared.specifier.BasicType.TheVariants as basic
use Rattle.cf_syntax.specs.declared.specifier.Storage.TheVariants as storage
use Rattle.cf_syntax.specs.declared.specifier.TypeSpecifier.TheVariants as specifier
use Rattle.cf_syntax.specs.declared.operator.BinaryOp.TheVariants as binary
use Rattle.cf_core.specs.declared.node.Core.TheVariants as node
use Rattle.cf_elab.specs.Answer.{Elab}
use Rattle.cf_elab.specs.Shape.{Parameter}
use Rattle.cf_elab.specs.Statement.{return_row, switch_row, case_row}
use Rattle.cf_elab.proofs.CoreRows.{bodies, starts}
use Rattle.cf_elab.proofs.Words.{number, named, choice, joined, basic_at, const_at, stored, int_at, called, unnamed, pointing, taking, holding, parameter, basic_word, type_in, cast, size_of_type, plain, with_value, with_list, with_arguments, value_at, declared_item, local, enumeration, main, function, elaborates, elaborates_alone, refusal, accepted}

-- ---- an array without a bound has its type before its initialiser is elaborated

-- void*a[]={a,0};
array_names_itself :
    starts (elaborates (declared_item 0 (basic_at 0 basic.Void ∷ []) (with_list 4 (pointing 4 (holding 6 None (called 5 (codes "a")))) 8 9 (value_at 10 (named 10 (codes "a")) ∷ value_at 12 (number 12 0) ∷ []) ∷ []) ∷ []))
    ≡ node.List 9 (node.Convert 10 5 (node.Decay 10 (node.Static 10 (codes "a") 6)) ∷ node.Convert 12 5 (node.Number 12 (pos 0)) ∷ []) (node.Zeros 9) ∷ []
array_names_itself = refl

-- enum{a};int a[]={x};
other_thing_before_the_initialiser :
    refusal (elaborates (declared_item 0 (enumeration 0 None (record { at = 5; name = codes "a"; value = None } ∷ []) ∷ []) []
    ∷ declared_item 8 (int_at 8 ∷ []) (with_list 12 (holding 13 None (called 12 (codes "a"))) 15 16 (value_at 17 (named 17 (codes "x")) ∷ []) ∷ []) ∷ []))
    ≡ Some (8, 12)
other_thing_before_the_initialiser = refl

-- extern int a[1];static int a[]={x};
linkage_before_the_initialiser :
    refusal (elaborates (declared_item 0 (stored 0 storage.Extern ∷ int_at 7 ∷ []) (plain 11 (holding 12 (Some (number 13 1)) (called 11 (codes "a"))) ∷ [])
    ∷ declared_item 16 (stored 16 storage.Static ∷ int_at 23 ∷ []) (with_list 27 (holding 28 None (called 27 (codes "a"))) 30 31 (value_at 32 (named 32 (codes "x")) ∷ []) ∷ []) ∷ []))
    ≡ Some (9, 27)
linkage_before_the_initialiser = refl

-- enum{a};int a[](1,2); and int a[](1,2);
other_thing_before_brackets :
    refusal (elaborates (declared_item 0 (enumeration 0 None (record { at = 5; name = codes "a"; value = None } ∷ []) ∷ []) []
    ∷ declared_item 8 (int_at 8 ∷ []) (with_arguments 12 (holding 13 None (called 12 (codes "a"))) 15 (number 16 1 ∷ number 18 2 ∷ []) ∷ []) ∷ []))
    ≡ Some (8, 12)
other_thing_before_brackets = refl

brackets_of_an_array : refusal (elaborates (declared_item 0 (int_at 0 ∷ []) (with_arguments 4 (holding 5 None (called 4 (codes "a"))) 7 (number 8 1 ∷ number 10 2 ∷ []) ∷ []) ∷ [])) ≡ Some (28, 7)
brackets_of_an_array = refl

-- int main(){int a;int a[]={x};}
block_before_the_initialiser :
    refusal (elaborates (main (local 11 (int_at 11 ∷ []) (plain 15 (called 15 (codes "a")) ∷ [])
    ∷ local 17 (int_at 17 ∷ []) (with_list 21 (holding 22 None (called 21 (codes "a"))) 24 25 (value_at 26 (named 26 (codes "x")) ∷ []) ∷ []) ∷ []) ∷ []))
    ≡ Some (8, 21)
block_before_the_initialiser = refl

-- ---- the number of c?a:b of two const integers

abbrev const_int : ℕ → List ℕ → ℕ → Elab (Unit {0})
const_int at name n = declared_item at (const_at at ∷ int_at (at + 6) ∷ []) (with_value (at + 10) (called (at + 10) name) (at + 11) (at + 12) (number (at + 12) n) ∷ [])

-- const int a=1;const int b=2;int main(){int v[1?a:b];return sizeof(v);}
bound_by_a_choice :
    accepted (elaborates (const_int 0 (codes "a") 1 ∷ const_int 14 (codes "b") 2
    ∷ main (local 39 (int_at 39 ∷ []) (plain 43 (holding 44 (Some (choice 46 (number 45 1) (named 47 (codes "a")) (named 49 (codes "b")))) (called 43 (codes "v"))) ∷ []) ∷ []) ∷ []))
    ≡ true
bound_by_a_choice = refl

-- const int a=1;const int b=2;int x=1?a:b;
constant_by_a_choice :
    starts (elaborates_alone (codes "a" ∷ codes "b" ∷ codes "x" ∷ []) (const_int 0 (codes "a") 1 ∷ const_int 14 (codes "b") 2
    ∷ declared_item 28 (int_at 28 ∷ []) (with_value 32 (called 32 (codes "x")) 33 34 (choice 35 (number 34 1) (named 36 (codes "a")) (named 38 (codes "b"))) ∷ []) ∷ []))
    ≡ node.Number 12 (pos 1) ∷ node.Number 26 (pos 2) ∷ node.Number 35 (pos 1) ∷ []
constant_by_a_choice = refl

-- const int a=1;const int b=2;int main(){switch(1){case 0?a:b:case 2:;}}
label_by_a_choice :
    refusal (elaborates (const_int 0 (codes "a") 1 ∷ const_int 14 (codes "b") 2
    ∷ main (switch_row 39 (number 46 1) (case_row 49 (choice 55 (number 54 0) (named 56 (codes "a")) (named 58 (codes "b"))) ∷ case_row 60 (number 65 2) ∷ []) ∷ []) ∷ []))
    ≡ Some (20, 60)
label_by_a_choice = refl

-- const int a=0;const int b=0;int*p=1?a:b;
null_by_a_choice :
    accepted (elaborates (const_int 0 (codes "a") 0 ∷ const_int 14 (codes "b") 0
    ∷ declared_item 28 (int_at 28 ∷ []) (with_value 31 (pointing 31 (called 32 (codes "p"))) 33 34 (choice 35 (number 34 1) (named 36 (codes "a")) (named 38 (codes "b"))) ∷ []) ∷ []))
    ≡ true
null_by_a_choice = refl

-- ---- names of enumerations

-- enum E{A=sizeof(E)};int main(){return A;}
enumeration_in_its_own_expression :
    bodies (elaborates (declared_item 0 (enumeration 0 (Some (5, codes "E")) (record { at = 7; name = codes "A"; value = Some (size_of_type 9 (type_in 16 (specifier.Named (record { at = 16; from_file = false; names = codes "E" ∷ [] }) ∷ []) unnamed)) } ∷ []) ∷ []) []
    ∷ main (return_row 31 (Some (named 38 (codes "A"))) ∷ []) ∷ []))
    ≡ node.Block 10 (node.Return 31 (Some (node.Convert 38 0 (node.Number 38 (pos 4)))) ∷ []) ∷ []
enumeration_in_its_own_expression = refl

-- const int x=3;int main(){enum{x=x};return x;}
enumerator_in_its_own_expression :
    refusal (elaborates (const_int 0 (codes "x") 3
    ∷ main (local 25 (enumeration 25 None (record { at = 30; name = codes "x"; value = Some (named 32 (codes "x")) } ∷ []) ∷ []) [] ∷ return_row 35 (Some (named 42 (codes "x"))) ∷ []) ∷ []))
    ≡ Some (19, 30)
enumerator_in_its_own_expression = refl

-- enum{A=1,B=A};int a[B-1]; the enumerators before it have their values
enumerators_before :
    refusal (elaborates (declared_item 0 (enumeration 0 None (record { at = 5; name = codes "A"; value = Some (number 7 1) } ∷ record { at = 9; name = codes "B"; value = Some (named 11 (codes "A")) } ∷ []) ∷ []) []
    ∷ declared_item 14 (int_at 14 ∷ []) (plain 18 (holding 19 (Some (joined 21 binary.Subtract (named 20 (codes "B")) (number 22 1))) (called 18 (codes "a"))) ∷ []) ∷ []))
    ≡ Some (26, 19)
enumerators_before = refl

-- ---- what the file does not define

-- int y(){return 1;}
abbrev function_y : ℕ → Elab (Unit {0})
function_y at = function (int_at at ∷ []) (at + 4) (taking (at + 5) [] (called (at + 4) (codes "y"))) (at + 7) (return_row (at + 8) (Some (number (at + 15) 1)) ∷ [])

-- int main(){extern int y;return y;}int y(){return 1;}, and the function first
object_with_the_name_of_a_function :
    refusal (elaborates_alone (codes "main" ∷ codes "y" ∷ []) (main (local 11 (stored 11 storage.Extern ∷ int_at 18 ∷ []) (plain 22 (called 22 (codes "y")) ∷ []) ∷ return_row 24 (Some (named 31 (codes "y"))) ∷ [])
    ∷ function_y 34 ∷ []))
    ≡ Some (48, 22)
object_with_the_name_of_a_function = refl

object_behind_a_function_of_its_name :
    refusal (elaborates_alone (codes "y" ∷ codes "main" ∷ []) (function_y 0
    ∷ main (local 29 (stored 29 storage.Extern ∷ int_at 36 ∷ []) (plain 40 (called 40 (codes "y")) ∷ []) ∷ return_row 42 (Some (named 49 (codes "y"))) ∷ []) ∷ []))
    ≡ Some (48, 40)
object_behind_a_function_of_its_name = refl

-- int f()=1;int main(){}
initialised_function :
    refusal (elaborates_alone (codes "main" ∷ []) (declared_item 0 (int_at 0 ∷ []) (with_value 4 (taking 5 [] (called 4 (codes "f"))) 7 8 (number 8 1) ∷ []) ∷ main [] ∷ [])) ≡ Some (28, 7)
initialised_function = refl

-- int main(){extern int x=1;}
initialised_declaration :
    refusal (elaborates_alone (codes "main" ∷ []) (main (local 11 (stored 11 storage.Extern ∷ int_at 18 ∷ []) (with_value 22 (called 22 (codes "x")) 23 24 (number 24 1) ∷ []) ∷ []) ∷ [])) ≡ Some (28, 23)
initialised_declaration = refl

-- int f(int a){return a;}int main(){int f(char);return x;}
second_function_in_a_block :
    refusal (elaborates_alone (codes "f" ∷ codes "main" ∷ []) (function (int_at 0 ∷ []) 4 (taking 5 (parameter 6 (basic_word 6 basic.Int ∷ []) (called 10 (codes "a")) ∷ []) (called 4 (codes "f"))) 12
    (return_row 13 (Some (named 20 (codes "a"))) ∷ [])
    ∷ main (local 34 (int_at 34 ∷ []) (plain 38 (taking 39 (parameter 40 (basic_word 40 basic.Char ∷ []) unnamed ∷ []) (called 38 (codes "f"))) ∷ []) ∷ return_row 46 (Some (named 53 (codes "x"))) ∷ []) ∷ []))
    ≡ Some (48, 38)
second_function_in_a_block = refl

-- ---- parts before an initialiser that may not stand

-- typedef int T=x;
part_of_a_typedef : refusal (elaborates (declared_item 0 (stored 0 storage.Typedef ∷ int_at 8 ∷ []) (with_value 12 (called 12 (codes "T")) 13 14 (named 14 (codes "x")) ∷ []) ∷ [])) ≡ Some (10, 14)
part_of_a_typedef = refl

-- int f()=x;
part_of_a_function : refusal (elaborates (declared_item 0 (int_at 0 ∷ []) (with_value 4 (taking 5 [] (called 4 (codes "f"))) 7 8 (named 8 (codes "x")) ∷ []) ∷ [])) ≡ Some (10, 8)
part_of_a_function = refl

-- ---- specifiers, parameters and bounds

-- f{}
no_specifier_and_no_function : refusal (elaborates (function [] 0 (called 0 (codes "f")) 1 [] ∷ [])) ≡ Some (24, 0)
no_specifier_and_no_function = refl

-- inline int x{}
inline_and_no_function : refusal (elaborates (function (stored 0 storage.Inline ∷ int_at 7 ∷ []) 11 (called 11 (codes "x")) 12 [] ∷ [])) ≡ Some (24, 0)
inline_and_no_function = refl

-- int n;int main(){int a[n][n];}, and int(*a[n])[n]
first_of_two_bounds :
    refusal (elaborates (declared_item 0 (int_at 0 ∷ []) (plain 4 (called 4 (codes "n")) ∷ [])
    ∷ main (local 17 (int_at 17 ∷ []) (plain 21 (holding 25 (Some (named 26 (codes "n"))) (holding 22 (Some (named 23 (codes "n"))) (called 21 (codes "a")))) ∷ []) ∷ []) ∷ []))
    ≡ Some (19, 22)
first_of_two_bounds = refl

bound_inside_brackets :
    refusal (elaborates (declared_item 0 (int_at 0 ∷ []) (plain 4 (called 4 (codes "n")) ∷ [])
    ∷ main (local 17 (int_at 17 ∷ []) (plain 20 (holding 27 (Some (named 28 (codes "n"))) (pointing 21 (holding 23 (Some (named 24 (codes "n"))) (called 22 (codes "a"))))) ∷ []) ∷ []) ∷ []))
    ≡ Some (19, 23)
bound_inside_brackets = refl

-- int b[n], at its first token
abbrev unknown_bound : ℕ → Elab Parameter
unknown_bound at = parameter at (basic_word at basic.Int ∷ []) (holding (at + 5) (Some (named (at + 6) (codes "n"))) (called (at + 4) (codes "b")))

-- int f(void a,int b[n]){}, and int f(void,int b[n]){}
void_parameter :
    refusal (elaborates (function (int_at 0 ∷ []) 4 (taking 5 (parameter 6 (basic_word 6 basic.Void ∷ []) (called 11 (codes "a")) ∷ unknown_bound 13 ∷ []) (called 4 (codes "f"))) 23 [] ∷ [])) ≡ Some (26, 11)
void_parameter = refl

void_before_a_parameter :
    refusal (elaborates (function (int_at 0 ∷ []) 4 (taking 5 (parameter 6 (basic_word 6 basic.Void ∷ []) unnamed ∷ unknown_bound 11 ∷ []) (called 4 (codes "f"))) 21 [] ∷ [])) ≡ Some (26, 6)
void_before_a_parameter = refl

-- int f(void){}
no_parameters : accepted (elaborates (function (int_at 0 ∷ []) 4 (taking 5 (parameter 6 (basic_word 6 basic.Void ∷ []) unnamed ∷ []) (called 4 (codes "f"))) 11 [] ∷ [])) ≡ true
no_parameters = refl

-- ---- the place of what a cast makes

-- int main(){char c=65;return (int)c;}
conversion_of_a_cast :
    bodies (elaborates (main (local 11 (basic_at 11 basic.Char ∷ []) (with_value 16 (called 16 (codes "c")) 17 18 (number 18 65) ∷ [])
    ∷ return_row 21 (Some (cast 28 (type_in 29 (basic_word 29 basic.Int ∷ []) unnamed) (named 33 (codes "c")))) ∷ []) ∷ []))
    ≡ node.Block 10 (node.Declare 16 0 5 (node.Convert 18 5 (node.Number 18 (pos 65))) ∷ node.Return 21 (Some (node.Convert 28 0 (node.Read 33 (node.Local 33 0)))) ∷ []) ∷ []
conversion_of_a_cast = refl

-- int*p=(int*)0;
null_of_a_cast :
    starts (elaborates (declared_item 0 (int_at 0 ∷ []) (with_value 3 (pointing 3 (called 4 (codes "p"))) 5 6 (cast 6 (type_in 7 (basic_word 7 basic.Int ∷ []) (pointing 10 unnamed)) (number 12 0)) ∷ []) ∷ []))
    ≡ node.Convert 6 5 (node.Number 6 (pos 0)) ∷ []
null_of_a_cast = refl
