-- Which rule a file breaks first, and where.
use Rattle.std.proofs.Common.{◌≡◌, [], ◌∷◌, refl}
use Rattle.std.specs.Prelude.{true, Some, None, codes}
use Rattle.cf_syntax.specs.declared.operator.PrefixOp.TheVariants as op
use Rattle.cf_syntax.specs.declared.specifier.BasicType.TheVariants as basic
use Rattle.cf_syntax.specs.declared.specifier.Storage.TheVariants as storage
use Rattle.cf_elab.specs.Statement.{expression_row, if_row, return_row}
use Rattle.cf_elab.proofs.Words.{number, text, named, call, applied, basic_at, const_at, stored, int_at, called, unnamed, pointing, referring, taking, holding, parameter, basic_word, plain, with_value, with_list, value_at, declared_item, local, main, function, elaborates, refusal, accepted}

-- int main(){return x;}
undeclared_name : refusal (elaborates (main (return_row 11 (Some (named 18 (codes "x"))) ∷ []) ∷ [])) ≡ Some (10, 18)
undeclared_name = refl

-- int main(){return 7;}
seven : accepted (elaborates (main (return_row 11 (Some (number 18 7)) ∷ []) ∷ [])) ≡ true
seven = refl

-- int main(){int x=1;int y=&x;}
misfit_of_an_initialiser :
    refusal (elaborates (main (local 11 (int_at 11 ∷ []) (with_value 15 (called 15 (codes "x")) 16 17 (number 17 1) ∷ [])
    ∷ local 19 (int_at 19 ∷ []) (with_value 23 (called 23 (codes "y")) 24 25 (applied 25 op.AddressOf (named 26 (codes "x"))) ∷ []) ∷ []) ∷ []))
    ≡ Some (13, 24)
misfit_of_an_initialiser = refl

-- int char x;
two_types : refusal (elaborates (declared_item 0 (int_at 0 ∷ basic_at 4 basic.Char ∷ []) (plain 9 (called 9 (codes "x")) ∷ []) ∷ [])) ≡ Some (24, 4)
two_types = refl

-- void a[2];
array_of_void : refusal (elaborates (declared_item 0 (basic_at 0 basic.Void ∷ []) (plain 5 (holding 6 (Some (number 7 2)) (called 5 (codes "a"))) ∷ []) ∷ [])) ≡ Some (26, 6)
array_of_void = refl

-- void f(){}int main(){if(f())x;}: the parts of a statement come first
parts_first :
    refusal (elaborates (function (basic_at 0 basic.Void ∷ []) 5 (taking 6 [] (called 5 (codes "f"))) 8 []
    ∷ main (if_row 21 (call 25 (named 24 (codes "f")) []) (expression_row 28 (named 28 (codes "x"))) None ∷ []) ∷ []))
    ≡ Some (10, 28)
parts_first = refl

-- ---- objects and initialisers

-- const int c;
const_without_initialiser : refusal (elaborates (declared_item 0 (const_at 0 ∷ int_at 6 ∷ []) (plain 10 (called 10 (codes "c")) ∷ []) ∷ [])) ≡ Some (28, 10)
const_without_initialiser = refl

-- int&r=1;
reference_to_a_temporary : refusal (elaborates (declared_item 0 (int_at 0 ∷ []) (with_value 3 (referring 3 (called 4 (codes "r"))) 5 6 (number 6 1) ∷ []) ∷ [])) ≡ Some (29, 5)
reference_to_a_temporary = refl

-- const int&r=1;
reference_to_const : accepted (elaborates (declared_item 0 (const_at 0 ∷ int_at 6 ∷ []) (with_value 9 (referring 9 (called 10 (codes "r"))) 11 12 (number 12 1) ∷ []) ∷ [])) ≡ true
reference_to_const = refl

-- int a[2]={1,2,3};
too_many_elements :
    refusal (elaborates (declared_item 0 (int_at 0 ∷ []) (with_list 4 (holding 5 (Some (number 6 2)) (called 4 (codes "a"))) 8 9 (value_at 10 (number 10 1) ∷ value_at 12 (number 12 2) ∷ value_at 14 (number 14 3) ∷ []) ∷ []) ∷ []))
    ≡ Some (28, 9)
too_many_elements = refl

-- int x={1};
braces_round_a_scalar : refusal (elaborates (declared_item 0 (int_at 0 ∷ []) (with_list 4 (called 4 (codes "x")) 5 6 (value_at 7 (number 7 1) ∷ []) ∷ []) ∷ [])) ≡ Some (28, 6)
braces_round_a_scalar = refl

-- char s[2]="ab";
text_too_long : refusal (elaborates (declared_item 0 (basic_at 0 basic.Char ∷ []) (with_value 5 (holding 6 (Some (number 7 2)) (called 5 (codes "s"))) 9 10 (text 10 (codes "ab")) ∷ []) ∷ [])) ≡ Some (28, 9)
text_too_long = refl

-- char s[]={"ab"};
text_in_braces : accepted (elaborates (declared_item 0 (basic_at 0 basic.Char ∷ []) (with_list 5 (holding 6 None (called 5 (codes "s"))) 8 9 (value_at 10 (text 10 (codes "ab")) ∷ []) ∷ []) ∷ [])) ≡ true
text_in_braces = refl

-- int x;int x;
defined_twice : refusal (elaborates (declared_item 0 (int_at 0 ∷ []) (plain 4 (called 4 (codes "x")) ∷ []) ∷ declared_item 6 (int_at 6 ∷ []) (plain 10 (called 10 (codes "x")) ∷ []) ∷ [])) ≡ Some (8, 10)
defined_twice = refl

-- auto int x;
auto_in_a_file : refusal (elaborates (declared_item 0 (stored 0 storage.Auto ∷ int_at 5 ∷ []) (plain 9 (called 9 (codes "x")) ∷ []) ∷ [])) ≡ Some (24, 0)
auto_in_a_file = refl

-- typedef static int T;
typedef_and_static : refusal (elaborates (declared_item 0 (stored 0 storage.Typedef ∷ stored 8 storage.Static ∷ int_at 15 ∷ []) (plain 19 (called 19 (codes "T")) ∷ []) ∷ [])) ≡ Some (24, 8)
typedef_and_static = refl

-- ;
nothing_declared : refusal (elaborates (declared_item 0 [] [] ∷ [])) ≡ Some (24, 0)
nothing_declared = refl

-- typedef int T=1;
initialised_typedef : refusal (elaborates (declared_item 0 (stored 0 storage.Typedef ∷ int_at 8 ∷ []) (with_value 12 (called 12 (codes "T")) 13 14 (number 14 1) ∷ []) ∷ [])) ≡ Some (28, 13)
initialised_typedef = refl

-- int&*p;
pointer_to_reference : refusal (elaborates (declared_item 0 (int_at 0 ∷ []) (plain 3 (referring 3 (pointing 4 (called 5 (codes "p")))) ∷ []) ∷ [])) ≡ Some (26, 4)
pointer_to_reference = refl

-- int n;int a[n];
bound_not_constant : refusal (elaborates (declared_item 0 (int_at 0 ∷ []) (plain 4 (called 4 (codes "n")) ∷ []) ∷ declared_item 6 (int_at 6 ∷ []) (plain 10 (holding 11 (Some (named 12 (codes "n"))) (called 10 (codes "a"))) ∷ []) ∷ [])) ≡ Some (19, 11)
bound_not_constant = refl

-- const int n=2;int a[n];
bound_of_a_const : accepted (elaborates (declared_item 0 (const_at 0 ∷ int_at 6 ∷ []) (with_value 10 (called 10 (codes "n")) 11 12 (number 12 2) ∷ []) ∷ declared_item 14 (int_at 14 ∷ []) (plain 18 (holding 19 (Some (named 20 (codes "n"))) (called 18 (codes "a"))) ∷ []) ∷ [])) ≡ true
bound_of_a_const = refl

-- ---- functions

-- int main(int a){}
main_with_a_parameter : refusal (elaborates (function (int_at 0 ∷ []) 4 (taking 8 (parameter 9 (basic_word 9 basic.Int ∷ []) (called 13 (codes "a")) ∷ []) (called 4 (codes "main"))) 15 [] ∷ [])) ≡ Some (11, 4)
main_with_a_parameter = refl

-- int main(){return main();}
call_of_main : refusal (elaborates (main (return_row 11 (Some (call 22 (named 18 (codes "main")) [])) ∷ []) ∷ [])) ≡ Some (11, 18)
call_of_main = refl

-- int f(){return 1;}int main(){return f(2);}
too_many_arguments :
    refusal (elaborates (function (int_at 0 ∷ []) 4 (taking 5 [] (called 4 (codes "f"))) 7 (return_row 8 (Some (number 15 1)) ∷ [])
    ∷ main (return_row 29 (Some (call 37 (named 36 (codes "f")) (number 38 2 ∷ []))) ∷ []) ∷ []))
    ≡ Some (15, 36)
too_many_arguments = refl

-- int putchar(int a){}
library_function_defined : refusal (elaborates (function (int_at 0 ∷ []) 4 (taking 11 (parameter 12 (basic_word 12 basic.Int ∷ []) (called 16 (codes "a")) ∷ []) (called 4 (codes "putchar"))) 18 [] ∷ [])) ≡ Some (8, 4)
library_function_defined = refl

-- int f();static int f(){}
static_behind_extern : refusal (elaborates (declared_item 0 (int_at 0 ∷ []) (plain 4 (taking 5 [] (called 4 (codes "f"))) ∷ []) ∷ function (stored 8 storage.Static ∷ int_at 15 ∷ []) 19 (taking 20 [] (called 19 (codes "f"))) 22 [] ∷ [])) ≡ Some (9, 19)
static_behind_extern = refl

-- int f{}
no_function : refusal (elaborates (function (int_at 0 ∷ []) 4 (called 4 (codes "f")) 5 [] ∷ [])) ≡ Some (26, 4)
no_function = refl

-- int f(int a,int a){}
parameter_twice : refusal (elaborates (function (int_at 0 ∷ []) 4 (taking 5 (parameter 6 (basic_word 6 basic.Int ∷ []) (called 10 (codes "a")) ∷ parameter 12 (basic_word 12 basic.Int ∷ []) (called 16 (codes "a")) ∷ []) (called 4 (codes "f"))) 18 [] ∷ [])) ≡ Some (8, 16)
parameter_twice = refl

-- void f(long);void f(char*);int main(){f(0);return 0;}
tie_of_two_functions :
    refusal (elaborates (declared_item 0 (basic_at 0 basic.Void ∷ []) (plain 5 (taking 6 (parameter 7 (basic_word 7 basic.Long ∷ []) unnamed ∷ []) (called 5 (codes "f"))) ∷ [])
    ∷ declared_item 13 (basic_at 13 basic.Void ∷ []) (plain 18 (taking 19 (parameter 20 (basic_word 20 basic.Char ∷ []) (pointing 24 unnamed) ∷ []) (called 18 (codes "f"))) ∷ [])
    ∷ main (expression_row 38 (call 39 (named 38 (codes "f")) (number 40 0 ∷ [])) ∷ []) ∷ []))
    ≡ Some (46, 38)
tie_of_two_functions = refl
