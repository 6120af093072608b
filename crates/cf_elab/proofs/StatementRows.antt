-- Which rule a statement or an expression breaks first, and where.
use Rattle.std.proofs.Common.{◌≡◌, ℕ, List, [], ◌∷◌, refl}
use Rattle.std.specs.Prelude.{Option, Some, None, codes}
use Rattle.cf_syntax.specs.declared.operator.BinaryOp.TheVariants as binary
use Rattle.cf_syntax.specs.declared.operator.PrefixOp.TheVariants as op
use Rattle.cf_syntax.specs.declared.operator.StepOp.TheVariants as by
use Rattle.cf_syntax.specs.declared.specifier.BasicType.TheVariants as basic
use Rattle.cf_elab.specs.Answer.{Elab}
use Rattle.cf_elab.specs.Statement.{if_row, Made, expression_row, switch_row, case_row, break_row, return_row, empty_row}
use Rattle.cf_elab.proofs.Words.{number, text, named, call, joined, applied, stepped, set, basic_at, int_at, type_name, called, unnamed, pointing, referring, taking, basic_word, type_in, cast, plain, with_value, declared_item, local, enumeration, main, function, elaborates, refusal}

-- enum E{P,Q=5,R};
abbrev E : Elab (Unit {0})
E = declared_item 0
    (enumeration 0 (Some (5, codes "E")) (record { at = 7; name = codes "P"; value = None } ∷ record { at = 9; name = codes "Q"; value = Some (number 11 5) } ∷ record { at = 13; name = codes "R"; value = None } ∷ []) ∷ [])
    []

-- behind the enumeration stand the statements of main
abbrev with_E : List (Elab Made) → Option (ℕ × ℕ)
with_E ss = refusal (elaborates (E ∷ main ss ∷ []))

abbrev in_main : List (Elab Made) → Option (ℕ × ℕ)
in_main ss = refusal (elaborates (main ss ∷ []))

-- E e=5;
number_to_an_enumeration : with_E (local 30 (type_name 30 (codes "E") ∷ []) (with_value 32 (called 32 (codes "e")) 33 34 (number 34 5) ∷ []) ∷ []) ≡ Some (25, 33)
number_to_an_enumeration = refl

-- E e=R;switch(e){case Q:return 1;case R:return 2;}
switch_over_an_enumeration :
    with_E (local 30 (type_name 30 (codes "E") ∷ []) (with_value 32 (called 32 (codes "e")) 33 34 (named 34 (codes "R")) ∷ [])
    ∷ switch_row 36 (named 43 (codes "e")) (case_row 46 (named 51 (codes "Q")) ∷ return_row 53 (Some (number 60 1)) ∷ case_row 62 (named 67 (codes "R")) ∷ return_row 69 (Some (number 76 2)) ∷ []) ∷ []) ≡ None
switch_over_an_enumeration = refl

-- switch(1){case 5:case Q:;}
label_twice : with_E (switch_row 30 (number 37 1) (case_row 40 (number 45 5) ∷ case_row 47 (named 52 (codes "Q")) ∷ empty_row 54 ∷ []) ∷ []) ≡ Some (20, 47)
label_twice = refl

-- switch(1){int x=1;case 1:;}
label_passes : in_main (switch_row 11 (number 18 1) (local 21 (int_at 21 ∷ []) (with_value 25 (called 25 (codes "x")) 26 27 (number 27 1) ∷ []) ∷ case_row 29 (number 34 1) ∷ empty_row 36 ∷ []) ∷ []) ≡ Some (23, 29)
label_passes = refl

-- int x;switch(1){case x:;}
label_not_constant : in_main (local 11 (int_at 11 ∷ []) (plain 15 (called 15 (codes "x")) ∷ []) ∷ switch_row 17 (number 24 1) (case_row 27 (named 32 (codes "x")) ∷ empty_row 34 ∷ []) ∷ []) ≡ Some (19, 27)
label_not_constant = refl

-- switch("a"){}
switch_on_a_pointer : in_main (switch_row 11 (text 18 (codes "a")) [] ∷ []) ≡ Some (13, 11)
switch_on_a_pointer = refl

-- break;
break_outside : in_main (break_row 11 ∷ []) ≡ Some (21, 11)
break_outside = refl

-- void f(){return 1;}
value_in_a_void_function : refusal (elaborates (function (basic_at 0 basic.Void ∷ []) 5 (taking 6 [] (called 5 (codes "f"))) 8 (return_row 9 (Some (number 16 1)) ∷ []) ∷ [])) ≡ Some (22, 9)
value_in_a_void_function = refl

-- int f(){return;}
no_value : refusal (elaborates (function (int_at 0 ∷ []) 4 (taking 5 [] (called 4 (codes "f"))) 7 (return_row 8 None ∷ []) ∷ [])) ≡ Some (22, 8)
no_value = refl

-- main: return;
no_value_in_main : in_main (return_row 11 None ∷ []) ≡ None
no_value_in_main = refl

-- 1=2;
assignment_to_a_number : in_main (expression_row 11 (set 12 (number 11 1) (number 13 2)) ∷ []) ≡ Some (12, 12)
assignment_to_a_number = refl

-- R++;
increment_of_an_enumerator : with_E (expression_row 30 (stepped 31 by.Increment (named 30 (codes "R"))) ∷ []) ≡ Some (12, 31)
increment_of_an_enumerator = refl

-- E e;e++;
increment_of_an_enumeration : with_E (local 30 (type_name 30 (codes "E") ∷ []) (plain 32 (called 32 (codes "e")) ∷ []) ∷ expression_row 34 (stepped 35 by.Increment (named 34 (codes "e"))) ∷ []) ≡ Some (18, 35)
increment_of_an_enumeration = refl

-- enum F{A}; in a block
local_enumeration : in_main (local 11 (enumeration 11 (Some (16, codes "F")) (record { at = 18; name = codes "A"; value = None } ∷ []) ∷ []) [] ∷ []) ≡ Some (48, 11)
local_enumeration = refl

-- enum{A=2147483647,B};
enumerator_past_int :
    refusal (elaborates (declared_item 0 (enumeration 0 None (record { at = 5; name = codes "A"; value = Some (number 7 2147483647) } ∷ record { at = 18; name = codes "B"; value = None } ∷ []) ∷ []) [] ∷ [])) ≡ Some (5, 18)
enumerator_past_int = refl

-- (int*)0; and (const int&)1;
null_by_a_cast : in_main (expression_row 11 (cast 11 (type_in 12 (basic_word 12 basic.Int ∷ []) (pointing 15 unnamed)) (number 17 0)) ∷ []) ≡ None
null_by_a_cast = refl

reference_by_a_cast : in_main (expression_row 11 (cast 11 (type_in 12 (basic_word 12 basic.Int ∷ []) (referring 15 unnamed)) (number 17 1)) ∷ []) ≡ Some (17, 11)
reference_by_a_cast = refl

-- void*p;1&&f(); with void f()
void_in_a_condition :
    refusal (elaborates (function (basic_at 0 basic.Void ∷ []) 5 (taking 6 [] (called 5 (codes "f"))) 8 []
    ∷ main (expression_row 21 (joined 22 binary.LogicalAnd (number 21 1) (call 25 (named 24 (codes "f")) [])) ∷ []) ∷ [])) ≡ Some (13, 22)
void_in_a_condition = refl

-- !f();
void_negated :
    refusal (elaborates (function (basic_at 0 basic.Void ∷ []) 5 (taking 6 [] (called 5 (codes "f"))) 8 []
    ∷ main (expression_row 21 (applied 21 op.Not (call 23 (named 22 (codes "f")) [])) ∷ []) ∷ [])) ≡ Some (18, 21)
void_negated = refl

-- int*p;char*q;p==q;
unlike_pointers :
    in_main (local 11 (int_at 11 ∷ []) (plain 14 (pointing 14 (called 15 (codes "p"))) ∷ []) ∷ local 17 (basic_at 17 basic.Char ∷ []) (plain 21 (pointing 21 (called 22 (codes "q"))) ∷ [])
    ∷ expression_row 24 (joined 25 binary.Equal (named 24 (codes "p")) (named 27 (codes "q"))) ∷ []) ≡ Some (18, 25)
unlike_pointers = refl

-- switch(1){if(1)int x=1;case 1:;}
label_passes_a_branch :
    in_main (switch_row 11 (number 18 1) (if_row 21 (number 24 1) (local 26 (int_at 26 ∷ []) (with_value 30 (called 30 (codes "x")) 31 32 (number 32 1) ∷ [])) None
    ∷ case_row 34 (number 39 1) ∷ empty_row 41 ∷ []) ∷ []) ≡ Some (23, 34)
label_passes_a_branch = refl
