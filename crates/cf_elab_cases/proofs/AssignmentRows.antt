-- Assignments (5.17).
use Rattle.std.proofs.Common.{◌≡◌, [], ◌∷◌, refl}
use Rattle.std.specs.Prelude.{false, Some, None, codes}
use Rattle.std.specs.Fmt.{digits}
use Rattle.cf_base.specs.declared.kind.Kind.TheVariants as kind
use Rattle.cf_syntax.specs.declared.operator.AssignOp.TheVariants as assign
use Rattle.cf_syntax.specs.declared.specifier.BasicType.TheVariants as basic
use Rattle.cf_syntax.specs.declared.specifier.Pointer.TheVariants as pointer
use Rattle.cf_syntax.specs.declared.specifier.TypeSpecifier.TheVariants as specifier
use Rattle.cf_syntax.specs.declared.declarator.DeclTree.TheOpen.{DeclTree-F, Expr-F}
use Rattle.cf_elab.specs.Statement.{expression_row, return_row}
use Rattle.cf_elab.proofs.Words.{step, tree, word, name_at, enumeration, plain, with_value, function, declared_item, elaborates, refusal}

-- int main(){1=2;return 0;}
assignment_to_a_number :
    refusal (elaborates ((function ((word (specifier.Basic 0 basic.Int)) ∷ []) 4 (tree (DeclTree-F.Function 8 (tree (DeclTree-F.Declared (name_at 4 (codes "main")))) [] false)) 10 ((expression_row 11 (step (Expr-F.Assign 12 assign.Assign (step (Expr-F.Int 11 1 kind.Int)) (step (Expr-F.Int 13 2 kind.Int))))) ∷ (return_row 15 (Some (step (Expr-F.Int 22 0 kind.Int)))) ∷ [])) ∷ []))
    ≡ Some (12, 12)
assignment_to_a_number = refl

-- const int c=1;int main(){c=2;return 0;}
assignment_to_a_const_object :
    refusal (elaborates ((declared_item 0 ((word (specifier.Const 0)) ∷ (word (specifier.Basic 6 basic.Int)) ∷ []) ((with_value 10 (tree (DeclTree-F.Declared (name_at 10 (codes "c")))) 11 12 (step (Expr-F.Int 12 1 kind.Int))) ∷ []))
    ∷ (function ((word (specifier.Basic 14 basic.Int)) ∷ []) 18 (tree (DeclTree-F.Function 22 (tree (DeclTree-F.Declared (name_at 18 (codes "main")))) [] false)) 24 ((expression_row 25 (step (Expr-F.Assign 26 assign.Assign (step (Expr-F.Named (name_at 25 (codes "c")))) (step (Expr-F.Int 27 2 kind.Int))))) ∷ (return_row 29 (Some (step (Expr-F.Int 36 0 kind.Int)))) ∷ [])) ∷ []))
    ≡ Some (12, 26)
assignment_to_a_const_object = refl

-- int a[2];int b[2];int main(){a=b;return 0;}
assignment_to_an_array :
    refusal (elaborates ((declared_item 0 ((word (specifier.Basic 0 basic.Int)) ∷ []) ((plain 4 (tree (DeclTree-F.Array 5 (tree (DeclTree-F.Declared (name_at 4 (codes "a")))) (Some (step (Expr-F.Int 6 2 kind.Int)))))) ∷ []))
    ∷ (declared_item 9 ((word (specifier.Basic 9 basic.Int)) ∷ []) ((plain 13 (tree (DeclTree-F.Array 14 (tree (DeclTree-F.Declared (name_at 13 (codes "b")))) (Some (step (Expr-F.Int 15 2 kind.Int)))))) ∷ []))
    ∷ (function ((word (specifier.Basic 18 basic.Int)) ∷ []) 22 (tree (DeclTree-F.Function 26 (tree (DeclTree-F.Declared (name_at 22 (codes "main")))) [] false)) 28 ((expression_row 29 (step (Expr-F.Assign 30 assign.Assign (step (Expr-F.Named (name_at 29 (codes "a")))) (step (Expr-F.Named (name_at 31 (codes "b"))))))) ∷ (return_row 33 (Some (step (Expr-F.Int 40 0 kind.Int)))) ∷ [])) ∷ []))
    ≡ Some (12, 30)
assignment_to_an_array = refl

-- int f();int main(){f=0;return 0;}
assignment_to_a_function :
    refusal (elaborates ((declared_item 0 ((word (specifier.Basic 0 basic.Int)) ∷ []) ((plain 4 (tree (DeclTree-F.Function 5 (tree (DeclTree-F.Declared (name_at 4 (codes "f")))) [] false))) ∷ []))
    ∷ (function ((word (specifier.Basic 8 basic.Int)) ∷ []) 12 (tree (DeclTree-F.Function 16 (tree (DeclTree-F.Declared (name_at 12 (codes "main")))) [] false)) 18 ((expression_row 19 (step (Expr-F.Assign 20 assign.Assign (step (Expr-F.Named (name_at 19 (codes "f")))) (step (Expr-F.Int 21 0 kind.Int))))) ∷ (return_row 23 (Some (step (Expr-F.Int 30 0 kind.Int)))) ∷ [])) ∷ []))
    ≡ Some (12, 20)
assignment_to_a_function = refl

-- int x;int*p;int main(){x=p;return 0;}
pointer_to_an_int_object :
    refusal (elaborates ((declared_item 0 ((word (specifier.Basic 0 basic.Int)) ∷ []) ((plain 4 (tree (DeclTree-F.Declared (name_at 4 (codes "x"))))) ∷ []))
    ∷ (declared_item 6 ((word (specifier.Basic 6 basic.Int)) ∷ []) ((plain 9 (tree (DeclTree-F.Pointed (pointer.To 9 false) (tree (DeclTree-F.Declared (name_at 10 (codes "p"))))))) ∷ []))
    ∷ (function ((word (specifier.Basic 12 basic.Int)) ∷ []) 16 (tree (DeclTree-F.Function 20 (tree (DeclTree-F.Declared (name_at 16 (codes "main")))) [] false)) 22 ((expression_row 23 (step (Expr-F.Assign 24 assign.Assign (step (Expr-F.Named (name_at 23 (codes "x")))) (step (Expr-F.Named (name_at 25 (codes "p"))))))) ∷ (return_row 27 (Some (step (Expr-F.Int 34 0 kind.Int)))) ∷ [])) ∷ []))
    ≡ Some (13, 24)
pointer_to_an_int_object = refl

-- int*p;int main(){p=1;return 0;}
number_to_a_pointer :
    refusal (elaborates ((declared_item 0 ((word (specifier.Basic 0 basic.Int)) ∷ []) ((plain 3 (tree (DeclTree-F.Pointed (pointer.To 3 false) (tree (DeclTree-F.Declared (name_at 4 (codes "p"))))))) ∷ []))
    ∷ (function ((word (specifier.Basic 6 basic.Int)) ∷ []) 10 (tree (DeclTree-F.Function 14 (tree (DeclTree-F.Declared (name_at 10 (codes "main")))) [] false)) 16 ((expression_row 17 (step (Expr-F.Assign 18 assign.Assign (step (Expr-F.Named (name_at 17 (codes "p")))) (step (Expr-F.Int 19 1 kind.Int))))) ∷ (return_row 21 (Some (step (Expr-F.Int 28 0 kind.Int)))) ∷ [])) ∷ []))
    ≡ Some (13, 18)
number_to_a_pointer = refl

-- int*p;int main(){p=0;return 0;}
null_to_a_pointer :
    refusal (elaborates ((declared_item 0 ((word (specifier.Basic 0 basic.Int)) ∷ []) ((plain 3 (tree (DeclTree-F.Pointed (pointer.To 3 false) (tree (DeclTree-F.Declared (name_at 4 (codes "p"))))))) ∷ []))
    ∷ (function ((word (specifier.Basic 6 basic.Int)) ∷ []) 10 (tree (DeclTree-F.Function 14 (tree (DeclTree-F.Declared (name_at 10 (codes "main")))) [] false)) 16 ((expression_row 17 (step (Expr-F.Assign 18 assign.Assign (step (Expr-F.Named (name_at 17 (codes "p")))) (step (Expr-F.Int 19 0 kind.Int))))) ∷ (return_row 21 (Some (step (Expr-F.Int 28 0 kind.Int)))) ∷ [])) ∷ []))
    ≡ None
null_to_a_pointer = refl

-- enum E{A};E e;int main(){e=1;return 0;}
number_to_an_enumeration :
    refusal (elaborates ((declared_item 0 ((enumeration 0 (Some (5, (codes "E"))) ((record { at = 7; name = (codes "A"); value = None }) ∷ [])) ∷ []) [])
    ∷ (declared_item 10 ((word (specifier.Named (record { at = 10; from_file = false; names = (codes "E") ∷ [] }))) ∷ []) ((plain 12 (tree (DeclTree-F.Declared (name_at 12 (codes "e"))))) ∷ []))
    ∷ (function ((word (specifier.Basic 14 basic.Int)) ∷ []) 18 (tree (DeclTree-F.Function 22 (tree (DeclTree-F.Declared (name_at 18 (codes "main")))) [] false)) 24 ((expression_row 25 (step (Expr-F.Assign 26 assign.Assign (step (Expr-F.Named (name_at 25 (codes "e")))) (step (Expr-F.Int 27 1 kind.Int))))) ∷ (return_row 29 (Some (step (Expr-F.Int 36 0 kind.Int)))) ∷ [])) ∷ []))
    ≡ Some (25, 26)
unfolding digits
number_to_an_enumeration = refl

-- enum E{A};enum F{B};E e;int main(){e=B;return 0;}
another_enumeration :
    refusal (elaborates ((declared_item 0 ((enumeration 0 (Some (5, (codes "E"))) ((record { at = 7; name = (codes "A"); value = None }) ∷ [])) ∷ []) [])
    ∷ (declared_item 10 ((enumeration 10 (Some (15, (codes "F"))) ((record { at = 17; name = (codes "B"); value = None }) ∷ [])) ∷ []) [])
    ∷ (declared_item 20 ((word (specifier.Named (record { at = 20; from_file = false; names = (codes "E") ∷ [] }))) ∷ []) ((plain 22 (tree (DeclTree-F.Declared (name_at 22 (codes "e"))))) ∷ []))
    ∷ (function ((word (specifier.Basic 24 basic.Int)) ∷ []) 28 (tree (DeclTree-F.Function 32 (tree (DeclTree-F.Declared (name_at 28 (codes "main")))) [] false)) 34 ((expression_row 35 (step (Expr-F.Assign 36 assign.Assign (step (Expr-F.Named (name_at 35 (codes "e")))) (step (Expr-F.Named (name_at 37 (codes "B"))))))) ∷ (return_row 39 (Some (step (Expr-F.Int 46 0 kind.Int)))) ∷ [])) ∷ []))
    ≡ Some (25, 36)
unfolding digits
another_enumeration = refl

-- enum E{A};int x;int main(){x=A;return 0;}
enumeration_to_an_int :
    refusal (elaborates ((declared_item 0 ((enumeration 0 (Some (5, (codes "E"))) ((record { at = 7; name = (codes "A"); value = None }) ∷ [])) ∷ []) [])
    ∷ (declared_item 10 ((word (specifier.Basic 10 basic.Int)) ∷ []) ((plain 14 (tree (DeclTree-F.Declared (name_at 14 (codes "x"))))) ∷ []))
    ∷ (function ((word (specifier.Basic 16 basic.Int)) ∷ []) 20 (tree (DeclTree-F.Function 24 (tree (DeclTree-F.Declared (name_at 20 (codes "main")))) [] false)) 26 ((expression_row 27 (step (Expr-F.Assign 28 assign.Assign (step (Expr-F.Named (name_at 27 (codes "x")))) (step (Expr-F.Named (name_at 29 (codes "A"))))))) ∷ (return_row 31 (Some (step (Expr-F.Int 38 0 kind.Int)))) ∷ [])) ∷ []))
    ≡ None
unfolding digits
enumeration_to_an_int = refl

-- int*p;const int*q;int main(){p=q;return 0;}
const_is_dropped :
    refusal (elaborates ((declared_item 0 ((word (specifier.Basic 0 basic.Int)) ∷ []) ((plain 3 (tree (DeclTree-F.Pointed (pointer.To 3 false) (tree (DeclTree-F.Declared (name_at 4 (codes "p"))))))) ∷ []))
    ∷ (declared_item 6 ((word (specifier.Const 6)) ∷ (word (specifier.Basic 12 basic.Int)) ∷ []) ((plain 15 (tree (DeclTree-F.Pointed (pointer.To 15 false) (tree (DeclTree-F.Declared (name_at 16 (codes "q"))))))) ∷ []))
    ∷ (function ((word (specifier.Basic 18 basic.Int)) ∷ []) 22 (tree (DeclTree-F.Function 26 (tree (DeclTree-F.Declared (name_at 22 (codes "main")))) [] false)) 28 ((expression_row 29 (step (Expr-F.Assign 30 assign.Assign (step (Expr-F.Named (name_at 29 (codes "p")))) (step (Expr-F.Named (name_at 31 (codes "q"))))))) ∷ (return_row 33 (Some (step (Expr-F.Int 40 0 kind.Int)))) ∷ [])) ∷ []))
    ≡ Some (13, 30)
const_is_dropped = refl

-- char*p;void*v;int main(){p=v;return 0;}
void_pointer_to_a_pointer :
    refusal (elaborates ((declared_item 0 ((word (specifier.Basic 0 basic.Char)) ∷ []) ((plain 4 (tree (DeclTree-F.Pointed (pointer.To 4 false) (tree (DeclTree-F.Declared (name_at 5 (codes "p"))))))) ∷ []))
    ∷ (declared_item 7 ((word (specifier.Basic 7 basic.Void)) ∷ []) ((plain 11 (tree (DeclTree-F.Pointed (pointer.To 11 false) (tree (DeclTree-F.Declared (name_at 12 (codes "v"))))))) ∷ []))
    ∷ (function ((word (specifier.Basic 14 basic.Int)) ∷ []) 18 (tree (DeclTree-F.Function 22 (tree (DeclTree-F.Declared (name_at 18 (codes "main")))) [] false)) 24 ((expression_row 25 (step (Expr-F.Assign 26 assign.Assign (step (Expr-F.Named (name_at 25 (codes "p")))) (step (Expr-F.Named (name_at 27 (codes "v"))))))) ∷ (return_row 29 (Some (step (Expr-F.Int 36 0 kind.Int)))) ∷ [])) ∷ []))
    ≡ Some (13, 26)
void_pointer_to_a_pointer = refl

-- char*p;void*v;int main(){v=p;return 0;}
pointer_to_a_void_pointer :
    refusal (elaborates ((declared_item 0 ((word (specifier.Basic 0 basic.Char)) ∷ []) ((plain 4 (tree (DeclTree-F.Pointed (pointer.To 4 false) (tree (DeclTree-F.Declared (name_at 5 (codes "p"))))))) ∷ []))
    ∷ (declared_item 7 ((word (specifier.Basic 7 basic.Void)) ∷ []) ((plain 11 (tree (DeclTree-F.Pointed (pointer.To 11 false) (tree (DeclTree-F.Declared (name_at 12 (codes "v"))))))) ∷ []))
    ∷ (function ((word (specifier.Basic 14 basic.Int)) ∷ []) 18 (tree (DeclTree-F.Function 22 (tree (DeclTree-F.Declared (name_at 18 (codes "main")))) [] false)) 24 ((expression_row 25 (step (Expr-F.Assign 26 assign.Assign (step (Expr-F.Named (name_at 25 (codes "v")))) (step (Expr-F.Named (name_at 27 (codes "p"))))))) ∷ (return_row 29 (Some (step (Expr-F.Int 36 0 kind.Int)))) ∷ [])) ∷ []))
    ≡ None
pointer_to_a_void_pointer = refl

-- void f();int x;int main(){x=f();return 0;}
nothing_to_an_int :
    refusal (elaborates ((declared_item 0 ((word (specifier.Basic 0 basic.Void)) ∷ []) ((plain 5 (tree (DeclTree-F.Function 6 (tree (DeclTree-F.Declared (name_at 5 (codes "f")))) [] false))) ∷ []))
    ∷ (declared_item 9 ((word (specifier.Basic 9 basic.Int)) ∷ []) ((plain 13 (tree (DeclTree-F.Declared (name_at 13 (codes "x"))))) ∷ []))
    ∷ (function ((word (specifier.Basic 15 basic.Int)) ∷ []) 19 (tree (DeclTree-F.Function 23 (tree (DeclTree-F.Declared (name_at 19 (codes "main")))) [] false)) 25 ((expression_row 26 (step (Expr-F.Assign 27 assign.Assign (step (Expr-F.Named (name_at 26 (codes "x")))) (step (Expr-F.Call 29 (step (Expr-F.Named (name_at 28 (codes "f")))) []))))) ∷ (return_row 32 (Some (step (Expr-F.Int 39 0 kind.Int)))) ∷ [])) ∷ []))
    ≡ Some (13, 27)
nothing_to_an_int = refl

-- char*p;int main(){p="a";return 0;}
text_to_a_pointer :
    refusal (elaborates ((declared_item 0 ((word (specifier.Basic 0 basic.Char)) ∷ []) ((plain 4 (tree (DeclTree-F.Pointed (pointer.To 4 false) (tree (DeclTree-F.Declared (name_at 5 (codes "p"))))))) ∷ []))
    ∷ (function ((word (specifier.Basic 7 basic.Int)) ∷ []) 11 (tree (DeclTree-F.Function 15 (tree (DeclTree-F.Declared (name_at 11 (codes "main")))) [] false)) 17 ((expression_row 18 (step (Expr-F.Assign 19 assign.Assign (step (Expr-F.Named (name_at 18 (codes "p")))) (step (Expr-F.Text 20 (codes "a")))))) ∷ (return_row 24 (Some (step (Expr-F.Int 31 0 kind.Int)))) ∷ [])) ∷ []))
    ≡ None
text_to_a_pointer = refl

-- int*p;int main(){p="a";return 0;}
text_to_another_pointer :
    refusal (elaborates ((declared_item 0 ((word (specifier.Basic 0 basic.Int)) ∷ []) ((plain 3 (tree (DeclTree-F.Pointed (pointer.To 3 false) (tree (DeclTree-F.Declared (name_at 4 (codes "p"))))))) ∷ []))
    ∷ (function ((word (specifier.Basic 6 basic.Int)) ∷ []) 10 (tree (DeclTree-F.Function 14 (tree (DeclTree-F.Declared (name_at 10 (codes "main")))) [] false)) 16 ((expression_row 17 (step (Expr-F.Assign 18 assign.Assign (step (Expr-F.Named (name_at 17 (codes "p")))) (step (Expr-F.Text 19 (codes "a")))))) ∷ (return_row 23 (Some (step (Expr-F.Int 30 0 kind.Int)))) ∷ [])) ∷ []))
    ≡ Some (13, 18)
text_to_another_pointer = refl

-- const int c=1;int*p;int main(){c=p;return 0;}
modifiable_before_fit :
    refusal (elaborates ((declared_item 0 ((word (specifier.Const 0)) ∷ (word (specifier.Basic 6 basic.Int)) ∷ []) ((with_value 10 (tree (DeclTree-F.Declared (name_at 10 (codes "c")))) 11 12 (step (Expr-F.Int 12 1 kind.Int))) ∷ []))
    ∷ (declared_item 14 ((word (specifier.Basic 14 basic.Int)) ∷ []) ((plain 17 (tree (DeclTree-F.Pointed (pointer.To 17 false) (tree (DeclTree-F.Declared (name_at 18 (codes "p"))))))) ∷ []))
    ∷ (function ((word (specifier.Basic 20 basic.Int)) ∷ []) 24 (tree (DeclTree-F.Function 28 (tree (DeclTree-F.Declared (name_at 24 (codes "main")))) [] false)) 30 ((expression_row 31 (step (Expr-F.Assign 32 assign.Assign (step (Expr-F.Named (name_at 31 (codes "c")))) (step (Expr-F.Named (name_at 33 (codes "p"))))))) ∷ (return_row 35 (Some (step (Expr-F.Int 42 0 kind.Int)))) ∷ [])) ∷ []))
    ≡ Some (12, 32)
modifiable_before_fit = refl

-- enum E{A};const E e=A;int main(){e=1;return 0;}
modifiable_before_an_enumeration :
    refusal (elaborates ((declared_item 0 ((enumeration 0 (Some (5, (codes "E"))) ((record { at = 7; name = (codes "A"); value = None }) ∷ [])) ∷ []) [])
    ∷ (declared_item 10 ((word (specifier.Const 10)) ∷ (word (specifier.Named (record { at = 16; from_file = false; names = (codes "E") ∷ [] }))) ∷ []) ((with_value 18 (tree (DeclTree-F.Declared (name_at 18 (codes "e")))) 19 20 (step (Expr-F.Named (name_at 20 (codes "A"))))) ∷ []))
    ∷ (function ((word (specifier.Basic 22 basic.Int)) ∷ []) 26 (tree (DeclTree-F.Function 30 (tree (DeclTree-F.Declared (name_at 26 (codes "main")))) [] false)) 32 ((expression_row 33 (step (Expr-F.Assign 34 assign.Assign (step (Expr-F.Named (name_at 33 (codes "e")))) (step (Expr-F.Int 35 1 kind.Int))))) ∷ (return_row 37 (Some (step (Expr-F.Int 44 0 kind.Int)))) ∷ [])) ∷ []))
    ≡ Some (12, 34)
unfolding digits
modifiable_before_an_enumeration = refl

-- int a[2];int main(){a=1;return 0;}
array_before_fit :
    refusal (elaborates ((declared_item 0 ((word (specifier.Basic 0 basic.Int)) ∷ []) ((plain 4 (tree (DeclTree-F.Array 5 (tree (DeclTree-F.Declared (name_at 4 (codes "a")))) (Some (step (Expr-F.Int 6 2 kind.Int)))))) ∷ []))
    ∷ (function ((word (specifier.Basic 9 basic.Int)) ∷ []) 13 (tree (DeclTree-F.Function 17 (tree (DeclTree-F.Declared (name_at 13 (codes "main")))) [] false)) 19 ((expression_row 20 (step (Expr-F.Assign 21 assign.Assign (step (Expr-F.Named (name_at 20 (codes "a")))) (step (Expr-F.Int 22 1 kind.Int))))) ∷ (return_row 24 (Some (step (Expr-F.Int 31 0 kind.Int)))) ∷ [])) ∷ []))
    ≡ Some (12, 21)
array_before_fit = refl

-- int main(){1=x;return 0;}
right_side_before_modifiable :
    refusal (elaborates ((function ((word (specifier.Basic 0 basic.Int)) ∷ []) 4 (tree (DeclTree-F.Function 8 (tree (DeclTree-F.Declared (name_at 4 (codes "main")))) [] false)) 10 ((expression_row 11 (step (Expr-F.Assign 12 assign.Assign (step (Expr-F.Int 11 1 kind.Int)) (step (Expr-F.Named (name_at 13 (codes "x"))))))) ∷ (return_row 15 (Some (step (Expr-F.Int 22 0 kind.Int)))) ∷ [])) ∷ []))
    ≡ Some (10, 13)
right_side_before_modifiable = refl

-- int f();int main(){f()=1;return 0;}
assignment_of_a_result :
    refusal (elaborates ((declared_item 0 ((word (specifier.Basic 0 basic.Int)) ∷ []) ((plain 4 (tree (DeclTree-F.Function 5 (tree (DeclTree-F.Declared (name_at 4 (codes "f")))) [] false))) ∷ []))
    ∷ (function ((word (specifier.Basic 8 basic.Int)) ∷ []) 12 (tree (DeclTree-F.Function 16 (tree (DeclTree-F.Declared (name_at 12 (codes "main")))) [] false)) 18 ((expression_row 19 (step (Expr-F.Assign 22 assign.Assign (step (Expr-F.Call 20 (step (Expr-F.Named (name_at 19 (codes "f")))) [])) (step (Expr-F.Int 23 1 kind.Int))))) ∷ (return_row 25 (Some (step (Expr-F.Int 32 0 kind.Int)))) ∷ [])) ∷ []))
    ≡ Some (12, 22)
assignment_of_a_result = refl

-- int&f();int main(){f()=1;return 0;}
assignment_to_a_result_reference :
    refusal (elaborates ((declared_item 0 ((word (specifier.Basic 0 basic.Int)) ∷ []) ((plain 3 (tree (DeclTree-F.Pointed (pointer.Reference 3) (tree (DeclTree-F.Function 5 (tree (DeclTree-F.Declared (name_at 4 (codes "f")))) [] false))))) ∷ []))
    ∷ (function ((word (specifier.Basic 8 basic.Int)) ∷ []) 12 (tree (DeclTree-F.Function 16 (tree (DeclTree-F.Declared (name_at 12 (codes "main")))) [] false)) 18 ((expression_row 19 (step (Expr-F.Assign 22 assign.Assign (step (Expr-F.Call 20 (step (Expr-F.Named (name_at 19 (codes "f")))) [])) (step (Expr-F.Int 23 1 kind.Int))))) ∷ (return_row 25 (Some (step (Expr-F.Int 32 0 kind.Int)))) ∷ [])) ∷ []))
    ≡ None
assignment_to_a_result_reference = refl
