-- Binary operators (5.5 to 5.15).
use Rattle.std.proofs.Common.{◌≡◌, [], ◌∷◌, refl}
use Rattle.std.specs.Prelude.{false, Some, None, codes}
use Rattle.std.specs.Fmt.{digits}
use Rattle.cf_base.specs.declared.kind.Kind.TheVariants as kind
use Rattle.cf_syntax.specs.declared.operator.BinaryOp.TheVariants as binary
use Rattle.cf_syntax.specs.declared.specifier.BasicType.TheVariants as basic
use Rattle.cf_syntax.specs.declared.specifier.Pointer.TheVariants as pointer
use Rattle.cf_syntax.specs.declared.specifier.TypeSpecifier.TheVariants as specifier
use Rattle.cf_syntax.specs.declared.declarator.DeclTree.TheOpen.{DeclTree-F, Expr-F}
use Rattle.cf_elab.specs.Statement.{expression_row, return_row}
use Rattle.cf_elab.proofs.Words.{step, tree, word, name_at, enumeration, plain, function, declared_item, elaborates, refusal}

-- int*p;int main(){p+p;return 0;}
sum_of_pointers :
    refusal (elaborates ((declared_item 0 ((word (specifier.Basic 0 basic.Int)) ∷ []) ((plain 3 (tree (DeclTree-F.Pointed (pointer.To 3 false) (tree (DeclTree-F.Declared (name_at 4 (codes "p"))))))) ∷ []))
    ∷ (function ((word (specifier.Basic 6 basic.Int)) ∷ []) 10 (tree (DeclTree-F.Function 14 (tree (DeclTree-F.Declared (name_at 10 (codes "main")))) [] false)) 16 ((expression_row 17 (step (Expr-F.Binary 18 binary.Add (step (Expr-F.Named (name_at 17 (codes "p")))) (step (Expr-F.Named (name_at 19 (codes "p"))))))) ∷ (return_row 21 (Some (step (Expr-F.Int 28 0 kind.Int)))) ∷ [])) ∷ []))
    ≡ Some (18, 18)
sum_of_pointers = refl

-- int*p;int main(){p*1;return 0;}
product_of_a_pointer :
    refusal (elaborates ((declared_item 0 ((word (specifier.Basic 0 basic.Int)) ∷ []) ((plain 3 (tree (DeclTree-F.Pointed (pointer.To 3 false) (tree (DeclTree-F.Declared (name_at 4 (codes "p"))))))) ∷ []))
    ∷ (function ((word (specifier.Basic 6 basic.Int)) ∷ []) 10 (tree (DeclTree-F.Function 14 (tree (DeclTree-F.Declared (name_at 10 (codes "main")))) [] false)) 16 ((expression_row 17 (step (Expr-F.Binary 18 binary.Multiply (step (Expr-F.Named (name_at 17 (codes "p")))) (step (Expr-F.Int 19 1 kind.Int))))) ∷ (return_row 21 (Some (step (Expr-F.Int 28 0 kind.Int)))) ∷ [])) ∷ []))
    ≡ Some (18, 18)
product_of_a_pointer = refl

-- int*p;int main(){1-p;return 0;}
number_less_a_pointer :
    refusal (elaborates ((declared_item 0 ((word (specifier.Basic 0 basic.Int)) ∷ []) ((plain 3 (tree (DeclTree-F.Pointed (pointer.To 3 false) (tree (DeclTree-F.Declared (name_at 4 (codes "p"))))))) ∷ []))
    ∷ (function ((word (specifier.Basic 6 basic.Int)) ∷ []) 10 (tree (DeclTree-F.Function 14 (tree (DeclTree-F.Declared (name_at 10 (codes "main")))) [] false)) 16 ((expression_row 17 (step (Expr-F.Binary 18 binary.Subtract (step (Expr-F.Int 17 1 kind.Int)) (step (Expr-F.Named (name_at 19 (codes "p"))))))) ∷ (return_row 21 (Some (step (Expr-F.Int 28 0 kind.Int)))) ∷ [])) ∷ []))
    ≡ Some (18, 18)
number_less_a_pointer = refl

-- int*p;int main(){0-p;return 0;}
null_less_a_pointer :
    refusal (elaborates ((declared_item 0 ((word (specifier.Basic 0 basic.Int)) ∷ []) ((plain 3 (tree (DeclTree-F.Pointed (pointer.To 3 false) (tree (DeclTree-F.Declared (name_at 4 (codes "p"))))))) ∷ []))
    ∷ (function ((word (specifier.Basic 6 basic.Int)) ∷ []) 10 (tree (DeclTree-F.Function 14 (tree (DeclTree-F.Declared (name_at 10 (codes "main")))) [] false)) 16 ((expression_row 17 (step (Expr-F.Binary 18 binary.Subtract (step (Expr-F.Int 17 0 kind.Int)) (step (Expr-F.Named (name_at 19 (codes "p"))))))) ∷ (return_row 21 (Some (step (Expr-F.Int 28 0 kind.Int)))) ∷ [])) ∷ []))
    ≡ Some (18, 18)
null_less_a_pointer = refl

-- int*p;int main(){return p==1;}
pointer_and_a_number_by_equality :
    refusal (elaborates ((declared_item 0 ((word (specifier.Basic 0 basic.Int)) ∷ []) ((plain 3 (tree (DeclTree-F.Pointed (pointer.To 3 false) (tree (DeclTree-F.Declared (name_at 4 (codes "p"))))))) ∷ []))
    ∷ (function ((word (specifier.Basic 6 basic.Int)) ∷ []) 10 (tree (DeclTree-F.Function 14 (tree (DeclTree-F.Declared (name_at 10 (codes "main")))) [] false)) 16 ((return_row 17 (Some (step (Expr-F.Binary 25 binary.Equal (step (Expr-F.Named (name_at 24 (codes "p")))) (step (Expr-F.Int 27 1 kind.Int)))))) ∷ [])) ∷ []))
    ≡ Some (18, 25)
pointer_and_a_number_by_equality = refl

-- int*p;int main(){return p==0;}
pointer_and_null_by_equality :
    refusal (elaborates ((declared_item 0 ((word (specifier.Basic 0 basic.Int)) ∷ []) ((plain 3 (tree (DeclTree-F.Pointed (pointer.To 3 false) (tree (DeclTree-F.Declared (name_at 4 (codes "p"))))))) ∷ []))
    ∷ (function ((word (specifier.Basic 6 basic.Int)) ∷ []) 10 (tree (DeclTree-F.Function 14 (tree (DeclTree-F.Declared (name_at 10 (codes "main")))) [] false)) 16 ((return_row 17 (Some (step (Expr-F.Binary 25 binary.Equal (step (Expr-F.Named (name_at 24 (codes "p")))) (step (Expr-F.Int 27 0 kind.Int)))))) ∷ [])) ∷ []))
    ≡ None
pointer_and_null_by_equality = refl

-- int*p;int main(){return p<0;}
pointer_and_null_by_order :
    refusal (elaborates ((declared_item 0 ((word (specifier.Basic 0 basic.Int)) ∷ []) ((plain 3 (tree (DeclTree-F.Pointed (pointer.To 3 false) (tree (DeclTree-F.Declared (name_at 4 (codes "p"))))))) ∷ []))
    ∷ (function ((word (specifier.Basic 6 basic.Int)) ∷ []) 10 (tree (DeclTree-F.Function 14 (tree (DeclTree-F.Declared (name_at 10 (codes "main")))) [] false)) 16 ((return_row 17 (Some (step (Expr-F.Binary 25 binary.Less (step (Expr-F.Named (name_at 24 (codes "p")))) (step (Expr-F.Int 26 0 kind.Int)))))) ∷ [])) ∷ []))
    ≡ Some (18, 25)
pointer_and_null_by_order = refl

-- void*v;int main(){return v<v;}
void_pointers_by_order :
    refusal (elaborates ((declared_item 0 ((word (specifier.Basic 0 basic.Void)) ∷ []) ((plain 4 (tree (DeclTree-F.Pointed (pointer.To 4 false) (tree (DeclTree-F.Declared (name_at 5 (codes "v"))))))) ∷ []))
    ∷ (function ((word (specifier.Basic 7 basic.Int)) ∷ []) 11 (tree (DeclTree-F.Function 15 (tree (DeclTree-F.Declared (name_at 11 (codes "main")))) [] false)) 17 ((return_row 18 (Some (step (Expr-F.Binary 26 binary.Less (step (Expr-F.Named (name_at 25 (codes "v")))) (step (Expr-F.Named (name_at 27 (codes "v")))))))) ∷ [])) ∷ []))
    ≡ Some (18, 26)
void_pointers_by_order = refl

-- void*v;int*p;int main(){return v==p;}
void_pointers_by_equality :
    refusal (elaborates ((declared_item 0 ((word (specifier.Basic 0 basic.Void)) ∷ []) ((plain 4 (tree (DeclTree-F.Pointed (pointer.To 4 false) (tree (DeclTree-F.Declared (name_at 5 (codes "v"))))))) ∷ []))
    ∷ (declared_item 7 ((word (specifier.Basic 7 basic.Int)) ∷ []) ((plain 10 (tree (DeclTree-F.Pointed (pointer.To 10 false) (tree (DeclTree-F.Declared (name_at 11 (codes "p"))))))) ∷ []))
    ∷ (function ((word (specifier.Basic 13 basic.Int)) ∷ []) 17 (tree (DeclTree-F.Function 21 (tree (DeclTree-F.Declared (name_at 17 (codes "main")))) [] false)) 23 ((return_row 24 (Some (step (Expr-F.Binary 32 binary.Equal (step (Expr-F.Named (name_at 31 (codes "v")))) (step (Expr-F.Named (name_at 34 (codes "p")))))))) ∷ [])) ∷ []))
    ≡ None
void_pointers_by_equality = refl

-- void*v;int main(){v-v;return 0;}
difference_of_void_pointers :
    refusal (elaborates ((declared_item 0 ((word (specifier.Basic 0 basic.Void)) ∷ []) ((plain 4 (tree (DeclTree-F.Pointed (pointer.To 4 false) (tree (DeclTree-F.Declared (name_at 5 (codes "v"))))))) ∷ []))
    ∷ (function ((word (specifier.Basic 7 basic.Int)) ∷ []) 11 (tree (DeclTree-F.Function 15 (tree (DeclTree-F.Declared (name_at 11 (codes "main")))) [] false)) 17 ((expression_row 18 (step (Expr-F.Binary 19 binary.Subtract (step (Expr-F.Named (name_at 18 (codes "v")))) (step (Expr-F.Named (name_at 20 (codes "v"))))))) ∷ (return_row 22 (Some (step (Expr-F.Int 29 0 kind.Int)))) ∷ [])) ∷ []))
    ≡ Some (18, 19)
difference_of_void_pointers = refl

-- void*v;int main(){v+1;return 0;}
void_pointer_and_a_number :
    refusal (elaborates ((declared_item 0 ((word (specifier.Basic 0 basic.Void)) ∷ []) ((plain 4 (tree (DeclTree-F.Pointed (pointer.To 4 false) (tree (DeclTree-F.Declared (name_at 5 (codes "v"))))))) ∷ []))
    ∷ (function ((word (specifier.Basic 7 basic.Int)) ∷ []) 11 (tree (DeclTree-F.Function 15 (tree (DeclTree-F.Declared (name_at 11 (codes "main")))) [] false)) 17 ((expression_row 18 (step (Expr-F.Binary 19 binary.Add (step (Expr-F.Named (name_at 18 (codes "v")))) (step (Expr-F.Int 20 1 kind.Int))))) ∷ (return_row 22 (Some (step (Expr-F.Int 29 0 kind.Int)))) ∷ [])) ∷ []))
    ≡ Some (18, 19)
void_pointer_and_a_number = refl

-- int*p;char*q;int main(){return p==q;}
pointers_to_two_types :
    refusal (elaborates ((declared_item 0 ((word (specifier.Basic 0 basic.Int)) ∷ []) ((plain 3 (tree (DeclTree-F.Pointed (pointer.To 3 false) (tree (DeclTree-F.Declared (name_at 4 (codes "p"))))))) ∷ []))
    ∷ (declared_item 6 ((word (specifier.Basic 6 basic.Char)) ∷ []) ((plain 10 (tree (DeclTree-F.Pointed (pointer.To 10 false) (tree (DeclTree-F.Declared (name_at 11 (codes "q"))))))) ∷ []))
    ∷ (function ((word (specifier.Basic 13 basic.Int)) ∷ []) 17 (tree (DeclTree-F.Function 21 (tree (DeclTree-F.Declared (name_at 17 (codes "main")))) [] false)) 23 ((return_row 24 (Some (step (Expr-F.Binary 32 binary.Equal (step (Expr-F.Named (name_at 31 (codes "p")))) (step (Expr-F.Named (name_at 34 (codes "q")))))))) ∷ [])) ∷ []))
    ≡ Some (18, 32)
pointers_to_two_types = refl

-- int*p;char*q;int main(){return p<q;}
pointers_to_two_types_by_order :
    refusal (elaborates ((declared_item 0 ((word (specifier.Basic 0 basic.Int)) ∷ []) ((plain 3 (tree (DeclTree-F.Pointed (pointer.To 3 false) (tree (DeclTree-F.Declared (name_at 4 (codes "p"))))))) ∷ []))
    ∷ (declared_item 6 ((word (specifier.Basic 6 basic.Char)) ∷ []) ((plain 10 (tree (DeclTree-F.Pointed (pointer.To 10 false) (tree (DeclTree-F.Declared (name_at 11 (codes "q"))))))) ∷ []))
    ∷ (function ((word (specifier.Basic 13 basic.Int)) ∷ []) 17 (tree (DeclTree-F.Function 21 (tree (DeclTree-F.Declared (name_at 17 (codes "main")))) [] false)) 23 ((return_row 24 (Some (step (Expr-F.Binary 32 binary.Less (step (Expr-F.Named (name_at 31 (codes "p")))) (step (Expr-F.Named (name_at 33 (codes "q")))))))) ∷ [])) ∷ []))
    ≡ Some (18, 32)
pointers_to_two_types_by_order = refl

-- int*p;const int*q;int main(){return p==q;}
pointers_that_differ_in_const :
    refusal (elaborates ((declared_item 0 ((word (specifier.Basic 0 basic.Int)) ∷ []) ((plain 3 (tree (DeclTree-F.Pointed (pointer.To 3 false) (tree (DeclTree-F.Declared (name_at 4 (codes "p"))))))) ∷ []))
    ∷ (declared_item 6 ((word (specifier.Const 6)) ∷ (word (specifier.Basic 12 basic.Int)) ∷ []) ((plain 15 (tree (DeclTree-F.Pointed (pointer.To 15 false) (tree (DeclTree-F.Declared (name_at 16 (codes "q"))))))) ∷ []))
    ∷ (function ((word (specifier.Basic 18 basic.Int)) ∷ []) 22 (tree (DeclTree-F.Function 26 (tree (DeclTree-F.Declared (name_at 22 (codes "main")))) [] false)) 28 ((return_row 29 (Some (step (Expr-F.Binary 37 binary.Equal (step (Expr-F.Named (name_at 36 (codes "p")))) (step (Expr-F.Named (name_at 39 (codes "q")))))))) ∷ [])) ∷ []))
    ≡ None
pointers_that_differ_in_const = refl

-- int f();int g();int main(){return f==g;}
functions_by_equality :
    refusal (elaborates ((declared_item 0 ((word (specifier.Basic 0 basic.Int)) ∷ []) ((plain 4 (tree (DeclTree-F.Function 5 (tree (DeclTree-F.Declared (name_at 4 (codes "f")))) [] false))) ∷ []))
    ∷ (declared_item 8 ((word (specifier.Basic 8 basic.Int)) ∷ []) ((plain 12 (tree (DeclTree-F.Function 13 (tree (DeclTree-F.Declared (name_at 12 (codes "g")))) [] false))) ∷ []))
    ∷ (function ((word (specifier.Basic 16 basic.Int)) ∷ []) 20 (tree (DeclTree-F.Function 24 (tree (DeclTree-F.Declared (name_at 20 (codes "main")))) [] false)) 26 ((return_row 27 (Some (step (Expr-F.Binary 35 binary.Equal (step (Expr-F.Named (name_at 34 (codes "f")))) (step (Expr-F.Named (name_at 37 (codes "g")))))))) ∷ [])) ∷ []))
    ≡ Some (18, 35)
functions_by_equality = refl

-- int f();int main(){return f==0;}
function_and_null_by_equality :
    refusal (elaborates ((declared_item 0 ((word (specifier.Basic 0 basic.Int)) ∷ []) ((plain 4 (tree (DeclTree-F.Function 5 (tree (DeclTree-F.Declared (name_at 4 (codes "f")))) [] false))) ∷ []))
    ∷ (function ((word (specifier.Basic 8 basic.Int)) ∷ []) 12 (tree (DeclTree-F.Function 16 (tree (DeclTree-F.Declared (name_at 12 (codes "main")))) [] false)) 18 ((return_row 19 (Some (step (Expr-F.Binary 27 binary.Equal (step (Expr-F.Named (name_at 26 (codes "f")))) (step (Expr-F.Int 29 0 kind.Int)))))) ∷ [])) ∷ []))
    ≡ None
function_and_null_by_equality = refl

-- int f();int main(){return f<0;}
function_and_null_by_order :
    refusal (elaborates ((declared_item 0 ((word (specifier.Basic 0 basic.Int)) ∷ []) ((plain 4 (tree (DeclTree-F.Function 5 (tree (DeclTree-F.Declared (name_at 4 (codes "f")))) [] false))) ∷ []))
    ∷ (function ((word (specifier.Basic 8 basic.Int)) ∷ []) 12 (tree (DeclTree-F.Function 16 (tree (DeclTree-F.Declared (name_at 12 (codes "main")))) [] false)) 18 ((return_row 19 (Some (step (Expr-F.Binary 27 binary.Less (step (Expr-F.Named (name_at 26 (codes "f")))) (step (Expr-F.Int 28 0 kind.Int)))))) ∷ [])) ∷ []))
    ≡ Some (18, 27)
function_and_null_by_order = refl

-- int f();void*v;int main(){return f==v;}
function_and_a_void_pointer :
    refusal (elaborates ((declared_item 0 ((word (specifier.Basic 0 basic.Int)) ∷ []) ((plain 4 (tree (DeclTree-F.Function 5 (tree (DeclTree-F.Declared (name_at 4 (codes "f")))) [] false))) ∷ []))
    ∷ (declared_item 8 ((word (specifier.Basic 8 basic.Void)) ∷ []) ((plain 12 (tree (DeclTree-F.Pointed (pointer.To 12 false) (tree (DeclTree-F.Declared (name_at 13 (codes "v"))))))) ∷ []))
    ∷ (function ((word (specifier.Basic 15 basic.Int)) ∷ []) 19 (tree (DeclTree-F.Function 23 (tree (DeclTree-F.Declared (name_at 19 (codes "main")))) [] false)) 25 ((return_row 26 (Some (step (Expr-F.Binary 34 binary.Equal (step (Expr-F.Named (name_at 33 (codes "f")))) (step (Expr-F.Named (name_at 36 (codes "v")))))))) ∷ [])) ∷ []))
    ≡ Some (18, 34)
function_and_a_void_pointer = refl

-- void f();int main(){return f()+1;}
nothing_on_the_left :
    refusal (elaborates ((declared_item 0 ((word (specifier.Basic 0 basic.Void)) ∷ []) ((plain 5 (tree (DeclTree-F.Function 6 (tree (DeclTree-F.Declared (name_at 5 (codes "f")))) [] false))) ∷ []))
    ∷ (function ((word (specifier.Basic 9 basic.Int)) ∷ []) 13 (tree (DeclTree-F.Function 17 (tree (DeclTree-F.Declared (name_at 13 (codes "main")))) [] false)) 19 ((return_row 20 (Some (step (Expr-F.Binary 30 binary.Add (step (Expr-F.Call 28 (step (Expr-F.Named (name_at 27 (codes "f")))) [])) (step (Expr-F.Int 31 1 kind.Int)))))) ∷ [])) ∷ []))
    ≡ Some (18, 30)
nothing_on_the_left = refl

-- void f();int main(){return 1+f();}
nothing_on_the_right :
    refusal (elaborates ((declared_item 0 ((word (specifier.Basic 0 basic.Void)) ∷ []) ((plain 5 (tree (DeclTree-F.Function 6 (tree (DeclTree-F.Declared (name_at 5 (codes "f")))) [] false))) ∷ []))
    ∷ (function ((word (specifier.Basic 9 basic.Int)) ∷ []) 13 (tree (DeclTree-F.Function 17 (tree (DeclTree-F.Declared (name_at 13 (codes "main")))) [] false)) 19 ((return_row 20 (Some (step (Expr-F.Binary 28 binary.Add (step (Expr-F.Int 27 1 kind.Int)) (step (Expr-F.Call 30 (step (Expr-F.Named (name_at 29 (codes "f")))) [])))))) ∷ [])) ∷ []))
    ≡ Some (18, 28)
nothing_on_the_right = refl

-- int*p;int main(){p<<1;return 0;}
shift_of_a_pointer :
    refusal (elaborates ((declared_item 0 ((word (specifier.Basic 0 basic.Int)) ∷ []) ((plain 3 (tree (DeclTree-F.Pointed (pointer.To 3 false) (tree (DeclTree-F.Declared (name_at 4 (codes "p"))))))) ∷ []))
    ∷ (function ((word (specifier.Basic 6 basic.Int)) ∷ []) 10 (tree (DeclTree-F.Function 14 (tree (DeclTree-F.Declared (name_at 10 (codes "main")))) [] false)) 16 ((expression_row 17 (step (Expr-F.Binary 18 binary.ShiftLeft (step (Expr-F.Named (name_at 17 (codes "p")))) (step (Expr-F.Int 20 1 kind.Int))))) ∷ (return_row 22 (Some (step (Expr-F.Int 29 0 kind.Int)))) ∷ [])) ∷ []))
    ≡ Some (18, 18)
shift_of_a_pointer = refl

-- int*p;int main(){1<<p;return 0;}
shift_by_a_pointer :
    refusal (elaborates ((declared_item 0 ((word (specifier.Basic 0 basic.Int)) ∷ []) ((plain 3 (tree (DeclTree-F.Pointed (pointer.To 3 false) (tree (DeclTree-F.Declared (name_at 4 (codes "p"))))))) ∷ []))
    ∷ (function ((word (specifier.Basic 6 basic.Int)) ∷ []) 10 (tree (DeclTree-F.Function 14 (tree (DeclTree-F.Declared (name_at 10 (codes "main")))) [] false)) 16 ((expression_row 17 (step (Expr-F.Binary 18 binary.ShiftLeft (step (Expr-F.Int 17 1 kind.Int)) (step (Expr-F.Named (name_at 20 (codes "p"))))))) ∷ (return_row 22 (Some (step (Expr-F.Int 29 0 kind.Int)))) ∷ [])) ∷ []))
    ≡ Some (18, 18)
shift_by_a_pointer = refl

-- int*p;int main(){p&1;return 0;}
and_of_a_pointer :
    refusal (elaborates ((declared_item 0 ((word (specifier.Basic 0 basic.Int)) ∷ []) ((plain 3 (tree (DeclTree-F.Pointed (pointer.To 3 false) (tree (DeclTree-F.Declared (name_at 4 (codes "p"))))))) ∷ []))
    ∷ (function ((word (specifier.Basic 6 basic.Int)) ∷ []) 10 (tree (DeclTree-F.Function 14 (tree (DeclTree-F.Declared (name_at 10 (codes "main")))) [] false)) 16 ((expression_row 17 (step (Expr-F.Binary 18 binary.BitAnd (step (Expr-F.Named (name_at 17 (codes "p")))) (step (Expr-F.Int 19 1 kind.Int))))) ∷ (return_row 21 (Some (step (Expr-F.Int 28 0 kind.Int)))) ∷ [])) ∷ []))
    ≡ Some (18, 18)
and_of_a_pointer = refl

-- int*p;int main(){1%p;return 0;}
remainder_by_a_pointer :
    refusal (elaborates ((declared_item 0 ((word (specifier.Basic 0 basic.Int)) ∷ []) ((plain 3 (tree (DeclTree-F.Pointed (pointer.To 3 false) (tree (DeclTree-F.Declared (name_at 4 (codes "p"))))))) ∷ []))
    ∷ (function ((word (specifier.Basic 6 basic.Int)) ∷ []) 10 (tree (DeclTree-F.Function 14 (tree (DeclTree-F.Declared (name_at 10 (codes "main")))) [] false)) 16 ((expression_row 17 (step (Expr-F.Binary 18 binary.Remainder (step (Expr-F.Int 17 1 kind.Int)) (step (Expr-F.Named (name_at 19 (codes "p"))))))) ∷ (return_row 21 (Some (step (Expr-F.Int 28 0 kind.Int)))) ∷ [])) ∷ []))
    ≡ Some (18, 18)
remainder_by_a_pointer = refl

-- int*p;int main(){p*x;return 0;}
right_name_before_the_types :
    refusal (elaborates ((declared_item 0 ((word (specifier.Basic 0 basic.Int)) ∷ []) ((plain 3 (tree (DeclTree-F.Pointed (pointer.To 3 false) (tree (DeclTree-F.Declared (name_at 4 (codes "p"))))))) ∷ []))
    ∷ (function ((word (specifier.Basic 6 basic.Int)) ∷ []) 10 (tree (DeclTree-F.Function 14 (tree (DeclTree-F.Declared (name_at 10 (codes "main")))) [] false)) 16 ((expression_row 17 (step (Expr-F.Binary 18 binary.Multiply (step (Expr-F.Named (name_at 17 (codes "p")))) (step (Expr-F.Named (name_at 19 (codes "x"))))))) ∷ (return_row 21 (Some (step (Expr-F.Int 28 0 kind.Int)))) ∷ [])) ∷ []))
    ≡ Some (10, 19)
right_name_before_the_types = refl

-- int*p;int main(){p+p+x;return 0;}
left_operator_before_the_right_name :
    refusal (elaborates ((declared_item 0 ((word (specifier.Basic 0 basic.Int)) ∷ []) ((plain 3 (tree (DeclTree-F.Pointed (pointer.To 3 false) (tree (DeclTree-F.Declared (name_at 4 (codes "p"))))))) ∷ []))
    ∷ (function ((word (specifier.Basic 6 basic.Int)) ∷ []) 10 (tree (DeclTree-F.Function 14 (tree (DeclTree-F.Declared (name_at 10 (codes "main")))) [] false)) 16 ((expression_row 17 (step (Expr-F.Binary 20 binary.Add (step (Expr-F.Binary 18 binary.Add (step (Expr-F.Named (name_at 17 (codes "p")))) (step (Expr-F.Named (name_at 19 (codes "p")))))) (step (Expr-F.Named (name_at 21 (codes "x"))))))) ∷ (return_row 23 (Some (step (Expr-F.Int 30 0 kind.Int)))) ∷ [])) ∷ []))
    ≡ Some (18, 18)
left_operator_before_the_right_name = refl

-- enum E{A,B};int main(){return A<2;}
enumeration_and_a_number :
    refusal (elaborates ((declared_item 0 ((enumeration 0 (Some (5, (codes "E"))) ((record { at = 7; name = (codes "A"); value = None }) ∷ (record { at = 9; name = (codes "B"); value = None }) ∷ [])) ∷ []) [])
    ∷ (function ((word (specifier.Basic 12 basic.Int)) ∷ []) 16 (tree (DeclTree-F.Function 20 (tree (DeclTree-F.Declared (name_at 16 (codes "main")))) [] false)) 22 ((return_row 23 (Some (step (Expr-F.Binary 31 binary.Less (step (Expr-F.Named (name_at 30 (codes "A")))) (step (Expr-F.Int 32 2 kind.Int)))))) ∷ [])) ∷ []))
    ≡ None
unfolding digits
enumeration_and_a_number = refl

-- void f();int main(){return f()&&1;}
condition_of_nothing_on_the_left :
    refusal (elaborates ((declared_item 0 ((word (specifier.Basic 0 basic.Void)) ∷ []) ((plain 5 (tree (DeclTree-F.Function 6 (tree (DeclTree-F.Declared (name_at 5 (codes "f")))) [] false))) ∷ []))
    ∷ (function ((word (specifier.Basic 9 basic.Int)) ∷ []) 13 (tree (DeclTree-F.Function 17 (tree (DeclTree-F.Declared (name_at 13 (codes "main")))) [] false)) 19 ((return_row 20 (Some (step (Expr-F.Binary 30 binary.LogicalAnd (step (Expr-F.Call 28 (step (Expr-F.Named (name_at 27 (codes "f")))) [])) (step (Expr-F.Int 32 1 kind.Int)))))) ∷ [])) ∷ []))
    ≡ Some (13, 30)
condition_of_nothing_on_the_left = refl

-- void f();int main(){return 1&&f();}
condition_of_nothing_on_the_right :
    refusal (elaborates ((declared_item 0 ((word (specifier.Basic 0 basic.Void)) ∷ []) ((plain 5 (tree (DeclTree-F.Function 6 (tree (DeclTree-F.Declared (name_at 5 (codes "f")))) [] false))) ∷ []))
    ∷ (function ((word (specifier.Basic 9 basic.Int)) ∷ []) 13 (tree (DeclTree-F.Function 17 (tree (DeclTree-F.Declared (name_at 13 (codes "main")))) [] false)) 19 ((return_row 20 (Some (step (Expr-F.Binary 28 binary.LogicalAnd (step (Expr-F.Int 27 1 kind.Int)) (step (Expr-F.Call 31 (step (Expr-F.Named (name_at 30 (codes "f")))) [])))))) ∷ [])) ∷ []))
    ≡ Some (13, 28)
condition_of_nothing_on_the_right = refl

-- void f();int main(){return 0||f();}
or_of_nothing :
    refusal (elaborates ((declared_item 0 ((word (specifier.Basic 0 basic.Void)) ∷ []) ((plain 5 (tree (DeclTree-F.Function 6 (tree (DeclTree-F.Declared (name_at 5 (codes "f")))) [] false))) ∷ []))
    ∷ (function ((word (specifier.Basic 9 basic.Int)) ∷ []) 13 (tree (DeclTree-F.Function 17 (tree (DeclTree-F.Declared (name_at 13 (codes "main")))) [] false)) 19 ((return_row 20 (Some (step (Expr-F.Binary 28 binary.LogicalOr (step (Expr-F.Int 27 0 kind.Int)) (step (Expr-F.Call 31 (step (Expr-F.Named (name_at 30 (codes "f")))) [])))))) ∷ [])) ∷ []))
    ≡ Some (13, 28)
or_of_nothing = refl

-- void f();int main(){return f()&&x;}
right_side_before_a_condition :
    refusal (elaborates ((declared_item 0 ((word (specifier.Basic 0 basic.Void)) ∷ []) ((plain 5 (tree (DeclTree-F.Function 6 (tree (DeclTree-F.Declared (name_at 5 (codes "f")))) [] false))) ∷ []))
    ∷ (function ((word (specifier.Basic 9 basic.Int)) ∷ []) 13 (tree (DeclTree-F.Function 17 (tree (DeclTree-F.Declared (name_at 13 (codes "main")))) [] false)) 19 ((return_row 20 (Some (step (Expr-F.Binary 30 binary.LogicalAnd (step (Expr-F.Call 28 (step (Expr-F.Named (name_at 27 (codes "f")))) [])) (step (Expr-F.Named (name_at 32 (codes "x")))))))) ∷ [])) ∷ []))
    ≡ Some (10, 32)
right_side_before_a_condition = refl

-- int x;int main(){return x.*x;}
pointer_to_member_that_is_none :
    refusal (elaborates ((declared_item 0 ((word (specifier.Basic 0 basic.Int)) ∷ []) ((plain 4 (tree (DeclTree-F.Declared (name_at 4 (codes "x"))))) ∷ []))
    ∷ (function ((word (specifier.Basic 6 basic.Int)) ∷ []) 10 (tree (DeclTree-F.Function 14 (tree (DeclTree-F.Declared (name_at 10 (codes "main")))) [] false)) 16 ((return_row 17 (Some (step (Expr-F.Binary 25 binary.DotStar (step (Expr-F.Named (name_at 24 (codes "x")))) (step (Expr-F.Named (name_at 27 (codes "x")))))))) ∷ [])) ∷ []))
    ≡ Some (18, 25)
pointer_to_member_that_is_none = refl

-- int*p;int x;int main(){return p->*x;}
arrow_to_member_that_is_none :
    refusal (elaborates ((declared_item 0 ((word (specifier.Basic 0 basic.Int)) ∷ []) ((plain 3 (tree (DeclTree-F.Pointed (pointer.To 3 false) (tree (DeclTree-F.Declared (name_at 4 (codes "p"))))))) ∷ []))
    ∷ (declared_item 6 ((word (specifier.Basic 6 basic.Int)) ∷ []) ((plain 10 (tree (DeclTree-F.Declared (name_at 10 (codes "x"))))) ∷ []))
    ∷ (function ((word (specifier.Basic 12 basic.Int)) ∷ []) 16 (tree (DeclTree-F.Function 20 (tree (DeclTree-F.Declared (name_at 16 (codes "main")))) [] false)) 22 ((return_row 23 (Some (step (Expr-F.Binary 31 binary.ArrowStar (step (Expr-F.Named (name_at 30 (codes "p")))) (step (Expr-F.Named (name_at 34 (codes "x")))))))) ∷ [])) ∷ []))
    ≡ Some (18, 31)
arrow_to_member_that_is_none = refl
