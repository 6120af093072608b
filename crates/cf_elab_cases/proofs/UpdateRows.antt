-- `op=` (5.17).
use Rattle.std.proofs.Common.{◌≡◌, [], ◌∷◌, refl}
use Rattle.std.specs.Prelude.{true, false, Some, None, codes}
use Rattle.std.specs.Fmt.{digits}
use Rattle.cf_base.specs.declared.kind.Kind.TheVariants as kind
use Rattle.cf_syntax.specs.declared.operator.AssignOp.TheVariants as assign
use Rattle.cf_syntax.specs.declared.specifier.BasicType.TheVariants as basic
use Rattle.cf_syntax.specs.declared.specifier.Pointer.TheVariants as pointer
use Rattle.cf_syntax.specs.declared.specifier.TypeSpecifier.TheVariants as specifier
use Rattle.cf_syntax.specs.declared.declarator.DeclTree.TheOpen.{DeclTree-F, Expr-F}
use Rattle.cf_elab.specs.Statement.{expression_row, return_row}
use Rattle.cf_elab.proofs.Words.{step, tree, word, name_at, enumeration, plain, with_value, function, declared_item, elaborates, refusal}

-- int main(){1+=1;return 0;}
update_of_a_number :
    refusal (elaborates ((function ((word (specifier.Basic 0 basic.Int)) ∷ []) 4 (tree (DeclTree-F.Function 8 (tree (DeclTree-F.Declared (name_at 4 (codes "main")))) [] false)) 10 ((expression_row 11 (step (Expr-F.Assign 12 assign.Add (step (Expr-F.Int 11 1 kind.Int)) (step (Expr-F.Int 14 1 kind.Int))))) ∷ (return_row 16 (Some (step (Expr-F.Int 23 0 kind.Int)))) ∷ [])) ∷ []))
    ≡ Some (12, 12)
update_of_a_number = refl

-- const int c=1;int main(){c-=2;return 0;}
update_of_a_const_object :
    refusal (elaborates ((declared_item 0 ((word (specifier.Const 0)) ∷ (word (specifier.Basic 6 basic.Int)) ∷ []) ((with_value 10 (tree (DeclTree-F.Declared (name_at 10 (codes "c")))) 11 12 (step (Expr-F.Int 12 1 kind.Int))) ∷ []))
    ∷ (function ((word (specifier.Basic 14 basic.Int)) ∷ []) 18 (tree (DeclTree-F.Function 22 (tree (DeclTree-F.Declared (name_at 18 (codes "main")))) [] false)) 24 ((expression_row 25 (step (Expr-F.Assign 26 assign.Subtract (step (Expr-F.Named (name_at 25 (codes "c")))) (step (Expr-F.Int 28 2 kind.Int))))) ∷ (return_row 30 (Some (step (Expr-F.Int 37 0 kind.Int)))) ∷ [])) ∷ []))
    ≡ Some (12, 26)
update_of_a_const_object = refl

-- int*p;int main(){p+=p;return 0;}
pointer_plus_a_pointer :
    refusal (elaborates ((declared_item 0 ((word (specifier.Basic 0 basic.Int)) ∷ []) ((plain 3 (tree (DeclTree-F.Pointed (pointer.To 3 false) (tree (DeclTree-F.Declared (name_at 4 (codes "p"))))))) ∷ []))
    ∷ (function ((word (specifier.Basic 6 basic.Int)) ∷ []) 10 (tree (DeclTree-F.Function 14 (tree (DeclTree-F.Declared (name_at 10 (codes "main")))) [] false)) 16 ((expression_row 17 (step (Expr-F.Assign 18 assign.Add (step (Expr-F.Named (name_at 17 (codes "p")))) (step (Expr-F.Named (name_at 20 (codes "p"))))))) ∷ (return_row 22 (Some (step (Expr-F.Int 29 0 kind.Int)))) ∷ [])) ∷ []))
    ≡ Some (18, 18)
pointer_plus_a_pointer = refl

-- int*p;int main(){p-=p;return 0;}
pointer_minus_a_pointer :
    refusal (elaborates ((declared_item 0 ((word (specifier.Basic 0 basic.Int)) ∷ []) ((plain 3 (tree (DeclTree-F.Pointed (pointer.To 3 false) (tree (DeclTree-F.Declared (name_at 4 (codes "p"))))))) ∷ []))
    ∷ (function ((word (specifier.Basic 6 basic.Int)) ∷ []) 10 (tree (DeclTree-F.Function 14 (tree (DeclTree-F.Declared (name_at 10 (codes "main")))) [] false)) 16 ((expression_row 17 (step (Expr-F.Assign 18 assign.Subtract (step (Expr-F.Named (name_at 17 (codes "p")))) (step (Expr-F.Named (name_at 20 (codes "p"))))))) ∷ (return_row 22 (Some (step (Expr-F.Int 29 0 kind.Int)))) ∷ [])) ∷ []))
    ≡ Some (13, 18)
pointer_minus_a_pointer = refl

-- int*p;int main(){p*=1;return 0;}
pointer_times_a_number :
    refusal (elaborates ((declared_item 0 ((word (specifier.Basic 0 basic.Int)) ∷ []) ((plain 3 (tree (DeclTree-F.Pointed (pointer.To 3 false) (tree (DeclTree-F.Declared (name_at 4 (codes "p"))))))) ∷ []))
    ∷ (function ((word (specifier.Basic 6 basic.Int)) ∷ []) 10 (tree (DeclTree-F.Function 14 (tree (DeclTree-F.Declared (name_at 10 (codes "main")))) [] false)) 16 ((expression_row 17 (step (Expr-F.Assign 18 assign.Multiply (step (Expr-F.Named (name_at 17 (codes "p")))) (step (Expr-F.Int 20 1 kind.Int))))) ∷ (return_row 22 (Some (step (Expr-F.Int 29 0 kind.Int)))) ∷ [])) ∷ []))
    ≡ Some (18, 18)
pointer_times_a_number = refl

-- int x;int*p;int main(){x+=p;return 0;}
int_plus_a_pointer :
    refusal (elaborates ((declared_item 0 ((word (specifier.Basic 0 basic.Int)) ∷ []) ((plain 4 (tree (DeclTree-F.Declared (name_at 4 (codes "x"))))) ∷ []))
    ∷ (declared_item 6 ((word (specifier.Basic 6 basic.Int)) ∷ []) ((plain 9 (tree (DeclTree-F.Pointed (pointer.To 9 false) (tree (DeclTree-F.Declared (name_at 10 (codes "p"))))))) ∷ []))
    ∷ (function ((word (specifier.Basic 12 basic.Int)) ∷ []) 16 (tree (DeclTree-F.Function 20 (tree (DeclTree-F.Declared (name_at 16 (codes "main")))) [] false)) 22 ((expression_row 23 (step (Expr-F.Assign 24 assign.Add (step (Expr-F.Named (name_at 23 (codes "x")))) (step (Expr-F.Named (name_at 26 (codes "p"))))))) ∷ (return_row 28 (Some (step (Expr-F.Int 35 0 kind.Int)))) ∷ [])) ∷ []))
    ≡ Some (13, 24)
int_plus_a_pointer = refl

-- int x;int*p;int main(){x-=p;return 0;}
int_minus_a_pointer :
    refusal (elaborates ((declared_item 0 ((word (specifier.Basic 0 basic.Int)) ∷ []) ((plain 4 (tree (DeclTree-F.Declared (name_at 4 (codes "x"))))) ∷ []))
    ∷ (declared_item 6 ((word (specifier.Basic 6 basic.Int)) ∷ []) ((plain 9 (tree (DeclTree-F.Pointed (pointer.To 9 false) (tree (DeclTree-F.Declared (name_at 10 (codes "p"))))))) ∷ []))
    ∷ (function ((word (specifier.Basic 12 basic.Int)) ∷ []) 16 (tree (DeclTree-F.Function 20 (tree (DeclTree-F.Declared (name_at 16 (codes "main")))) [] false)) 22 ((expression_row 23 (step (Expr-F.Assign 24 assign.Subtract (step (Expr-F.Named (name_at 23 (codes "x")))) (step (Expr-F.Named (name_at 26 (codes "p"))))))) ∷ (return_row 28 (Some (step (Expr-F.Int 35 0 kind.Int)))) ∷ [])) ∷ []))
    ≡ Some (18, 24)
int_minus_a_pointer = refl

-- enum E{A};E e;int main(){e+=1;return 0;}
enumeration_plus_a_number :
    refusal (elaborates ((declared_item 0 ((enumeration 0 (Some (5, (codes "E"))) ((record { at = 7; name = (codes "A"); value = None }) ∷ [])) ∷ []) [])
    ∷ (declared_item 10 ((word (specifier.Named (record { at = 10; from_file = false; names = (codes "E") ∷ [] }))) ∷ []) ((plain 12 (tree (DeclTree-F.Declared (name_at 12 (codes "e"))))) ∷ []))
    ∷ (function ((word (specifier.Basic 14 basic.Int)) ∷ []) 18 (tree (DeclTree-F.Function 22 (tree (DeclTree-F.Declared (name_at 18 (codes "main")))) [] false)) 24 ((expression_row 25 (step (Expr-F.Assign 26 assign.Add (step (Expr-F.Named (name_at 25 (codes "e")))) (step (Expr-F.Int 28 1 kind.Int))))) ∷ (return_row 30 (Some (step (Expr-F.Int 37 0 kind.Int)))) ∷ [])) ∷ []))
    ≡ Some (25, 26)
unfolding digits
enumeration_plus_a_number = refl

-- int*const p=0;int main(){p*=1;return 0;}
modifiable_before_the_operands :
    refusal (elaborates ((declared_item 0 ((word (specifier.Basic 0 basic.Int)) ∷ []) ((with_value 3 (tree (DeclTree-F.Pointed (pointer.To 3 true) (tree (DeclTree-F.Declared (name_at 10 (codes "p")))))) 11 12 (step (Expr-F.Int 12 0 kind.Int))) ∷ []))
    ∷ (function ((word (specifier.Basic 14 basic.Int)) ∷ []) 18 (tree (DeclTree-F.Function 22 (tree (DeclTree-F.Declared (name_at 18 (codes "main")))) [] false)) 24 ((expression_row 25 (step (Expr-F.Assign 26 assign.Multiply (step (Expr-F.Named (name_at 25 (codes "p")))) (step (Expr-F.Int 28 1 kind.Int))))) ∷ (return_row 30 (Some (step (Expr-F.Int 37 0 kind.Int)))) ∷ [])) ∷ []))
    ≡ Some (12, 26)
modifiable_before_the_operands = refl

-- enum E{A};const E e=A;int main(){e|=1;return 0;}
modifiable_before_the_fit_back :
    refusal (elaborates ((declared_item 0 ((enumeration 0 (Some (5, (codes "E"))) ((record { at = 7; name = (codes "A"); value = None }) ∷ [])) ∷ []) [])
    ∷ (declared_item 10 ((word (specifier.Const 10)) ∷ (word (specifier.Named (record { at = 16; from_file = false; names = (codes "E") ∷ [] }))) ∷ []) ((with_value 18 (tree (DeclTree-F.Declared (name_at 18 (codes "e")))) 19 20 (step (Expr-F.Named (name_at 20 (codes "A"))))) ∷ []))
    ∷ (function ((word (specifier.Basic 22 basic.Int)) ∷ []) 26 (tree (DeclTree-F.Function 30 (tree (DeclTree-F.Declared (name_at 26 (codes "main")))) [] false)) 32 ((expression_row 33 (step (Expr-F.Assign 34 assign.BitOr (step (Expr-F.Named (name_at 33 (codes "e")))) (step (Expr-F.Int 36 1 kind.Int))))) ∷ (return_row 38 (Some (step (Expr-F.Int 45 0 kind.Int)))) ∷ [])) ∷ []))
    ≡ Some (12, 34)
unfolding digits
modifiable_before_the_fit_back = refl

-- enum E{A};E e;int*p;int main(){e+=p;return 0;}
enumeration_plus_a_pointer :
    refusal (elaborates ((declared_item 0 ((enumeration 0 (Some (5, (codes "E"))) ((record { at = 7; name = (codes "A"); value = None }) ∷ [])) ∷ []) [])
    ∷ (declared_item 10 ((word (specifier.Named (record { at = 10; from_file = false; names = (codes "E") ∷ [] }))) ∷ []) ((plain 12 (tree (DeclTree-F.Declared (name_at 12 (codes "e"))))) ∷ []))
    ∷ (declared_item 14 ((word (specifier.Basic 14 basic.Int)) ∷ []) ((plain 17 (tree (DeclTree-F.Pointed (pointer.To 17 false) (tree (DeclTree-F.Declared (name_at 18 (codes "p"))))))) ∷ []))
    ∷ (function ((word (specifier.Basic 20 basic.Int)) ∷ []) 24 (tree (DeclTree-F.Function 28 (tree (DeclTree-F.Declared (name_at 24 (codes "main")))) [] false)) 30 ((expression_row 31 (step (Expr-F.Assign 32 assign.Add (step (Expr-F.Named (name_at 31 (codes "e")))) (step (Expr-F.Named (name_at 34 (codes "p"))))))) ∷ (return_row 36 (Some (step (Expr-F.Int 43 0 kind.Int)))) ∷ [])) ∷ []))
    ≡ Some (13, 32)
unfolding digits
enumeration_plus_a_pointer = refl

-- enum E{A};E e;int*p;int main(){e-=p;return 0;}
operands_before_the_fit_back :
    refusal (elaborates ((declared_item 0 ((enumeration 0 (Some (5, (codes "E"))) ((record { at = 7; name = (codes "A"); value = None }) ∷ [])) ∷ []) [])
    ∷ (declared_item 10 ((word (specifier.Named (record { at = 10; from_file = false; names = (codes "E") ∷ [] }))) ∷ []) ((plain 12 (tree (DeclTree-F.Declared (name_at 12 (codes "e"))))) ∷ []))
    ∷ (declared_item 14 ((word (specifier.Basic 14 basic.Int)) ∷ []) ((plain 17 (tree (DeclTree-F.Pointed (pointer.To 17 false) (tree (DeclTree-F.Declared (name_at 18 (codes "p"))))))) ∷ []))
    ∷ (function ((word (specifier.Basic 20 basic.Int)) ∷ []) 24 (tree (DeclTree-F.Function 28 (tree (DeclTree-F.Declared (name_at 24 (codes "main")))) [] false)) 30 ((expression_row 31 (step (Expr-F.Assign 32 assign.Subtract (step (Expr-F.Named (name_at 31 (codes "e")))) (step (Expr-F.Named (name_at 34 (codes "p"))))))) ∷ (return_row 36 (Some (step (Expr-F.Int 43 0 kind.Int)))) ∷ [])) ∷ []))
    ≡ Some (18, 32)
unfolding digits
operands_before_the_fit_back = refl

-- void*v;int main(){v+=1;return 0;}
void_pointer_plus_a_number :
    refusal (elaborates ((declared_item 0 ((word (specifier.Basic 0 basic.Void)) ∷ []) ((plain 4 (tree (DeclTree-F.Pointed (pointer.To 4 false) (tree (DeclTree-F.Declared (name_at 5 (codes "v"))))))) ∷ []))
    ∷ (function ((word (specifier.Basic 7 basic.Int)) ∷ []) 11 (tree (DeclTree-F.Function 15 (tree (DeclTree-F.Declared (name_at 11 (codes "main")))) [] false)) 17 ((expression_row 18 (step (Expr-F.Assign 19 assign.Add (step (Expr-F.Named (name_at 18 (codes "v")))) (step (Expr-F.Int 21 1 kind.Int))))) ∷ (return_row 23 (Some (step (Expr-F.Int 30 0 kind.Int)))) ∷ [])) ∷ []))
    ≡ Some (18, 19)
void_pointer_plus_a_number = refl

-- void f();int*p;int main(){p+=f();return 0;}
pointer_plus_nothing :
    refusal (elaborates ((declared_item 0 ((word (specifier.Basic 0 basic.Void)) ∷ []) ((plain 5 (tree (DeclTree-F.Function 6 (tree (DeclTree-F.Declared (name_at 5 (codes "f")))) [] false))) ∷ []))
    ∷ (declared_item 9 ((word (specifier.Basic 9 basic.Int)) ∷ []) ((plain 12 (tree (DeclTree-F.Pointed (pointer.To 12 false) (tree (DeclTree-F.Declared (name_at 13 (codes "p"))))))) ∷ []))
    ∷ (function ((word (specifier.Basic 15 basic.Int)) ∷ []) 19 (tree (DeclTree-F.Function 23 (tree (DeclTree-F.Declared (name_at 19 (codes "main")))) [] false)) 25 ((expression_row 26 (step (Expr-F.Assign 27 assign.Add (step (Expr-F.Named (name_at 26 (codes "p")))) (step (Expr-F.Call 30 (step (Expr-F.Named (name_at 29 (codes "f")))) []))))) ∷ (return_row 33 (Some (step (Expr-F.Int 40 0 kind.Int)))) ∷ [])) ∷ []))
    ≡ Some (18, 27)
pointer_plus_nothing = refl

-- enum E{A};int*p;int main(){p+=A;p-=1;return 0;}
pointer_plus_an_enumerator :
    refusal (elaborates ((declared_item 0 ((enumeration 0 (Some (5, (codes "E"))) ((record { at = 7; name = (codes "A"); value = None }) ∷ [])) ∷ []) [])
    ∷ (declared_item 10 ((word (specifier.Basic 10 basic.Int)) ∷ []) ((plain 13 (tree (DeclTree-F.Pointed (pointer.To 13 false) (tree (DeclTree-F.Declared (name_at 14 (codes "p"))))))) ∷ []))
    ∷ (function ((word (specifier.Basic 16 basic.Int)) ∷ []) 20 (tree (DeclTree-F.Function 24 (tree (DeclTree-F.Declared (name_at 20 (codes "main")))) [] false)) 26 ((expression_row 27 (step (Expr-F.Assign 28 assign.Add (step (Expr-F.Named (name_at 27 (codes "p")))) (step (Expr-F.Named (name_at 30 (codes "A"))))))) ∷ (expression_row 32 (step (Expr-F.Assign 33 assign.Subtract (step (Expr-F.Named (name_at 32 (codes "p")))) (step (Expr-F.Int 35 1 kind.Int))))) ∷ (return_row 37 (Some (step (Expr-F.Int 44 0 kind.Int)))) ∷ [])) ∷ []))
    ≡ None
unfolding digits
pointer_plus_an_enumerator = refl

-- int a[2];int main(){a+=1;return 0;}
update_of_an_array :
    refusal (elaborates ((declared_item 0 ((word (specifier.Basic 0 basic.Int)) ∷ []) ((plain 4 (tree (DeclTree-F.Array 5 (tree (DeclTree-F.Declared (name_at 4 (codes "a")))) (Some (step (Expr-F.Int 6 2 kind.Int)))))) ∷ []))
    ∷ (function ((word (specifier.Basic 9 basic.Int)) ∷ []) 13 (tree (DeclTree-F.Function 17 (tree (DeclTree-F.Declared (name_at 13 (codes "main")))) [] false)) 19 ((expression_row 20 (step (Expr-F.Assign 21 assign.Add (step (Expr-F.Named (name_at 20 (codes "a")))) (step (Expr-F.Int 23 1 kind.Int))))) ∷ (return_row 25 (Some (step (Expr-F.Int 32 0 kind.Int)))) ∷ [])) ∷ []))
    ≡ Some (12, 21)
update_of_an_array = refl

-- int main(){1+=x;return 0;}
right_side_before_the_update :
    refusal (elaborates ((function ((word (specifier.Basic 0 basic.Int)) ∷ []) 4 (tree (DeclTree-F.Function 8 (tree (DeclTree-F.Declared (name_at 4 (codes "main")))) [] false)) 10 ((expression_row 11 (step (Expr-F.Assign 12 assign.Add (step (Expr-F.Int 11 1 kind.Int)) (step (Expr-F.Named (name_at 14 (codes "x"))))))) ∷ (return_row 16 (Some (step (Expr-F.Int 23 0 kind.Int)))) ∷ [])) ∷ []))
    ≡ Some (10, 14)
right_side_before_the_update = refl
