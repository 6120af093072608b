-- `++` and `--` (5.2.5, 5.3.1).
use Rattle.std.proofs.Common.{◌≡◌, [], ◌∷◌, refl}
use Rattle.std.specs.Prelude.{true, false, Some, None, codes}
use Rattle.std.specs.Fmt.{digits}
use Rattle.cf_base.specs.declared.kind.Kind.TheVariants as kind
use Rattle.cf_syntax.specs.declared.operator.StepOp.TheVariants as op
use Rattle.cf_syntax.specs.declared.specifier.BasicType.TheVariants as basic
use Rattle.cf_syntax.specs.declared.specifier.Pointer.TheVariants as pointer
use Rattle.cf_syntax.specs.declared.specifier.TypeSpecifier.TheVariants as specifier
use Rattle.cf_syntax.specs.declared.declarator.DeclTree.TheOpen.{DeclTree-F, Expr-F}
use Rattle.cf_elab.specs.Statement.{expression_row, return_row}
use Rattle.cf_elab.proofs.Words.{step, tree, word, name_at, enumeration, plain, with_value, function, declared_item, elaborates, refusal}

-- int main(){++1;return 0;}
step_of_a_number :
    refusal (elaborates ((function ((word (specifier.Basic 0 basic.Int)) ∷ []) 4 (tree (DeclTree-F.Function 8 (tree (DeclTree-F.Declared (name_at 4 (codes "main")))) [] false)) 10 ((expression_row 11 (step (Expr-F.StepBefore 11 op.Increment (step (Expr-F.Int 13 1 kind.Int))))) ∷ (return_row 15 (Some (step (Expr-F.Int 22 0 kind.Int)))) ∷ [])) ∷ []))
    ≡ Some (12, 11)
step_of_a_number = refl

-- const int c=1;int main(){c++;return 0;}
step_of_a_const_object :
    refusal (elaborates ((declared_item 0 ((word (specifier.Const 0)) ∷ (word (specifier.Basic 6 basic.Int)) ∷ []) ((with_value 10 (tree (DeclTree-F.Declared (name_at 10 (codes "c")))) 11 12 (step (Expr-F.Int 12 1 kind.Int))) ∷ []))
    ∷ (function ((word (specifier.Basic 14 basic.Int)) ∷ []) 18 (tree (DeclTree-F.Function 22 (tree (DeclTree-F.Declared (name_at 18 (codes "main")))) [] false)) 24 ((expression_row 25 (step (Expr-F.StepAfter 26 op.Increment (step (Expr-F.Named (name_at 25 (codes "c"))))))) ∷ (return_row 29 (Some (step (Expr-F.Int 36 0 kind.Int)))) ∷ [])) ∷ []))
    ≡ Some (12, 26)
step_of_a_const_object = refl

-- int a[2];int main(){a++;return 0;}
step_of_an_array :
    refusal (elaborates ((declared_item 0 ((word (specifier.Basic 0 basic.Int)) ∷ []) ((plain 4 (tree (DeclTree-F.Array 5 (tree (DeclTree-F.Declared (name_at 4 (codes "a")))) (Some (step (Expr-F.Int 6 2 kind.Int)))))) ∷ []))
    ∷ (function ((word (specifier.Basic 9 basic.Int)) ∷ []) 13 (tree (DeclTree-F.Function 17 (tree (DeclTree-F.Declared (name_at 13 (codes "main")))) [] false)) 19 ((expression_row 20 (step (Expr-F.StepAfter 21 op.Increment (step (Expr-F.Named (name_at 20 (codes "a"))))))) ∷ (return_row 24 (Some (step (Expr-F.Int 31 0 kind.Int)))) ∷ [])) ∷ []))
    ≡ Some (12, 21)
step_of_an_array = refl

-- enum E{A};E e;int main(){e++;return 0;}
step_of_an_enumeration :
    refusal (elaborates ((declared_item 0 ((enumeration 0 (Some (5, (codes "E"))) ((record { at = 7; name = (codes "A"); value = None }) ∷ [])) ∷ []) [])
    ∷ (declared_item 10 ((word (specifier.Named (record { at = 10; from_file = false; names = (codes "E") ∷ [] }))) ∷ []) ((plain 12 (tree (DeclTree-F.Declared (name_at 12 (codes "e"))))) ∷ []))
    ∷ (function ((word (specifier.Basic 14 basic.Int)) ∷ []) 18 (tree (DeclTree-F.Function 22 (tree (DeclTree-F.Declared (name_at 18 (codes "main")))) [] false)) 24 ((expression_row 25 (step (Expr-F.StepAfter 26 op.Increment (step (Expr-F.Named (name_at 25 (codes "e"))))))) ∷ (return_row 29 (Some (step (Expr-F.Int 36 0 kind.Int)))) ∷ [])) ∷ []))
    ≡ Some (18, 26)
unfolding digits
step_of_an_enumeration = refl

-- void*v;int main(){v++;return 0;}
step_of_a_void_pointer :
    refusal (elaborates ((declared_item 0 ((word (specifier.Basic 0 basic.Void)) ∷ []) ((plain 4 (tree (DeclTree-F.Pointed (pointer.To 4 false) (tree (DeclTree-F.Declared (name_at 5 (codes "v"))))))) ∷ []))
    ∷ (function ((word (specifier.Basic 7 basic.Int)) ∷ []) 11 (tree (DeclTree-F.Function 15 (tree (DeclTree-F.Declared (name_at 11 (codes "main")))) [] false)) 17 ((expression_row 18 (step (Expr-F.StepAfter 19 op.Increment (step (Expr-F.Named (name_at 18 (codes "v"))))))) ∷ (return_row 22 (Some (step (Expr-F.Int 29 0 kind.Int)))) ∷ [])) ∷ []))
    ≡ Some (18, 19)
step_of_a_void_pointer = refl

-- int(*p)();int main(){--p;return 0;}
step_of_a_function_pointer :
    refusal (elaborates ((declared_item 0 ((word (specifier.Basic 0 basic.Int)) ∷ []) ((plain 3 (tree (DeclTree-F.Function 7 (tree (DeclTree-F.Bracketed 3 (tree (DeclTree-F.Pointed (pointer.To 4 false) (tree (DeclTree-F.Declared (name_at 5 (codes "p")))))))) [] false))) ∷ []))
    ∷ (function ((word (specifier.Basic 10 basic.Int)) ∷ []) 14 (tree (DeclTree-F.Function 18 (tree (DeclTree-F.Declared (name_at 14 (codes "main")))) [] false)) 20 ((expression_row 21 (step (Expr-F.StepBefore 21 op.Decrement (step (Expr-F.Named (name_at 23 (codes "p"))))))) ∷ (return_row 25 (Some (step (Expr-F.Int 32 0 kind.Int)))) ∷ [])) ∷ []))
    ≡ Some (18, 21)
step_of_a_function_pointer = refl

-- int f();int main(){f++;return 0;}
step_of_a_function :
    refusal (elaborates ((declared_item 0 ((word (specifier.Basic 0 basic.Int)) ∷ []) ((plain 4 (tree (DeclTree-F.Function 5 (tree (DeclTree-F.Declared (name_at 4 (codes "f")))) [] false))) ∷ []))
    ∷ (function ((word (specifier.Basic 8 basic.Int)) ∷ []) 12 (tree (DeclTree-F.Function 16 (tree (DeclTree-F.Declared (name_at 12 (codes "main")))) [] false)) 18 ((expression_row 19 (step (Expr-F.StepAfter 20 op.Increment (step (Expr-F.Named (name_at 19 (codes "f"))))))) ∷ (return_row 23 (Some (step (Expr-F.Int 30 0 kind.Int)))) ∷ [])) ∷ []))
    ≡ Some (12, 20)
step_of_a_function = refl

-- enum E{A};int main(){A++;return 0;}
no_lvalue_before_its_type :
    refusal (elaborates ((declared_item 0 ((enumeration 0 (Some (5, (codes "E"))) ((record { at = 7; name = (codes "A"); value = None }) ∷ [])) ∷ []) [])
    ∷ (function ((word (specifier.Basic 10 basic.Int)) ∷ []) 14 (tree (DeclTree-F.Function 18 (tree (DeclTree-F.Declared (name_at 14 (codes "main")))) [] false)) 20 ((expression_row 21 (step (Expr-F.StepAfter 22 op.Increment (step (Expr-F.Named (name_at 21 (codes "A"))))))) ∷ (return_row 25 (Some (step (Expr-F.Int 32 0 kind.Int)))) ∷ [])) ∷ []))
    ≡ Some (12, 22)
unfolding digits
no_lvalue_before_its_type = refl

-- enum E{A};const E e=A;int main(){++e;return 0;}
const_before_its_type :
    refusal (elaborates ((declared_item 0 ((enumeration 0 (Some (5, (codes "E"))) ((record { at = 7; name = (codes "A"); value = None }) ∷ [])) ∷ []) [])
    ∷ (declared_item 10 ((word (specifier.Const 10)) ∷ (word (specifier.Named (record { at = 16; from_file = false; names = (codes "E") ∷ [] }))) ∷ []) ((with_value 18 (tree (DeclTree-F.Declared (name_at 18 (codes "e")))) 19 20 (step (Expr-F.Named (name_at 20 (codes "A"))))) ∷ []))
    ∷ (function ((word (specifier.Basic 22 basic.Int)) ∷ []) 26 (tree (DeclTree-F.Function 30 (tree (DeclTree-F.Declared (name_at 26 (codes "main")))) [] false)) 32 ((expression_row 33 (step (Expr-F.StepBefore 33 op.Increment (step (Expr-F.Named (name_at 35 (codes "e"))))))) ∷ (return_row 37 (Some (step (Expr-F.Int 44 0 kind.Int)))) ∷ [])) ∷ []))
    ≡ Some (12, 33)
unfolding digits
const_before_its_type = refl

-- void*const v=0;int main(){v++;return 0;}
const_pointer_before_its_type :
    refusal (elaborates ((declared_item 0 ((word (specifier.Basic 0 basic.Void)) ∷ []) ((with_value 4 (tree (DeclTree-F.Pointed (pointer.To 4 true) (tree (DeclTree-F.Declared (name_at 11 (codes "v")))))) 12 13 (step (Expr-F.Int 13 0 kind.Int))) ∷ []))
    ∷ (function ((word (specifier.Basic 15 basic.Int)) ∷ []) 19 (tree (DeclTree-F.Function 23 (tree (DeclTree-F.Declared (name_at 19 (codes "main")))) [] false)) 25 ((expression_row 26 (step (Expr-F.StepAfter 27 op.Increment (step (Expr-F.Named (name_at 26 (codes "v"))))))) ∷ (return_row 30 (Some (step (Expr-F.Int 37 0 kind.Int)))) ∷ [])) ∷ []))
    ≡ Some (12, 27)
const_pointer_before_its_type = refl

-- int x;int main(){x++++;return 0;}
step_of_a_value_before :
    refusal (elaborates ((declared_item 0 ((word (specifier.Basic 0 basic.Int)) ∷ []) ((plain 4 (tree (DeclTree-F.Declared (name_at 4 (codes "x"))))) ∷ []))
    ∷ (function ((word (specifier.Basic 6 basic.Int)) ∷ []) 10 (tree (DeclTree-F.Function 14 (tree (DeclTree-F.Declared (name_at 10 (codes "main")))) [] false)) 16 ((expression_row 17 (step (Expr-F.StepAfter 20 op.Increment (step (Expr-F.StepAfter 18 op.Increment (step (Expr-F.Named (name_at 17 (codes "x"))))))))) ∷ (return_row 23 (Some (step (Expr-F.Int 30 0 kind.Int)))) ∷ [])) ∷ []))
    ≡ Some (12, 20)
step_of_a_value_before = refl

-- int x;int main(){++ ++x;return 0;}
step_of_a_place_after :
    refusal (elaborates ((declared_item 0 ((word (specifier.Basic 0 basic.Int)) ∷ []) ((plain 4 (tree (DeclTree-F.Declared (name_at 4 (codes "x"))))) ∷ []))
    ∷ (function ((word (specifier.Basic 6 basic.Int)) ∷ []) 10 (tree (DeclTree-F.Function 14 (tree (DeclTree-F.Declared (name_at 10 (codes "main")))) [] false)) 16 ((expression_row 17 (step (Expr-F.StepBefore 17 op.Increment (step (Expr-F.StepBefore 20 op.Increment (step (Expr-F.Named (name_at 22 (codes "x"))))))))) ∷ (return_row 24 (Some (step (Expr-F.Int 31 0 kind.Int)))) ∷ [])) ∷ []))
    ≡ None
step_of_a_place_after = refl

-- int x;int main(){++x++;return 0;}
step_before_of_a_step_after :
    refusal (elaborates ((declared_item 0 ((word (specifier.Basic 0 basic.Int)) ∷ []) ((plain 4 (tree (DeclTree-F.Declared (name_at 4 (codes "x"))))) ∷ []))
    ∷ (function ((word (specifier.Basic 6 basic.Int)) ∷ []) 10 (tree (DeclTree-F.Function 14 (tree (DeclTree-F.Declared (name_at 10 (codes "main")))) [] false)) 16 ((expression_row 17 (step (Expr-F.StepBefore 17 op.Increment (step (Expr-F.StepAfter 20 op.Increment (step (Expr-F.Named (name_at 19 (codes "x"))))))))) ∷ (return_row 23 (Some (step (Expr-F.Int 30 0 kind.Int)))) ∷ [])) ∷ []))
    ≡ Some (12, 17)
step_before_of_a_step_after = refl
