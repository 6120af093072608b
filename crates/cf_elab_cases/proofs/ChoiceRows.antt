-- Conditional expressions and commas (5.16, 5.18).
use Rattle.std.proofs.Common.{◌≡◌, [], ◌∷◌, refl}
use Rattle.std.specs.Prelude.{false, Some, None, codes}
use Rattle.cf_base.specs.declared.kind.Kind.TheVariants as kind
use Rattle.cf_syntax.specs.declared.operator.AssignOp.TheVariants as assign
use Rattle.cf_syntax.specs.declared.specifier.BasicType.TheVariants as basic
use Rattle.cf_syntax.specs.declared.specifier.Pointer.TheVariants as pointer
use Rattle.cf_syntax.specs.declared.specifier.TypeSpecifier.TheVariants as specifier
use Rattle.cf_syntax.specs.declared.declarator.DeclTree.TheOpen.{DeclTree-F, Expr-F}
use Rattle.cf_elab.specs.Statement.{expression_row, return_row}
use Rattle.cf_elab.proofs.Words.{step, tree, word, name_at, plain, function, declared_item, elaborates, refusal}

-- void f();int main(){return f()?1:2;}
condition_of_nothing :
    refusal (elaborates ((declared_item 0 ((word (specifier.Basic 0 basic.Void)) ∷ []) ((plain 5 (tree (DeclTree-F.Function 6 (tree (DeclTree-F.Declared (name_at 5 (codes "f")))) [] false))) ∷ []))
    ∷ (function ((word (specifier.Basic 9 basic.Int)) ∷ []) 13 (tree (DeclTree-F.Function 17 (tree (DeclTree-F.Declared (name_at 13 (codes "main")))) [] false)) 19 ((return_row 20 (Some (step (Expr-F.Conditional 30 (step (Expr-F.Call 28 (step (Expr-F.Named (name_at 27 (codes "f")))) [])) (step (Expr-F.Int 31 1 kind.Int)) (step (Expr-F.Int 33 2 kind.Int)))))) ∷ [])) ∷ []))
    ≡ Some (13, 30)
condition_of_nothing = refl

-- int*p;int main(){1?p:1;return 0;}
pointer_or_a_number :
    refusal (elaborates ((declared_item 0 ((word (specifier.Basic 0 basic.Int)) ∷ []) ((plain 3 (tree (DeclTree-F.Pointed (pointer.To 3 false) (tree (DeclTree-F.Declared (name_at 4 (codes "p"))))))) ∷ []))
    ∷ (function ((word (specifier.Basic 6 basic.Int)) ∷ []) 10 (tree (DeclTree-F.Function 14 (tree (DeclTree-F.Declared (name_at 10 (codes "main")))) [] false)) 16 ((expression_row 17 (step (Expr-F.Conditional 18 (step (Expr-F.Int 17 1 kind.Int)) (step (Expr-F.Named (name_at 19 (codes "p")))) (step (Expr-F.Int 21 1 kind.Int))))) ∷ (return_row 23 (Some (step (Expr-F.Int 30 0 kind.Int)))) ∷ [])) ∷ []))
    ≡ Some (18, 18)
pointer_or_a_number = refl

-- int*p;int main(){1?p:0;return 0;}
pointer_or_null :
    refusal (elaborates ((declared_item 0 ((word (specifier.Basic 0 basic.Int)) ∷ []) ((plain 3 (tree (DeclTree-F.Pointed (pointer.To 3 false) (tree (DeclTree-F.Declared (name_at 4 (codes "p"))))))) ∷ []))
    ∷ (function ((word (specifier.Basic 6 basic.Int)) ∷ []) 10 (tree (DeclTree-F.Function 14 (tree (DeclTree-F.Declared (name_at 10 (codes "main")))) [] false)) 16 ((expression_row 17 (step (Expr-F.Conditional 18 (step (Expr-F.Int 17 1 kind.Int)) (step (Expr-F.Named (name_at 19 (codes "p")))) (step (Expr-F.Int 21 0 kind.Int))))) ∷ (return_row 23 (Some (step (Expr-F.Int 30 0 kind.Int)))) ∷ [])) ∷ []))
    ≡ None
pointer_or_null = refl

-- int*p;char*q;int main(){1?p:q;return 0;}
pointers_to_two_types_to_choose :
    refusal (elaborates ((declared_item 0 ((word (specifier.Basic 0 basic.Int)) ∷ []) ((plain 3 (tree (DeclTree-F.Pointed (pointer.To 3 false) (tree (DeclTree-F.Declared (name_at 4 (codes "p"))))))) ∷ []))
    ∷ (declared_item 6 ((word (specifier.Basic 6 basic.Char)) ∷ []) ((plain 10 (tree (DeclTree-F.Pointed (pointer.To 10 false) (tree (DeclTree-F.Declared (name_at 11 (codes "q"))))))) ∷ []))
    ∷ (function ((word (specifier.Basic 13 basic.Int)) ∷ []) 17 (tree (DeclTree-F.Function 21 (tree (DeclTree-F.Declared (name_at 17 (codes "main")))) [] false)) 23 ((expression_row 24 (step (Expr-F.Conditional 25 (step (Expr-F.Int 24 1 kind.Int)) (step (Expr-F.Named (name_at 26 (codes "p")))) (step (Expr-F.Named (name_at 28 (codes "q"))))))) ∷ (return_row 30 (Some (step (Expr-F.Int 37 0 kind.Int)))) ∷ [])) ∷ []))
    ≡ Some (18, 25)
pointers_to_two_types_to_choose = refl

-- int*p;void*v;int main(){1?p:v;return 0;}
pointer_or_a_void_pointer :
    refusal (elaborates ((declared_item 0 ((word (specifier.Basic 0 basic.Int)) ∷ []) ((plain 3 (tree (DeclTree-F.Pointed (pointer.To 3 false) (tree (DeclTree-F.Declared (name_at 4 (codes "p"))))))) ∷ []))
    ∷ (declared_item 6 ((word (specifier.Basic 6 basic.Void)) ∷ []) ((plain 10 (tree (DeclTree-F.Pointed (pointer.To 10 false) (tree (DeclTree-F.Declared (name_at 11 (codes "v"))))))) ∷ []))
    ∷ (function ((word (specifier.Basic 13 basic.Int)) ∷ []) 17 (tree (DeclTree-F.Function 21 (tree (DeclTree-F.Declared (name_at 17 (codes "main")))) [] false)) 23 ((expression_row 24 (step (Expr-F.Conditional 25 (step (Expr-F.Int 24 1 kind.Int)) (step (Expr-F.Named (name_at 26 (codes "p")))) (step (Expr-F.Named (name_at 28 (codes "v"))))))) ∷ (return_row 30 (Some (step (Expr-F.Int 37 0 kind.Int)))) ∷ [])) ∷ []))
    ≡ None
pointer_or_a_void_pointer = refl

-- void f();int main(){1?f():1;return 0;}
nothing_or_a_number :
    refusal (elaborates ((declared_item 0 ((word (specifier.Basic 0 basic.Void)) ∷ []) ((plain 5 (tree (DeclTree-F.Function 6 (tree (DeclTree-F.Declared (name_at 5 (codes "f")))) [] false))) ∷ []))
    ∷ (function ((word (specifier.Basic 9 basic.Int)) ∷ []) 13 (tree (DeclTree-F.Function 17 (tree (DeclTree-F.Declared (name_at 13 (codes "main")))) [] false)) 19 ((expression_row 20 (step (Expr-F.Conditional 21 (step (Expr-F.Int 20 1 kind.Int)) (step (Expr-F.Call 23 (step (Expr-F.Named (name_at 22 (codes "f")))) [])) (step (Expr-F.Int 26 1 kind.Int))))) ∷ (return_row 28 (Some (step (Expr-F.Int 35 0 kind.Int)))) ∷ [])) ∷ []))
    ≡ Some (18, 21)
nothing_or_a_number = refl

-- void f();int main(){1?f():f();return 0;}
nothing_or_nothing :
    refusal (elaborates ((declared_item 0 ((word (specifier.Basic 0 basic.Void)) ∷ []) ((plain 5 (tree (DeclTree-F.Function 6 (tree (DeclTree-F.Declared (name_at 5 (codes "f")))) [] false))) ∷ []))
    ∷ (function ((word (specifier.Basic 9 basic.Int)) ∷ []) 13 (tree (DeclTree-F.Function 17 (tree (DeclTree-F.Declared (name_at 13 (codes "main")))) [] false)) 19 ((expression_row 20 (step (Expr-F.Conditional 21 (step (Expr-F.Int 20 1 kind.Int)) (step (Expr-F.Call 23 (step (Expr-F.Named (name_at 22 (codes "f")))) [])) (step (Expr-F.Call 27 (step (Expr-F.Named (name_at 26 (codes "f")))) []))))) ∷ (return_row 30 (Some (step (Expr-F.Int 37 0 kind.Int)))) ∷ [])) ∷ []))
    ≡ None
nothing_or_nothing = refl

-- void f();int*p;int main(){f()?p:1;return 0;}
condition_before_the_two :
    refusal (elaborates ((declared_item 0 ((word (specifier.Basic 0 basic.Void)) ∷ []) ((plain 5 (tree (DeclTree-F.Function 6 (tree (DeclTree-F.Declared (name_at 5 (codes "f")))) [] false))) ∷ []))
    ∷ (declared_item 9 ((word (specifier.Basic 9 basic.Int)) ∷ []) ((plain 12 (tree (DeclTree-F.Pointed (pointer.To 12 false) (tree (DeclTree-F.Declared (name_at 13 (codes "p"))))))) ∷ []))
    ∷ (function ((word (specifier.Basic 15 basic.Int)) ∷ []) 19 (tree (DeclTree-F.Function 23 (tree (DeclTree-F.Declared (name_at 19 (codes "main")))) [] false)) 25 ((expression_row 26 (step (Expr-F.Conditional 29 (step (Expr-F.Call 27 (step (Expr-F.Named (name_at 26 (codes "f")))) [])) (step (Expr-F.Named (name_at 30 (codes "p")))) (step (Expr-F.Int 32 1 kind.Int))))) ∷ (return_row 34 (Some (step (Expr-F.Int 41 0 kind.Int)))) ∷ [])) ∷ []))
    ≡ Some (13, 29)
condition_before_the_two = refl

-- void f();int main(){f()?1:x;return 0;}
all_parts_before_the_condition :
    refusal (elaborates ((declared_item 0 ((word (specifier.Basic 0 basic.Void)) ∷ []) ((plain 5 (tree (DeclTree-F.Function 6 (tree (DeclTree-F.Declared (name_at 5 (codes "f")))) [] false))) ∷ []))
    ∷ (function ((word (specifier.Basic 9 basic.Int)) ∷ []) 13 (tree (DeclTree-F.Function 17 (tree (DeclTree-F.Declared (name_at 13 (codes "main")))) [] false)) 19 ((expression_row 20 (step (Expr-F.Conditional 23 (step (Expr-F.Call 21 (step (Expr-F.Named (name_at 20 (codes "f")))) [])) (step (Expr-F.Int 24 1 kind.Int)) (step (Expr-F.Named (name_at 26 (codes "x"))))))) ∷ (return_row 28 (Some (step (Expr-F.Int 35 0 kind.Int)))) ∷ [])) ∷ []))
    ≡ Some (10, 26)
all_parts_before_the_condition = refl

-- int x;int y;int main(){(1?x:y)=1;return 0;}
chosen_place :
    refusal (elaborates ((declared_item 0 ((word (specifier.Basic 0 basic.Int)) ∷ []) ((plain 4 (tree (DeclTree-F.Declared (name_at 4 (codes "x"))))) ∷ []))
    ∷ (declared_item 6 ((word (specifier.Basic 6 basic.Int)) ∷ []) ((plain 10 (tree (DeclTree-F.Declared (name_at 10 (codes "y"))))) ∷ []))
    ∷ (function ((word (specifier.Basic 12 basic.Int)) ∷ []) 16 (tree (DeclTree-F.Function 20 (tree (DeclTree-F.Declared (name_at 16 (codes "main")))) [] false)) 22 ((expression_row 23 (step (Expr-F.Assign 30 assign.Assign (step (Expr-F.Paren 23 (step (Expr-F.Conditional 25 (step (Expr-F.Int 24 1 kind.Int)) (step (Expr-F.Named (name_at 26 (codes "x")))) (step (Expr-F.Named (name_at 28 (codes "y")))))))) (step (Expr-F.Int 31 1 kind.Int))))) ∷ (return_row 33 (Some (step (Expr-F.Int 40 0 kind.Int)))) ∷ [])) ∷ []))
    ≡ None
chosen_place = refl

-- int x;long y;int main(){(1?x:y)=1;return 0;}
chosen_value :
    refusal (elaborates ((declared_item 0 ((word (specifier.Basic 0 basic.Int)) ∷ []) ((plain 4 (tree (DeclTree-F.Declared (name_at 4 (codes "x"))))) ∷ []))
    ∷ (declared_item 6 ((word (specifier.Basic 6 basic.Long)) ∷ []) ((plain 11 (tree (DeclTree-F.Declared (name_at 11 (codes "y"))))) ∷ []))
    ∷ (function ((word (specifier.Basic 13 basic.Int)) ∷ []) 17 (tree (DeclTree-F.Function 21 (tree (DeclTree-F.Declared (name_at 17 (codes "main")))) [] false)) 23 ((expression_row 24 (step (Expr-F.Assign 31 assign.Assign (step (Expr-F.Paren 24 (step (Expr-F.Conditional 26 (step (Expr-F.Int 25 1 kind.Int)) (step (Expr-F.Named (name_at 27 (codes "x")))) (step (Expr-F.Named (name_at 29 (codes "y")))))))) (step (Expr-F.Int 32 1 kind.Int))))) ∷ (return_row 34 (Some (step (Expr-F.Int 41 0 kind.Int)))) ∷ [])) ∷ []))
    ≡ Some (12, 31)
chosen_value = refl

-- int main(){return 1,2,x;}
comma_of_a_name_that_is_not_there :
    refusal (elaborates ((function ((word (specifier.Basic 0 basic.Int)) ∷ []) 4 (tree (DeclTree-F.Function 8 (tree (DeclTree-F.Declared (name_at 4 (codes "main")))) [] false)) 10 ((return_row 11 (Some (step (Expr-F.Comma 19 ((step (Expr-F.Int 18 1 kind.Int)) ∷ (step (Expr-F.Int 20 2 kind.Int)) ∷ (step (Expr-F.Named (name_at 22 (codes "x")))) ∷ []))))) ∷ [])) ∷ []))
    ≡ Some (10, 22)
comma_of_a_name_that_is_not_there = refl

-- int x;int main(){(1,x)=2;return 0;}
comma_is_no_place :
    refusal (elaborates ((declared_item 0 ((word (specifier.Basic 0 basic.Int)) ∷ []) ((plain 4 (tree (DeclTree-F.Declared (name_at 4 (codes "x"))))) ∷ []))
    ∷ (function ((word (specifier.Basic 6 basic.Int)) ∷ []) 10 (tree (DeclTree-F.Function 14 (tree (DeclTree-F.Declared (name_at 10 (codes "main")))) [] false)) 16 ((expression_row 17 (step (Expr-F.Assign 22 assign.Assign (step (Expr-F.Paren 17 (step (Expr-F.Comma 19 ((step (Expr-F.Int 18 1 kind.Int)) ∷ (step (Expr-F.Named (name_at 20 (codes "x")))) ∷ []))))) (step (Expr-F.Int 23 2 kind.Int))))) ∷ (return_row 25 (Some (step (Expr-F.Int 32 0 kind.Int)))) ∷ [])) ∷ []))
    ≡ None
comma_is_no_place = refl
