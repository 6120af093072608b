-- `new` and `delete` (5.3.3, 5.3.4).
use Rattle.std.proofs.Common.{◌≡◌, [], ◌∷◌, refl}
use Rattle.std.specs.Prelude.{true, false, Some, None, codes}
use Rattle.std.specs.Fmt.{digits}
use Rattle.cf_base.specs.declared.kind.Kind.TheVariants as kind
use Rattle.cf_syntax.specs.declared.specifier.BasicType.TheVariants as basic
use Rattle.cf_syntax.specs.declared.specifier.ClassKey.TheVariants as key
use Rattle.cf_syntax.specs.declared.specifier.Pointer.TheVariants as pointer
use Rattle.cf_syntax.specs.declared.specifier.Storage.TheVariants as storage
use Rattle.cf_syntax.specs.declared.specifier.TypeSpecifier.TheVariants as specifier
use Rattle.cf_syntax.specs.declared.declarator.DeclTree.TheOpen.{DeclTree-F, Expr-F}
use Rattle.cf_elab.specs.Statement.{expression_row, return_row}
use Rattle.cf_elab.proofs.Words.{step, tree, word, name_at, enumeration, plain, with_value, local, function, declared_item, elaborates, refusal}

-- struct A;int main(){new A;return 0;}
new_of_an_incomplete_class :
    refusal (elaborates ((declared_item 0 ((word (specifier.Elaborated 0 key.Struct (record { at = 7; from_file = false; names = (codes "A") ∷ [] }))) ∷ []) [])
    ∷ (function ((word (specifier.Basic 9 basic.Int)) ∷ []) 13 (tree (DeclTree-F.Function 17 (tree (DeclTree-F.Declared (name_at 13 (codes "main")))) [] false)) 19 ((expression_row 20 (step (Expr-F.New 20 false ((specifier.Named (record { at = 24; from_file = false; names = (codes "A") ∷ [] })) ∷ []) [] [] false []))) ∷ (return_row 26 (Some (step (Expr-F.Int 33 0 kind.Int)))) ∷ [])) ∷ []))
    ≡ Some (30, 20)
unfolding digits
new_of_an_incomplete_class = refl

-- int*p;int main(){new int[p];return 0;}
bound_that_is_a_pointer :
    refusal (elaborates ((declared_item 0 ((word (specifier.Basic 0 basic.Int)) ∷ []) ((plain 3 (tree (DeclTree-F.Pointed (pointer.To 3 false) (tree (DeclTree-F.Declared (name_at 4 (codes "p"))))))) ∷ []))
    ∷ (function ((word (specifier.Basic 6 basic.Int)) ∷ []) 10 (tree (DeclTree-F.Function 14 (tree (DeclTree-F.Declared (name_at 10 (codes "main")))) [] false)) 16 ((expression_row 17 (step (Expr-F.New 17 false ((specifier.Basic 21 basic.Int) ∷ []) [] ((step (Expr-F.Named (name_at 25 (codes "p")))) ∷ []) false []))) ∷ (return_row 28 (Some (step (Expr-F.Int 35 0 kind.Int)))) ∷ [])) ∷ []))
    ≡ Some (13, 17)
bound_that_is_a_pointer = refl

-- int main(){int n=2;new int[n];return 0;}
bound_that_is_no_constant :
    refusal (elaborates ((function ((word (specifier.Basic 0 basic.Int)) ∷ []) 4 (tree (DeclTree-F.Function 8 (tree (DeclTree-F.Declared (name_at 4 (codes "main")))) [] false)) 10 ((local 11 ((word (specifier.Basic 11 basic.Int)) ∷ []) ((with_value 15 (tree (DeclTree-F.Declared (name_at 15 (codes "n")))) 16 17 (step (Expr-F.Int 17 2 kind.Int))) ∷ [])) ∷ (expression_row 19 (step (Expr-F.New 19 false ((specifier.Basic 23 basic.Int) ∷ []) [] ((step (Expr-F.Named (name_at 27 (codes "n")))) ∷ []) false []))) ∷ (return_row 30 (Some (step (Expr-F.Int 37 0 kind.Int)))) ∷ [])) ∷ []))
    ≡ None
bound_that_is_no_constant = refl

-- int main(){new int[2](1);return 0;}
values_for_a_new_array :
    refusal (elaborates ((function ((word (specifier.Basic 0 basic.Int)) ∷ []) 4 (tree (DeclTree-F.Function 8 (tree (DeclTree-F.Declared (name_at 4 (codes "main")))) [] false)) 10 ((expression_row 11 (step (Expr-F.New 11 false ((specifier.Basic 15 basic.Int) ∷ []) [] ((step (Expr-F.Int 19 2 kind.Int)) ∷ []) true ((step (Expr-F.Int 22 1 kind.Int)) ∷ [])))) ∷ (return_row 25 (Some (step (Expr-F.Int 32 0 kind.Int)))) ∷ [])) ∷ []))
    ≡ Some (28, 11)
values_for_a_new_array = refl

-- typedef int A[2];int main(){new A(1);return 0;}
values_for_a_new_array_by_an_alias :
    refusal (elaborates ((declared_item 0 ((word (specifier.Storage 0 storage.Typedef)) ∷ (word (specifier.Basic 8 basic.Int)) ∷ []) ((plain 12 (tree (DeclTree-F.Array 13 (tree (DeclTree-F.Declared (name_at 12 (codes "A")))) (Some (step (Expr-F.Int 14 2 kind.Int)))))) ∷ []))
    ∷ (function ((word (specifier.Basic 17 basic.Int)) ∷ []) 21 (tree (DeclTree-F.Function 25 (tree (DeclTree-F.Declared (name_at 21 (codes "main")))) [] false)) 27 ((expression_row 28 (step (Expr-F.New 28 false ((specifier.Named (record { at = 32; from_file = false; names = (codes "A") ∷ [] })) ∷ []) [] [] true ((step (Expr-F.Int 34 1 kind.Int)) ∷ [])))) ∷ (return_row 37 (Some (step (Expr-F.Int 44 0 kind.Int)))) ∷ [])) ∷ []))
    ≡ Some (28, 28)
values_for_a_new_array_by_an_alias = refl

-- int*p;int main(){new int[p](1);return 0;}
bound_before_values_for_an_array :
    refusal (elaborates ((declared_item 0 ((word (specifier.Basic 0 basic.Int)) ∷ []) ((plain 3 (tree (DeclTree-F.Pointed (pointer.To 3 false) (tree (DeclTree-F.Declared (name_at 4 (codes "p"))))))) ∷ []))
    ∷ (function ((word (specifier.Basic 6 basic.Int)) ∷ []) 10 (tree (DeclTree-F.Function 14 (tree (DeclTree-F.Declared (name_at 10 (codes "main")))) [] false)) 16 ((expression_row 17 (step (Expr-F.New 17 false ((specifier.Basic 21 basic.Int) ∷ []) [] ((step (Expr-F.Named (name_at 25 (codes "p")))) ∷ []) true ((step (Expr-F.Int 28 1 kind.Int)) ∷ [])))) ∷ (return_row 31 (Some (step (Expr-F.Int 38 0 kind.Int)))) ∷ [])) ∷ []))
    ≡ Some (13, 17)
bound_before_values_for_an_array = refl

-- struct A;int*p;int main(){new A[p];return 0;}
incomplete_before_a_bound :
    refusal (elaborates ((declared_item 0 ((word (specifier.Elaborated 0 key.Struct (record { at = 7; from_file = false; names = (codes "A") ∷ [] }))) ∷ []) [])
    ∷ (declared_item 9 ((word (specifier.Basic 9 basic.Int)) ∷ []) ((plain 12 (tree (DeclTree-F.Pointed (pointer.To 12 false) (tree (DeclTree-F.Declared (name_at 13 (codes "p"))))))) ∷ []))
    ∷ (function ((word (specifier.Basic 15 basic.Int)) ∷ []) 19 (tree (DeclTree-F.Function 23 (tree (DeclTree-F.Declared (name_at 19 (codes "main")))) [] false)) 25 ((expression_row 26 (step (Expr-F.New 26 false ((specifier.Named (record { at = 30; from_file = false; names = (codes "A") ∷ [] })) ∷ []) [] ((step (Expr-F.Named (name_at 32 (codes "p")))) ∷ []) false []))) ∷ (return_row 35 (Some (step (Expr-F.Int 42 0 kind.Int)))) ∷ [])) ∷ []))
    ≡ Some (30, 26)
unfolding digits
incomplete_before_a_bound = refl

-- int main(){new int(1,2);return 0;}
two_values_for_a_new_int :
    refusal (elaborates ((function ((word (specifier.Basic 0 basic.Int)) ∷ []) 4 (tree (DeclTree-F.Function 8 (tree (DeclTree-F.Declared (name_at 4 (codes "main")))) [] false)) 10 ((expression_row 11 (step (Expr-F.New 11 false ((specifier.Basic 15 basic.Int) ∷ []) [] [] true ((step (Expr-F.Int 19 1 kind.Int)) ∷ (step (Expr-F.Int 21 2 kind.Int)) ∷ [])))) ∷ (return_row 24 (Some (step (Expr-F.Int 31 0 kind.Int)))) ∷ [])) ∷ []))
    ≡ Some (28, 11)
two_values_for_a_new_int = refl

-- int*p;int main(){new int(p);return 0;}
new_int_of_a_pointer :
    refusal (elaborates ((declared_item 0 ((word (specifier.Basic 0 basic.Int)) ∷ []) ((plain 3 (tree (DeclTree-F.Pointed (pointer.To 3 false) (tree (DeclTree-F.Declared (name_at 4 (codes "p"))))))) ∷ []))
    ∷ (function ((word (specifier.Basic 6 basic.Int)) ∷ []) 10 (tree (DeclTree-F.Function 14 (tree (DeclTree-F.Declared (name_at 10 (codes "main")))) [] false)) 16 ((expression_row 17 (step (Expr-F.New 17 false ((specifier.Basic 21 basic.Int) ∷ []) [] [] true ((step (Expr-F.Named (name_at 25 (codes "p")))) ∷ [])))) ∷ (return_row 28 (Some (step (Expr-F.Int 35 0 kind.Int)))) ∷ [])) ∷ []))
    ≡ Some (13, 17)
new_int_of_a_pointer = refl

-- enum E{A};int main(){new E(1);return 0;}
new_enumeration_of_an_int :
    refusal (elaborates ((declared_item 0 ((enumeration 0 (Some (5, (codes "E"))) ((record { at = 7; name = (codes "A"); value = None }) ∷ [])) ∷ []) [])
    ∷ (function ((word (specifier.Basic 10 basic.Int)) ∷ []) 14 (tree (DeclTree-F.Function 18 (tree (DeclTree-F.Declared (name_at 14 (codes "main")))) [] false)) 20 ((expression_row 21 (step (Expr-F.New 21 false ((specifier.Named (record { at = 25; from_file = false; names = (codes "E") ∷ [] })) ∷ []) [] [] true ((step (Expr-F.Int 27 1 kind.Int)) ∷ [])))) ∷ (return_row 30 (Some (step (Expr-F.Int 37 0 kind.Int)))) ∷ [])) ∷ []))
    ≡ Some (25, 21)
unfolding digits
new_enumeration_of_an_int = refl

-- int x;int main(){delete x;return 0;}
delete_of_an_int :
    refusal (elaborates ((declared_item 0 ((word (specifier.Basic 0 basic.Int)) ∷ []) ((plain 4 (tree (DeclTree-F.Declared (name_at 4 (codes "x"))))) ∷ []))
    ∷ (function ((word (specifier.Basic 6 basic.Int)) ∷ []) 10 (tree (DeclTree-F.Function 14 (tree (DeclTree-F.Declared (name_at 10 (codes "main")))) [] false)) 16 ((expression_row 17 (step (Expr-F.Delete 17 false false (step (Expr-F.Named (name_at 24 (codes "x"))))))) ∷ (return_row 26 (Some (step (Expr-F.Int 33 0 kind.Int)))) ∷ [])) ∷ []))
    ≡ Some (18, 17)
delete_of_an_int = refl

-- void*v;int main(){delete v;return 0;}
delete_of_a_void_pointer :
    refusal (elaborates ((declared_item 0 ((word (specifier.Basic 0 basic.Void)) ∷ []) ((plain 4 (tree (DeclTree-F.Pointed (pointer.To 4 false) (tree (DeclTree-F.Declared (name_at 5 (codes "v"))))))) ∷ []))
    ∷ (function ((word (specifier.Basic 7 basic.Int)) ∷ []) 11 (tree (DeclTree-F.Function 15 (tree (DeclTree-F.Declared (name_at 11 (codes "main")))) [] false)) 17 ((expression_row 18 (step (Expr-F.Delete 18 false false (step (Expr-F.Named (name_at 25 (codes "v"))))))) ∷ (return_row 27 (Some (step (Expr-F.Int 34 0 kind.Int)))) ∷ [])) ∷ []))
    ≡ Some (18, 18)
delete_of_a_void_pointer = refl

-- int(*f)();int main(){delete f;return 0;}
delete_of_a_function_pointer :
    refusal (elaborates ((declared_item 0 ((word (specifier.Basic 0 basic.Int)) ∷ []) ((plain 3 (tree (DeclTree-F.Function 7 (tree (DeclTree-F.Bracketed 3 (tree (DeclTree-F.Pointed (pointer.To 4 false) (tree (DeclTree-F.Declared (name_at 5 (codes "f")))))))) [] false))) ∷ []))
    ∷ (function ((word (specifier.Basic 10 basic.Int)) ∷ []) 14 (tree (DeclTree-F.Function 18 (tree (DeclTree-F.Declared (name_at 14 (codes "main")))) [] false)) 20 ((expression_row 21 (step (Expr-F.Delete 21 false false (step (Expr-F.Named (name_at 28 (codes "f"))))))) ∷ (return_row 30 (Some (step (Expr-F.Int 37 0 kind.Int)))) ∷ [])) ∷ []))
    ≡ Some (18, 21)
delete_of_a_function_pointer = refl

-- struct A;A*p;int main(){delete p;return 0;}
delete_of_an_incomplete_class :
    refusal (elaborates ((declared_item 0 ((word (specifier.Elaborated 0 key.Struct (record { at = 7; from_file = false; names = (codes "A") ∷ [] }))) ∷ []) [])
    ∷ (declared_item 9 ((word (specifier.Named (record { at = 9; from_file = false; names = (codes "A") ∷ [] }))) ∷ []) ((plain 10 (tree (DeclTree-F.Pointed (pointer.To 10 false) (tree (DeclTree-F.Declared (name_at 11 (codes "p"))))))) ∷ []))
    ∷ (function ((word (specifier.Basic 13 basic.Int)) ∷ []) 17 (tree (DeclTree-F.Function 21 (tree (DeclTree-F.Declared (name_at 17 (codes "main")))) [] false)) 23 ((expression_row 24 (step (Expr-F.Delete 24 false false (step (Expr-F.Named (name_at 31 (codes "p"))))))) ∷ (return_row 33 (Some (step (Expr-F.Int 40 0 kind.Int)))) ∷ [])) ∷ []))
    ≡ Some (30, 24)
unfolding digits
delete_of_an_incomplete_class = refl
