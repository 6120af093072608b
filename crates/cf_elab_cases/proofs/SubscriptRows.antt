-- Subscripts (5.2.1).
use Rattle.std.proofs.Common.{◌≡◌, [], ◌∷◌, refl}
use Rattle.std.specs.Prelude.{false, Some, None, codes}
use Rattle.std.specs.Fmt.{digits}
use Rattle.cf_base.specs.declared.kind.Kind.TheVariants as kind
use Rattle.cf_syntax.specs.declared.specifier.BasicType.TheVariants as basic
use Rattle.cf_syntax.specs.declared.specifier.Pointer.TheVariants as pointer
use Rattle.cf_syntax.specs.declared.specifier.TypeSpecifier.TheVariants as specifier
use Rattle.cf_syntax.specs.declared.declarator.DeclTree.TheOpen.{DeclTree-F, Expr-F}
use Rattle.cf_elab.specs.Statement.{expression_row, return_row}
use Rattle.cf_elab.proofs.Words.{step, tree, word, name_at, enumeration, plain, function, declared_item, elaborates, refusal}

-- int x;int main(){return x[1];}
subscript_of_an_int :
    refusal (elaborates ((declared_item 0 ((word (specifier.Basic 0 basic.Int)) ∷ []) ((plain 4 (tree (DeclTree-F.Declared (name_at 4 (codes "x"))))) ∷ []))
    ∷ (function ((word (specifier.Basic 6 basic.Int)) ∷ []) 10 (tree (DeclTree-F.Function 14 (tree (DeclTree-F.Declared (name_at 10 (codes "main")))) [] false)) 16 ((return_row 17 (Some (step (Expr-F.Index 25 (step (Expr-F.Named (name_at 24 (codes "x")))) (step (Expr-F.Int 26 1 kind.Int)))))) ∷ [])) ∷ []))
    ≡ Some (18, 25)
subscript_of_an_int = refl

-- int*p;int main(){return p[p];}
subscript_by_a_pointer :
    refusal (elaborates ((declared_item 0 ((word (specifier.Basic 0 basic.Int)) ∷ []) ((plain 3 (tree (DeclTree-F.Pointed (pointer.To 3 false) (tree (DeclTree-F.Declared (name_at 4 (codes "p"))))))) ∷ []))
    ∷ (function ((word (specifier.Basic 6 basic.Int)) ∷ []) 10 (tree (DeclTree-F.Function 14 (tree (DeclTree-F.Declared (name_at 10 (codes "main")))) [] false)) 16 ((return_row 17 (Some (step (Expr-F.Index 25 (step (Expr-F.Named (name_at 24 (codes "p")))) (step (Expr-F.Named (name_at 26 (codes "p")))))))) ∷ [])) ∷ []))
    ≡ Some (18, 25)
subscript_by_a_pointer = refl

-- void*v;int main(){v[1];return 0;}
subscript_of_a_void_pointer :
    refusal (elaborates ((declared_item 0 ((word (specifier.Basic 0 basic.Void)) ∷ []) ((plain 4 (tree (DeclTree-F.Pointed (pointer.To 4 false) (tree (DeclTree-F.Declared (name_at 5 (codes "v"))))))) ∷ []))
    ∷ (function ((word (specifier.Basic 7 basic.Int)) ∷ []) 11 (tree (DeclTree-F.Function 15 (tree (DeclTree-F.Declared (name_at 11 (codes "main")))) [] false)) 17 ((expression_row 18 (step (Expr-F.Index 19 (step (Expr-F.Named (name_at 18 (codes "v")))) (step (Expr-F.Int 20 1 kind.Int))))) ∷ (return_row 23 (Some (step (Expr-F.Int 30 0 kind.Int)))) ∷ [])) ∷ []))
    ≡ Some (18, 19)
subscript_of_a_void_pointer = refl

-- int f();int main(){f[1];return 0;}
subscript_of_a_function :
    refusal (elaborates ((declared_item 0 ((word (specifier.Basic 0 basic.Int)) ∷ []) ((plain 4 (tree (DeclTree-F.Function 5 (tree (DeclTree-F.Declared (name_at 4 (codes "f")))) [] false))) ∷ []))
    ∷ (function ((word (specifier.Basic 8 basic.Int)) ∷ []) 12 (tree (DeclTree-F.Function 16 (tree (DeclTree-F.Declared (name_at 12 (codes "main")))) [] false)) 18 ((expression_row 19 (step (Expr-F.Index 20 (step (Expr-F.Named (name_at 19 (codes "f")))) (step (Expr-F.Int 21 1 kind.Int))))) ∷ (return_row 24 (Some (step (Expr-F.Int 31 0 kind.Int)))) ∷ [])) ∷ []))
    ≡ Some (18, 20)
subscript_of_a_function = refl

-- int x;int main(){return x[y];}
subscript_by_a_name_that_is_not_there :
    refusal (elaborates ((declared_item 0 ((word (specifier.Basic 0 basic.Int)) ∷ []) ((plain 4 (tree (DeclTree-F.Declared (name_at 4 (codes "x"))))) ∷ []))
    ∷ (function ((word (specifier.Basic 6 basic.Int)) ∷ []) 10 (tree (DeclTree-F.Function 14 (tree (DeclTree-F.Declared (name_at 10 (codes "main")))) [] false)) 16 ((return_row 17 (Some (step (Expr-F.Index 25 (step (Expr-F.Named (name_at 24 (codes "x")))) (step (Expr-F.Named (name_at 26 (codes "y")))))))) ∷ [])) ∷ []))
    ≡ Some (10, 26)
subscript_by_a_name_that_is_not_there = refl

-- int*p;int main(){return 1[p];}
subscript_the_other_way :
    refusal (elaborates ((declared_item 0 ((word (specifier.Basic 0 basic.Int)) ∷ []) ((plain 3 (tree (DeclTree-F.Pointed (pointer.To 3 false) (tree (DeclTree-F.Declared (name_at 4 (codes "p"))))))) ∷ []))
    ∷ (function ((word (specifier.Basic 6 basic.Int)) ∷ []) 10 (tree (DeclTree-F.Function 14 (tree (DeclTree-F.Declared (name_at 10 (codes "main")))) [] false)) 16 ((return_row 17 (Some (step (Expr-F.Index 25 (step (Expr-F.Int 24 1 kind.Int)) (step (Expr-F.Named (name_at 26 (codes "p")))))))) ∷ [])) ∷ []))
    ≡ None
subscript_the_other_way = refl

-- enum E{A};int*p;int main(){return p[A];}
subscript_by_an_enumerator :
    refusal (elaborates ((declared_item 0 ((enumeration 0 (Some (5, (codes "E"))) ((record { at = 7; name = (codes "A"); value = None }) ∷ [])) ∷ []) [])
    ∷ (declared_item 10 ((word (specifier.Basic 10 basic.Int)) ∷ []) ((plain 13 (tree (DeclTree-F.Pointed (pointer.To 13 false) (tree (DeclTree-F.Declared (name_at 14 (codes "p"))))))) ∷ []))
    ∷ (function ((word (specifier.Basic 16 basic.Int)) ∷ []) 20 (tree (DeclTree-F.Function 24 (tree (DeclTree-F.Declared (name_at 20 (codes "main")))) [] false)) 26 ((return_row 27 (Some (step (Expr-F.Index 35 (step (Expr-F.Named (name_at 34 (codes "p")))) (step (Expr-F.Named (name_at 36 (codes "A")))))))) ∷ [])) ∷ []))
    ≡ None
unfolding digits
subscript_by_an_enumerator = refl
