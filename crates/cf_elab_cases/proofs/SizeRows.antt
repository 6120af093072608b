-- `sizeof` (5.3.2).
use Rattle.std.proofs.Common.{◌≡◌, [], ◌∷◌, refl}
use Rattle.std.specs.Prelude.{false, Some, None, codes}
use Rattle.std.specs.Fmt.{digits}
use Rattle.cf_syntax.specs.declared.operator.PrefixOp.TheVariants as prefix
use Rattle.cf_syntax.specs.declared.specifier.BasicType.TheVariants as basic
use Rattle.cf_syntax.specs.declared.specifier.ClassKey.TheVariants as key
use Rattle.cf_syntax.specs.declared.specifier.Pointer.TheVariants as pointer
use Rattle.cf_syntax.specs.declared.specifier.Storage.TheVariants as storage
use Rattle.cf_syntax.specs.declared.specifier.TypeSpecifier.TheVariants as specifier
use Rattle.cf_syntax.specs.declared.declarator.DeclTree.TheOpen.{DeclTree-F, Expr-F}
use Rattle.cf_elab.specs.Statement.{return_row}
use Rattle.cf_elab.proofs.Words.{step, tree, word, name_at, unnamed, type_in, plain, function, declared_item, elaborates, refusal}

-- void f();int main(){return sizeof f;}
size_of_a_function :
    refusal (elaborates ((declared_item 0 ((word (specifier.Basic 0 basic.Void)) ∷ []) ((plain 5 (tree (DeclTree-F.Function 6 (tree (DeclTree-F.Declared (name_at 5 (codes "f")))) [] false))) ∷ []))
    ∷ (function ((word (specifier.Basic 9 basic.Int)) ∷ []) 13 (tree (DeclTree-F.Function 17 (tree (DeclTree-F.Declared (name_at 13 (codes "main")))) [] false)) 19 ((return_row 20 (Some (step (Expr-F.SizeofExpr 27 (step (Expr-F.Named (name_at 34 (codes "f")))))))) ∷ [])) ∷ []))
    ≡ Some (18, 27)
size_of_a_function = refl

-- typedef int F();int main(){return sizeof(F);}
size_of_a_function_type :
    refusal (elaborates ((declared_item 0 ((word (specifier.Storage 0 storage.Typedef)) ∷ (word (specifier.Basic 8 basic.Int)) ∷ []) ((plain 12 (tree (DeclTree-F.Function 13 (tree (DeclTree-F.Declared (name_at 12 (codes "F")))) [] false))) ∷ []))
    ∷ (function ((word (specifier.Basic 16 basic.Int)) ∷ []) 20 (tree (DeclTree-F.Function 24 (tree (DeclTree-F.Declared (name_at 20 (codes "main")))) [] false)) 26 ((return_row 27 (Some (step (Expr-F.SizeofType 34 (type_in 41 ((specifier.Named (record { at = 41; from_file = false; names = (codes "F") ∷ [] })) ∷ []) unnamed))))) ∷ [])) ∷ []))
    ≡ Some (18, 34)
size_of_a_function_type = refl

-- int main(){return sizeof(void);}
size_of_void :
    refusal (elaborates ((function ((word (specifier.Basic 0 basic.Int)) ∷ []) 4 (tree (DeclTree-F.Function 8 (tree (DeclTree-F.Declared (name_at 4 (codes "main")))) [] false)) 10 ((return_row 11 (Some (step (Expr-F.SizeofType 18 (type_in 25 ((specifier.Basic 25 basic.Void) ∷ []) unnamed))))) ∷ [])) ∷ []))
    ≡ Some (18, 18)
size_of_void = refl

-- void f();int main(){return sizeof f();}
size_of_nothing :
    refusal (elaborates ((declared_item 0 ((word (specifier.Basic 0 basic.Void)) ∷ []) ((plain 5 (tree (DeclTree-F.Function 6 (tree (DeclTree-F.Declared (name_at 5 (codes "f")))) [] false))) ∷ []))
    ∷ (function ((word (specifier.Basic 9 basic.Int)) ∷ []) 13 (tree (DeclTree-F.Function 17 (tree (DeclTree-F.Declared (name_at 13 (codes "main")))) [] false)) 19 ((return_row 20 (Some (step (Expr-F.SizeofExpr 27 (step (Expr-F.Call 35 (step (Expr-F.Named (name_at 34 (codes "f")))) [])))))) ∷ [])) ∷ []))
    ≡ Some (18, 27)
size_of_nothing = refl

-- struct A;int main(){return sizeof(A);}
size_of_an_incomplete_class :
    refusal (elaborates ((declared_item 0 ((word (specifier.Elaborated 0 key.Struct (record { at = 7; from_file = false; names = (codes "A") ∷ [] }))) ∷ []) [])
    ∷ (function ((word (specifier.Basic 9 basic.Int)) ∷ []) 13 (tree (DeclTree-F.Function 17 (tree (DeclTree-F.Declared (name_at 13 (codes "main")))) [] false)) 19 ((return_row 20 (Some (step (Expr-F.SizeofType 27 (type_in 34 ((specifier.Named (record { at = 34; from_file = false; names = (codes "A") ∷ [] })) ∷ []) unnamed))))) ∷ [])) ∷ []))
    ≡ Some (30, 27)
unfolding digits
size_of_an_incomplete_class = refl

-- struct A;A*p;int main(){return sizeof *p;}
size_of_an_incomplete_object :
    refusal (elaborates ((declared_item 0 ((word (specifier.Elaborated 0 key.Struct (record { at = 7; from_file = false; names = (codes "A") ∷ [] }))) ∷ []) [])
    ∷ (declared_item 9 ((word (specifier.Named (record { at = 9; from_file = false; names = (codes "A") ∷ [] }))) ∷ []) ((plain 10 (tree (DeclTree-F.Pointed (pointer.To 10 false) (tree (DeclTree-F.Declared (name_at 11 (codes "p"))))))) ∷ []))
    ∷ (function ((word (specifier.Basic 13 basic.Int)) ∷ []) 17 (tree (DeclTree-F.Function 21 (tree (DeclTree-F.Declared (name_at 17 (codes "main")))) [] false)) 23 ((return_row 24 (Some (step (Expr-F.SizeofExpr 31 (step (Expr-F.Prefix 38 prefix.Dereference (step (Expr-F.Named (name_at 39 (codes "p")))))))))) ∷ [])) ∷ []))
    ≡ Some (30, 31)
unfolding digits
size_of_an_incomplete_object = refl

-- struct A;int main(){return sizeof(A*);}
size_of_a_pointer_to_it :
    refusal (elaborates ((declared_item 0 ((word (specifier.Elaborated 0 key.Struct (record { at = 7; from_file = false; names = (codes "A") ∷ [] }))) ∷ []) [])
    ∷ (function ((word (specifier.Basic 9 basic.Int)) ∷ []) 13 (tree (DeclTree-F.Function 17 (tree (DeclTree-F.Declared (name_at 13 (codes "main")))) [] false)) 19 ((return_row 20 (Some (step (Expr-F.SizeofType 27 (type_in 34 ((specifier.Named (record { at = 34; from_file = false; names = (codes "A") ∷ [] })) ∷ []) (tree (DeclTree-F.Pointed (pointer.To 35 false) unnamed))))))) ∷ [])) ∷ []))
    ≡ None
unfolding digits
size_of_a_pointer_to_it = refl

-- int main(){return sizeof x;}
size_of_an_undeclared_name :
    refusal (elaborates ((function ((word (specifier.Basic 0 basic.Int)) ∷ []) 4 (tree (DeclTree-F.Function 8 (tree (DeclTree-F.Declared (name_at 4 (codes "main")))) [] false)) 10 ((return_row 11 (Some (step (Expr-F.SizeofExpr 18 (step (Expr-F.Named (name_at 25 (codes "x")))))))) ∷ [])) ∷ []))
    ≡ Some (10, 25)
size_of_an_undeclared_name = refl
