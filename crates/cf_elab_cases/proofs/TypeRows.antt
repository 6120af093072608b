-- A type with arguments (5.2.3).
use Rattle.std.proofs.Common.{◌≡◌, [], ◌∷◌, refl}
use Rattle.std.specs.Prelude.{false, Some, None, codes}
use Rattle.std.specs.Fmt.{digits}
use Rattle.cf_base.specs.declared.kind.Kind.TheVariants as kind
use Rattle.cf_syntax.specs.declared.operator.BinaryOp.TheVariants as binary
use Rattle.cf_syntax.specs.declared.specifier.BasicType.TheVariants as basic
use Rattle.cf_syntax.specs.declared.specifier.ClassKey.TheVariants as key
use Rattle.cf_syntax.specs.declared.specifier.Pointer.TheVariants as pointer
use Rattle.cf_syntax.specs.declared.specifier.Storage.TheVariants as storage
use Rattle.cf_syntax.specs.declared.specifier.TypeSpecifier.TheVariants as specifier
use Rattle.cf_syntax.specs.declared.declarator.DeclTree.TheOpen.{DeclTree-F, Expr-F}
use Rattle.cf_elab.specs.Statement.{expression_row, return_row}
use Rattle.cf_elab.proofs.Words.{step, tree, word, name_at, enumeration, plain, function, declared_item, elaborates, refusal}

-- int main(){return int(1,2);}
two_values_for_an_int :
    refusal (elaborates ((function ((word (specifier.Basic 0 basic.Int)) ∷ []) 4 (tree (DeclTree-F.Function 8 (tree (DeclTree-F.Declared (name_at 4 (codes "main")))) [] false)) 10 ((return_row 11 (Some (step (Expr-F.BasicCall 18 basic.Int ((step (Expr-F.Int 22 1 kind.Int)) ∷ (step (Expr-F.Int 24 2 kind.Int)) ∷ []))))) ∷ [])) ∷ []))
    ≡ Some (15, 18)
two_values_for_an_int = refl

-- typedef int T;int main(){return T(1,2);}
two_values_for_an_alias :
    refusal (elaborates ((declared_item 0 ((word (specifier.Storage 0 storage.Typedef)) ∷ (word (specifier.Basic 8 basic.Int)) ∷ []) ((plain 12 (tree (DeclTree-F.Declared (name_at 12 (codes "T"))))) ∷ []))
    ∷ (function ((word (specifier.Basic 14 basic.Int)) ∷ []) 18 (tree (DeclTree-F.Function 22 (tree (DeclTree-F.Declared (name_at 18 (codes "main")))) [] false)) 24 ((return_row 25 (Some (step (Expr-F.TypeCall 32 (record { at = 32; from_file = false; names = (codes "T") ∷ [] }) ((step (Expr-F.Int 34 1 kind.Int)) ∷ (step (Expr-F.Int 36 2 kind.Int)) ∷ []))))) ∷ [])) ∷ []))
    ≡ Some (15, 32)
two_values_for_an_alias = refl

-- int*p;int main(){return int(p);}
pointer_to_an_int :
    refusal (elaborates ((declared_item 0 ((word (specifier.Basic 0 basic.Int)) ∷ []) ((plain 3 (tree (DeclTree-F.Pointed (pointer.To 3 false) (tree (DeclTree-F.Declared (name_at 4 (codes "p"))))))) ∷ []))
    ∷ (function ((word (specifier.Basic 6 basic.Int)) ∷ []) 10 (tree (DeclTree-F.Function 14 (tree (DeclTree-F.Declared (name_at 10 (codes "main")))) [] false)) 16 ((return_row 17 (Some (step (Expr-F.BasicCall 24 basic.Int ((step (Expr-F.Named (name_at 28 (codes "p")))) ∷ []))))) ∷ [])) ∷ []))
    ≡ Some (17, 24)
pointer_to_an_int = refl

-- typedef int*P;int main(){return P(1)==0;}
int_to_a_pointer :
    refusal (elaborates ((declared_item 0 ((word (specifier.Storage 0 storage.Typedef)) ∷ (word (specifier.Basic 8 basic.Int)) ∷ []) ((plain 11 (tree (DeclTree-F.Pointed (pointer.To 11 false) (tree (DeclTree-F.Declared (name_at 12 (codes "P"))))))) ∷ []))
    ∷ (function ((word (specifier.Basic 14 basic.Int)) ∷ []) 18 (tree (DeclTree-F.Function 22 (tree (DeclTree-F.Declared (name_at 18 (codes "main")))) [] false)) 24 ((return_row 25 (Some (step (Expr-F.Binary 36 binary.Equal (step (Expr-F.TypeCall 32 (record { at = 32; from_file = false; names = (codes "P") ∷ [] }) ((step (Expr-F.Int 34 1 kind.Int)) ∷ []))) (step (Expr-F.Int 38 0 kind.Int)))))) ∷ [])) ∷ []))
    ≡ Some (17, 32)
int_to_a_pointer = refl

-- typedef int*P;int main(){return P()==0;}
no_value_for_a_pointer :
    refusal (elaborates ((declared_item 0 ((word (specifier.Storage 0 storage.Typedef)) ∷ (word (specifier.Basic 8 basic.Int)) ∷ []) ((plain 11 (tree (DeclTree-F.Pointed (pointer.To 11 false) (tree (DeclTree-F.Declared (name_at 12 (codes "P"))))))) ∷ []))
    ∷ (function ((word (specifier.Basic 14 basic.Int)) ∷ []) 18 (tree (DeclTree-F.Function 22 (tree (DeclTree-F.Declared (name_at 18 (codes "main")))) [] false)) 24 ((return_row 25 (Some (step (Expr-F.Binary 35 binary.Equal (step (Expr-F.TypeCall 32 (record { at = 32; from_file = false; names = (codes "P") ∷ [] }) [])) (step (Expr-F.Int 37 0 kind.Int)))))) ∷ [])) ∷ []))
    ≡ None
no_value_for_a_pointer = refl

-- enum E{A};int main(){return E(1,2);}
two_values_for_an_enumeration :
    refusal (elaborates ((declared_item 0 ((enumeration 0 (Some (5, (codes "E"))) ((record { at = 7; name = (codes "A"); value = None }) ∷ [])) ∷ []) [])
    ∷ (function ((word (specifier.Basic 10 basic.Int)) ∷ []) 14 (tree (DeclTree-F.Function 18 (tree (DeclTree-F.Declared (name_at 14 (codes "main")))) [] false)) 20 ((return_row 21 (Some (step (Expr-F.TypeCall 28 (record { at = 28; from_file = false; names = (codes "E") ∷ [] }) ((step (Expr-F.Int 30 1 kind.Int)) ∷ (step (Expr-F.Int 32 2 kind.Int)) ∷ []))))) ∷ [])) ∷ []))
    ≡ Some (15, 28)
unfolding digits
two_values_for_an_enumeration = refl

-- int main(){return int(1,x);}
values_before_their_count :
    refusal (elaborates ((function ((word (specifier.Basic 0 basic.Int)) ∷ []) 4 (tree (DeclTree-F.Function 8 (tree (DeclTree-F.Declared (name_at 4 (codes "main")))) [] false)) 10 ((return_row 11 (Some (step (Expr-F.BasicCall 18 basic.Int ((step (Expr-F.Int 22 1 kind.Int)) ∷ (step (Expr-F.Named (name_at 24 (codes "x")))) ∷ []))))) ∷ [])) ∷ []))
    ≡ Some (10, 24)
values_before_their_count = refl

-- struct A;int main(){(A(1),0);return 0;}
object_of_an_incomplete_class :
    refusal (elaborates ((declared_item 0 ((word (specifier.Elaborated 0 key.Struct (record { at = 7; from_file = false; names = (codes "A") ∷ [] }))) ∷ []) [])
    ∷ (function ((word (specifier.Basic 9 basic.Int)) ∷ []) 13 (tree (DeclTree-F.Function 17 (tree (DeclTree-F.Declared (name_at 13 (codes "main")))) [] false)) 19 ((expression_row 20 (step (Expr-F.Paren 20 (step (Expr-F.Comma 25 ((step (Expr-F.TypeCall 21 (record { at = 21; from_file = false; names = (codes "A") ∷ [] }) ((step (Expr-F.Int 23 1 kind.Int)) ∷ []))) ∷ (step (Expr-F.Int 26 0 kind.Int)) ∷ [])))))) ∷ (return_row 29 (Some (step (Expr-F.Int 36 0 kind.Int)))) ∷ [])) ∷ []))
    ≡ Some (30, 21)
unfolding digits
object_of_an_incomplete_class = refl
