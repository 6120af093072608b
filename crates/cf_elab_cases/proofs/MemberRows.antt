-- Member access (5.2.4).
use Rattle.std.proofs.Common.{◌≡◌, [], ◌∷◌, refl}
use Rattle.std.specs.Prelude.{false, Some, None, codes}
use Rattle.std.specs.Fmt.{digits}
use Rattle.cf_base.specs.declared.kind.Kind.TheVariants as kind
use Rattle.cf_syntax.specs.declared.name.Last.TheVariants as last
use Rattle.cf_syntax.specs.declared.specifier.BasicType.TheVariants as basic
use Rattle.cf_syntax.specs.declared.specifier.ClassKey.TheVariants as key
use Rattle.cf_syntax.specs.declared.specifier.Pointer.TheVariants as pointer
use Rattle.cf_syntax.specs.declared.specifier.TypeSpecifier.TheVariants as specifier
use Rattle.cf_unit.specs.declared.class.Access.TheVariants as written
use Rattle.cf_unit.specs.declared.class.BaseWord.TheVariants as base_word
use Rattle.cf_syntax.specs.declared.declarator.DeclTree.TheOpen.{DeclTree-F, Expr-F}
use Rattle.cf_elab.specs.Answer.{◌>>◌, gives, done}
use Rattle.cf_elab.specs.ClassDefinition.{access_row}
use Rattle.cf_elab.specs.Declarator.{parameter_step}
use Rattle.cf_elab.specs.Definition.{body_of}
use Rattle.cf_elab.specs.Statement.{expression_row, return_row}
use Rattle.cf_elab.specs.Trees.{class_with_functions, method_row, defined_row}
use Rattle.cf_elab.proofs.Words.{step, tree, word, name_at, plain, function, member, declared_item, elaborates, refusal}

-- int x;int main(){return x.y;}
member_of_an_int :
    refusal (elaborates ((declared_item 0 ((word (specifier.Basic 0 basic.Int)) ∷ []) ((plain 4 (tree (DeclTree-F.Declared (name_at 4 (codes "x"))))) ∷ []))
    ∷ (function ((word (specifier.Basic 6 basic.Int)) ∷ []) 10 (tree (DeclTree-F.Function 14 (tree (DeclTree-F.Declared (name_at 10 (codes "main")))) [] false)) 16 ((return_row 17 (Some (step (Expr-F.Dot 25 (step (Expr-F.Named (name_at 24 (codes "x")))) (name_at 26 (codes "y")))))) ∷ [])) ∷ []))
    ≡ Some (18, 25)
member_of_an_int = refl

-- int x;int main(){return x->y;}
member_behind_an_int :
    refusal (elaborates ((declared_item 0 ((word (specifier.Basic 0 basic.Int)) ∷ []) ((plain 4 (tree (DeclTree-F.Declared (name_at 4 (codes "x"))))) ∷ []))
    ∷ (function ((word (specifier.Basic 6 basic.Int)) ∷ []) 10 (tree (DeclTree-F.Function 14 (tree (DeclTree-F.Declared (name_at 10 (codes "main")))) [] false)) 16 ((return_row 17 (Some (step (Expr-F.Arrow 25 (step (Expr-F.Named (name_at 24 (codes "x")))) (name_at 27 (codes "y")))))) ∷ [])) ∷ []))
    ≡ Some (18, 25)
member_behind_an_int = refl

-- int*p;int main(){return p->y;}
member_behind_a_pointer_to_int :
    refusal (elaborates ((declared_item 0 ((word (specifier.Basic 0 basic.Int)) ∷ []) ((plain 3 (tree (DeclTree-F.Pointed (pointer.To 3 false) (tree (DeclTree-F.Declared (name_at 4 (codes "p"))))))) ∷ []))
    ∷ (function ((word (specifier.Basic 6 basic.Int)) ∷ []) 10 (tree (DeclTree-F.Function 14 (tree (DeclTree-F.Declared (name_at 10 (codes "main")))) [] false)) 16 ((return_row 17 (Some (step (Expr-F.Arrow 25 (step (Expr-F.Named (name_at 24 (codes "p")))) (name_at 27 (codes "y")))))) ∷ [])) ∷ []))
    ≡ Some (18, 25)
member_behind_a_pointer_to_int = refl

-- int main(){return z.y;}
member_of_an_undeclared_name :
    refusal (elaborates ((function ((word (specifier.Basic 0 basic.Int)) ∷ []) 4 (tree (DeclTree-F.Function 8 (tree (DeclTree-F.Declared (name_at 4 (codes "main")))) [] false)) 10 ((return_row 11 (Some (step (Expr-F.Dot 19 (step (Expr-F.Named (name_at 18 (codes "z")))) (name_at 20 (codes "y")))))) ∷ [])) ∷ []))
    ≡ Some (10, 18)
member_of_an_undeclared_name = refl

-- struct A;A*p;int main(){return p->x;}
member_of_an_incomplete_class :
    refusal (elaborates ((declared_item 0 ((word (specifier.Elaborated 0 key.Struct (record { at = 7; from_file = false; names = (codes "A") ∷ [] }))) ∷ []) [])
    ∷ (declared_item 9 ((word (specifier.Named (record { at = 9; from_file = false; names = (codes "A") ∷ [] }))) ∷ []) ((plain 10 (tree (DeclTree-F.Pointed (pointer.To 10 false) (tree (DeclTree-F.Declared (name_at 11 (codes "p"))))))) ∷ []))
    ∷ (function ((word (specifier.Basic 13 basic.Int)) ∷ []) 17 (tree (DeclTree-F.Function 21 (tree (DeclTree-F.Declared (name_at 17 (codes "main")))) [] false)) 23 ((return_row 24 (Some (step (Expr-F.Arrow 32 (step (Expr-F.Named (name_at 31 (codes "p")))) (name_at 34 (codes "x")))))) ∷ [])) ∷ []))
    ≡ Some (30, 32)
unfolding digits
member_of_an_incomplete_class = refl

-- struct A{int x;};A a;int main(){return a.y;}
no_such_member :
    refusal (elaborates ((declared_item 0 ((defined_row 0 (class_with_functions 0 key.Struct (Some (7, (codes "A"))) [] ((member 9 ((word (specifier.Basic 9 basic.Int)) ∷ []) (tree (DeclTree-F.Declared (name_at 13 (codes "x"))))) ∷ []))) ∷ []) [])
    ∷ (declared_item 17 ((word (specifier.Named (record { at = 17; from_file = false; names = (codes "A") ∷ [] }))) ∷ []) ((plain 19 (tree (DeclTree-F.Declared (name_at 19 (codes "a"))))) ∷ []))
    ∷ (function ((word (specifier.Basic 21 basic.Int)) ∷ []) 25 (tree (DeclTree-F.Function 29 (tree (DeclTree-F.Declared (name_at 25 (codes "main")))) [] false)) 31 ((return_row 32 (Some (step (Expr-F.Dot 40 (step (Expr-F.Named (name_at 39 (codes "a")))) (name_at 41 (codes "y")))))) ∷ [])) ∷ []))
    ≡ Some (16, 41)
unfolding digits
no_such_member = refl

-- struct A{int x;};struct B{int x;};struct C:A,B{};C c;int main(){return c.x;}
member_in_two_bases :
    refusal (elaborates ((declared_item 0 ((defined_row 0 (class_with_functions 0 key.Struct (Some (7, (codes "A"))) [] ((member 9 ((word (specifier.Basic 9 basic.Int)) ∷ []) (tree (DeclTree-F.Declared (name_at 13 (codes "x"))))) ∷ []))) ∷ []) [])
    ∷ (declared_item 17 ((defined_row 17 (class_with_functions 17 key.Struct (Some (24, (codes "B"))) [] ((member 26 ((word (specifier.Basic 26 basic.Int)) ∷ []) (tree (DeclTree-F.Declared (name_at 30 (codes "x"))))) ∷ []))) ∷ []) [])
    ∷ (declared_item 34 ((defined_row 34 (class_with_functions 34 key.Struct (Some (41, (codes "C"))) ((record { at = 43; words = []; path = (record { at = 43; from_file = false; names = (codes "A") ∷ [] }) }) ∷ (record { at = 45; words = []; path = (record { at = 45; from_file = false; names = (codes "B") ∷ [] }) }) ∷ []) [])) ∷ []) [])
    ∷ (declared_item 49 ((word (specifier.Named (record { at = 49; from_file = false; names = (codes "C") ∷ [] }))) ∷ []) ((plain 51 (tree (DeclTree-F.Declared (name_at 51 (codes "c"))))) ∷ []))
    ∷ (function ((word (specifier.Basic 53 basic.Int)) ∷ []) 57 (tree (DeclTree-F.Function 61 (tree (DeclTree-F.Declared (name_at 57 (codes "main")))) [] false)) 63 ((return_row 64 (Some (step (Expr-F.Dot 72 (step (Expr-F.Named (name_at 71 (codes "c")))) (name_at 73 (codes "x")))))) ∷ [])) ∷ []))
    ≡ Some (34, 73)
unfolding digits
member_in_two_bases = refl

-- struct A{int x;};class B{int x;};struct C:A,B{};C c;int main(){return c.x;}
ambiguous_before_access :
    refusal (elaborates ((declared_item 0 ((defined_row 0 (class_with_functions 0 key.Struct (Some (7, (codes "A"))) [] ((member 9 ((word (specifier.Basic 9 basic.Int)) ∷ []) (tree (DeclTree-F.Declared (name_at 13 (codes "x"))))) ∷ []))) ∷ []) [])
    ∷ (declared_item 17 ((defined_row 17 (class_with_functions 17 key.Class (Some (23, (codes "B"))) [] ((member 25 ((word (specifier.Basic 25 basic.Int)) ∷ []) (tree (DeclTree-F.Declared (name_at 29 (codes "x"))))) ∷ []))) ∷ []) [])
    ∷ (declared_item 33 ((defined_row 33 (class_with_functions 33 key.Struct (Some (40, (codes "C"))) ((record { at = 42; words = []; path = (record { at = 42; from_file = false; names = (codes "A") ∷ [] }) }) ∷ (record { at = 44; words = []; path = (record { at = 44; from_file = false; names = (codes "B") ∷ [] }) }) ∷ []) [])) ∷ []) [])
    ∷ (declared_item 48 ((word (specifier.Named (record { at = 48; from_file = false; names = (codes "C") ∷ [] }))) ∷ []) ((plain 50 (tree (DeclTree-F.Declared (name_at 50 (codes "c"))))) ∷ []))
    ∷ (function ((word (specifier.Basic 52 basic.Int)) ∷ []) 56 (tree (DeclTree-F.Function 60 (tree (DeclTree-F.Declared (name_at 56 (codes "main")))) [] false)) 62 ((return_row 63 (Some (step (Expr-F.Dot 71 (step (Expr-F.Named (name_at 70 (codes "c")))) (name_at 72 (codes "x")))))) ∷ [])) ∷ []))
    ≡ Some (34, 72)
unfolding digits
ambiguous_before_access = refl

-- class A{int x;};A a;int main(){return a.x;}
private_member :
    refusal (elaborates ((declared_item 0 ((defined_row 0 (class_with_functions 0 key.Class (Some (6, (codes "A"))) [] ((member 8 ((word (specifier.Basic 8 basic.Int)) ∷ []) (tree (DeclTree-F.Declared (name_at 12 (codes "x"))))) ∷ []))) ∷ []) [])
    ∷ (declared_item 16 ((word (specifier.Named (record { at = 16; from_file = false; names = (codes "A") ∷ [] }))) ∷ []) ((plain 18 (tree (DeclTree-F.Declared (name_at 18 (codes "a"))))) ∷ []))
    ∷ (function ((word (specifier.Basic 20 basic.Int)) ∷ []) 24 (tree (DeclTree-F.Function 28 (tree (DeclTree-F.Declared (name_at 24 (codes "main")))) [] false)) 30 ((return_row 31 (Some (step (Expr-F.Dot 39 (step (Expr-F.Named (name_at 38 (codes "a")))) (name_at 40 (codes "x")))))) ∷ [])) ∷ []))
    ≡ Some (38, 40)
unfolding digits
private_member = refl

-- class A{protected:int x;};A a;int main(){return a.x;}
protected_member :
    refusal (elaborates ((declared_item 0 ((defined_row 0 (class_with_functions 0 key.Class (Some (6, (codes "A"))) [] ((access_row written.Protected >> gives done) ∷ (member 18 ((word (specifier.Basic 18 basic.Int)) ∷ []) (tree (DeclTree-F.Declared (name_at 22 (codes "x"))))) ∷ []))) ∷ []) [])
    ∷ (declared_item 26 ((word (specifier.Named (record { at = 26; from_file = false; names = (codes "A") ∷ [] }))) ∷ []) ((plain 28 (tree (DeclTree-F.Declared (name_at 28 (codes "a"))))) ∷ []))
    ∷ (function ((word (specifier.Basic 30 basic.Int)) ∷ []) 34 (tree (DeclTree-F.Function 38 (tree (DeclTree-F.Declared (name_at 34 (codes "main")))) [] false)) 40 ((return_row 41 (Some (step (Expr-F.Dot 49 (step (Expr-F.Named (name_at 48 (codes "a")))) (name_at 50 (codes "x")))))) ∷ [])) ∷ []))
    ≡ Some (38, 50)
unfolding digits
protected_member = refl

-- class A{protected:int x;};class D:public A{int g(A*p){return p->x;}};
protected_member_of_a_base :
    refusal (elaborates ((declared_item 0 ((defined_row 0 (class_with_functions 0 key.Class (Some (6, (codes "A"))) [] ((access_row written.Protected >> gives done) ∷ (member 18 ((word (specifier.Basic 18 basic.Int)) ∷ []) (tree (DeclTree-F.Declared (name_at 22 (codes "x"))))) ∷ []))) ∷ []) [])
    ∷ (declared_item 26 ((defined_row 26 (class_with_functions 26 key.Class (Some (32, (codes "D"))) ((record { at = 34; words = (34, base_word.Public) ∷ []; path = (record { at = 41; from_file = false; names = (codes "A") ∷ [] }) }) ∷ []) ((method_row ((word (specifier.Basic 43 basic.Int)) ∷ []) 47 (tree (DeclTree-F.Function 48 (tree (DeclTree-F.Declared (name_at 47 (codes "g")))) ((parameter_step (record { at = 49; specifiers = (specifier.Named (record { at = 49; from_file = false; names = (codes "A") ∷ [] })) ∷ []; declarator = tree (DeclTree-F.Pointed (pointer.To 50 false) (tree (DeclTree-F.Declared (name_at 51 (codes "p"))))); default = None })) ∷ []) false)) [] (body_of 53 ((return_row 54 (Some (step (Expr-F.Arrow 62 (step (Expr-F.Named (name_at 61 (codes "p")))) (name_at 64 (codes "x")))))) ∷ []))) ∷ []))) ∷ []) []) ∷ []))
    ≡ Some (39, 64)
unfolding digits
protected_member_of_a_base = refl

-- class A{protected:int x;};class D:public A{int g(D*p){return p->x;}};
protected_member_of_its_own :
    refusal (elaborates ((declared_item 0 ((defined_row 0 (class_with_functions 0 key.Class (Some (6, (codes "A"))) [] ((access_row written.Protected >> gives done) ∷ (member 18 ((word (specifier.Basic 18 basic.Int)) ∷ []) (tree (DeclTree-F.Declared (name_at 22 (codes "x"))))) ∷ []))) ∷ []) [])
    ∷ (declared_item 26 ((defined_row 26 (class_with_functions 26 key.Class (Some (32, (codes "D"))) ((record { at = 34; words = (34, base_word.Public) ∷ []; path = (record { at = 41; from_file = false; names = (codes "A") ∷ [] }) }) ∷ []) ((method_row ((word (specifier.Basic 43 basic.Int)) ∷ []) 47 (tree (DeclTree-F.Function 48 (tree (DeclTree-F.Declared (name_at 47 (codes "g")))) ((parameter_step (record { at = 49; specifiers = (specifier.Named (record { at = 49; from_file = false; names = (codes "D") ∷ [] })) ∷ []; declarator = tree (DeclTree-F.Pointed (pointer.To 50 false) (tree (DeclTree-F.Declared (name_at 51 (codes "p"))))); default = None })) ∷ []) false)) [] (body_of 53 ((return_row 54 (Some (step (Expr-F.Arrow 62 (step (Expr-F.Named (name_at 61 (codes "p")))) (name_at 64 (codes "x")))))) ∷ []))) ∷ []))) ∷ []) []) ∷ []))
    ≡ None
unfolding digits
protected_member_of_its_own = refl

-- struct A{};A a;int main(){a.~A();return 0;}
explicit_destructor :
    refusal (elaborates ((declared_item 0 ((defined_row 0 (class_with_functions 0 key.Struct (Some (7, (codes "A"))) [] [])) ∷ []) [])
    ∷ (declared_item 11 ((word (specifier.Named (record { at = 11; from_file = false; names = (codes "A") ∷ [] }))) ∷ []) ((plain 13 (tree (DeclTree-F.Declared (name_at 13 (codes "a"))))) ∷ []))
    ∷ (function ((word (specifier.Basic 15 basic.Int)) ∷ []) 19 (tree (DeclTree-F.Function 23 (tree (DeclTree-F.Declared (name_at 19 (codes "main")))) [] false)) 25 ((expression_row 26 (step (Expr-F.Call 30 (step (Expr-F.Dot 27 (step (Expr-F.Named (name_at 26 (codes "a")))) (record { at = 28; from_file = false; scopes = []; last_at = 28; last = last.Destructor (codes "A") }))) []))) ∷ (return_row 33 (Some (step (Expr-F.Int 40 0 kind.Int)))) ∷ [])) ∷ []))
    ≡ Some (48, 28)
unfolding digits
explicit_destructor = refl
