-- Casts (5.4).
use Rattle.std.proofs.Common.{◌≡◌, [], ◌∷◌, refl}
use Rattle.std.specs.Prelude.{true, false, Some, None, codes}
use Rattle.std.specs.Fmt.{digits}
use Rattle.cf_base.specs.declared.kind.Kind.TheVariants as kind
use Rattle.cf_syntax.specs.declared.operator.BinaryOp.TheVariants as binary
use Rattle.cf_syntax.specs.declared.specifier.BasicType.TheVariants as basic
use Rattle.cf_syntax.specs.declared.specifier.Pointer.TheVariants as pointer
use Rattle.cf_syntax.specs.declared.specifier.Storage.TheVariants as storage
use Rattle.cf_syntax.specs.declared.specifier.TypeSpecifier.TheVariants as specifier
use Rattle.cf_syntax.specs.declared.declarator.DeclTree.TheOpen.{DeclTree-F, Expr-F}
use Rattle.cf_elab.specs.Statement.{expression_row, return_row}
use Rattle.cf_elab.proofs.Words.{step, tree, word, name_at, enumeration, unnamed, type_in, plain, with_value, local, function, declared_item, elaborates, refusal}

-- int*p;int main(){return (int)p;}
pointer_as_an_int :
    refusal (elaborates ((declared_item 0 ((word (specifier.Basic 0 basic.Int)) ∷ []) ((plain 3 (tree (DeclTree-F.Pointed (pointer.To 3 false) (tree (DeclTree-F.Declared (name_at 4 (codes "p"))))))) ∷ []))
    ∷ (function ((word (specifier.Basic 6 basic.Int)) ∷ []) 10 (tree (DeclTree-F.Function 14 (tree (DeclTree-F.Declared (name_at 10 (codes "main")))) [] false)) 16 ((return_row 17 (Some (step (Expr-F.Cast 24 (type_in 25 ((specifier.Basic 25 basic.Int) ∷ []) unnamed) (step (Expr-F.Named (name_at 29 (codes "p")))))))) ∷ [])) ∷ []))
    ≡ Some (17, 24)
pointer_as_an_int = refl

-- int main(){return (int*)5==0;}
number_as_a_pointer :
    refusal (elaborates ((function ((word (specifier.Basic 0 basic.Int)) ∷ []) 4 (tree (DeclTree-F.Function 8 (tree (DeclTree-F.Declared (name_at 4 (codes "main")))) [] false)) 10 ((return_row 11 (Some (step (Expr-F.Binary 25 binary.Equal (step (Expr-F.Cast 18 (type_in 19 ((specifier.Basic 19 basic.Int) ∷ []) (tree (DeclTree-F.Pointed (pointer.To 22 false) unnamed))) (step (Expr-F.Int 24 5 kind.Int)))) (step (Expr-F.Int 27 0 kind.Int)))))) ∷ [])) ∷ []))
    ≡ Some (17, 18)
number_as_a_pointer = refl

-- int main(){return (int*)0==0;}
null_as_a_pointer :
    refusal (elaborates ((function ((word (specifier.Basic 0 basic.Int)) ∷ []) 4 (tree (DeclTree-F.Function 8 (tree (DeclTree-F.Declared (name_at 4 (codes "main")))) [] false)) 10 ((return_row 11 (Some (step (Expr-F.Binary 25 binary.Equal (step (Expr-F.Cast 18 (type_in 19 ((specifier.Basic 19 basic.Int) ∷ []) (tree (DeclTree-F.Pointed (pointer.To 22 false) unnamed))) (step (Expr-F.Int 24 0 kind.Int)))) (step (Expr-F.Int 27 0 kind.Int)))))) ∷ [])) ∷ []))
    ≡ None
null_as_a_pointer = refl

-- int*p;int main(){return (char*)p==0;}
pointer_to_another_type :
    refusal (elaborates ((declared_item 0 ((word (specifier.Basic 0 basic.Int)) ∷ []) ((plain 3 (tree (DeclTree-F.Pointed (pointer.To 3 false) (tree (DeclTree-F.Declared (name_at 4 (codes "p"))))))) ∷ []))
    ∷ (function ((word (specifier.Basic 6 basic.Int)) ∷ []) 10 (tree (DeclTree-F.Function 14 (tree (DeclTree-F.Declared (name_at 10 (codes "main")))) [] false)) 16 ((return_row 17 (Some (step (Expr-F.Binary 32 binary.Equal (step (Expr-F.Cast 24 (type_in 25 ((specifier.Basic 25 basic.Char) ∷ []) (tree (DeclTree-F.Pointed (pointer.To 29 false) unnamed))) (step (Expr-F.Named (name_at 31 (codes "p")))))) (step (Expr-F.Int 34 0 kind.Int)))))) ∷ [])) ∷ []))
    ≡ Some (17, 24)
pointer_to_another_type = refl

-- int*p;int main(){return (char*)(void*)p==0;}
pointer_through_void :
    refusal (elaborates ((declared_item 0 ((word (specifier.Basic 0 basic.Int)) ∷ []) ((plain 3 (tree (DeclTree-F.Pointed (pointer.To 3 false) (tree (DeclTree-F.Declared (name_at 4 (codes "p"))))))) ∷ []))
    ∷ (function ((word (specifier.Basic 6 basic.Int)) ∷ []) 10 (tree (DeclTree-F.Function 14 (tree (DeclTree-F.Declared (name_at 10 (codes "main")))) [] false)) 16 ((return_row 17 (Some (step (Expr-F.Binary 39 binary.Equal (step (Expr-F.Cast 24 (type_in 25 ((specifier.Basic 25 basic.Char) ∷ []) (tree (DeclTree-F.Pointed (pointer.To 29 false) unnamed))) (step (Expr-F.Cast 31 (type_in 32 ((specifier.Basic 32 basic.Void) ∷ []) (tree (DeclTree-F.Pointed (pointer.To 36 false) unnamed))) (step (Expr-F.Named (name_at 38 (codes "p")))))))) (step (Expr-F.Int 41 0 kind.Int)))))) ∷ [])) ∷ []))
    ≡ None
pointer_through_void = refl

-- enum E{A};int*p;int main(){return (E)p;}
pointer_as_an_enumeration :
    refusal (elaborates ((declared_item 0 ((enumeration 0 (Some (5, (codes "E"))) ((record { at = 7; name = (codes "A"); value = None }) ∷ [])) ∷ []) [])
    ∷ (declared_item 10 ((word (specifier.Basic 10 basic.Int)) ∷ []) ((plain 13 (tree (DeclTree-F.Pointed (pointer.To 13 false) (tree (DeclTree-F.Declared (name_at 14 (codes "p"))))))) ∷ []))
    ∷ (function ((word (specifier.Basic 16 basic.Int)) ∷ []) 20 (tree (DeclTree-F.Function 24 (tree (DeclTree-F.Declared (name_at 20 (codes "main")))) [] false)) 26 ((return_row 27 (Some (step (Expr-F.Cast 34 (type_in 35 ((specifier.Named (record { at = 35; from_file = false; names = (codes "E") ∷ [] })) ∷ []) unnamed) (step (Expr-F.Named (name_at 37 (codes "p")))))))) ∷ [])) ∷ []))
    ≡ Some (17, 34)
unfolding digits
pointer_as_an_enumeration = refl

-- enum E{A};int main(){return (E)1;}
number_as_an_enumeration :
    refusal (elaborates ((declared_item 0 ((enumeration 0 (Some (5, (codes "E"))) ((record { at = 7; name = (codes "A"); value = None }) ∷ [])) ∷ []) [])
    ∷ (function ((word (specifier.Basic 10 basic.Int)) ∷ []) 14 (tree (DeclTree-F.Function 18 (tree (DeclTree-F.Declared (name_at 14 (codes "main")))) [] false)) 20 ((return_row 21 (Some (step (Expr-F.Cast 28 (type_in 29 ((specifier.Named (record { at = 29; from_file = false; names = (codes "E") ∷ [] })) ∷ []) unnamed) (step (Expr-F.Int 31 1 kind.Int)))))) ∷ [])) ∷ []))
    ≡ None
unfolding digits
number_as_an_enumeration = refl

-- int main(){return (int&)1;}
value_as_a_place :
    refusal (elaborates ((function ((word (specifier.Basic 0 basic.Int)) ∷ []) 4 (tree (DeclTree-F.Function 8 (tree (DeclTree-F.Declared (name_at 4 (codes "main")))) [] false)) 10 ((return_row 11 (Some (step (Expr-F.Cast 18 (type_in 19 ((specifier.Basic 19 basic.Int) ∷ []) (tree (DeclTree-F.Pointed (pointer.Reference 22) unnamed))) (step (Expr-F.Int 24 1 kind.Int)))))) ∷ [])) ∷ []))
    ≡ Some (17, 18)
value_as_a_place = refl

-- int main(){return (const int&)1;}
value_as_a_const_place :
    refusal (elaborates ((function ((word (specifier.Basic 0 basic.Int)) ∷ []) 4 (tree (DeclTree-F.Function 8 (tree (DeclTree-F.Declared (name_at 4 (codes "main")))) [] false)) 10 ((return_row 11 (Some (step (Expr-F.Cast 18 (type_in 19 ((specifier.Const 19) ∷ (specifier.Basic 25 basic.Int) ∷ []) (tree (DeclTree-F.Pointed (pointer.Reference 28) unnamed))) (step (Expr-F.Int 30 1 kind.Int)))))) ∷ [])) ∷ []))
    ≡ Some (17, 18)
value_as_a_const_place = refl

-- int x;int main(){return (char&)x;}
place_of_another_type :
    refusal (elaborates ((declared_item 0 ((word (specifier.Basic 0 basic.Int)) ∷ []) ((plain 4 (tree (DeclTree-F.Declared (name_at 4 (codes "x"))))) ∷ []))
    ∷ (function ((word (specifier.Basic 6 basic.Int)) ∷ []) 10 (tree (DeclTree-F.Function 14 (tree (DeclTree-F.Declared (name_at 10 (codes "main")))) [] false)) 16 ((return_row 17 (Some (step (Expr-F.Cast 24 (type_in 25 ((specifier.Basic 25 basic.Char) ∷ []) (tree (DeclTree-F.Pointed (pointer.Reference 29) unnamed))) (step (Expr-F.Named (name_at 31 (codes "x")))))))) ∷ [])) ∷ []))
    ≡ Some (17, 24)
place_of_another_type = refl

-- void f();int main(){return (int)f();}
nothing_as_an_int :
    refusal (elaborates ((declared_item 0 ((word (specifier.Basic 0 basic.Void)) ∷ []) ((plain 5 (tree (DeclTree-F.Function 6 (tree (DeclTree-F.Declared (name_at 5 (codes "f")))) [] false))) ∷ []))
    ∷ (function ((word (specifier.Basic 9 basic.Int)) ∷ []) 13 (tree (DeclTree-F.Function 17 (tree (DeclTree-F.Declared (name_at 13 (codes "main")))) [] false)) 19 ((return_row 20 (Some (step (Expr-F.Cast 27 (type_in 28 ((specifier.Basic 28 basic.Int) ∷ []) unnamed) (step (Expr-F.Call 33 (step (Expr-F.Named (name_at 32 (codes "f")))) [])))))) ∷ [])) ∷ []))
    ≡ Some (17, 27)
nothing_as_an_int = refl

-- void f();int main(){(void)f();return 0;}
nothing_as_nothing :
    refusal (elaborates ((declared_item 0 ((word (specifier.Basic 0 basic.Void)) ∷ []) ((plain 5 (tree (DeclTree-F.Function 6 (tree (DeclTree-F.Declared (name_at 5 (codes "f")))) [] false))) ∷ []))
    ∷ (function ((word (specifier.Basic 9 basic.Int)) ∷ []) 13 (tree (DeclTree-F.Function 17 (tree (DeclTree-F.Declared (name_at 13 (codes "main")))) [] false)) 19 ((expression_row 20 (step (Expr-F.Cast 20 (type_in 21 ((specifier.Basic 21 basic.Void) ∷ []) unnamed) (step (Expr-F.Call 27 (step (Expr-F.Named (name_at 26 (codes "f")))) []))))) ∷ (return_row 30 (Some (step (Expr-F.Int 37 0 kind.Int)))) ∷ [])) ∷ []))
    ≡ None
nothing_as_nothing = refl

-- int f();int main(){(void(*)())f;return 0;}
function_of_another_type :
    refusal (elaborates ((declared_item 0 ((word (specifier.Basic 0 basic.Int)) ∷ []) ((plain 4 (tree (DeclTree-F.Function 5 (tree (DeclTree-F.Declared (name_at 4 (codes "f")))) [] false))) ∷ []))
    ∷ (function ((word (specifier.Basic 8 basic.Int)) ∷ []) 12 (tree (DeclTree-F.Function 16 (tree (DeclTree-F.Declared (name_at 12 (codes "main")))) [] false)) 18 ((expression_row 19 (step (Expr-F.Cast 19 (type_in 20 ((specifier.Basic 20 basic.Void) ∷ []) (tree (DeclTree-F.Function 27 (tree (DeclTree-F.Bracketed 24 (tree (DeclTree-F.Pointed (pointer.To 25 false) unnamed)))) [] false))) (step (Expr-F.Named (name_at 30 (codes "f"))))))) ∷ (return_row 32 (Some (step (Expr-F.Int 39 0 kind.Int)))) ∷ [])) ∷ []))
    ≡ Some (17, 19)
function_of_another_type = refl

-- void*v;int main(){(int(*)())v;return 0;}
void_pointer_to_a_function :
    refusal (elaborates ((declared_item 0 ((word (specifier.Basic 0 basic.Void)) ∷ []) ((plain 4 (tree (DeclTree-F.Pointed (pointer.To 4 false) (tree (DeclTree-F.Declared (name_at 5 (codes "v"))))))) ∷ []))
    ∷ (function ((word (specifier.Basic 7 basic.Int)) ∷ []) 11 (tree (DeclTree-F.Function 15 (tree (DeclTree-F.Declared (name_at 11 (codes "main")))) [] false)) 17 ((expression_row 18 (step (Expr-F.Cast 18 (type_in 19 ((specifier.Basic 19 basic.Int) ∷ []) (tree (DeclTree-F.Function 25 (tree (DeclTree-F.Bracketed 22 (tree (DeclTree-F.Pointed (pointer.To 23 false) unnamed)))) [] false))) (step (Expr-F.Named (name_at 28 (codes "v"))))))) ∷ (return_row 30 (Some (step (Expr-F.Int 37 0 kind.Int)))) ∷ [])) ∷ []))
    ≡ Some (17, 18)
void_pointer_to_a_function = refl

-- int f();int main(){(void*)f;return 0;}
function_to_a_void_pointer :
    refusal (elaborates ((declared_item 0 ((word (specifier.Basic 0 basic.Int)) ∷ []) ((plain 4 (tree (DeclTree-F.Function 5 (tree (DeclTree-F.Declared (name_at 4 (codes "f")))) [] false))) ∷ []))
    ∷ (function ((word (specifier.Basic 8 basic.Int)) ∷ []) 12 (tree (DeclTree-F.Function 16 (tree (DeclTree-F.Declared (name_at 12 (codes "main")))) [] false)) 18 ((expression_row 19 (step (Expr-F.Cast 19 (type_in 20 ((specifier.Basic 20 basic.Void) ∷ []) (tree (DeclTree-F.Pointed (pointer.To 24 false) unnamed))) (step (Expr-F.Named (name_at 26 (codes "f"))))))) ∷ (return_row 28 (Some (step (Expr-F.Int 35 0 kind.Int)))) ∷ [])) ∷ []))
    ≡ Some (17, 19)
function_to_a_void_pointer = refl

-- typedef int A[2];int x;int main(){(A)x;return 0;}
int_as_an_array :
    refusal (elaborates ((declared_item 0 ((word (specifier.Storage 0 storage.Typedef)) ∷ (word (specifier.Basic 8 basic.Int)) ∷ []) ((plain 12 (tree (DeclTree-F.Array 13 (tree (DeclTree-F.Declared (name_at 12 (codes "A")))) (Some (step (Expr-F.Int 14 2 kind.Int)))))) ∷ []))
    ∷ (declared_item 17 ((word (specifier.Basic 17 basic.Int)) ∷ []) ((plain 21 (tree (DeclTree-F.Declared (name_at 21 (codes "x"))))) ∷ []))
    ∷ (function ((word (specifier.Basic 23 basic.Int)) ∷ []) 27 (tree (DeclTree-F.Function 31 (tree (DeclTree-F.Declared (name_at 27 (codes "main")))) [] false)) 33 ((expression_row 34 (step (Expr-F.Cast 34 (type_in 35 ((specifier.Named (record { at = 35; from_file = false; names = (codes "A") ∷ [] })) ∷ []) unnamed) (step (Expr-F.Named (name_at 37 (codes "x"))))))) ∷ (return_row 39 (Some (step (Expr-F.Int 46 0 kind.Int)))) ∷ [])) ∷ []))
    ≡ Some (17, 34)
int_as_an_array = refl

-- int*const*p;int main(){int**q=(int**)p;return q==0;}
deeper_const_is_dropped :
    refusal (elaborates ((declared_item 0 ((word (specifier.Basic 0 basic.Int)) ∷ []) ((plain 3 (tree (DeclTree-F.Pointed (pointer.To 3 true) (tree (DeclTree-F.Pointed (pointer.To 9 false) (tree (DeclTree-F.Declared (name_at 10 (codes "p"))))))))) ∷ []))
    ∷ (function ((word (specifier.Basic 12 basic.Int)) ∷ []) 16 (tree (DeclTree-F.Function 20 (tree (DeclTree-F.Declared (name_at 16 (codes "main")))) [] false)) 22 ((local 23 ((word (specifier.Basic 23 basic.Int)) ∷ []) ((with_value 26 (tree (DeclTree-F.Pointed (pointer.To 26 false) (tree (DeclTree-F.Pointed (pointer.To 27 false) (tree (DeclTree-F.Declared (name_at 28 (codes "q")))))))) 29 30 (step (Expr-F.Cast 30 (type_in 31 ((specifier.Basic 31 basic.Int) ∷ []) (tree (DeclTree-F.Pointed (pointer.To 34 false) (tree (DeclTree-F.Pointed (pointer.To 35 false) unnamed))))) (step (Expr-F.Named (name_at 37 (codes "p"))))))) ∷ [])) ∷ (return_row 39 (Some (step (Expr-F.Binary 47 binary.Equal (step (Expr-F.Named (name_at 46 (codes "q")))) (step (Expr-F.Int 49 0 kind.Int)))))) ∷ [])) ∷ []))
    ≡ None
deeper_const_is_dropped = refl

-- int main(){return (void&)x;}
type_before_its_operand :
    refusal (elaborates ((function ((word (specifier.Basic 0 basic.Int)) ∷ []) 4 (tree (DeclTree-F.Function 8 (tree (DeclTree-F.Declared (name_at 4 (codes "main")))) [] false)) 10 ((return_row 11 (Some (step (Expr-F.Cast 18 (type_in 19 ((specifier.Basic 19 basic.Void) ∷ []) (tree (DeclTree-F.Pointed (pointer.Reference 23) unnamed))) (step (Expr-F.Named (name_at 25 (codes "x")))))))) ∷ [])) ∷ []))
    ≡ Some (26, 23)
type_before_its_operand = refl

-- int main(){return (int*)x==0;}
operand_before_the_cast :
    refusal (elaborates ((function ((word (specifier.Basic 0 basic.Int)) ∷ []) 4 (tree (DeclTree-F.Function 8 (tree (DeclTree-F.Declared (name_at 4 (codes "main")))) [] false)) 10 ((return_row 11 (Some (step (Expr-F.Binary 25 binary.Equal (step (Expr-F.Cast 18 (type_in 19 ((specifier.Basic 19 basic.Int) ∷ []) (tree (DeclTree-F.Pointed (pointer.To 22 false) unnamed))) (step (Expr-F.Named (name_at 24 (codes "x")))))) (step (Expr-F.Int 27 0 kind.Int)))))) ∷ [])) ∷ []))
    ≡ Some (10, 24)
operand_before_the_cast = refl
