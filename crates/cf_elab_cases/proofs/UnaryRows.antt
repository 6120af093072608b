-- Unary operators (5.3).
use Rattle.std.proofs.Common.{◌≡◌, [], ◌∷◌, refl}
use Rattle.std.specs.Prelude.{false, Some, None, codes}
use Rattle.cf_base.specs.declared.kind.Kind.TheVariants as kind
use Rattle.cf_syntax.specs.declared.operator.BinaryOp.TheVariants as binary
use Rattle.cf_syntax.specs.declared.operator.PrefixOp.TheVariants as prefix
use Rattle.cf_syntax.specs.declared.operator.StepOp.TheVariants as op
use Rattle.cf_syntax.specs.declared.specifier.BasicType.TheVariants as basic
use Rattle.cf_syntax.specs.declared.specifier.Pointer.TheVariants as pointer
use Rattle.cf_syntax.specs.declared.specifier.TypeSpecifier.TheVariants as specifier
use Rattle.cf_syntax.specs.declared.declarator.DeclTree.TheOpen.{DeclTree-F, Expr-F}
use Rattle.cf_elab.specs.Declarator.{parameter_step}
use Rattle.cf_elab.specs.Statement.{expression_row, return_row}
use Rattle.cf_elab.proofs.Words.{step, tree, word, name_at, unnamed, plain, function, declared_item, elaborates, refusal}

-- int x;int main(){return *x;}
indirection_of_an_int :
    refusal (elaborates ((declared_item 0 ((word (specifier.Basic 0 basic.Int)) ∷ []) ((plain 4 (tree (DeclTree-F.Declared (name_at 4 (codes "x"))))) ∷ []))
    ∷ (function ((word (specifier.Basic 6 basic.Int)) ∷ []) 10 (tree (DeclTree-F.Function 14 (tree (DeclTree-F.Declared (name_at 10 (codes "main")))) [] false)) 16 ((return_row 17 (Some (step (Expr-F.Prefix 24 prefix.Dereference (step (Expr-F.Named (name_at 25 (codes "x")))))))) ∷ [])) ∷ []))
    ≡ Some (18, 24)
indirection_of_an_int = refl

-- void*v;int main(){*v;return 0;}
indirection_of_a_void_pointer :
    refusal (elaborates ((declared_item 0 ((word (specifier.Basic 0 basic.Void)) ∷ []) ((plain 4 (tree (DeclTree-F.Pointed (pointer.To 4 false) (tree (DeclTree-F.Declared (name_at 5 (codes "v"))))))) ∷ []))
    ∷ (function ((word (specifier.Basic 7 basic.Int)) ∷ []) 11 (tree (DeclTree-F.Function 15 (tree (DeclTree-F.Declared (name_at 11 (codes "main")))) [] false)) 17 ((expression_row 18 (step (Expr-F.Prefix 18 prefix.Dereference (step (Expr-F.Named (name_at 19 (codes "v"))))))) ∷ (return_row 21 (Some (step (Expr-F.Int 28 0 kind.Int)))) ∷ [])) ∷ []))
    ≡ Some (18, 18)
indirection_of_a_void_pointer = refl

-- int f();int main(){return (*f)();}
indirection_of_a_function :
    refusal (elaborates ((declared_item 0 ((word (specifier.Basic 0 basic.Int)) ∷ []) ((plain 4 (tree (DeclTree-F.Function 5 (tree (DeclTree-F.Declared (name_at 4 (codes "f")))) [] false))) ∷ []))
    ∷ (function ((word (specifier.Basic 8 basic.Int)) ∷ []) 12 (tree (DeclTree-F.Function 16 (tree (DeclTree-F.Declared (name_at 12 (codes "main")))) [] false)) 18 ((return_row 19 (Some (step (Expr-F.Call 30 (step (Expr-F.Paren 26 (step (Expr-F.Prefix 27 prefix.Dereference (step (Expr-F.Named (name_at 28 (codes "f")))))))) [])))) ∷ [])) ∷ []))
    ≡ None
indirection_of_a_function = refl

-- int main(){&1;return 0;}
address_of_a_number :
    refusal (elaborates ((function ((word (specifier.Basic 0 basic.Int)) ∷ []) 4 (tree (DeclTree-F.Function 8 (tree (DeclTree-F.Declared (name_at 4 (codes "main")))) [] false)) 10 ((expression_row 11 (step (Expr-F.Prefix 11 prefix.AddressOf (step (Expr-F.Int 12 1 kind.Int))))) ∷ (return_row 14 (Some (step (Expr-F.Int 21 0 kind.Int)))) ∷ [])) ∷ []))
    ≡ Some (12, 11)
address_of_a_number = refl

-- int x;int main(){&(x+1);return 0;}
address_of_a_sum :
    refusal (elaborates ((declared_item 0 ((word (specifier.Basic 0 basic.Int)) ∷ []) ((plain 4 (tree (DeclTree-F.Declared (name_at 4 (codes "x"))))) ∷ []))
    ∷ (function ((word (specifier.Basic 6 basic.Int)) ∷ []) 10 (tree (DeclTree-F.Function 14 (tree (DeclTree-F.Declared (name_at 10 (codes "main")))) [] false)) 16 ((expression_row 17 (step (Expr-F.Prefix 17 prefix.AddressOf (step (Expr-F.Paren 18 (step (Expr-F.Binary 20 binary.Add (step (Expr-F.Named (name_at 19 (codes "x")))) (step (Expr-F.Int 21 1 kind.Int))))))))) ∷ (return_row 24 (Some (step (Expr-F.Int 31 0 kind.Int)))) ∷ [])) ∷ []))
    ≡ Some (12, 17)
address_of_a_sum = refl

-- int x;int main(){& &x;return 0;}
address_of_an_address :
    refusal (elaborates ((declared_item 0 ((word (specifier.Basic 0 basic.Int)) ∷ []) ((plain 4 (tree (DeclTree-F.Declared (name_at 4 (codes "x"))))) ∷ []))
    ∷ (function ((word (specifier.Basic 6 basic.Int)) ∷ []) 10 (tree (DeclTree-F.Function 14 (tree (DeclTree-F.Declared (name_at 10 (codes "main")))) [] false)) 16 ((expression_row 17 (step (Expr-F.Prefix 17 prefix.AddressOf (step (Expr-F.Prefix 19 prefix.AddressOf (step (Expr-F.Named (name_at 20 (codes "x"))))))))) ∷ (return_row 22 (Some (step (Expr-F.Int 29 0 kind.Int)))) ∷ [])) ∷ []))
    ≡ Some (12, 17)
address_of_an_address = refl

-- int x;int main(){&x++;return 0;}
address_of_a_step_after :
    refusal (elaborates ((declared_item 0 ((word (specifier.Basic 0 basic.Int)) ∷ []) ((plain 4 (tree (DeclTree-F.Declared (name_at 4 (codes "x"))))) ∷ []))
    ∷ (function ((word (specifier.Basic 6 basic.Int)) ∷ []) 10 (tree (DeclTree-F.Function 14 (tree (DeclTree-F.Declared (name_at 10 (codes "main")))) [] false)) 16 ((expression_row 17 (step (Expr-F.Prefix 17 prefix.AddressOf (step (Expr-F.StepAfter 19 op.Increment (step (Expr-F.Named (name_at 18 (codes "x"))))))))) ∷ (return_row 22 (Some (step (Expr-F.Int 29 0 kind.Int)))) ∷ [])) ∷ []))
    ≡ Some (12, 17)
address_of_a_step_after = refl

-- void f(int);void f(long);int main(){&f;return 0;}
address_of_an_overloaded_name :
    refusal (elaborates ((declared_item 0 ((word (specifier.Basic 0 basic.Void)) ∷ []) ((plain 5 (tree (DeclTree-F.Function 6 (tree (DeclTree-F.Declared (name_at 5 (codes "f")))) ((parameter_step (record { at = 7; specifiers = (specifier.Basic 7 basic.Int) ∷ []; declarator = unnamed; default = None })) ∷ []) false))) ∷ []))
    ∷ (declared_item 12 ((word (specifier.Basic 12 basic.Void)) ∷ []) ((plain 17 (tree (DeclTree-F.Function 18 (tree (DeclTree-F.Declared (name_at 17 (codes "f")))) ((parameter_step (record { at = 19; specifiers = (specifier.Basic 19 basic.Long) ∷ []; declarator = unnamed; default = None })) ∷ []) false))) ∷ []))
    ∷ (function ((word (specifier.Basic 25 basic.Int)) ∷ []) 29 (tree (DeclTree-F.Function 33 (tree (DeclTree-F.Declared (name_at 29 (codes "main")))) [] false)) 35 ((expression_row 36 (step (Expr-F.Prefix 36 prefix.AddressOf (step (Expr-F.Named (name_at 37 (codes "f"))))))) ∷ (return_row 39 (Some (step (Expr-F.Int 46 0 kind.Int)))) ∷ [])) ∷ []))
    ≡ Some (46, 37)
address_of_an_overloaded_name = refl

-- int*p;int main(){-p;return 0;}
minus_of_a_pointer :
    refusal (elaborates ((declared_item 0 ((word (specifier.Basic 0 basic.Int)) ∷ []) ((plain 3 (tree (DeclTree-F.Pointed (pointer.To 3 false) (tree (DeclTree-F.Declared (name_at 4 (codes "p"))))))) ∷ []))
    ∷ (function ((word (specifier.Basic 6 basic.Int)) ∷ []) 10 (tree (DeclTree-F.Function 14 (tree (DeclTree-F.Declared (name_at 10 (codes "main")))) [] false)) 16 ((expression_row 17 (step (Expr-F.Prefix 17 prefix.Minus (step (Expr-F.Named (name_at 18 (codes "p"))))))) ∷ (return_row 20 (Some (step (Expr-F.Int 27 0 kind.Int)))) ∷ [])) ∷ []))
    ≡ Some (18, 17)
minus_of_a_pointer = refl

-- int*p;int main(){~p;return 0;}
complement_of_a_pointer :
    refusal (elaborates ((declared_item 0 ((word (specifier.Basic 0 basic.Int)) ∷ []) ((plain 3 (tree (DeclTree-F.Pointed (pointer.To 3 false) (tree (DeclTree-F.Declared (name_at 4 (codes "p"))))))) ∷ []))
    ∷ (function ((word (specifier.Basic 6 basic.Int)) ∷ []) 10 (tree (DeclTree-F.Function 14 (tree (DeclTree-F.Declared (name_at 10 (codes "main")))) [] false)) 16 ((expression_row 17 (step (Expr-F.Prefix 17 prefix.Complement (step (Expr-F.Named (name_at 18 (codes "p"))))))) ∷ (return_row 20 (Some (step (Expr-F.Int 27 0 kind.Int)))) ∷ [])) ∷ []))
    ≡ Some (18, 17)
complement_of_a_pointer = refl

-- int*p;int main(){return +p==p;}
plus_of_a_pointer :
    refusal (elaborates ((declared_item 0 ((word (specifier.Basic 0 basic.Int)) ∷ []) ((plain 3 (tree (DeclTree-F.Pointed (pointer.To 3 false) (tree (DeclTree-F.Declared (name_at 4 (codes "p"))))))) ∷ []))
    ∷ (function ((word (specifier.Basic 6 basic.Int)) ∷ []) 10 (tree (DeclTree-F.Function 14 (tree (DeclTree-F.Declared (name_at 10 (codes "main")))) [] false)) 16 ((return_row 17 (Some (step (Expr-F.Binary 26 binary.Equal (step (Expr-F.Prefix 24 prefix.Plus (step (Expr-F.Named (name_at 25 (codes "p")))))) (step (Expr-F.Named (name_at 28 (codes "p")))))))) ∷ [])) ∷ []))
    ≡ None
plus_of_a_pointer = refl

-- int*p;int main(){return !p;}
not_of_a_pointer :
    refusal (elaborates ((declared_item 0 ((word (specifier.Basic 0 basic.Int)) ∷ []) ((plain 3 (tree (DeclTree-F.Pointed (pointer.To 3 false) (tree (DeclTree-F.Declared (name_at 4 (codes "p"))))))) ∷ []))
    ∷ (function ((word (specifier.Basic 6 basic.Int)) ∷ []) 10 (tree (DeclTree-F.Function 14 (tree (DeclTree-F.Declared (name_at 10 (codes "main")))) [] false)) 16 ((return_row 17 (Some (step (Expr-F.Prefix 24 prefix.Not (step (Expr-F.Named (name_at 25 (codes "p")))))))) ∷ [])) ∷ []))
    ≡ None
not_of_a_pointer = refl

-- void f();int main(){!f();return 0;}
not_of_nothing :
    refusal (elaborates ((declared_item 0 ((word (specifier.Basic 0 basic.Void)) ∷ []) ((plain 5 (tree (DeclTree-F.Function 6 (tree (DeclTree-F.Declared (name_at 5 (codes "f")))) [] false))) ∷ []))
    ∷ (function ((word (specifier.Basic 9 basic.Int)) ∷ []) 13 (tree (DeclTree-F.Function 17 (tree (DeclTree-F.Declared (name_at 13 (codes "main")))) [] false)) 19 ((expression_row 20 (step (Expr-F.Prefix 20 prefix.Not (step (Expr-F.Call 22 (step (Expr-F.Named (name_at 21 (codes "f")))) []))))) ∷ (return_row 25 (Some (step (Expr-F.Int 32 0 kind.Int)))) ∷ [])) ∷ []))
    ≡ Some (18, 20)
not_of_nothing = refl

-- void f();int main(){+f();return 0;}
plus_of_nothing :
    refusal (elaborates ((declared_item 0 ((word (specifier.Basic 0 basic.Void)) ∷ []) ((plain 5 (tree (DeclTree-F.Function 6 (tree (DeclTree-F.Declared (name_at 5 (codes "f")))) [] false))) ∷ []))
    ∷ (function ((word (specifier.Basic 9 basic.Int)) ∷ []) 13 (tree (DeclTree-F.Function 17 (tree (DeclTree-F.Declared (name_at 13 (codes "main")))) [] false)) 19 ((expression_row 20 (step (Expr-F.Prefix 20 prefix.Plus (step (Expr-F.Call 22 (step (Expr-F.Named (name_at 21 (codes "f")))) []))))) ∷ (return_row 25 (Some (step (Expr-F.Int 32 0 kind.Int)))) ∷ [])) ∷ []))
    ≡ Some (18, 20)
plus_of_nothing = refl

-- void f();int main(){-f();return 0;}
minus_of_nothing :
    refusal (elaborates ((declared_item 0 ((word (specifier.Basic 0 basic.Void)) ∷ []) ((plain 5 (tree (DeclTree-F.Function 6 (tree (DeclTree-F.Declared (name_at 5 (codes "f")))) [] false))) ∷ []))
    ∷ (function ((word (specifier.Basic 9 basic.Int)) ∷ []) 13 (tree (DeclTree-F.Function 17 (tree (DeclTree-F.Declared (name_at 13 (codes "main")))) [] false)) 19 ((expression_row 20 (step (Expr-F.Prefix 20 prefix.Minus (step (Expr-F.Call 22 (step (Expr-F.Named (name_at 21 (codes "f")))) []))))) ∷ (return_row 25 (Some (step (Expr-F.Int 32 0 kind.Int)))) ∷ [])) ∷ []))
    ≡ Some (18, 20)
minus_of_nothing = refl

-- int f();int main(){-f;return 0;}
minus_of_a_function :
    refusal (elaborates ((declared_item 0 ((word (specifier.Basic 0 basic.Int)) ∷ []) ((plain 4 (tree (DeclTree-F.Function 5 (tree (DeclTree-F.Declared (name_at 4 (codes "f")))) [] false))) ∷ []))
    ∷ (function ((word (specifier.Basic 8 basic.Int)) ∷ []) 12 (tree (DeclTree-F.Function 16 (tree (DeclTree-F.Declared (name_at 12 (codes "main")))) [] false)) 18 ((expression_row 19 (step (Expr-F.Prefix 19 prefix.Minus (step (Expr-F.Named (name_at 20 (codes "f"))))))) ∷ (return_row 22 (Some (step (Expr-F.Int 29 0 kind.Int)))) ∷ [])) ∷ []))
    ≡ Some (18, 19)
minus_of_a_function = refl

-- int main(){return ~x;}
operand_before_its_type :
    refusal (elaborates ((function ((word (specifier.Basic 0 basic.Int)) ∷ []) 4 (tree (DeclTree-F.Function 8 (tree (DeclTree-F.Declared (name_at 4 (codes "main")))) [] false)) 10 ((return_row 11 (Some (step (Expr-F.Prefix 18 prefix.Complement (step (Expr-F.Named (name_at 19 (codes "x")))))))) ∷ [])) ∷ []))
    ≡ Some (10, 19)
operand_before_its_type = refl
