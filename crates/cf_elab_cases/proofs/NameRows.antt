-- Names and `this` (3.2, 3.4, 5.1).
use Rattle.std.proofs.Common.{◌≡◌, [], ◌∷◌, refl}
use Rattle.std.specs.Prelude.{true, false, Some, None, codes}
use Rattle.std.specs.Fmt.{digits}
use Rattle.cf_base.specs.declared.kind.Kind.TheVariants as kind
use Rattle.cf_syntax.specs.declared.name.Last.TheVariants as last
use Rattle.cf_syntax.specs.declared.operator.AssignOp.TheVariants as assign
use Rattle.cf_syntax.specs.declared.operator.BinaryOp.TheVariants as binary
use Rattle.cf_syntax.specs.declared.operator.PrefixOp.TheVariants as prefix
use Rattle.cf_syntax.specs.declared.specifier.BasicType.TheVariants as basic
use Rattle.cf_syntax.specs.declared.specifier.Pointer.TheVariants as pointer
use Rattle.cf_syntax.specs.declared.specifier.TypeSpecifier.TheVariants as specifier
use Rattle.cf_syntax.specs.declared.declarator.DeclTree.TheOpen.{DeclTree-F, Expr-F}
use Rattle.cf_elab.specs.Declarator.{parameter_step}
use Rattle.cf_elab.specs.Statement.{expression_row, return_row}
use Rattle.cf_elab.proofs.Words.{step, tree, word, name_at, enumeration, unnamed, plain, with_value, local, function, declared_item, elaborates, refusal}

-- int main(){return x;}
undeclared :
    refusal (elaborates ((function ((word (specifier.Basic 0 basic.Int)) ∷ []) 4 (tree (DeclTree-F.Function 8 (tree (DeclTree-F.Declared (name_at 4 (codes "main")))) [] false)) 10 ((return_row 11 (Some (step (Expr-F.Named (name_at 18 (codes "x")))))) ∷ [])) ∷ []))
    ≡ Some (10, 18)
undeclared = refl

-- int main(){x=1;}
undeclared_before_it_is_changed :
    refusal (elaborates ((function ((word (specifier.Basic 0 basic.Int)) ∷ []) 4 (tree (DeclTree-F.Function 8 (tree (DeclTree-F.Declared (name_at 4 (codes "main")))) [] false)) 10 ((expression_row 11 (step (Expr-F.Assign 12 assign.Assign (step (Expr-F.Named (name_at 11 (codes "x")))) (step (Expr-F.Int 13 1 kind.Int))))) ∷ [])) ∷ []))
    ≡ Some (10, 11)
undeclared_before_it_is_changed = refl

-- int main(){int x=1;return ::x;}
undeclared_in_the_file :
    refusal (elaborates ((function ((word (specifier.Basic 0 basic.Int)) ∷ []) 4 (tree (DeclTree-F.Function 8 (tree (DeclTree-F.Declared (name_at 4 (codes "main")))) [] false)) 10 ((local 11 ((word (specifier.Basic 11 basic.Int)) ∷ []) ((with_value 15 (tree (DeclTree-F.Declared (name_at 15 (codes "x")))) 16 17 (step (Expr-F.Int 17 1 kind.Int))) ∷ [])) ∷ (return_row 19 (Some (step (Expr-F.Named (record { at = 26; from_file = true; scopes = []; last_at = 28; last = last.Ident (codes "x") }))))) ∷ [])) ∷ []))
    ≡ Some (10, 28)
undeclared_in_the_file = refl

-- int main(){return f(1);}
undeclared_function :
    refusal (elaborates ((function ((word (specifier.Basic 0 basic.Int)) ∷ []) 4 (tree (DeclTree-F.Function 8 (tree (DeclTree-F.Declared (name_at 4 (codes "main")))) [] false)) 10 ((return_row 11 (Some (step (Expr-F.Call 19 (step (Expr-F.Named (name_at 18 (codes "f")))) ((step (Expr-F.Int 20 1 kind.Int)) ∷ []))))) ∷ [])) ∷ []))
    ≡ Some (10, 18)
undeclared_function = refl

-- int f(int);int main(){return f(g);}
undeclared_argument :
    refusal (elaborates ((declared_item 0 ((word (specifier.Basic 0 basic.Int)) ∷ []) ((plain 4 (tree (DeclTree-F.Function 5 (tree (DeclTree-F.Declared (name_at 4 (codes "f")))) ((parameter_step (record { at = 6; specifiers = (specifier.Basic 6 basic.Int) ∷ []; declarator = unnamed; default = None })) ∷ []) false))) ∷ []))
    ∷ (function ((word (specifier.Basic 11 basic.Int)) ∷ []) 15 (tree (DeclTree-F.Function 19 (tree (DeclTree-F.Declared (name_at 15 (codes "main")))) [] false)) 21 ((return_row 22 (Some (step (Expr-F.Call 30 (step (Expr-F.Named (name_at 29 (codes "f")))) ((step (Expr-F.Named (name_at 31 (codes "g")))) ∷ []))))) ∷ [])) ∷ []))
    ≡ Some (10, 31)
undeclared_argument = refl

-- int main(){return x+y;}
left_name_first :
    refusal (elaborates ((function ((word (specifier.Basic 0 basic.Int)) ∷ []) 4 (tree (DeclTree-F.Function 8 (tree (DeclTree-F.Declared (name_at 4 (codes "main")))) [] false)) 10 ((return_row 11 (Some (step (Expr-F.Binary 19 binary.Add (step (Expr-F.Named (name_at 18 (codes "x")))) (step (Expr-F.Named (name_at 20 (codes "y")))))))) ∷ [])) ∷ []))
    ≡ Some (10, 18)
left_name_first = refl

-- int x;int main(){return x(y);}
an_argument_before_what_is_called :
    refusal (elaborates ((declared_item 0 ((word (specifier.Basic 0 basic.Int)) ∷ []) ((plain 4 (tree (DeclTree-F.Declared (name_at 4 (codes "x"))))) ∷ []))
    ∷ (function ((word (specifier.Basic 6 basic.Int)) ∷ []) 10 (tree (DeclTree-F.Function 14 (tree (DeclTree-F.Declared (name_at 10 (codes "main")))) [] false)) 16 ((return_row 17 (Some (step (Expr-F.Call 25 (step (Expr-F.Named (name_at 24 (codes "x")))) ((step (Expr-F.Named (name_at 26 (codes "y")))) ∷ []))))) ∷ [])) ∷ []))
    ≡ Some (10, 26)
an_argument_before_what_is_called = refl

-- int main(){return main();}
main_is_called :
    refusal (elaborates ((function ((word (specifier.Basic 0 basic.Int)) ∷ []) 4 (tree (DeclTree-F.Function 8 (tree (DeclTree-F.Declared (name_at 4 (codes "main")))) [] false)) 10 ((return_row 11 (Some (step (Expr-F.Call 22 (step (Expr-F.Named (name_at 18 (codes "main")))) [])))) ∷ [])) ∷ []))
    ≡ Some (11, 18)
main_is_called = refl

-- int main(){int(*p)();p=&main;return 0;}
address_of_main :
    refusal (elaborates ((function ((word (specifier.Basic 0 basic.Int)) ∷ []) 4 (tree (DeclTree-F.Function 8 (tree (DeclTree-F.Declared (name_at 4 (codes "main")))) [] false)) 10 ((local 11 ((word (specifier.Basic 11 basic.Int)) ∷ []) ((plain 14 (tree (DeclTree-F.Function 18 (tree (DeclTree-F.Bracketed 14 (tree (DeclTree-F.Pointed (pointer.To 15 false) (tree (DeclTree-F.Declared (name_at 16 (codes "p")))))))) [] false))) ∷ [])) ∷ (expression_row 21 (step (Expr-F.Assign 22 assign.Assign (step (Expr-F.Named (name_at 21 (codes "p")))) (step (Expr-F.Prefix 23 prefix.AddressOf (step (Expr-F.Named (name_at 24 (codes "main"))))))))) ∷ (return_row 29 (Some (step (Expr-F.Int 36 0 kind.Int)))) ∷ [])) ∷ []))
    ≡ Some (11, 24)
address_of_main = refl

-- int main(){return main(x);}
main_before_a_name_behind_it :
    refusal (elaborates ((function ((word (specifier.Basic 0 basic.Int)) ∷ []) 4 (tree (DeclTree-F.Function 8 (tree (DeclTree-F.Declared (name_at 4 (codes "main")))) [] false)) 10 ((return_row 11 (Some (step (Expr-F.Call 22 (step (Expr-F.Named (name_at 18 (codes "main")))) ((step (Expr-F.Named (name_at 23 (codes "x")))) ∷ []))))) ∷ [])) ∷ []))
    ≡ Some (11, 18)
main_before_a_name_behind_it = refl

-- int main(){return x(main());}
a_name_before_main :
    refusal (elaborates ((function ((word (specifier.Basic 0 basic.Int)) ∷ []) 4 (tree (DeclTree-F.Function 8 (tree (DeclTree-F.Declared (name_at 4 (codes "main")))) [] false)) 10 ((return_row 11 (Some (step (Expr-F.Call 19 (step (Expr-F.Named (name_at 18 (codes "x")))) ((step (Expr-F.Call 24 (step (Expr-F.Named (name_at 20 (codes "main")))) [])) ∷ []))))) ∷ [])) ∷ []))
    ≡ Some (10, 18)
a_name_before_main = refl

-- void f(int);void f(long);int main(){return f==0;}
overloaded_name :
    refusal (elaborates ((declared_item 0 ((word (specifier.Basic 0 basic.Void)) ∷ []) ((plain 5 (tree (DeclTree-F.Function 6 (tree (DeclTree-F.Declared (name_at 5 (codes "f")))) ((parameter_step (record { at = 7; specifiers = (specifier.Basic 7 basic.Int) ∷ []; declarator = unnamed; default = None })) ∷ []) false))) ∷ []))
    ∷ (declared_item 12 ((word (specifier.Basic 12 basic.Void)) ∷ []) ((plain 17 (tree (DeclTree-F.Function 18 (tree (DeclTree-F.Declared (name_at 17 (codes "f")))) ((parameter_step (record { at = 19; specifiers = (specifier.Basic 19 basic.Long) ∷ []; declarator = unnamed; default = None })) ∷ []) false))) ∷ []))
    ∷ (function ((word (specifier.Basic 25 basic.Int)) ∷ []) 29 (tree (DeclTree-F.Function 33 (tree (DeclTree-F.Declared (name_at 29 (codes "main")))) [] false)) 35 ((return_row 36 (Some (step (Expr-F.Binary 44 binary.Equal (step (Expr-F.Named (name_at 43 (codes "f")))) (step (Expr-F.Int 46 0 kind.Int)))))) ∷ [])) ∷ []))
    ≡ Some (46, 43)
overloaded_name = refl

-- void f(int);void f(long);int main(){return f==x;}
names_before_an_overloaded_name :
    refusal (elaborates ((declared_item 0 ((word (specifier.Basic 0 basic.Void)) ∷ []) ((plain 5 (tree (DeclTree-F.Function 6 (tree (DeclTree-F.Declared (name_at 5 (codes "f")))) ((parameter_step (record { at = 7; specifiers = (specifier.Basic 7 basic.Int) ∷ []; declarator = unnamed; default = None })) ∷ []) false))) ∷ []))
    ∷ (declared_item 12 ((word (specifier.Basic 12 basic.Void)) ∷ []) ((plain 17 (tree (DeclTree-F.Function 18 (tree (DeclTree-F.Declared (name_at 17 (codes "f")))) ((parameter_step (record { at = 19; specifiers = (specifier.Basic 19 basic.Long) ∷ []; declarator = unnamed; default = None })) ∷ []) false))) ∷ []))
    ∷ (function ((word (specifier.Basic 25 basic.Int)) ∷ []) 29 (tree (DeclTree-F.Function 33 (tree (DeclTree-F.Declared (name_at 29 (codes "main")))) [] false)) 35 ((return_row 36 (Some (step (Expr-F.Binary 44 binary.Equal (step (Expr-F.Named (name_at 43 (codes "f")))) (step (Expr-F.Named (name_at 46 (codes "x")))))))) ∷ [])) ∷ []))
    ≡ Some (10, 46)
names_before_an_overloaded_name = refl

-- void f(int);void f(long);void g(int);void g(long);int main(){return f==g;}
overloaded_name_on_the_left_first :
    refusal (elaborates ((declared_item 0 ((word (specifier.Basic 0 basic.Void)) ∷ []) ((plain 5 (tree (DeclTree-F.Function 6 (tree (DeclTree-F.Declared (name_at 5 (codes "f")))) ((parameter_step (record { at = 7; specifiers = (specifier.Basic 7 basic.Int) ∷ []; declarator = unnamed; default = None })) ∷ []) false))) ∷ []))
    ∷ (declared_item 12 ((word (specifier.Basic 12 basic.Void)) ∷ []) ((plain 17 (tree (DeclTree-F.Function 18 (tree (DeclTree-F.Declared (name_at 17 (codes "f")))) ((parameter_step (record { at = 19; specifiers = (specifier.Basic 19 basic.Long) ∷ []; declarator = unnamed; default = None })) ∷ []) false))) ∷ []))
    ∷ (declared_item 25 ((word (specifier.Basic 25 basic.Void)) ∷ []) ((plain 30 (tree (DeclTree-F.Function 31 (tree (DeclTree-F.Declared (name_at 30 (codes "g")))) ((parameter_step (record { at = 32; specifiers = (specifier.Basic 32 basic.Int) ∷ []; declarator = unnamed; default = None })) ∷ []) false))) ∷ []))
    ∷ (declared_item 37 ((word (specifier.Basic 37 basic.Void)) ∷ []) ((plain 42 (tree (DeclTree-F.Function 43 (tree (DeclTree-F.Declared (name_at 42 (codes "g")))) ((parameter_step (record { at = 44; specifiers = (specifier.Basic 44 basic.Long) ∷ []; declarator = unnamed; default = None })) ∷ []) false))) ∷ []))
    ∷ (function ((word (specifier.Basic 50 basic.Int)) ∷ []) 54 (tree (DeclTree-F.Function 58 (tree (DeclTree-F.Declared (name_at 54 (codes "main")))) [] false)) 60 ((return_row 61 (Some (step (Expr-F.Binary 69 binary.Equal (step (Expr-F.Named (name_at 68 (codes "f")))) (step (Expr-F.Named (name_at 71 (codes "g")))))))) ∷ [])) ∷ []))
    ≡ Some (46, 68)
overloaded_name_on_the_left_first = refl

-- enum E{A};int main(){int x=A;return x;}
enumerator_and_a_local :
    refusal (elaborates ((declared_item 0 ((enumeration 0 (Some (5, (codes "E"))) ((record { at = 7; name = (codes "A"); value = None }) ∷ [])) ∷ []) [])
    ∷ (function ((word (specifier.Basic 10 basic.Int)) ∷ []) 14 (tree (DeclTree-F.Function 18 (tree (DeclTree-F.Declared (name_at 14 (codes "main")))) [] false)) 20 ((local 21 ((word (specifier.Basic 21 basic.Int)) ∷ []) ((with_value 25 (tree (DeclTree-F.Declared (name_at 25 (codes "x")))) 26 27 (step (Expr-F.Named (name_at 27 (codes "A"))))) ∷ [])) ∷ (return_row 29 (Some (step (Expr-F.Named (name_at 36 (codes "x")))))) ∷ [])) ∷ []))
    ≡ None
unfolding digits
enumerator_and_a_local = refl

-- int main(){return this!=0;}
this_in_a_function :
    refusal (elaborates ((function ((word (specifier.Basic 0 basic.Int)) ∷ []) 4 (tree (DeclTree-F.Function 8 (tree (DeclTree-F.Declared (name_at 4 (codes "main")))) [] false)) 10 ((return_row 11 (Some (step (Expr-F.Binary 22 binary.NotEqual (step (Expr-F.This 18)) (step (Expr-F.Int 24 0 kind.Int)))))) ∷ [])) ∷ []))
    ≡ Some (32, 18)
this_in_a_function = refl
