-- Calls (5.2.2, 13.2).
use Rattle.std.proofs.Common.{◌≡◌, [], ◌∷◌, refl}
use Rattle.std.specs.Prelude.{pos, false, Some, None, codes}
use Rattle.std.specs.Fmt.{digits}
use Rattle.cf_base.specs.declared.kind.Kind.TheVariants as kind
use Rattle.cf_syntax.specs.declared.specifier.BasicType.TheVariants as basic
use Rattle.cf_syntax.specs.declared.specifier.ClassKey.TheVariants as key
use Rattle.cf_syntax.specs.declared.specifier.Pointer.TheVariants as pointer
use Rattle.cf_syntax.specs.declared.specifier.TypeSpecifier.TheVariants as specifier
use Rattle.cf_syntax.specs.declared.declarator.DeclTree.TheOpen.{DeclTree-F, Expr-F}
use Rattle.cf_elab.specs.Declarator.{parameter_step}
use Rattle.cf_elab.specs.Statement.{expression_row, return_row}
use Rattle.cf_elab.proofs.Words.{step, tree, word, name_at, enumeration, unnamed, plain, with_value, local, function, declared_item, elaborates, refusal}

-- int x;int main(){return x();}
call_of_an_int :
    refusal (elaborates ((declared_item 0 ((word (specifier.Basic 0 basic.Int)) ∷ []) ((plain 4 (tree (DeclTree-F.Declared (name_at 4 (codes "x"))))) ∷ []))
    ∷ (function ((word (specifier.Basic 6 basic.Int)) ∷ []) 10 (tree (DeclTree-F.Function 14 (tree (DeclTree-F.Declared (name_at 10 (codes "main")))) [] false)) 16 ((return_row 17 (Some (step (Expr-F.Call 25 (step (Expr-F.Named (name_at 24 (codes "x")))) [])))) ∷ [])) ∷ []))
    ≡ Some (18, 24)
call_of_an_int = refl

-- int main(){return 5();}
call_of_a_number :
    refusal (elaborates ((function ((word (specifier.Basic 0 basic.Int)) ∷ []) 4 (tree (DeclTree-F.Function 8 (tree (DeclTree-F.Declared (name_at 4 (codes "main")))) [] false)) 10 ((return_row 11 (Some (step (Expr-F.Call 19 (step (Expr-F.Int 18 5 kind.Int)) [])))) ∷ [])) ∷ []))
    ≡ Some (18, 19)
call_of_a_number = refl

-- int f();int main(){return f()();}
call_of_a_result :
    refusal (elaborates ((declared_item 0 ((word (specifier.Basic 0 basic.Int)) ∷ []) ((plain 4 (tree (DeclTree-F.Function 5 (tree (DeclTree-F.Declared (name_at 4 (codes "f")))) [] false))) ∷ []))
    ∷ (function ((word (specifier.Basic 8 basic.Int)) ∷ []) 12 (tree (DeclTree-F.Function 16 (tree (DeclTree-F.Declared (name_at 12 (codes "main")))) [] false)) 18 ((return_row 19 (Some (step (Expr-F.Call 29 (step (Expr-F.Call 27 (step (Expr-F.Named (name_at 26 (codes "f")))) [])) [])))) ∷ [])) ∷ []))
    ≡ Some (18, 29)
call_of_a_result = refl

-- int*p;int main(){return p();}
call_of_a_pointer_to_an_object :
    refusal (elaborates ((declared_item 0 ((word (specifier.Basic 0 basic.Int)) ∷ []) ((plain 3 (tree (DeclTree-F.Pointed (pointer.To 3 false) (tree (DeclTree-F.Declared (name_at 4 (codes "p"))))))) ∷ []))
    ∷ (function ((word (specifier.Basic 6 basic.Int)) ∷ []) 10 (tree (DeclTree-F.Function 14 (tree (DeclTree-F.Declared (name_at 10 (codes "main")))) [] false)) 16 ((return_row 17 (Some (step (Expr-F.Call 25 (step (Expr-F.Named (name_at 24 (codes "p")))) [])))) ∷ [])) ∷ []))
    ≡ Some (18, 24)
call_of_a_pointer_to_an_object = refl

-- int f(int);int main(){return f();}
too_few_arguments :
    refusal (elaborates ((declared_item 0 ((word (specifier.Basic 0 basic.Int)) ∷ []) ((plain 4 (tree (DeclTree-F.Function 5 (tree (DeclTree-F.Declared (name_at 4 (codes "f")))) ((parameter_step (record { at = 6; specifiers = (specifier.Basic 6 basic.Int) ∷ []; declarator = unnamed; default = None })) ∷ []) false))) ∷ []))
    ∷ (function ((word (specifier.Basic 11 basic.Int)) ∷ []) 15 (tree (DeclTree-F.Function 19 (tree (DeclTree-F.Declared (name_at 15 (codes "main")))) [] false)) 21 ((return_row 22 (Some (step (Expr-F.Call 30 (step (Expr-F.Named (name_at 29 (codes "f")))) [])))) ∷ [])) ∷ []))
    ≡ Some (15, 29)
too_few_arguments = refl

-- int f(int);int main(){return f(1,2);}
too_many_arguments :
    refusal (elaborates ((declared_item 0 ((word (specifier.Basic 0 basic.Int)) ∷ []) ((plain 4 (tree (DeclTree-F.Function 5 (tree (DeclTree-F.Declared (name_at 4 (codes "f")))) ((parameter_step (record { at = 6; specifiers = (specifier.Basic 6 basic.Int) ∷ []; declarator = unnamed; default = None })) ∷ []) false))) ∷ []))
    ∷ (function ((word (specifier.Basic 11 basic.Int)) ∷ []) 15 (tree (DeclTree-F.Function 19 (tree (DeclTree-F.Declared (name_at 15 (codes "main")))) [] false)) 21 ((return_row 22 (Some (step (Expr-F.Call 30 (step (Expr-F.Named (name_at 29 (codes "f")))) ((step (Expr-F.Int 31 1 kind.Int)) ∷ (step (Expr-F.Int 33 2 kind.Int)) ∷ []))))) ∷ [])) ∷ []))
    ≡ Some (15, 29)
too_many_arguments = refl

-- int f(int a,int b=2);int main(){return f();}
too_few_for_default_arguments :
    refusal (elaborates ((declared_item 0 ((word (specifier.Basic 0 basic.Int)) ∷ []) ((plain 4 (tree (DeclTree-F.Function 5 (tree (DeclTree-F.Declared (name_at 4 (codes "f")))) ((parameter_step (record { at = 6; specifiers = (specifier.Basic 6 basic.Int) ∷ []; declarator = tree (DeclTree-F.Declared (name_at 10 (codes "a"))); default = None })) ∷ (parameter_step (record { at = 12; specifiers = (specifier.Basic 12 basic.Int) ∷ []; declarator = tree (DeclTree-F.Declared (name_at 16 (codes "b"))); default = Some (17, step (Expr-F.Int 18 2 kind.Int)) })) ∷ []) false))) ∷ []))
    ∷ (function ((word (specifier.Basic 21 basic.Int)) ∷ []) 25 (tree (DeclTree-F.Function 29 (tree (DeclTree-F.Declared (name_at 25 (codes "main")))) [] false)) 31 ((return_row 32 (Some (step (Expr-F.Call 40 (step (Expr-F.Named (name_at 39 (codes "f")))) [])))) ∷ [])) ∷ []))
    ≡ Some (15, 39)
too_few_for_default_arguments = refl

-- int f(int a,int b=2);int main(){return f(1,2,3);}
too_many_for_default_arguments :
    refusal (elaborates ((declared_item 0 ((word (specifier.Basic 0 basic.Int)) ∷ []) ((plain 4 (tree (DeclTree-F.Function 5 (tree (DeclTree-F.Declared (name_at 4 (codes "f")))) ((parameter_step (record { at = 6; specifiers = (specifier.Basic 6 basic.Int) ∷ []; declarator = tree (DeclTree-F.Declared (name_at 10 (codes "a"))); default = None })) ∷ (parameter_step (record { at = 12; specifiers = (specifier.Basic 12 basic.Int) ∷ []; declarator = tree (DeclTree-F.Declared (name_at 16 (codes "b"))); default = Some (17, step (Expr-F.Int 18 2 kind.Int)) })) ∷ []) false))) ∷ []))
    ∷ (function ((word (specifier.Basic 21 basic.Int)) ∷ []) 25 (tree (DeclTree-F.Function 29 (tree (DeclTree-F.Declared (name_at 25 (codes "main")))) [] false)) 31 ((return_row 32 (Some (step (Expr-F.Call 40 (step (Expr-F.Named (name_at 39 (codes "f")))) ((step (Expr-F.Int 41 1 kind.Int)) ∷ (step (Expr-F.Int 43 2 kind.Int)) ∷ (step (Expr-F.Int 45 3 kind.Int)) ∷ []))))) ∷ [])) ∷ []))
    ≡ Some (15, 39)
too_many_for_default_arguments = refl

-- int f(int a,int b=2);int main(){return f(1);}
default_argument_is_taken :
    refusal (elaborates ((declared_item 0 ((word (specifier.Basic 0 basic.Int)) ∷ []) ((plain 4 (tree (DeclTree-F.Function 5 (tree (DeclTree-F.Declared (name_at 4 (codes "f")))) ((parameter_step (record { at = 6; specifiers = (specifier.Basic 6 basic.Int) ∷ []; declarator = tree (DeclTree-F.Declared (name_at 10 (codes "a"))); default = None })) ∷ (parameter_step (record { at = 12; specifiers = (specifier.Basic 12 basic.Int) ∷ []; declarator = tree (DeclTree-F.Declared (name_at 16 (codes "b"))); default = Some (17, step (Expr-F.Int 18 2 kind.Int)) })) ∷ []) false))) ∷ []))
    ∷ (function ((word (specifier.Basic 21 basic.Int)) ∷ []) 25 (tree (DeclTree-F.Function 29 (tree (DeclTree-F.Declared (name_at 25 (codes "main")))) [] false)) 31 ((return_row 32 (Some (step (Expr-F.Call 40 (step (Expr-F.Named (name_at 39 (codes "f")))) ((step (Expr-F.Int 41 1 kind.Int)) ∷ []))))) ∷ [])) ∷ []))
    ≡ None
default_argument_is_taken = refl

-- int f(int*);int main(){return f(1,2);}
count_before_fit :
    refusal (elaborates ((declared_item 0 ((word (specifier.Basic 0 basic.Int)) ∷ []) ((plain 4 (tree (DeclTree-F.Function 5 (tree (DeclTree-F.Declared (name_at 4 (codes "f")))) ((parameter_step (record { at = 6; specifiers = (specifier.Basic 6 basic.Int) ∷ []; declarator = tree (DeclTree-F.Pointed (pointer.To 9 false) unnamed); default = None })) ∷ []) false))) ∷ []))
    ∷ (function ((word (specifier.Basic 12 basic.Int)) ∷ []) 16 (tree (DeclTree-F.Function 20 (tree (DeclTree-F.Declared (name_at 16 (codes "main")))) [] false)) 22 ((return_row 23 (Some (step (Expr-F.Call 31 (step (Expr-F.Named (name_at 30 (codes "f")))) ((step (Expr-F.Int 32 1 kind.Int)) ∷ (step (Expr-F.Int 34 2 kind.Int)) ∷ []))))) ∷ [])) ∷ []))
    ≡ Some (15, 30)
count_before_fit = refl

-- int f(int*);int main(){return f(1);}
argument_that_does_not_fit :
    refusal (elaborates ((declared_item 0 ((word (specifier.Basic 0 basic.Int)) ∷ []) ((plain 4 (tree (DeclTree-F.Function 5 (tree (DeclTree-F.Declared (name_at 4 (codes "f")))) ((parameter_step (record { at = 6; specifiers = (specifier.Basic 6 basic.Int) ∷ []; declarator = tree (DeclTree-F.Pointed (pointer.To 9 false) unnamed); default = None })) ∷ []) false))) ∷ []))
    ∷ (function ((word (specifier.Basic 12 basic.Int)) ∷ []) 16 (tree (DeclTree-F.Function 20 (tree (DeclTree-F.Declared (name_at 16 (codes "main")))) [] false)) 22 ((return_row 23 (Some (step (Expr-F.Call 31 (step (Expr-F.Named (name_at 30 (codes "f")))) ((step (Expr-F.Int 32 1 kind.Int)) ∷ []))))) ∷ [])) ∷ []))
    ≡ Some (46, 30)
argument_that_does_not_fit = refl

-- int f(int*);int main(){return f(0);}
null_argument :
    refusal (elaborates ((declared_item 0 ((word (specifier.Basic 0 basic.Int)) ∷ []) ((plain 4 (tree (DeclTree-F.Function 5 (tree (DeclTree-F.Declared (name_at 4 (codes "f")))) ((parameter_step (record { at = 6; specifiers = (specifier.Basic 6 basic.Int) ∷ []; declarator = tree (DeclTree-F.Pointed (pointer.To 9 false) unnamed); default = None })) ∷ []) false))) ∷ []))
    ∷ (function ((word (specifier.Basic 12 basic.Int)) ∷ []) 16 (tree (DeclTree-F.Function 20 (tree (DeclTree-F.Declared (name_at 16 (codes "main")))) [] false)) 22 ((return_row 23 (Some (step (Expr-F.Call 31 (step (Expr-F.Named (name_at 30 (codes "f")))) ((step (Expr-F.Int 32 0 kind.Int)) ∷ []))))) ∷ [])) ∷ []))
    ≡ None
null_argument = refl

-- void g();int f(int);int main(){return f(g());}
void_argument :
    refusal (elaborates ((declared_item 0 ((word (specifier.Basic 0 basic.Void)) ∷ []) ((plain 5 (tree (DeclTree-F.Function 6 (tree (DeclTree-F.Declared (name_at 5 (codes "g")))) [] false))) ∷ []))
    ∷ (declared_item 9 ((word (specifier.Basic 9 basic.Int)) ∷ []) ((plain 13 (tree (DeclTree-F.Function 14 (tree (DeclTree-F.Declared (name_at 13 (codes "f")))) ((parameter_step (record { at = 15; specifiers = (specifier.Basic 15 basic.Int) ∷ []; declarator = unnamed; default = None })) ∷ []) false))) ∷ []))
    ∷ (function ((word (specifier.Basic 20 basic.Int)) ∷ []) 24 (tree (DeclTree-F.Function 28 (tree (DeclTree-F.Declared (name_at 24 (codes "main")))) [] false)) 30 ((return_row 31 (Some (step (Expr-F.Call 39 (step (Expr-F.Named (name_at 38 (codes "f")))) ((step (Expr-F.Call 41 (step (Expr-F.Named (name_at 40 (codes "g")))) [])) ∷ []))))) ∷ [])) ∷ []))
    ≡ Some (46, 38)
void_argument = refl

-- void f(long);void f(char*);int main(){f(0);return 0;}
tie_of_two_conversions :
    refusal (elaborates ((declared_item 0 ((word (specifier.Basic 0 basic.Void)) ∷ []) ((plain 5 (tree (DeclTree-F.Function 6 (tree (DeclTree-F.Declared (name_at 5 (codes "f")))) ((parameter_step (record { at = 7; specifiers = (specifier.Basic 7 basic.Long) ∷ []; declarator = unnamed; default = None })) ∷ []) false))) ∷ []))
    ∷ (declared_item 13 ((word (specifier.Basic 13 basic.Void)) ∷ []) ((plain 18 (tree (DeclTree-F.Function 19 (tree (DeclTree-F.Declared (name_at 18 (codes "f")))) ((parameter_step (record { at = 20; specifiers = (specifier.Basic 20 basic.Char) ∷ []; declarator = tree (DeclTree-F.Pointed (pointer.To 24 false) unnamed); default = None })) ∷ []) false))) ∷ []))
    ∷ (function ((word (specifier.Basic 27 basic.Int)) ∷ []) 31 (tree (DeclTree-F.Function 35 (tree (DeclTree-F.Declared (name_at 31 (codes "main")))) [] false)) 37 ((expression_row 38 (step (Expr-F.Call 39 (step (Expr-F.Named (name_at 38 (codes "f")))) ((step (Expr-F.Int 40 0 kind.Int)) ∷ [])))) ∷ (return_row 43 (Some (step (Expr-F.Int 50 0 kind.Int)))) ∷ [])) ∷ []))
    ≡ Some (46, 38)
tie_of_two_conversions = refl

-- void f(int,long);void f(long,int);int main(){f(1,1);return 0;}
empty_intersection :
    refusal (elaborates ((declared_item 0 ((word (specifier.Basic 0 basic.Void)) ∷ []) ((plain 5 (tree (DeclTree-F.Function 6 (tree (DeclTree-F.Declared (name_at 5 (codes "f")))) ((parameter_step (record { at = 7; specifiers = (specifier.Basic 7 basic.Int) ∷ []; declarator = unnamed; default = None })) ∷ (parameter_step (record { at = 11; specifiers = (specifier.Basic 11 basic.Long) ∷ []; declarator = unnamed; default = None })) ∷ []) false))) ∷ []))
    ∷ (declared_item 17 ((word (specifier.Basic 17 basic.Void)) ∷ []) ((plain 22 (tree (DeclTree-F.Function 23 (tree (DeclTree-F.Declared (name_at 22 (codes "f")))) ((parameter_step (record { at = 24; specifiers = (specifier.Basic 24 basic.Long) ∷ []; declarator = unnamed; default = None })) ∷ (parameter_step (record { at = 29; specifiers = (specifier.Basic 29 basic.Int) ∷ []; declarator = unnamed; default = None })) ∷ []) false))) ∷ []))
    ∷ (function ((word (specifier.Basic 34 basic.Int)) ∷ []) 38 (tree (DeclTree-F.Function 42 (tree (DeclTree-F.Declared (name_at 38 (codes "main")))) [] false)) 44 ((expression_row 45 (step (Expr-F.Call 46 (step (Expr-F.Named (name_at 45 (codes "f")))) ((step (Expr-F.Int 47 1 kind.Int)) ∷ (step (Expr-F.Int 49 1 kind.Int)) ∷ [])))) ∷ (return_row 52 (Some (step (Expr-F.Int 59 0 kind.Int)))) ∷ [])) ∷ []))
    ≡ Some (46, 45)
empty_intersection = refl

-- void f(int);void f(long);int main(){f(1,1);return 0;}
no_count_of_two :
    refusal (elaborates ((declared_item 0 ((word (specifier.Basic 0 basic.Void)) ∷ []) ((plain 5 (tree (DeclTree-F.Function 6 (tree (DeclTree-F.Declared (name_at 5 (codes "f")))) ((parameter_step (record { at = 7; specifiers = (specifier.Basic 7 basic.Int) ∷ []; declarator = unnamed; default = None })) ∷ []) false))) ∷ []))
    ∷ (declared_item 12 ((word (specifier.Basic 12 basic.Void)) ∷ []) ((plain 17 (tree (DeclTree-F.Function 18 (tree (DeclTree-F.Declared (name_at 17 (codes "f")))) ((parameter_step (record { at = 19; specifiers = (specifier.Basic 19 basic.Long) ∷ []; declarator = unnamed; default = None })) ∷ []) false))) ∷ []))
    ∷ (function ((word (specifier.Basic 25 basic.Int)) ∷ []) 29 (tree (DeclTree-F.Function 33 (tree (DeclTree-F.Declared (name_at 29 (codes "main")))) [] false)) 35 ((expression_row 36 (step (Expr-F.Call 37 (step (Expr-F.Named (name_at 36 (codes "f")))) ((step (Expr-F.Int 38 1 kind.Int)) ∷ (step (Expr-F.Int 40 1 kind.Int)) ∷ [])))) ∷ (return_row 43 (Some (step (Expr-F.Int 50 0 kind.Int)))) ∷ [])) ∷ []))
    ≡ Some (46, 36)
no_count_of_two = refl

-- void f(int);void f(long);int main(){f(1);f(1l);f('a');return 0;}
the_better_of_two :
    refusal (elaborates ((declared_item 0 ((word (specifier.Basic 0 basic.Void)) ∷ []) ((plain 5 (tree (DeclTree-F.Function 6 (tree (DeclTree-F.Declared (name_at 5 (codes "f")))) ((parameter_step (record { at = 7; specifiers = (specifier.Basic 7 basic.Int) ∷ []; declarator = unnamed; default = None })) ∷ []) false))) ∷ []))
    ∷ (declared_item 12 ((word (specifier.Basic 12 basic.Void)) ∷ []) ((plain 17 (tree (DeclTree-F.Function 18 (tree (DeclTree-F.Declared (name_at 17 (codes "f")))) ((parameter_step (record { at = 19; specifiers = (specifier.Basic 19 basic.Long) ∷ []; declarator = unnamed; default = None })) ∷ []) false))) ∷ []))
    ∷ (function ((word (specifier.Basic 25 basic.Int)) ∷ []) 29 (tree (DeclTree-F.Function 33 (tree (DeclTree-F.Declared (name_at 29 (codes "main")))) [] false)) 35 ((expression_row 36 (step (Expr-F.Call 37 (step (Expr-F.Named (name_at 36 (codes "f")))) ((step (Expr-F.Int 38 1 kind.Int)) ∷ [])))) ∷ (expression_row 41 (step (Expr-F.Call 42 (step (Expr-F.Named (name_at 41 (codes "f")))) ((step (Expr-F.Int 43 1 kind.Long)) ∷ [])))) ∷ (expression_row 47 (step (Expr-F.Call 48 (step (Expr-F.Named (name_at 47 (codes "f")))) ((step (Expr-F.Char 49 (pos 97))) ∷ [])))) ∷ (return_row 54 (Some (step (Expr-F.Int 61 0 kind.Int)))) ∷ [])) ∷ []))
    ≡ None
the_better_of_two = refl

-- enum E{A};void f(E);int main(){f(0);return 0;}
enumeration_takes_no_int :
    refusal (elaborates ((declared_item 0 ((enumeration 0 (Some (5, (codes "E"))) ((record { at = 7; name = (codes "A"); value = None }) ∷ [])) ∷ []) [])
    ∷ (declared_item 10 ((word (specifier.Basic 10 basic.Void)) ∷ []) ((plain 15 (tree (DeclTree-F.Function 16 (tree (DeclTree-F.Declared (name_at 15 (codes "f")))) ((parameter_step (record { at = 17; specifiers = (specifier.Named (record { at = 17; from_file = false; names = (codes "E") ∷ [] })) ∷ []; declarator = unnamed; default = None })) ∷ []) false))) ∷ []))
    ∷ (function ((word (specifier.Basic 20 basic.Int)) ∷ []) 24 (tree (DeclTree-F.Function 28 (tree (DeclTree-F.Declared (name_at 24 (codes "main")))) [] false)) 30 ((expression_row 31 (step (Expr-F.Call 32 (step (Expr-F.Named (name_at 31 (codes "f")))) ((step (Expr-F.Int 33 0 kind.Int)) ∷ [])))) ∷ (return_row 36 (Some (step (Expr-F.Int 43 0 kind.Int)))) ∷ [])) ∷ []))
    ≡ Some (46, 31)
unfolding digits
enumeration_takes_no_int = refl

-- void f(int&);int main(){f(1);return 0;}
reference_to_a_value :
    refusal (elaborates ((declared_item 0 ((word (specifier.Basic 0 basic.Void)) ∷ []) ((plain 5 (tree (DeclTree-F.Function 6 (tree (DeclTree-F.Declared (name_at 5 (codes "f")))) ((parameter_step (record { at = 7; specifiers = (specifier.Basic 7 basic.Int) ∷ []; declarator = tree (DeclTree-F.Pointed (pointer.Reference 10) unnamed); default = None })) ∷ []) false))) ∷ []))
    ∷ (function ((word (specifier.Basic 13 basic.Int)) ∷ []) 17 (tree (DeclTree-F.Function 21 (tree (DeclTree-F.Declared (name_at 17 (codes "main")))) [] false)) 23 ((expression_row 24 (step (Expr-F.Call 25 (step (Expr-F.Named (name_at 24 (codes "f")))) ((step (Expr-F.Int 26 1 kind.Int)) ∷ [])))) ∷ (return_row 29 (Some (step (Expr-F.Int 36 0 kind.Int)))) ∷ [])) ∷ []))
    ≡ Some (46, 24)
reference_to_a_value = refl

-- void f(int&);const int c=1;int main(){f(c);return 0;}
reference_to_a_const_object :
    refusal (elaborates ((declared_item 0 ((word (specifier.Basic 0 basic.Void)) ∷ []) ((plain 5 (tree (DeclTree-F.Function 6 (tree (DeclTree-F.Declared (name_at 5 (codes "f")))) ((parameter_step (record { at = 7; specifiers = (specifier.Basic 7 basic.Int) ∷ []; declarator = tree (DeclTree-F.Pointed (pointer.Reference 10) unnamed); default = None })) ∷ []) false))) ∷ []))
    ∷ (declared_item 13 ((word (specifier.Const 13)) ∷ (word (specifier.Basic 19 basic.Int)) ∷ []) ((with_value 23 (tree (DeclTree-F.Declared (name_at 23 (codes "c")))) 24 25 (step (Expr-F.Int 25 1 kind.Int))) ∷ []))
    ∷ (function ((word (specifier.Basic 27 basic.Int)) ∷ []) 31 (tree (DeclTree-F.Function 35 (tree (DeclTree-F.Declared (name_at 31 (codes "main")))) [] false)) 37 ((expression_row 38 (step (Expr-F.Call 39 (step (Expr-F.Named (name_at 38 (codes "f")))) ((step (Expr-F.Named (name_at 40 (codes "c")))) ∷ [])))) ∷ (return_row 43 (Some (step (Expr-F.Int 50 0 kind.Int)))) ∷ [])) ∷ []))
    ≡ Some (46, 38)
reference_to_a_const_object = refl

-- void f(const int&);int main(){f(1);return 0;}
reference_to_const_takes_a_value :
    refusal (elaborates ((declared_item 0 ((word (specifier.Basic 0 basic.Void)) ∷ []) ((plain 5 (tree (DeclTree-F.Function 6 (tree (DeclTree-F.Declared (name_at 5 (codes "f")))) ((parameter_step (record { at = 7; specifiers = (specifier.Const 7) ∷ (specifier.Basic 13 basic.Int) ∷ []; declarator = tree (DeclTree-F.Pointed (pointer.Reference 16) unnamed); default = None })) ∷ []) false))) ∷ []))
    ∷ (function ((word (specifier.Basic 19 basic.Int)) ∷ []) 23 (tree (DeclTree-F.Function 27 (tree (DeclTree-F.Declared (name_at 23 (codes "main")))) [] false)) 29 ((expression_row 30 (step (Expr-F.Call 31 (step (Expr-F.Named (name_at 30 (codes "f")))) ((step (Expr-F.Int 32 1 kind.Int)) ∷ [])))) ∷ (return_row 35 (Some (step (Expr-F.Int 42 0 kind.Int)))) ∷ [])) ∷ []))
    ≡ None
reference_to_const_takes_a_value = refl

-- void f(long&);int x;int main(){f(x);return 0;}
reference_to_another_type :
    refusal (elaborates ((declared_item 0 ((word (specifier.Basic 0 basic.Void)) ∷ []) ((plain 5 (tree (DeclTree-F.Function 6 (tree (DeclTree-F.Declared (name_at 5 (codes "f")))) ((parameter_step (record { at = 7; specifiers = (specifier.Basic 7 basic.Long) ∷ []; declarator = tree (DeclTree-F.Pointed (pointer.Reference 11) unnamed); default = None })) ∷ []) false))) ∷ []))
    ∷ (declared_item 14 ((word (specifier.Basic 14 basic.Int)) ∷ []) ((plain 18 (tree (DeclTree-F.Declared (name_at 18 (codes "x"))))) ∷ []))
    ∷ (function ((word (specifier.Basic 20 basic.Int)) ∷ []) 24 (tree (DeclTree-F.Function 28 (tree (DeclTree-F.Declared (name_at 24 (codes "main")))) [] false)) 30 ((expression_row 31 (step (Expr-F.Call 32 (step (Expr-F.Named (name_at 31 (codes "f")))) ((step (Expr-F.Named (name_at 33 (codes "x")))) ∷ [])))) ∷ (return_row 36 (Some (step (Expr-F.Int 43 0 kind.Int)))) ∷ [])) ∷ []))
    ≡ Some (46, 31)
reference_to_another_type = refl

-- int(*p)(int);int main(){return p();}
too_few_through_a_pointer :
    refusal (elaborates ((declared_item 0 ((word (specifier.Basic 0 basic.Int)) ∷ []) ((plain 3 (tree (DeclTree-F.Function 7 (tree (DeclTree-F.Bracketed 3 (tree (DeclTree-F.Pointed (pointer.To 4 false) (tree (DeclTree-F.Declared (name_at 5 (codes "p")))))))) ((parameter_step (record { at = 8; specifiers = (specifier.Basic 8 basic.Int) ∷ []; declarator = unnamed; default = None })) ∷ []) false))) ∷ []))
    ∷ (function ((word (specifier.Basic 13 basic.Int)) ∷ []) 17 (tree (DeclTree-F.Function 21 (tree (DeclTree-F.Declared (name_at 17 (codes "main")))) [] false)) 23 ((return_row 24 (Some (step (Expr-F.Call 32 (step (Expr-F.Named (name_at 31 (codes "p")))) [])))) ∷ [])) ∷ []))
    ≡ Some (15, 31)
too_few_through_a_pointer = refl

-- int(*p)(int*);int main(){return p(1);}
misfit_through_a_pointer :
    refusal (elaborates ((declared_item 0 ((word (specifier.Basic 0 basic.Int)) ∷ []) ((plain 3 (tree (DeclTree-F.Function 7 (tree (DeclTree-F.Bracketed 3 (tree (DeclTree-F.Pointed (pointer.To 4 false) (tree (DeclTree-F.Declared (name_at 5 (codes "p")))))))) ((parameter_step (record { at = 8; specifiers = (specifier.Basic 8 basic.Int) ∷ []; declarator = tree (DeclTree-F.Pointed (pointer.To 11 false) unnamed); default = None })) ∷ []) false))) ∷ []))
    ∷ (function ((word (specifier.Basic 14 basic.Int)) ∷ []) 18 (tree (DeclTree-F.Function 22 (tree (DeclTree-F.Declared (name_at 18 (codes "main")))) [] false)) 24 ((return_row 25 (Some (step (Expr-F.Call 33 (step (Expr-F.Named (name_at 32 (codes "p")))) ((step (Expr-F.Int 34 1 kind.Int)) ∷ []))))) ∷ [])) ∷ []))
    ≡ Some (46, 32)
misfit_through_a_pointer = refl

-- int(*p)(int*);int main(){return p(1,2);}
count_before_fit_through_a_pointer :
    refusal (elaborates ((declared_item 0 ((word (specifier.Basic 0 basic.Int)) ∷ []) ((plain 3 (tree (DeclTree-F.Function 7 (tree (DeclTree-F.Bracketed 3 (tree (DeclTree-F.Pointed (pointer.To 4 false) (tree (DeclTree-F.Declared (name_at 5 (codes "p")))))))) ((parameter_step (record { at = 8; specifiers = (specifier.Basic 8 basic.Int) ∷ []; declarator = tree (DeclTree-F.Pointed (pointer.To 11 false) unnamed); default = None })) ∷ []) false))) ∷ []))
    ∷ (function ((word (specifier.Basic 14 basic.Int)) ∷ []) 18 (tree (DeclTree-F.Function 22 (tree (DeclTree-F.Declared (name_at 18 (codes "main")))) [] false)) 24 ((return_row 25 (Some (step (Expr-F.Call 33 (step (Expr-F.Named (name_at 32 (codes "p")))) ((step (Expr-F.Int 34 1 kind.Int)) ∷ (step (Expr-F.Int 36 2 kind.Int)) ∷ []))))) ∷ [])) ∷ []))
    ≡ Some (15, 32)
count_before_fit_through_a_pointer = refl

-- int f(int);int(&r)(int)=f;int main(){return r();}
too_few_through_a_reference :
    refusal (elaborates ((declared_item 0 ((word (specifier.Basic 0 basic.Int)) ∷ []) ((plain 4 (tree (DeclTree-F.Function 5 (tree (DeclTree-F.Declared (name_at 4 (codes "f")))) ((parameter_step (record { at = 6; specifiers = (specifier.Basic 6 basic.Int) ∷ []; declarator = unnamed; default = None })) ∷ []) false))) ∷ []))
    ∷ (declared_item 11 ((word (specifier.Basic 11 basic.Int)) ∷ []) ((with_value 14 (tree (DeclTree-F.Function 18 (tree (DeclTree-F.Bracketed 14 (tree (DeclTree-F.Pointed (pointer.Reference 15) (tree (DeclTree-F.Declared (name_at 16 (codes "r")))))))) ((parameter_step (record { at = 19; specifiers = (specifier.Basic 19 basic.Int) ∷ []; declarator = unnamed; default = None })) ∷ []) false)) 23 24 (step (Expr-F.Named (name_at 24 (codes "f"))))) ∷ []))
    ∷ (function ((word (specifier.Basic 26 basic.Int)) ∷ []) 30 (tree (DeclTree-F.Function 34 (tree (DeclTree-F.Declared (name_at 30 (codes "main")))) [] false)) 36 ((return_row 37 (Some (step (Expr-F.Call 45 (step (Expr-F.Named (name_at 44 (codes "r")))) [])))) ∷ [])) ∷ []))
    ≡ Some (15, 44)
too_few_through_a_reference = refl

-- int f(int a=1);int main(){int(*p)(int)=f;return p();}
no_default_argument_through_a_pointer :
    refusal (elaborates ((declared_item 0 ((word (specifier.Basic 0 basic.Int)) ∷ []) ((plain 4 (tree (DeclTree-F.Function 5 (tree (DeclTree-F.Declared (name_at 4 (codes "f")))) ((parameter_step (record { at = 6; specifiers = (specifier.Basic 6 basic.Int) ∷ []; declarator = tree (DeclTree-F.Declared (name_at 10 (codes "a"))); default = Some (11, step (Expr-F.Int 12 1 kind.Int)) })) ∷ []) false))) ∷ []))
    ∷ (function ((word (specifier.Basic 15 basic.Int)) ∷ []) 19 (tree (DeclTree-F.Function 23 (tree (DeclTree-F.Declared (name_at 19 (codes "main")))) [] false)) 25 ((local 26 ((word (specifier.Basic 26 basic.Int)) ∷ []) ((with_value 29 (tree (DeclTree-F.Function 33 (tree (DeclTree-F.Bracketed 29 (tree (DeclTree-F.Pointed (pointer.To 30 false) (tree (DeclTree-F.Declared (name_at 31 (codes "p")))))))) ((parameter_step (record { at = 34; specifiers = (specifier.Basic 34 basic.Int) ∷ []; declarator = unnamed; default = None })) ∷ []) false)) 38 39 (step (Expr-F.Named (name_at 39 (codes "f"))))) ∷ [])) ∷ (return_row 41 (Some (step (Expr-F.Call 49 (step (Expr-F.Named (name_at 48 (codes "p")))) [])))) ∷ [])) ∷ []))
    ≡ Some (15, 48)
no_default_argument_through_a_pointer = refl

-- struct A;A f();int main(){f();return 0;}
result_of_an_incomplete_class :
    refusal (elaborates ((declared_item 0 ((word (specifier.Elaborated 0 key.Struct (record { at = 7; from_file = false; names = (codes "A") ∷ [] }))) ∷ []) [])
    ∷ (declared_item 9 ((word (specifier.Named (record { at = 9; from_file = false; names = (codes "A") ∷ [] }))) ∷ []) ((plain 11 (tree (DeclTree-F.Function 12 (tree (DeclTree-F.Declared (name_at 11 (codes "f")))) [] false))) ∷ []))
    ∷ (function ((word (specifier.Basic 15 basic.Int)) ∷ []) 19 (tree (DeclTree-F.Function 23 (tree (DeclTree-F.Declared (name_at 19 (codes "main")))) [] false)) 25 ((expression_row 26 (step (Expr-F.Call 27 (step (Expr-F.Named (name_at 26 (codes "f")))) []))) ∷ (return_row 30 (Some (step (Expr-F.Int 37 0 kind.Int)))) ∷ [])) ∷ []))
    ≡ Some (30, 26)
unfolding digits
result_of_an_incomplete_class = refl

-- struct A;A f(int);int main(){f();return 0;}
count_before_the_result :
    refusal (elaborates ((declared_item 0 ((word (specifier.Elaborated 0 key.Struct (record { at = 7; from_file = false; names = (codes "A") ∷ [] }))) ∷ []) [])
    ∷ (declared_item 9 ((word (specifier.Named (record { at = 9; from_file = false; names = (codes "A") ∷ [] }))) ∷ []) ((plain 11 (tree (DeclTree-F.Function 12 (tree (DeclTree-F.Declared (name_at 11 (codes "f")))) ((parameter_step (record { at = 13; specifiers = (specifier.Basic 13 basic.Int) ∷ []; declarator = unnamed; default = None })) ∷ []) false))) ∷ []))
    ∷ (function ((word (specifier.Basic 18 basic.Int)) ∷ []) 22 (tree (DeclTree-F.Function 26 (tree (DeclTree-F.Declared (name_at 22 (codes "main")))) [] false)) 28 ((expression_row 29 (step (Expr-F.Call 30 (step (Expr-F.Named (name_at 29 (codes "f")))) []))) ∷ (return_row 33 (Some (step (Expr-F.Int 40 0 kind.Int)))) ∷ [])) ∷ []))
    ≡ Some (15, 29)
unfolding digits
count_before_the_result = refl

-- struct A;A f(int*);int main(){f(1);return 0;}
misfit_before_the_result :
    refusal (elaborates ((declared_item 0 ((word (specifier.Elaborated 0 key.Struct (record { at = 7; from_file = false; names = (codes "A") ∷ [] }))) ∷ []) [])
    ∷ (declared_item 9 ((word (specifier.Named (record { at = 9; from_file = false; names = (codes "A") ∷ [] }))) ∷ []) ((plain 11 (tree (DeclTree-F.Function 12 (tree (DeclTree-F.Declared (name_at 11 (codes "f")))) ((parameter_step (record { at = 13; specifiers = (specifier.Basic 13 basic.Int) ∷ []; declarator = tree (DeclTree-F.Pointed (pointer.To 16 false) unnamed); default = None })) ∷ []) false))) ∷ []))
    ∷ (function ((word (specifier.Basic 19 basic.Int)) ∷ []) 23 (tree (DeclTree-F.Function 27 (tree (DeclTree-F.Declared (name_at 23 (codes "main")))) [] false)) 29 ((expression_row 30 (step (Expr-F.Call 31 (step (Expr-F.Named (name_at 30 (codes "f")))) ((step (Expr-F.Int 32 1 kind.Int)) ∷ [])))) ∷ (return_row 35 (Some (step (Expr-F.Int 42 0 kind.Int)))) ∷ [])) ∷ []))
    ≡ Some (46, 30)
unfolding digits
misfit_before_the_result = refl

-- int f();int main(){return f(x);}
arguments_before_too_many :
    refusal (elaborates ((declared_item 0 ((word (specifier.Basic 0 basic.Int)) ∷ []) ((plain 4 (tree (DeclTree-F.Function 5 (tree (DeclTree-F.Declared (name_at 4 (codes "f")))) [] false))) ∷ []))
    ∷ (function ((word (specifier.Basic 8 basic.Int)) ∷ []) 12 (tree (DeclTree-F.Function 16 (tree (DeclTree-F.Declared (name_at 12 (codes "main")))) [] false)) 18 ((return_row 19 (Some (step (Expr-F.Call 27 (step (Expr-F.Named (name_at 26 (codes "f")))) ((step (Expr-F.Named (name_at 28 (codes "x")))) ∷ []))))) ∷ [])) ∷ []))
    ≡ Some (10, 28)
arguments_before_too_many = refl
