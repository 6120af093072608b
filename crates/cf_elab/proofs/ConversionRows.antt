-- Users' conversions, operators, pointers to members, and functions outside of their class.
use Rattle.std.proofs.Common.{◌≡◌, ℕ, List, [], ◌∷◌, refl}
use Rattle.std.specs.Prelude.{◌+◌, pos, true, false, Option, Some, None, codes}
use Rattle.std.specs.Fmt.{digits}
use Rattle.cf_syntax.specs.declared.declarator.DeclTree.TheOpen.{DeclTree-F, Expr-F}
use Rattle.cf_syntax.specs.declared.name.Last.TheVariants as last
use Rattle.cf_syntax.specs.declared.name.Name.{Name as WrittenName}
use Rattle.cf_syntax.specs.declared.operator.BinaryOp.TheVariants as binary
use Rattle.cf_syntax.specs.declared.operator.PrefixOp.TheVariants as op
use Rattle.cf_syntax.specs.declared.specifier.BasicType.TheVariants as basic
use Rattle.cf_syntax.specs.declared.specifier.Pointer.TheVariants as pointer
use Rattle.cf_syntax.specs.declared.specifier.Storage.TheVariants as storage
use Rattle.cf_syntax.specs.declared.specifier.TypeSpecifier.{TypeSpecifier}
use Rattle.cf_syntax.specs.declared.specifier.TypeSpecifier.TheVariants as specifier
use Rattle.cf_unit.specs.declared.class.Access.TheVariants as written
use Rattle.cf_unit.specs.declared.class.BaseWord.{BaseWord}
use Rattle.cf_unit.specs.declared.class.BaseWord.TheVariants as base_word
use Rattle.cf_syntax.specs.declared.specifier.ClassKey.TheVariants as key
use Rattle.cf_elab.specs.Answer.{Elab, ◌>>◌, gives, done}
use Rattle.cf_elab.specs.ClassDefinition.{access_row}
use Rattle.cf_elab.specs.Declarator.{Declared}
use Rattle.cf_core.specs.declared.node.Core.TheVariants as node
use Rattle.cf_elab.proofs.CoreRows.{bodies}
use Rattle.cf_elab.specs.Operand.{Part}
use Rattle.cf_elab.specs.Statement.{expression_row, return_row}
use Rattle.cf_elab.specs.Trees.{member_declaration}
use Rattle.cf_elab.proofs.Words.{step, tree, choice, number, named, call, joined, applied, set, referring, holding, type_in, basic_word, basic_at, const_at, stored, int_at, type_name, called, unnamed, pointing, taking, parameter, plain, with_value, with_arguments, declared_item, local, main, function, class_in, struct, base, public_base, member, method, pure, builds, elaborates, refusal, accepted}

-- a name with a class before it
abbrev qualified : ℕ → List ℕ → ℕ → List ℕ → WrittenName
qualified at class name_place name = record { at = at; from_file = false; scopes = class ∷ []; last_at = name_place; last = last.Ident name }

-- struct T{T(int);};void f(T);int main(){f(1);}
argument_by_a_constructor :
    accepted (elaborates (struct 0 (codes "T") [] (member 9 [] (taking 10 (parameter 11 (specifier.Basic 11 basic.Int ∷ []) unnamed ∷ []) (called 9 (codes "T"))) ∷ [])
    ∷ declared_item 18 (basic_at 18 basic.Void ∷ []) (plain 23 (taking 24 (parameter 25 (specifier.Named (record { at = 25; from_file = false; names = codes "T" ∷ [] }) ∷ []) unnamed ∷ []) (called 23 (codes "f"))) ∷ [])
    ∷ main (expression_row 39 (call 40 (named 39 (codes "f")) (number 41 1 ∷ [])) ∷ []) ∷ []))
    ≡ true
unfolding digits
argument_by_a_constructor = refl

-- struct A{int operator+(int);};int main(){A a;return a+1;}, and 1+a, which no function takes
abbrev operator_on : Part → Part → Option (ℕ × ℕ)
operator_on x y =
    refusal (elaborates (struct 0 (codes "A") [] (member 9 (int_at 9 ∷ []) (taking 22 (parameter 23 (specifier.Basic 23 basic.Int ∷ []) unnamed ∷ []) (tree (DeclTree-F.Declared (record { at = 13; from_file = false; scopes = []; last_at = 13; last = last.Operator 3 })))) ∷ [])
    ∷ main (local 41 (type_name 41 (codes "A") ∷ []) (plain 43 (called 43 (codes "a")) ∷ []) ∷ return_row 45 (Some (joined 53 binary.Add x y)) ∷ []) ∷ []))

member_operator : operator_on (named 52 (codes "a")) (number 54 1) ≡ None
unfolding digits
member_operator = refl

no_operator : operator_on (number 52 1) (named 54 (codes "a")) ≡ Some (18, 53)
unfolding digits
no_operator = refl

-- struct L{};struct A:L{};struct B:L{};struct C:A,B{};int main(){C c;L*p=&c;}
ambiguous_base :
    refusal (elaborates (struct 0 (codes "L") [] [] ∷ struct 11 (codes "A") (base 20 (codes "L") ∷ []) [] ∷ struct 24 (codes "B") (base 33 (codes "L") ∷ []) []
    ∷ struct 37 (codes "C") (base 46 (codes "A") ∷ base 48 (codes "B") ∷ []) []
    ∷ main (local 63 (type_name 63 (codes "C") ∷ []) (plain 65 (called 65 (codes "c")) ∷ [])
    ∷ local 67 (type_name 67 (codes "L") ∷ []) (with_value 68 (pointing 68 (called 69 (codes "p"))) 70 71 (applied 71 op.AddressOf (named 72 (codes "c"))) ∷ []) ∷ []) ∷ []))
    ≡ Some (14, 70)
unfolding digits
ambiguous_base = refl

-- struct T{T():x(1){}};
initialiser_of_nothing :
    refusal (elaborates (struct 0 (codes "T") [] (method [] 9 (taking 10 [] (called 9 (codes "T"))) (builds 13 (codes "x") 14 (number 15 1 ∷ []) ∷ []) 17 [] ∷ []) ∷ [])) ≡ Some (43, 13)
unfolding digits
initialiser_of_nothing = refl

-- struct A{int f();};int A::f(){return 1;}
defined_outside :
    accepted (elaborates (struct 0 (codes "A") [] (member 9 (int_at 9 ∷ []) (taking 14 [] (called 13 (codes "f"))) ∷ [])
    ∷ function (int_at 19 ∷ []) 23 (taking 27 [] (tree (DeclTree-F.Declared (qualified 23 (codes "A") 26 (codes "f"))))) 29 (return_row 30 (Some (number 37 1)) ∷ []) ∷ []))
    ≡ true
unfolding digits
defined_outside = refl

-- struct A{};int A::f(){return 1;}
no_such_member :
    refusal (elaborates (struct 0 (codes "A") [] [] ∷ function (int_at 11 ∷ []) 15 (taking 19 [] (tree (DeclTree-F.Declared (qualified 15 (codes "A") 18 (codes "f"))))) 21 (return_row 22 (Some (number 29 1)) ∷ []) ∷ []))
    ≡ Some (16, 18)
unfolding digits
no_such_member = refl

-- struct A{int x;};int main(){int A::*p=&A::x;A a;return a.*p;}
pointer_to_a_member :
    refusal (elaborates (struct 0 (codes "A") [] (member 9 (int_at 9 ∷ []) (called 13 (codes "x")) ∷ [])
    ∷ main (local 28 (int_at 28 ∷ []) (with_value 32 (tree (DeclTree-F.Pointed (pointer.ToMember 32 (record { at = 32; from_file = false; names = codes "A" ∷ [] }) false) (called 36 (codes "p")))) 37 38 (applied 38 op.AddressOf (step (Expr-F.Named (qualified 39 (codes "A") 42 (codes "x"))))) ∷ [])
    ∷ local 44 (type_name 44 (codes "A") ∷ []) (plain 46 (called 46 (codes "a")) ∷ [])
    ∷ return_row 48 (Some (joined 56 binary.DotStar (named 55 (codes "a")) (named 58 (codes "p")))) ∷ []) ∷ []))
    ≡ None
unfolding digits
pointer_to_a_member = refl

-- struct A{virtual void f()=0;};int main(){A a;}
abstract_object :
    refusal (elaborates (struct 0 (codes "A") [] (member_declaration 9 (stored 9 storage.Virtual ∷ basic_at 17 basic.Void ∷ []) (record { at = 22; declared = taking 23 [] (called 22 (codes "f")); pure_at = Some 25 } ∷ []) ∷ [])
    ∷ main (local 41 (type_name 41 (codes "A") ∷ []) (plain 43 (called 43 (codes "a")) ∷ []) ∷ []) ∷ []))
    ≡ Some (37, 43)
unfolding digits
abstract_object = refl

-- struct A{const int c;A();};int main(){A a;a=a;}
no_assignment :
    refusal (elaborates (struct 0 (codes "A") [] (member 9 (const_at 9 ∷ int_at 15 ∷ []) (called 19 (codes "c")) ∷ member 21 [] (taking 22 [] (called 21 (codes "A"))) ∷ [])
    ∷ main (local 38 (type_name 38 (codes "A") ∷ []) (plain 40 (called 40 (codes "a")) ∷ []) ∷ expression_row 42 (set 43 (named 42 (codes "a")) (named 44 (codes "a"))) ∷ []) ∷ []))
    ≡ Some (44, 43)
unfolding digits
no_assignment = refl

-- class A{protected:int x;};class D:public A{int A::*g(){return &A::x;}int D::*h(){return &D::x;}};: through D alone
abbrev pointer_from : List ℕ → Option (ℕ × ℕ)
pointer_from class =
    refusal (elaborates (class_in 0 key.Class 6 (codes "A") [] ((access_row written.Protected >> gives done) ∷ member 18 (int_at 18 ∷ []) (called 22 (codes "x")) ∷ [])
    ∷ class_in 26 key.Class 32 (codes "D") (public_base 34 41 (codes "A") ∷ []) (method (int_at 43 ∷ []) 51
    (tree (DeclTree-F.Pointed (pointer.ToMember 47 (record { at = 47; from_file = false; names = class ∷ [] }) false) (taking 52 [] (called 51 (codes "g"))))) [] 54
    (return_row 55 (Some (applied 62 op.AddressOf (step (Expr-F.Named (qualified 63 class 66 (codes "x")))))) ∷ []) ∷ []) ∷ []))

protected_member_of_the_base : pointer_from (codes "A") ≡ Some (39, 66)
unfolding digits
protected_member_of_the_base = refl

protected_member_of_the_class_itself : pointer_from (codes "D") ≡ None
unfolding digits
protected_member_of_the_class_itself = refl

-- struct N{int v;N(int a){v=a;}};int main(){N a(1);a=5;return a.v;}: the generated assignment takes what is converted
assignment_of_a_number :
    refusal (elaborates (struct 0 (codes "N") [] (member 9 (int_at 9 ∷ []) (called 13 (codes "v"))
    ∷ method [] 15 (taking 16 (parameter 17 (specifier.Basic 17 basic.Int ∷ []) (called 21 (codes "a")) ∷ []) (called 15 (codes "N"))) [] 23 (expression_row 24 (set 25 (named 24 (codes "v")) (named 26 (codes "a"))) ∷ []) ∷ [])
    ∷ main (local 42 (type_name 42 (codes "N") ∷ []) (with_arguments 44 (called 44 (codes "a")) 45 (number 46 1 ∷ []) ∷ [])
    ∷ expression_row 49 (set 50 (named 49 (codes "a")) (number 51 5)) ∷ []) ∷ []))
    ≡ None
unfolding digits
assignment_of_a_number = refl

-- struct P{int a;P();};int main(){const P p;p=p;}: and its object is not const
assignment_to_a_const_object :
    refusal (elaborates (struct 0 (codes "P") [] (member 9 (int_at 9 ∷ []) (called 13 (codes "a")) ∷ member 15 [] (taking 16 [] (called 15 (codes "P"))) ∷ [])
    ∷ main (local 32 (const_at 32 ∷ type_name 38 (codes "P") ∷ []) (plain 40 (called 40 (codes "p")) ∷ []) ∷ expression_row 42 (set 43 (named 42 (codes "p")) (named 44 (codes "p"))) ∷ []) ∷ []))
    ≡ Some (31, 43)
unfolding digits
assignment_to_a_const_object = refl

-- struct N{operator int();};N::operator int(){return 1;}
abbrev conversion : ℕ → List (List ℕ) → ℕ → Declared
conversion at scopes name_place = taking (name_place + 12) [] (tree (DeclTree-F.Declared (record { at = at; from_file = false; scopes = scopes; last_at = name_place; last = last.Conversion (specifier.Basic (name_place + 9) basic.Int ∷ []) [] })))

conversion_defined_outside :
    accepted (elaborates (struct 0 (codes "N") [] (member 9 [] (conversion 9 [] 9) ∷ []) ∷ function [] 26 (conversion 26 (codes "N" ∷ []) 29) 43 (return_row 44 (Some (number 51 1)) ∷ []) ∷ []))
    ≡ true
unfolding digits
conversion_defined_outside = refl

-- struct T{T(int);};struct U{U(int);};int main(){int c=1;T x=c?T(1):T(2);}, and c?T(1):U(2)
abbrev built_by : ℕ → List ℕ → ℕ → Part
built_by at class n = step (Expr-F.TypeCall at (record { at = at; from_file = false; names = class ∷ [] }) (number (at + 2) n ∷ []))

abbrev from_int : ℕ → List ℕ → Elab (Unit {0})
from_int at class = struct at class [] (member (at + 9) [] (taking (at + 10) (parameter (at + 11) (specifier.Basic (at + 11) basic.Int ∷ []) unnamed ∷ []) (called (at + 9) class)) ∷ [])

abbrev choice_with : List ℕ → Option (ℕ × ℕ)
choice_with class =
    refusal (elaborates (from_int 0 (codes "T") ∷ from_int 18 (codes "U")
    ∷ main (local 47 (int_at 47 ∷ []) (with_value 51 (called 51 (codes "c")) 52 53 (number 53 1) ∷ [])
    ∷ local 55 (type_name 55 (codes "T") ∷ []) (with_value 57 (called 57 (codes "x")) 58 59 (choice 60 (named 59 (codes "c")) (built_by 61 (codes "T") 1) (built_by 66 class 2)) ∷ []) ∷ []) ∷ []))

choice_of_one_class : choice_with (codes "T") ≡ None
unfolding digits
choice_of_one_class = refl

choice_of_two_classes : choice_with (codes "U") ≡ Some (18, 60)
unfolding digits
choice_of_two_classes = refl

-- struct N{};int operator+(N&,int);int operator+(const N&,int);N g();int main(){return g()+1;}: a result is no N&
abbrev plus_on : ℕ → List TypeSpecifier → Elab (Unit {0})
plus_on at first = declared_item at (int_at at ∷ []) (plain (at + 4) (taking (at + 13) (parameter (at + 14) first (referring (at + 15) unnamed) ∷ parameter (at + 17) (specifier.Basic (at + 17) basic.Int ∷ []) unnamed ∷ [])
    (tree (DeclTree-F.Declared (record { at = at + 4; from_file = false; scopes = []; last_at = at + 4; last = last.Operator 3 })))) ∷ [])

abbrev type_N : ℕ → TypeSpecifier
type_N at = specifier.Named (record { at = at; from_file = false; names = codes "N" ∷ [] })

abbrev plus_on_a_result : List (Elab (Unit {0})) → Option (ℕ × ℕ)
plus_on_a_result functions =
    refusal (elaborates (struct 0 (codes "N") [] [] ∷ plus_on 11 (type_N 25 ∷ []) ∷ declared_item 33 (type_name 33 (codes "N") ∷ []) (plain 35 (taking 36 [] (called 35 (codes "g"))) ∷ []) ∷ functions))

abbrev main_with_plus : Elab (Unit {0})
main_with_plus = main (return_row 51 (Some (joined 61 binary.Add (call 58 (named 58 (codes "g")) []) (number 62 1))) ∷ [])

operator_on_a_temporary : plus_on_a_result (plus_on 40 (specifier.Const 54 ∷ type_N 60 ∷ []) ∷ main_with_plus ∷ []) ≡ None
unfolding digits
operator_on_a_temporary = refl

-- without the second, no function takes it
no_operator_on_a_temporary : plus_on_a_result (main_with_plus ∷ []) ≡ Some (18, 61)
unfolding digits
no_operator_on_a_temporary = refl

-- struct A{static int s(){return 1;}int f(){return 1;}};int main(){int(*p)()=A::s;return p();}, and A::f
abbrev pointer_to_a_function : List ℕ → Option (ℕ × ℕ)
pointer_to_a_function name =
    refusal (elaborates (struct 0 (codes "A") [] (method (stored 9 storage.Static ∷ int_at 16 ∷ []) 20 (taking 21 [] (called 20 (codes "s"))) [] 23 (return_row 24 (Some (number 31 1)) ∷ [])
    ∷ method (int_at 34 ∷ []) 38 (taking 39 [] (called 38 (codes "f"))) [] 41 (return_row 42 (Some (number 49 1)) ∷ []) ∷ [])
    ∷ main (local 65 (int_at 65 ∷ []) (with_value 68 (taking 72 [] (pointing 69 (called 70 (codes "p")))) 74 75 (step (Expr-F.Named (qualified 75 (codes "A") 78 name))) ∷ [])
    ∷ return_row 80 (Some (call 88 (named 87 (codes "p")) [])) ∷ []) ∷ []))

static_function_by_its_name : pointer_to_a_function (codes "s") ≡ None
unfolding digits
static_function_by_its_name = refl

member_function_by_its_name : pointer_to_a_function (codes "f") ≡ Some (32, 78)
unfolding digits
member_function_by_its_name = refl

-- int main(){char a[sizeof(char&)==1];}: a reference has the size of what it refers to
size_of_a_reference :
    refusal (elaborates (main (local 11 (basic_at 11 basic.Char ∷ []) (plain 16 (holding 17 (Some (joined 31 binary.Equal
    (step (Expr-F.SizeofType 18 (type_in 25 (basic_word 25 basic.Char ∷ []) (referring 29 unnamed)))) (number 33 1))) (called 16 (codes "a"))) ∷ []) ∷ []) ∷ [])) ≡ None
size_of_a_reference = refl

-- struct A{virtual void f()=0;};int main(){A a(1);}: no object at all, before its arguments
abstract_object_with_arguments :
    refusal (elaborates (struct 0 (codes "A") [] (pure 9 (stored 9 storage.Virtual ∷ basic_at 17 basic.Void ∷ []) 22 (codes "f") 25 ∷ [])
    ∷ main (local 41 (type_name 41 (codes "A") ∷ []) (with_arguments 43 (called 43 (codes "a")) 44 (number 45 1 ∷ []) ∷ []) ∷ []) ∷ []))
    ≡ Some (37, 44)
unfolding digits
abstract_object_with_arguments = refl

-- struct T{T(int);};int main(){T(1),T(2);}: each is an object
objects_in_order :
    bodies (elaborates (from_int 0 (codes "T") ∷ main (expression_row 29 (step (Expr-F.Comma 33 (built_by 29 (codes "T") 1 ∷ built_by 34 (codes "T") 2 ∷ []))) ∷ []) ∷ []))
    ≡ node.Block 10 (node.Full 29 (node.Temporary 33 5 (node.Comma 33 (node.Temporary 29 5 (node.Build 29 (codes "__ct__1TFi") 4 (node.Number 31 (pos 1) ∷ [])) ∷ node.Build 34 (codes "__ct__1TFi") 4 (node.Number 36 (pos 2) ∷ []) ∷ []))) ∷ []) ∷ []
unfolding digits
objects_in_order = refl

-- struct A{};int main(){A a;a.~A();}
destructor_by_its_name :
    refusal (elaborates (struct 0 (codes "A") [] [] ∷ main (local 22 (type_name 22 (codes "A") ∷ []) (plain 24 (called 24 (codes "a")) ∷ [])
    ∷ expression_row 26 (call 31 (step (Expr-F.Dot 27 (named 26 (codes "a")) (record { at = 28; from_file = false; scopes = []; last_at = 28; last = last.Destructor (codes "A") }))) []) ∷ []) ∷ []))
    ≡ Some (48, 28)
unfolding digits
destructor_by_its_name = refl

-- struct N{operator int();};int f(const N&n){return n+1;}, and N&n
abbrev sum_of : List TypeSpecifier → Option (ℕ × ℕ)
sum_of first =
    refusal (elaborates (struct 0 (codes "N") [] (member 9 [] (conversion 9 [] 9) ∷ [])
    ∷ function (int_at 26 ∷ []) 30 (taking 31 (parameter 32 first (referring 39 (called 40 (codes "n"))) ∷ []) (called 30 (codes "f"))) 42 (return_row 43 (Some (joined 51 binary.Add (named 50 (codes "n")) (number 52 1))) ∷ []) ∷ []))

conversion_of_a_const_object : sum_of (specifier.Const 32 ∷ type_N 38 ∷ []) ≡ Some (18, 51)
unfolding digits
conversion_of_a_const_object = refl

conversion_of_an_object : sum_of (type_N 38 ∷ []) ≡ None
unfolding digits
conversion_of_an_object = refl

-- struct L{int v;};struct M:L{};struct N:L{};struct D:M,N{int f(){return L::v;}};: there are two of it
named_in_an_ambiguous_base :
    refusal (elaborates (struct 0 (codes "L") [] (member 9 (int_at 9 ∷ []) (called 13 (codes "v")) ∷ []) ∷ struct 17 (codes "M") (base 26 (codes "L") ∷ []) [] ∷ struct 30 (codes "N") (base 39 (codes "L") ∷ []) []
    ∷ struct 43 (codes "D") (base 52 (codes "M") ∷ base 54 (codes "N") ∷ []) (method (int_at 56 ∷ []) 60 (taking 61 [] (called 60 (codes "f"))) [] 63
    (return_row 64 (Some (step (Expr-F.Named (qualified 71 (codes "L") 74 (codes "v"))))) ∷ []) ∷ []) ∷ [])) ≡ Some (14, 74)
unfolding digits
named_in_an_ambiguous_base = refl

-- class A{public:operator int();};class B:A{};int main(){B b;int x=b;}: private in B
abbrev converted_by : List (ℕ × BaseWord) → Option (ℕ × ℕ)
converted_by words =
    refusal (elaborates (class_in 0 key.Class 6 (codes "A") [] ((access_row written.Public >> gives done) ∷ member 15 [] (conversion 15 [] 15) ∷ [])
    ∷ class_in 32 key.Class 38 (codes "B") (record { at = 40; words = words; path = record { at = 40; from_file = false; names = codes "A" ∷ [] } } ∷ []) []
    ∷ main (local 55 (type_name 55 (codes "B") ∷ []) (plain 57 (called 57 (codes "b")) ∷ []) ∷ local 59 (int_at 59 ∷ []) (with_value 63 (called 63 (codes "x")) 64 65 (named 65 (codes "b")) ∷ []) ∷ []) ∷ []))

conversion_of_a_private_base : converted_by [] ≡ Some (38, 64)
unfolding digits
conversion_of_a_private_base = refl

conversion_of_a_public_base : converted_by ((40, base_word.Public) ∷ []) ≡ None
unfolding digits
conversion_of_a_public_base = refl

-- struct A{A();};int A::A(){}
constructor_with_a_type :
    refusal (elaborates (struct 0 (codes "A") [] (member 9 [] (taking 10 [] (called 9 (codes "A"))) ∷ [])
    ∷ function (int_at 15 ∷ []) 19 (taking 23 [] (tree (DeclTree-F.Declared (qualified 19 (codes "A") 22 (codes "A"))))) 25 [] ∷ []))
    ≡ Some (40, 22)
unfolding digits
constructor_with_a_type = refl

-- operator int(){return 1;}
conversion_of_no_class : refusal (elaborates (function [] 0 (conversion 0 [] 0) 14 (return_row 15 (Some (number 22 1)) ∷ []) ∷ [])) ≡ Some (47, 0)
conversion_of_no_class = refl

-- typedef int A[2];int main(){int*p=new A;}
new_of_an_array :
    refusal (elaborates (declared_item 0 (stored 0 storage.Typedef ∷ int_at 8 ∷ []) (plain 12 (holding 13 (Some (number 14 2)) (called 12 (codes "A"))) ∷ [])
    ∷ main (local 28 (int_at 28 ∷ []) (with_value 31 (pointing 31 (called 32 (codes "p"))) 33 34 (step (Expr-F.New 34 false (specifier.Named (record { at = 38; from_file = false; names = codes "A" ∷ [] }) ∷ []) [] [] false [])) ∷ []) ∷ []) ∷ [])) ≡ None
new_of_an_array = refl
