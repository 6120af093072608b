-- Classes: which rules they break and where, and what they become.
use Rattle.std.proofs.Common.{◌≡◌, ℕ, List, [], ◌∷◌, refl}
use Rattle.std.specs.Prelude.{false, Option, Some, None, codes, pos}
use Rattle.std.specs.Fmt.{digits}
use Rattle.cf_syntax.specs.declared.declarator.DeclTree.TheOpen.{DeclTree-F, Expr-F}
use Rattle.cf_syntax.specs.declared.name.Last.TheVariants as last
use Rattle.cf_syntax.specs.declared.operator.BinaryOp.TheVariants as binary
use Rattle.cf_syntax.specs.declared.operator.PrefixOp.TheVariants as op
use Rattle.cf_syntax.specs.declared.specifier.BasicType.TheVariants as basic
use Rattle.cf_syntax.specs.declared.specifier.ClassKey.TheVariants as key
use Rattle.cf_syntax.specs.declared.specifier.Storage.TheVariants as storage
use Rattle.cf_syntax.specs.declared.specifier.TypeSpecifier.TheVariants as specifier
use Rattle.cf_unit.specs.declared.class.Access.TheVariants as written
use Rattle.cf_core.specs.declared.node.Core.TheVariants as node
use Rattle.cf_core.specs.declared.node.Holder.TheVariants as holder
use Rattle.cf_core.specs.declared.node.BuiltPart.TheVariants as built
use Rattle.cf_elab.specs.Declarator.{Declared}
use Rattle.cf_elab.specs.Answer.{Elab, ◌>>◌, gives, done}
use Rattle.cf_elab.specs.Statement.{expression_row, return_row}
use Rattle.cf_elab.specs.ClassDefinition.{access_row}
use Rattle.cf_elab.specs.Trees.{MemberRow}
use Rattle.cf_elab.proofs.CoreRows.{bodies}
use Rattle.cf_elab.proofs.Words.{number, named, call, applied, set, dot, arrow, stored, int_at, type_name, called, pointing, taking, parameter, plain, with_value, with_arguments, local, main, class_in, struct, base, public_base, member, method, basic_at, declared_item, step, joined, holding, type_in, unnamed, tree, word, struct_name, struct_word, only_word, pure, builds, elaborates, refusal}

-- int x; in a class
abbrev field : ℕ → List ℕ → MemberRow
field at name = member at (int_at at ∷ []) (called (at) name)

-- struct A{int x;int f(){return x;}};int main(){A a;a.x=1;return a.f();}
members_of_an_object :
    bodies (elaborates (struct 0 (codes "A") [] (field 9 (codes "x") ∷ method (int_at 15 ∷ []) 19 (taking 20 [] (called 19 (codes "f"))) [] 22 (return_row 23 (Some (named 30 (codes "x"))) ∷ []) ∷ [])
    ∷ main (local 46 (type_name 46 (codes "A") ∷ []) (plain 48 (called 48 (codes "a")) ∷ [])
    ∷ expression_row 50 (set 53 (dot 51 (named 50 (codes "a")) 52 (codes "x")) (number 54 1))
    ∷ return_row 56 (Some (call 66 (dot 64 (named 63 (codes "a")) 65 (codes "f")) [])) ∷ []) ∷ []))
    ≡ node.Block 22 (node.Return 23 (Some (node.Read 30 (node.Member 30 (node.This 30) 0))) ∷ [])
    ∷ node.Block 10 (node.Declare 48 0 5 (node.Blank 48)
    ∷ node.Full 50 (node.Store 53 (node.Member 52 (node.Local 50 0) 0) (node.Number 54 (pos 1)))
    ∷ node.Return 56 (Some (node.Call 65 (codes "f__1AFv") 3 (Some (node.Local 63 0)) [])) ∷ []) ∷ []
unfolding digits
members_of_an_object = refl

-- struct A{int x;};class B{int x;};struct C:A,B{int g(){return x;}};: ambiguous, though one of the two is private
ambiguous_before_access :
    refusal (elaborates (struct 0 (codes "A") [] (field 9 (codes "x") ∷ []) ∷ class_in 17 key.Class 23 (codes "B") [] (field 25 (codes "x") ∷ [])
    ∷ struct 33 (codes "C") (base 42 (codes "A") ∷ base 44 (codes "B") ∷ []) (method (int_at 46 ∷ []) 50 (taking 51 [] (called 50 (codes "g"))) [] 53 (return_row 54 (Some (named 61 (codes "x"))) ∷ []) ∷ []) ∷ []))
    ≡ Some (34, 61)
unfolding digits
ambiguous_before_access = refl

-- class A{protected:int x;};class D:public A{int g(A*p){return p->x;}};
abbrev through : List ℕ → Option (ℕ × ℕ)
through class =
    refusal (elaborates (class_in 0 key.Class 6 (codes "A") [] ((access_row written.Protected >> gives done) ∷ field 18 (codes "x") ∷ [])
    ∷ class_in 26 key.Class 32 (codes "D") (public_base 34 41 (codes "A") ∷ [])
    (method (int_at 43 ∷ []) 47 (taking 48 (parameter 49 (specifier.Named (record { at = 49; from_file = false; names = class ∷ [] }) ∷ []) (pointing 50 (called 51 (codes "p"))) ∷ []) (called 47 (codes "g"))) [] 53
    (return_row 54 (Some (arrow 62 (named 61 (codes "p")) 64 (codes "x"))) ∷ []) ∷ []) ∷ []))

protected_through_a_base : through (codes "A") ≡ Some (39, 64)
unfolding digits
protected_through_a_base = refl

protected_through_the_class_itself : through (codes "D") ≡ None
unfolding digits
protected_through_the_class_itself = refl

-- struct A{virtual A*f();};struct B:A{B*f();};
result_of_an_override :
    refusal (elaborates (struct 0 (codes "A") [] (member 9 (stored 9 storage.Virtual ∷ type_name 17 (codes "A") ∷ []) (pointing 18 (taking 20 [] (called 19 (codes "f")))) ∷ [])
    ∷ struct 25 (codes "B") (base 34 (codes "A") ∷ []) (member 36 (type_name 36 (codes "B") ∷ []) (pointing 37 (taking 39 [] (called 38 (codes "f")))) ∷ []) ∷ []))
    ≡ Some (35, 38)
unfolding digits
result_of_an_override = refl

-- struct A:A{};
base_of_itself : refusal (elaborates (struct 0 (codes "A") (base 9 (codes "A") ∷ []) [] ∷ [])) ≡ Some (30, 9)
unfolding digits
base_of_itself = refl

-- struct A{};struct B:A,A{};
base_twice : refusal (elaborates (struct 0 (codes "A") [] [] ∷ struct 11 (codes "B") (base 20 (codes "A") ∷ base 22 (codes "A") ∷ []) [] ∷ [])) ≡ Some (33, 22)
unfolding digits
base_twice = refl

-- struct A{int x;int x;};
member_twice : refusal (elaborates (struct 0 (codes "A") [] (field 9 (codes "x") ∷ field 15 (codes "x") ∷ []) ∷ [])) ≡ Some (8, 15)
unfolding digits
member_twice = refl

-- struct A{int f();int f();};
function_twice :
    refusal (elaborates (struct 0 (codes "A") [] (member 9 (int_at 9 ∷ []) (taking 14 [] (called 13 (codes "f"))) ∷ member 17 (int_at 17 ∷ []) (taking 22 [] (called 21 (codes "f"))) ∷ []) ∷ []))
    ≡ Some (45, 21)
unfolding digits
function_twice = refl

-- struct T{int v;T(int a):v(a){}};int main(){T t(1);return t.v;}
built_by_a_constructor :
    bodies (elaborates (struct 0 (codes "T") [] (field 9 (codes "v") ∷ method [] 15 (taking 16 (parameter 17 (specifier.Basic 17 basic.Int ∷ []) (called 21 (codes "a")) ∷ []) (called 15 (codes "T"))) (builds 24 (codes "v") 25 (named 26 (codes "a") ∷ []) ∷ []) 28 [] ∷ [])
    ∷ main (local 43 (type_name 43 (codes "T") ∷ []) (with_arguments 45 (called 45 (codes "t")) 46 (number 47 1 ∷ []) ∷ [])
    ∷ return_row 50 (Some (dot 58 (named 57 (codes "t")) 59 (codes "v"))) ∷ []) ∷ []))
    ≡ node.Parts 15 (record { part = built.Field 0; start = node.Read 26 (node.Local 26 0) } ∷ []) (node.Block 28 [])
    ∷ node.Block 10 (node.Declare 45 0 5 (node.Build 46 (codes "__ct__1TFi") 4 (node.Number 47 (pos 1) ∷ []))
    ∷ node.Return 50 (Some (node.Read 59 (node.Member 59 (node.Local 57 0) 0))) ∷ []) ∷ []
unfolding digits
built_by_a_constructor = refl

-- struct A{virtual int f(){return 1;}};int main(){A a;A*p=&a;return p->f();}: dispatched. The constructor, the copy constructor and the
-- assignment of A are generated, since it has virtual functions.
dispatched_call :
    bodies (elaborates (struct 0 (codes "A") [] (method (stored 9 storage.Virtual ∷ int_at 17 ∷ []) 21 (taking 22 [] (called 21 (codes "f"))) [] 24 (return_row 25 (Some (number 32 1)) ∷ []) ∷ [])
    ∷ main (local 48 (type_name 48 (codes "A") ∷ []) (plain 50 (called 50 (codes "a")) ∷ [])
    ∷ local 52 (type_name 52 (codes "A") ∷ []) (with_value 54 (pointing 53 (called 54 (codes "p"))) 55 56 (applied 56 op.AddressOf (named 57 (codes "a"))) ∷ [])
    ∷ return_row 59 (Some (call 70 (arrow 67 (named 66 (codes "p")) 69 (codes "f")) [])) ∷ []) ∷ []))
    ≡ node.Parts 7 [] (node.Block 7 []) ∷ node.Parts 7 [] (node.Block 7 [])
    ∷ node.Block 7 (node.Return 7 (Some (node.Bind 7 holder.NoTemporary (node.This 7))) ∷ [])
    ∷ node.Block 24 (node.Return 25 (Some (node.Number 32 (pos 1))) ∷ [])
    ∷ node.Block 10 (node.Declare 50 0 5 (node.Build 50 (codes "__ct__1AFv") 9 [])
    ∷ node.Declare 54 1 10 (node.Address 56 (node.Local 57 0))
    ∷ node.Return 59 (Some (node.VirtualCall 69 (record { class = 0; index = 0 }) 3 (node.Dereference 67 (node.Read 66 (node.Local 66 1))) [])) ∷ []) ∷ []
unfolding digits
dispatched_call = refl

-- struct A{virtual void f()=0;};struct B:A{void f(){}};int main(){B b;}: no object of A is made but a part of b
part_of_an_abstract_class :
    refusal (elaborates (struct 0 (codes "A") [] (pure 9 (stored 9 storage.Virtual ∷ basic_at 17 basic.Void ∷ []) 22 (codes "f") 25 ∷ [])
    ∷ struct 30 (codes "B") (base 39 (codes "A") ∷ []) (method (basic_at 41 basic.Void ∷ []) 46 (taking 47 [] (called 46 (codes "f"))) [] 49 [] ∷ [])
    ∷ main (local 64 (type_name 64 (codes "B") ∷ []) (plain 66 (called 66 (codes "b")) ∷ []) ∷ []) ∷ []))
    ≡ None
unfolding digits
part_of_an_abstract_class = refl

-- struct A{virtual void f()=0;};struct B:A{void f()=0;};: the word may be left out where a function of a base is overridden
pure_override :
    refusal (elaborates (struct 0 (codes "A") [] (pure 9 (stored 9 storage.Virtual ∷ basic_at 17 basic.Void ∷ []) 22 (codes "f") 25 ∷ [])
    ∷ struct 30 (codes "B") (base 39 (codes "A") ∷ []) (pure 41 (basic_at 41 basic.Void ∷ []) 46 (codes "f") 49 ∷ []) ∷ []))
    ≡ None
unfolding digits
pure_override = refl

-- struct A{void f()=0;};
pure_and_not_virtual : refusal (elaborates (struct 0 (codes "A") [] (pure 9 (basic_at 9 basic.Void ∷ []) 14 (codes "f") 17 ∷ []) ∷ [])) ≡ Some (24, 17)
unfolding digits
pure_and_not_virtual = refl

-- struct A{struct B;B*p;struct B{int x;};};: a nested class is declared and defined later
abbrev nested_twice : MemberRow → Option (ℕ × ℕ)
nested_twice first =
    refusal (elaborates (struct 0 (codes "A") [] (first ∷ member 18 (type_name 18 (codes "B") ∷ []) (pointing 19 (called 20 (codes "p")))
    ∷ only_word 22 (struct_word 22 (codes "B") [] (field 31 (codes "x") ∷ [])) ∷ []) ∷ []))

nested_defined_later : nested_twice (only_word 9 (struct_name 9 16 (codes "B"))) ≡ None
unfolding digits
nested_defined_later = refl

-- struct A{struct B{};B*p;struct B{int x;};};
nested_defined_twice : nested_twice (only_word 9 (struct_word 9 (codes "B") [] [])) ≡ Some (8, 29)
unfolding digits
nested_defined_twice = refl

-- typedef struct S{int x;}S; and typedef struct S{int x;}*S;
abbrev named_again : Declared → Option (ℕ × ℕ)
named_again d =
    refusal (elaborates (declared_item 0 (stored 0 storage.Typedef ∷ struct_word 8 (codes "S") [] (field 17 (codes "x") ∷ []) ∷ []) (plain 24 d ∷ []) ∷ []))

typedef_of_its_class : named_again (called 24 (codes "S")) ≡ None
unfolding digits
typedef_of_its_class = refl

typedef_of_another_type : named_again (pointing 24 (called 25 (codes "S"))) ≡ Some (8, 25)
unfolding digits
typedef_of_another_type = refl

-- struct A{int x;typedef int x;};
typedef_of_a_data_member : refusal (elaborates (struct 0 (codes "A") [] (field 9 (codes "x") ∷ member 15 (stored 15 storage.Typedef ∷ int_at 23 ∷ []) (called 27 (codes "x")) ∷ []) ∷ [])) ≡ Some (8, 27)
unfolding digits
typedef_of_a_data_member = refl

-- class A{typedef int T;T x;};int main(){A::T y;}: the members of a class may use what is private in it, and others may not
abbrev private_type : List (Elab (Unit {0})) → Option (ℕ × ℕ)
private_type behind =
    refusal (elaborates (class_in 0 key.Class 6 (codes "A") [] (member 8 (stored 8 storage.Typedef ∷ int_at 16 ∷ []) (called 20 (codes "T")) ∷ member 22 (type_name 22 (codes "T") ∷ []) (called 24 (codes "x")) ∷ []) ∷ behind))

private_type_in_its_class : private_type [] ≡ None
unfolding digits
private_type_in_its_class = refl

private_type_outside :
    private_type (main (local 39 (word (specifier.Named (record { at = 39; from_file = false; names = codes "A" ∷ codes "T" ∷ [] })) ∷ []) (plain 44 (called 44 (codes "y")) ∷ []) ∷ []) ∷ []) ≡ Some (38, 39)
unfolding digits
private_type_outside = refl

-- struct A{int x;};int main(){int A=1;struct A a;a.x=A;return a.x;}: a variable does not hide a class behind its key
class_through_a_variable :
    refusal (elaborates (struct 0 (codes "A") [] (field 9 (codes "x") ∷ [])
    ∷ main (local 28 (int_at 28 ∷ []) (with_value 32 (called 32 (codes "A")) 33 34 (number 34 1) ∷ [])
    ∷ local 36 (struct_name 36 43 (codes "A") ∷ []) (plain 45 (called 45 (codes "a")) ∷ [])
    ∷ expression_row 47 (set 50 (dot 48 (named 47 (codes "a")) 49 (codes "x")) (named 51 (codes "A")))
    ∷ return_row 53 (Some (dot 61 (named 60 (codes "a")) 62 (codes "x"))) ∷ []) ∷ []))
    ≡ None
unfolding digits
class_through_a_variable = refl

-- int main(){int A=1;struct A*p;}: a class and another thing of one name in one scope
class_beside_a_variable :
    refusal (elaborates (main (local 11 (int_at 11 ∷ []) (with_value 15 (called 15 (codes "A")) 16 17 (number 17 1) ∷ []) ∷ local 19 (struct_name 19 26 (codes "A") ∷ []) (plain 27 (pointing 27 (called 28 (codes "p"))) ∷ []) ∷ []) ∷ []))
    ≡ Some (8, 26)
class_beside_a_variable = refl

-- struct A{int x;};struct B:A{A::x;};
access_declaration :
    refusal (elaborates (struct 0 (codes "A") [] (field 9 (codes "x") ∷ []) ∷ struct 17 (codes "B") (base 26 (codes "A") ∷ [])
    (member 28 [] (tree (DeclTree-F.Declared (record { at = 28; from_file = false; scopes = codes "A" ∷ []; last_at = 31; last = last.Ident (codes "x") }))) ∷ []) ∷ []))
    ≡ Some (48, 28)
unfolding digits
access_declaration = refl

-- struct A{friend int char f();};
friend_of_two_types :
    refusal (elaborates (struct 0 (codes "A") [] (member 9 (stored 9 storage.Friend ∷ int_at 16 ∷ basic_at 20 basic.Char ∷ []) (taking 26 [] (called 25 (codes "f"))) ∷ []) ∷ [])) ≡ Some (24, 20)
unfolding digits
friend_of_two_types = refl

-- struct A{typedef int T;static int a[2];};int A::a[sizeof(T)/2];: the bound is looked up in the class
bound_in_the_class :
    refusal (elaborates (struct 0 (codes "A") [] (member 9 (stored 9 storage.Typedef ∷ int_at 17 ∷ []) (called 21 (codes "T")) ∷ member 23 (stored 23 storage.Static ∷ int_at 30 ∷ []) (holding 35 (Some (number 36 2)) (called 34 (codes "a"))) ∷ [])
    ∷ declared_item 41 (int_at 41 ∷ []) (plain 45 (holding 49 (Some (joined 59 binary.Divide (step (Expr-F.SizeofType 50 (type_in 57 (specifier.Named (record { at = 57; from_file = false; names = codes "T" ∷ [] }) ∷ []) unnamed))) (number 60 2)))
    (tree (DeclTree-F.Declared (record { at = 45; from_file = false; scopes = codes "A" ∷ []; last_at = 48; last = last.Ident (codes "a") })))) ∷ []) ∷ [])) ≡ None
unfolding digits
bound_in_the_class = refl
