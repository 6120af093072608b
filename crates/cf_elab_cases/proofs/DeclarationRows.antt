-- Parameters, types in brackets, and specifiers that conflict (7.1, 8.1, 8.2.5).
use Rattle.std.proofs.Common.{◌≡◌, [], ◌∷◌, refl}
use Rattle.std.specs.Prelude.{false, Some, None, codes}
use Rattle.cf_syntax.specs.declared.specifier.BasicType.TheVariants as basic
use Rattle.cf_syntax.specs.declared.specifier.ClassKey.TheVariants as key
use Rattle.cf_syntax.specs.declared.specifier.Storage.TheVariants as storage
use Rattle.cf_syntax.specs.declared.specifier.TypeSpecifier.TheVariants as specifier
use Rattle.cf_elab.specs.Statement.{return_row}
use Rattle.cf_elab.proofs.Words.{named, call, word, int_at, basic_at, const_at, stored, called, unnamed, pointing, taking, parameter, type_in, size_of_type, plain, struct_name, enumeration, declared_item, main, function, elaborates, refusal}

-- int f(void);int main(){return f();}
nothing_alone :
    refusal (elaborates (declared_item 0 (int_at 0 ∷ []) (plain 4 (taking 5 (parameter 6 (specifier.Basic 6 basic.Void ∷ []) unnamed ∷ []) (called 4 (codes "f"))) ∷ [])
    ∷ function (int_at 12 ∷ []) 16 (taking 20 [] (called 16 (codes "main"))) 22 (return_row 23 (Some (call 31 (named 30 (codes "f")) [])) ∷ []) ∷ []))
    ≡ None
nothing_alone = refl

-- typedef void V;int f(V);int main(){return f();}
nothing_by_its_alias :
    refusal (elaborates (declared_item 0 (stored 0 storage.Typedef ∷ basic_at 8 basic.Void ∷ []) (plain 13 (called 13 (codes "V")) ∷ [])
    ∷ declared_item 15 (int_at 15 ∷ []) (plain 19 (taking 20 (parameter 21 (specifier.Named (record { at = 21; from_file = false; names = codes "V" ∷ [] }) ∷ []) unnamed ∷ []) (called 19 (codes "f"))) ∷ [])
    ∷ function (int_at 24 ∷ []) 28 (taking 32 [] (called 28 (codes "main"))) 34 (return_row 35 (Some (call 43 (named 42 (codes "f")) [])) ∷ []) ∷ []))
    ≡ None
nothing_by_its_alias = refl

-- int f(const void);
const_nothing :
    refusal (elaborates (declared_item 0 (int_at 0 ∷ []) (plain 4 (taking 5 (parameter 6 (specifier.Const 6 ∷ specifier.Basic 12 basic.Void ∷ []) unnamed ∷ []) (called 4 (codes "f"))) ∷ []) ∷ []))
    ≡ Some (26, 6)
const_nothing = refl

-- typedef const void C;int f(C);
alias_of_const_nothing :
    refusal (elaborates (declared_item 0 (stored 0 storage.Typedef ∷ const_at 8 ∷ basic_at 14 basic.Void ∷ []) (plain 19 (called 19 (codes "C")) ∷ [])
    ∷ declared_item 21 (int_at 21 ∷ []) (plain 25 (taking 26 (parameter 27 (specifier.Named (record { at = 27; from_file = false; names = codes "C" ∷ [] }) ∷ []) unnamed ∷ []) (called 25 (codes "f"))) ∷ []) ∷ []))
    ≡ Some (26, 27)
alias_of_const_nothing = refl

-- int f(register void);
nothing_in_a_register :
    refusal (elaborates (declared_item 0 (int_at 0 ∷ []) (plain 4 (taking 5 (parameter 6 (specifier.Storage 6 storage.Register ∷ specifier.Basic 15 basic.Void ∷ []) unnamed ∷ []) (called 4 (codes "f"))) ∷ []) ∷ []))
    ≡ Some (26, 6)
nothing_in_a_register = refl

-- int f(auto void);
automatic_nothing :
    refusal (elaborates (declared_item 0 (int_at 0 ∷ []) (plain 4 (taking 5 (parameter 6 (specifier.Storage 6 storage.Auto ∷ specifier.Basic 11 basic.Void ∷ []) unnamed ∷ []) (called 4 (codes "f"))) ∷ []) ∷ []))
    ≡ Some (26, 6)
automatic_nothing = refl

-- int f(void x);
nothing_with_a_name :
    refusal (elaborates (declared_item 0 (int_at 0 ∷ []) (plain 4 (taking 5 (parameter 6 (specifier.Basic 6 basic.Void ∷ []) (called 11 (codes "x")) ∷ []) (called 4 (codes "f"))) ∷ []) ∷ []))
    ≡ Some (26, 11)
nothing_with_a_name = refl

-- int f(int,void);
nothing_behind_another :
    refusal (elaborates (declared_item 0 (int_at 0 ∷ []) (plain 4 (taking 5 (parameter 6 (specifier.Basic 6 basic.Int ∷ []) unnamed ∷ parameter 10 (specifier.Basic 10 basic.Void ∷ []) unnamed ∷ []) (called 4 (codes "f"))) ∷ []) ∷ []))
    ≡ Some (26, 10)
nothing_behind_another = refl

-- int f(register int x);
int_in_a_register :
    refusal (elaborates (declared_item 0 (int_at 0 ∷ []) (plain 4 (taking 5 (parameter 6 (specifier.Storage 6 storage.Register ∷ specifier.Basic 15 basic.Int ∷ []) (called 19 (codes "x")) ∷ []) (called 4 (codes "f"))) ∷ []) ∷ []))
    ≡ None
int_in_a_register = refl

-- int f(inline int char x);
inline_before_two_types :
    refusal (elaborates (declared_item 0 (int_at 0 ∷ []) (plain 4 (taking 5 (parameter 6 (specifier.Storage 6 storage.Inline ∷ specifier.Basic 13 basic.Int ∷ specifier.Basic 17 basic.Char ∷ []) (called 22 (codes "x")) ∷ []) (called 4 (codes "f"))) ∷ []) ∷ []))
    ≡ Some (24, 6)
inline_before_two_types = refl

-- int f(inline static int x);
inline_before_static :
    refusal (elaborates (declared_item 0 (int_at 0 ∷ []) (plain 4 (taking 5 (parameter 6 (specifier.Storage 6 storage.Inline ∷ specifier.Storage 13 storage.Static ∷ specifier.Basic 20 basic.Int ∷ []) (called 24 (codes "x")) ∷ []) (called 4 (codes "f"))) ∷ []) ∷ []))
    ≡ Some (24, 6)
inline_before_static = refl

-- int f(virtual inline int x);
virtual_before_inline :
    refusal (elaborates (declared_item 0 (int_at 0 ∷ []) (plain 4 (taking 5 (parameter 6 (specifier.Storage 6 storage.Virtual ∷ specifier.Storage 14 storage.Inline ∷ specifier.Basic 21 basic.Int ∷ []) (called 25 (codes "x")) ∷ []) (called 4 (codes "f"))) ∷ []) ∷ []))
    ≡ Some (24, 6)
virtual_before_inline = refl

-- int f(int char inline x);
two_types_before_inline :
    refusal (elaborates (declared_item 0 (int_at 0 ∷ []) (plain 4 (taking 5 (parameter 6 (specifier.Basic 6 basic.Int ∷ specifier.Basic 10 basic.Char ∷ specifier.Storage 15 storage.Inline ∷ []) (called 22 (codes "x")) ∷ []) (called 4 (codes "f"))) ∷ []) ∷ []))
    ≡ Some (24, 10)
two_types_before_inline = refl

-- int f(register static int x);
static_behind_register :
    refusal (elaborates (declared_item 0 (int_at 0 ∷ []) (plain 4 (taking 5 (parameter 6 (specifier.Storage 6 storage.Register ∷ specifier.Storage 15 storage.Static ∷ specifier.Basic 22 basic.Int ∷ []) (called 26 (codes "x")) ∷ []) (called 4 (codes "f"))) ∷ []) ∷ []))
    ≡ Some (24, 15)
static_behind_register = refl

-- int main(){return sizeof(static int char);}
static_before_two_types :
    refusal (elaborates (main (return_row 11 (Some (size_of_type 18 (type_in 25 (specifier.Storage 25 storage.Static ∷ specifier.Basic 32 basic.Int ∷ specifier.Basic 36 basic.Char ∷ []) unnamed))) ∷ []) ∷ []))
    ≡ Some (24, 25)
static_before_two_types = refl

-- int main(){return sizeof(inline register int);}
inline_before_register :
    refusal (elaborates (main (return_row 11 (Some (size_of_type 18 (type_in 25 (specifier.Storage 25 storage.Inline ∷ specifier.Storage 32 storage.Register ∷ specifier.Basic 41 basic.Int ∷ []) unnamed))) ∷ []) ∷ []))
    ≡ Some (24, 25)
inline_before_register = refl

-- int main(){return sizeof(int char inline);}
two_types_before_inline_in_brackets :
    refusal (elaborates (main (return_row 11 (Some (size_of_type 18 (type_in 25 (specifier.Basic 25 basic.Int ∷ specifier.Basic 29 basic.Char ∷ specifier.Storage 34 storage.Inline ∷ []) unnamed))) ∷ []) ∷ []))
    ≡ Some (24, 29)
two_types_before_inline_in_brackets = refl

-- int struct B*x;
new_class_behind_a_type :
    refusal (elaborates (declared_item 0 (int_at 0 ∷ struct_name 4 11 (codes "B") ∷ []) (plain 12 (pointing 12 (called 13 (codes "x"))) ∷ []) ∷ []))
    ≡ Some (24, 4)
new_class_behind_a_type = refl

-- enum E{A};int enum E x;
enumeration_behind_a_type :
    refusal (elaborates (declared_item 0 (enumeration 0 (Some (5, codes "E")) (record { at = 7; name = codes "A"; value = None } ∷ []) ∷ []) []
    ∷ declared_item 10 (int_at 10 ∷ word (specifier.Elaborated 14 key.Enum (record { at = 19; from_file = false; names = codes "E" ∷ [] })) ∷ []) (plain 21 (called 21 (codes "x")) ∷ []) ∷ []))
    ≡ Some (24, 14)
enumeration_behind_a_type = refl
