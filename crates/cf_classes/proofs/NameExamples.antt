-- Link names and descriptions, by evaluation.
use Rattle.std.proofs.Common.{◌≡◌, ℕ, true, false, List, [], ◌∷◌, Some, None, negsuc, refl, codes}
use Rattle.std.specs.Fmt.{digits}
use Rattle.cf_base.specs.declared.kind.Kind.TheVariants as kind
use Rattle.cf_classes.specs.declared.class.What.TheVariants as what
use Rattle.cf_classes.specs.ClassTable.{ClassTable}
use Rattle.cf_classes.specs.LinkName.{Codes, Integer, Named, Pointer, Const, none, more, link_name, Entity, Main, Plain, Variable, Constructor, Operator, Conversion, code, code_of}
use Rattle.cf_classes.specs.Description.{description}
use Rattle.cf_classes.specs.OwnedName.{tables_name, literal_name, local_static_name}
use Rattle.cf_classes.proofs.Examples.{types, field, plain, virtual_function, virtual_from, struct_of}

abbrev global : List ℕ → Codes → Entity
global name params = record { scope = []; what = Plain name; params = params; is_const = false; is_static = false }

-- `f(int, const char*)`
function_of_two : link_name (global (codes "f") (more (Integer kind.Int) (more (Pointer (Const (Integer kind.Char))) none))) ≡ codes "f__FiPCc"
function_of_two = refl

-- `f()`
function_of_none : link_name (global (codes "f") none) ≡ codes "f__Fv"
function_of_none = refl

-- `A::g() const`
const_member_function : link_name (record { scope = codes "A" ∷ []; what = Plain (codes "g"); params = none; is_const = true; is_static = false }) ≡ codes "g__1ACFv"
unfolding digits
const_member_function = refl

-- `A::B::B(A)`
nested_constructor : link_name (record { scope = codes "A" ∷ codes "B" ∷ []; what = Constructor; params = more (Named (codes "A" ∷ [])) none; is_const = false; is_static = false }) ≡ codes "__ct__Q2_1A1BF1A"
unfolding digits
nested_constructor = refl

-- `operator+(int, int)`
operator_function : link_name (record (global [] (more (Integer kind.Int) (more (Integer kind.Int) none))) { what = Operator 3 }) ≡ codes "__pl__Fii"
operator_function = refl

-- `A::operator int()`
conversion_function : link_name (record { scope = codes "A" ∷ []; what = Conversion (Integer kind.Int); params = none; is_const = false; is_static = false }) ≡ codes "__opi__1AFv"
unfolding digits
conversion_function = refl

main_function : link_name (record (global [] none) { what = Main }) ≡ codes "__main"
main_function = refl

global_variable : link_name (record (global [] none) { what = Variable (codes "x") }) ≡ codes "x"
global_variable = refl

variable_named_exit : link_name (record (global [] none) { what = Variable (codes "exit") }) ≡ codes "exit__g"
variable_named_exit = refl

static_data_member : link_name (record { scope = codes "A" ∷ []; what = Variable (codes "n"); params = none; is_const = false; is_static = true }) ≡ codes "n__1A"
unfolding digits
static_data_member = refl

-- the codes of types in a table
abbrev nested : ClassTable
nested = record {
  labels = record { name = codes "A"; outer = None } ∷ record { name = codes "B"; outer = Some 0 } ∷ [];
  enums = [];
  defined = (0, struct_of [] (field (codes "x") 1 ∷ virtual_function (codes "f") ∷ [])) ∷ (1, struct_of (virtual_from 0 ∷ []) (plain (codes "f") ∷ [])) ∷ [];
}

pointer_to_const : code (code_of types nested 5) ≡ codes "PCc"
pointer_to_const = refl

class_inside : code (code_of types nested 8) ≡ codes "Q2_1A1B"
unfolding digits
class_inside = refl

array_of_three : code (code_of types nested 12) ≡ codes "A3_1A"
unfolding digits
array_of_three = refl

description_of_members : description types nested 0 ≡ codes "udx:i;ufvif:F_i;"
description_of_members = refl

-- a function that overrides is virtual without the word
description_of_override : description types nested 1 ≡ codes "bvu1A;ufvif:F_i;"
unfolding digits
description_of_override = refl

tables_of_a_class : tables_name (codes "A" ∷ []) ≡ codes "__vt__1A"
unfolding digits
tables_of_a_class = refl

second_literal_of_main : literal_name 2 (codes "__main") ≡ codes "__s2____main"
unfolding digits
second_literal_of_main = refl

first_static_of_a_function : local_static_name (codes "s") 1 (codes "g__Fv") ≡ codes "s__L1__g__Fv"
unfolding digits
first_static_of_a_function = refl

-- an unnamed enumeration has an empty code, in the type of its constant and of a data member
abbrev with_enums : ClassTable
with_enums = record {
  labels = record { name = codes "A"; outer = None } ∷ [];
  enums = record { name = codes "E"; outer = Some 0 } ∷ record { name = []; outer = Some 0 } ∷ [];
  defined = (
    0,
    struct_of []
        (record (field (codes "E") 13) { what = what.Alias } ∷ record (field (codes "X") 14) { what = what.Enumerator (negsuc 0) } ∷ field (codes "e") 13 ∷ field (codes "u") 14
        ∷ field (codes "p") 15
        ∷ []),
  )
      ∷ [];
}

unnamed_enumeration : description types with_enums 0 ≡ codes "utE:Q2_1A1E;ue-1X:;ude:Q2_1A1E;udu:;udp:P;"
unfolding digits
unnamed_enumeration = refl
