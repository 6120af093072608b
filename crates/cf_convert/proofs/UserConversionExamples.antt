-- Conversions by a user's function, on small classes, by evaluation.
use Rattle.std.proofs.Common.{◌≡◌, ℕ, Bool, true, false, List, [], ◌∷◌, refl, codes}
use Rattle.cf_base.specs.declared.kind.Kind.TheVariants as kind
use Rattle.cf_types.specs.declared.ty.Ty.TheVariants as ty
use Rattle.cf_types.specs.declared.ty.Fun.{Fun}
use Rattle.cf_types.specs.Table.{Table}
use Rattle.cf_classes.specs.declared.path.Step.TheVariants.{Base}
use Rattle.cf_classes.specs.declared.class.Access.TheVariants as access
use Rattle.cf_classes.specs.declared.class.ClassDef.{ClassDef}
use Rattle.cf_classes.specs.declared.class.BaseDef.{BaseDef}
use Rattle.cf_classes.specs.declared.class.MemberDef.{MemberDef}
use Rattle.cf_classes.specs.declared.class.What.{What}
use Rattle.cf_classes.specs.declared.class.What.TheVariants as what
use Rattle.cf_convert.specs.declared.conv.Val.{Val}
use Rattle.cf_convert.specs.declared.conv.ConvStep.{ConvStep}
use Rattle.cf_convert.specs.declared.conv.ConvStep.TheVariants.{Read, AddConst, Promote, Integer, ToBase}
use Rattle.cf_convert.specs.UserConversion.{by_user, is_better_user, Serving, User, One, Nothing, Many}

-- The types by number: 0 char, 1 int, 2 long, 3 `char*`, 4 to 6 the classes 0 to 2, 7 `const C0`, 8 `const C0&`, 9 `C0&`, 10 void; 11 a constructor of an int, 12 of a long,
-- 13 of a `char*`, 14 of a class 1, 15 of an int and a long; 16 a function that gives an int, 17 a const one, 18 that gives a long, 19 that gives a class 0, 20 that gives a `C0&`;
-- 21 `const C1`.
abbrev fun : ℕ → List ℕ → Bool → Fun
fun result params is_const = record { result = result; params = params; is_const = is_const }

abbrev types : Table
types = record {
  types =
      ty.Int kind.Char ∷ ty.Int kind.Int ∷ ty.Int kind.Long ∷ ty.Ptr 0 ∷ ty.Class 0 ∷ ty.Class 1 ∷ ty.Class 2 ∷ ty.Const 4 ∷ ty.Ref 7 ∷ ty.Ref 4 ∷ ty.Void
      ∷ ty.Fun 0 ∷ ty.Fun 1 ∷ ty.Fun 2 ∷ ty.Fun 3 ∷ ty.Fun 4 ∷ ty.Fun 5 ∷ ty.Fun 6 ∷ ty.Fun 7 ∷ ty.Fun 8 ∷ ty.Fun 9 ∷ ty.Const 5 ∷ [];
  funs =
      fun 10 (1 ∷ []) false ∷ fun 10 (2 ∷ []) false ∷ fun 10 (3 ∷ []) false ∷ fun 10 (5 ∷ []) false ∷ fun 10 (1 ∷ 2 ∷ []) false
      ∷ fun 1 [] false ∷ fun 1 [] true ∷ fun 2 [] false ∷ fun 4 [] false ∷ fun 9 [] false ∷ [];
}

abbrev member : List ℕ → What → ℕ → ℕ → MemberDef
member name w t defaults = record {
  name = name;
  what = w;
  ty = t;
  access = access.Public;
  is_static = false;
  is_virtual = false;
  is_pure = false;
  is_inline = true;
  defaults = defaults;
  at = 0;
}

abbrev constructor : ℕ → MemberDef
constructor t = member (codes "__ct") what.Constructor t 0

abbrev conversion : List ℕ → ℕ → MemberDef
conversion name t = member name what.Convert t 0

abbrev class : List ℕ → List MemberDef → ClassDef
class bases members = record { is_struct = true; bases = from bases; members = members; friends = [] }
  where
    from : List ℕ → List BaseDef
    from [] = []
    from (b ∷ bs) = record { class = b; is_virtual = false; access = access.Public } ∷ from bs

abbrev alone : List MemberDef → List (ℕ × ClassDef)
alone members = (0, class [] members) ∷ []

abbrev pair : List MemberDef → List MemberDef → List (ℕ × ClassDef)
pair first second = (1, class [] second) ∷ (0, class [] first) ∷ []

abbrev result : ℕ → Val
result t = record { ty = t; lvalue = false; zero = false }

abbrev object : ℕ → Val
object t = record { ty = t; lvalue = true; zero = false }

abbrev zero_constant : Val
zero_constant = record { ty = 1; lvalue = false; zero = true }

abbrev by : ℕ → ℕ → List ConvStep → List ConvStep → User
by c i before after = One (record { function = record { class = c; index = i }; before = before; after = after })

-- `struct C0{C0(int);};`, from a char
by_a_constructor : by_user types (alone (constructor 11 ∷ [])) (object 0) 4 ≡ by 0 0 (Read ∷ Promote ∷ []) []
by_a_constructor = refl

-- to a reference to const a temporary is made, to another reference none
reference_to_const : by_user types (alone (constructor 11 ∷ [])) (result 1) 8 ≡ by 0 0 [] (AddConst ∷ [])
reference_to_const = refl

no_other_reference : by_user types (alone (constructor 11 ∷ [])) (result 1) 9 ≡ Nothing
no_other_reference = refl

-- of the constructors the better one: `C0(int)` before `C0(long)` for a char, neither of `C0(long)` and `C0(char*)` for 0
promotion_is_chosen : by_user types (alone (constructor 12 ∷ constructor 11 ∷ [])) (result 0) 4 ≡ by 0 1 (Promote ∷ []) []
promotion_is_chosen = refl

tie_of_constructors : by_user types (alone (constructor 12 ∷ constructor 13 ∷ [])) zero_constant 4 ≡ Many
tie_of_constructors = refl

-- further parameters need default arguments
no_default_argument : by_user types (alone (constructor 15 ∷ [])) (result 1) 4 ≡ Nothing
no_default_argument = refl

default_argument : by_user types (alone (record (constructor 15) { defaults = 1 } ∷ [])) (result 1) 4 ≡ by 0 0 [] []
default_argument = refl

-- one user's function alone: no constructor takes what a conversion function gives
one_function_alone : by_user types (pair (constructor 12 ∷ []) (conversion (codes "__opi") 16 ∷ [])) (result 5) 4 ≡ Nothing
one_function_alone = refl

-- `operator int()`: to a long by a conversion after it
by_a_conversion_function : by_user types (alone (conversion (codes "__opi") 16 ∷ [])) (object 4) 2 ≡ by 0 0 [] (Integer kind.Long ∷ [])
by_a_conversion_function = refl

-- `operator int()` is better than `operator long()` to an int, and neither is to a char
better_conversion_function : by_user types (alone (conversion (codes "__opl") 18 ∷ conversion (codes "__opi") 16 ∷ [])) (object 4) 1 ≡ by 0 1 [] []
better_conversion_function = refl

two_conversion_functions : by_user types (alone (conversion (codes "__opl") 18 ∷ conversion (codes "__opi") 16 ∷ [])) (object 4) 0 ≡ Many
two_conversion_functions = refl

-- two that differ in const alone both serve for an object that is not const; for a const one the const one does
const_and_not : by_user types (alone (conversion (codes "__opi") 16 ∷ conversion (codes "__opi") 17 ∷ [])) (object 4) 1 ≡ Many
const_and_not = refl

const_object : by_user types (alone (conversion (codes "__opi") 16 ∷ conversion (codes "__opi") 17 ∷ [])) (object 7) 1 ≡ by 0 1 [] []
const_object = refl

no_const_function : by_user types (alone (conversion (codes "__opi") 16 ∷ [])) (object 7) 1 ≡ Nothing
no_const_function = refl

const_is_added_to_the_object : by_user types (alone (conversion (codes "__opi") 17 ∷ [])) (object 4) 1 ≡ by 0 0 (AddConst ∷ []) []
const_is_added_to_the_object = refl

-- a conversion function of a base counts, unless the class has one to the same type
abbrev derived : List MemberDef → List (ℕ × ClassDef)
derived members = (1, class (0 ∷ []) members) ∷ (0, class [] (conversion (codes "__opi") 16 ∷ [])) ∷ []

of_a_base : by_user types (derived []) (object 5) 1 ≡ by 0 0 (ToBase (Base 0 ∷ []) ∷ []) []
of_a_base = refl

hidden_in_a_base : by_user types (derived (conversion (codes "__opi") 16 ∷ [])) (object 5) 1 ≡ by 1 0 [] []
hidden_in_a_base = refl

other_type_in_a_base : by_user types (derived (conversion (codes "__opl") 18 ∷ [])) (object 5) 1 ≡ by 0 0 (ToBase (Base 0 ∷ []) ∷ []) []
other_type_in_a_base = refl

-- of two parts of one class both functions serve
of_two_parts : by_user types ((2, class (0 ∷ 1 ∷ []) []) ∷ (1, class [] (conversion (codes "__opi") 16 ∷ [])) ∷ (0, class [] (conversion (codes "__opi") 16 ∷ [])) ∷ []) (object 6) 1 ≡ Many
of_two_parts = refl

-- a constructor of one class and a conversion function of the other are ambiguous
constructor_and_conversion : by_user types (pair (constructor 14 ∷ []) (conversion (codes "__op2C0") 19 ∷ [])) (object 5) 4 ≡ Many
constructor_and_conversion = refl

-- a function that gives a reference gives an object, which a reference binds
reference_to_the_result : by_user types (pair [] (conversion (codes "__opR2C0") 20 ∷ [])) (object 5) 9 ≡ by 1 0 [] []
reference_to_the_result = refl

-- without constructors and conversion functions none serves
no_function : by_user types (pair [] []) (object 5) 4 ≡ Nothing
no_function = refl

-- two conversions by one function are compared by what comes after it, and by two functions not at all
abbrev serves : ℕ → List ConvStep → Serving
serves i after = record { function = record { class = 0; index = i }; before = []; after = after }

same_function : is_better_user types (alone []) 1 (serves 0 []) 2 (serves 0 (Integer kind.Long ∷ [])) ≡ true
same_function = refl

other_function : is_better_user types (alone []) 1 (serves 0 []) 2 (serves 1 (Integer kind.Long ∷ [])) ≡ false
other_function = refl
