-- Paths, lookup, overriders and special functions of small classes, by evaluation.
use Rattle.std.proofs.Common.{ℕ, ◌≡◌, false, [], ◌∷◌, refl, codes}
use Rattle.cf_classes.specs.declared.path.Step.TheVariants.{Base, VBase}
use Rattle.cf_classes.specs.declared.class.MemberDef.{MemberDef}
use Rattle.cf_classes.specs.Subobject.{paths}
use Rattle.cf_classes.specs.Lookup.{One, Nothing, Many, found}
use Rattle.cf_classes.specs.Overrider as override
use Rattle.cf_classes.specs.Overrider.{over, has_table, owns_table}
use Rattle.cf_classes.specs.Special.{Declared, specials, Generated, Trivial, Absent}
use Rattle.cf_classes.proofs.Examples.{types, field, static_field, function_named, plain, virtual_function, destructor, constructor, from, struct_of, diamond, two_parts}

-- all routes to a virtual base are one path
diamond_has_four_paths : paths (diamond [] [] [] []) 3 ≡ [] ∷ (Base 0 ∷ []) ∷ (Base 1 ∷ []) ∷ (VBase 0 ∷ []) ∷ []
diamond_has_four_paths = refl

-- and without it there are two parts
two_parts_have_five_paths : paths (two_parts []) 3 ≡ [] ∷ (Base 0 ∷ []) ∷ (Base 0 ∷ Base 0 ∷ []) ∷ (Base 1 ∷ []) ∷ (Base 1 ∷ Base 0 ∷ []) ∷ []
two_parts_have_five_paths = refl

-- `struct A{int x;};class B{int x;};struct C:A,B{..};`
ambiguous_member : found ((2, struct_of (from 0 ∷ from 1 ∷ []) []) ∷ (1, struct_of [] (field (codes "x") 1 ∷ [])) ∷ (0, struct_of [] (field (codes "x") 1 ∷ [])) ∷ []) 2 (codes "x") ≡ Many
ambiguous_member = refl

-- a name in A dominates the same name in its virtual base V
dominant_member : found (diamond (field (codes "x") 1 ∷ []) (field (codes "x") 1 ∷ []) [] []) 3 (codes "x") ≡ One (Base 0 ∷ []) (record { class = 1; index = 0 } ∷ [])
dominant_member = refl

-- in V alone it is one member
virtual_base_member : found (diamond (field (codes "x") 1 ∷ []) [] [] []) 3 (codes "x") ≡ One (VBase 0 ∷ []) (record { class = 0; index = 0 } ∷ [])
virtual_base_member = refl

-- in two parts of one class a data member is ambiguous, and a static one is not
two_data_members : found (two_parts (field (codes "x") 1 ∷ [])) 3 (codes "x") ≡ Many
two_data_members = refl

one_static_member : found (two_parts (static_field (codes "x") 1 ∷ [])) 3 (codes "x") ≡ One (Base 0 ∷ Base 0 ∷ []) (record { class = 0; index = 0 } ∷ [])
one_static_member = refl

-- overloaded static functions along two paths are not one member
two_static_functions : found (two_parts (static_field (codes "f") 3 ∷ static_field (codes "f") 6 ∷ [])) 3 (codes "f") ≡ Many
two_static_functions = refl

no_member : found (diamond [] [] [] []) 3 (codes "x") ≡ Nothing
no_member = refl

-- overloaded functions of one class are found together
overloaded : found ((0, struct_of [] (plain (codes "f") ∷ field (codes "x") 1 ∷ plain (codes "f") ∷ [])) ∷ []) 0 (codes "f") ≡ One [] (record { class = 0; index = 0 } ∷ record { class = 0; index = 2 } ∷ [])
overloaded = refl

-- the function in A overrides that of V, also for an object of class D
sister_overrides : over types (diamond (virtual_function (codes "f") ∷ []) (plain (codes "f") ∷ []) [] []) 3 (VBase 0 ∷ []) (function_named (codes "f")) ≡ override.One (Base 0 ∷ []) (record { class = 1; index = 0 })
sister_overrides = refl

-- two overriders, neither of which is in a base of the other's class
no_final_overrider : over types (diamond (virtual_function (codes "f") ∷ []) (plain (codes "f") ∷ []) (plain (codes "f") ∷ []) []) 3 (VBase 0 ∷ []) (function_named (codes "f")) ≡ override.Many
no_final_overrider = refl

-- unless D has one of its own
own_overrider : over types (diamond (virtual_function (codes "f") ∷ []) (plain (codes "f") ∷ []) (plain (codes "f") ∷ []) (plain (codes "f") ∷ [])) 3 (VBase 0 ∷ []) (function_named (codes "f")) ≡ override.One [] (record { class = 3; index = 0 })
own_overrider = refl

-- a function that overrides that of a virtual base needs no table pointer of its class
no_table_of_its_own : owns_table types (diamond (virtual_function (codes "f") ∷ []) (plain (codes "f") ∷ []) [] []) 1 ≡ false
no_table_of_its_own = refl

-- `struct P{int a;int b;};`: nothing is needed
plain_struct : specials types ((0, struct_of [] (field (codes "a") 1 ∷ field (codes "b") 1 ∷ [])) ∷ []) 0 ≡ record { constructor = Trivial; destructor = Trivial; copy = Trivial; assign = Trivial }
plain_struct = refl

-- a const member excludes the default constructor and the assignment
const_member : specials types ((0, struct_of [] (field (codes "a") 11 ∷ [])) ∷ []) 0 ≡ record { constructor = Absent; destructor = Trivial; copy = Trivial; assign = Absent }
const_member = refl

-- an array of objects with a destructor makes one needed
member_with_destructor : specials types ((1, struct_of [] (field (codes "a") 12 ∷ [])) ∷ (0, struct_of [] (destructor ∷ [])) ∷ []) 1 ≡ record { constructor = Trivial; destructor = Generated; copy = Trivial; assign = Trivial }
member_with_destructor = refl

-- virtual functions make three of the four needed
virtual_functions : specials types ((0, struct_of [] (virtual_function (codes "f") ∷ [])) ∷ []) 0 ≡ record { constructor = Generated; destructor = Trivial; copy = Generated; assign = Generated }
virtual_functions = refl

-- so do virtual bases, and a declared constructor is the default one where it takes no argument
virtual_base : specials types (diamond (constructor ∷ []) [] [] []) 3 ≡ record { constructor = Generated; destructor = Trivial; copy = Generated; assign = Generated }
virtual_base = refl

-- `operator=(int)` leaves the copying assignment generated, and `operator=(C0&)` does not
abbrev assignment_from : ℕ → MemberDef
assignment_from t = record (plain (codes "__as")) { ty = t }

assignment_from_int : specials types ((0, struct_of [] (assignment_from 17 ∷ [])) ∷ []) 0 ≡ record { constructor = Trivial; destructor = Trivial; copy = Trivial; assign = Trivial }
assignment_from_int = refl

assignment_from_itself : specials types ((0, struct_of [] (assignment_from 18 ∷ [])) ∷ []) 0 ≡ record { constructor = Trivial; destructor = Trivial; copy = Trivial; assign = Declared }
assignment_from_itself = refl

-- a constructor that takes the class itself is a copy constructor; it leaves no default constructor
abbrev copying : MemberDef
copying = record constructor { ty = 18 }

copy_constructor : specials types ((0, struct_of [] (copying ∷ [])) ∷ []) 0 ≡ record { constructor = Absent; destructor = Trivial; copy = Declared; assign = Trivial }
copy_constructor = refl

-- a virtual base without a default constructor leaves none to the classes below it, though those between them declare one
indirect_virtual_base : specials types (diamond (copying ∷ []) (constructor ∷ []) (constructor ∷ []) []) 3 ≡ record { constructor = Absent; destructor = Trivial; copy = Generated; assign = Generated }
indirect_virtual_base = refl
