-- Conversions between types of a small table, by evaluation.
use Rattle.std.proofs.Common.{◌≡◌, ℕ, true, false, List, [], ◌∷◌, None, Some, refl}
use Rattle.cf_base.specs.declared.kind.Kind.TheVariants as kind
use Rattle.cf_types.specs.declared.ty.Ty.TheVariants as ty
use Rattle.cf_types.specs.Table.{Table}
use Rattle.cf_classes.specs.declared.path.Step.TheVariants.{Base, VBase}
use Rattle.cf_classes.specs.declared.class.Access.TheVariants as access
use Rattle.cf_classes.specs.declared.class.ClassDef.{ClassDef}
use Rattle.cf_convert.specs.declared.conv.Val.{Val}
use Rattle.cf_convert.specs.declared.conv.ConvStep.TheVariants.{Read, Decay, AddConst, Promote, Integer, Null, ToVoid, ToBase, ToMember}
use Rattle.cf_convert.specs.Constness.{is_const, is_alike}
use Rattle.cf_convert.specs.Converts.{steps}
use Rattle.cf_convert.specs.Better.{is_better}

-- the types by number: 0 char, 1 int, 2 long, 3 unsigned short, 4 enumeration 0, 5 `const int`, 6 `int*`, 7 `const int*`, 8 void, 9 `void*`, 10 `const void*`,
-- 11 `int[3]`, 12 `int()`, 13 `int(*)()`, 14 `int&`, 15 `const int&`, 16 to 18 classes 0 to 2, 19 to 21 pointers to them, 22 `C0&`, 23 and 24 `int C0::*`, `int C2::*`, 25 `int**`, 26 `const int**`,
-- 27 `const void`, 28 `const int[3]`, 29 `int(*)[3]`, 30 `const int(*)[3]`, 31 `int(&)[3]`, 32 `const int(&)[3]`, 33 `const int* const`, 34 `const int* const&`,
-- 35 `int[2][3]`, 36 `const int[2][3]`, 37 `const C0&`, 38 `int C1::*`, 39 `const int C0::*`
abbrev types : Table
types = record {
  types =
      ty.Int kind.Char ∷ ty.Int kind.Int ∷ ty.Int kind.Long ∷ ty.Int kind.UShort ∷ ty.Enum 0 ∷ ty.Const 1 ∷ ty.Ptr 1 ∷ ty.Ptr 5 ∷ ty.Void ∷ ty.Ptr 8 ∷ ty.Ptr 27
      ∷ ty.Array 1 3 ∷ ty.Fun 0 ∷ ty.Ptr 12 ∷ ty.Ref 1 ∷ ty.Ref 5 ∷ ty.Class 0 ∷ ty.Class 1 ∷ ty.Class 2 ∷ ty.Ptr 16 ∷ ty.Ptr 17 ∷ ty.Ptr 18 ∷ ty.Ref 16
      ∷ ty.MemData 0 1 ∷ ty.MemData 2 1 ∷ ty.Ptr 6 ∷ ty.Ptr 7 ∷ ty.Const 8
      ∷ ty.Array 5 3 ∷ ty.Ptr 11 ∷ ty.Ptr 28 ∷ ty.Ref 11 ∷ ty.Ref 28 ∷ ty.Const 7 ∷ ty.Ref 33 ∷ ty.Array 11 2 ∷ ty.Array 28 2 ∷ ty.Ref 40 ∷ ty.MemData 1 1 ∷ ty.MemData 0 5 ∷ ty.Const 16 ∷ [];
  funs = record { result = 1; params = []; is_const = false } ∷ [];
}

abbrev derived : ℕ → ClassDef
derived c = record { is_struct = true; bases = record { class = c; is_virtual = false; access = access.Public } ∷ []; members = []; friends = [] }

-- class 1 is derived from class 0, and class 2 from class 1
abbrev classes : List (ℕ × ClassDef)
classes = (2, derived 1) ∷ (1, derived 0) ∷ (0, record { is_struct = true; bases = []; members = []; friends = [] }) ∷ []

abbrev object : ℕ → Val
object t = record { ty = t; lvalue = true; zero = false }

abbrev result : ℕ → Val
result t = record { ty = t; lvalue = false; zero = false }

abbrev zero_constant : Val
zero_constant = record { ty = 1; lvalue = false; zero = true }

read_alone : steps types classes (object 1) 1 ≡ Some (Read ∷ [])
read_alone = refl

char_is_promoted : steps types classes (object 0) 1 ≡ Some (Read ∷ Promote ∷ [])
char_is_promoted = refl

unsigned_short_is_promoted_to_int : steps types classes (result 3) 1 ≡ Some (Promote ∷ [])
unsigned_short_is_promoted_to_int = refl

int_to_long : steps types classes (result 1) 2 ≡ Some (Integer kind.Long ∷ [])
int_to_long = refl

enumeration_is_promoted : steps types classes (result 4) 1 ≡ Some (Promote ∷ [])
enumeration_is_promoted = refl

no_integer_to_enumeration : steps types classes (result 1) 4 ≡ None
no_integer_to_enumeration = refl

zero_to_pointer : steps types classes zero_constant 7 ≡ Some (Null ∷ [])
zero_to_pointer = refl

const_added_under_pointer : steps types classes (result 6) 7 ≡ Some (AddConst ∷ [])
const_added_under_pointer = refl

const_not_dropped_under_pointer : steps types classes (result 7) 6 ≡ None
const_not_dropped_under_pointer = refl

const_not_added_two_levels_below : steps types classes (result 25) 26 ≡ None
const_not_added_two_levels_below = refl

pointer_to_void : steps types classes (result 6) 9 ≡ Some (ToVoid ∷ [])
pointer_to_void = refl

pointer_to_const_void : steps types classes (result 6) 10 ≡ Some (ToVoid ∷ AddConst ∷ [])
pointer_to_const_void = refl

const_not_dropped_to_void : steps types classes (result 7) 9 ≡ None
const_not_dropped_to_void = refl

void_to_no_other_pointer : steps types classes (result 9) 6 ≡ None
void_to_no_other_pointer = refl

array_as_pointer_to_const : steps types classes (object 11) 7 ≡ Some (Decay ∷ AddConst ∷ [])
array_as_pointer_to_const = refl

function_as_pointer : steps types classes (object 12) 13 ≡ Some (Decay ∷ [])
function_as_pointer = refl

function_pointer_not_to_void : steps types classes (result 13) 9 ≡ None
function_pointer_not_to_void = refl

reference_binds : steps types classes (object 1) 14 ≡ Some []
reference_binds = refl

reference_to_const_adds_const : steps types classes (object 1) 15 ≡ Some (AddConst ∷ [])
reference_to_const_adds_const = refl

no_reference_to_a_result : steps types classes (result 1) 14 ≡ None
no_reference_to_a_result = refl

reference_to_const_of_a_result : steps types classes (result 0) 15 ≡ Some (Promote ∷ AddConst ∷ [])
reference_to_const_of_a_result = refl

reference_does_not_drop_const : steps types classes (object 5) 14 ≡ None
reference_does_not_drop_const = refl

derived_to_base : steps types classes (object 18) 16 ≡ Some (Read ∷ ToBase (Base 0 ∷ Base 0 ∷ []) ∷ [])
derived_to_base = refl

derived_pointer_to_base : steps types classes (result 21) 20 ≡ Some (ToBase (Base 0 ∷ []) ∷ [])
derived_pointer_to_base = refl

no_base_to_derived : steps types classes (result 20) 21 ≡ None
no_base_to_derived = refl

reference_to_base : steps types classes (object 17) 22 ≡ Some (ToBase (Base 0 ∷ []) ∷ [])
reference_to_base = refl

member_of_base_to_derived : steps types classes (result 23) 24 ≡ Some (ToMember (Base 0 ∷ Base 0 ∷ []) ∷ [])
member_of_base_to_derived = refl

no_member_of_derived_to_base : steps types classes (result 24) 23 ≡ None
no_member_of_derived_to_base = refl

-- an array of const is const, and the same as one of its elements without const but for const; an array of pointers to const is not const
array_of_const : is_const types 28 ≡ true
array_of_const = refl

array_of_arrays_of_const : is_const types 36 ≡ true
array_of_arrays_of_const = refl

array_without_const : is_const types 11 ≡ false
array_without_const = refl

arrays_alike : is_alike types 36 35 ≡ true
arrays_alike = refl

arrays_of_other_bounds : is_alike types 35 11 ≡ false
arrays_of_other_bounds = refl

-- `const int[3]` as a pointer
const_array_as_pointer_to_const : steps types classes (object 28) 7 ≡ Some (Decay ∷ [])
const_array_as_pointer_to_const = refl

const_array_not_as_pointer : steps types classes (object 28) 6 ≡ None
const_array_not_as_pointer = refl

const_array_not_to_void : steps types classes (object 28) 9 ≡ None
const_array_not_to_void = refl

const_array_to_const_void : steps types classes (object 28) 10 ≡ Some (Decay ∷ ToVoid ∷ [])
const_array_to_const_void = refl

-- pointers to arrays: const of the elements is const under the pointer
array_pointer_adds_const : steps types classes (result 29) 30 ≡ Some (AddConst ∷ [])
array_pointer_adds_const = refl

array_pointer_keeps_const : steps types classes (result 30) 29 ≡ None
array_pointer_keeps_const = refl

const_array_pointer_not_to_void : steps types classes (result 30) 9 ≡ None
const_array_pointer_not_to_void = refl

const_array_pointer_to_const_void : steps types classes (result 30) 10 ≡ Some (ToVoid ∷ [])
const_array_pointer_to_const_void = refl

array_pointer_to_void : steps types classes (result 29) 9 ≡ Some (ToVoid ∷ [])
array_pointer_to_void = refl

-- references to arrays
reference_to_array : steps types classes (object 11) 31 ≡ Some []
reference_to_array = refl

reference_to_const_array : steps types classes (object 28) 32 ≡ Some []
reference_to_const_array = refl

reference_to_array_adds_const : steps types classes (object 11) 32 ≡ Some (AddConst ∷ [])
reference_to_array_adds_const = refl

reference_to_array_keeps_const : steps types classes (object 28) 31 ≡ None
reference_to_array_keeps_const = refl

-- const under the pointer and of the temporary is one step
reference_to_const_pointer : steps types classes (result 6) 34 ≡ Some (AddConst ∷ [])
reference_to_const_pointer = refl

reference_to_const_pointer_object : steps types classes (object 6) 34 ≡ Some (Read ∷ AddConst ∷ [])
reference_to_const_pointer_object = refl

reference_to_same_pointer : steps types classes (object 33) 34 ≡ Some []
reference_to_same_pointer = refl

reference_to_const_base : steps types classes (result 18) 37 ≡ Some (ToBase (Base 0 ∷ Base 0 ∷ []) ∷ AddConst ∷ [])
reference_to_const_base = refl

member_of_const : steps types classes (result 23) 39 ≡ Some (AddConst ∷ [])
member_of_const = refl

-- but not where the base is virtual
abbrev virtually : List (ℕ × ClassDef)
virtually =
    (2, record { is_struct = true; bases = record { class = 0; is_virtual = true; access = access.Public } ∷ []; members = []; friends = [] })
    ∷ (0, record { is_struct = true; bases = []; members = []; friends = [] }) ∷ []

no_member_of_virtual_base : steps types virtually (result 23) 24 ≡ None
no_member_of_virtual_base = refl

pointer_to_virtual_base : steps types virtually (result 21) 19 ≡ Some (ToBase (VBase 0 ∷ []) ∷ [])
pointer_to_virtual_base = refl

-- promotion is better than another conversion, no const than const, the nearer base than the further, and any base than `void*`; each with the type
-- that is gone to
promotion_first : is_better types classes 1 (Read ∷ Promote ∷ []) 2 (Read ∷ Integer kind.Long ∷ []) ≡ true
promotion_first = refl

without_const_first : is_better types classes 14 [] 15 (AddConst ∷ []) ≡ true
without_const_first = refl

nearer_base_first : is_better types classes 20 (ToBase (Base 0 ∷ []) ∷ []) 19 (ToBase (Base 0 ∷ Base 0 ∷ []) ∷ []) ≡ true
nearer_base_first = refl

further_base_not_first : is_better types classes 19 (ToBase (Base 0 ∷ Base 0 ∷ []) ∷ []) 20 (ToBase (Base 0 ∷ []) ∷ []) ≡ false
further_base_not_first = refl

base_before_void : is_better types classes 19 (ToBase (Base 0 ∷ Base 0 ∷ []) ∷ []) 9 (ToVoid ∷ []) ≡ true
base_before_void = refl

void_not_before_base : is_better types classes 9 (ToVoid ∷ []) 19 (ToBase (Base 0 ∷ Base 0 ∷ []) ∷ []) ≡ false
void_not_before_base = refl

-- const comes before the nearer base
const_before_nearer_base : is_better types classes 22 (ToBase (Base 0 ∷ Base 0 ∷ []) ∷ []) 20 (ToBase (Base 0 ∷ []) ∷ AddConst ∷ []) ≡ true
const_before_nearer_base = refl

-- a class by value against a reference to its base: only the first reads the lvalue
nearer_base_by_value : is_better types classes 17 (Read ∷ ToBase (Base 0 ∷ []) ∷ []) 22 (ToBase (Base 0 ∷ Base 0 ∷ []) ∷ []) ≡ true
nearer_base_by_value = refl

further_base_by_value : is_better types classes 16 (Read ∷ ToBase (Base 0 ∷ Base 0 ∷ []) ∷ []) 20 (ToBase (Base 0 ∷ []) ∷ []) ≡ false
further_base_by_value = refl

-- of `int C0::*`, the class nearer to C0 is better: C1, and then C2
nearer_member_first : is_better types classes 38 (ToMember (Base 0 ∷ []) ∷ []) 24 (ToMember (Base 0 ∷ Base 0 ∷ []) ∷ []) ≡ true
nearer_member_first = refl

further_member_not_first : is_better types classes 24 (ToMember (Base 0 ∷ Base 0 ∷ []) ∷ []) 38 (ToMember (Base 0 ∷ []) ∷ []) ≡ false
further_member_not_first = refl

-- a null constant goes to `int*` and to `const int*` alike
null_pointers_tie : is_better types classes 6 (Null ∷ []) 7 (Null ∷ []) ≡ false
null_pointers_tie = refl
