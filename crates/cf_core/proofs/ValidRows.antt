-- Validity of cores, tried on the programs of the other rows and on cores with a fault.
use Rattle.std.proofs.Common.{◌≡◌, ℕ, zero, suc, ◌<◌, ◌≤◌, ◌^◌, Bool, true, false, List, [], ◌∷◌, refl, subst, Option, All, slice_get, lit≤, arith}
use Rattle.std.specs.Prelude.{pos, Some, None, codes}
use Rattle.cf_base.specs.declared.kind.Kind.TheVariants.{Int, UInt, Char}
use Rattle.cf_base.specs.declared.arith.Arith.TheVariants as op
use Rattle.cf_core.specs.declared.operators.PointerOperator.TheVariants as ptr
use Rattle.cf_core.specs.Types.{integer, void, class, pointer, reference, array, const, data_member, function_member, Name}
use Rattle.cf_core.specs.Classes.{Class}
use Rattle.cf_core.specs.Subobjects.{base}
use Rattle.cf_core.specs.Core.{Core, Parts, Static, field, direct, local_temporary, static_temporary, assign, none, within, no_parts, part, local, member, read, address, dereference, convert, up, down, from_void, to_member, data_pointer, function_pointer, through, operate, pointer_operate, conditional, new, delete, list, string, bind, zeros, blank, full, sequence, declare, switch, case_label, default_label, leave, once, no_temporary}
use Rattle.cf_core.specs.Calls.{Program}
use Rattle.cf_types.specs.declared.ty.Ty.TheVariants as ty
use Rattle.cf_core.specs.declared.node.Core.{roll-Core}
use Rattle.cf_core.specs.declared.node.Core.TheOpen.{Core-F}
use Rattle.cf_core.specs.declared.node.Core.TheFolds.{fold-roll-Core}
use Rattle.cf_core.specs.declared.unit.Role.TheVariants as role
use Rattle.cf_core.specs.View.{Started, core_step, started_step}
use Rattle.cf_core.specs.Numbers.{known_step, known_part}
use Rattle.cf_core.specs.FromClasses.{signature_of}
use Rattle.cf_core.specs.FromUnit.{Unit, IsValid, WithinLimits, tables_of}
use Rattle.cf_core.specs.FromTypes.{type_of}
use Rattle.cf_core.specs.Size.{size}
use Rattle.cf_classes.specs.Fit.{Fit, class_of_type, enum_of_type}
use Rattle.cf_types.specs.declared.ty.Ty.{Ty}
use Rattle.cf_types.specs.Table.{Names}
use Rattle.cf_core.specs.Valid.{valid_file}
use Rattle.cf_core.proofs.Sample.{int, function_type, function_of, listed, in_block, main_of, returns, num, value_of, called, base_of, plain_class, built_class, constructor_of, static_of}
use Rattle.cf_core.proofs.ActRows.{int_pointer, two_classes}
use Rattle.cf_core.proofs.ClassRows.{dispatch_during_construction}
use Rattle.cf_core.proofs.ControlRows.{arrays_in_members}
use Rattle.cf_core.proofs.ObjectRows.{three_objects, array_of_three, array_of_arrays, three_statics}
use Rattle.cf_core.proofs.ScalarRows.{seven, deep, arguments_in_order, echo, sum_to_four}

abbrev is_valid : Program → Bool
is_valid P = valid_file (record { classes = P.classes; functions = P.functions; statics = P.statics })

seven_is_valid : is_valid seven ≡ true
seven_is_valid = refl

deep_is_valid : is_valid deep ≡ true
deep_is_valid = refl

arguments_are_valid : is_valid arguments_in_order ≡ true
arguments_are_valid = refl

echo_is_valid : is_valid echo ≡ true
echo_is_valid = refl

loop_is_valid : is_valid sum_to_four ≡ true
loop_is_valid = refl

dispatch_is_valid : is_valid dispatch_during_construction ≡ true
dispatch_is_valid = refl

copies_are_valid : is_valid arrays_in_members ≡ true
copies_are_valid = refl

free_store_is_valid : is_valid three_objects ≡ true
free_store_is_valid = refl

arrays_are_valid : is_valid array_of_three ≡ true
arrays_are_valid = refl

arrays_of_arrays_are_valid : is_valid array_of_arrays ≡ true
arrays_of_arrays_are_valid = refl

statics_are_valid : is_valid three_statics ≡ true
statics_are_valid = refl

-- a file of these classes, with these statements as `main`
abbrev with_main : List Class → List Core → Bool
with_main cs ss = valid_file (record { classes = cs; functions = main_of ss ∷ []; statics = [] })

-- struct A{int a;};struct C:A{};int A::*m=&A::a;int C::*n=m;int (A::*f)()=&A::f;C c;c.*n;
pointers_to_members :
    with_main (plain_class (codes "1A") [] (int ∷ []) ∷ plain_class (codes "1C") (base_of (codes "1A") ∷ []) [] ∷ [])
    (declare 0 (data_member (codes "1A") int) (data_pointer 0) ∷ declare 1 (data_member (codes "1C") int) (to_member (base 0 ∷ []) (value_of 0))
    ∷ declare 2 (function_member (codes "1A") (function_type [] int)) (function_pointer (direct (codes "f__1AFv")))
    ∷ declare 3 (class (codes "1C")) blank ∷ returns (read (through (local 3) (value_of 1))) ∷ []) ≡ true
pointers_to_members = refl

-- int x=1;void*p=&x;int*q=(int*)p;const int&r=3;B b;A*a=&b;B*c=(B*)a;int y=q?*q:r;return y;
pointers_and_references :
    with_main two_classes
    (declare 0 int (num 1) ∷ declare 1 (pointer void) (convert (pointer void) (address (local 0))) ∷ declare 2 int_pointer (from_void int (value_of 1))
    ∷ declare 3 (reference (const int)) (bind (local_temporary 4 (const int)) (num 3))
    ∷ declare 5 (class (codes "1B")) blank ∷ declare 6 (pointer (class (codes "1A"))) (up (base 0 ∷ []) (address (local 5)))
    ∷ declare 7 (pointer (class (codes "1B"))) (down (codes "1B") (base 0 ∷ []) (value_of 6))
    ∷ declare 8 int (conditional (value_of 2) (read (dereference (value_of 2))) (value_of 3)) ∷ returns (value_of 8) ∷ []) ≡ true
pointers_and_references = refl

-- char s[3]="ab";int a[2][2]={{1}};delete new int;
arrays_and_free_store :
    with_main [] (declare 0 (array (integer Char) 3) (string (codes "ab")) ∷ declare 1 (array (array int 2) 2) (list (listed (list (listed (num 1 ∷ [])) zeros ∷ [])) zeros)
    ∷ full (delete int (new int blank)) ∷ []) ≡ true
arrays_and_free_store = refl

-- Cores with a fault.

break_without_a_loop : with_main [] (leave ∷ []) ≡ false
break_without_a_loop = refl

label_without_a_switch : with_main [] (case_label (pos 1) ∷ []) ≡ false
label_without_a_switch = refl

same_label_twice : with_main [] (switch (num 1) (listed (case_label (pos 1) ∷ case_label (pos 1) ∷ [])) ∷ []) ≡ false
same_label_twice = refl

label_passes_an_initialiser : with_main [] (switch (num 1) (listed (sequence (listed (declare 0 int (num 1) ∷ [])) ∷ default_label ∷ [])) ∷ []) ≡ false
label_passes_an_initialiser = refl

no_such_local : with_main [] (returns (value_of 3) ∷ []) ≡ false
no_such_local = refl

class_is_read : with_main two_classes (declare 0 (class (codes "1A")) blank ∷ full (read (local 0)) ∷ []) ≡ false
class_is_read = refl

no_such_member : with_main two_classes (declare 0 (class (codes "1A")) blank ∷ full (member (local 0) 1) ∷ []) ≡ false
no_such_member = refl

operands_of_other_types : with_main [] (declare 0 (integer UInt) (num 1) ∷ returns (operate op.Add Int (value_of 0) (num 1)) ∷ []) ≡ false
operands_of_other_types = refl

constant_out_of_range : with_main [] (declare 0 (integer Char) (num 200) ∷ []) ≡ false
constant_out_of_range = refl

pointer_and_a_number : with_main [] (declare 0 int_pointer (convert int_pointer (num 0)) ∷ full (pointer_operate ptr.Equal (value_of 0) (num 0)) ∷ []) ≡ false
pointer_and_a_number = refl

value_of_void : valid_file (record { classes = []; functions = function_of (codes "f__Fv") [] void (in_block []) ∷ main_of (returns (called (codes "f__Fv") [] void []) ∷ []) ∷ []; statics = [] }) ≡ false
value_of_void = refl

too_many_arguments : with_main [] (returns (called (codes "f__Fv") [] int (num 1 ∷ [])) ∷ []) ≡ false
too_many_arguments = refl

void_function_gives_a_value : valid_file (record { classes = []; functions = function_of (codes "f__Fv") [] void (in_block (returns (num 1) ∷ [])) ∷ []; statics = [] }) ≡ false
void_function_gives_a_value = refl

class_is_not_defined : with_main [] (declare 0 (class (codes "1A")) blank ∷ []) ≡ false
class_is_not_defined = refl

two_functions_of_one_name : valid_file (record { classes = []; functions = main_of [] ∷ main_of [] ∷ []; statics = [] }) ≡ false
two_functions_of_one_name = refl

-- struct A{};struct B:A{int b;B(){..}};: parts in the order of building, and in another
abbrev with_parts : Parts → Bool
with_parts ps = valid_file (record {
  classes = plain_class (codes "1A") [] [] ∷ built_class (codes "1B") (base_of (codes "1A") ∷ []) (int ∷ []) [] None ∷ [];
  functions = constructor_of (codes "1B") (codes "__ct__1BFv") [] ps [] ∷ [];
  statics = [];
})

parts_in_order : with_parts (part (within (base 0)) blank (part (field 0) (num 1) no_parts)) ≡ true
parts_in_order = refl

parts_out_of_order : with_parts (part (field 0) (num 1) (part (within (base 0)) blank no_parts)) ≡ false
parts_out_of_order = refl

-- int main(){static int&r=f();return r;}: the initialiser stands in the function, and a file-level reference has one
abbrev with_reference : Option Name → Bool
with_reference f = valid_file (record {
  classes = [];
  functions = main_of (once (codes "r__L1__main") (bind no_temporary (called (codes "f__Fv") [] (reference int) [])) ∷ []) ∷ [];
  statics = record (static_of (codes "r__L1__main") (reference int)) { owner = f; is_constant = false } ∷ [];
})

local_reference : with_reference (Some (codes "__main")) ≡ true
local_reference = refl

reference_without_an_initialiser : with_reference None ≡ false
reference_without_an_initialiser = refl

local_of_no_function : with_reference (Some (codes "g__Fv")) ≡ false
local_of_no_function = refl

-- const int&r=3; at the file: the temporary is a static object of the file
abbrev with_temporary : List Static → Bool
with_temporary ss = valid_file (record {
  classes = [];
  functions = [];
  statics = record (static_of (codes "r") (reference (const int))) { start = bind (static_temporary (codes "r__t")) (num 3) } ∷ ss;
})

static_temporary_is_there : with_temporary (static_of (codes "r__t") (const int) ∷ []) ≡ true
static_temporary_is_there = refl

static_temporary_is_missing : with_temporary [] ≡ false
static_temporary_is_missing = refl

-- int a;int b;b=a; as a generated assignment does it: a scalar without a value is moved too
scalar_of_a_generated_assignment : with_main [] (declare 0 int blank ∷ declare 1 int blank ∷ full (assign int (local 1) (local 0) none) ∷ []) ≡ true
scalar_of_a_generated_assignment = refl

-- int(*f)()=..;f==0; and f==f
abbrev with_functions : Core → Bool
with_functions e =
    with_main [] (declare 0 (pointer (function_type [] int)) (convert (pointer (function_type [] int)) (num 0)) ∷ full (pointer_operate ptr.Equal (value_of 0) e) ∷ [])

function_is_compared_with_null : with_functions (convert (pointer (function_type [] int)) (num 0)) ≡ true
function_is_compared_with_null = refl

functions_are_not_compared : with_functions (value_of 0) ≡ false
functions_are_not_compared = refl

-- int A::*m=&A::a;m<m; is none
members_are_not_ordered :
    with_main two_classes (declare 0 (data_member (codes "1A") int) (data_pointer 0) ∷ full (pointer_operate ptr.Less (value_of 0) (value_of 0)) ∷ []) ≡ false
members_are_not_ordered = refl

-- int main(){return 7;} as elaboration makes it
abbrev seven_unit : Unit
seven_unit = record {
  types = record { types = ty.Int Int ∷ []; funs = [] };
  classes = record { labels = []; enums = []; defined = [] };
  functions = record {
    name = codes "__main";
    role = role.Plain;
    result = 0;
    params = [];
    locals = [];
    body = roll-Core (Core-F.Block 10 (roll-Core (Core-F.Return 11 (Some (roll-Core (Core-F.Number 18 (pos 7))))) ∷ []));
    is_shared = false;
    is_local = false;
  } ∷ [];
  statics = [];
}

seven_types_fit : Fit seven_unit.types seven_unit.classes
seven_types_fit = record {
  classes_given = given;
  enums_given = enums;
  types_exist = λ i d h. cc;
  fields_defined = λ i d h. cc;
  sizes = λ i d h. cc;
}
  where
    given : (i : ℕ) (t : Ty) → slice_get seven_unit.types.types i ≡ Some t → All (λ c. c < 0) (class_of_type t)
    given zero t h = let e : ty.Int Int ≡ t = cc in subst (λ u. All (λ c. c < 0) (class_of_type u)) e (λ k d h. absurd (omega arith))
    given (suc i) t h = cc

    enums : (i : ℕ) (t : Ty) → slice_get seven_unit.types.types i ≡ Some t → All (λ e. e < 0) (enum_of_type t)
    enums zero t h = let e : ty.Int Int ≡ t = cc in subst (λ u. All (λ e. e < 0) (enum_of_type u)) e (λ k d h. absurd (omega arith))
    enums (suc i) t h = cc

seven_within_limits : WithinLimits seven_unit
seven_within_limits = record { sizes = sizes; functions = refl; statics = refl; descriptions = refl }
  where
    sizes : (t : ℕ) → t < 1 → size [] (type_of (tables_of seven_unit) t) ≤ 2 ^ 22
    sizes zero h = lit≤ tt
    sizes (suc t) h = absurd (omega arith)

seven_unit_is_valid : IsValid seven_unit
seven_unit_is_valid = record {
  names = named;
  fit = seven_types_fit;
  limits = seven_within_limits;
  functions = simp (fold-roll-Core Bool Bool (known_step (tables_of seven_unit)) (known_part (tables_of seven_unit)));
  statics = refl;
  file = simp (fold-roll-Core Core Started (core_step (tables_of seven_unit) (signature_of (tables_of seven_unit))) (started_step (tables_of seven_unit) (signature_of (tables_of seven_unit))));
}
  where
    named : (i : ℕ) (t : Ty) → slice_get seven_unit.types.types i ≡ Some t → Names [] i 0 t
    named zero t h = let e : ty.Int Int ≡ t = cc in subst (Names [] 0 0) e (record { parts_known = λ k d h. absurd (omega arith); fun_known = λ k d h. absurd (omega arith) })
    named (suc i) t h = cc
