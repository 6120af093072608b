-- Cores whose parts have other types than their nodes take have no meaning at all, rather than an act.
use Rattle.std.proofs.Common.{◌≡◌, [], ◌∷◌, refl}
use Rattle.std.specs.Prelude.{None, codes}
use Rattle.cf_core.specs.declared.operators.PointerOperator.TheVariants as ptr
use Rattle.cf_core.specs.Types.{integer, void, class, array}
use Rattle.cf_base.specs.declared.kind.Kind.TheVariants.{Char, Int}
use Rattle.cf_base.specs.declared.arith.Arith.TheVariants as op
use Rattle.cf_core.specs.Subobjects.{base}
use Rattle.cf_core.specs.Core.{absent, none, local, member, read, decay, convert, up, pointer_operate, operate, call, list, string, zeros, blank, full, declare, leave}
use Rattle.cf_core.proofs.Sample.{int, function_type, function_of, listed, in_block, returns, num, set, called}
use Rattle.cf_core.proofs.ActRows.{ends_of, int_pointer, two_classes, act}

class_is_read : ends_of two_classes [] (declare 0 (class (codes "1A")) blank ∷ full (read (local 0)) ∷ []) ≡ None
class_is_read = refl

array_is_read : ends_of [] [] (declare 0 (array int 2) blank ∷ full (read (local 0)) ∷ []) ≡ None
array_is_read = refl

class_is_written : ends_of two_classes [] (declare 0 (class (codes "1A")) blank ∷ set (local 0) (num 1) ∷ []) ≡ None
class_is_written = refl

no_such_member : ends_of two_classes [] (declare 0 (class (codes "1A")) blank ∷ full (member (local 0) 1) ∷ []) ≡ None
no_such_member = refl

no_such_base : ends_of two_classes [] (declare 0 (class (codes "1A")) blank ∷ full (up (base 0 ∷ []) (local 0)) ∷ []) ≡ None
no_such_base = refl

decay_of_what_is_no_array : ends_of [] [] (declare 0 int (num 1) ∷ full (decay (local 0)) ∷ []) ≡ None
decay_of_what_is_no_array = refl

-- void f(){}int x=f();
void_is_used : ends_of [] (function_of (codes "f__Fv") [] void (in_block []) ∷ []) (declare 0 int (called (codes "f__Fv") [] void []) ∷ []) ≡ None
void_is_used = refl

-- and `f();` alone has a meaning, where the value that is missing is of an int function too
missing_value_is_used : ends_of [] (function_of (codes "f__Fv") [] int (in_block []) ∷ []) (declare 0 int (called (codes "f__Fv") [] int []) ∷ []) ≡ act 16
missing_value_is_used = refl

null_and_a_number : ends_of [] [] (full (pointer_operate ptr.Equal (convert int_pointer (num 0)) (num 0)) ∷ []) ≡ None
null_and_a_number = refl

null_is_ordered_with_a_number : ends_of [] [] (full (pointer_operate ptr.Less (convert int_pointer (num 0)) (num 0)) ∷ []) ≡ None
null_is_ordered_with_a_number = refl

number_as_a_pointer : ends_of [] [] (declare 0 int_pointer (convert int_pointer (num 4)) ∷ []) ≡ None
number_as_a_pointer = refl

too_many_elements : ends_of [] [] (declare 0 (array int 1) (list (listed (num 1 ∷ num 2 ∷ [])) zeros) ∷ []) ≡ None
too_many_elements = refl

too_long_a_string : ends_of [] [] (declare 0 (array (integer Char) 2) (string (codes "abc")) ∷ []) ≡ None
too_long_a_string = refl

too_few_arguments : ends_of [] (function_of (codes "f__Fi") (int ∷ []) int (in_block (returns (num 1) ∷ [])) ∷ []) (full (call (codes "f__Fi") (function_type (int ∷ []) int) absent none) ∷ []) ≡ None
too_few_arguments = refl

break_without_a_loop : ends_of [] [] (leave ∷ []) ≡ None
break_without_a_loop = refl

operand_of_another_type : ends_of [] [] (returns (operate op.Add Int (num 4294967295) (num 1)) ∷ []) ≡ None
operand_of_another_type = refl
