-- A function with a switch of which a label passes a local: what is open there is what the switch before declares at the same label. And one with a local that stands where a branch was
-- taken, with its flag.
use Rattle.std.proofs.Common.{◌≡◌, ℕ, true, false, [], ◌∷◌, refl}
use Rattle.std.specs.Prelude.{pos, codes, Some, None}
use Rattle.cf_base.specs.declared.kind.Kind.TheVariants.{Char, Int}
use Rattle.cf_core.specs.Types.{SourceType, void, integer, reference, array, takes, gives, const}
use Rattle.cf_core.specs.Core.{plain_function}
use Rattle.cf_plain.specs.Plain.{number, local, function, read, decay, index, truth, declare, first, zeros, bytes, finish, call, Plains, act, set, branch, loop, switch, case_label, default_label, leave, give, nothing, more, PlainFunction}
use Rattle.cf_lower_kept.specs.Opened.{function_opens}

function_of : Plains → PlainFunction
function_of body = record {
  name = codes "f__Fv";
  role = plain_function;
  type = gives void false;
  locals = integer Int ∷ [];
  body = body;
  is_shared = false;
  is_local = false;
}

-- switch(2){case 1: int y; default:;}
selected : Plains → Plains
selected before =
    more (set 0 (number (pos 2)))
    (more (switch 0 before)
    (more (switch 0
    (more (case_label (pos 1)) (more (set 0 (declare 0 (integer Int))) (more default_label (more (act (finish (integer Int) 0)) nothing)))))
    nothing))

declared_there :
    function_opens (function_of (selected (more (case_label (pos 1)) (more leave (more default_label (more (act (declare 0 (integer Int))) (more leave nothing))))))) ≡ true
unfolding selected function_of
declared_there = refl

declared_nowhere : function_opens (function_of (selected (more (case_label (pos 1)) (more leave (more default_label (more leave nothing)))))) ≡ false
unfolding selected function_of
declared_nowhere = refl

-- int main(){int c=1;return c?f(2):3;} where f takes a `const int&`: local 1 is the argument, 2 what it is bound to, with the flag in register 1
f_type : SourceType
f_type = takes (reference (const (integer Int))) (gives (integer Int) false)

main_by : Plains → PlainFunction
main_by flagged = record {
  name = codes "__main";
  role = plain_function;
  type = gives (integer Int) false;
  locals = integer Int ∷ reference (const (integer Int)) ∷ integer Int ∷ [];
  body =
      more (set 0 (declare 0 (integer Int))) (more (set 1 (number (pos 1))) (more (act (first 0 1))
      (more (set 1 (number (pos 0))) (more (set 2 (local 0)) (more (set 2 (read 2)) (more (set 2 (truth 2))
      (more (branch 2
      (more (act (function (codes "f__FRCi") f_type)) (more (set 2 (declare 1 (reference (const (integer Int)))))
      (more (set 4 (declare 2 (integer Int))) (more (set 3 (local 2)) (more (set 5 (number (pos 2))) (more (act (first 4 5)) flagged))))))
      (more (set 2 (number (pos 3))) nothing))
      (more (branch 1 (more (act (finish (integer Int) 2)) nothing) nothing)
      (more (act (truth 2)) (more (act (finish (integer Int) 0)) (more (give (Some 2)) nothing)))))))))));
  is_shared = false;
  is_local = false;
}

called : Plains
called = more (act (first 2 3)) (more (set 2 (call (codes "f__FRCi") f_type None (1 ∷ []) None)) nothing)

ended_by_flag : function_opens (main_by (more (set 1 (number (pos 1))) called)) ≡ true
unfolding f_type main_by called
ended_by_flag = refl

flag_not_set : function_opens (main_by called) ≡ false
unfolding f_type main_by called
flag_not_set = refl

other_flag : function_opens (main_by (more (set 1 (number (pos 0))) called)) ≡ false
unfolding f_type main_by called
other_flag = refl

-- int main(){int a[2]={1,2};return a[1];}, of which the second element may be stored elsewhere
two_ints : SourceType
two_ints = array (integer Int) 2

listed_by : Plains → PlainFunction
listed_by elements = record {
  name = codes "__main";
  role = plain_function;
  type = gives (integer Int) false;
  locals = two_ints ∷ [];
  body = more (set 0 (declare 0 two_ints)) elements;
  is_shared = false;
  is_local = false;
}

at_end : Plains
at_end =
    more (set 0 (local 0)) (more (set 0 (decay 0)) (more (act (truth 0)) (more (set 1 (number (pos 1))) (more (set 0 (index 0 1)) (more (set 0 (read 0))
    (more (act (truth 0)) (more (act (finish two_ints 0)) (more (give (Some 0)) (more (act (finish two_ints 0)) nothing)))))))))

element_at : ℕ → Plains → Plains
element_at i rest = more (set 1 (decay 0)) (more (set 2 (number (pos i))) (more (set 1 (index 1 2)) rest))

both_elements : ℕ → Plains
both_elements i =
    element_at 0 (more (set 2 (number (pos 1))) (more (act (first 1 2))
    (element_at i (more (set 2 (number (pos 2))) (more (act (first 1 2)) at_end)))))

elements_stand : function_opens (listed_by (both_elements 1)) ≡ true
unfolding two_ints listed_by at_end element_at both_elements
elements_stand = refl

no_end_is_stored_at : function_opens (listed_by (both_elements 2)) ≡ false
unfolding two_ints listed_by at_end element_at both_elements
no_end_is_stored_at = refl

rest_is_filled : function_opens (listed_by (element_at 0 (more (set 2 (number (pos 1))) (more (act (first 1 2)) (element_at 1 (more (act (zeros 1)) at_end)))))) ≡ true
unfolding two_ints listed_by at_end element_at
rest_is_filled = refl

-- int a[2]={b&&1,2}; stores behind a branch, and the place stays told
branched : function_opens (listed_by
    (element_at 0 (more (set 2 (number (pos 1))) (more (set 2 (truth 2)) (more (branch 2 (more (set 2 (number (pos 1))) (more (set 2 (truth 2)) nothing)) nothing)
    (more (act (first 1 2)) (element_at 1 (more (set 2 (number (pos 2))) (more (act (first 1 2)) at_end))))))))) ≡ true
unfolding two_ints listed_by at_end element_at
branched = refl

-- void f(){char s[2][3]={"ab",{'c'}};}
texts : SourceType
texts = array (array (integer Char) 3) 2

text_lists : Plains → PlainFunction
text_lists inner = record {
  name = codes "f__Fv";
  role = plain_function;
  type = gives void false;
  locals = texts ∷ [];
  body =
      more (set 0 (declare 0 texts))
      (element_at 0 (more (act (bytes 1 (97 ∷ 98 ∷ 0 ∷ []))) (element_at 1 inner)));
  is_shared = false;
  is_local = false;
}

-- the element i of the list that is an element
inner_at : ℕ → Plains → Plains
inner_at i rest = more (set 2 (decay 1)) (more (set 3 (number (pos i))) (more (set 2 (index 2 3)) rest))

nested : function_opens (text_lists
    (inner_at 0 (more (set 3 (number (pos 99))) (more (act (first 2 3)) (inner_at 1 (more (act (zeros 2)) (inner_at 2 (more (act (zeros 2)) (more (act (finish texts 0)) nothing))))))))) ≡ true
unfolding texts text_lists inner_at element_at
nested = refl

nested_end : function_opens (text_lists (inner_at 3 (more (act (zeros 2)) (more (act (finish texts 0)) nothing)))) ≡ false
unfolding texts text_lists inner_at element_at
nested_end = refl

-- void f(){int c=1;if(c)int x=2;else int y=3;..}: behind the `if` both of them may stand, and end
int_at : ℕ → ℕ → Plains → Plains
int_at i n rest = more (set 0 (declare i (integer Int))) (more (set 1 (number (pos n))) (more (act (first 0 1)) rest))

ends : ℕ → Plains → Plains
ends i rest = more (act (finish (integer Int) i)) rest

tested : Plains → Plains
tested rest = more (set 0 (local 0)) (more (set 0 (read 0)) (more (set 0 (truth 0)) rest))

arms : Plains → Plains
arms rest = int_at 0 1 (tested (more (branch 0 (int_at 1 2 nothing) (int_at 2 3 nothing)) rest))

of_arms : Plains → PlainFunction
of_arms body = record {
  name = codes "f__Fv";
  role = plain_function;
  type = gives void false;
  locals = integer Int ∷ integer Int ∷ integer Int ∷ [];
  body = body;
  is_shared = false;
  is_local = false;
}

arms_end : function_opens (of_arms (arms (int_at 3 4 (ends 3 (ends 2 (ends 1 (ends 0 nothing))))))) ≡ true
unfolding int_at ends tested arms of_arms
arms_end = refl

arm_stays : function_opens (of_arms (arms (ends 1 (ends 0 nothing)))) ≡ false
unfolding int_at ends tested arms of_arms
arm_stays = refl

arm_ends_twice : function_opens (of_arms (arms (ends 1 (ends 2 (ends 1 (ends 0 nothing)))))) ≡ false
unfolding int_at ends tested arms of_arms
arm_ends_twice = refl

arm_stands_again : function_opens (of_arms (arms (int_at 1 4 (ends 2 (ends 1 (ends 0 nothing)))))) ≡ false
unfolding int_at ends tested arms of_arms
arm_stands_again = refl

-- while(c){if(c)int x=2;if(c)break;if(c)return;} of which each way out ends x
turning : Plains → Plains → PlainFunction
turning left back = of_arms
    (int_at 0 1
    (more (loop
    (tested (more (branch 0 (int_at 1 2 nothing) nothing)
    (tested (more (branch 0 left nothing)
    (tested (more (branch 0 back nothing) (ends 1 nothing))))))) nothing)
    (ends 0 nothing)))

turns_end : function_opens (turning (ends 1 (more leave nothing)) (ends 1 (ends 0 (more (give None) nothing)))) ≡ true
unfolding int_at ends tested of_arms turning
turns_end = refl

stays_at_break : function_opens (turning (more leave nothing) (ends 1 (ends 0 (more (give None) nothing)))) ≡ false
unfolding int_at ends tested of_arms turning
stays_at_break = refl

stays_at_return : function_opens (turning (ends 1 (more leave nothing)) (ends 0 (more (give None) nothing))) ≡ false
unfolding int_at ends tested of_arms turning
stays_at_return = refl
