-- Constants with `!`, `&&`, `||` and `?:`: the static object has its value before `main`, in the C too.
use Rattle.std.proofs.Common.{◌≡◌, List, [], ◌∷◌, ◌++◌, refl}
use Rattle.std.specs.Prelude.{pos, negsuc, Option, Some, None, codes}
use Rattle.std.specs.Fmt.{digits}
use Rattle.cf_base.specs.Event.{Ended}
use Rattle.cf_plain.specs.Plain.{Plain, PlainFile, nothing, act, set, branch, give, number, read, first, static_object, truth, logical_not}
use Rattle.cf_base.specs.declared.arith.Arith.TheVariants as op
use Rattle.cc_whole.specs.declared.types.CConstant.TheVariants as constants
use Rattle.cc_whole.specs.Plain.{address, binary, constant as a_constant}
use Rattle.cf_lower.specs.Constants.{at, written}
use Rattle.cf_lower.proofs.Rows.{statements, int, main_of, file, constant, with_constants, source, target}

-- int x=..;int main(){return x;}
abbrev gives_x : List Plain → PlainFile
gives_x ss = file (main_of [] (set 0 (static_object (codes "x") int) ∷ set 0 (read 0) ∷ give (Some 0) ∷ []) ∷ [])
    (constant (codes "x") int (ss ++ act (first 0 1) ∷ []) ∷ [])

-- int x=!0;
abbrev negated : PlainFile
negated = gives_x (set 1 (number (pos 0)) ∷ set 1 (logical_not 1) ∷ [])

negated-agrees : source negated 1 ≡ Some (target (with_constants negated) 1)
unfolding digits
negated-agrees = refl

negated-is-one : (target (with_constants negated) 1).end ≡ Ended (pos 1)
unfolding digits
negated-is-one = refl

-- int x=1&&2;
abbrev both_true : PlainFile
both_true = gives_x (set 1 (number (pos 1)) ∷ set 1 (truth 1) ∷ branch 1 (statements (set 1 (number (pos 2)) ∷ set 1 (truth 1) ∷ [])) nothing ∷ [])

both-true-agrees : source both_true 1 ≡ Some (target (with_constants both_true) 1)
unfolding digits
both-true-agrees = refl

both-true-is-one : (target (with_constants both_true) 1).end ≡ Ended (pos 1)
unfolding digits
both-true-is-one = refl

-- int x=0||7;
abbrev one_true : PlainFile
one_true = gives_x (set 1 (number (pos 0)) ∷ set 1 (truth 1) ∷ branch 1 nothing (statements (set 1 (number (pos 7)) ∷ set 1 (truth 1) ∷ [])) ∷ [])

one-true-agrees : source one_true 1 ≡ Some (target (with_constants one_true) 1)
unfolding digits
one-true-agrees = refl

one-true-is-one : (target (with_constants one_true) 1).end ≡ Ended (pos 1)
unfolding digits
one-true-is-one = refl

-- int x=1?5:6;
abbrev chosen : PlainFile
chosen = gives_x (set 1 (number (pos 1)) ∷ set 1 (truth 1)
    ∷ branch 1 (statements (set 1 (number (pos 5)) ∷ [])) (statements (set 1 (number (pos 6)) ∷ [])) ∷ [])

chosen-agrees : source chosen 1 ≡ Some (target (with_constants chosen) 1)
unfolding digits
chosen-agrees = refl

chosen-is-five : (target (with_constants chosen) 1).end ≡ Ended (pos 5)
unfolding digits
chosen-is-five = refl

-- int x[2];int*p=&x[1073741824];  no int counts its bytes, and the C is valid all the same
far-place : written [] (at (codes "x") 4294967296 int) ≡ binary op.Add (address (codes "x")) (a_constant (constants.Signed (pos 0)))
unfolding digits
far-place = refl

-- int x[2];int*p=&x[536870912];
far-place-is-negative : written [] (at (codes "x") 2147483648 int) ≡ binary op.Add (address (codes "x")) (a_constant (constants.Signed (negsuc 2147483647)))
unfolding digits
far-place-is-negative = refl
