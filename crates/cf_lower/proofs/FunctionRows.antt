-- Pointers to functions that are compared with 0: the C has a text, and gives the same.
use Rattle.std.proofs.Common.{◌≡◌, List, [], ◌∷◌, ◌++◌, refl}
use Rattle.std.specs.Prelude.{pos, Option, Some, None, true, codes}
use Rattle.std.specs.Fmt.{digits}
use Rattle.cf_base.specs.declared.kind.Kind.TheVariants.{Int}
use Rattle.cf_base.specs.declared.arith.Arith.TheVariants as op
use Rattle.cf_base.specs.Event.{Ended}
use Rattle.cf_core.specs.declared.operators.PointerOperator.{PointerOperator}
use Rattle.cf_core.specs.declared.operators.PointerOperator.TheVariants as ptr
use Rattle.cf_core.specs.Types.{pointer}
use Rattle.cf_plain.specs.Plain.{Plain, PlainFunction, PlainStatic, PlainFile, act, set, give, number, read, first, finish, convert, operate, function, static_object, pointer_operate, truth}
use Rattle.cc_whole.specs.Types.{same_type}
use Rattle.cc_whole.specs.ValidUnit.{valid_items}
use Rattle.cf_lower.proofs.Rows.{int, h_type, function_of, main_of, file, constant, items, with_constants, source, target, value_of}

-- int h(int a){return a+1;}
abbrev h : PlainFunction
h = function_of (codes "h__Fi") (int ∷ []) int []
    (value_of 0 1 0 ++ set 2 (number (pos 1)) ∷ set 1 (operate op.Add Int 1 2) ∷ act (finish int 0) ∷ give (Some 1) ∷ [])

-- int(*p)(int)..;int main(){return p==0;}, or with !=, or with the 0 first
abbrev compares : PointerOperator → List Plain → PlainFile
compares o ss = file (h ∷ main_of []
    (set 0 (static_object (codes "p") (pointer h_type)) ∷ set 0 (read 0) ∷ act (truth 0) ∷ set 1 (number (pos 0)) ∷ set 1 (convert (pointer h_type) 1)
    ∷ set 0 (pointer_operate o 0 1) ∷ give (Some 0) ∷ []) ∷ [])
    (constant (codes "p") (pointer h_type) ss ∷ [])

-- int(*p)(int)=h;
abbrev to_h : List Plain
to_h = set 1 (function (codes "h__Fi") h_type) ∷ act (first 0 1) ∷ []

null-equal-valid : valid_items (items (compares ptr.Equal [])) ≡ true
unfolding digits same_type
null-equal-valid = refl

null-equal-agrees : source (compares ptr.Equal []) 1 ≡ Some (target (items (compares ptr.Equal [])) 1)
unfolding digits
null-equal-agrees = refl

null-equal-is-one : (target (items (compares ptr.Equal [])) 1).end ≡ Ended (pos 1)
unfolding digits
null-equal-is-one = refl

h-equal-agrees : source (compares ptr.Equal to_h) 1 ≡ Some (target (with_constants (compares ptr.Equal to_h)) 1)
unfolding digits
h-equal-agrees = refl

h-equal-is-none : (target (with_constants (compares ptr.Equal to_h)) 1).end ≡ Ended (pos 0)
unfolding digits
h-equal-is-none = refl

h-unequal-valid : valid_items (with_constants (compares ptr.NotEqual to_h)) ≡ true
unfolding digits same_type
h-unequal-valid = refl

h-unequal-agrees : source (compares ptr.NotEqual to_h) 1 ≡ Some (target (with_constants (compares ptr.NotEqual to_h)) 1)
unfolding digits
h-unequal-agrees = refl

-- ..;int main(){return 0!=p;}
abbrev zero_first : PlainFile
zero_first = file (h ∷ main_of []
    (set 0 (number (pos 0)) ∷ set 0 (convert (pointer h_type) 0) ∷ act (truth 0) ∷ set 1 (static_object (codes "p") (pointer h_type)) ∷ set 1 (read 1)
    ∷ set 0 (pointer_operate ptr.NotEqual 0 1) ∷ give (Some 0) ∷ []) ∷ [])
    (constant (codes "p") (pointer h_type) to_h ∷ [])

zero-first-agrees : source zero_first 1 ≡ Some (target (with_constants zero_first) 1)
unfolding digits
zero-first-agrees = refl
