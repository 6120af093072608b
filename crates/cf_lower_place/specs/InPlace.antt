-- What is asked of the statements of a function besides what registers tell and what is open: those that are no control fit, branches and switches go by numbers, no label
-- stands twice, `break` and `continue` lead somewhere, and labels stand in the braces of a switch alone (6.4 to 6.6).
use Rattle.std.specs.Prelude.{Bool, true, false, ◌&&◌, ◌||◌, []}
use Rattle.cf_base.specs.declared.kind.Kind.{Kind}
use Rattle.cf_base.specs.declared.kind.Kind.TheVariants.{Int, UInt}
use Rattle.cf_base.specs.Integers.{fits as is_of}
use Rattle.cf_plain.specs.Plain.{Plain, Plains, act, set, branch, loop, switch, case_label, default_label, leave, continue, give, nothing, more}
use Rattle.cf_plain.specs.Valid.{labels_differ}
use Rattle.cf_lower.specs.Kept.{Kept, integer_of, Keeping, Locals, untouched, after}

-- whether each label is of this kind (6.4.2)
abbrev pub labels_fit : Kind → Plains → Bool
labels_fit k nothing = true
labels_fit k (more (case_label z) rest) = is_of k z && labels_fit k rest
labels_fit k (more s rest) = labels_fit k rest

abbrev pub is_number : Kept → Bool
is_number (integer_of f) = true
is_number x = false

-- a number of a kind that each label is of
abbrev pub switches : Kept → Plains → Bool
switches (integer_of f) ss = (f Int && labels_fit Int ss) || (f UInt && labels_fit UInt ss)
switches x ss = false

module _ (locals : Locals) (fits : Keeping → Plain → Bool) where
  abbrev mutual
    -- a statement before which registers hold this, and whether `break` and `continue` may stand in it
    pub in_place : Bool → Bool → Plain → Keeping → Bool
    in_place b c (act a) h = fits h (act a)
    in_place b c (set r a) h = fits h (set r a)
    in_place b c (branch r ss ts) h = is_number (h r) && (all_in_place b c ss h && all_in_place b c ts h)
    in_place b c (loop ss ts) h = all_in_place true true ss (after locals (loop ss ts) h) && all_in_place true false ts (after locals (loop ss ts) h)
    in_place b c (switch r ss) h = switches (h r) ss && (labels_differ [] ss && items_in_place c ss (untouched locals h ss) (untouched locals h ss))
    in_place b c leave h = b
    in_place b c continue h = c
    in_place b c (give r) h = fits h (give r)
    in_place b c s h = false

    pub all_in_place : Bool → Bool → Plains → Keeping → Bool
    all_in_place b c nothing h = true
    all_in_place b c (more s ss) h = in_place b c s h && all_in_place b c ss (after locals s h)

    -- the labels and statements of a switch, at whose labels registers hold what the first tells
    pub items_in_place : Bool → Plains → Keeping → Keeping → Bool
    items_in_place c nothing k h = true
    items_in_place c (more (case_label y) ss) k h = items_in_place c ss k k
    items_in_place c (more default_label ss) k h = items_in_place c ss k k
    items_in_place c (more s ss) k h = in_place true c s h && items_in_place c ss k (after locals s h)
