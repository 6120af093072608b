-- The registers that statements set are below their bound, so that it need not be asked for.
use Rattle.std.proofs.Common.{◌≡◌, ℕ, ◌≤◌, nat_lt, Bool, true, false, ◌&&◌, Option, Some, None, List, [], refl, ap, ◌∙◌, arith}
use Rattle.std.proofs.lemmas.Bool.Decides.{nat_tests}
use Rattle.cf_core.specs.Types.{result as result_type}
use Rattle.cf_core.specs.Classes.{Class}
use Rattle.cf_lower.specs.Functions.{bound, all_bound}
use Rattle.cf_lower.specs.Kept.{Keeping, Locals, after, untouched}
use Rattle.cf_lower_layout.specs.Sorts.{Sort, sort_of}
use Rattle.cf_lower_place.specs.Calls.{fits, has_local}
use Rattle.cf_lower_place.specs.InPlace.{in_place, all_in_place, items_in_place, is_number, switches}
use Rattle.cf_lower_place.specs.Leaf.{may_set}
use Rattle.cf_lower_place.specs.Named.{library_type, takes_locals}
use Rattle.cf_lower_place.specs.View.{Reach}
use Rattle.cf_plain.specs.Plain as plain
use Rattle.cf_plain.specs.Plain.{Action, Plain, Plains, act, set, branch, loop, switch, case_label, default_label, leave, continue, give, parts, nothing, more}
use Rattle.cf_plain.specs.Valid.{labels_differ}
use Rattle.cf_lowerable_places.specs.Fits.{view, view_below, statement_fits}

module _ (locals : Locals) (given : Option Sort) (classes : List Class) (n : ℕ) where
  abbrev pub reach : Reach
  reach = record {
    library = λ name. library_type name;
    results = λ t. true;
    called = λ name t is. takes_locals locals t is;
    reached = λ t is. takes_locals locals t is;
  }

  abbrev pub asked : Keeping → Plain → Bool
  asked = fits (view_below locals given classes n) reach

  abbrev pub told : Keeping → Plain → Bool
  told = statement_fits locals given classes

  same_set : (h : Keeping) (a : Action) → may_set (view_below locals given classes n) h a ≡ may_set (view locals given classes) h a
  same_set h (plain.declare i t) = refl
  same_set h a = refl

  some_local : (o : Option Sort) → has_local (λ t. true) o ≡ true
  some_local None = refl
  some_local (Some s) = refl

  two_true : (a b c : Bool) → a ≡ true → b ≡ true → (a && (b && c)) ≡ c
  two_true true true c e f = refl
  two_true true false c e f = cc
  two_true false b c e f = cc

  set_same : (h : Keeping) (q : ℕ) (a : Action) → nat_lt q n ≡ true → asked h (set q a) ≡ told h (set q a)
  set_same h q (plain.call name t None is None) e = two_true (nat_lt q n) (has_local (λ t. true) (sort_of (result_type t))) _ e (some_local (sort_of (result_type t)))
  set_same h q (plain.pointer_call None p t is None) e = two_true (nat_lt q n) (has_local (λ t. true) (sort_of (result_type t))) _ e (some_local (sort_of (result_type t)))
  set_same h q a e = ap (λ b. b && may_set (view_below locals given classes n) h a) e ∙ same_set h a

  abbrev Asked : Bool → Bool → Plain → Keeping → Bool
  Asked b c s h = in_place locals asked b c s h

  both : (a b c d : Bool) → a ≡ b → c ≡ d → (a && c) ≡ (b && d)
  both a b c d e f = ap (λ x. x && c) e ∙ ap (λ x. b && x) f

  mutual
    pub in_place_same : (b c : Bool) (s : Plain) (h : Keeping) → bound s ≤ n → in_place locals asked b c s h ≡ in_place locals told b c s h
    in_place_same b c (act a) h le = refl
    in_place_same b c (set r a) h le = set_same h r a (let lt : nat_lt r n ≡ true = grind (arith, nat_tests) in lt)
    in_place_same b c (branch r ss ts) h le =
        ap (λ d. is_number (h r) && d) (both _ _ _ _ (all_in_place_same b c ss h (omega (arith, le))) (all_in_place_same b c ts h (omega (arith, le))))
    in_place_same b c (loop ss ts) h le =
        both _ _ _ _ (all_in_place_same true true ss (after locals (loop ss ts) h) (omega (arith, le))) (all_in_place_same true false ts (after locals (loop ss ts) h) (omega (arith, le)))
    in_place_same b c (switch r ss) h le =
        ap (λ d. switches (h r) ss && (labels_differ [] ss && d)) (items_in_place_same c ss (untouched locals h ss) (untouched locals h ss) le)
    in_place_same b c leave h le = refl
    in_place_same b c continue h le = refl
    in_place_same b c (give r) h le = refl
    in_place_same b c (case_label z) h le = refl
    in_place_same b c default_label h le = refl
    in_place_same b c (parts ps) h le = refl

    pub all_in_place_same : (b c : Bool) (ss : Plains) (h : Keeping) → all_bound ss ≤ n → all_in_place locals asked b c ss h ≡ all_in_place locals told b c ss h
    all_in_place_same b c nothing h le = refl
    all_in_place_same b c (more s ss) h le =
        both _ _ _ _ (in_place_same b c s h (omega (arith, le))) (all_in_place_same b c ss (after locals s h) (omega (arith, le)))

    items_in_place_same : (c : Bool) (ss : Plains) (k h : Keeping) → all_bound ss ≤ n → items_in_place locals asked c ss k h ≡ items_in_place locals told c ss k h
    items_in_place_same c nothing k h le = refl
    items_in_place_same c (more (case_label z) ss) k h le = items_in_place_same c ss k k (omega (arith, le))
    items_in_place_same c (more default_label ss) k h le = items_in_place_same c ss k k (omega (arith, le))
    items_in_place_same c (more (act a) ss) k h le = both _ _ _ _ (in_place_same true c (act a) h (omega (arith, le))) (items_in_place_same c ss k (after locals (act a) h) (omega (arith, le)))
    items_in_place_same c (more (set r a) ss) k h le = both _ _ _ _ (in_place_same true c (set r a) h (omega (arith, le))) (items_in_place_same c ss k (after locals (set r a) h) (omega (arith, le)))
    items_in_place_same c (more (branch r ts us) ss) k h le =
        both _ _ _ _ (in_place_same true c (branch r ts us) h (omega (arith, le))) (items_in_place_same c ss k (after locals (branch r ts us) h) (omega (arith, le)))
    items_in_place_same c (more (loop ts us) ss) k h le = both _ _ _ _ (in_place_same true c (loop ts us) h (omega (arith, le))) (items_in_place_same c ss k (after locals (loop ts us) h) (omega (arith, le)))
    items_in_place_same c (more (switch r ts) ss) k h le = both _ _ _ _ (in_place_same true c (switch r ts) h (omega (arith, le))) (items_in_place_same c ss k (after locals (switch r ts) h) (omega (arith, le)))
    items_in_place_same c (more leave ss) k h le = ap (λ d. true && d) (items_in_place_same c ss k h (omega (arith, le)))
    items_in_place_same c (more continue ss) k h le = ap (λ d. c && d) (items_in_place_same c ss k h (omega (arith, le)))
    items_in_place_same c (more (give r) ss) k h le = both _ _ _ _ (in_place_same true c (give r) h (omega (arith, le))) (items_in_place_same c ss k h (omega (arith, le)))
    items_in_place_same c (more (parts ps) ss) k h le = refl
