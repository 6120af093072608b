-- The labels of a switch: where its statements are right, it is told of each what is open there; and what is so of the labels behind one of them.
use Rattle.std.proofs.Common.{◌≡◌, Bool, true, false, ◌&&◌, not, ◌==◌, if◌then◌else◌, List, [], refl, sym, ap, subst, inl, inr}
use Rattle.std.specs.Prelude.{map, ℤ, int_le, Option, Some, None, is_some, ◌⊎◌}
use Rattle.cf_base.proofs.Tests.{both}
use Rattle.cf_core.specs.Types.{SourceType}
use Rattle.cf_plain.specs.Plain.{Register, Plain, Plains, switch, case_label, default_label, nothing, more}
use Rattle.cf_plain.specs.Running.{has_case}
use Rattle.cf_plain.specs.Valid.{has_default, labels_differ}
use Rattle.cf_plain_kept.specs.Kept as plain
use Rattle.cf_lower_kept.specs.Opened.{Opened, Where, falls, away, wrong, Ways, is_at, settled, keeping_or, is_the_label, declared, declared_at, stands_before, prepared, opens, all_open, from_label}
use Rattle.cf_lower_bounds.proofs.Labels.{number-same, number-itself}
use Rattle.cf_lower_needed.specs.Leading.{is_right}
use Rattle.cf_lower_needed.proofs.Tells.{or-left, or-right}
use Rattle.cf_lower_needed.proofs.Places.{either, stands_alone, only-if, then_open, then-right, next-open, next-both}

-- a case, or the default
abbrev pub has_label : Option ℤ → Plains → Bool
has_label None ss = has_default [] ss
has_label (Some n) ss = has_case n ss

abbrev pub same_label : Option ℤ → Option ℤ → Bool
same_label None None = true
same_label None (Some y) = false
same_label (Some x) None = false
same_label (Some x) (Some y) = int_le x y && int_le y x

pub same-itself : (l : Option ℤ) → same_label l l ≡ true
same-itself None = refl
same-itself (Some x) = number-itself x

pub same-label-is : (l m : Option ℤ) → same_label l m ≡ true → l ≡ m
same-label-is None None e = refl
same-label-is None (Some y) e = absurd (let k = e in cc)
same-label-is (Some x) None e = absurd (let k = e in cc)
same-label-is (Some x) (Some y) e = ap (λ (n : ℤ). Some n) (number-same x y e)

-- by a test, with what it says
pub choose : {A : Type 0} → (b : Bool) → (b ≡ true → A) → (b ≡ false → A) → A
choose true f g = f refl
choose false f g = g refl

pub same-tests : (a b : Bool) → (a ≡ true → b ≡ true) → (b ≡ true → a ≡ true) → a ≡ b
same-tests true b f g = sym (f refl)
same-tests false true f g = g refl
same-tests false false f g = refl

pub true-not : (b : Bool) → b ≡ true → not b ≡ true → ⊥
true-not true e k = absurd (let i = k in cc)
true-not false e k = absurd (let i = e in cc)

-- ---- a statement, and what is behind it

pub either-label : (l : Option ℤ) (s : Plain) (ss : Plains) → has_label l (more s ss) ≡ true → (is_the_label l s ≡ true) ⊎ (has_label l ss ≡ true)
either-label None default_label ss e = inl refl
either-label None s ss e = inr e
either-label (Some n) (case_label y) ss e = either (int_le y n && int_le n y) (has_case n ss) e
either-label (Some n) s ss e = inr e

pub has-behind : (l : Option ℤ) (s : Plain) (ss : Plains) → has_label l ss ≡ true → has_label l (more s ss) ≡ true
has-behind None default_label ss e = refl
has-behind None s ss e = e
has-behind (Some n) (case_label y) ss e = or-right (int_le y n && int_le n y) (has_case n ss) e
has-behind (Some n) s ss e = e

-- a label that stands behind is another one
pub differs-behind : (l : Option ℤ) (s : Plain) (ss : Plains) → labels_differ [] (more s ss) ≡ true → has_label l ss ≡ true → is_the_label l s ≡ false
differs-behind None default_label ss e there = absurd (true-not (has_default [] ss) there (both (not (has_default [] ss)) (labels_differ [] ss) e).0)
differs-behind None s ss e there = refl
differs-behind (Some n) (case_label y) ss e there =
    choose (int_le y n && int_le n y)
    (λ same. absurd (true-not (has_case y ss) (subst (λ m. has_case m ss ≡ true) (sym (number-same y n same)) there)
    (both (not (has_case y ss)) (labels_differ [] ss) e).0)) (λ other. other)
differs-behind (Some n) s ss e there = refl

pub differ-behind : (s : Plain) (ss : Plains) → labels_differ [] (more s ss) ≡ true → labels_differ [] ss ≡ true
differ-behind (case_label y) ss e = (both (not (has_case y ss)) (labels_differ [] ss) e).1
differ-behind default_label ss e = (both (not (has_default [] ss)) (labels_differ [] ss) e).1
differ-behind s ss e = e

abbrev pub is_no_label : Plain → Bool
is_no_label (case_label y) = false
is_no_label default_label = false
is_no_label s = true

pub past-other : (l : Option ℤ) (s : Plain) (ss : Plains) → is_no_label s ≡ true → has_label l (more s ss) ≡ true → has_label l ss ≡ true
past-other None default_label ss none e = absurd (let k = none in cc)
past-other None s ss none e = e
past-other (Some n) (case_label y) ss none e = absurd (let k = none in cc)
past-other (Some n) s ss none e = e

pub label-case : (l : Option ℤ) (y : ℤ) → is_the_label l (case_label y) ≡ true → l ≡ Some y
label-case None y e = absurd (let k = e in cc)
label-case (Some n) y e = ap (λ (m : ℤ). Some m) (sym (number-same y n e))

pub label-default : (l : Option ℤ) → is_the_label l default_label ≡ true → l ≡ None
label-default None e = refl
label-default (Some n) e = absurd (let k = e in cc)

-- ---- what is declared at labels

pub if-true : {A : Type 0} → (b : Bool) (x y : A) → b ≡ true → (if b then x else y) ≡ x
if-true b x y e = ap (λ t. if t then x else y) e

pub if-false : {A : Type 0} → (b : Bool) (x y : A) → b ≡ false → (if b then x else y) ≡ y
if-false b x y e = ap (λ t. if t then x else y) e

pub declared-here : (l : Option ℤ) (s : Plain) (ss : Plains) (xs : List Opened) → is_the_label l s ≡ true → declared_at (more s ss) xs l ≡ declared ss xs
declared-here l s ss xs e = if-true (is_the_label l s) (declared ss xs) (declared_at ss xs l) e

pub declared-behind : (l : Option ℤ) (s : Plain) (ss : Plains) (xs : List Opened) → is_the_label l s ≡ false → declared_at (more s ss) xs l ≡ declared_at ss xs l
declared-behind l s ss xs e = if-false (is_the_label l s) (declared ss xs) (declared_at ss xs l) e

has-here : (l : Option ℤ) (s : Plain) (ss : Plains) → is_the_label l s ≡ true → has_label l (more s ss) ≡ true
has-here None default_label ss e = refl
has-here None s ss e = absurd (let k = e in cc)
has-here (Some n) (case_label y) ss e = or-left (int_le y n && int_le n y) (has_case n ss) e
has-here (Some n) s ss e = absurd (let k = e in cc)

-- what is told of a label stands in it
pub declared-has : (l : Option ℤ) (ss : Plains) (xs : List Opened) → is_some (declared_at ss xs l) ≡ true → has_label l ss ≡ true
declared-has l nothing xs e = absurd (let k = e in cc)
declared-has l (more s ss) xs e =
    choose (is_the_label l s) (λ here. has-here l s ss here)
    (λ other. has-behind l s ss (declared-has l ss xs (subst (λ o. is_some o ≡ true) (declared-behind l s ss xs other) e)))

-- ---- each label has something open

at-there : (o : Option (List Opened)) (xs : List Opened) → is_at o xs ≡ true → is_some o ≡ true
at-there None xs e = e
at-there (Some ys) xs e = refl

pub alone-or : (q r : Register) (ss ts rest : Plains) → (q == r) && stands_before ss ts ≡ false → stands_alone (switch q ss) (more (switch r ts) rest) ≡ true
alone-or q r ss ts rest e = ap (λ b. not b) e

module _ (T : List SourceType) (R : SourceType) (w : Ways) where
  label-there : (l : Option ℤ) (s : Plain) (g : plain.Keeping) (xs : List Opened) → is_the_label l s ≡ true → is_right (opens T R s g w xs) ≡ true
      → is_some (w.labels l) ≡ true
  label-there None default_label g xs e right = at-there (w.labels None) xs (only-if (is_at (w.labels None) xs) (falls (map settled xs)) right)
  label-there None s g xs e right = absurd (let k = e in cc)
  label-there (Some n) (case_label y) g xs e right =
      subst (λ m. is_some (w.labels (Some m)) ≡ true) (number-same y n e)
      (at-there (w.labels (Some y)) xs (only-if (is_at (w.labels (Some y)) xs) (falls (map settled xs)) right))
  label-there (Some n) s g xs e right = absurd (let k = e in cc)

  -- where control does not come, up to the label
  abbrev at_the_label : Option (List Opened) → Plains → Where
  at_the_label o ss = elim o [ None ↦ wrong | Some ys ↦ all_open T R ss plain.nothing_set w ys ]

  dead-there : (o : Option (List Opened)) (ss : Plains) → is_right (at_the_label o ss) ≡ true → is_some o ≡ true
  dead-there None ss right = right
  dead-there (Some ys) ss right = refl

  module _ (l : Option ℤ) where
    nothing-has : has_label l nothing ≡ true → is_some (w.labels l) ≡ true
    nothing-has e = by l e
      where
        by : (m : Option ℤ) → has_label m nothing ≡ true → is_some (w.labels l) ≡ true
        by None k = absurd (let i = k in cc)
        by (Some n) k = absurd (let i = k in cc)

    behind : (o : Where) (ss : Plains) (g : plain.Keeping) → is_right (then_open T R o ss g w) ≡ true → (is_right (from_label T R ss w) ≡ true → is_some (w.labels l) ≡ true)
        → ((ys : List Opened) → is_right (all_open T R ss g w ys) ≡ true → is_some (w.labels l) ≡ true) → is_some (w.labels l) ≡ true
    behind wrong ss g right dead live = absurd (let k = right in cc)
    behind away ss g right dead live = dead right
    behind (falls ys) ss g right dead live = live ys right

    step : (s : Plain) (ss : Plains) (g : plain.Keeping) (xs : List Opened) → stands_alone s ss ≡ true → is_right (all_open T R (more s ss) g w xs) ≡ true
        → has_label l (more s ss) ≡ true → (has_label l ss ≡ true → is_right (from_label T R ss w) ≡ true → is_some (w.labels l) ≡ true)
        → (has_label l ss ≡ true → (k : plain.Keeping) (ys : List Opened) → is_right (all_open T R ss k w ys) ≡ true → is_some (w.labels l) ≡ true)
        → is_some (w.labels l) ≡ true
    step s ss g xs alone right has dead live =
        by (either-label l s ss has) (subst (λ o. is_right o ≡ true) (next-open T R s ss g w xs alone) right)
      where
        by : (is_the_label l s ≡ true) ⊎ (has_label l ss ≡ true) → is_right (then_open T R (opens T R s g w (prepared s ss xs)) ss (keeping_or (plain.after T R s g)) w) ≡ true
            → is_some (w.labels l) ≡ true
        by (inl here) there =
            label-there l s g (prepared s ss xs) here (then-right T R (opens T R s g w (prepared s ss xs)) ss (keeping_or (plain.after T R s g)) w there)
        by (inr later) there =
            behind (opens T R s g w (prepared s ss xs)) ss (keeping_or (plain.after T R s g)) there (λ k. dead later k) (λ ys k. live later (keeping_or (plain.after T R s g)) ys k)

    in-label : (m : Option ℤ) (ss : Plains) → is_right (at_the_label (w.labels m) ss) ≡ true → (l ≡ m) ⊎ (has_label l ss ≡ true)
        → (has_label l ss ≡ true → (ys : List Opened) → is_right (all_open T R ss plain.nothing_set w ys) ≡ true → is_some (w.labels l) ≡ true) → is_some (w.labels l) ≡ true
    in-label m ss right (inl same) go = subst (λ i. is_some (w.labels i) ≡ true) (sym same) (dead-there (w.labels m) ss right)
    in-label m ss right (inr later) go = by (w.labels m) right
      where
        by : (o : Option (List Opened)) → is_right (at_the_label o ss) ≡ true → is_some (w.labels l) ≡ true
        by None k = absurd (let i = k in cc)
        by (Some ys) k = go later ys k

    as-case : (y : ℤ) (ss : Plains) → (is_the_label l (case_label y) ≡ true) ⊎ (has_label l ss ≡ true) → (l ≡ Some y) ⊎ (has_label l ss ≡ true)
    as-case y ss (inl e) = inl (label-case l y e)
    as-case y ss (inr e) = inr e

    as-default : (ss : Plains) → (is_the_label l default_label ≡ true) ⊎ (has_label l ss ≡ true) → (l ≡ None) ⊎ (has_label l ss ≡ true)
    as-default ss (inl e) = inl (label-default l e)
    as-default ss (inr e) = inr e

    mutual
      pub labels-open : (ss : Plains) (g : plain.Keeping) (xs : List Opened) → is_right (all_open T R ss g w xs) ≡ true → has_label l ss ≡ true → is_some (w.labels l) ≡ true
      labels-open nothing g xs right has = nothing-has has
      labels-open (more (switch q ss) (more (switch r ts) rest)) g xs right has =
          choose ((q == r) && stands_before ss ts)
          (λ k.
          let there = next-both T R q r ss ts rest g w xs k right in
          labels-open rest (keeping_or (plain.after T R (switch r ts) (keeping_or (plain.after T R (switch q ss) g)))) (map settled xs)
          (subst (λ o. is_right o ≡ true) there.1 right)
          (past-other l (switch r ts) rest refl (past-other l (switch q ss) (more (switch r ts) rest) refl has)))
          (λ k. step (switch q ss) (more (switch r ts) rest) g xs (alone-or q r ss ts rest k) right has
          (λ later dead. labels-dead (more (switch r ts) rest) dead later) (λ later h ys live. labels-open (more (switch r ts) rest) h ys live later))
      labels-open (more s ss) g xs right has =
          step s ss g xs refl right has (λ later dead. labels-dead ss dead later) (λ later h ys live. labels-open ss h ys live later)

      labels-dead : (ss : Plains) → is_right (from_label T R ss w) ≡ true → has_label l ss ≡ true → is_some (w.labels l) ≡ true
      labels-dead nothing right has = nothing-has has
      labels-dead (more (case_label y) ss) right has =
          in-label (Some y) ss right (as-case y ss (either-label l (case_label y) ss has)) (λ later ys live. labels-open ss plain.nothing_set ys live later)
      labels-dead (more default_label ss) right has =
          in-label None ss right (as-default ss (either-label l default_label ss has)) (λ later ys live. labels-open ss plain.nothing_set ys live later)
      labels-dead (more s ss) right has = labels-dead ss right (past-other l s ss refl has)
