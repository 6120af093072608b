-- One statement of several where control comes: it falls to what is open behind it, or control does not come behind it. And labels.
use Rattle.std.proofs.Common.{◌≡◌, ℕ, Bool, true, false, List, [], ◌∷◌, refl, sym, ◌∙◌, ap, subst}
use Rattle.std.specs.Prelude.{map, ℤ, Option, Some, None}
use Rattle.cf_plain.specs.Plain.{number, Plain, Plains, set}
use Rattle.cf_plain_kept.specs.Kept as plain
use Rattle.cf_lower.specs.Kept.{Keeping, after}
use Rattle.cf_lower_kept.specs.Opened.{Opened, Where, falls, away, wrong, Ways, only_if, is_at, settled, same_open, comes_to, ended_by, prepared, all_open}
use Rattle.cf_lower_kept.specs.Told.{TellsLess}
use Rattle.cf_lower_turns.specs.Around.{Around}
use Rattle.cf_lower_turns.specs.Scene.{Scene}
use Rattle.cf_lower_bounds.specs.Points.{Point, point_at, point_never, local_count}
use Rattle.cf_lower_bounds.specs.Bounds.{LiesWithin}
use Rattle.cf_lower_needed.specs.Leading.{point_of, is_right}
use Rattle.cf_lower_needed.proofs.Opens.{same-settled, open-awaited}
use Rattle.cf_lower_needed.proofs.Points.{from-never, to-same}
use Rattle.cf_lower_needed.proofs.Places.{then_open}
use Rattle.cf_lower_needed.proofs.Around.{StatementNeeds, ItemsNeed, Through}

-- ---- points of labels

-- the labels of a switch have points at which just what is told is open
pub record LabelsAt (k : Keeping) (labels : Option ℤ → Option (List Opened)) (points : Option ℤ → Point) : Type 0 where
  pub settled_there : (l : Option ℤ) (zs : List Opened) → labels l ≡ Some zs → map settled zs ≡ zs
  pub is : (l : Option ℤ) (zs : List Opened) → labels l ≡ Some zs → points l ≡ point_at k zs

pub some-list : {xs ys : List Opened} → Some xs ≡ Some ys → xs ≡ ys
some-list e = cc

pub settled-twice : (xs : List Opened) → map settled (map settled xs) ≡ map settled xs
settled-twice [] = refl
settled-twice (x ∷ xs) = ap (λ us. settled x ∷ us) (settled-twice xs)

-- where the same is open at all
pub labels-all : (k : Keeping) (xs : List Opened) → LabelsAt k (λ l. Some (map settled xs)) (λ l. point_at k (map settled xs))
labels-all k xs = record {
  settled_there = λ l zs e. subst (λ us. map settled us ≡ us) (some-list e) (settled-twice xs);
  is = λ l zs e. ap (λ us. point_at k us) (some-list e);
}

-- in a switch
abbrev pub ways_in : List Opened → Option (List Opened) → (Option ℤ → Option (List Opened)) → Ways
ways_in ys continues labels = record { breaks = Some ys; continues = continues; labels = labels }

module _ (z : Scene) (n : ℕ) (around : Around Point) where
  -- what a statement needs where a local with a flag is told of as one that has no object, it needs where nothing is told of that local
  pub from-prepared : (s : Plain) (ss : Plains) (h : Keeping) (xs : List Opened) (q : Point) → StatementNeeds z n s around (point_at h (prepared s ss xs)) q
      → StatementNeeds z n s around (point_at h xs) q
  from-prepared (set r (number y)) ss h xs q needs = λ k le g s t w at input.
      needs k le g s t w (record { here = at.here; frame = at.frame; standing = open-awaited (local_count z) g s r (ended_by r ss) xs at.standing }) input
  from-prepared s ss h xs q needs = needs

  -- what the statement needs, and what is behind it
  pub through : (s : Plain) (h : Keeping) (xs : List Opened) (o : Where) (Rest : Point → Type 0)
      → StatementNeeds z n s around (point_at h xs) (point_of (after z.inside.locals s h) o) → is_right o ≡ true
      → (o ≡ away → Rest (point_never (after z.inside.locals s h)))
      → ((ys : List Opened) → o ≡ falls ys → Rest (point_at (after z.inside.locals s h) ys))
      → Through z n (after z.inside.locals s h) (λ p. StatementNeeds z n s around (point_at h xs) p) Rest
  through s h xs wrong Rest first right gone on = absurd (let k = right in cc)
  through s h xs away Rest first right gone on = record { point = point_never (after z.inside.locals s h); kept_there = refl; first = first; second = gone refl }
  through s h xs (falls ys) Rest first right gone on = record { point = point_at (after z.inside.locals s h) ys; kept_there = refl; first = first; second = on ys refl }

  -- ---- labels

  module _ (ss : Plains) (k h : Keeping) (ys : List Opened) (w : Ways) (points : Option ℤ → Point) (at : LabelsAt k w.labels points) (l : Option ℤ) (q : Point)
      (go : (zs : List Opened) → w.labels l ≡ Some zs
      → comes_to ys (all_open z.inside.locals.types z.inside.result ss plain.nothing_set w zs) ≡ true → ItemsNeed z n ss around points (point_at k zs) q) where
    -- from where control comes to a label
    pub label-step : (xs : List Opened) → TellsLess h k → (o : Option (List Opened)) → w.labels l ≡ o
        → comes_to ys (then_open z.inside.locals.types z.inside.result (only_if (is_at o xs) (falls (map settled xs))) ss plain.nothing_set w) ≡ true
        → LiesWithin z (point_at h xs) (points l) × ItemsNeed z n ss around points (points l) q
    label-step xs less None there e = absurd (let i = e in cc)
    label-step xs less (Some zs) there e = by (same_open zs xs) refl e
      where
        by : (t : Bool) → same_open zs xs ≡ t
            → comes_to ys (then_open z.inside.locals.types z.inside.result (only_if t (falls (map settled xs))) ss plain.nothing_set w) ≡ true
            → LiesWithin z (point_at h xs) (points l) × ItemsNeed z n ss around points (points l) q
        by false same i = absurd (let j = i in cc)
        by true same i =
            let itself = at.settled_there l zs there in
            let same_settled = ap (λ us. same_open us xs) itself ∙ same in
            let opened = same-settled zs xs same_settled ∙ itself in
            let is = at.is l zs there in (
              subst (λ p. LiesWithin z (point_at h xs) p) (sym is)
                  (subst (λ us. LiesWithin z (point_at h xs) (point_at k us)) itself (to-same z h k zs xs same_settled less)),
              subst (λ p. ItemsNeed z n ss around points p q) (sym is)
                  (go zs there
                  (subst (λ us. comes_to ys (all_open z.inside.locals.types z.inside.result ss plain.nothing_set w us) ≡ true) opened i)),
            )

    -- and from where it does not come
    pub label-dead : (o : Option (List Opened)) → w.labels l ≡ o
        → comes_to ys (elim o [ None ↦ wrong | Some zs ↦ all_open z.inside.locals.types z.inside.result ss plain.nothing_set w zs ]) ≡ true
        → LiesWithin z (point_never h) (points l) × ItemsNeed z n ss around points (points l) q
    label-dead None there e = absurd (let i = e in cc)
    label-dead (Some zs) there e =
        (from-never z h (points l), subst (λ p. ItemsNeed z n ss around points p q) (sym (at.is l zs there)) (go zs there e))
