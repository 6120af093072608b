-- Which points lie within others: where control does not come, at turns and labels, and where two ways join.
use Rattle.std.proofs.Common.{◌≡◌, Bool, true, false, ◌&&◌, ◌==◌, if◌then◌else◌, List, refl}
use Rattle.std.specs.Prelude.{map, Some}
use Rattle.cf_core.specs.Types.{type_eq}
use Rattle.cf_lower_layout.specs.Sorts.{Sort, number, address, code}
use Rattle.cf_base.specs.declared.kind.Kind.TheVariants.{Int}
use Rattle.cf_lower.specs.Kept.{Kept, unknown, integer_of, holds, argument, Keeping, local_kept, same_kept, both_kept, common}
use Rattle.cf_lower_kept.specs.Opened.{Opened, settled, same_open, both_opened, Where, falls, away, wrong, joined, comes_to}
use Rattle.cf_lower_kept.specs.Told.{TellsLess}
use Rattle.cf_lower_leaves.proofs.Narrowing.{narrows}
use Rattle.cf_lower_steps.proofs.Branches.{common-left, common-right}
use Rattle.cf_lower_turns.specs.Here.{Narrows}
use Rattle.cf_lower_turns.specs.Scene.{Scene, fixed_in}
use Rattle.cf_lower_bounds.specs.Points.{Point, point_at, point_never, local_count}
use Rattle.cf_lower_bounds.specs.Bounds.{LiesWithin}
use Rattle.cf_lower_bounds.proofs.Standing.{lies-within}
use Rattle.cf_lower_needed.specs.Leading.{point_of, is_right}
use Rattle.cf_lower_needed.proofs.Opens.{open-settled, open-same, open-left, open-right}

-- ---- the C locals of what both ways keep

if-kept : (b : Bool) (x : Kept) (u : Sort) → local_kept (if b then x else unknown) ≡ Some u → local_kept x ≡ Some u
if-kept true x u e = e
if-kept false x u e = absurd (let k = e in cc)

local-left : (x y : Kept) (u : Sort) → local_kept (both_kept x y) ≡ Some u → local_kept x ≡ Some u
local-left (integer_of f) (integer_of g) u e = e
local-left (integer_of f) y u e = if-kept (same_kept (integer_of f) y) (integer_of f) u e
local-left unknown y u e = if-kept (same_kept unknown y) unknown u e
local-left (holds a) y u e = if-kept (same_kept (holds a) y) (holds a) u e
local-left (argument i t) y u e = if-kept (same_kept (argument i t) y) (argument i t) u e

record HasSort (y : Kept) : Type 0 where
  pub sort : Sort
  pub is : local_kept y ≡ Some sort

local-right : (x y : Kept) (u : Sort) → local_kept (both_kept x y) ≡ Some u → HasSort y
local-right x (integer_of g) u e = record { sort = number Int; is = refl }
local-right x (holds b) u e = record { sort = b; is = refl }
local-right (argument i t) (argument j v) u e = absurd (by_test ((i == j) && type_eq t v) e)
  where
    by_test : (b : Bool) → local_kept (if b then argument i t else unknown) ≡ Some u → ⊥
    by_test true k = let i = k in cc
    by_test false k = let i = k in cc
local-right (argument i t) unknown u e = absurd (let k = e in cc)
local-right (integer_of f) y u e = absurd (let k = e in cc)
local-right (holds (number k)) y u e = absurd (let k = e in cc)
local-right (holds (address t)) y u e = absurd (let k = e in cc)
local-right (holds (code t)) y u e = absurd (let k = e in cc)
local-right unknown y u e = absurd (let k = e in cc)

-- ---- parts of what is right

pub right-left : (a b : Where) → is_right (joined a b) ≡ true → is_right a ≡ true
right-left wrong b e = e
right-left away b e = refl
right-left (falls xs) b e = refl

pub right-right : (a b : Where) → is_right (joined a b) ≡ true → is_right b ≡ true
right-right a away e = refl
right-right a (falls ys) e = refl
right-right wrong wrong e = e
right-right away wrong e = e
right-right (falls xs) wrong e = e

pub comes-right : (ys : List Opened) (a : Where) → comes_to ys a ≡ true → is_right a ≡ true
comes-right ys (falls zs) e = refl
comes-right ys away e = refl
comes-right ys wrong e = e

module _ (z : Scene) where
  pub from-never : (h : Keeping) (q : Point) → LiesWithin z (point_never h) q
  from-never h q d g s t at = absurd at.standing

  pub to-settled : (h k : Keeping) (xs : List Opened) → TellsLess h k → LiesWithin z (point_at h xs) (point_at k (map settled xs))
  to-settled h k xs less =
      lies-within z (point_at h xs) (point_at k (map settled xs))
      (record { registers = narrows (fixed_in z) z.body h k less; standing = λ g s o. open-settled (local_count z) g s xs o })

  pub to-same : (h k : Keeping) (xs zs : List Opened) → same_open (map settled xs) zs ≡ true → TellsLess h k
      → LiesWithin z (point_at h zs) (point_at k (map settled xs))
  to-same h k xs zs e less =
      lies-within z (point_at h zs) (point_at k (map settled xs))
      (record { registers = narrows (fixed_in z) z.body h k less; standing = λ g s o. open-same (local_count z) g s xs zs e o })

  -- statements come to where these are open
  pub comes-within : (xs : List Opened) (h k : Keeping) (a : Where) → comes_to (map settled xs) a ≡ true → TellsLess h k
      → LiesWithin z (point_of h a) (point_at k (map settled xs))
  comes-within xs h k (falls zs) e less = to-same h k xs zs e less
  comes-within xs h k away e less = from-never h (point_at k (map settled xs))
  comes-within xs h k wrong e less = absurd (let i = e in cc)

  -- ---- where two ways join

  module _ (one two : Keeping) where
    left-narrows : Narrows (fixed_in z) z.body one (common one two)
    left-narrows = record {
      weaker = λ F g m k. common-left (fixed_in z) F z.body.scope m g one two k;
      below = λ b q u e. b q u (local-left (one q) (two q) u e);
    }

    right-narrows : Narrows (fixed_in z) z.body two (common one two)
    right-narrows = record {
      weaker = λ F g m k. common-right (fixed_in z) F z.body.scope m g one two k;
      below = λ b q u e. let there = local-right (one q) (two q) u e in b q there.sort there.is;
    }

    pub within-left : (a b : Where) → is_right (joined a b) ≡ true → LiesWithin z (point_of one a) (point_of (common one two) (joined a b))
    within-left wrong b e = absurd (let k = e in cc)
    within-left away b e = from-never one (point_of (common one two) (joined away b))
    within-left (falls xs) wrong e = absurd (let k = e in cc)
    within-left (falls xs) away e =
        lies-within z (point_at one xs) (point_at (common one two) xs) (record { registers = left-narrows; standing = λ g s o. o })
    within-left (falls xs) (falls ys) e =
        lies-within z (point_at one xs) (point_at (common one two) (both_opened xs ys))
        (record { registers = left-narrows; standing = λ g s o. open-left (local_count z) g s xs ys o })

    pub within-right : (a b : Where) → is_right (joined a b) ≡ true → LiesWithin z (point_of two b) (point_of (common one two) (joined a b))
    within-right wrong b e = absurd (let k = e in cc)
    within-right a away e = from-never two (point_of (common one two) (joined a away))
    within-right a wrong e = from-never two (point_of (common one two) (joined a wrong))
    within-right away (falls ys) e =
        lies-within z (point_at two ys) (point_at (common one two) ys) (record { registers = right-narrows; standing = λ g s o. o })
    within-right (falls xs) (falls ys) e =
        lies-within z (point_at two ys) (point_at (common one two) (both_opened xs ys))
        (record { registers = right-narrows; standing = λ g s o. open-right (local_count z) g s xs ys o })
