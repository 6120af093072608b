-- Lists of locals, item by item.
use Rattle.std.specs.Prelude.{ℕ, zero, suc, Bool, false, ◌&&◌, ◌==◌, List, [], ◌∷◌, Option, Some, None, true, slice_get}
use Rattle.cf_plain.specs.Plain.{Register}
use Rattle.cf_lower_kept.specs.Opened.{Opened, Counts, no_places, told_in, is_local, is_register, is_open_one, as_open, overwritten, settled, valued, told_by, counted, stands_by}
use Rattle.cf_lowerable_open.specs.declared.changes.Change.{Change}
use Rattle.cf_lowerable_open.specs.declared.changes.Change.TheVariants as change

-- whether it is this local, which may get its first value in this register
abbrev pub may_begin_one : ℕ → ℕ → Opened → Bool
may_begin_one i r x = is_local i x && is_register x.begun r

-- whether it is this local, which has its value
abbrev pub has_value_one : ℕ → Opened → Bool
has_value_one i x = is_open_one i x && x.has_value

-- whether the same is told of the same local
abbrev pub alike : Opened → Opened → Bool
alike x y = (x.local == y.local) && as_open x.stands y.stands

-- its object is there in this register, of whose place so much is told, and has no value yet
abbrev pub begun_with : Option Register → Counts → Opened → Opened
begun_with r ns x = record x { begun = r; has_value = false; stands = Some true; is_told = false; places = in_if r ns }
  where
    in_if : Option Register → Counts → Register → Counts
    in_if None ns = no_places
    in_if (Some r) ns = told_in r ns no_places

-- at an index of two lists
abbrev pub both_there : (Opened → Opened → Bool) → Option Opened → Option Opened → Bool
both_there test (Some x) (Some y) = test x y
both_there test x y = false

abbrev pub open_at : List Opened → List Opened → ℕ → Bool
open_at xs ys i = both_there alike (slice_get xs i) (slice_get ys i)

-- a list of which the first items are changed
abbrev pub partly : {A : Type 0} → (A → A) → ℕ → List A → List A
partly f zero xs = xs
partly f (suc i) [] = []
partly f (suc i) (x ∷ xs) = f x ∷ partly f i xs

-- ---- what happens to each local of a list

-- the code's changes
abbrev pub changed_by : Change → Opened → Opened
changed_by (change.Overwritten r) = overwritten r []
changed_by change.Settled = settled
changed_by (change.Valued i) = valued i
changed_by (change.Told r z) = told_by r z
changed_by (change.Counted r z) = counted r z
changed_by (change.Standing r) = stands_by r
