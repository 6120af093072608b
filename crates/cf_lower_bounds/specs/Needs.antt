-- What the statements of a function need for the C to do the same: of each the points from which and to which it leads.
use Rattle.std.specs.Prelude.{◌≡◌, ℕ, ◌<◌, Bool, true, false, ◌&&◌, not, if◌then◌else◌, ℤ, pos, int_le, Option, Some, None}
use Rattle.cf_base.specs.declared.kind.Kind.{Kind}
use Rattle.cf_core.specs.Store as source
use Rattle.cf_core.specs.Run.{State}
use Rattle.cf_plain.specs.Plain.{Register, Plain, Plains, act, set, branch, loop, switch, case_label, default_label, leave, continue, give, parts, nothing, more}
use Rattle.cf_plain.specs.Acts.{Registers}
use Rattle.cf_plain.specs.Running.{has_case}
use Rattle.cc_whole_mean.specs.Flow as c
use Rattle.cf_lower.specs.Kept.{Kept, integer_of, Keeping}
use Rattle.cf_lower_turns.specs.Around.{Around, turns, stepped, step, cases, depth_of, left_to, gone_on_to}
use Rattle.cf_lower_turns.specs.Ways.{Relation}
use Rattle.cf_lower_place.specs.InPlace.{labels_fit}

-- the register holds a number
pub record IsNumber (x : Kept) : Type 0 where
  pub kinds : Kind → Bool
  pub is : x ≡ integer_of kinds

-- the register holds a number of a kind that each label is of
pub record Switches (x : Kept) (ss : Plains) : Type 0 where
  pub kinds : Kind → Bool
  pub is : x ≡ integer_of kinds
  pub kind : Kind
  pub has : kinds kind ≡ true
  pub labels : labels_fit kind ss ≡ true

-- the label that a number leads to: a case, or else the default
abbrev pub label_of : ℤ → Plains → Option ℤ
label_of n ss = if has_case n ss then Some n else None

abbrev pub is_nonzero : ℤ → Bool
is_nonzero n = not (int_le n (pos 0) && int_le (pos 0) n)

-- The points of a function: of each what registers hold there, for which the C is made, and what relates both there. Statements that are no control are leaves.
module _ (Point : Type 0) (kept : Point → Keeping) (after : Plain → Keeping → Keeping) (R : Relation Point) (flags : ℕ)
    (Leaf : Around Point → Point → Plain → Point → Type 0) where
  -- what is so at the first point is so at the second
  abbrev pub Within : Point → Point → Type 0
  Within p q = (d : ℕ) (g : Registers) (s : State) (t : c.State) → R p d g s t → R q d g s t

  abbrev pub WithinIf : Point → Option Point → Type 0
  WithinIf p None = ⊥
  WithinIf p (Some q) = Within p q

  -- a point between two statements, at which registers hold this
  pub record Through (k : Keeping) (First Second : Point → Type 0) : Type 0 where
    pub point : Point
    pub kept_there : kept point ≡ k
    pub first : First point
    pub second : Second point

  -- where there is no default, a number of no case passes by the switch
  abbrev pub Passed : Plains → Point → Point → Type 0
  Passed nothing p q = Within p q
  Passed (more default_label ss) p q = Unit {0}
  Passed (more s ss) p q = Passed ss p q

  -- from a point into a switch by this register, and behind it to another point
  pub record Entered (p : Point) (r : Register) (ss : Plains) (q : Point) (Items : (Option ℤ → Point) → Point → Type 0) : Type 0 where
    pub labels : Option ℤ → Point
    pub kept_at : (l : Option ℤ) → kept (labels l) ≡ kept q
    pub enters : (d : ℕ) (g : Registers) (s : State) (t : c.State) (n : ℤ) → g r ≡ Some (source.Number n) → R p d g s t → R (labels (label_of n ss)) d g s t
    pub passed : Passed ss (labels None) q
    -- in front of the first label, where control does not come
    pub front : Point
    pub kept_front : kept front ≡ kept q
    pub items : Items labels front

  -- from a point to where a register holds a number that is not 0, and to where it holds 0
  pub record Branched (p : Point) (r : Register) (First Second : Point → Type 0) : Type 0 where
    pub if_set : Point
    pub if_unset : Point
    pub kept_set : kept if_set ≡ kept p
    pub kept_unset : kept if_unset ≡ kept p
    pub enters_set : (d : ℕ) (g : Registers) (s : State) (t : c.State) (n : ℤ) → g r ≡ Some (source.Number n) → is_nonzero n ≡ true → R p d g s t → R if_set d g s t
    pub enters_unset : (d : ℕ) (g : Registers) (s : State) (t : c.State) (n : ℤ) → g r ≡ Some (source.Number n) → is_nonzero n ≡ false → R p d g s t → R if_unset d g s t
    pub first : First if_set
    pub second : Second if_unset

  abbrev mutual
    -- from the first point the statement leads to the second
    pub Needs : Plain → Around Point → Point → Point → Type 0
    Needs (act a) around p q = Leaf around p (act a) q
    Needs (set r a) around p q = Leaf around p (set r a) q
    Needs (branch r ss ts) around p q = IsNumber (kept p r) × Branched p r (λ h. AllNeed ss around h q) (λ h. AllNeed ts around h q)
    Needs (loop ss nothing) around p q = Within p q × AllNeed ss (turns q around) q q
    Needs (loop ss ts) around p q = Within p q × ((depth_of around < flags) × (AllNeed ss (stepped q around) q q × AllNeed ts (step q around) q q))
    Needs (switch r ss) around p q =
        Switches (kept p r) ss × ((depth_of around < flags) × Entered p r ss q (λ labels front. ItemsNeed ss (cases q around) labels front q))
    Needs (case_label z) around p q = ⊥
    Needs default_label around p q = ⊥
    Needs leave around p q = WithinIf p (left_to around)
    Needs continue around p q = WithinIf p (gone_on_to around)
    Needs (give r) around p q = Leaf around p (give r) q
    Needs (parts ps) around p q = ⊥

    pub AllNeed : Plains → Around Point → Point → Point → Type 0
    AllNeed nothing around p q = Within p q
    AllNeed (more s ss) around p q = Through (after s (kept p)) (λ h. Needs s around p h) (λ h. AllNeed ss around h q)

    -- the labels and statements of a switch
    pub ItemsNeed : Plains → Around Point → (Option ℤ → Point) → Point → Point → Type 0
    ItemsNeed nothing around labels p q = Within p q
    ItemsNeed (more (case_label z) ss) around labels p q = Within p (labels (Some z)) × ItemsNeed ss around labels (labels (Some z)) q
    ItemsNeed (more default_label ss) around labels p q = Within p (labels None) × ItemsNeed ss around labels (labels None) q
    ItemsNeed (more s ss) around labels p q = Through (after s (kept p)) (λ h. Needs s around p h) (λ h. ItemsNeed ss around labels h q)

  -- a loop with a step, at its turns
  abbrev pub StepNeeds : Plains → Plains → Around Point → Point → Type 0
  StepNeeds ss ts around h = (depth_of around < flags) × (AllNeed ss (stepped h around) h h × AllNeed ts (step h around) h h)

  -- a loop, at its turns
  abbrev pub LoopNeeds : Plains → Plains → Around Point → Point → Type 0
  LoopNeeds ss nothing around h = AllNeed ss (turns h around) h h
  LoopNeeds ss ts around h = StepNeeds ss ts around h
