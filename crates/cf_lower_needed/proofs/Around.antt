-- What stands around statements: where `break` and `continue` lead to by what is open, how many flags are left, and what goes with them into the parts of a statement.
use Rattle.std.proofs.Common.{◌≡◌, ℕ, suc, ◌+◌, ◌≤◌, ◌<◌, max, Bool, true, List, sym, subst, arith}
use Rattle.std.specs.Prelude.{map, ℤ, Option, Some, None, is_some}
use Rattle.cf_plain.specs.Plain.{Register, Plain, Plains, default_label, nothing, more}
use Rattle.cf_lower.specs.Kept.{Keeping, sets, all_set, after}
use Rattle.cf_lower.specs.Functions.{nesting, all_nesting}
use Rattle.cf_lower_kept.specs.Opened.{Opened, settled, same_open, is_at, Ways}
use Rattle.cf_lower_kept.specs.Told.{AllJoin, builds_none}
use Rattle.cf_lower_kept.proofs.Turns.{all-join}
use Rattle.cf_lower_turns.specs.Around.{Around, depth_of, left_to, gone_on_to}
use Rattle.cf_lower_turns.specs.Scene.{Scene}
use Rattle.cf_lower_bounds.specs.Needs as needs
use Rattle.cf_lower_bounds.specs.Points.{Point, point_at, point_never, At}
use Rattle.cf_lower_bounds.specs.Bounds.{LiesWithin, LeafRunsTo}
use Rattle.cf_lower.specs.Kept as lower
use Rattle.cf_lower_needed.proofs.Tells.{or-left, Tells, tells-fewer, tells-behind}
use Rattle.cf_lower_needed.proofs.Points.{from-never, to-same}

-- ---- what statements need, at the points of a function

module _ (z : Scene) (n : ℕ) where
  abbrev pub StatementNeeds : Plain → Around Point → Point → Point → Type 0
  StatementNeeds s around p q =
      needs.Needs Point (λ (i : Point). i.kept) (lower.after z.inside.locals) (At z) z.body.flags.bound (LeafRunsTo z n) s around p q

  abbrev pub ItemsNeed : Plains → Around Point → (Option ℤ → Point) → Point → Point → Type 0
  ItemsNeed ss around labels p q =
      needs.ItemsNeed Point (λ (i : Point). i.kept) (lower.after z.inside.locals) (At z) z.body.flags.bound (LeafRunsTo z n) ss around labels p q

  abbrev pub WithinIf : Point → Option Point → Type 0
  WithinIf p o = needs.WithinIf Point (λ (i : Point). i.kept) (lower.after z.inside.locals) (At z) z.body.flags.bound (LeafRunsTo z n) p o

  abbrev pub Passed : Plains → Point → Point → Type 0
  Passed ss p q = needs.Passed Point (λ (i : Point). i.kept) (lower.after z.inside.locals) (At z) z.body.flags.bound (LeafRunsTo z n) ss p q

  abbrev pub Through : Keeping → (Point → Type 0) → (Point → Type 0) → Type 0
  Through k First Second =
      needs.Through Point (λ (i : Point). i.kept) (lower.after z.inside.locals) (At z) z.body.flags.bound (LeafRunsTo z n) k First Second

  pub passed-itself : (ss : Plains) (p : Point) → Passed ss p p
  passed-itself nothing p = λ d g s t at. at
  passed-itself (more default_label ss) p = tt
  passed-itself (more s ss) p = passed-itself ss p

  pub never-out : (h : Keeping) (o : Option Point) → is_some o ≡ true → WithinIf (point_never h) o
  never-out h None e = absurd (let k = e in cc)
  never-out h (Some q) e = from-never z h q

-- ---- flags

pub flags-left : (d a b m : ℕ) → d + max a b ≤ m → d + a ≤ m
flags-left d a b m e = omega (arith, e)

pub flags-right : (d a b m : ℕ) → d + max a b ≤ m → d + b ≤ m
flags-right d a b m e = omega (arith, e)

pub flags-more : (d a m : ℕ) → d + suc a ≤ m → suc d + a ≤ m
flags-more d a m e = omega (arith, e)

pub flags-one : (d a m : ℕ) → d + suc a ≤ m → d < m
flags-one d a m e = omega (arith, e)

-- where `break` and `continue` may stand they lead somewhere, and so many flags are left
pub record Outs (z : Scene) (around : Around Point) (b c : Bool) (nest : ℕ) : Type 0 where
  pub flags : depth_of around + nest ≤ z.body.flags.bound
  pub may_leave : b ≡ true → is_some (left_to around) ≡ true
  pub may_go_on : c ≡ true → is_some (gone_on_to around) ≡ true

pub outs-with : (z : Scene) (around : Around Point) (b c : Bool) (m k : ℕ) → Outs z around b c m → depth_of around + k ≤ z.body.flags.bound → Outs z around b c k
outs-with z around b c m k outs flags = record { flags = flags; may_leave = outs.may_leave; may_go_on = outs.may_go_on }

-- ---- where these are open

module _ (z : Scene) where
  -- a point that registers and open locals come to, by statements that set these
  pub record Reaches (ys : List Opened) (p : Point) (h : Keeping) (S : Register → Bool) : Type 0 where
    pub kept : Keeping
    pub base : List Opened
    pub opened : ys ≡ map settled base
    pub is : p ≡ point_at kept ys
    pub tells : Tells z.inside.locals kept h S

  abbrev pub LeadsTo : Option (List Opened) → Option Point → Keeping → (Register → Bool) → Type 0
  LeadsTo None p h S = Unit {0}
  LeadsTo (Some ys) None h S = ⊥
  LeadsTo (Some ys) (Some p) h S = Reaches ys p h S

  pub leads-on-from : (o : Option (List Opened)) (p : Option Point) (h i : Keeping) (S U : Register → Bool)
      → ((k : Keeping) → Tells z.inside.locals k h S → Tells z.inside.locals k i U) → LeadsTo o p h S → LeadsTo o p i U
  leads-on-from None p h i S U f l = tt
  leads-on-from (Some ys) None h i S U f l = absurd l
  leads-on-from (Some ys) (Some p) h i S U f l = record { kept = l.kept; base = l.base; opened = l.opened; is = l.is; tells = f l.kept l.tells }

  pub leads-out : (n : ℕ) (o : Option (List Opened)) (p : Option Point) (h : Keeping) (S : Register → Bool) (xs : List Opened) → LeadsTo o p h S → is_at o xs ≡ true
      → WithinIf z n (point_at h xs) p
  leads-out n None p h S xs l e = absurd (let k = e in cc)
  leads-out n (Some ys) None h S xs l e = absurd l
  leads-out n (Some ys) (Some p) h S xs l e =
      subst (λ q. LiesWithin z (point_at h xs) q) (sym l.is)
      (subst (λ y. LiesWithin z (point_at h xs) (point_at l.kept y)) (sym l.opened)
      (to-same z h l.kept l.base xs (subst (λ y. same_open y xs ≡ true) l.opened e) l.tells.less))

  -- what goes with statements that set these registers and take so many flags
  pub record Context (around : Around Point) (h : Keeping) (w : Ways) (b c : Bool) (S : Register → Bool) (nest : ℕ) : Type 0 where
    pub joins : AllJoin h
    pub outs : Outs z around b c nest
    pub left : LeadsTo w.breaks (left_to around) h S
    pub gone : LeadsTo w.continues (gone_on_to around) h S

  module _ (around : Around Point) (h : Keeping) (w : Ways) (b c : Bool) where
    -- a part of them
    pub context-fewer : (S U : Register → Bool) (m k : ℕ) → Context around h w b c S m → ((r : Register) → U r ≡ true → S r ≡ true)
        → depth_of around + k ≤ z.body.flags.bound → Context around h w b c U k
    context-fewer S U m k x in_s flags = record {
      joins = x.joins;
      outs = outs-with z around b c m k x.outs flags;
      left = leads-on-from w.breaks (left_to around) h h S U (λ i t. tells-fewer z.inside.locals i h S U in_s t) x.left;
      gone = leads-on-from w.continues (gone_on_to around) h h S U (λ i t. tells-fewer z.inside.locals i h S U in_s t) x.gone;
    }

    -- the first of several, and those behind it
    pub context-first : (s : Plain) (ss : Plains) → Context around h w b c (λ r. all_set z.inside.locals r (more s ss)) (all_nesting (more s ss))
        → Context around h w b c (λ r. sets z.inside.locals r s) (nesting s)
    context-first s ss x =
        context-fewer (λ r. all_set z.inside.locals r (more s ss)) (λ r. sets z.inside.locals r s) (all_nesting (more s ss)) (nesting s) x
        (λ r e. or-left (sets z.inside.locals r s) (all_set z.inside.locals r ss) e) (flags-left (depth_of around) (nesting s) (all_nesting ss) z.body.flags.bound x.outs.flags)

    pub context-behind : (s : Plain) (ss : Plains) → builds_none s ≡ true → Context around h w b c (λ r. all_set z.inside.locals r (more s ss)) (all_nesting (more s ss))
        → Context around (after z.inside.locals s h) w b c (λ r. all_set z.inside.locals r ss) (all_nesting ss)
    context-behind s ss none x = record {
      joins = all-join z.inside.locals (more s nothing) h x.joins;
      outs = outs-with z around b c (all_nesting (more s ss)) (all_nesting ss) x.outs
          (flags-right (depth_of around) (nesting s) (all_nesting ss) z.body.flags.bound x.outs.flags);
      left = leads-on-from w.breaks (left_to around) h (after z.inside.locals s h) (λ r. all_set z.inside.locals r (more s ss)) (λ r. all_set z.inside.locals r ss)
          (λ i t. tells-behind z.inside.locals i h s ss none t) x.left;
      gone = leads-on-from w.continues (gone_on_to around) h (after z.inside.locals s h) (λ r. all_set z.inside.locals r (more s ss)) (λ r. all_set z.inside.locals r ss)
          (λ i t. tells-behind z.inside.locals i h s ss none t) x.gone;
    }
