-- On the way through statements registers hold what a point around tells of them, where it tells nothing of those that are set.
use Rattle.std.proofs.Common.{◌≡◌, Bool, true, false, ◌||◌, ◌==◌, if◌then◌else◌, refl, ◌∙◌, ap, arith, inl, inr}
use Rattle.std.specs.Prelude.{◌⊎◌}
use Rattle.std.proofs.lemmas.Bool.Decides.{nat_tests}
use Rattle.cf_base.proofs.Tests.{both}
use Rattle.cf_plain.specs.Plain.{Register, Plain, Plains, set, branch, loop, switch, parts, nothing, more}
use Rattle.cf_lower.specs.Kept.{Kept, unknown, Keeping, Locals, both_kept, kept_by, sets, all_set, untouched, after, after_all}
use Rattle.cf_lower_kept.specs.Told.{Joins, AllJoin, TellsLess, builds_none, none_builds}

abbrev LessAt : Kept → Kept → Type 0
LessAt x y = (y ≡ unknown) ⊎ (x ≡ y)

less-both : (x1 x2 y : Kept) → Joins y → LessAt x1 y → LessAt x2 y → LessAt (both_kept x1 x2) y
less-both x1 x2 y j (inl e) k = inl e
less-both x1 x2 y j (inr e) (inl f) = inl f
less-both x1 x2 y j (inr e) (inr f) = inr (ap (λ x. both_kept x x2) e ∙ ap (both_kept y) f ∙ j)

less-if : (b : Bool) (x y : Kept) → (b ≡ true → y ≡ unknown) → LessAt x y → LessAt (if b then unknown else x) y
less-if true x y f l = inl (f refl)
less-if false x y f l = l

pub or-left : (a b : Bool) → a ≡ true → a || b ≡ true
or-left true b e = refl
or-left false b e = absurd (let k = e in cc)

pub or-right : (a b : Bool) → b ≡ true → a || b ≡ true
or-right true b e = refl
or-right false b e = e

module _ (locals : Locals) where
  module _ (r : Register) (y : Kept) (joins : Joins y) where
    mutual
      one-less : (s : Plain) (h : Keeping) → builds_none s ≡ true → (sets locals r s ≡ true → y ≡ unknown) → LessAt (h r) y → LessAt (after locals s h r) y
      one-less (set q a) h none gone l = by (r == q) refl
        where
          by : (b : Bool) → r == q ≡ b → LessAt (if b then kept_by locals h a else h r) y
          by true e = inl (gone (let k : q == r ≡ true = grind (arith, nat_tests, e) in k))
          by false e = l
      one-less (branch q ss ts) h none gone l =
          let no = both (none_builds ss) (none_builds ts) none in
          less-both (after_all locals ss h r) (after_all locals ts h r) y joins
          (all-less ss h no.0 (λ e. gone (or-left (all_set locals r ss) (all_set locals r ts) e)) l)
          (all-less ts h no.1 (λ e. gone (or-right (all_set locals r ss) (all_set locals r ts) e)) l)
      one-less (loop ss ts) h none gone l =
          less-if (all_set locals r ts) (if all_set locals r ss then unknown else h r) y (λ e. gone (or-right (all_set locals r ss) (all_set locals r ts) e))
          (less-if (all_set locals r ss) (h r) y (λ e. gone (or-left (all_set locals r ss) (all_set locals r ts) e)) l)
      one-less (switch q ss) h none gone l = less-if (all_set locals r ss) (h r) y gone l
      one-less (parts ps) h none gone l = absurd (let k = none in cc)
      one-less s h none gone l = l

      all-less : (ss : Plains) (h : Keeping) → none_builds ss ≡ true → (all_set locals r ss ≡ true → y ≡ unknown) → LessAt (h r) y → LessAt (after_all locals ss h r) y
      all-less nothing h none gone l = l
      all-less (more s ss) h none gone l =
          let no = both (builds_none s) (none_builds ss) none in
          all-less ss (after locals s h) no.1 (λ e. gone (or-right (sets locals r s) (all_set locals r ss) e))
          (one-less s h no.0 (λ e. gone (or-left (sets locals r s) (all_set locals r ss) e)) l)

  -- what is told at a point around, for statements that set these registers
  pub record Tells (k h : Keeping) (S : Register → Bool) : Type 0 where
    pub joins : AllJoin k
    pub less : TellsLess h k
    pub gone : (r : Register) → S r ≡ true → k r ≡ unknown

  pub tells-fewer : (k h : Keeping) (S U : Register → Bool) → ((r : Register) → U r ≡ true → S r ≡ true) → Tells k h S → Tells k h U
  tells-fewer k h S U in_s t = record { joins = t.joins; less = t.less; gone = λ r e. t.gone r (in_s r e) }

  -- behind one of several statements
  pub tells-behind : (k h : Keeping) (s : Plain) (ss : Plains) → builds_none s ≡ true → Tells k h (λ r. all_set locals r (more s ss))
      → Tells k (after locals s h) (λ r. all_set locals r ss)
  tells-behind k h s ss none t = record {
    joins = t.joins;
    less = λ r. one-less r (k r) (t.joins r) s h none (λ e. t.gone r (or-left (sets locals r s) (all_set locals r ss) e)) (t.less r);
    gone = λ r e. t.gone r (or-right (sets locals r s) (all_set locals r ss) e);
  }

  -- at the turns of a loop, and at the labels of a switch
  pub tells-within : (k h : Keeping) (s : Plain) → builds_none s ≡ true → Tells k h (λ r. sets locals r s) → Tells k (after locals s h) (λ r. sets locals r s)
  tells-within k h s none t = record {
    joins = t.joins;
    less = λ r. one-less r (k r) (t.joins r) s h none (t.gone r) (t.less r);
    gone = t.gone;
  }

  pub tells-at : (k h : Keeping) (S : Register → Bool) → Tells k h S → Tells k k S
  tells-at k h S t = record { joins = t.joins; less = λ r. inr refl; gone = t.gone }

  -- a turn tells of itself
  pub untouched-less : (h : Keeping) (ss : Plains) → TellsLess h (untouched locals h ss)
  untouched-less h ss r = by (all_set locals r ss)
    where
      by : (b : Bool) → LessAt (h r) (if b then unknown else h r)
      by true = inl refl
      by false = inr refl

  if-gone : (b : Bool) (x : Kept) → b ≡ true → (if b then unknown else x) ≡ unknown
  if-gone b x e = ap (λ c. if c then unknown else x) e

  pub untouched-gone : (h : Keeping) (ss : Plains) (r : Register) → all_set locals r ss ≡ true → untouched locals h ss r ≡ unknown
  untouched-gone h ss r e = if-gone (all_set locals r ss) (h r) e

  pub loop-less : (h : Keeping) (ss ts : Plains) → TellsLess h (after locals (loop ss ts) h)
  loop-less h ss ts r = by (all_set locals r ts) (all_set locals r ss)
    where
      by : (a b : Bool) → LessAt (h r) (if a then unknown else (if b then unknown else h r))
      by true b = inl refl
      by false true = inl refl
      by false false = inr refl

  pub loop-gone : (h : Keeping) (ss ts : Plains) (r : Register) → sets locals r (loop ss ts) ≡ true → after locals (loop ss ts) h r ≡ unknown
  loop-gone h ss ts r e = by (all_set locals r ss) (all_set locals r ts) e
    where
      by : (a b : Bool) → a || b ≡ true → (if b then unknown else (if a then unknown else h r)) ≡ unknown
      by a true k = refl
      by true false k = refl
      by false false k = absurd (let i = k in cc)
