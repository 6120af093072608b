-- What the tests of statements say: registers that hold numbers, statements that build no parts, and how what is open goes on from one statement to the next.
use Rattle.std.proofs.Common.{◌≡◌, Bool, true, false, ◌&&◌, ◌||◌, not, ◌==◌, if◌then◌else◌, List, refl, ap, inl, inr}
use Rattle.std.specs.Prelude.{map, Option, Some, None, ◌⊎◌}
use Rattle.cf_base.specs.declared.kind.Kind.TheVariants.{Int, UInt}
use Rattle.cf_base.proofs.Tests.{both, all_of}
use Rattle.cf_core.specs.Types.{SourceType}
use Rattle.cf_plain.specs.Plain.{Register, Plain, Plains, branch, switch, parts, nothing, more}
use Rattle.cf_plain_kept.specs.Kept as plain
use Rattle.cf_lower.specs.Kept.{Kept, integer_of, Keeping, Locals, after}
use Rattle.cf_lower_kept.specs.Opened.{Opened, Where, falls, away, wrong, Ways, only_if, settled, comes_to, keeping_or, declared_at, stands_before, prepared, opens, all_open, from_label}
use Rattle.cf_lower_kept.specs.Ready.{ready, all_ready}
use Rattle.cf_lower_kept.specs.Told.{AllTold, AllToldIf, builds_none, none_builds}
use Rattle.cf_lower_kept.proofs.Statements.{statement-told}
use Rattle.cf_lower_bounds.specs.Needs.{IsNumber, Switches}
use Rattle.cf_lower_place.specs.InPlace.{labels_fit, is_number, switches, in_place, all_in_place}
use Rattle.cf_lower_needed.specs.Leading.{is_right}

-- ---- numbers

pub number-there : (x : Kept) → is_number x ≡ true → IsNumber x
number-there (integer_of f) e = record { kinds = f; is = refl }
number-there x e = absurd (let k = e in cc)

pub either : (a b : Bool) → a || b ≡ true → (a ≡ true) ⊎ (b ≡ true)
either true b e = inl refl
either false b e = inr e

pub switches-there : (x : Kept) (ss : Plains) → switches x ss ≡ true → Switches x ss
switches-there (integer_of f) ss e = by (either (f Int && labels_fit Int ss) (f UInt && labels_fit UInt ss) e)
  where
    by : (f Int && labels_fit Int ss ≡ true) ⊎ (f UInt && labels_fit UInt ss ≡ true) → Switches (integer_of f) ss
    by (inl i) = let two = both (f Int) (labels_fit Int ss) i in record { kinds = f; is = refl; kind = Int; has = two.0; labels = two.1 }
    by (inr i) = let two = both (f UInt) (labels_fit UInt ss) i in record { kinds = f; is = refl; kind = UInt; has = two.0; labels = two.1 }
switches-there x ss e = absurd (let k = e in cc)

-- ---- what is in place builds no parts

module _ (locals : Locals) (fits : Keeping → Plain → Bool) where
  mutual
    pub one-builds-none : (s : Plain) (b c : Bool) (h : Keeping) → in_place locals fits b c s h ≡ true → builds_none s ≡ true
    one-builds-none (branch r ss ts) b c h e =
        let one = both (is_number (h r)) (all_in_place locals fits b c ss h && all_in_place locals fits b c ts h) e in
        let two = both (all_in_place locals fits b c ss h) (all_in_place locals fits b c ts h) one.1 in
        all_of (none_builds ss) (none_builds ts) (all-build-none ss b c h two.0) (all-build-none ts b c h two.1)
    one-builds-none (parts ps) b c h e = e
    one-builds-none s b c h e = refl

    pub all-build-none : (ss : Plains) (b c : Bool) (h : Keeping) → all_in_place locals fits b c ss h ≡ true → none_builds ss ≡ true
    all-build-none nothing b c h e = refl
    all-build-none (more s ss) b c h e =
        let two = both (in_place locals fits b c s h) (all_in_place locals fits b c ss (after locals s h)) e in
        all_of (builds_none s) (none_builds ss) (one-builds-none s b c h two.0) (all-build-none ss b c (after locals s h) two.1)

-- ---- from one statement to the next

-- whether no switch stands before a switch by the same register, and declares what labels of it pass (6.7)
abbrev pub stands_alone : Plain → Plains → Bool
stands_alone (switch q ss) (more (switch r ts) rest) = not ((q == r) && stands_before ss ts)
stands_alone s rest = true

-- in a switch behind one that declares what is open at its labels
abbrev pub ways_behind : Ways → Plains → List Opened → Ways
ways_behind w ss ys = record { breaks = Some ys; continues = w.continues; labels = declared_at ss ys }

pub only-if : (t : Bool) (a : Where) → is_right (only_if t a) ≡ true → t ≡ true
only-if true a e = refl
only-if false a e = e

module _ (locals : List SourceType) (result : SourceType) where
  -- behind a statement
  abbrev pub then_open : Where → Plains → plain.Keeping → Ways → Where
  then_open o ss g w =
      elim o [
        | wrong ↦ wrong
        | away ↦ from_label locals result ss w
        | falls ys ↦ all_open locals result ss g w ys
      ]

  pub then-right : (o : Where) (ss : Plains) (g : plain.Keeping) (w : Ways) → is_right (then_open o ss g w) ≡ true → is_right o ≡ true
  then-right wrong ss g w e = e
  then-right away ss g w e = refl
  then-right (falls ys) ss g w e = refl

  not-true : (b : Bool) → not b ≡ true → b ≡ false
  not-true true e = absurd (let k = e in cc)
  not-true false e = refl

  pub next-open : (s : Plain) (ss : Plains) (g : plain.Keeping) (w : Ways) (xs : List Opened) → stands_alone s ss ≡ true
      → all_open locals result (more s ss) g w xs ≡ then_open (opens locals result s g w (prepared s ss xs)) ss (keeping_or (plain.after locals result s g)) w
  next-open (switch q ss) (more (switch r ts) rest) g w xs e =
      let ys = map settled xs in
      let inside : Ways = record { breaks = Some ys; continues = w.continues; labels = declared_at ss ys } in
      let first = keeping_or (plain.after locals result (switch q ss) g) in
      ap (λ (b : Bool).
      if b
      then (if comes_to ys (all_open locals result ts plain.nothing_set inside ys)
      then all_open locals result rest (keeping_or (plain.after locals result (switch r ts) first)) w ys else wrong)
      else then_open (opens locals result (switch q ss) g w xs) (more (switch r ts) rest) first w)
      (not-true ((q == r) && stands_before ss ts) e)
  next-open s ss g w xs e = refl

  both-open : (b t : Bool) (a o : Where) → b ≡ true → is_right (if b then (if t then a else wrong) else o) ≡ true
      → (t ≡ true) × ((if b then (if t then a else wrong) else o) ≡ a)
  both-open true true a o e right = (refl, refl)
  both-open true false a o e right = absurd (let k = right in cc)
  both-open false t a o e right = absurd (let k = e in cc)

  -- behind a switch and the one that it declares for
  pub next-both : (q r : Register) (ss ts rest : Plains) (g : plain.Keeping) (w : Ways) (xs : List Opened) → (q == r) && stands_before ss ts ≡ true
      → is_right (all_open locals result (more (switch q ss) (more (switch r ts) rest)) g w xs) ≡ true
      → (comes_to (map settled xs) (all_open locals result ts plain.nothing_set (ways_behind w ss (map settled xs)) (map settled xs)) ≡ true)
      × (all_open locals result (more (switch q ss) (more (switch r ts) rest)) g w xs
      ≡ all_open locals result rest (keeping_or (plain.after locals result (switch r ts) (keeping_or (plain.after locals result (switch q ss) g)))) w (map settled xs))
  next-both q r ss ts rest g w xs e right =
      both-open ((q == r) && stands_before ss ts)
      (comes_to (map settled xs) (all_open locals result ts plain.nothing_set (ways_behind w ss (map settled xs)) (map settled xs)))
      (all_open locals result rest (keeping_or (plain.after locals result (switch r ts) (keeping_or (plain.after locals result (switch q ss) g)))) w (map settled xs))
      (then_open (opens locals result (switch q ss) g w xs) (more (switch r ts) rest) (keeping_or (plain.after locals result (switch q ss) g)) w) e right

  pub ready-next : (s : Plain) (ss : Plains) (g : plain.Keeping) → all_ready locals result (more s ss) g ≡ true
      → (ready locals result s g ≡ true) × (all_ready locals result ss (keeping_or (plain.after locals result s g)) ≡ true)
  ready-next s ss g e =
      let two = both (ready locals result s g) (elim (plain.after locals result s g) [ None ↦ false | Some k ↦ all_ready locals result ss k ]) e in
      (two.0, by (plain.after locals result s g) two.1)
    where
      by : (o : Option plain.Keeping) → elim o [ None ↦ false | Some k ↦ all_ready locals result ss k ] ≡ true → all_ready locals result ss (keeping_or o) ≡ true
      by None k = absurd (let i = k in cc)
      by (Some k) i = i

pub told-next : (locals : Locals) (result : SourceType) (s : Plain) (g : plain.Keeping) (h : Keeping) → AllTold locals g h → ready locals.types result s g ≡ true
    → AllTold locals (keeping_or (plain.after locals.types result s g)) (after locals s h)
told-next locals result s g h told e = by (plain.after locals.types result s g) (statement-told locals result s g h told e)
  where
    by : (o : Option plain.Keeping) → AllToldIf locals o (after locals s h) → AllTold locals (keeping_or o) (after locals s h)
    by None k = λ r. tt
    by (Some k) i = i
