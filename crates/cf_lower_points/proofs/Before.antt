-- What has to be so of the source before a leaf is so at a point, where the leaf may stand.
use Rattle.std.proofs.Common.{◌≡◌, ℕ, ◌<◌, nat_lt, nat_le, Bool, true, false, ◌&&◌, not, if◌then◌else◌, List, [], refl, sym, ◌∙◌, ap, subst, arith, ◌⊎◌, inl, inr}
use Rattle.std.specs.Prelude.{◌^◌, Option, Some, length}
use Rattle.std.specs.List.{list_any}
use Rattle.std.proofs.lemmas.Bool.Decides.{nat_tests}
use Rattle.cf_base.proofs.Tests.{both}
use Rattle.cf_core.specs.Types.{SourceType, type_eq, without_const}
use Rattle.cf_core.specs.Places.{Place, is_scalar}
use Rattle.cf_core.specs.Size.{size}
use Rattle.cf_core.specs.Store as source
use Rattle.cf_core.specs.Run.{State}
use Rattle.cf_core.specs.Calls.{root}
use Rattle.cf_lower_layout.specs.Layout.{leads, has_bytes, const_once}
use Rattle.cf_lower_layout.specs.Sorts.{address, sort_to}
use Rattle.cf_plain.specs.Plain as plain
use Rattle.cf_plain.specs.Plain.{Register, Plain, act, set}
use Rattle.cf_plain.specs.Acts.{Registers}
use Rattle.cf_plain_kept.specs.Kept as told
use Rattle.cf_lower.specs.Kept.{holds, argument, Keeping, is_argument, type_of_local}
use Rattle.cf_lower_kept.specs.Opened.{Opened, has_object, is_open, starts_well, may_begin}
use Rattle.cf_lower_kept.specs.Told.{ToldIf, AllTold, IsObject}
use Rattle.cf_lower_turns.specs.Scene.{Scene}
use Rattle.cf_lower_actions.specs.Leaf.{is_local, is_laid, is_leaf, IsThere, IsLocals, FirstThere, Before}
use Rattle.cf_lower_actions.specs.Leaf as leaf
use Rattle.cf_lower_bounds.specs.Points.{Open, InFrame, local_count}
use Rattle.cf_lower_points.specs.Leading.{leads_on}
use Rattle.cf_lower_points.proofs.Placed.{moved-none, leads-anyway}
use Rattle.cf_lower_points.proofs.Standing.{begun-member, place-member}

-- a register with the object of a local that has just been declared
pub record BegunAs (o : Option told.Kept) (r : Register) (xs : List Opened) : Type 0 where
  pub local : ℕ
  pub type : SourceType
  pub is : o ≡ Some (told.an_object local type)
  pub test : may_begin local r xs ≡ true

-- a register with the place of a part of one
pub record PartAs (o : Option told.Kept) (r : Register) (xs : List Opened) : Type 0 where
  pub type : SourceType
  pub is : o ≡ Some (told.a_place type)
  pub test : list_any (λ x. has_object (x.places r)) xs ≡ true

pub starts-as : (o : Option told.Kept) (r : Register) (xs : List Opened) → starts_well o r xs ≡ true → BegunAs o r xs ⊎ PartAs o r xs
starts-as (Some (told.an_object i t)) r xs e = inl (record { local = i; type = t; is = refl; test = e })
starts-as (Some (told.a_place t)) r xs e = inr (record { type = t; is = refl; test = e })
starts-as o r xs e = absurd (let k = e in cc)

some-place : {p q : Place} → Some (source.At p) ≡ Some (source.At q) → p ≡ q
some-place e = cc

pub not-true : (b : Bool) → not b ≡ true → b ≡ false
not-true true e = absurd (let k = e in cc)
not-true false e = refl

-- a local that is declared is one of the function's
pub declared-below : (z : Scene) (i : ℕ) (t : SourceType) → leaf.may_begin z i t ≡ true → i < local_count z
declared-below z i t e =
    let one = both (is_local z.body.own.locals i t) (is_laid z.program.classes t) e in
    let two = both (nat_lt i (length z.body.own.locals.types)) (type_eq (without_const t) (without_const (type_of_local z.body.own.locals i))) one.0 in
    let k = two.0 in
    grind (arith, nat_tests, k)

-- and no const of its type stands on const
pub declared-once : (z : Scene) (i : ℕ) (t : SourceType) → leaf.may_begin z i t ≡ true → const_once t ≡ true
declared-once z i t e =
    let one = both (is_local z.body.own.locals i t) (is_laid z.program.classes t) e in
    let two = both (nat_le (size z.program.classes t) (2 ^ 22)) (has_bytes t && const_once t) one.1 in
    (both (has_bytes t) (const_once t) two.1).1

module _ (z : Scene) (gk : told.Keeping) (h : Keeping) (tells : AllTold z.inside.locals gk h) (xs : List Opened) (g : Registers) (s : State)
    (open_here : Open (local_count z) xs g s) (frame : InFrame z s) where
  -- the object of a local
  begun-there : (r : Register) (i : ℕ) → may_begin i r xs ≡ true → IsThere z.program.classes g s r
  begun-there r i test p k =
      let m = begun-member (local_count z) g s i r xs test open_here.each in
      let same : p ≡ root m.one.object = some-place (sym k ∙ m.place) in (
        ap (λ (q : Place). (s.object q.object).is_gone) same ∙ m.one.stands,
        ap (λ (q : Place). leads z.program.classes (s.object q.object).type q.route) same,
      )

  -- a part of one
  part-there : (r : Register) → list_any (λ x. has_object (x.places r)) xs ≡ true → IsThere z.program.classes g s r
  part-there r test p k =
      let m = (place-member (local_count z) g s r xs test open_here.each).part in
      let same : p ≡ record { object = m.one.object; route = m.route } = some-place (sym k ∙ m.place) in
      let inside = subst (λ π. leads [] (s.object m.one.object).type π ≡ true) (moved-none m.route) m.inside in (
        ap (λ (q : Place). (s.object q.object).is_gone) same ∙ m.one.stands,
        ap (λ (q : Place). leads z.program.classes (s.object q.object).type q.route) same
            ∙ leads-anyway z.program.classes (s.object m.one.object).type m.route inside,
      )

  is-there : (r : Register) → starts_well (gk r) r xs ≡ true → IsThere z.program.classes g s r
  is-there r e = by_start (starts-as (gk r) r xs e)
    where
      by_start : BegunAs (gk r) r xs ⊎ PartAs (gk r) r xs → IsThere z.program.classes g s r
      by_start (inl x) = begun-there r x.local x.test
      by_start (inr x) = part-there r x.test

  is-locals : (r : Register) (i : ℕ) → may_begin i r xs ≡ true → IsLocals g s r i
  is-locals r i test p k =
      let m = begun-member (local_count z) g s i r xs test open_here.each in
      let same : p ≡ root m.one.object = some-place (sym k ∙ m.place) in (
        ap (λ (q : Place). q.route) same,
        (m.one.there ∙ ap (λ (q : Place). Some q.object) (sym same), ap (λ (q : Place). (s.object q.object).is_gone) same ∙ m.one.stands),
      )

  pub first-there : (r : Register) → starts_well (gk r) r xs ≡ true → FirstThere z.program.classes (h r) g s r
  first-there r e = by_start (starts-as (gk r) r xs e)
    where
      by_test : (i : ℕ) (t : SourceType) → may_begin i r xs ≡ true → (b : Bool) → FirstThere z.program.classes (if b then argument i t else holds (address (without_const t))) g s r
      by_test i t test true = is-locals r i test
      by_test i t test false = begun-there r i test

      by_start : BegunAs (gk r) r xs ⊎ PartAs (gk r) r xs → FirstThere z.program.classes (h r) g s r
      by_start (inl x) =
          let it : IsObject z.inside.locals x.local x.type (h r) = subst (λ o. ToldIf z.inside.locals o (h r)) x.is (tells r) in
          subst (λ y. FirstThere z.program.classes y g s r) (sym it.is) (by_test x.local x.type x.test (is_argument z.inside.locals x.local && is_scalar x.type))
      by_start (inr x) =
          let it : h r ≡ holds (sort_to (without_const x.type)) = subst (λ o. ToldIf z.inside.locals o (h r)) x.is (tells r) in
          subst (λ y. FirstThere z.program.classes y g s r) (sym it) (part-there r x.test)

  pub before : (st : Plain) → is_leaf z h st ≡ true → leads_on gk st xs ≡ true → Before z h st g s
  before (set r (plain.text j bytes)) l e = frame.function
  before (set r (plain.declare i t)) l e = λ o k.
      open_here.over i o (declared-below z i t (both (nat_lt r z.body.own.bound) (leaf.may_begin z i t) l).1) (not-true (is_open i xs) e) k
  before (set r (plain.first p q)) l e = first-there p e
  before (set r (plain.zeros p)) l e = absurd (let k = (both (nat_lt r z.body.own.bound) false l).1 in cc)
  before (set r (plain.bytes p b)) l e = absurd (let k = (both (nat_lt r z.body.own.bound) false l).1 in cc)
  before (set r a) l e = tt
  before (act (plain.text j bytes)) l e = frame.function
  before (act (plain.declare i t)) l e = λ o k.
      open_here.over i o (declared-below z i t l) (not-true (is_open i xs) e) k
  before (act (plain.first p q)) l e = first-there p e
  before (act (plain.zeros r)) l e = is-there r e
  before (act (plain.bytes r b)) l e = is-there r e
  before (act a) l e = tt
  before st l e = tt
