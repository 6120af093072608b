-- What is told of the places of registers, by lists of them that are changed.
use Rattle.std.proofs.Common.{◌≡◌, ℕ, ◌==◌, Bool, true, false, if◌then◌else◌, not, List, [], ◌∷◌, filter, refl, sym, ap, ◌∙◌, arith}
use Rattle.std.specs.Prelude.{bytes_eq}
use Rattle.std.proofs.lemmas.Bool.Decides.{nat_tests}
use Rattle.cf_plain.specs.Plain.{Register}
use Rattle.cf_lower_kept.specs.Opened.{Counts, no_places, told_in, same_places}
use Rattle.cf_lowerable_open.specs.declared.located.Place.{Place}
use Rattle.cf_lowerable_open.specs.Located.{counts_in, shared_at}

same_number : (n m : ℕ) → (n == m) ≡ true → n ≡ m
same_number n m e = grind (arith, nat_tests)

number_self : (n : ℕ) → (n == n) ≡ true
number_self n = grind (arith, nat_tests)

if_true : {A : Type 0} (a : Bool) (x y : A) → a ≡ true → (if a then x else y) ≡ x
if_true true x y e = refl
if_true false x y e = absurd (cc)

if_false : {A : Type 0} (a : Bool) (x y : A) → a ≡ false → (if a then x else y) ≡ y
if_false true x y e = absurd (cc)
if_false false x y e = refl

if_same : {A : Type 0} (a : Bool) (x : A) → (if a then x else x) ≡ x
if_same true x = refl
if_same false x = refl

-- ---- nothing is told of a register any more

-- the places of other registers
abbrev pub is_other : ℕ → Place → Bool
is_other r p = not (p.register == r)

module _ (r q : Register) where
  -- one place more
  forgets_one : (p : Place) (rest : List Place) (left : Counts) → left ≡ (if q == r then [] else counts_in rest q) → (b : Bool) → (p.register == r) ≡ b
      → (c : Bool) → (q == r) ≡ c → (if not b then (if q == p.register then p.counts else left) else left) ≡ (if c then [] else (if q == p.register then p.counts else counts_in rest q))
  forgets_one p rest left e true is true at = e ∙ if_true (q == r) [] (counts_in rest q) at
  forgets_one p rest left e true is false at =
      e ∙ if_false (q == r) [] (counts_in rest q) at
      ∙ sym (if_false (q == p.register) p.counts (counts_in rest q) (ap (λ n. q == n) (same_number p.register r is) ∙ at))
  forgets_one p rest left e false is true at =
      let same : q ≡ r = same_number q r at in
      if_false (q == p.register) p.counts left (grind (arith, nat_tests)) ∙ e ∙ if_true (q == r) [] (counts_in rest q) at
  forgets_one p rest left e false is false at = ap (λ l. if q == p.register then p.counts else l) (e ∙ if_false (q == r) [] (counts_in rest q) at)

  kept_one : (p : Place) (rest : List Place) (b : Bool) → counts_in (if b then p ∷ rest else rest) q ≡ (if b then (if q == p.register then p.counts else counts_in rest q) else counts_in rest q)
  kept_one p rest true = refl
  kept_one p rest false = refl

  forgets_at : (ps : List Place) → counts_in (filter (is_other r) ps) q ≡ (if q == r then [] else counts_in ps q)
  forgets_at [] = sym (if_same (q == r) [])
  forgets_at (p ∷ ps) =
      kept_one p (filter (is_other r) ps) (is_other r p)
      ∙ forgets_one p ps (counts_in (filter (is_other r) ps) q) (forgets_at ps) (p.register == r) refl (q == r) refl

pub forgets : (r : Register) (ps qs : List Place) → qs ≡ filter (is_other r) ps → counts_in qs ≡ told_in r [] (counts_in ps)
forgets r ps qs e = ap counts_in e ∙ (λ j q. forgets_at r q ps j)

-- ---- something is told of one

pub tells : (r : Register) (p : Place) (ns : Counts) (ps qs : List Place) → p ≡ record { register = r; counts = ns } → qs ≡ p ∷ ps → counts_in qs ≡ told_in r ns (counts_in ps)
tells r p ns ps qs is e = ap counts_in e ∙ ap (λ (p : Place). counts_in (p ∷ ps)) is

-- nothing is told where no place is listed
pub none_told : (ps : List Place) → ps ≡ [] → counts_in ps ≡ no_places
none_told ps e = ap counts_in e

-- ---- what two lists tell alike

module _ (left right : List Place) (q : Register) where
  abbrev Same : Counts
  Same = same_places (counts_in left) (counts_in right) q

  -- of a register that is listed
  shared_one : (r : Register) (rest : List Place) (b c : Bool) → (q == r) ≡ b → bytes_eq (counts_in left r) (counts_in right r) ≡ c
      → (b ≡ false → counts_in (shared_at rest left right) q ≡ Same) → (c ≡ false → q ≡ r → counts_in (shared_at rest left right) q ≡ Same)
      → counts_in (if c then record { register = r; counts = counts_in left r } ∷ shared_at rest left right else shared_at rest left right) q ≡ Same
  shared_one r rest true true is test go other =
      let same : q ≡ r = same_number q r is in
      if_true (q == r) (counts_in left r) _ is
      ∙ sym (if_true (bytes_eq (counts_in left r) (counts_in right r)) (counts_in left r) [] test)
      ∙ ap (same_places (counts_in left) (counts_in right)) (sym same)
  shared_one r rest true false is test go other = other refl (same_number q r is)
  shared_one r rest false true is test go other = if_false (q == r) (counts_in left r) _ is ∙ go refl
  shared_one r rest false false is test go other = go refl

  alike_none : (r : Register) → q ≡ r → bytes_eq (counts_in left r) (counts_in right r) ≡ false → Same ≡ []
  alike_none r e test = ap (same_places (counts_in left) (counts_in right)) e ∙ if_false _ (counts_in left r) [] test

  shared_all : (ps : List Place) → (counts_in ps q ≡ [] → Same ≡ []) → counts_in (shared_at ps left right) q ≡ Same
  shared_all [] none = sym (none refl)
  shared_all (p ∷ ps) none =
      shared_one p.register ps (q == p.register) (bytes_eq (counts_in left p.register) (counts_in right p.register)) refl refl
      (λ no. shared_all ps (λ e. none (if_false (q == p.register) p.counts (counts_in ps q) no ∙ e)))
      (λ no same. shared_all ps (λ e. alike_none p.register same no))

  none_alike : (b : Bool) → counts_in left q ≡ [] → (if b then counts_in left q else []) ≡ []
  none_alike true e = e
  none_alike false e = refl

  pub shared_here : counts_in (shared_at left left right) q ≡ Same
  shared_here = shared_all left (none_alike (bytes_eq (counts_in left q) (counts_in right q)))

pub shared_told : (left right made : List Place) → made ≡ shared_at left left right → counts_in made ≡ same_places (counts_in left) (counts_in right)
shared_told left right made e = ap counts_in e ∙ (λ j q. shared_here left right q j)
