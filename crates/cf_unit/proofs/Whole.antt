-- Tokens are one thing, and some thing.
use Rattle.std.proofs.Common.{◌≡◌, ℕ, suc, Bool, true, false, ◌⊎◌, inl, inr, List, [], ◌∷◌, length, Option, Some, None, refl, sym, ◌∙◌, ap, subst}
use Rattle.cf_tokens.specs.declared.token.Token.{Token}
use Rattle.cf_syntax.specs.NamesData.{Names}
use Rattle.cf_syntax.specs.Words.{place}
use Rattle.cf_syntax.proofs.Good.{both-ways, some-is-not-none, some-value}
use Rattle.cf_unit.specs.declared.file.Item.{Item}
use Rattle.cf_unit.specs.declared.file.Unit.{Unit as File}
use Rattle.cf_unit.specs.Known.{Known, in_block}
use Rattle.cf_unit.specs.Rule.{Rule, until, Element, AsOften, spells}
use Rattle.cf_unit.specs.Read.{element, row, reading, stuck_at}
use Rattle.cf_unit.specs.Stuck.{Spot, Nowhere, Stuck}
use Rattle.cf_syntax.specs.Names.{no_names}
use Rattle.cf_unit.specs.Statements.{names_behind}
use Rattle.cf_unit.specs.Files.{at_end, by_tree, file, inner, next_item, SpellsFile}
use Rattle.cf_unit.specs.Nesting.{passes, unmatched}
use Rattle.cf_unit.specs.Answers.{Answer, accepted, refused, too_deep, IsUnit, nested, unpaired, misspelled, spelled, HasOneAnswer, HasAnswer, HasOneFile}
use Rattle.cf_unit.proofs.Exact.{Exact, exact, exact-elements, total-row, one-value}
use Rattle.cf_unit.proofs.Spots.{tells, one-spot}

module _ {A : Type 0} (ends : List Token → Bool) (names : A → Names) (step : A → Rule A) where
  abbrev Steps : A → List Token → A → List Token → Type 0
  Steps = AsOften (λ b. Element ends (spells (step b)))

  steps-exact : (a : A) → Exact (λ ts. row (λ b. element ends (reading (step b))) (length ts) a ts) (Steps a)
  steps-exact a = exact-elements ends (λ b. reading (step b)) (λ b. spells (step b)) (λ b. exact (step b)) a

  -- elements that end are not stuck
  pub apart : (a : A) (ts : List Token) (x : A) (rest : List Token) (p : Spot) → spells (until ends names step a) ts x rest → Stuck (until ends names step a) ts p → ⊥
  apart a ts x rest p (s, t) (b, mid, r, (f, fails)) =
      let same = some-value {A = A × List Token} (x, rest) (b, mid) (sym ((steps-exact a).complete ts x rest s) ∙ (steps-exact a).complete ts b mid r) in
      both-ways (ends mid) (subst (λ (z : A × List Token). ends z.1 ≡ true) same t) f

  -- elements end or are stuck
  pub some-way : (a : A) (ts : List Token) → ((x : A) × (rest : List Token) × spells (until ends names step a) ts x rest) ⊎ ((p : Spot) × Stuck (until ends names step a) ts p)
  some-way a ts = by_row (total-row (λ b. element ends (reading (step b))) (length ts) a ts)
    where
      by_spot : (b : A) (mid : List Token) → Steps a ts b mid → ends mid ≡ false → (o : Option Spot) → stuck_at (step b) mid ≡ o
          → (p : Spot) × Stuck (until ends names step a) ts p
      by_spot b mid s f None is = (record { at = place mid; names = names b }, (b, mid, s, (f, inr (nowhere, refl))))
        where
          nowhere : Nowhere (Stuck (step b)) mid
          nowhere p t = some-is-not-none (stuck_at (step b) mid) p is ((tells (step b)).complete mid p t)
      by_spot b mid s f (Some p) is = (p, (b, mid, s, (f, inl ((tells (step b)).sound mid p is))))

      by_end : (b : A) (mid : List Token) → Steps a ts b mid → (e : Bool) → ends mid ≡ e
          → ((x : A) × (rest : List Token) × spells (until ends names step a) ts x rest) ⊎ ((p : Spot) × Stuck (until ends names step a) ts p)
      by_end b mid s true t = inl (b, mid, (s, t))
      by_end b mid s false f = inr (by_spot b mid s f (stuck_at (step b) mid) refl)

      by_row : (z : A × List Token) × (row (λ b. element ends (reading (step b))) (length ts) a ts ≡ Some z)
          → ((x : A) × (rest : List Token) × spells (until ends names step a) ts x rest) ⊎ ((p : Spot) × Stuck (until ends names step a) ts p)
      by_row z = by_end z.0.0 z.0.1 ((steps-exact a).sound ts z.0.0 z.0.1 z.1) (ends z.0.1) refl

-- ---- files

abbrev step_in : ℕ → List Item × Known → Rule (List Item × Known)
step_in n = next_item (inner by_tree (suc n))

abbrev start : List Item × Known
start = ([], in_block no_names)

nothing-left : (rest : List Token) → at_end rest ≡ true → rest ≡ []
nothing-left [] e = refl
nothing-left (t ∷ ts) e = absurd (clash e)
  where
    clash : false ≡ true → ⊥
    clash q = cc

apart-file : (ts : List Token) (f : File) (p : Spot) → SpellsFile ts f → Stuck (file (length ts)) ts p → ⊥
apart-file ts f p (known, s) t = apart at_end names_behind (step_in (length ts)) start ts (f.items, known) [] p s t

pub one-file : HasOneFile
one-file ts f g (k, s) (l, t) =
    let same = one-value (file (length ts)) ts (f.items, k) (g.items, l) [] [] s t in ap (λ (z : (List Item × Known) × List Token). of_items z.0.0) same
  where
    of_items : List Item → File
    of_items items = record { items = items }

ends-clash : {P : Type 0} (ts : List Token) (at : ℕ) → unmatched ts ≡ Some at → unmatched ts ≡ None → P
ends-clash ts at s n = some-is-not-none (unmatched ts) at n s

pub one-answer : HasOneAnswer
one-answer ts _ _ (nested e) (nested h) = refl
one-answer ts _ _ (nested e) (unpaired at n u) = both-ways (passes ts) e n
one-answer ts _ _ (nested e) (misspelled p n u s) = both-ways (passes ts) e n
one-answer ts _ _ (nested e) (spelled f n u s) = both-ways (passes ts) e n
one-answer ts _ _ (unpaired at n u) (nested e) = both-ways (passes ts) e n
one-answer ts _ _ (unpaired at n u) (unpaired at2 n2 u2) = ap (λ a. refused a) (some-value at at2 (sym u ∙ u2))
one-answer ts _ _ (unpaired at n u) (misspelled p n2 u2 s) = ends-clash ts at u u2
one-answer ts _ _ (unpaired at n u) (spelled f n2 u2 s) = ends-clash ts at u u2
one-answer ts _ _ (misspelled p n u s) (nested e) = both-ways (passes ts) e n
one-answer ts _ _ (misspelled p n u s) (unpaired at n2 u2) = ends-clash ts at u2 u
one-answer ts _ _ (misspelled p n u s) (misspelled q n2 u2 t) = ap (λ (z : Spot). refused z.at) (one-spot (file (length ts)) ts p q s t)
one-answer ts _ _ (misspelled p n u s) (spelled f n2 u2 t) = absurd (apart-file ts f p t s)
one-answer ts _ _ (spelled f n u s) (nested e) = both-ways (passes ts) e n
one-answer ts _ _ (spelled f n u s) (unpaired at n2 u2) = ends-clash ts at u2 u
one-answer ts _ _ (spelled f n u s) (misspelled p n2 u2 t) = absurd (apart-file ts f p s t)
one-answer ts _ _ (spelled f n u s) (spelled g n2 u2 t) = ap (λ h. accepted h) (one-file ts f g s t)

pub has-answer : HasAnswer
has-answer ts = by_passes (passes ts) refl
  where
    by_way : passes ts ≡ false → unmatched ts ≡ None
        → ((x : List Item × Known) × (rest : List Token) × spells (file (length ts)) ts x rest) ⊎ ((p : Spot) × Stuck (file (length ts)) ts p) → (a : Answer) × IsUnit ts a
    by_way n u (inr (p, s)) = (refused p.at, misspelled p n u s)
    by_way n u (inl (x, rest, s)) =
        (accepted (record { items = x.0 }), spelled (record { items = x.0 }) n u (x.1, subst (λ r. spells (file (length ts)) ts x r) (nothing-left rest s.1) s))

    by_unmatched : passes ts ≡ false → (o : Option ℕ) → unmatched ts ≡ o → (a : Answer) × IsUnit ts a
    by_unmatched n (Some at) u = (refused at, unpaired at n u)
    by_unmatched n None u = by_way n u (some-way at_end names_behind (step_in (length ts)) start ts)

    by_passes : (b : Bool) → passes ts ≡ b → (a : Answer) × IsUnit ts a
    by_passes true e = (too_deep, nested e)
    by_passes false n = by_unmatched n (unmatched ts) refl
