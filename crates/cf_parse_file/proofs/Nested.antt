-- What the nesting and the brackets of a file say of it.
use Rattle.std.proofs.Common.{◌≡◌, ℕ, Bool, true, false, cond, List, Option, Some, None, refl, ap}
use Rattle.cf_tokens.specs.declared.token.Token.{Token}
use Rattle.cf_nesting.specs.declared.nesting.Nesting.{Nesting}
use Rattle.cf_nesting.specs.declared.nesting.Nesting.TheVariants as found
use Rattle.cf_nesting.specs.Found.{by_place, found_in}
use Rattle.cf_unit.specs.Nesting.{passes, unmatched}

abbrev found-by : Bool → Option ℕ → Nesting
found-by p o = cond p found.TooDeep (by_place o)

matched-deep : found.Matched ≡ found.TooDeep → ⊥
matched-deep e = cc

unmatched-deep : (at : ℕ) → found.Unmatched at ≡ found.TooDeep → ⊥
unmatched-deep at e = cc

deep-unmatched : (at : ℕ) → found.TooDeep ≡ found.Unmatched at → ⊥
deep-unmatched at e = cc

matched-unmatched : (at : ℕ) → found.Matched ≡ found.Unmatched at → ⊥
matched-unmatched at e = cc

deep-by : (p : Bool) (o : Option ℕ) → found-by p o ≡ found.TooDeep → p ≡ true
deep-by true o e = refl
deep-by false None e = absurd (matched-deep e)
deep-by false (Some at) e = absurd (unmatched-deep at e)

abbrev place-in : Nesting → Option ℕ
place-in found.TooDeep = None
place-in (found.Unmatched at) = Some at
place-in found.Matched = None

unmatched-by : (p : Bool) (o : Option ℕ) (at : ℕ) → found-by p o ≡ found.Unmatched at → (p ≡ false) × (o ≡ Some at)
unmatched-by true o at e = absurd (deep-unmatched at e)
unmatched-by false None at e = absurd (matched-unmatched at e)
unmatched-by false (Some b) at e = (refl, ap place-in e)

pub deep : (ts : List Token) → found_in ts ≡ found.TooDeep → passes ts ≡ true
deep ts e = deep-by (passes ts) (unmatched ts) e

pub unmatched-at : (ts : List Token) (at : ℕ) → found_in ts ≡ found.Unmatched at → (passes ts ≡ false) × (unmatched ts ≡ Some at)
unmatched-at ts at e = unmatched-by (passes ts) (unmatched ts) at e
