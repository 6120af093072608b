-- A loop over elements in the code beside that of a reading: what is read from here on is what is read from the start on.
use Rattle.std.proofs.Common.{◌≡◌, ℕ, zero, suc, ◌+◌, ◌-◌, ◌<◌, ◌≤◌, Bool, true, false, List, length, Option, Some, None, refl, sym, ◌∙◌, ap, nat_lt, arith}
use Rattle.std.proofs.lemmas.Bool.Decides.{nat_tests}
use Rattle.cf_tokens.specs.declared.token.Token.{Token}
use Rattle.cf_syntax.specs.Parse.{Parse, with_rest}
use Rattle.cf_parse_expr.specs.Reads.{StopsAs}
use Rattle.cf_parse_expr.specs.declared.stop.Stop.{Stop}
use Rattle.cf_parse_expr.specs.declared.stop.Stop.TheVariants as stop
use Rattle.cf_unit.specs.Read.{chosen, kept, taking, element, turn, row, up_to}

pub is-less : (m n : ℕ) → m < n → nat_lt m n ≡ true
is-less m n h = grind (arith, nat_tests)

pub not-less : (m n : ℕ) → n ≤ m → nat_lt m n ≡ false
not-less m n h = grind (arith, nat_tests)

module _ {A : Type 0} (ends : List Token → Bool) (step : A → Parse A) where
  -- nothing more: the elements are what was read so far
  none-more : (m : ℕ) (a : A) (ts : List Token) → element ends (step a) ts ≡ None → row (λ b. element ends (step b)) m a ts ≡ Some (a, ts)
  none-more zero a ts e = refl
  none-more (suc n) a ts e = ap (λ o. turn o a ts (row (λ b. element ends (step b)) n)) e

  at-end : (a : A) (ts : List Token) → ends ts ≡ true → element ends (step a) ts ≡ None
  at-end a ts e = ap (λ b. chosen b (λ us. None) (λ us. taking (step a us) us) ts) e

  before-end : (a : A) (ts : List Token) → ends ts ≡ false → element ends (step a) ts ≡ taking (step a ts) ts
  before-end a ts e = ap (λ b. chosen b (λ us. None) (λ us. taking (step a us) us) ts) e

  counted : (n k : ℕ) → k < n → n - k ≡ suc (n - (k + 1))
  counted n k below = omega arith

  -- the elements are ended
  pub ended : (m : ℕ) (a : A) (ts : List Token) (z : Option (A × List Token)) → ends ts ≡ true → row (λ b. element ends (step b)) m a ts ≡ z
      → with_rest z (up_to ends) ≡ Some (a, ts)
  ended m a ts z e so_far = ap (λ o. with_rest o (up_to ends)) (sym so_far ∙ none-more m a ts (at-end a ts e))
      ∙ ap (λ b. chosen b (λ us. Some (a, us)) (λ us. None) ts) e

  -- there is no more, and the end isn't here
  broken : (m : ℕ) (a : A) (ts : List Token) (z : Option (A × List Token)) → ends ts ≡ false → taking (step a ts) ts ≡ None
      → row (λ b. element ends (step b)) m a ts ≡ z → with_rest z (up_to ends) ≡ None
  broken m a ts z e none so_far = ap (λ o. with_rest o (up_to ends)) (sym so_far ∙ none-more m a ts (before-end a ts e ∙ none))
      ∙ ap (λ b. chosen b (λ us. Some (a, us)) (λ us. None) ts) e

  pub stops : (m : ℕ) (a : A) (ts : List Token) (z : Option (A × List Token)) → ends ts ≡ false → step a ts ≡ None
      → row (λ b. element ends (step b)) m a ts ≡ z → with_rest z (up_to ends) ≡ None
  stops m a ts z e none so_far = broken m a ts z e (ap (λ o. taking o ts) none) so_far

  -- the same by why nothing was read
  pub stops-as : {B : Type 0} (m : ℕ) (a : A) (ts : List Token) (z : Option (A × List Token)) → ends ts ≡ false
      → (o : Option (B × List Token)) (f : B → Parse A) → step a ts ≡ with_rest o f
      → row (λ b. element ends (step b)) m a ts ≡ z → (e : Stop) → StopsAs o e → StopsAs (with_rest z (up_to ends)) e
  stops-as m a ts z e o f read so_far stop.Nothing none = stops m a ts z e (read ∙ ap (λ q. with_rest q f) none) so_far
  stops-as m a ts z e o f read so_far stop.Memory none = tt

  -- an element that takes no token
  pub stalls : (m : ℕ) (a b : A) (ts us : List Token) (z : Option (A × List Token)) → ends ts ≡ false → step a ts ≡ Some (b, us)
      → length ts ≤ length us → row (λ c. element ends (step c)) m a ts ≡ z → with_rest z (up_to ends) ≡ None
  stalls m a b ts us z e read longer so_far =
      broken m a ts z e (ap (λ o. taking o ts) read ∙ ap (λ l. kept l (b, us)) (not-less (length us) (length ts) longer)) so_far

  -- one more element, which takes a token
  pub goes-on : (n k : ℕ) (a b : A) (ts us : List Token) (z : Option (A × List Token)) → k < n → ends ts ≡ false → step a ts ≡ Some (b, us)
      → length us < length ts → row (λ c. element ends (step c)) (n - k) a ts ≡ z → row (λ c. element ends (step c)) (n - (k + 1)) b us ≡ z
  goes-on n k a b ts us z below e read shorter so_far =
      let more = row (λ c. element ends (step c)) (n - (k + 1)) in
      let taken : element ends (step a) ts ≡ Some (b, us) = before-end a ts e ∙ ap (λ o. taking o ts) read ∙ ap (λ l. kept l (b, us)) (is-less (length us) (length ts) shorter) in
      sym (ap (λ m. row (λ c. element ends (step c)) m a ts) (counted n k below) ∙ ap (λ o. turn o a ts more) taken) ∙ so_far

  -- no token is left for an element
  pub runs-out : (n k : ℕ) (a : A) (ts : List Token) (z : Option (A × List Token)) → n ≤ k → ends ts ≡ false
      → row (λ c. element ends (step c)) (n - k) a ts ≡ z → with_rest z (up_to ends) ≡ None
  runs-out n k a ts z done e so_far =
      let none : n - k ≡ 0 = omega arith in
      ap (λ o. with_rest o (up_to ends)) (sym so_far ∙ ap (λ m. row (λ c. element ends (step c)) m a ts) none)
      ∙ ap (λ b. chosen b (λ us. Some (a, us)) (λ us. None) ts) e
