-- A loop in the code whose turns tell whether something was taken, beside a row of a reading.
use Rattle.std.proofs.Common.{◌≡◌, ℕ, zero, suc, ◌+◌, ◌-◌, ◌<◌, ◌≤◌, List, Option, Some, None, refl, sym, ◌∙◌, ap, arith}
use Rattle.cf_tokens.specs.declared.token.Token.{Token}
use Rattle.cf_syntax.specs.Parse.{Parse}
use Rattle.cf_unit.specs.Read.{turn, row}

module _ {A : Type 0} (step : A → Parse A) where
  none-more : (m : ℕ) (a : A) (ts : List Token) → step a ts ≡ None → row step m a ts ≡ Some (a, ts)
  none-more zero a ts e = refl
  none-more (suc n) a ts e = ap (λ o. turn o a ts (row step n)) e

  -- nothing was taken, and nothing has changed
  pub stops : (m : ℕ) (a b : A) (ts us : List Token) (z : Option (A × List Token)) → (step a ts ≡ None) × (b ≡ a) × (us ≡ ts)
      → row step m a ts ≡ z → z ≡ Some (b, us)
  stops m a b ts us z none so_far = sym so_far ∙ none-more m a ts none.0 ∙ sym (ap (λ c. Some (c, ts)) none.1) ∙ sym (ap (λ vs. Some (b, vs)) none.2)

  -- one more was taken
  pub goes-on : (n k : ℕ) (a b : A) (ts us : List Token) (z : Option (A × List Token)) → k < n → step a ts ≡ Some (b, us)
      → row step (n - k) a ts ≡ z → row step (n - (k + 1)) b us ≡ z
  goes-on n k a b ts us z below read so_far =
      let more : n - k ≡ suc (n - (k + 1)) = omega arith in
      sym (ap (λ m. row step m a ts) more ∙ ap (λ o. turn o a ts (row step (n - (k + 1)))) read) ∙ so_far

  -- all turns are done
  pub ends : (n k : ℕ) (a : A) (ts : List Token) (z : Option (A × List Token)) → n ≤ k → row step (n - k) a ts ≡ z → z ≡ Some (a, ts)
  ends n k a ts z done so_far = let none : n - k ≡ 0 = omega arith in sym so_far ∙ ap (λ m. row step m a ts) none
