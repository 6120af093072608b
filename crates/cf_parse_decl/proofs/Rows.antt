-- A loop in the code beside a row of a reading: what is read from here on is what is read from the start on.
use Rattle.std.proofs.Common.{◌≡◌, ℕ, zero, suc, ◌+◌, ◌-◌, ◌<◌, ◌≤◌, List, length, Option, Some, None, refl, sym, ◌∙◌, ap, arith}
use Rattle.cf_tokens.specs.declared.token.Token.{Token}
use Rattle.cf_syntax.specs.Parse.{Parse}
use Rattle.cf_parse_decl.proofs.Elements.{is-less, not-less}
use Rattle.cf_unit.specs.Read.{kept, taking, turn, row}

module _ {A : Type 0} (step : A → Parse A) where
  none-more : (m : ℕ) (a : A) (ts : List Token) → taking (step a ts) ts ≡ None → row (λ b us. taking (step b us) us) m a ts ≡ Some (a, ts)
  none-more zero a ts e = refl
  none-more (suc n) a ts e = ap (λ o. turn o a ts (row (λ b us. taking (step b us) us) n)) e

  -- there is no more
  pub row-stops : (m : ℕ) (a : A) (ts : List Token) (z : Option (A × List Token)) → step a ts ≡ None
      → row (λ b us. taking (step b us) us) m a ts ≡ z → z ≡ Some (a, ts)
  row-stops m a ts z none so_far = sym so_far ∙ none-more m a ts (ap (λ o. taking o ts) none)

  -- what is there takes no token
  pub row-stalls : (m : ℕ) (a b : A) (ts us : List Token) (z : Option (A × List Token)) → step a ts ≡ Some (b, us) → length ts ≤ length us
      → row (λ c vs. taking (step c vs) vs) m a ts ≡ z → z ≡ Some (a, ts)
  row-stalls m a b ts us z read longer so_far =
      sym so_far ∙ none-more m a ts (ap (λ o. taking o ts) read ∙ ap (λ l. kept l (b, us)) (not-less (length us) (length ts) longer))

  -- one more turn
  pub row-goes-on : (n k : ℕ) (a b : A) (ts us : List Token) (z : Option (A × List Token)) → k < n → step a ts ≡ Some (b, us)
      → length us < length ts → row (λ c vs. taking (step c vs) vs) (n - k) a ts ≡ z → row (λ c vs. taking (step c vs) vs) (n - (k + 1)) b us ≡ z
  row-goes-on n k a b ts us z below read shorter so_far =
      let more : n - k ≡ suc (n - (k + 1)) = omega arith in
      let taken : taking (step a ts) ts ≡ Some (b, us) = ap (λ o. taking o ts) read ∙ ap (λ l. kept l (b, us)) (is-less (length us) (length ts) shorter) in
      sym (ap (λ m. row (λ c vs. taking (step c vs) vs) m a ts) more ∙ ap (λ o. turn o a ts (row (λ c vs. taking (step c vs) vs) (n - (k + 1)))) taken) ∙ so_far

  -- all turns are done
  pub row-ends : (n k : ℕ) (a : A) (ts : List Token) (z : Option (A × List Token)) → n ≤ k
      → row (λ b us. taking (step b us) us) (n - k) a ts ≡ z → z ≡ Some (a, ts)
  row-ends n k a ts z done so_far =
      let none : n - k ≡ 0 = omega arith in sym so_far ∙ ap (λ m. row (λ b us. taking (step b us) us) m a ts) none
