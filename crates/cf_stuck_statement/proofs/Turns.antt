-- So many turns are as many elements as can be read.
use Rattle.std.proofs.Common.{◌≡◌, ℕ, zero, suc, ◌+◌, ◌-◌, ◌<◌, ◌≤◌, List, Option, Some, None, refl, sym, ◌∙◌, ap, arith}
use Rattle.cf_tokens.specs.declared.token.Token.{Token}
use Rattle.cf_syntax.specs.Parse.{Parse, with_rest}
use Rattle.cf_unit.specs.Read.{turn, row}
use Rattle.cf_stuck_statement.specs.Parts.{turns}

module _ {A : Type 0} (step : A → Parse A) where
  -- one more turn at the end
  one-more : (n : ℕ) (a : A) (ts : List Token) → turns step (suc n) a ts ≡ with_rest (turns step n a ts) step
  one-more zero a ts = by-step (step a ts)
    where
      by-step : (o : Option (A × List Token)) → with_rest o (turns step zero) ≡ o
      by-step None = refl
      by-step (Some q) = refl
  one-more (suc n) a ts = by-step (step a ts) (one-more n)
    where
      by-step : (o : Option (A × List Token)) → ((b : A) (us : List Token) → turns step (suc n) b us ≡ with_rest (turns step n b us) step)
          → with_rest o (turns step (suc n)) ≡ with_rest (with_rest o (turns step n)) step
      by-step None ih = refl
      by-step (Some q) ih = ih q.0 q.1

  -- behind so many turns the rest of the row is read from here, for as many tokens as are left
  pub record Counted (most count : ℕ) (a : A) (ts : List Token) (b : A) (us : List Token) : Type 0 where
    pub so_far : turns step count a ts ≡ Some (b, us)
    pub rest : row step (most - count) b us ≡ row step most a ts

  pub counted-none : (most : ℕ) (a : A) (ts : List Token) → Counted most 0 a ts a ts
  counted-none most a ts = let all : most - 0 ≡ most = omega arith in record { so_far = refl; rest = ap (λ m. row step m a ts) all }

  pub counted-one : (most n : ℕ) (a : A) (ts : List Token) (b : A) (us : List Token) (c : A) (vs : List Token) → n < most → step b us ≡ Some (c, vs)
      → Counted most n a ts b us → Counted most (n + 1) a ts c vs
  counted-one most n a ts b us c vs below read so =
      let left : most - n ≡ suc (most - (n + 1)) = omega arith in
      let next : n + 1 ≡ suc n = omega arith in
      record {
        so_far = ap (λ m. turns step m a ts) next ∙ one-more n a ts ∙ ap (λ o. with_rest o step) so.so_far ∙ read;
        rest = sym (ap (λ m. row step m b us) left ∙ ap (λ o. turn o b us (row step (most - (n + 1)))) read) ∙ so.rest;
      }

  stops : (m : ℕ) (b : A) (us : List Token) → step b us ≡ None → row step m b us ≡ Some (b, us)
  stops zero b us e = refl
  stops (suc m) b us e = ap (λ o. turn o b us (row step m)) e

  -- there is no more
  pub counted-stops : (most n : ℕ) (a : A) (ts : List Token) (b : A) (us : List Token) → step b us ≡ None → Counted most n a ts b us
      → turns step n a ts ≡ row step most a ts
  counted-stops most n a ts b us none so = so.so_far ∙ sym (stops (most - n) b us none) ∙ so.rest

  -- all turns are done
  pub counted-all : (most n : ℕ) (a : A) (ts : List Token) (b : A) (us : List Token) → most ≤ n → n ≤ most → Counted most n a ts b us
      → turns step most a ts ≡ row step most a ts
  counted-all most n a ts b us done above so =
      let same : most ≡ n = omega arith in
      let none : most - n ≡ 0 = omega arith in
      ap (λ m. turns step m a ts) same ∙ so.so_far ∙ sym (ap (λ m. row step m b us) none) ∙ so.rest

  -- ---- a second time over so many

  pub goes-on : (n k : ℕ) (b : A) (us : List Token) (c : A) (vs : List Token) (z : Option (A × List Token)) → k < n → step b us ≡ Some (c, vs)
      → turns step (n - k) b us ≡ z → turns step (n - (k + 1)) c vs ≡ z
  goes-on n k b us c vs z below read so_far =
      let left : n - k ≡ suc (n - (k + 1)) = omega arith in
      sym (ap (λ m. turns step m b us) left ∙ ap (λ o. with_rest o (turns step (n - (k + 1)))) read) ∙ so_far

  pub cannot : (n k : ℕ) (b : A) (us : List Token) (z : Option (A × List Token)) → k < n → step b us ≡ None → turns step (n - k) b us ≡ z → z ≡ None
  cannot n k b us z below none so_far =
      let left : n - k ≡ suc (n - (k + 1)) = omega arith in
      sym so_far ∙ ap (λ m. turns step m b us) left ∙ ap (λ o. with_rest o (turns step (n - (k + 1)))) none

  pub all-done : (n k : ℕ) (b : A) (us : List Token) (z : Option (A × List Token)) → n ≤ k → turns step (n - k) b us ≡ z → z ≡ Some (b, us)
  all-done n k b us z done so_far =
      let none : n - k ≡ 0 = omega arith in sym so_far ∙ ap (λ m. turns step m b us) none
