-- A loop in the code beside the loop of a reading: what is read from here on is what is read from the start on.
use Rattle.std.proofs.Common.{◌≡◌, ℕ, suc, ◌+◌, ◌-◌, ◌<◌, ◌≤◌, List, Option, Some, None, sym, ◌∙◌, ap, arith}
use Rattle.cf_tokens.specs.declared.token.Token.{Token}
use Rattle.cf_syntax.specs.Parse.{Parse, turn, loop}

-- one more turn
pub goes-on : {A : Type 0} (step : A → Parse A) (n k : ℕ) (a b : A) (ts us : List Token) (z : Option (A × List Token))
    → k < n → step a ts ≡ Some (b, us) → loop step (n - k) a ts ≡ z → loop step (n - (k + 1)) b us ≡ z
goes-on step n k a b ts us z below e so_far =
    let more : n - k ≡ suc (n - (k + 1)) = omega arith in
    sym (ap (λ m. loop step m a ts) more ∙ ap (λ r. turn r a ts (loop step (n - (k + 1)))) e) ∙ so_far

-- there is no more
pub ends-there : {A : Type 0} (step : A → Parse A) (n k : ℕ) (a : A) (ts : List Token) (z : Option (A × List Token))
    → k < n → step a ts ≡ None → loop step (n - k) a ts ≡ z → z ≡ Some (a, ts)
ends-there step n k a ts z below e so_far =
    let more : n - k ≡ suc (n - (k + 1)) = omega arith in
    sym so_far ∙ ap (λ m. loop step m a ts) more ∙ ap (λ r. turn r a ts (loop step (n - (k + 1)))) e

-- all turns are done
pub ends-all : {A : Type 0} (step : A → Parse A) (n k : ℕ) (a : A) (ts : List Token) (z : Option (A × List Token))
    → n ≤ k → loop step (n - k) a ts ≡ z → z ≡ Some (a, ts)
ends-all step n k a ts z done so_far =
    let none : n - k ≡ 0 = omega arith in sym so_far ∙ ap (λ m. loop step m a ts) none
