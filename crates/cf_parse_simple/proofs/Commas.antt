-- A list with commas up to a word: a loop in the code beside a row of a reading with what closes it.
use Rattle.std.proofs.Common.{◌≡◌, ℕ, ◌-◌, ◌≤◌, true, false, cond, List, [], ◌∷◌, length, Option, Some, None, nat_eq, refl, ◌∙◌, ap, arith}
use Rattle.std.proofs.lemmas.Bool.Decides.{nat_tests}
use Rattle.cf_tokens.specs.declared.token.Token.{Token}
use Rattle.cf_syntax.specs.Parse.{Parse, with_rest, word}
use Rattle.cf_syntax.specs.Grammar.{sees}
use Rattle.cf_syntax.specs.Words.{front}
use Rattle.cf_parse_decl.proofs.Rows.{row-stops, row-stalls, row-ends}
use Rattle.cf_parse_expr.specs.Reads.{StopsAs}
use Rattle.cf_parse_expr.specs.declared.stop.Stop.{Stop}
use Rattle.cf_parse_expr.specs.declared.stop.Stop.TheVariants as stop
use Rattle.cf_unit.specs.Read.{taking, row}

-- ---- words

pub no-word : (n : ℕ) (ts : List Token) → sees n ts ≡ false → word n ts ≡ None
no-word n [] e = refl
no-word n (t ∷ ts) e = ap (λ b. cond b (Some (t.at, ts)) None) e

apart : (m n k : ℕ) → nat_eq k m ≡ true → nat_eq m n ≡ false → nat_eq k n ≡ false
apart m n k e other = grind (arith, nat_tests)

-- a word that stands there is no other
pub other-word : (m n : ℕ) (ts : List Token) → sees m ts ≡ true → nat_eq m n ≡ false → word n ts ≡ None
other-word m n ts e other = no-word n ts (apart m n (front ts) e other)

-- no more, where the word before each isn't there
pub none-behind : {A B : Type 0} (n : ℕ) (ts : List Token) (f : ℕ → Parse A) (g : A → Parse B) → sees n ts ≡ false → with_rest (with_rest (word n ts) f) g ≡ None
none-behind n ts f g e = ap (λ o. with_rest (with_rest o f) g) (no-word n ts e)

-- ---- rows

module _ {A B : Type 0} (step : A → Parse A) (close : A → Parse B) where
  -- there is no more: what closes it stands here
  pub closes : (m : ℕ) (a : A) (ts : List Token) (z : Option (A × List Token)) → step a ts ≡ None
      → row (λ b us. taking (step b us) us) m a ts ≡ z → with_rest z close ≡ close a ts
  closes m a ts z none so_far = ap (λ o. with_rest o close) (row-stops step m a ts z none so_far)

  -- what is there takes no token, and what closes it isn't here
  pub stalls : (m : ℕ) (a b : A) (ts us : List Token) (z : Option (A × List Token)) → step a ts ≡ Some (b, us) → length ts ≤ length us → close a ts ≡ None
      → row (λ c vs. taking (step c vs) vs) m a ts ≡ z → with_rest z close ≡ None
  stalls m a b ts us z read longer shut so_far = ap (λ o. with_rest o close) (row-stalls step m a b ts us z read longer so_far) ∙ shut

  -- all turns are done: what closes it stands here
  pub ends : (n k : ℕ) (a : A) (ts : List Token) (z : Option (A × List Token)) → n ≤ k
      → row (λ b us. taking (step b us) us) (n - k) a ts ≡ z → with_rest z close ≡ close a ts
  ends n k a ts z done so_far = ap (λ o. with_rest o close) (row-ends step n k a ts z done so_far)

  -- what is there can't be read, and what closes it isn't here
  pub breaks : {C : Type 0} (m : ℕ) (a : A) (ts : List Token) (z : Option (A × List Token)) (o : Option (C × List Token)) (f : C → Parse A)
      → step a ts ≡ with_rest o f → close a ts ≡ None → row (λ b us. taking (step b us) us) m a ts ≡ z
      → (e : Stop) → StopsAs o e → StopsAs (with_rest z close) e
  breaks m a ts z o f is shut so_far stop.Nothing none = closes m a ts z (is ∙ ap (λ r. with_rest r f) none) so_far ∙ shut
  breaks m a ts z o f is shut so_far stop.Memory none = tt
