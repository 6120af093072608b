-- Readings whose parts are the same are the same.
use Rattle.std.proofs.Common.{◌≡◌, ℕ, zero, suc, List, Option, Some, None, refl, ◌∙◌, ap}
use Rattle.cf_tokens.specs.declared.token.Token.{Token}
use Rattle.cf_syntax.specs.Parse.{Parse, with_rest, turn, loop}

pub with-rest-same : {A B : Type 0} (o p : Option (A × List Token)) (f g : A → Parse B) → o ≡ p → ((a : A) (us : List Token) → f a us ≡ g a us) → with_rest o f ≡ with_rest p g
with-rest-same {A = A} {B = B} o p f g e h = ap (λ r. with_rest r f) e ∙ by-rest p
  where
    by-rest : (r : Option (A × List Token)) → with_rest r f ≡ with_rest r g
    by-rest None = refl
    by-rest (Some q) = h q.0 q.1

pub loop-same : {A : Type 0} (f g : A → Parse A) → ((a : A) (ts : List Token) → f a ts ≡ g a ts) → (n : ℕ) (a : A) (ts : List Token) → loop f n a ts ≡ loop g n a ts
loop-same f g h zero a ts = refl
loop-same {A = A} f g h (suc n) a ts = ap (λ r. turn r a ts (loop f n)) (h a ts) ∙ by-turn (g a ts) (loop-same f g h n)
  where
    by-turn : (r : Option (A × List Token)) → ((b : A) (us : List Token) → loop f n b us ≡ loop g n b us) → turn r a ts (loop f n) ≡ turn r a ts (loop g n)
    by-turn None ih = refl
    by-turn (Some q) ih = ih q.0 q.1
