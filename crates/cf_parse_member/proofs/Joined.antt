-- Readings behind one another.
use Rattle.std.proofs.Common.{◌≡◌, Bool, true, false, List, Option, Some, None, refl}
use Rattle.cf_tokens.specs.declared.token.Token.{Token}
use Rattle.cf_syntax.specs.Parse.{Parse, with_rest}
use Rattle.cf_unit.specs.Read.{chosen}

pub joined : {A B C : Type 0} (o : Option (A × List Token)) (f : A → Parse B) (g : B → Parse C) → with_rest (with_rest o f) g ≡ with_rest o (λ x us. with_rest (f x us) g)
joined None f g = refl
joined (Some q) f g = refl

pub rest-same : {A B : Type 0} (o : Option (A × List Token)) (f g : A → Parse B) → ((a : A) (us : List Token) → f a us ≡ g a us) → with_rest o f ≡ with_rest o g
rest-same None f g h = refl
rest-same (Some q) f g h = h q.0 q.1

pub chosen-same : {A : Type 0} (b : Bool) (p q p' q' : Parse A) (ts : List Token) → p ts ≡ p' ts → q ts ≡ q' ts → chosen b p q ts ≡ chosen b p' q' ts
chosen-same true p q p' q' ts e f = e
chosen-same false p q p' q' ts e f = f
