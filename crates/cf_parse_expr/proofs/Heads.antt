-- Whether an operator comes next is whether one is found.
use Rattle.std.proofs.Common.{◌≡◌, ℕ, Bool, true, false, cond, List, [], ◌∷◌, Option, Some, nat_eq, is_some, refl}
use Rattle.cf_tokens.specs.declared.token.Token.{Token}
use Rattle.cf_syntax.specs.Operators.{operator_of, heads}
use Rattle.cf_syntax.specs.Words.{front}

by-row : {A : Type 0} (b : Bool) (x : A) (h : Bool) (o : Option A) → h ≡ is_some o → cond b true h ≡ is_some (cond b (Some x) o)
by-row true x h o e = refl
by-row false x h o e = e

pub heads_is : {A : Type 0} (rows : List (ℕ × A)) (ts : List Token) → heads rows ts ≡ is_some (operator_of rows (front ts))
heads_is [] ts = refl
heads_is (row ∷ rows) ts = by-row (nat_eq (front ts) row.0) row.1 (heads rows ts) (operator_of rows (front ts)) (heads_is rows ts)
