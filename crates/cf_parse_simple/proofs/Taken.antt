-- What is taken, where what was read has a token at least.
use Rattle.std.proofs.Common.{◌≡◌, ◌<◌, ◌≤◌, List, length, Option, Some, None, ◌∙◌, ap}
use Rattle.cf_tokens.specs.declared.token.Token.{Token}
use Rattle.cf_parse_decl.proofs.Elements.{is-less, not-less}
use Rattle.cf_unit.specs.Read.{kept, taking}

pub took : {A : Type 0} (o : Option (A × List Token)) (a : A) (us ts : List Token) → o ≡ Some (a, us) → length us < length ts → taking o ts ≡ Some (a, us)
took o a us ts e less = ap (λ r. taking r ts) e ∙ ap (λ b. kept b (a, us)) (is-less (length us) (length ts) less)

pub took_none : {A : Type 0} (o : Option (A × List Token)) (ts : List Token) → o ≡ None → taking o ts ≡ None
took_none o ts e = ap (λ r. taking r ts) e

pub took_nothing : {A : Type 0} (o : Option (A × List Token)) (a : A) (us ts : List Token) → o ≡ Some (a, us) → length ts ≤ length us → taking o ts ≡ None
took_nothing o a us ts e more = ap (λ r. taking r ts) e ∙ ap (λ b. kept b (a, us)) (not-less (length us) (length ts) more)
