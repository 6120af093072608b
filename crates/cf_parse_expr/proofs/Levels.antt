-- Binary expressions of one more level.
use Rattle.std.proofs.Common.{◌≡◌, ℕ, suc, ◌-◌, ◌<◌, List, ap, arith}
use Rattle.cf_tokens.specs.declared.token.Token.{Token}
use Rattle.cf_syntax.specs.declared.expression.Expr.{Expr}
use Rattle.cf_syntax.specs.NamesData.{Names}
use Rattle.cf_syntax.specs.Reading.{Readers}
use Rattle.cf_parse_expr.specs.Binaries.{joined_from, joined_next}

pub next-is : (r : Readers) (names : Names) (n : ℕ) (a : Expr) (ts : List Token) → 0 < n → joined_next r names (n - 1) a ts ≡ joined_from r names n a ts
unfolding joined_next joined_from
next-is r names n a ts some = let one : suc (n - 1) ≡ n = omega arith in ap (λ m. joined_from r names m a ts) one
