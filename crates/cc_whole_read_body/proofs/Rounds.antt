-- One step of the recursion of reading statements.
use Rattle.std.proofs.Common.{◌≡◌, ℕ, zero, suc, List, length, Err, refl, ap}
use Rattle.cc_whole_tokens.specs.declared.token.Token.{Token}
use Rattle.cc_whole_reading.specs.declared.stop.Stop.TheVariants as stop
use Rattle.cc_whole_reading.specs.Constants.{Keep}
use Rattle.cc_whole_read_expr.specs.ReadExpr.{expression}
use Rattle.cc_whole_read_body.specs.ReadBody.{statement_by, one_statement, body}

pub statement_zero : (keep : Keep) (n : ℕ) (ts : List Token) → n ≡ zero → one_statement keep n ts ≡ Err (stop.NotC (length ts))
unfolding one_statement
statement_zero keep zero ts e = refl
statement_zero keep (suc n) ts e = absurd (cc)

pub statement_step : (keep : Keep) (n k : ℕ) (ts : List Token) → n ≡ suc k → one_statement keep n ts ≡ statement_by keep (expression keep k) (body keep k) (one_statement keep k) ts
unfolding one_statement
statement_step keep zero k ts e = absurd (cc)
statement_step keep (suc n) k ts e =
    let same : n ≡ k = cc in
    ap (λ m. statement_by keep (expression keep m) (body keep m) (one_statement keep m) ts) same
