-- A function value that reads what stands inside a production, to a depth.
use Rattle.std.specs.Prelude.{ℕ, List, Result}
use Rattle.std.specs.declared.alloc.Global.{Global}
use denote.Ref.{MutBor, Bor}
use Rattle.cf_tokens.specs.declared.token.Token.{Token}
use Rattle.cf_syntax.specs.NamesData.{Names}
use Rattle.cf_syntax.specs.Reading.{readers}
use Rattle.cf_parse_expr.specs.declared.grammar.Node.{Node}
use Rattle.cf_parse_expr.specs.declared.grammar.Wanted.{Wanted}
use Rattle.cf_parse_expr.specs.declared.stop.Stop.{Stop}
use Rattle.cf_parse_expr.specs.Reads.{Reads}
use Rattle.cf_parse_expr.specs.Inner.{inner}

pub record Nests (depth : ℕ) (pre : Global → ℕ → Wanted → Bor Names → MutBor (List Token) → Type 0)
    (post : Global → ℕ → Wanted → Bor Names → MutBor (List Token) → Result Node Stop → MutBor (List Token) → Type 0) : Type 0 where
  pub callable : (alloc : Global) (wanted : Wanted) (names : Bor Names) (old : MutBor (List Token)) → pre alloc depth wanted names old
  pub reads : (alloc : Global) (wanted : Wanted) (names : Bor Names) (old new : MutBor (List Token)) (r : Result Node Stop)
      → post alloc depth wanted names old r new → Reads (inner (readers depth) wanted names.now old.now) r new.now
