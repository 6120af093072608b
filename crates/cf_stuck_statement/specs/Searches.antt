-- A function value that finds where what stands inside a phrase is stuck, to a depth.
use Rattle.std.specs.Prelude.{ℕ, List, Result}
use Rattle.std.specs.declared.alloc.Global.{Global}
use denote.Ref.{Bor}
use Rattle.cf_tokens.specs.declared.token.Token.{Token}
use Rattle.cf_parse_expr.specs.declared.stop.Stop.{Stop}
use Rattle.cf_unit.specs.Known.{Known}
use Rattle.cf_unit.specs.Stuck.{Spot}
use Rattle.cf_parse_decl.specs.declared.grammar.Wanted.{Wanted}
use Rattle.cf_stuck_statement.specs.Finds.{Finds}
use Rattle.cf_stuck_statement.specs.Inside.{places, stuck_inside}

pub record Searches (depth : ℕ) (pre : Global → ℕ → Wanted → Bor Known → Bor (List Token) → Type 0)
    (post : Global → ℕ → Wanted → Bor Known → Bor (List Token) → Result Spot Stop → Type 0) : Type 0 where
  pub callable : (alloc : Global) (wanted : Wanted) (known : Bor Known) (c : Bor (List Token)) → pre alloc depth wanted known c
  pub finds : (alloc : Global) (wanted : Wanted) (known : Bor Known) (c : Bor (List Token)) (r : Result Spot Stop)
      → post alloc depth wanted known c r → Finds (stuck_inside (places depth) wanted known.now c.now) r
