-- A function value that reads what stands inside a phrase, to a depth.
use Rattle.std.specs.Prelude.{ℕ, List, Result}
use Rattle.std.specs.declared.alloc.Global.{Global}
use denote.Ref.{MutBor}
use Rattle.cf_tokens.specs.declared.token.Token.{Token}
use Rattle.cf_syntax.specs.Parse.{Parse, then, pure}
use Rattle.cf_parse_expr.specs.declared.stop.Stop.{Stop}
use Rattle.cf_unit.specs.Known.{Known}
use Rattle.cf_parse_decl.specs.declared.grammar.Node.{Node}
use Rattle.cf_parse_decl.specs.declared.grammar.Node.TheVariants as node
use Rattle.cf_parse_decl.specs.declared.grammar.Wanted.{Wanted}
use Rattle.cf_parse_decl.specs.declared.grammar.Wanted.TheVariants as wanted
use Rattle.cf_parse_decl.specs.Insides.{Insides, insides}
use Rattle.cf_parse_decl.specs.Reads.{Gives}

-- what stands inside, by what is wanted there
abbrev pub within : Insides → Wanted → Known → Parse (Node × Known)
within r wanted.Statement known = then (r.statement known) (λ s. pure (node.Statement s.0, s.1))
within r wanted.Class known = then (r.class known) (λ s. pure (node.Class s.0.0 s.0.1, s.1))
within r wanted.Declaration known = then (r.declaration known) (λ s. pure (node.Declaration s.0, s.1))

pub record Nests (depth : ℕ) (pre : Global → ℕ → Wanted → MutBor Known → MutBor (List Token) → Type 0)
    (post : Global → ℕ → Wanted → MutBor Known → MutBor (List Token) → Result Node Stop → MutBor Known → MutBor (List Token) → Type 0) : Type 0 where
  pub callable : (alloc : Global) (wanted : Wanted) (known : MutBor Known) (c : MutBor (List Token)) → pre alloc depth wanted known c
  pub reads : (alloc : Global) (wanted : Wanted) (known after : MutBor Known) (old new : MutBor (List Token)) (r : Result Node Stop)
      → post alloc depth wanted known old r after new → Gives (within (insides depth) wanted known.now old.now) r after.now new.now
