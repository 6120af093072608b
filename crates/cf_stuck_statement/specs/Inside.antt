-- Where what stands inside a phrase is stuck, to a depth.
use Rattle.std.specs.Prelude.{ℕ, List, Option}
use Rattle.cf_tokens.specs.declared.token.Token.{Token}
use Rattle.cf_unit.specs.Declarations.{specified}
use Rattle.cf_unit.specs.Files.{inner, by_tree}
use Rattle.cf_unit.specs.Known.{Known}
use Rattle.cf_unit.specs.Read.{stuck_at}
use Rattle.cf_unit.specs.Stuck.{Spot}
use Rattle.cf_parse_decl.specs.declared.grammar.Wanted.{Wanted}
use Rattle.cf_parse_decl.specs.declared.grammar.Wanted.TheVariants as wanted

pub record Places : Type 0 where
  pub statement : Known → List Token → Option Spot
  pub class : Known → List Token → Option Spot
  pub declaration : Known → List Token → Option Spot

abbrev pub places : ℕ → Places
places n = record {
  statement = λ k ts. stuck_at ((inner by_tree n).statement k) ts;
  class = λ k ts. stuck_at ((inner by_tree n).class k) ts;
  declaration = λ k ts. stuck_at (specified (inner by_tree n) k) ts;
}

-- by what is wanted there
abbrev pub stuck_inside : Places → Wanted → Known → List Token → Option Spot
stuck_inside p wanted.Statement = p.statement
stuck_inside p wanted.Class = p.class
stuck_inside p wanted.Declaration = p.declaration
