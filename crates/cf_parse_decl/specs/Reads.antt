-- What a function gives that reads and changes what is known, beside a reading of the grammar.
use Rattle.std.specs.Prelude.{◌≡◌, List, Option, Some, Result, Ok, Err}
use Rattle.cf_tokens.specs.declared.token.Token.{Token}
use Rattle.cf_parse_expr.specs.Reads.{StopsAs}
use Rattle.cf_parse_expr.specs.declared.stop.Stop.{Stop}
use Rattle.cf_unit.specs.Known.{Known}

-- a value, with what is known and the tokens behind it; it stops with `Nothing` exactly where there is nothing to read
abbrev pub Gives : {A : Type 0} → Option ((A × Known) × List Token) → Result A Stop → Known → List Token → Type 0
Gives read (Ok a) known ts = read ≡ Some ((a, known), ts)
Gives read (Err e) known ts = StopsAs read e
