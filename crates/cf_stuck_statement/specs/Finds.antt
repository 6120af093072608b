-- What a finder answers.
use Rattle.std.specs.Prelude.{◌≡◌, List, Option, Some, None, Result, Ok, Err}
use Rattle.cf_tokens.specs.declared.token.Token.{Token}
use Rattle.cf_parse_expr.specs.Reads.{StopsAs}
use Rattle.cf_parse_expr.specs.declared.stop.Stop.{Stop}
use Rattle.cf_parse_expr.specs.declared.stop.Stop.TheVariants as stop
use Rattle.cf_unit.specs.Known.{Known}
use Rattle.cf_unit.specs.Stuck.{Spot}

-- it answers `Nothing` exactly where nothing is stuck, and want of memory anywhere
abbrev pub MissesAs : Option Spot → Stop → Type 0
MissesAs found stop.Nothing = found ≡ None
MissesAs found stop.Memory = Unit {0}

abbrev pub Finds : Option Spot → Result Spot Stop → Type 0
Finds found (Ok p) = found ≡ Some p
Finds found (Err e) = MissesAs found e

-- a function that reads past a phrase: what is known behind it, with the tokens there
abbrev pub Passes : Option (Known × List Token) → Result (Unit {0}) Stop → Known → List Token → Type 0
Passes read (Ok x) known ts = read ≡ Some (known, ts)
Passes read (Err e) known ts = StopsAs read e
