-- What a whole file is read as.
use Rattle.std.specs.Prelude.{◌≡◌, List, length, Option, Some, Result, Ok, Err}
use Rattle.cf_tokens.specs.declared.token.Token.{Token}
use Rattle.cf_parse_expr.specs.Reads.{StopsAs}
use Rattle.cf_parse_expr.specs.declared.stop.Stop.{Stop}
use Rattle.cf_unit.specs.declared.file.Item.{Item}
use Rattle.cf_unit.specs.declared.file.Unit.{Unit as File}
use Rattle.cf_unit.specs.Read.{reading}
use Rattle.cf_unit.specs.Known.{Known}
use Rattle.cf_unit.specs.Files.{file}

-- these items, whatever is known behind them
pub record Finds (read : Option ((List Item × Known) × List Token)) (items : List Item) : Type 0 where
  pub known : Known
  pub rest : List Token
  pub found : read ≡ Some ((items, known), rest)

abbrev pub GivesItems : Option ((List Item × Known) × List Token) → Result (List Item) Stop → Type 0
GivesItems read (Ok items) = Finds read items
GivesItems read (Err e) = StopsAs read e

-- the tree of a file, by the rule for so many tokens
abbrev pub ReadsFile : List Token → Result File Stop → Type 0
ReadsFile ts (Ok f) = Finds (reading (file (length ts)) ts) f.items
ReadsFile ts (Err e) = StopsAs (reading (file (length ts)) ts) e
