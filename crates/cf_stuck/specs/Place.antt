-- The place where a file is refused.
use Rattle.std.specs.Prelude.{ℕ, List, length, Option, Some, None}
use Rattle.cf_tokens.specs.declared.token.Token.{Token}
use Rattle.cf_unit.specs.Files.{file}
use Rattle.cf_unit.specs.Read.{stuck_at}
use Rattle.cf_unit.specs.Stuck.{Spot}

abbrev pub place_of : Option Spot → Option ℕ
place_of None = None
place_of (Some p) = Some p.at

-- the place of the first element of a file that has no spelling
abbrev pub refused_at : List Token → Option ℕ
refused_at ts = place_of (stuck_at (file (length ts)) ts)
