-- A line and a column of a file.
use Rattle.std.specs.Prelude.{ℕ, List}
use Rattle.cf_base.specs.Place.{line, column}
use Rattle.cfront.specs.declared.position.Position.{Position}

-- where a byte place is for one who reads the text
abbrev pub position_of : List ℕ → ℕ → Position
position_of text at = record { line = line text at; column = column text at }
