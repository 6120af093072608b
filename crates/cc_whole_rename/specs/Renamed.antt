-- How the names of a unit stand in the program, where parameters and locals hide some of them.
use Rattle.std.specs.Prelude.{ℕ, List}
use Rattle.cc_whole.specs.declared.statement.CBody.{CBody}
use Rattle.cc_whole.specs.declared.statement.CStatement.{CStatement, fold-CStatement}
use Rattle.cc_whole.specs.declared.statement.CSwitchItem.{CSwitchItem, fold-CSwitchItem}
use Rattle.cc_whole_link.specs.Placed.{static_renaming}
use Rattle.cc_whole_link.specs.Rename.{Renaming, Renames, hiding, statement_step, switch_step, body_step}

-- the static names of a unit of this number get longer, but for hidden names
abbrev pub renaming : ℕ → List (List ℕ) → List (List ℕ) → Renaming
renaming unit statics hidden = hiding hidden (static_renaming unit statics)

abbrev pub statement_renamed : CStatement → Renaming → CStatement
statement_renamed = fold-CStatement (Renames CStatement) (Renames CSwitchItem) (Renames CBody) statement_step switch_step body_step

-- what stands in the braces of a `switch`
abbrev pub part_renamed : CSwitchItem → Renaming → CSwitchItem
part_renamed = fold-CSwitchItem (Renames CStatement) (Renames CSwitchItem) (Renames CBody) statement_step switch_step body_step
