-- What elaboration makes of a `switch`: a statement that fits the function at hand, with its labels (6.4.2).
use Rattle.cf_elab.specs.Statement as row
use Rattle.std.specs.Prelude.{ℕ, Bool, List}
use Rattle.cf_elab.specs.Answer.{Elab}
use Rattle.cf_elab.specs.Operand.{Part}
use Rattle.cf_elab.specs.Statement.{Made}
use Rattle.cf_elab_valid.specs.Answers.{IsPart}
use Rattle.cf_elab_valid.specs.Scene.{Scene, IsScene}
use Rattle.cf_elab_valid.specs.Statements.{IsStatement}
use Rattle.cf_elab_valid_files.specs.Switches.Entries.{IsEntry, AreEntries}

-- in the braces stand statements and labels; the whole is a statement
pub record SwitchesFit (s : Scene) (parameters : ℕ) (is_main : Bool) : Type 0 where
  pub statement : (run : Elab Made) → IsStatement s parameters is_main run → IsEntry s parameters is_main run
  pub case_label : (at : ℕ) (x : Part) → IsPart s x → IsEntry s parameters is_main (row.case_row at x)
  pub default_label : (at : ℕ) → IsEntry s parameters is_main (row.default_row at)
  pub whole : (at : ℕ) (x : Part) (runs : List (Elab Made)) → IsPart s x → AreEntries s parameters is_main runs → IsStatement s parameters is_main (row.switch_row at x runs)

abbrev pub SwitchesAreValid : Type 0
SwitchesAreValid = (s : Scene) (parameters : ℕ) (is_main : Bool) → IsScene s → SwitchesFit s parameters is_main
