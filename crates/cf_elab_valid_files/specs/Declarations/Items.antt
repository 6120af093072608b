-- Enumerators as they are written, with expressions that are fine wherever they are elaborated (7.2).
use Rattle.std.specs.Prelude.{◌≡◌, List, [], ◌∷◌, Some}
use Rattle.cf_elab.specs.Enumeration.{Item}
use Rattle.cf_elab.specs.Operand.{Part}
use Rattle.cf_elab_valid.specs.Answers.{IsPart}
use Rattle.cf_elab_valid.specs.Scene.{Scene}

abbrev pub AreItems : Scene → List Item → Type 0
AreItems s [] = Unit {0}
AreItems s (x ∷ xs) = ((p : Part) → x.value ≡ Some p → IsPart s p) × AreItems s xs
