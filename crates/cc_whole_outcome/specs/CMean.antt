-- The outcome of texts of the small C: each is read, the units are linked, and the program runs.
use Rattle.std.specs.Prelude.{◌≡◌, ℕ, List, [], ◌∷◌, IsTrue, Ok}
use Rattle.cf_base.specs.World.{Outcome}
use Rattle.cc_whole.specs.declared.unit.CUnit.{CUnit}
use Rattle.cc_whole.specs.declared.unit.CProgram.{CProgram}
use Rattle.cc_whole.specs.Text.{Text}
use Rattle.cc_whole.specs.ValidUnit.{valid_unit}
use Rattle.cc_whole_link.specs.Link.{Links}
use Rattle.cc_whole_mean.specs.Start.{c_mean}

-- these are texts of these valid units
pub data AreTexts : List (List ℕ) → List CUnit → Type 0 where
  none : AreTexts [] []
  more : (text : List ℕ) (unit : CUnit) (texts : List (List ℕ)) (units : List CUnit) → Text text unit → IsTrue (valid_unit unit)
      → AreTexts texts units → AreTexts (text ∷ texts) (unit ∷ units)

-- the units of these texts make a program, and this is its outcome from an input, within a heap, a depth and a bound of ticks
pub record CMean (texts : List (List ℕ)) (input : List ℕ) (heap depth n : ℕ) (end : Outcome) : Type 0 where
  pub units : List CUnit
  pub program : CProgram
  pub read : AreTexts texts units
  pub linked : Links units (Ok program)
  pub runs : end ≡ c_mean program input heap depth n
