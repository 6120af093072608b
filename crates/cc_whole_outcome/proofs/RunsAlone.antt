-- A text of a valid program has the program's outcome.
use Rattle.std.proofs.Common.{◌≡◌, ℕ, Bool, true, false, ◌&&◌, List, [], ◌∷◌, refl}
use Rattle.cc_whole.specs.declared.unit.CProgram.{CProgram}
use Rattle.cc_whole.specs.Plain.{items_of}
use Rattle.cc_whole.specs.Text.{Text}
use Rattle.cc_whole.specs.ValidUnit.{valid_items, valid_unit, valid_program}
use Rattle.cc_whole_linked.specs.Alone.{alone}
use Rattle.cc_whole_linked.proofs.Alone.{links-alone}
use Rattle.cc_whole_mean.specs.Start.{c_mean}
use Rattle.cc_whole_outcome.specs.CMean as outcome
use Rattle.cc_whole_outcome.specs.CMean.{CMean}

both-left : (a b : Bool) → (a && b) ≡ true → a ≡ true
both-left true b e = refl
both-left false b e = absurd (cc)

valid-alone : (p : CProgram) → valid_program p ≡ true → valid_unit (alone p) ≡ true
valid-alone p e = both-left (valid_items (items_of p.items)) _ e

pub runs-alone : (p : CProgram) (text input : List ℕ) (heap depth n : ℕ) → valid_program p ≡ true → Text text (alone p)
    → CMean (text ∷ []) input heap depth n (c_mean p input heap depth n)
runs-alone p text input heap depth n e t = record {
  units = alone p ∷ [];
  program = p;
  read = outcome.AreTexts.more text (alone p) [] [] t (valid-alone p e) outcome.AreTexts.none;
  linked = links-alone p e;
  runs = refl;
}
