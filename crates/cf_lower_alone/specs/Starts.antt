-- What stands in both programs as they start, before constant initialisers take effect.
use Rattle.std.specs.Prelude.{◌≡◌, ℕ, Some}
use Rattle.cf_core.specs.Types.{Name}
use Rattle.cf_core.specs.Objects.{static_number}
use Rattle.cf_core.specs.Program.{first_state}
use Rattle.cc_whole_memory.specs.Blocks.{Memory}
use Rattle.cf_lower_relate.specs.Relation.{Rel}
use Rattle.cf_lower_turns.specs.Texts.{Text, NewText, TextsLaid}
use Rattle.cf_lower_calls.specs.Returns.Called.{Programs, fixed, StaticThere}
use Rattle.cf_lower_begun.specs.Begun.{static_map}

-- Static objects stand in the variables of their names, zeroed, and each literal's variable has its bytes, where no object stands yet.
pub record Starts (B : Programs) (depth : ℕ) (m : Memory) : Type 0 where
  pub rel : Rel (fixed B) (static_map B.program) (first_state B.program depth) m
  pub statics : (name : Name) (o : ℕ) → static_number B.program name ≡ Some o → StaticThere B (static_map B.program) name o
  pub texts_laid : TextsLaid (fixed B) B.texts m.next
  pub texts : (f : Name) (j : ℕ) (x : Text) → B.texts f j ≡ Some x → NewText (fixed B) (static_map B.program) m x
