-- What elaboration makes of an enumeration: its type, which is there, with names for its values (7.2).
use Rattle.std.specs.Prelude.{ℕ, List, Option}
use Rattle.cf_elab.specs.Enumeration.{Item, enumeration_row}
use Rattle.cf_elab.specs.Env.{Env, Name}
use Rattle.cf_elab_valid.specs.Answers.{Fine}
use Rattle.cf_elab_valid.specs.Scene.{Scene, IsScene, Within, Inside, Classless, Holds}
use Rattle.cf_elab_valid_files.specs.Declarations.Items.{AreItems}

abbrev pub EnumerationsAreValid : Type 0
EnumerationsAreValid =
    (s : Scene) → IsScene s → (alias : Option Name) (at : ℕ) (name : Option (ℕ × Name)) (list : List Item) → AreItems s list
    → (e : Env) → Classless e → (Within e s → Holds s e) → Fine s (λ t f. Inside f t) e (enumeration_row alias at name list e)
