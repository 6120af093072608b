-- What holds of what stands in the braces of a `switch`: a statement that fits the function at hand, or a label (6.4.2).
use Rattle.std.specs.Prelude.{◌≡◌, ℕ, Bool, List, [], ◌∷◌}
use Rattle.cf_elab.specs.Answer.{Elab}
use Rattle.cf_elab.specs.Env.{Env}
use Rattle.cf_elab.specs.Statement.{Made, no_label}
use Rattle.cf_elab_valid.specs.Answers.{Fine}
use Rattle.cf_elab_valid.specs.Scene.{Scene, Within, Classless, Holds}
use Rattle.cf_elab_valid.specs.Statements.{StatementFits, Inner}

-- nothing is asked of a label: it is looked at where the braces end
pub record EntryFits (s : Scene) (parameters : ℕ) (is_main breaks continues : Bool) (m : Made) (e : Env) : Type 0 where
  pub statement : m.label ≡ no_label → StatementFits s parameters is_main breaks continues m e

-- a statement or a label that is fine wherever it is elaborated
pub record IsEntry (s : Scene) (parameters : ℕ) (is_main : Bool) (run : Elab Made) : Type 0 where
  pub fine : (e : Env) → Inner s parameters is_main e → Classless e → (Within e s → Holds s e) → Fine s (EntryFits s parameters is_main e.hand.breaks e.hand.continues) e (run e)

abbrev pub AreEntries : Scene → ℕ → Bool → List (Elab Made) → Type 0
AreEntries s parameters is_main [] = Unit {0}
AreEntries s parameters is_main (run ∷ runs) = IsEntry s parameters is_main run × AreEntries s parameters is_main runs
