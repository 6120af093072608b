-- When functions pass the tests of `cf_lower_tested` in whatever programs: those that are in place by the names and types of their actions do, where these names stand for what
-- their types say.
use Rattle.std.specs.Prelude.{◌≡◌, Bool, true, ◌&&◌, List, [], ◌∷◌, Some}
use Rattle.std.specs.List.{list_all}
use Rattle.cf_core.specs.Types.{Name}
use Rattle.cf_core.specs.Core.{Function}
use Rattle.cf_core.specs.Calls.{is_library}
use Rattle.cf_plain.specs.Plain.{Action, text, function, call, PlainFunction, PlainFile}
use Rattle.cf_plain.specs.Named.{all_actions}
use Rattle.cf_plain.specs.Running.{plain_named}
use Rattle.cf_lower_kept.specs.Opened.{function_opens}
use Rattle.cf_lower_kept.specs.Ready.{function_ready}
use Rattle.cf_lower_place.specs.Named.{library_type, is_signature, function_in_place}
use Rattle.cf_lower_actions.specs.Leaf.{is_text}
use Rattle.cf_lower_steps.specs.Lowering.{is_function}
use Rattle.cf_lower_calls.specs.Returns.Called.{Programs}
use Rattle.cf_lower_program.specs.Lowerable.{Lowerable}

-- what registers hold and what is open at each statement is told, and the statements are in place by name
abbrev pub passes : PlainFunction → Bool
passes f = function_ready f && (function_opens f && function_in_place [] f)

-- all of these files are lowered
abbrev pub AllLowerable : List PlainFile → Type 0
AllLowerable [] = Unit {0}
AllLowerable (file ∷ files) = Lowerable file × AllLowerable files

module _ (B : Programs) where
  -- what an action in the function of this name names is there: a literal of its bytes, or a function
  abbrev pub ActionThere : Name → Action → Type 0
  ActionThere f (text j bytes) = is_text (B.texts f j) bytes ≡ true
  ActionThere f (function name t) = is_function B.program name ≡ true
  ActionThere f (call name t object is into) = is_function B.program name ≡ true
  ActionThere f a = Unit {0}

  abbrev pub ActionsThere : Name → List Action → Type 0
  ActionsThere f [] = Unit {0}
  ActionsThere f (a ∷ rest) = ActionThere f a × ActionsThere f rest

  -- the library's functions have their types, and those of the program have types without const
  pub record NamesTyped : Type 0 where
    pub library : (name : Name) → is_library name ≡ true → B.signature name ≡ library_type name
    pub functions : list_all (λ (g : Function). is_signature g.type) B.program.functions ≡ true

  -- a function that passes, and what its actions name is there
  pub record NamesThere (f : PlainFunction) : Type 0 where
    pub passed : passes f ≡ true
    pub there : ActionsThere f.name (all_actions f.body)

  abbrev pub AllNamesThere : Type 0
  AllNamesThere = (f : PlainFunction) → plain_named B.functions f.name ≡ Some f → NamesThere f
