-- The statements whose soundness is told, and how they end.
use Rattle.std.specs.Prelude.{◌≡◌, Bool, true, false, ◌&&◌, ◌||◌, not, List, [], ◌∷◌}
use Rattle.cf_core.specs.Types.{SourceType}
use Rattle.cf_core.specs.Classes.{Class}
use Rattle.cf_core.specs.Core as core
use Rattle.cf_core.specs.Core.{Core, Cores, MaybeCore, local_temporary, absent, given}
use Rattle.cf_core.specs.Run.{State}
use Rattle.cf_core.specs.Calls.{Program, Flow, Falls, Breaks, Continues, Returns, Again, turn}
use Rattle.cf_core.specs.Joined.{is_nothing}
use Rattle.cf_core.specs.Typing.{Scope, is_function}
use Rattle.cf_core.specs.Valid.{Body, fits, is_label}
use Rattle.cf_core_sound.specs.Proper.{is_proper}
use Rattle.cf_core_sound.specs.Simple.{is_simple, is_whole}
use Rattle.cf_core_sound.specs.States.{Sound}
use Rattle.cf_core_sound.specs.Well.{Well}
use Rattle.cf_core_sound.specs.Calls.{IsGiven}

abbrev pub is_object : SourceType → Bool
is_object t = is_proper t && not (is_function t)

-- whether no class is there
abbrev pub has_none : List Class → Bool
has_none [] = true
has_none (c ∷ classes) = false

module _ (P : Program) (scope : Scope) where
  -- an expression statement: nothing, or a simple expression
  abbrev pub is_simple_start : Core → Bool
  is_simple_start e = is_nothing e || is_simple P scope e

  abbrev pub is_simple_maybe : MaybeCore → Bool
  is_simple_maybe absent = true
  is_simple_maybe (given e) = is_simple P scope e

  -- The initialiser of a local or an element: nothing, zeros, characters, a value, the temporary that a reference binds, one for each element, or a list. A
  -- list is an array's, since no class is there.
  abbrev mutual
    pub is_simple_initial : Core → Bool
    is_simple_initial core.zeros = true
    is_simple_initial core.blank = true
    is_simple_initial (core.string bytes) = true
    is_simple_initial (core.each e) = is_simple_initial e
    is_simple_initial (core.list es rest) = has_none scope.classes && (are_simple_initials es && is_simple_initial rest)
    is_simple_initial (core.bind (local_temporary i t) e) = is_whole t && (not (is_function t) && is_simple P scope e)
    is_simple_initial e = is_simple P scope e

    pub are_simple_initials : Cores → Bool
    are_simple_initials core.none = true
    are_simple_initials (core.more e es) = is_simple_initial e && are_simple_initials es

  abbrev mutual
    pub is_simple_statement : Core → Bool
    is_simple_statement (core.full e) = is_simple_start e
    is_simple_statement (core.block es) = are_simple_statements es
    is_simple_statement (core.sequence es) = are_simple_statements es
    is_simple_statement (core.declare i t e) = is_object t && is_simple_initial e
    is_simple_statement (core.branch c a b) = is_simple P scope c && (is_simple_statement a && is_simple_inner b)
    is_simple_statement (core.loop _ c e s) = is_simple_maybe c && (is_simple_maybe e && is_simple_statement s)
    is_simple_statement (core.switch e es) = is_simple P scope e && are_simple_cases es
    is_simple_statement core.leave = true
    is_simple_statement core.continue = true
    is_simple_statement (core.give absent) = true
    is_simple_statement (core.give (given e)) = is_simple P scope e
    is_simple_statement s = false

    pub is_simple_inner : MaybeCore → Bool
    is_simple_inner absent = true
    is_simple_inner (given s) = is_simple_statement s

    pub are_simple_statements : Cores → Bool
    are_simple_statements core.none = true
    are_simple_statements (core.more s rest) = is_simple_statement s && are_simple_statements rest

    -- the labels of a switch and its statements
    pub are_simple_cases : Cores → Bool
    are_simple_cases core.none = true
    are_simple_cases (core.more s rest) = (is_label s || is_simple_statement s) && are_simple_cases rest

-- how a statement ends: where `break` and `continue` may stand or not, and what is returned
abbrev pub EndsWell : Program → SourceType → Bool → Bool → Flow → State → Type 0
EndsWell P t breaks continues Falls s = Unit {0}
EndsWell P t breaks continues Breaks s = breaks ≡ true
EndsWell P t breaks continues Continues s = continues ≡ true
EndsWell P t breaks continues (Returns v) s = IsGiven P s t v

-- the next turn of each loop of a function ends as the loop does
pub record Turns (P : Program) (again : Again) (f : Body) : Type 0 where
  pub by : (e : Core) → is_simple_statement P f.scope e ≡ true → (breaks continues : Bool) → fits f breaks continues e ≡ true
      → (s : State) → Sound P f.scope.locals s → Well P f.scope.locals s (EndsWell P f.result breaks continues) (again (turn e))
