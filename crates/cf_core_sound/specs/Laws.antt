-- What is proved of expressions, of statements and of programs.
use Rattle.std.specs.Prelude.{◌≡◌, ℕ, Bool, true, List, [], Option, None}
use Rattle.cf_core.specs.Core.{Core, Function, Static}
use Rattle.cf_core.specs.Places.{Place}
use Rattle.cf_core.specs.Run.{State}
use Rattle.cf_core.specs.Calls.{Setting, Program, Again}
use Rattle.cf_core.specs.Typing.{Scope}
use Rattle.cf_core.specs.Typed.{typing}
use Rattle.cf_core.specs.Valid.{Body, fits}
use Rattle.cf_core.specs.Expressions.{value}
use Rattle.cf_core.specs.Statements.{does}
use Rattle.cf_core.specs.Program.{Mean}
use Rattle.cf_core_sound.specs.Values.{Fit, Told}
use Rattle.cf_core_sound.specs.States.{Sound}
use Rattle.cf_core_sound.specs.Well.{OfBytes, Well}
use Rattle.cf_core_sound.specs.Simple.{is_simple}
use Rattle.cf_core_sound.specs.Statements.{is_simple_statement, EndsWell, Turns}
use Rattle.cf_core_sound.specs.Programs.{is_sound_program}
use Rattle.cf_core_sound.specs.Calls.{Bodies, Around, classless}

-- In a program without classes whose bodies give back what their functions' types say: an expression that is something, from a sound moment and with
-- an input of bytes, is never malformed, gives what its typing says, and leaves a sound moment.
abbrev pub ValuesAreSound : Type 0
ValuesAreSound =
    (again : Again) (functions : List Function) (statics : List Static) (settings : List Setting) (initialisers : List Function) (scope : Scope)
    → Around (classless functions statics settings initialisers) scope.locals
    → Bodies (classless functions statics settings initialisers) again
    → (e : Core) → is_simple (classless functions statics settings initialisers) scope e ≡ true → Told (typing scope e)
    → (into : Option Place) (s : State) → Sound (classless functions statics settings initialisers) scope.locals s
    → Well (classless functions statics settings initialisers) scope.locals s
    (λ v t. Fit (classless functions statics settings initialisers) t (typing scope e) v)
    (value again (classless functions statics settings initialisers) e into)

-- And a statement that fits its function's body, where the turns of loops end as their loops do: it is never malformed, and ends as it may.
abbrev pub StatementsAreSound : Type 0
StatementsAreSound =
    (again : Again) (functions : List Function) (statics : List Static) (settings : List Setting) (initialisers : List Function) (f : Body)
    → Around (classless functions statics settings initialisers) f.scope.locals
    → Bodies (classless functions statics settings initialisers) again
    → Turns (classless functions statics settings initialisers) again f
    → (breaks continues : Bool) (e : Core) (s : State)
    → is_simple_statement (classless functions statics settings initialisers) f.scope e ≡ true → fits f breaks continues e ≡ true
    → Sound (classless functions statics settings initialisers) f.scope.locals s
    → Well (classless functions statics settings initialisers) f.scope.locals s
    (EndsWell (classless functions statics settings initialisers) f.result breaks continues)
    (does again (classless functions statics settings initialisers) e)

-- And whole programs: each run on bytes has a trace and an end.
abbrev pub ProgramsAreSound : Type 0
ProgramsAreSound =
    (P : Program) → P.classes ≡ [] → P.initialisers ≡ [] → is_sound_program P ≡ true
    → (input : List ℕ) → OfBytes input → (heap depth n : ℕ) → Mean P input heap depth n ≡ None → ⊥
