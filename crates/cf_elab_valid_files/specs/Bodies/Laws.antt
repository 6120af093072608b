-- What elaboration makes of statements and declarations by their trees.
use Rattle.std.specs.Prelude.{◌≡◌, ℕ, Bool, true, false, List, [], Option, None}
use Rattle.std.specs.Option.{option_map}
use Rattle.cf_unit.specs.declared.declaration.Declaration.{Declaration, fold-Declaration}
use Rattle.cf_unit.specs.declared.initialiser.Initialiser.{Initialiser}
use Rattle.cf_unit.specs.declared.statement.Stmt.{Stmt, fold-Stmt}
use Rattle.cf_elab.specs.Built as built
use Rattle.cf_elab.specs.Built.{Place}
use Rattle.cf_elab.specs.Declaration.{initial_of, parts_of}
use Rattle.cf_elab.specs.Env.{Env}
use Rattle.cf_elab.specs.Trees.{statement, declaration}
use Rattle.cf_elab_valid.specs.Answers.{Fine}
use Rattle.cf_elab_valid.specs.Scene.{Scene, IsScene, Within, Classless, Holds}
use Rattle.cf_elab_valid.specs.Statements.{is_outermost, Inner, IsStatement}
use Rattle.cf_elab_valid_files.specs.Switches.Entries.{IsEntry}
use Rattle.cf_elab_valid_objects.specs.Declared.{AllReached, AreComplete}
use Rattle.cf_elab_valid_objects.specs.Starts.{NoVoidElements}
use Rattle.cf_elab_valid_files.specs.Statics.Fixed.{FixedIn}
use Rattle.cf_elab_valid_files.specs.Bodies.Trees.{statement_told, declaration_fits, initialiser_fits}

-- the place of the first form that is not built
abbrev pub statement_place : Stmt → Place
statement_place = fold-Stmt Place Place Place Place Place Place built.member_step built.specifier_step built.statement_step built.class_step built.function_step built.declaration_step

abbrev pub declaration_place : Declaration → Place
declaration_place = fold-Declaration Place Place Place Place Place Place built.member_step built.specifier_step built.statement_step built.class_step built.function_step built.declaration_step

-- an end, with what is asked of its tables and of the frame of the function at hand
pub record IsEnd (s : Scene) : Type 0 where
  pub scene : IsScene s
  pub arrays : NoVoidElements s.tables
  pub frame : AreComplete s

-- a constant initialiser names no local, wherever it is elaborated and what can be named fits
abbrev pub ConstantsAreApart : Type 0
ConstantsAreApart =
    (s : Scene) → IsScene s → NoVoidElements s.tables → (w : Option Initialiser) → built.of_initialiser w ≡ None → initialiser_fits w ≡ true → (e : Env) → Classless e → (Within e s → Holds s e)
    → FixedIn s (parts_of (option_map initial_of w) e)

-- a statement of forms that are built: what stands in the braces of a `switch` and, unless it is a label, a statement
pub record StatementLaw (x : Stmt) : Type 0 where
  pub entry : (s : Scene) → IsEnd s → (parameters : ℕ) (is_main : Bool) → IsEntry s parameters is_main (statement x)
  pub whole : (statement_told x).is_label ≡ false → (s : Scene) → IsEnd s → (parameters : ℕ) (is_main : Bool) → IsStatement s parameters is_main (statement x)

-- a declaration of forms that are built, in a function and outside of functions
pub record DeclarationLaw (d : Declaration) : Type 0 where
  pub inside : (s : Scene) → IsEnd s → (parameters : ℕ) (is_main : Bool) (e : Env) → Inner s parameters is_main e → Classless e → (Within e s → Holds s e)
      → Fine s (λ rs f. AllReached s parameters is_main rs) e ((declaration d).run e)
  pub outside : (s : Scene) → IsEnd s → s.locals ≡ [] → (e : Env) → is_outermost e.scopes.outer ≡ true → Classless e → (Within e s → Holds s e) → Fine s (λ rs f. Unit {0}) e ((declaration d).run e)

-- where constants name no local
pub record BodiesFit : Type 0 where
  pub statements : (x : Stmt) → statement_place x ≡ None → (statement_told x).well ≡ true → StatementLaw x
  pub declarations : (d : Declaration) → declaration_place d ≡ None → declaration_fits d ≡ true → DeclarationLaw d

abbrev pub BodiesAreValid : Type 0
BodiesAreValid = ConstantsAreApart → BodiesFit
