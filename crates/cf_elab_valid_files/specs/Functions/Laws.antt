-- What elaboration makes of a function with a body, outside of functions (8.3).
use Rattle.std.specs.Prelude.{◌≡◌, ℕ, true, [], ◌++◌, Some, None, slice_get}
use Rattle.cf_unit.specs.declared.class.FunctionDef.{FunctionDef, fold-FunctionDef}
use Rattle.cf_core.specs.declared.unit.CoreFn.{CoreFn}
use Rattle.cf_core.specs.Valid.{is_complete}
use Rattle.cf_elab.specs.Built as built
use Rattle.cf_elab.specs.Built.{Place}
use Rattle.cf_elab.specs.Env.{Env}
use Rattle.cf_elab.specs.Trees.{definition}
use Rattle.cf_elab_valid.specs.Answers.{Fine}
use Rattle.cf_elab_valid.specs.Scene.{Scene, IsScene, tree, Within, Classless, Holds}
use Rattle.cf_elab_valid.specs.Statements.{is_outermost}
use Rattle.cf_elab_valid_objects.specs.Starts.{NoVoidElements}
use Rattle.cf_elab_valid_files.specs.Bodies.Laws.{ConstantsAreApart}
use Rattle.cf_elab_valid_files.specs.Bodies.Trees.{function_fits}

abbrev pub function_place : FunctionDef → Place
function_place = fold-FunctionDef Place Place Place Place Place Place built.member_step built.specifier_step built.statement_step built.class_step built.function_step built.declaration_step

-- the end of a file, as it is seen outside of functions; each frame of its functions has complete types
pub record IsFileEnd (s : Scene) : Type 0 where
  pub scene : IsScene s
  pub arrays : NoVoidElements s.tables
  pub outside : s.locals ≡ []
  pub frames : (n : ℕ) (f : CoreFn) → slice_get s.functions n ≡ Some f → (i t : ℕ) → slice_get (f.params ++ f.locals) i ≡ Some t → is_complete [] (tree s t) ≡ true

-- a function with its body, of forms that are built, where constants name no local
abbrev pub FunctionsAreValid : Type 0
FunctionsAreValid =
    ConstantsAreApart → (f : FunctionDef) → function_place f ≡ None → function_fits f ≡ true → (s : Scene) → IsFileEnd s
    → (e : Env) → is_outermost e.scopes.outer ≡ true → Classless e → (Within e s → Holds s e) → Fine s (λ u g. Unit {0}) e ((definition f).in_file e)
