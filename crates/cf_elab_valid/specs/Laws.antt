-- What elaboration makes of expressions and statements: in each end that the way leads to, nodes of their types, with their numbers there.
use Rattle.std.specs.Prelude.{◌≡◌, ℕ, Bool, true, List, Option, None, Some}
use Rattle.cf_syntax.specs.declared.declarator.TypeId.{TypeId, fold-TypeId}
use Rattle.cf_syntax.specs.declared.expression.Expr.{Expr}
use Rattle.cf_elab.specs.Answer.{Elab}
use Rattle.cf_elab.specs.Built as built
use Rattle.cf_elab.specs.Built.{Place}
use Rattle.cf_elab.specs.Declarator.{Declared, declared_step, parameter_step, type_id_step}
use Rattle.cf_elab.specs.Env.{Env}
use Rattle.cf_elab.specs.Expression.{elaborated, expression_step}
use Rattle.cf_elab.specs.Operand.{Part}
use Rattle.cf_elab.specs.Shape.{Parameter}
use Rattle.cf_elab.specs.Statement as row
use Rattle.cf_elab.specs.Statement.{Made}
use Rattle.cf_elab_valid.specs.Answers.{Fine, FineOperand, IsPart}
use Rattle.cf_elab_valid.specs.Constants.{constants_fit, type_id_fits}
use Rattle.cf_elab_valid.specs.Scene.{Scene, IsScene, Within, Inside, Classless, Holds}
use Rattle.cf_elab_valid.specs.Statements.{IsStatement, AreStatements}

-- an expression of forms that are built, wherever it is elaborated
abbrev pub ExpressionsAreValid : Type 0
ExpressionsAreValid =
    (s : Scene) → IsScene s → (x : Expr) → built.expression x ≡ None → constants_fit x ≡ true → (e : Env) → Classless e → (Within e s → Holds s e) → FineOperand s e ((elaborated x).run e)

abbrev type_place : TypeId → Place
type_place = fold-TypeId Place Place Place Place built.tree_step built.expression_step built.param_step built.type_step

abbrev type_of : TypeId → Elab ℕ
type_of = fold-TypeId Declared Part (Elab Parameter) (Elab ℕ) declared_step expression_step parameter_step type_id_step

-- a type in brackets is one of the types behind it
abbrev pub TypesAreThere : Type 0
TypesAreThere =
    (s : Scene) → IsScene s → (t : TypeId) → type_place t ≡ None → type_id_fits t ≡ true → (e : Env) → Classless e → (Within e s → Holds s e) → Fine s (λ u f. Inside f u) e (type_of t e)

-- a statement that declares nothing fits the function at hand where its parts are fine
pub record StatementsAreValid (s : Scene) (parameters : ℕ) (is_main : Bool) : Type 0 where
  pub expression : (at : ℕ) (x : Part) → IsPart s x → IsStatement s parameters is_main (row.expression_row at x)
  pub empty : (at : ℕ) → IsStatement s parameters is_main (row.empty_row at)
  pub choice : (at : ℕ) (x : Part) (first : Elab Made) (other : Option (Elab Made)) → IsPart s x → IsStatement s parameters is_main first
      → ((run : Elab Made) → other ≡ Some run → IsStatement s parameters is_main run) → IsStatement s parameters is_main (row.if_row at x first other)
  pub while_loop : (at : ℕ) (x : Part) (body : Elab Made) → IsPart s x → IsStatement s parameters is_main body → IsStatement s parameters is_main (row.while_row at x body)
  pub do_loop : (at : ℕ) (body : Elab Made) (x : Part) → IsStatement s parameters is_main body → IsPart s x → IsStatement s parameters is_main (row.do_row at body x)
  pub for_loop : (at : ℕ) (first : Elab Made) (x step : Option Part) (body : Elab Made) → IsStatement s parameters is_main first → ((p : Part) → x ≡ Some p → IsPart s p)
      → ((p : Part) → step ≡ Some p → IsPart s p) → IsStatement s parameters is_main body → IsStatement s parameters is_main (row.for_row at first x step body)
  pub block : (at : ℕ) (runs : List (Elab Made)) → AreStatements s parameters is_main runs → IsStatement s parameters is_main (row.block_row at runs)
  pub leaving : (at : ℕ) → IsStatement s parameters is_main (row.break_row at)
  pub continuing : (at : ℕ) → IsStatement s parameters is_main (row.continue_row at)
  pub giving : (at : ℕ) (x : Option Part) → ((p : Part) → x ≡ Some p → IsPart s p) → IsStatement s parameters is_main (row.return_row at x)

abbrev pub SimpleStatementsAreValid : Type 0
SimpleStatementsAreValid = (s : Scene) (parameters : ℕ) (is_main : Bool) → IsScene s → StatementsAreValid s parameters is_main
