-- The place of the first form that is not built, of the parts of trees that stand inside others.
use Rattle.std.specs.Prelude.{ℕ, Option, None, Some}
use Rattle.cf_syntax.specs.declared.declarator.Param.{Param, fold-Param}
use Rattle.cf_syntax.specs.declared.declarator.TypeId.{TypeId, fold-TypeId}
use Rattle.cf_syntax.specs.declared.expression.Expr.{Expr}
use Rattle.cf_unit.specs.declared.class.FunctionDef.{FunctionDef, fold-FunctionDef}
use Rattle.cf_unit.specs.declared.declaration.Declaration.{Declaration, fold-Declaration}
use Rattle.cf_unit.specs.declared.specifier.Specifier.{Specifier, fold-Specifier}
use Rattle.cf_unit.specs.declared.statement.Stmt.{Stmt, fold-Stmt}
use Rattle.cf_elab.specs.Built.{Place, tree_step, expression_step, param_step, type_step, member_step, specifier_step, statement_step, class_step, function_step, declaration_step}

-- ---- of a declarator

abbrev pub param : Param → Place
param = fold-Param Place Place Place Place tree_step expression_step param_step type_step

abbrev pub type_id : TypeId → Place
type_id = fold-TypeId Place Place Place Place tree_step expression_step param_step type_step

-- a default argument, at its `=`
abbrev pub default_argument : Option (ℕ × Expr) → Place
default_argument None = None
default_argument (Some d) = Some d.0

-- ---- of a file

abbrev pub specifier : Specifier → Place
specifier = fold-Specifier Place Place Place Place Place Place member_step specifier_step statement_step class_step function_step declaration_step

abbrev pub statement : Stmt → Place
statement = fold-Stmt Place Place Place Place Place Place member_step specifier_step statement_step class_step function_step declaration_step

abbrev pub function : FunctionDef → Place
function = fold-FunctionDef Place Place Place Place Place Place member_step specifier_step statement_step class_step function_step declaration_step

abbrev pub declaration : Declaration → Place
declaration = fold-Declaration Place Place Place Place Place Place member_step specifier_step statement_step class_step function_step declaration_step
