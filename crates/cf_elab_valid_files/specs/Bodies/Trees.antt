-- Trees of statements and declarations as texts have them: constants are of their types (2.5), and labels stand in the braces of a `switch` alone (6.4.2).
use Rattle.std.specs.Prelude.{ℕ, Bool, true, false, not, ◌&&◌, List, map, Option, None, Some}
use Rattle.cf_syntax.specs.declared.expression.Expr.{Expr}
use Rattle.cf_unit.specs.declared.class.ClassDef.{ClassDef-F}
use Rattle.cf_unit.specs.declared.class.FunctionDef.{FunctionDef, FunctionDef-F, fold-FunctionDef}
use Rattle.cf_unit.specs.declared.class.Member.TheOpen.{Member-F, Specifier-F, Stmt-F}
use Rattle.cf_unit.specs.declared.declaration.Declaration.{Declaration, Declaration-F, fold-Declaration}
use Rattle.cf_unit.specs.declared.declaration.InitDeclarator.{InitDeclarator}
use Rattle.cf_unit.specs.declared.enumeration.Enumerator.{Enumerator}
use Rattle.cf_unit.specs.declared.initialiser.Init.{Init, fold-Init}
use Rattle.cf_unit.specs.declared.initialiser.Init.TheOpen.{Init-F}
use Rattle.cf_unit.specs.declared.initialiser.Initialiser.{Initialiser}
use Rattle.cf_unit.specs.declared.initialiser.Initialiser.TheVariants as initialiser
use Rattle.cf_unit.specs.declared.specifier.Specifier.{Specifier, fold-Specifier}
use Rattle.cf_unit.specs.declared.statement.Stmt.{Stmt, fold-Stmt}
use Rattle.cf_elab_valid.specs.Constants.{all_of, maybe_of, constants_fit, declarator_fits}

-- of a statement: whether it is as texts have it, and whether it is a label
pub record Told : Type 0 where
  pub well : Bool
  pub is_label : Bool

abbrev pub told : Bool → Told
told b = record { well = b; is_label = false }

-- a statement that is no label
abbrev pub is_whole : Told → Bool
is_whole t = t.well && not t.is_label

abbrev pub maybe_fits : Option Expr → Bool
maybe_fits None = true
maybe_fits (Some x) = constants_fit x

abbrev pub maybe_whole : Option Told → Bool
maybe_whole None = true
maybe_whole (Some t) = is_whole t

abbrev pub init_step : Init-F Bool → Bool
init_step (Init-F.Value at x) = constants_fit x
init_step (Init-F.List at xs) = all_of xs

abbrev pub init_fits : Init → Bool
init_fits = fold-Init Bool init_step

abbrev pub initialiser_fits : Option Initialiser → Bool
initialiser_fits None = true
initialiser_fits (Some (initialiser.Equals at i)) = init_fits i
initialiser_fits (Some (initialiser.Arguments at xs)) = all_of (map constants_fit xs)

abbrev pub init_declarator_fits : InitDeclarator → Bool
init_declarator_fits d = declarator_fits d.declarator && initialiser_fits d.initialiser

abbrev pub value_fits : Option (ℕ × Expr) → Bool
value_fits None = true
value_fits (Some v) = constants_fit v.1

abbrev pub enumerator_fits : Enumerator → Bool
enumerator_fits e = value_fits e.value

abbrev pub specifier_step : Specifier-F Bool Bool Told Bool Bool Bool → Bool
specifier_step (Specifier-F.Plain s) = true
specifier_step (Specifier-F.Class c) = c
specifier_step (Specifier-F.Enumeration d) = all_of (map enumerator_fits d.enumerators)

abbrev pub member_step : Member-F Bool Bool Told Bool Bool Bool → Bool
member_step m = true

abbrev pub class_step : ClassDef-F Bool Bool Told Bool Bool Bool → Bool
class_step c = true

abbrev pub declaration_step : Declaration-F Bool Bool Told Bool Bool Bool → Bool
declaration_step d = all_of d.specifiers && all_of (map init_declarator_fits d.declarators)

abbrev pub function_step : FunctionDef-F Bool Bool Told Bool Bool Bool → Bool
function_step f = all_of f.specifiers && (declarator_fits f.declarator && all_of (map is_whole f.body))

abbrev pub statement_step : Stmt-F Bool Bool Told Bool Bool Bool → Told
statement_step (Stmt-F.Stmt::Declaration d) = told d
statement_step (Stmt-F.Block at ss) = told (all_of (map is_whole ss))
statement_step (Stmt-F.Empty at) = told true
statement_step (Stmt-F.Expression at x) = told (constants_fit x)
statement_step (Stmt-F.If at x a b) = told (constants_fit x && (is_whole a && maybe_whole b))
statement_step (Stmt-F.While at x s) = told (constants_fit x && is_whole s)
statement_step (Stmt-F.Do at s x) = told (is_whole s && constants_fit x)
statement_step (Stmt-F.For at first x step s) = told (is_whole first && (maybe_fits x && (maybe_fits step && is_whole s)))
statement_step (Stmt-F.Switch at x ss) = told (constants_fit x && all_of (map (λ (t : Told). t.well) ss))
statement_step (Stmt-F.Case at x) = record { well = constants_fit x; is_label = true }
statement_step (Stmt-F.Default at) = record { well = true; is_label = true }
statement_step (Stmt-F.Break at) = told true
statement_step (Stmt-F.Continue at) = told true
statement_step (Stmt-F.Return at x) = told (maybe_fits x)

abbrev pub statement_told : Stmt → Told
statement_told = fold-Stmt Bool Bool Told Bool Bool Bool member_step specifier_step statement_step class_step function_step declaration_step

abbrev pub specifier_fits : Specifier → Bool
specifier_fits = fold-Specifier Bool Bool Told Bool Bool Bool member_step specifier_step statement_step class_step function_step declaration_step

abbrev pub declaration_fits : Declaration → Bool
declaration_fits = fold-Declaration Bool Bool Told Bool Bool Bool member_step specifier_step statement_step class_step function_step declaration_step

abbrev pub function_fits : FunctionDef → Bool
function_fits = fold-FunctionDef Bool Bool Told Bool Bool Bool member_step specifier_step statement_step class_step function_step declaration_step
