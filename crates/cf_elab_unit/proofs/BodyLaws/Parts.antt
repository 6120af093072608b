-- What a statement is by its parts (6).
use Rattle.std.proofs.Common.{◌≡◌, ℕ, List, map, Option, None, Some, refl, sym, ap, subst, ◌∙◌}
use Rattle.std.specs.Option.{option_map}
use Rattle.cf_core.specs.declared.node.Core.TheVariants as node
use Rattle.cf_core.specs.declared.operators.LoopForm.TheVariants as loop
use Rattle.cf_syntax.specs.declared.expression.Expr.{Expr}
use Rattle.cf_unit.specs.declared.class.ClassDef.{ClassDef, fold-ClassDef}
use Rattle.cf_unit.specs.declared.class.FunctionDef.{FunctionDef}
use Rattle.cf_unit.specs.declared.class.Member.{Member, fold-Member}
use Rattle.cf_unit.specs.declared.class.Member.TheOpen.{Stmt-F}
use Rattle.cf_unit.specs.declared.class.Member.TheFolds.{fold-roll-Stmt, map-Stmt, fold_out-Declaration}
use Rattle.cf_unit.specs.declared.declaration.Declaration.{Declaration, out-Declaration}
use Rattle.cf_unit.specs.declared.specifier.Specifier.{Specifier, fold-Specifier}
use Rattle.cf_unit.specs.declared.statement.Stmt.{Stmt, roll-Stmt}
use Rattle.cf_unit.specs.declared.statement.Stmt.TheVariants as form
use Rattle.cf_elab.specs.Answer.{Elab, Made as Done, onward}
use Rattle.cf_elab.specs.Env.{Env}
use Rattle.cf_elab.specs.Expression.{elaborated}
use Rattle.cf_elab.specs.Operand.{Value}
use Rattle.cf_elab.specs.Statement as row
use Rattle.cf_elab.specs.Statement.{Made}
use Rattle.cf_elab.specs.Trees as tree
use Rattle.cf_elab.specs.Trees.{MemberRow, SpecifierRow, ClassRow, FunctionRow, DeclarationRow, member_step, specifier_step, statement_step, class_step, definition_step, declaration_step}
use Rattle.cf_elab_declaration.specs.Declarations.Shut as declarations
use Rattle.cf_elab_env.specs.Answered.{Stops}
use Rattle.cf_elab_env.specs.Shut as scope
use Rattle.cf_elab_env.specs.declared.stop.Stop.{Stop}
use Rattle.cf_elab_declaration.specs.Enums.ExprShut as expression
use Rattle.cf_elab_statement.specs.Shut as step
use Rattle.cf_elab_statement.proofs.Onward.{onward-assoc, onward-same}
use Rattle.cf_elab_statement.proofs.Rows as rows
use Rattle.cf_elab_unit.specs.Body.Shut as shut

abbrev member : Member → MemberRow
member = fold-Member MemberRow SpecifierRow (Elab Made) ClassRow FunctionRow DeclarationRow member_step specifier_step statement_step class_step definition_step declaration_step

abbrev specifier : Specifier → SpecifierRow
specifier = fold-Specifier MemberRow SpecifierRow (Elab Made) ClassRow FunctionRow DeclarationRow member_step specifier_step statement_step class_step definition_step declaration_step

abbrev of_class : ClassDef → ClassRow
of_class = fold-ClassDef MemberRow SpecifierRow (Elab Made) ClassRow FunctionRow DeclarationRow member_step specifier_step statement_step class_step definition_step declaration_step

-- a statement is made of what its parts are
made_of : (x : Stmt-F Member Specifier Stmt ClassDef FunctionDef Declaration) (env : Env)
    → tree.statement (roll-Stmt x) env
    ≡ statement_step
    (map-Stmt Member Specifier Stmt ClassDef FunctionDef Declaration MemberRow SpecifierRow (Elab Made) ClassRow FunctionRow DeclarationRow member specifier tree.statement of_class tree.definition tree.declaration x)
    env
made_of x env =
    ap (λ (run : Elab Made). run env)
    (fold-roll-Stmt MemberRow SpecifierRow (Elab Made) ClassRow FunctionRow DeclarationRow member_step specifier_step statement_step class_step definition_step declaration_step x)

-- ---- several, in a scope and in a body

pub scope_is : (ss : List Stmt) (env : Env)
    → shut.in_scope ss env ≡ onward (scope.enter_scope env) (λ _ env. onward (shut.statements ss env) (λ ms env. onward (scope.leave_scope env) (λ _ env. Done ms env)))
unfolding shut.in_scope scope.enter_scope scope.leave_scope
scope_is ss env = refl

pub braces_is : (ss : List Stmt) (env : Env)
    → shut.in_switch ss env ≡ onward (step.begin_switch env) (λ before env. onward (shut.in_scope ss env) (λ ms env. onward (step.end_switch before env) (λ _ env. Done ms env)))
unfolding shut.in_switch shut.in_scope shut.statements
braces_is ss env = rows.braces (map shut.statement ss) env

pub loop_is : (s : Stmt) (env : Env)
    → shut.in_loop s env ≡ onward (step.begin_loop env) (λ before env. onward (shut.statement s env) (λ m env. onward (step.end_loop before env) (λ _ env. Done m env)))
unfolding shut.in_loop
loop_is s env = rows.looped (shut.statement s) env

-- ---- one that may be left out

pub no_statement : (o : Option Stmt) (env : Env) → o ≡ None → shut.maybe_statement o env ≡ Done None env
unfolding shut.maybe_statement
no_statement o env is = ap (λ o. shut.maybe_statement o env) is

pub some_statement : (s : Stmt) (env : Env) → shut.maybe_statement (Some s) env ≡ onward (shut.statement s env) (λ m env. Done (Some m) env)
unfolding shut.maybe_statement
some_statement s env = refl

pub otherwise_is : (at : ℕ) (c : Value × Made) (b : Option Stmt) (env : Env)
    → shut.otherwise at c b env ≡ onward (shut.maybe_statement b env) (λ m env. step.if_behind at c.0 c.1 m env)
unfolding shut.otherwise
otherwise_is at c b env = refl

pub chosen_is : (x : Expr) (a : Stmt) (env : Env)
    → shut.chosen x a env ≡ onward (expression.valued x env) (λ v env. onward (shut.statement a env) (λ m env. Done (v, m) env))
unfolding shut.chosen expression.valued
chosen_is x a env = refl

pub for_rest_is : (at : ℕ) (first : Made) (x next : Option Expr) (body : Stmt) (env : Env)
    → shut.for_rest at first x next body env ≡ onward (shut.maybe_value x env) (λ v env. shut.for_behind at first v next body env)
unfolding shut.for_rest
for_rest_is at first x next body env = refl

pub for_behind_is : (at : ℕ) (first : Made) (v : Option Value) (next : Option Expr) (body : Stmt) (env : Env)
    → shut.for_behind at first v next body env ≡ onward (shut.maybe_value next env) (λ w env. onward (shut.in_loop body env) (λ m env. step.for_behind at first v w m env))
unfolding shut.for_behind
for_behind_is at first v next body env = refl

-- ---- the forms

chosen_then : (x : Expr) (a : Stmt) (go : Value → Made → Elab Made) (env : Env)
    → onward (expression.valued x env) (λ v env. onward (shut.statement a env) (λ m env. go v m env)) ≡ onward (shut.chosen x a env) (λ vm env. go vm.0 vm.1 env)
unfolding shut.chosen expression.valued
chosen_then x a go env =
    sym
    (onward-assoc (expression.valued x env) (λ v env. onward (shut.statement a env) (λ m env. Done (v, m) env)) (λ vm env. go vm.0 vm.1 env)
    ∙ onward-same (expression.valued x env) (λ v env. onward (onward (shut.statement a env) (λ m env. Done (v, m) env)) (λ vm env. go vm.0 vm.1 env))
    (λ v env. onward (shut.statement a env) (λ m env. go v m env))
    (λ v env. onward-assoc (shut.statement a env) (λ m env. Done (v, m) env) (λ vm env. go vm.0 vm.1 env)))

pub declaration_is : (d : Declaration) (env : Env)
    → shut.statement (form.Declaration d) env ≡ onward (declarations.declaration d env) (λ rs env. Done (row.declaration_made (out-Declaration d).at rs) env)
unfolding shut.statement declarations.declaration roll-Stmt denote.Hole.Carrier.roll
declaration_is d env =
    made_of (Stmt-F.Stmt::Declaration d) env
    ∙ ap (λ (r : DeclarationRow). onward ((tree.declaration d).run env) (λ rs env. Done (row.declaration_made r.at rs) env))
    (fold_out-Declaration MemberRow SpecifierRow (Elab Made) ClassRow FunctionRow DeclarationRow member_step specifier_step statement_step class_step definition_step declaration_step d)

module _ (at : ℕ) (env : Env) where
  pub empty_is : shut.statement (form.Empty at) env ≡ Done (row.made at (node.Full at (node.Blank at))) env
  unfolding shut.statement roll-Stmt denote.Hole.Carrier.roll
  empty_is = made_of (Stmt-F.Empty at) env

  pub expression_is : (x : Expr) → shut.statement (form.Expression at x) env ≡ onward (expression.valued x env) (λ v env. step.expression at v env)
  unfolding shut.statement expression.valued roll-Stmt denote.Hole.Carrier.roll
  expression_is x = made_of (Stmt-F.Expression at x) env ∙ rows.expression_row at (elaborated x) env

  pub block_is : (ss : List Stmt) → shut.statement (form.Block at ss) env ≡ onward (shut.in_scope ss env) (λ ms env. Done (row.made at (node.Block at (row.nodes_of ms))) env)
  unfolding shut.statement shut.statements shut.in_scope roll-Stmt denote.Hole.Carrier.roll
  block_is ss = made_of (Stmt-F.Block at ss) env

  pub if_is : (x : Expr) (a : Stmt) (b : Option Stmt)
      → shut.statement (form.If at x a b) env ≡ onward (shut.chosen x a env) (λ c env. shut.otherwise at c b env)
  unfolding shut.statement shut.otherwise shut.maybe_statement expression.valued roll-Stmt denote.Hole.Carrier.roll
  if_is x a None = made_of (Stmt-F.If at x a None) env ∙ rows.if_row at (elaborated x) (shut.statement a) None env ∙ chosen_then x a (λ v m. shut.otherwise at (v, m) None) env
  if_is x a (Some b) =
      made_of (Stmt-F.If at x a (Some b)) env ∙ rows.if_row at (elaborated x) (shut.statement a) (Some (shut.statement b)) env ∙ chosen_then x a (λ v m. shut.otherwise at (v, m) (Some b)) env

  pub while_is : (x : Expr) (s : Stmt)
      → shut.statement (form.While at x s) env ≡ onward (expression.valued x env) (λ v env. onward (shut.in_loop s env) (λ m env. step.loop_behind at loop.While v m env))
  unfolding shut.statement shut.in_loop expression.valued roll-Stmt denote.Hole.Carrier.roll
  while_is x s = made_of (Stmt-F.While at x s) env ∙ rows.while_row at (elaborated x) (shut.statement s) env

  pub do_is : (s : Stmt) (x : Expr)
      → shut.statement (form.Do at s x) env ≡ onward (shut.in_loop s env) (λ m env. onward (expression.valued x env) (λ v env. step.loop_behind at loop.Do v m env))
  unfolding shut.statement shut.in_loop expression.valued roll-Stmt denote.Hole.Carrier.roll
  do_is s x = made_of (Stmt-F.Do at s x) env ∙ rows.do_row at (shut.statement s) (elaborated x) env

  pub for_is : (first : Stmt) (x next : Option Expr) (s : Stmt)
      → shut.statement (form.For at first x next s) env ≡ onward (shut.statement first env) (λ f env. shut.for_rest at f x next s env)
  unfolding shut.statement shut.for_rest shut.for_behind shut.maybe_value shut.in_loop roll-Stmt denote.Hole.Carrier.roll
  for_is first x next s =
      made_of (Stmt-F.For at first x next s) env ∙ rows.for_row at (shut.statement first) (option_map elaborated x) (option_map elaborated next) (shut.statement s) env

  pub switch_is : (x : Expr) (ss : List Stmt)
      → shut.statement (form.Switch at x ss) env ≡ onward (expression.valued x env) (λ v env. onward (shut.in_switch ss env) (λ ms env. step.switch_behind at v ms env))
  unfolding shut.statement shut.in_switch expression.valued roll-Stmt denote.Hole.Carrier.roll
  switch_is x ss = made_of (Stmt-F.Switch at x ss) env ∙ rows.switch_row at (elaborated x) (map shut.statement ss) env

  pub case_is : (x : Expr)
      → shut.statement (form.Case at x) env ≡ onward (expression.valued x env) (λ v env. Done (record (row.made at (node.Blank at)) { label = row.case_label v }) env)
  unfolding shut.statement expression.valued roll-Stmt denote.Hole.Carrier.roll
  case_is x = made_of (Stmt-F.Case at x) env

  pub default_is : shut.statement (form.Default at) env ≡ Done (record (row.made at (node.Default at)) { label = row.default_label }) env
  unfolding shut.statement roll-Stmt denote.Hole.Carrier.roll
  default_is = made_of (Stmt-F.Default at) env

  pub break_is : shut.statement (form.Break at) env ≡ step.break_row at env
  unfolding shut.statement roll-Stmt denote.Hole.Carrier.roll
  break_is = made_of (Stmt-F.Break at) env ∙ rows.break_row at env

  pub continue_is : shut.statement (form.Continue at) env ≡ step.continue_row at env
  unfolding shut.statement roll-Stmt denote.Hole.Carrier.roll
  continue_is = made_of (Stmt-F.Continue at) env ∙ rows.continue_row at env

  pub return_is : (x : Option Expr) → shut.statement (form.Return at x) env ≡ onward (shut.maybe_value x env) (λ v env. step.return_behind at v env)
  unfolding shut.statement shut.maybe_value roll-Stmt denote.Hole.Carrier.roll
  return_is x = made_of (Stmt-F.Return at x) env ∙ rows.return_row at (option_map elaborated x) env

-- where `if` stops behind the statement of its condition
pub if_stops : (s : Stmt) (at : ℕ) (x : Expr) (a : Stmt) (b : Option Stmt) (env first : Env) (c : Value × Made) (stop : Stop) → s ≡ form.If at x a b
    → shut.chosen x a env ≡ Done c first → Stops (shut.otherwise at c b first) stop → Stops (shut.statement s env) stop
if_stops s at x a b env first c stop is made stops =
    subst (λ r. Stops r stop)
    (sym (ap (λ s. shut.statement s env) is ∙ if_is at env x a b ∙ ap (λ r. onward r (λ c e. shut.otherwise at c b e)) made)) stops

pub ruleset maybe_laws = (no_statement, some_statement)
