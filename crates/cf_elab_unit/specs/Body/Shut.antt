-- A statement with all that is in it, under names that do not unfold. `Rattle.cf_elab_unit.proofs.BodyLaws` says what each is by its parts.
use Rattle.std.specs.Prelude.{◌≡◌, ℕ, List, map, Option, None}
use Rattle.std.specs.Option.{option_map}
use Rattle.cf_syntax.specs.declared.expression.Expr.{Expr}
use Rattle.cf_unit.specs.declared.statement.Stmt.{Stmt}
use Rattle.cf_elab.specs.Answer.{Elab, ◌>>=◌, gives, maybe, all}
use Rattle.cf_elab.specs.Built as built
use Rattle.cf_elab.specs.Built.{first_of}
use Rattle.cf_elab.specs.Expression.{elaborated}
use Rattle.cf_elab.specs.Names.{scoped}
use Rattle.cf_elab.specs.Operand.{Value, evaluated}
use Rattle.cf_elab.specs.Statement as row
use Rattle.cf_elab.specs.Statement.{Made}
use Rattle.cf_elab.specs.Trees as tree
use Rattle.cf_elab_statement.specs.Shut as step
use Rattle.cf_elab_built.specs.Built.Parts as place

-- what a statement is, and what several are in order
unfoldable pub statement : Stmt → Elab Made
statement = tree.statement

unfoldable pub statements : List Stmt → Elab (List Made)
statements ss = all (map statement ss)

-- in a scope of their own
unfoldable pub in_scope : List Stmt → Elab (List Made)
in_scope ss = scoped (statements ss)

-- in the braces of a switch
unfoldable pub in_switch : List Stmt → Elab (List Made)
in_switch ss = row.braces (map statement ss)

-- as the body of a loop
unfoldable pub in_loop : Stmt → Elab Made
in_loop s = row.looped (statement s)

-- a statement and an expression that may be left out
unfoldable pub maybe_statement : Option Stmt → Elab (Option Made)
maybe_statement s = maybe (λ (run : Elab Made). run) (option_map statement s)

unfoldable pub maybe_value : Option Expr → Elab (Option Value)
maybe_value x = maybe evaluated (option_map elaborated x)

-- the condition of an `if` and the statement where it holds; and what comes behind them
unfoldable pub chosen : Expr → Stmt → Elab (Value × Made)
chosen x a = do
  v ← evaluated (elaborated x)
  m ← statement a
  gives (v, m)

unfoldable pub otherwise : ℕ → Value × Made → Option Stmt → Elab Made
otherwise at c b = maybe_statement b >>= (λ m. step.if_behind at c.0 c.1 m)

-- `for`, behind its first part; and behind its condition
unfoldable pub for_behind : ℕ → Made → Option Value → Option Expr → Stmt → Elab Made
for_behind at first v next body = do
  w ← maybe_value next
  m ← in_loop body
  step.for_behind at first v w m

unfoldable pub for_rest : ℕ → Made → Option Expr → Option Expr → Stmt → Elab Made
for_rest at first x next body = maybe_value x >>= (λ v. for_behind at first v next body)

-- whether all forms in it are built
unfoldable pub IsBuilt : Stmt → Type 0
IsBuilt s = place.statement s ≡ None

unfoldable pub AreBuilt : List Stmt → Type 0
AreBuilt ss = first_of (map place.statement ss) ≡ None

unfoldable pub MaybeBuilt : Option Stmt → Type 0
MaybeBuilt s = built.maybe (option_map place.statement s) ≡ None

unfoldable pub HasBuilt : Option Expr → Type 0
HasBuilt x = built.maybe_expression x ≡ None
