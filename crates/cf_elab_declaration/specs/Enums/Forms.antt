-- Enumerators whose expressions are built.
use Rattle.std.specs.Prelude.{ℕ, List, Option, None, Some, All}
use Rattle.cf_syntax.specs.declared.expression.Expr.{Expr}
use Rattle.cf_unit.specs.declared.enumeration.Enumerator.{Enumerator}
use Rattle.cf_elab_expr.specs.Shut as expression

-- the expression behind `=`, if there is one
abbrev pub IsBuilt : Option (ℕ × Expr) → Type 0
IsBuilt None = Unit {0}
IsBuilt (Some x) = expression.IsBuilt x.1

abbrev pub AreBuilt : List Enumerator → Type 0
AreBuilt es = All (λ (e : Enumerator). IsBuilt e.value) es
