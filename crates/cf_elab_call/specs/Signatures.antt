-- The parameters and the result of a function type, each under a name that does not unfold.
use Rattle.std.specs.Prelude.{ℕ, List}
use Rattle.cf_types.specs.Table.{Table}
use Rattle.cf_classes.specs.TypeTree.{params_of}
use Rattle.cf_elab.specs.Arguments.{fun_at, result_of}

unfoldable pub params_at : Table → ℕ → List ℕ
params_at types t = params_of (fun_at types t)

unfoldable pub result_at : Table → ℕ → ℕ
result_at types t = result_of (fun_at types t)
