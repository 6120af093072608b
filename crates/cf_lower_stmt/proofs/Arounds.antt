-- What is around the statements inside a loop or switch.
use Rattle.std.proofs.Common.{◌≡◌, ℕ, suc, ◌+◌, ap, arith}
use Rattle.cf_lower.specs.Statements.{in_stepped, in_switch}
use Rattle.cf_lower_held.specs.declared.scene.Scene.{Scene}
use Rattle.cf_lower_stmt.specs.declared.around.Around.{Around}
use Rattle.cf_lower_stmt.specs.declared.around.Way.{Way}
use Rattle.cf_lower_stmt.specs.declared.around.Way.TheVariants as way
use Rattle.cf_lower_stmt.specs.Steps.{inside}

abbrev pub inner_around : ℕ → Way → Way → Around
inner_around n l g = record { depth = n; leaving = l; going_on = g }

module _ (x : Scene) (around : Around) (n : ℕ) (deeper : n ≡ around.depth + 1) where
  next : n ≡ suc around.depth
  next = omega (arith, deeper)

  pub around_stepped : inside x (inner_around n (way.Flagged around.depth) way.Break) ≡ in_stepped (inside x around)
  around_stepped = ap (λ k. inside x (inner_around k (way.Flagged around.depth) way.Break)) next

  pub around_switch : inside x (inner_around n way.Break (way.Flagged around.depth)) ≡ in_switch (inside x around)
  around_switch = ap (λ k. inside x (inner_around k way.Break (way.Flagged around.depth))) next
