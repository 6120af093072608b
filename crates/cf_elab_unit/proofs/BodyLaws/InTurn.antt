-- Several statements, one after the other.
use Rattle.std.proofs.Common.{◌≡◌, ℕ, ◌+◌, ◌<◌, ◌≤◌, List, [], ◌∷◌, ◌++◌, length, get_or, drop}
use Rattle.cf_unit.specs.declared.statement.Stmt.{Stmt}
use Rattle.cf_elab.specs.Answer.{Answer, Made as Done}
use Rattle.cf_elab.specs.Env.{Env}
use Rattle.cf_elab.specs.Statement.{Made}
use Rattle.cf_elab_env.proofs.InOrder as order
use Rattle.cf_elab_env.proofs.InOrder.{behind}
use Rattle.cf_elab_env.specs.Answered.{Stops}
use Rattle.cf_elab_env.specs.declared.stop.Stop.{Stop}
use Rattle.cf_elab_unit.specs.Body.Shut as shut

pub at_end : (found : List Made) (ss : List Stmt) (i : ℕ) (env : Env) → length ss ≤ i → behind found (shut.statements (drop i ss) env) ≡ Done found env
unfolding shut.statements
at_end found ss i env le = order.at_end shut.statement found ss i env le

module _ (start : Answer (List Made)) (found : List Made) (ss : List Stmt) (i : ℕ) (s : Stmt) (env : Env)
    (so_far : start ≡ behind found (shut.statements (drop i ss) env)) (within : i < length ss) (there : s ≡ get_or ss i s) where
  pub stopped : (stop : Stop) → Stops (shut.statement s env) stop → Stops start stop
  unfolding shut.statements
  stopped = order.stopped shut.statement found ss i s env start so_far within there

  pub going : (m : Made) (next : Env) → shut.statement s env ≡ Done m next → start ≡ behind (found ++ m ∷ []) (shut.statements (drop (i + 1) ss) next)
  unfolding shut.statements
  going = order.going shut.statement found ss i s env start so_far within there
