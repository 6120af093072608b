-- Operands and parameters in order, under the names of their rows.
use Rattle.std.proofs.Common.{◌≡◌, ◌∙◌, ℕ, ◌+◌, ◌<◌, ◌≤◌, List, [], ◌∷◌, ◌++◌, length, get_or, drop, ap, sym}
use Rattle.std.proofs.lemmas.List.{map-append}
use Rattle.cf_syntax.specs.declared.declarator.Param.{Param}
use Rattle.cf_syntax.specs.declared.expression.Expr.{Expr}
use Rattle.cf_elab.specs.Answer.{Answer, Made}
use Rattle.cf_elab.specs.Env.{Env}
use Rattle.cf_elab.specs.Operand as elaborated
use Rattle.cf_elab.specs.Shape.{Parameter}
use Rattle.cf_elab_env.specs.Answered.{Stops}
use Rattle.cf_elab_env.specs.SeenOperand.{operand_seen}
use Rattle.cf_elab_env.specs.declared.operand.Operand.{Operand}
use Rattle.cf_elab_env.specs.declared.stop.Stop.{Stop}
use Rattle.cf_elab_expr.specs.Seen.{operands_seen}
use Rattle.cf_elab_expr.specs.Shut as shut
use Rattle.cf_elab_env.proofs.InOrder as order
use Rattle.cf_elab_env.proofs.InOrder.{behind}

-- ---- operands

pub operands_end : (found : List Operand) (es : List Expr) (i : ℕ) (env : Env) → length es ≤ i → behind (operands_seen found) (shut.runs (drop i es) env) ≡ Made (operands_seen found) env
unfolding shut.runs
operands_end found es i env le = order.at_end shut.run (operands_seen found) es i env le

module _ (start : Answer (List elaborated.Operand)) (found : List Operand) (es : List Expr) (i : ℕ) (e : Expr) (env : Env)
    (so_far : start ≡ behind (operands_seen found) (shut.runs (drop i es) env)) (within : i < length es) (there : e ≡ get_or es i e) where
  pub operands_stopped : (stop : Stop) → Stops (shut.run e env) stop → Stops start stop
  unfolding shut.runs
  operands_stopped = order.stopped shut.run (operands_seen found) es i e env start so_far within there

  pub operands_going : (o : Operand) (next : Env) → shut.run e env ≡ Made (operand_seen o) next
      → start ≡ behind (operands_seen (found ++ o ∷ [])) (shut.runs (drop (i + 1) es) next)
  unfolding shut.runs
  operands_going o next h =
      order.going shut.run (operands_seen found) es i e env start so_far within there (operand_seen o) next h
      ∙ ap (λ l. behind l (shut.runs (drop (i + 1) es) next)) (sym (map-append operand_seen found (o ∷ [])))

-- ---- parameters

pub parameters_end : (found : List Parameter) (ps : List Param) (i : ℕ) (env : Env) → length ps ≤ i → behind found (shut.object_parameters (drop i ps) env) ≡ Made found env
unfolding shut.object_parameters
parameters_end found ps i env le = order.at_end shut.object_parameter found ps i env le

module _ (start : Answer (List Parameter)) (found : List Parameter) (ps : List Param) (i : ℕ) (p : Param) (env : Env)
    (so_far : start ≡ behind found (shut.object_parameters (drop i ps) env)) (within : i < length ps) (there : p ≡ get_or ps i p) where
  pub parameters_stopped : (stop : Stop) → Stops (shut.object_parameter p env) stop → Stops start stop
  unfolding shut.object_parameters
  parameters_stopped = order.stopped shut.object_parameter found ps i p env start so_far within there

  pub parameters_going : (q : Parameter) (next : Env) → shut.object_parameter p env ≡ Made q next → start ≡ behind (found ++ q ∷ []) (shut.object_parameters (drop (i + 1) ps) next)
  unfolding shut.object_parameters
  parameters_going = order.going shut.object_parameter found ps i p env start so_far within there
