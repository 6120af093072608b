-- Conditions, `if` and loops, behind their parts.
use Rattle.std.proofs.Common.{◌≡◌, ℕ, Option, None, Some, refl, ap, sym, ◌∙◌}
use Rattle.cf_core.specs.declared.operators.LoopForm.{LoopForm}
use Rattle.cf_core.specs.declared.operators.LoopForm.TheVariants as form
use Rattle.cf_types.specs.Table.{Table}
use Rattle.cf_elab.specs.Answer.{Made as Elaborated, onward}
use Rattle.cf_elab.specs.Env.{Env}
use Rattle.cf_elab.specs.Operand.{Value}
use Rattle.cf_elab.specs.Statement as row
use Rattle.cf_elab.specs.Statement.{Made}
use Rattle.cf_elab_env.specs.Holds.{IsEnv, IsType, Grows}
use Rattle.cf_elab_env.proofs.Growth.{grown_laws, type_grown}
use Rattle.cf_elab_arith.proofs.ChoiceLaws.ClassFree.{unused_node}
use Rattle.cf_elab_fit.specs.Shut as fit
use Rattle.cf_elab_statement.specs.Parts.{if_made, TypedIf}
use Rattle.cf_elab_statement.specs.Shut as shut

pub condition_is : (at : ℕ) (v : Value) (env : Env) → shut.condition at v env ≡ onward (fit.user_truth 13 at v env) (λ x env. Elaborated x.node env)
unfolding shut.condition fit.user_truth
condition_is at v env = refl

pub if_is : (at : ℕ) (v : Value) (a : Made) (b : Option Made) (env : Env) → shut.if_behind at v a b env ≡ onward (shut.condition at v env) (λ c env. Elaborated (if_made at c a b) env)
unfolding shut.if_behind
if_is at v a b env = refl

pub loop_is : (at : ℕ) (f : LoopForm) (v : Value) (body : Made) (env : Env)
    → shut.loop_behind at f v body env ≡ onward (shut.condition at v env) (λ c env. Elaborated (row.loop_made at (row.loop_of at f (Some c) None body) body) env)
unfolding shut.loop_behind
loop_is at f v body env = refl

pub for_is : (at : ℕ) (first : Made) (v step : Option Value) (body : Made) (env : Env)
    → shut.for_behind at first v step body env
    ≡ onward (shut.maybe_condition at v env) (λ c env. Elaborated (row.with_first at first body (row.loop_of at form.For c (row.step_node env step) body)) env)
unfolding shut.for_behind
for_is at first v step body env = refl

pub no_condition : (at : ℕ) (o : Option Value) (env : Env) → o ≡ None → shut.maybe_condition at o env ≡ Elaborated None env
unfolding shut.maybe_condition
no_condition at o env is = ap (λ o. shut.maybe_condition at o env) is

pub some_condition : (at : ℕ) (v : Value) (env : Env) → shut.maybe_condition at (Some v) env ≡ onward (shut.condition at v env) (λ c env. Elaborated (Some c) env)
unfolding shut.maybe_condition
some_condition at v env = refl

pub typed_if_grown : (a b : Table) (o : Option Value) → Grows a b → TypedIf a o → TypedIf b o
typed_if_grown a b None g h = tt
typed_if_grown a b (Some v) g h = type_grown a b v.type g h

pub step_value : (env : Env) (o : Option Value) (v : Value) → o ≡ Some v → IsEnv env → IsType env.types v.type → Some v.node ≡ row.step_node env o
step_value env o v is e typed = sym (ap (row.step_node env) is ∙ ap Some (unused_node env v e typed))

pub no_step : (env : Env) (o : Option Value) → o ≡ None → None ≡ row.step_node env o
no_step env o is = sym (ap (row.step_node env) is)

pub ruleset condition_laws = (condition_is, grown_laws)

pub ruleset if_laws = (if_is, grown_laws)

pub ruleset loop_laws = (loop_is, grown_laws)

pub ruleset for_laws = (for_is, typed_if_grown, grown_laws)

pub ruleset maybe_laws = (no_condition, some_condition, grown_laws)

pub ruleset step_laws = (step_value, no_step)
