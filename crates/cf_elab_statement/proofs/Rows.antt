-- The rows of statements are their parts, and then the steps that this crate does.
use Rattle.std.proofs.Common.{◌≡◌, ℕ, List, [], ◌∷◌, ◌++◌, Option, refl}
use Rattle.cf_core.specs.declared.node.Core.TheVariants as node
use Rattle.cf_core.specs.declared.operators.LoopForm.TheVariants as form
use Rattle.cf_elab.specs.Answer.{Answer, Made as Done, Refused, Passed, Elab, ◌>>=◌, ◌>>◌, gives, maybe, all, onward}
use Rattle.cf_elab.specs.Env.{Env}
use Rattle.cf_elab.specs.Names.{scoped, enter_scope, leave_scope}
use Rattle.cf_elab.specs.Operand.{Part, evaluated}
use Rattle.cf_elab.specs.Statement as row
use Rattle.cf_elab.specs.Statement.{Made}
use Rattle.cf_elab_statement.specs.Shut as shut

-- what is done in a scope of its own, and then something else
pub scoped_then : {A B : Type 0} (run : Elab A) (go : A → Elab B) (env : Env) → (scoped run >>= go) env ≡ (enter_scope >> (run >>= (λ a. leave_scope >> go a))) env
scoped_then {A} {B} run go env = by (run (record env { scopes = record { outer = env.scopes.outer ++ env.scopes.inner ∷ []; inner = [] } }))
  where
    by : (a : Answer A) → onward (onward a (λ x. leave_scope >> gives x)) go ≡ onward a (λ x. leave_scope >> go x)
    by (Done x next) = refl
    by (Refused rule at) = refl
    by (Passed bound most) = refl

pub expression_row : (at : ℕ) (x : Part) (env : Env) → row.expression_row at x env ≡ (evaluated x >>= shut.expression at) env
unfolding shut.expression
expression_row at x env = refl

pub block_row : (at : ℕ) (ss : List (Elab Made)) (env : Env)
    → row.block_row at ss env ≡ (enter_scope >> (all ss >>= (λ ms. leave_scope >> gives (row.made at (node.Block at (row.nodes_of ms)))))) env
block_row at ss env = scoped_then (all ss) (λ ms. gives (row.made at (node.Block at (row.nodes_of ms)))) env

pub case_row : (at : ℕ) (x : Part) (env : Env)
    → row.case_row at x env ≡ (evaluated x >>= (λ v. gives (record (row.made at (node.Blank at)) { label = row.case_label v }))) env
case_row at x env = refl

-- ---- if and loops

pub if_row : (at : ℕ) (x : Part) (then_part : Elab Made) (else_part : Option (Elab Made)) (env : Env)
    → row.if_row at x then_part else_part env ≡ (evaluated x >>= (λ v. then_part >>= (λ a. maybe (λ (s : Elab Made). s) else_part >>= (λ b. shut.if_behind at v a b)))) env
unfolding shut.if_behind shut.condition
if_row at x then_part else_part env = refl

pub looped : (run : Elab Made) (env : Env) → row.looped run env ≡ (shut.begin_loop >>= (λ before. run >>= (λ m. shut.end_loop before >> gives m))) env
unfolding shut.begin_loop shut.end_loop
looped run env = refl

pub while_row : (at : ℕ) (x : Part) (body : Elab Made) (env : Env)
    → row.while_row at x body env ≡ (evaluated x >>= (λ v. row.looped body >>= (λ m. shut.loop_behind at form.While v m))) env
unfolding shut.loop_behind shut.condition
while_row at x body env = refl

pub do_row : (at : ℕ) (body : Elab Made) (x : Part) (env : Env)
    → row.do_row at body x env ≡ (row.looped body >>= (λ m. evaluated x >>= (λ v. shut.loop_behind at form.Do v m))) env
unfolding shut.loop_behind shut.condition
do_row at body x env = refl

pub for_row : (at : ℕ) (first : Elab Made) (x step : Option Part) (body : Elab Made) (env : Env)
    → row.for_row at first x step body env
    ≡ (first >>= (λ f. maybe evaluated x >>= (λ v. maybe evaluated step >>= (λ w. row.looped body >>= (λ m. shut.for_behind at f v w m))))) env
unfolding shut.for_behind shut.maybe_condition shut.condition
for_row at first x step body env = refl

-- ---- switch

pub braces : (ss : List (Elab Made)) (env : Env) → row.braces ss env ≡ (shut.begin_switch >>= (λ before. scoped (all ss) >>= (λ ms. shut.end_switch before >> gives ms))) env
unfolding shut.begin_switch shut.end_switch
braces ss env = refl

pub switch_row : (at : ℕ) (x : Part) (ss : List (Elab Made)) (env : Env)
    → row.switch_row at x ss env ≡ (evaluated x >>= (λ v. row.braces ss >>= (λ ms. shut.switch_behind at v ms))) env
unfolding shut.switch_behind shut.switch_plain shut.switch_on
switch_row at x ss env = refl

-- ---- jumps

pub break_row : (at : ℕ) (env : Env) → row.break_row at env ≡ shut.break_row at env
unfolding shut.break_row
break_row at env = refl

pub continue_row : (at : ℕ) (env : Env) → row.continue_row at env ≡ shut.continue_row at env
unfolding shut.continue_row
continue_row at env = refl

pub return_row : (at : ℕ) (x : Option Part) (env : Env) → row.return_row at x env ≡ (maybe evaluated x >>= shut.return_behind at) env
unfolding shut.return_behind shut.returned
return_row at x env = refl
