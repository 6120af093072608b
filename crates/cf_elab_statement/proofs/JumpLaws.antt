-- Jumps, and what is said of them around a body.
use Rattle.std.proofs.Common.{◌≡◌, ℕ, Bool, true, false, not, ◌||◌, Option, None, Some, refl, ap, sym, ◌∙◌}
use Rattle.cf_core.specs.declared.node.Core.{Core as Node}
use Rattle.cf_core.specs.declared.node.Core.TheVariants as node
use Rattle.cf_elab.specs.Answer.{Answer, Made as Elaborated, Refused, Passed, onward, need}
use Rattle.cf_elab.specs.Env.{Env}
use Rattle.cf_elab.specs.Initial.{Start, no_keeper}
use Rattle.cf_elab.specs.Operand.{Value, sort_of, is_void}
use Rattle.cf_elab.specs.Statement as row
use Rattle.cf_elab.specs.Statement.{Made}
use Rattle.cf_elab.specs.UserFit as user
use Rattle.cf_elab_env.proofs.Growth.{grown_laws}
use Rattle.cf_elab_initial.specs.Initials.Shut as initial
use Rattle.cf_elab_statement.specs.Parts.{has_no_result}
use Rattle.cf_elab_statement.specs.Shut as shut
use Rattle.cf_elab_statement.specs.declared.jumps.Jumps.{Jumps}

-- ---- before a body, and behind it

module _ (env : Env) where
  pub loop_begun : (next : Env) (b c : Bool) → b ≡ env.hand.breaks → c ≡ env.hand.continues
      → next ≡ record env { hand = record env.hand { breaks = true; continues = true } } → shut.begin_loop env ≡ Elaborated (record { breaks = b; continues = c }) next
  unfolding shut.begin_loop
  loop_begun next b c p q is =
      ap (λ b. Elaborated (record { breaks = b; continues = env.hand.continues }) (record env { hand = record env.hand { breaks = true; continues = true } })) (sym p)
      ∙ ap (λ c. Elaborated (record { breaks = b; continues = c }) (record env { hand = record env.hand { breaks = true; continues = true } })) (sym q)
      ∙ ap (Elaborated (record { breaks = b; continues = c })) (sym is)

  pub loop_ended : (next : Env) (j : Jumps) → next ≡ record env { hand = record env.hand { breaks = j.breaks; continues = j.continues } } → shut.end_loop j env ≡ Elaborated tt next
  unfolding shut.end_loop
  loop_ended next j is = ap (Elaborated tt) (sym is)

  pub switch_begun : (next : Env) (b : Bool) → b ≡ env.hand.breaks → next ≡ record env { hand = record env.hand { breaks = true } } → shut.begin_switch env ≡ Elaborated b next
  unfolding shut.begin_switch
  switch_begun next b p is = ap (λ b. Elaborated b (record env { hand = record env.hand { breaks = true } })) (sym p) ∙ ap (Elaborated b) (sym is)

  pub switch_ended : (next : Env) (b : Bool) → next ≡ record env { hand = record env.hand { breaks = b } } → shut.end_switch b env ≡ Elaborated tt next
  unfolding shut.end_switch
  switch_ended next b is = ap (Elaborated tt) (sym is)

-- ---- break and continue

module _ (at : ℕ) (env : Env) where
  abbrev jump : Node → Bool → Answer Made
  jump n b = onward (need b 21 at env) (λ _ env. Elaborated (row.made at n) env)

  pub breaks_here : env.hand.breaks ≡ true → shut.break_row at env ≡ Elaborated (row.made at (node.Break at)) env
  unfolding shut.break_row
  breaks_here is = ap (jump (node.Break at)) is

  pub no_break : env.hand.breaks ≡ false → shut.break_row at env ≡ Refused 21 at
  unfolding shut.break_row
  no_break is = ap (jump (node.Break at)) is

  pub continues_here : env.hand.continues ≡ true → shut.continue_row at env ≡ Elaborated (row.made at (node.Continue at)) env
  unfolding shut.continue_row
  continues_here is = ap (jump (node.Continue at)) is

  pub no_continue : env.hand.continues ≡ false → shut.continue_row at env ≡ Refused 21 at
  unfolding shut.continue_row
  no_continue is = ap (jump (node.Continue at)) is

  -- ---- return

  abbrev no_value : Bool → Answer (Option Node)
  no_value b = onward (need b 22 at env) (λ _ env. Elaborated None env)

  returned_none : shut.returned at None env ≡ no_value (has_no_result env || row.is_main_body env.hand.kind)
  unfolding shut.returned has_no_result
  returned_none = refl

  or-right : (a b : Bool) → b ≡ true → (a || b) ≡ true
  or-right true b h = refl
  or-right false b h = h

  pub nothing_returned : (o : Option Value) → o ≡ None → has_no_result env ≡ true → shut.returned at o env ≡ Elaborated None env
  nothing_returned o is h = ap (λ o. shut.returned at o env) is ∙ returned_none ∙ ap (λ b. no_value (b || row.is_main_body env.hand.kind)) h

  pub main_returned : (o : Option Value) → o ≡ None → row.is_main_body env.hand.kind ≡ true → shut.returned at o env ≡ Elaborated None env
  main_returned o is h = ap (λ o. shut.returned at o env) is ∙ returned_none ∙ ap no_value (or-right (has_no_result env) (row.is_main_body env.hand.kind) h)

  pub value_wanted : (o : Option Value) → o ≡ None → has_no_result env ≡ false → row.is_main_body env.hand.kind ≡ false → shut.returned at o env ≡ Refused 22 at
  value_wanted o is h m =
      ap (λ o. shut.returned at o env) is ∙ returned_none ∙ ap (λ b. no_value (b || row.is_main_body env.hand.kind)) h ∙ ap no_value m

  by_start : (a : Answer Start) → onward a (λ s next. Elaborated (Some s.node) next) ≡ onward (onward a (λ s next. Elaborated s.node next)) (λ n next. Elaborated (Some n) next)
  by_start (Elaborated s next) = refl
  by_start (Refused rule place) = refl
  by_start (Passed bound most) = refl

  by_void : (v : Value) (b : Bool)
      → onward (need (not b) 22 at env) (λ _ next. onward (user.initial no_keeper at env.hand.result v next) (λ s next. Elaborated (Some s.node) next))
      ≡ onward (onward (need (not b) 22 at env) (λ _ next. onward (user.initial no_keeper at env.hand.result v next) (λ s next. Elaborated s.node next))) (λ n next. Elaborated (Some n) next)
  by_void v true = refl
  by_void v false = by_start (user.initial no_keeper at env.hand.result v env)

  pub value_returned : (v : Value) → shut.returned at (Some v) env ≡ onward (shut.result_value at v env) (λ n env. Elaborated (Some n) env)
  unfolding shut.returned shut.result_value has_no_result
  value_returned v = by_void v (is_void (sort_of env.types env.hand.result))

  abbrev by_result : Value → Bool → Answer Node
  by_result v b = onward (need (not b) 22 at env) (λ _ next. onward (initial.initial no_keeper at env.hand.result v next) (λ s next. Elaborated s.node next))

  pub no_result : (v : Value) → has_no_result env ≡ true → shut.result_value at v env ≡ Refused 22 at
  unfolding shut.result_value initial.initial
  no_result v h = ap (by_result v) h

  pub some_result : (v : Value) → has_no_result env ≡ false
      → shut.result_value at v env ≡ onward (initial.initial no_keeper at env.hand.result v env) (λ s next. Elaborated s.node next)
  unfolding shut.result_value initial.initial
  some_result v h = ap (by_result v) h

pub return_is : (at : ℕ) (v : Option Value) (env : Env) → shut.return_behind at v env ≡ onward (shut.returned at v env) (λ n env. Elaborated (row.made at (node.Return at n)) env)
unfolding shut.return_behind
return_is at v env = refl

pub ruleset break_laws = (breaks_here, no_break)

pub ruleset continue_laws = (continues_here, no_continue)

pub ruleset return_laws = (return_is, grown_laws)

pub ruleset returned_laws = (nothing_returned, main_returned, value_wanted, value_returned, grown_laws)

pub ruleset result_laws = (no_result, some_result, grown_laws)
