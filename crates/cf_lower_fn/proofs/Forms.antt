-- What the walks over statements tell of a statement of code, by its form.
use Rattle.std.proofs.Common.{◌≡◌, ℕ, suc, ◌+◌, max, List, [], ◌∷◌, ◌++◌, map, Option, refl, sym, ap, ◌∙◌, arith, append_assoc, append-nil}
use Rattle.std.specs.Prelude.{ℤ}
use Rattle.cf_core.specs.FromClasses.{signature_of}
use Rattle.cf_core.specs.FromTypes.{Tables}
use Rattle.cf_plain.specs.declared.action.Action.{Action as CodeAction}
use Rattle.cf_plain.specs.declared.statement.Plain.{Plain as CodePlain}
use Rattle.cf_plain.specs.declared.statement.Plain.TheVariants as code
use Rattle.cf_plain.specs.declared.statement.PlainPart.{PlainPart as CodePart}
use Rattle.cf_plain.specs.Named.{actions, all_actions, part_actions}
use Rattle.cf_plain.specs.Plain.{Action, Plain, act, set, branch, loop, switch, case_label, default_label, leave, continue, give, parts}
use Rattle.cf_plain.specs.View.{parts_in_order}
use Rattle.cf_lower.specs.Functions.{bound, all_bound, parts_bound, nesting, all_nesting}
use Rattle.cf_lower_held.proofs.Views.{is-Act, is-Set, is-If, is-Loop, is-Switch, is-Case, is-Default, is-Break, is-Continue, is-Return, is-Parts}
use Rattle.cf_lower_fn.specs.Walks.{action_at, built_at, loop_nesting, statement_at, statements_at}
use Rattle.cf_lower_fn.proofs.Loops.{loop_is}

module _ (tables : Tables) (s : CodePlain) where
  -- ---- what it does

  module _ (w v : List Action) where
    does : (p : Plain) → statement_at tables s ≡ p → v ≡ w ++ actions p → v ≡ w ++ actions (statement_at tables s)
    does p is e = e ∙ sym (ap (λ q. w ++ actions q) is)

    does_nothing : (p : Plain) → statement_at tables s ≡ p → actions p ≡ [] → w ≡ w ++ actions (statement_at tables s)
    does_nothing p is none = sym (append-nil w) ∙ sym (ap (λ l. w ++ l) (ap actions is ∙ none))

    pub does_act : (a : CodeAction) → s ≡ code.Act a → v ≡ w ++ action_at tables a ∷ [] → v ≡ w ++ actions (statement_at tables s)
    does_act a e told = does (act (action_at tables a)) (is-Act tables (signature_of tables) s a e) told

    pub does_set : (n : ℕ) (a : CodeAction) → s ≡ code.Set n a → v ≡ w ++ action_at tables a ∷ [] → v ≡ w ++ actions (statement_at tables s)
    does_set n a e told = does (set n (action_at tables a)) (is-Set tables (signature_of tables) s n a e) told

    pub does_if : (n : ℕ) (ss ts : List CodePlain) (u : List Action) → s ≡ code.If n ss ts → u ≡ w ++ all_actions (statements_at tables ss) → v ≡ u ++ all_actions (statements_at tables ts) → v ≡ w ++ actions (statement_at tables s)
    does_if n ss ts u e first second =
        does (branch n (statements_at tables ss) (statements_at tables ts)) (is-If tables (signature_of tables) s n ss ts e)
        (second ∙ ap (λ l. l ++ all_actions (statements_at tables ts)) first ∙ append_assoc w (all_actions (statements_at tables ss)) (all_actions (statements_at tables ts)))

    pub does_loop : (ss ts : List CodePlain) (u : List Action) → s ≡ code.Loop ss ts → u ≡ w ++ all_actions (statements_at tables ss) → v ≡ u ++ all_actions (statements_at tables ts) → v ≡ w ++ actions (statement_at tables s)
    does_loop ss ts u e first second =
        does (loop (statements_at tables ss) (statements_at tables ts)) (is-Loop tables (signature_of tables) s ss ts e)
        (second ∙ ap (λ l. l ++ all_actions (statements_at tables ts)) first ∙ append_assoc w (all_actions (statements_at tables ss)) (all_actions (statements_at tables ts)))

    pub does_switch : (n : ℕ) (ss : List CodePlain) → s ≡ code.Switch n ss → v ≡ w ++ all_actions (statements_at tables ss) → v ≡ w ++ actions (statement_at tables s)
    does_switch n ss e told = does (switch n (statements_at tables ss)) (is-Switch tables (signature_of tables) s n ss e) told

    pub does_parts : (ps : List CodePart) → s ≡ code.Parts ps → v ≡ w ++ part_actions (parts_in_order (map (built_at tables) ps)) → v ≡ w ++ actions (statement_at tables s)
    does_parts ps e told = does (parts (parts_in_order (map (built_at tables) ps))) (is-Parts tables (signature_of tables) s ps e) told

    pub does_case : (z : ℤ) → s ≡ code.Case z → w ≡ w ++ actions (statement_at tables s)
    does_case z e = does_nothing (case_label z) (is-Case tables (signature_of tables) s z e) refl

    pub does_default : s ≡ code.Default → w ≡ w ++ actions (statement_at tables s)
    does_default e = does_nothing (default_label) (is-Default tables (signature_of tables) s e) refl

    pub does_break : s ≡ code.Break → w ≡ w ++ actions (statement_at tables s)
    does_break e = does_nothing (leave) (is-Break tables (signature_of tables) s e) refl

    pub does_continue : s ≡ code.Continue → w ≡ w ++ actions (statement_at tables s)
    does_continue e = does_nothing (continue) (is-Continue tables (signature_of tables) s e) refl

    pub does_return : (o : Option ℕ) → s ≡ code.Return o → w ≡ w ++ actions (statement_at tables s)
    does_return o e = does_nothing (give o) (is-Return tables (signature_of tables) s o e) refl

  -- ---- the registers that it sets

  module _ (r : ℕ) where
    sets_to : (p : Plain) → statement_at tables s ≡ p → r ≡ bound p → r ≡ bound (statement_at tables s)
    sets_to p is e = e ∙ sym (ap bound is)

    pub sets_one : (n : ℕ) (a : CodeAction) → s ≡ code.Set n a → r ≡ n + 1 → r ≡ bound (statement_at tables s)
    sets_one n a e is = sets_to (set n (action_at tables a)) (is-Set tables (signature_of tables) s n a e) (is ∙ (let next : n + 1 ≡ suc n = omega arith in next))

    pub sets_if : (n : ℕ) (ss ts : List CodePlain) (i j : ℕ) → s ≡ code.If n ss ts → i ≡ all_bound (statements_at tables ss) → j ≡ all_bound (statements_at tables ts) → r ≡ max i j → r ≡ bound (statement_at tables s)
    sets_if n ss ts i j e first second is = sets_to (branch n (statements_at tables ss) (statements_at tables ts)) (is-If tables (signature_of tables) s n ss ts e) (is ∙ ap (λ m. max m j) first ∙ ap (max (all_bound (statements_at tables ss))) second)

    pub sets_loop : (ss ts : List CodePlain) (i j : ℕ) → s ≡ code.Loop ss ts → i ≡ all_bound (statements_at tables ss) → j ≡ all_bound (statements_at tables ts) → r ≡ max i j → r ≡ bound (statement_at tables s)
    sets_loop ss ts i j e first second is = sets_to (loop (statements_at tables ss) (statements_at tables ts)) (is-Loop tables (signature_of tables) s ss ts e) (is ∙ ap (λ m. max m j) first ∙ ap (max (all_bound (statements_at tables ss))) second)

    pub sets_switch : (n : ℕ) (ss : List CodePlain) → s ≡ code.Switch n ss → r ≡ all_bound (statements_at tables ss) → r ≡ bound (statement_at tables s)
    sets_switch n ss e is = sets_to (switch n (statements_at tables ss)) (is-Switch tables (signature_of tables) s n ss e) is

    pub sets_parts : (ps : List CodePart) → s ≡ code.Parts ps → r ≡ parts_bound (parts_in_order (map (built_at tables) ps)) → r ≡ bound (statement_at tables s)
    sets_parts ps e is = sets_to (parts (parts_in_order (map (built_at tables) ps))) (is-Parts tables (signature_of tables) s ps e) is

  pub sets_act : (a : CodeAction) → s ≡ code.Act a → 0 ≡ bound (statement_at tables s)
  sets_act a e = sets_to 0 (act (action_at tables a)) (is-Act tables (signature_of tables) s a e) refl

  pub sets_case : (z : ℤ) → s ≡ code.Case z → 0 ≡ bound (statement_at tables s)
  sets_case z e = sets_to 0 (case_label z) (is-Case tables (signature_of tables) s z e) refl

  pub sets_default : s ≡ code.Default → 0 ≡ bound (statement_at tables s)
  sets_default e = sets_to 0 (default_label) (is-Default tables (signature_of tables) s e) refl

  pub sets_break : s ≡ code.Break → 0 ≡ bound (statement_at tables s)
  sets_break e = sets_to 0 (leave) (is-Break tables (signature_of tables) s e) refl

  pub sets_continue : s ≡ code.Continue → 0 ≡ bound (statement_at tables s)
  sets_continue e = sets_to 0 (continue) (is-Continue tables (signature_of tables) s e) refl

  pub sets_return : (o : Option ℕ) → s ≡ code.Return o → 0 ≡ bound (statement_at tables s)
  sets_return o e = sets_to 0 (give o) (is-Return tables (signature_of tables) s o e) refl

  -- ---- how deep loops with a step, and switches, stand in it

  module _ (d : ℕ) where
    stands : (p : Plain) → statement_at tables s ≡ p → d ≡ nesting p → d ≡ nesting (statement_at tables s)
    stands p is e = e ∙ sym (ap nesting is)

    pub stands_if : (n : ℕ) (ss ts : List CodePlain) (i j : ℕ) → s ≡ code.If n ss ts → i ≡ all_nesting (statements_at tables ss) → j ≡ all_nesting (statements_at tables ts) → d ≡ max i j → d ≡ nesting (statement_at tables s)
    stands_if n ss ts i j e first second is = stands (branch n (statements_at tables ss) (statements_at tables ts)) (is-If tables (signature_of tables) s n ss ts e) (is ∙ ap (λ m. max m j) first ∙ ap (max (all_nesting (statements_at tables ss))) second)

    pub stands_loop : (ss ts : List CodePlain) (i j : ℕ) → s ≡ code.Loop ss ts → i ≡ all_nesting (statements_at tables ss) → j ≡ all_nesting (statements_at tables ts)
        → d ≡ loop_nesting ts i j → d ≡ nesting (statement_at tables s)
    stands_loop ss ts i j e first second is =
        stands (loop (statements_at tables ss) (statements_at tables ts)) (is-Loop tables (signature_of tables) s ss ts e)
        (is ∙ ap (λ m. loop_nesting ts m j) first ∙ ap (loop_nesting ts (all_nesting (statements_at tables ss))) second ∙ loop_is tables (statements_at tables ss) ts)

    pub stands_switch : (n : ℕ) (ss : List CodePlain) (i : ℕ) → s ≡ code.Switch n ss → i ≡ all_nesting (statements_at tables ss) → d ≡ i + 1 → d ≡ nesting (statement_at tables s)
    stands_switch n ss i e inner is =
        stands (switch n (statements_at tables ss)) (is-Switch tables (signature_of tables) s n ss e)
        (is ∙ (let next : i + 1 ≡ suc i = omega arith in next) ∙ ap suc inner)

  pub stands_act : (a : CodeAction) → s ≡ code.Act a → 0 ≡ nesting (statement_at tables s)
  stands_act a e = stands 0 (act (action_at tables a)) (is-Act tables (signature_of tables) s a e) refl

  pub stands_set : (n : ℕ) (a : CodeAction) → s ≡ code.Set n a → 0 ≡ nesting (statement_at tables s)
  stands_set n a e = stands 0 (set n (action_at tables a)) (is-Set tables (signature_of tables) s n a e) refl

  pub stands_case : (z : ℤ) → s ≡ code.Case z → 0 ≡ nesting (statement_at tables s)
  stands_case z e = stands 0 (case_label z) (is-Case tables (signature_of tables) s z e) refl

  pub stands_default : s ≡ code.Default → 0 ≡ nesting (statement_at tables s)
  stands_default e = stands 0 (default_label) (is-Default tables (signature_of tables) s e) refl

  pub stands_break : s ≡ code.Break → 0 ≡ nesting (statement_at tables s)
  stands_break e = stands 0 (leave) (is-Break tables (signature_of tables) s e) refl

  pub stands_continue : s ≡ code.Continue → 0 ≡ nesting (statement_at tables s)
  stands_continue e = stands 0 (continue) (is-Continue tables (signature_of tables) s e) refl

  pub stands_return : (o : Option ℕ) → s ≡ code.Return o → 0 ≡ nesting (statement_at tables s)
  stands_return o e = stands 0 (give o) (is-Return tables (signature_of tables) s o e) refl

  pub stands_parts : (ps : List CodePart) → s ≡ code.Parts ps → 0 ≡ nesting (statement_at tables s)
  stands_parts ps e = stands 0 (parts (parts_in_order (map (built_at tables) ps))) (is-Parts tables (signature_of tables) s ps e) refl
