-- What is written for a statement of code and what registers hold behind it, by its form.
use Rattle.std.proofs.Common.{◌≡◌, ℕ, List, [], ◌∷◌, ◌++◌, map, Option, Some, None, refl, sym, ap, ◌∙◌, append-nil}
use Rattle.std.specs.Prelude.{ℤ}
use Rattle.cc_whole.specs.declared.types.CConstant.TheVariants as constants
use Rattle.cc_whole.specs.Plain.{Statement, SwitchItem, label, default_label as a_default}
use Rattle.cf_base.specs.declared.kind.Kind.TheVariants.{Int}
use Rattle.cf_base.specs.Integers.{convert}
use Rattle.cf_core.specs.FromClasses.{signature_of}
use Rattle.cf_plain.specs.declared.action.Action.{Action as CodeAction}
use Rattle.cf_plain.specs.declared.statement.Plain.{Plain as CodePlain}
use Rattle.cf_plain.specs.declared.statement.PlainPart.{PlainPart as CodePart}
use Rattle.cf_plain.specs.declared.statement.Plain.TheVariants as code
use Rattle.cf_plain.specs.Plain.{Plain, act, set, branch, loop, switch, case_label, default_label, leave, continue, give, parts}
use Rattle.cf_plain.specs.View.{parts_in_order}
use Rattle.cf_lower.specs.Kept.{Keeping, after, after_all, common, keep, kept_by, nothing_kept, untouched}
use Rattle.cf_lower.specs.Statements.{Inside, all_lowered, block, done, kept, lowered}
use Rattle.cf_lower_held.specs.declared.registers.Registers.{Registers}
use Rattle.cf_lower_held.specs.declared.scene.Scene.{Scene}
use Rattle.cf_lower_held.specs.Holds.{erasing}
use Rattle.cf_lower_held.specs.Scenes.{action_in, built_in, holding, locals_in, statement_in, statements_in}
use Rattle.cf_lower_held.proofs.Views.{is-Act, is-Set, is-If, is-Loop, is-Switch, is-Case, is-Default, is-Break, is-Continue, is-Return, is-Parts}
use Rattle.cf_lower_stmt.specs.Steps.{branched, label_in}
use Rattle.cf_lower_stmt.proofs.Walks.{as_erased}

module _ (x : Scene) (s : CodePlain) where
  -- ---- what is written

  module _ (i : Inside) (g : Keeping) (w v : List Statement) where
    at_form : (p : Plain) → statement_in x s ≡ p → v ≡ w ++ lowered p i g → v ≡ w ++ lowered (statement_in x s) i g
    at_form p e written = written ∙ sym (ap (λ q. w ++ lowered q i g) e)

    nothing_at : (p : Plain) → statement_in x s ≡ p → lowered p i g ≡ [] → w ≡ w ++ lowered (statement_in x s) i g
    nothing_at p e none = sym (append-nil w) ∙ sym (ap (λ l. w ++ l) (ap (λ q. lowered q i g) e ∙ none))

    pub written_act : (a : CodeAction) → s ≡ (code.Act a) → v ≡ w ++ done i g (action_in x a) → v ≡ w ++ lowered (statement_in x s) i g
    written_act a e written = at_form (act (action_in x a)) (is-Act x.tables.now (signature_of x.tables.now) s a e) written

    pub written_set : (n : ℕ) (a : CodeAction) → s ≡ (code.Set n a) → v ≡ w ++ kept i g n (action_in x a) → v ≡ w ++ lowered (statement_in x s) i g
    written_set n a e written = at_form (set n (action_in x a)) (is-Set x.tables.now (signature_of x.tables.now) s n a e) written

    pub written_if : (n : ℕ) (ss ts : List CodePlain) → s ≡ (code.If n ss ts) → v ≡ w ++ branched n (block (all_lowered (statements_in x ss) i g)) (block (all_lowered (statements_in x ts) i g)) ∷ [] → v ≡ w ++ lowered (statement_in x s) i g
    written_if n ss ts e written = at_form (branch n (statements_in x ss) (statements_in x ts)) (is-If x.tables.now (signature_of x.tables.now) s n ss ts e) written

    pub written_loop : (ss ts : List CodePlain) → s ≡ (code.Loop ss ts) → v ≡ w ++ lowered (loop (statements_in x ss) (statements_in x ts)) i g → v ≡ w ++ lowered (statement_in x s) i g
    written_loop ss ts e written = at_form (loop (statements_in x ss) (statements_in x ts)) (is-Loop x.tables.now (signature_of x.tables.now) s ss ts e) written

    pub written_switch : (n : ℕ) (ss : List CodePlain) → s ≡ (code.Switch n ss) → v ≡ w ++ lowered (switch n (statements_in x ss)) i g → v ≡ w ++ lowered (statement_in x s) i g
    written_switch n ss e written = at_form (switch n (statements_in x ss)) (is-Switch x.tables.now (signature_of x.tables.now) s n ss e) written

    pub nothing_case : (z : ℤ) → s ≡ (code.Case z) → w ≡ w ++ lowered (statement_in x s) i g
    nothing_case z e = nothing_at (case_label z) (is-Case x.tables.now (signature_of x.tables.now) s z e) refl

    pub nothing_default : s ≡ code.Default → w ≡ w ++ lowered (statement_in x s) i g
    nothing_default e = nothing_at (default_label) (is-Default x.tables.now (signature_of x.tables.now) s e) refl

    pub written_break : s ≡ code.Break → v ≡ w ++ i.leaving → v ≡ w ++ lowered (statement_in x s) i g
    written_break e written = at_form (leave) (is-Break x.tables.now (signature_of x.tables.now) s e) written

    pub written_continue : s ≡ code.Continue → v ≡ w ++ i.going_on → v ≡ w ++ lowered (statement_in x s) i g
    written_continue e written = at_form (continue) (is-Continue x.tables.now (signature_of x.tables.now) s e) written

    pub written_return : (o : Option ℕ) → s ≡ (code.Return o) → v ≡ w ++ lowered (give o) i g → v ≡ w ++ lowered (statement_in x s) i g
    written_return o e written = at_form (give o) (is-Return x.tables.now (signature_of x.tables.now) s o e) written

    pub nothing_parts : (ps : List CodePart) → s ≡ (code.Parts ps) → w ≡ w ++ lowered (statement_in x s) i g
    nothing_parts ps e = nothing_at (parts (parts_in_order (map (built_in x) ps))) (is-Parts x.tables.now (signature_of x.tables.now) s ps e) refl

  -- ---- what registers hold behind it

  module _ (rs : Registers) (g : Keeping) where
    behind_form : (p : Plain) → statement_in x s ≡ p → holding x rs ≡ erasing (after (locals_in x) p g) → holding x rs ≡ erasing (after (locals_in x) (statement_in x s) g)
    behind_form p e held = held ∙ sym (ap (λ q. erasing (after (locals_in x) q g)) e)

    pub behind_set : (n : ℕ) (a : CodeAction) → s ≡ code.Set n a → holding x rs ≡ erasing (keep g n (kept_by (locals_in x) g (action_in x a)))
        → holding x rs ≡ erasing (after (locals_in x) (statement_in x s) g)
    behind_set n a e held = behind_form (set n (action_in x a)) (is-Set x.tables.now (signature_of x.tables.now) s n a e) held

    pub behind_if : (n : ℕ) (ss ts : List CodePlain) → s ≡ code.If n ss ts
        → holding x rs ≡ erasing (common (after_all (locals_in x) (statements_in x ss) g) (after_all (locals_in x) (statements_in x ts) g))
        → holding x rs ≡ erasing (after (locals_in x) (statement_in x s) g)
    behind_if n ss ts e held = behind_form (branch n (statements_in x ss) (statements_in x ts)) (is-If x.tables.now (signature_of x.tables.now) s n ss ts e) held

    pub behind_loop : (ss ts : List CodePlain) → s ≡ code.Loop ss ts → holding x rs ≡ untouched (locals_in x) (untouched (locals_in x) g (statements_in x ss)) (statements_in x ts)
        → holding x rs ≡ erasing (after (locals_in x) (statement_in x s) g)
    behind_loop ss ts e held = behind_form (loop (statements_in x ss) (statements_in x ts)) (is-Loop x.tables.now (signature_of x.tables.now) s ss ts e) (as_erased x rs _ held)

    pub behind_switch : (n : ℕ) (ss : List CodePlain) → s ≡ code.Switch n ss → holding x rs ≡ untouched (locals_in x) g (statements_in x ss)
        → holding x rs ≡ erasing (after (locals_in x) (statement_in x s) g)
    behind_switch n ss e held = behind_form (switch n (statements_in x ss)) (is-Switch x.tables.now (signature_of x.tables.now) s n ss e) (as_erased x rs _ held)

    pub behind_parts : (ps : List CodePart) → s ≡ code.Parts ps → holding x rs ≡ nothing_kept → holding x rs ≡ erasing (after (locals_in x) (statement_in x s) g)
    behind_parts ps e held = behind_form (parts (parts_in_order (map (built_in x) ps))) (is-Parts x.tables.now (signature_of x.tables.now) s ps e) (as_erased x rs nothing_kept held)

  module _ (rs : Registers) where
    same_behind : (p : Plain) → statement_in x s ≡ p → after (locals_in x) p (holding x rs) ≡ holding x rs → holding x rs ≡ erasing (after (locals_in x) (statement_in x s) (holding x rs))
    same_behind p e same = behind_form rs (holding x rs) p e (as_erased x rs (after (locals_in x) p (holding x rs)) (sym same))

    pub behind_act : (a : CodeAction) → s ≡ (code.Act a) → holding x rs ≡ erasing (after (locals_in x) (statement_in x s) (holding x rs))
    behind_act a e = same_behind (act (action_in x a)) (is-Act x.tables.now (signature_of x.tables.now) s a e) refl

    pub behind_case : (z : ℤ) → s ≡ (code.Case z) → holding x rs ≡ erasing (after (locals_in x) (statement_in x s) (holding x rs))
    behind_case z e = same_behind (case_label z) (is-Case x.tables.now (signature_of x.tables.now) s z e) refl

    pub behind_default : s ≡ code.Default → holding x rs ≡ erasing (after (locals_in x) (statement_in x s) (holding x rs))
    behind_default e = same_behind (default_label) (is-Default x.tables.now (signature_of x.tables.now) s e) refl

    pub behind_break : s ≡ code.Break → holding x rs ≡ erasing (after (locals_in x) (statement_in x s) (holding x rs))
    behind_break e = same_behind (leave) (is-Break x.tables.now (signature_of x.tables.now) s e) refl

    pub behind_continue : s ≡ code.Continue → holding x rs ≡ erasing (after (locals_in x) (statement_in x s) (holding x rs))
    behind_continue e = same_behind (continue) (is-Continue x.tables.now (signature_of x.tables.now) s e) refl

    pub behind_return : (o : Option ℕ) → s ≡ (code.Return o) → holding x rs ≡ erasing (after (locals_in x) (statement_in x s) (holding x rs))
    behind_return o e = same_behind (give o) (is-Return x.tables.now (signature_of x.tables.now) s o e) refl

  -- ---- the label that it is

  labelled_form : (o : Option SwitchItem) (p : Plain) → statement_in x s ≡ p → o ≡ label_in p → o ≡ label_in (statement_in x s)
  labelled_form o p e is = is ∙ sym (ap label_in e)

  pub no_label_act : (a : CodeAction) → s ≡ (code.Act a) → None ≡ label_in (statement_in x s)
  no_label_act a e = labelled_form None (act (action_in x a)) (is-Act x.tables.now (signature_of x.tables.now) s a e) refl

  pub no_label_set : (n : ℕ) (a : CodeAction) → s ≡ (code.Set n a) → None ≡ label_in (statement_in x s)
  no_label_set n a e = labelled_form None (set n (action_in x a)) (is-Set x.tables.now (signature_of x.tables.now) s n a e) refl

  pub no_label_if : (n : ℕ) (ss ts : List CodePlain) → s ≡ (code.If n ss ts) → None ≡ label_in (statement_in x s)
  no_label_if n ss ts e = labelled_form None (branch n (statements_in x ss) (statements_in x ts)) (is-If x.tables.now (signature_of x.tables.now) s n ss ts e) refl

  pub no_label_loop : (ss ts : List CodePlain) → s ≡ (code.Loop ss ts) → None ≡ label_in (statement_in x s)
  no_label_loop ss ts e = labelled_form None (loop (statements_in x ss) (statements_in x ts)) (is-Loop x.tables.now (signature_of x.tables.now) s ss ts e) refl

  pub no_label_switch : (n : ℕ) (ss : List CodePlain) → s ≡ (code.Switch n ss) → None ≡ label_in (statement_in x s)
  no_label_switch n ss e = labelled_form None (switch n (statements_in x ss)) (is-Switch x.tables.now (signature_of x.tables.now) s n ss e) refl

  pub label_case : (z : ℤ) (l : SwitchItem) → s ≡ code.Case z → l ≡ label (constants.Signed (convert Int z)) → Some l ≡ label_in (statement_in x s)
  label_case z l e is = labelled_form (Some l) (case_label z) (is-Case x.tables.now (signature_of x.tables.now) s z e) (ap Some is)

  pub label_default : s ≡ code.Default → Some a_default ≡ label_in (statement_in x s)
  label_default e = labelled_form (Some a_default) default_label (is-Default x.tables.now (signature_of x.tables.now) s e) refl

  pub no_label_break : s ≡ code.Break → None ≡ label_in (statement_in x s)
  no_label_break e = labelled_form None (leave) (is-Break x.tables.now (signature_of x.tables.now) s e) refl

  pub no_label_continue : s ≡ code.Continue → None ≡ label_in (statement_in x s)
  no_label_continue e = labelled_form None (continue) (is-Continue x.tables.now (signature_of x.tables.now) s e) refl

  pub no_label_return : (o : Option ℕ) → s ≡ (code.Return o) → None ≡ label_in (statement_in x s)
  no_label_return o e = labelled_form None (give o) (is-Return x.tables.now (signature_of x.tables.now) s o e) refl

  pub no_label_parts : (ps : List CodePart) → s ≡ (code.Parts ps) → None ≡ label_in (statement_in x s)
  no_label_parts ps e = labelled_form None (parts (parts_in_order (map (built_in x) ps))) (is-Parts x.tables.now (signature_of x.tables.now) s ps e) refl
