-- What is stored for a statement of an initialiser and what is known behind it, by its form.
use Rattle.std.proofs.Common.{◌≡◌, ℕ, List, [], ◌++◌, map, Option, refl, sym, ap, ◌∙◌, append-nil}
use Rattle.std.specs.Prelude.{ℤ}
use Rattle.cc_whole.specs.Plain.{Statement}
use Rattle.cf_core.specs.FromClasses.{signature_of}
use Rattle.cf_plain.specs.declared.action.Action.{Action as CodeAction}
use Rattle.cf_plain.specs.declared.statement.Plain.{Plain as CodePlain}
use Rattle.cf_plain.specs.declared.statement.Plain.TheVariants as code
use Rattle.cf_plain.specs.declared.statement.PlainPart.{PlainPart as CodePart, fold-PlainPart}
use Rattle.cf_plain.specs.Plain.{Register, Plain, act, set, branch, loop, switch, case_label, default_label, leave, continue, give, parts}
use Rattle.cf_plain.specs.View.{Built, parts_in_order, part_step, plain_step}
use Rattle.cf_lower.specs.Constants.{Known, constant_done, constant_stores, know, known_after, known_by}
use Rattle.cf_lower_held.proofs.Views.{is-Act, is-Set, is-If, is-Loop, is-Switch, is-Case, is-Default, is-Break, is-Continue, is-Return, is-Parts}
use Rattle.cf_lower_types.specs.Bare.{classes_of}
use Rattle.cf_lower_constants.specs.declared.site.Site.{Site}
use Rattle.cf_lower_constants.specs.Sites.{action_at, statement_at, statements_at}

module _ (x : Site) (s : CodePlain) (g : Register → Known) where
  abbrev stores : Plain → List Statement
  stores p = constant_stores (classes_of x.tables.now) p x.owner.now g

  abbrev behind : Plain → Register → Known
  behind p = known_after (classes_of x.tables.now) p x.owner.now g

  -- ---- what is stored

  module _ (w v : List Statement) where
    stored : (p : Plain) → statement_at x s ≡ p → v ≡ w ++ stores p → v ≡ w ++ stores (statement_at x s)
    stored p is e = e ∙ sym (ap (λ q. w ++ stores q) is)

    nothing_stored : (p : Plain) → statement_at x s ≡ p → stores p ≡ [] → w ≡ w ++ stores (statement_at x s)
    nothing_stored p is none = sym (append-nil w) ∙ sym (ap (λ l. w ++ l) (ap stores is ∙ none))

    pub stored_act : (a : CodeAction) → s ≡ code.Act a → v ≡ w ++ constant_done (classes_of x.tables.now) g (action_at x a) → v ≡ w ++ stores (statement_at x s)
    stored_act a e made = stored (act (action_at x a)) (is-Act x.tables.now (signature_of x.tables.now) s a e) made

    pub stored_if : (n : ℕ) (ss ts : List CodePlain) → s ≡ code.If n ss ts → v ≡ w ++ stores (branch n (statements_at x ss) (statements_at x ts))
        → v ≡ w ++ stores (statement_at x s)
    stored_if n ss ts e made = stored (branch n (statements_at x ss) (statements_at x ts)) (is-If x.tables.now (signature_of x.tables.now) s n ss ts e) made

    pub stored_set : (n : ℕ) (a : CodeAction) → s ≡ code.Set n a → w ≡ w ++ stores (statement_at x s)
    stored_set n a e = nothing_stored (set n (action_at x a)) (is-Set x.tables.now (signature_of x.tables.now) s n a e) refl

    pub stored_loop : (ss ts : List CodePlain) → s ≡ code.Loop ss ts → w ≡ w ++ stores (statement_at x s)
    stored_loop ss ts e = nothing_stored (loop (statements_at x ss) (statements_at x ts)) (is-Loop x.tables.now (signature_of x.tables.now) s ss ts e) refl

    pub stored_switch : (n : ℕ) (ss : List CodePlain) → s ≡ code.Switch n ss → w ≡ w ++ stores (statement_at x s)
    stored_switch n ss e = nothing_stored (switch n (statements_at x ss)) (is-Switch x.tables.now (signature_of x.tables.now) s n ss e) refl

    pub stored_case : (z : ℤ) → s ≡ code.Case z → w ≡ w ++ stores (statement_at x s)
    stored_case z e = nothing_stored (case_label z) (is-Case x.tables.now (signature_of x.tables.now) s z e) refl

    pub stored_default : s ≡ code.Default → w ≡ w ++ stores (statement_at x s)
    stored_default e = nothing_stored (default_label) (is-Default x.tables.now (signature_of x.tables.now) s e) refl

    pub stored_break : s ≡ code.Break → w ≡ w ++ stores (statement_at x s)
    stored_break e = nothing_stored (leave) (is-Break x.tables.now (signature_of x.tables.now) s e) refl

    pub stored_continue : s ≡ code.Continue → w ≡ w ++ stores (statement_at x s)
    stored_continue e = nothing_stored (continue) (is-Continue x.tables.now (signature_of x.tables.now) s e) refl

    pub stored_return : (o : Option ℕ) → s ≡ code.Return o → w ≡ w ++ stores (statement_at x s)
    stored_return o e = nothing_stored (give o) (is-Return x.tables.now (signature_of x.tables.now) s o e) refl

    pub stored_parts : (ps : List CodePart) → s ≡ code.Parts ps → w ≡ w ++ stores (statement_at x s)
    stored_parts ps e = nothing_stored (parts (parts_in_order (map (fold-PlainPart Plain Built (plain_step x.tables.now (signature_of x.tables.now)) (part_step x.tables.now (signature_of x.tables.now))) ps))) (is-Parts x.tables.now (signature_of x.tables.now) s ps e) refl

  -- ---- what is known behind it

  module _ (h : Register → Known) where
    known : (p : Plain) → statement_at x s ≡ p → h ≡ behind p → h ≡ behind (statement_at x s)
    known p is e = e ∙ sym (ap behind is)

    pub known_set : (n : ℕ) (a : CodeAction) → s ≡ code.Set n a → h ≡ know g n (known_by (classes_of x.tables.now) x.owner.now g (action_at x a)) → h ≡ behind (statement_at x s)
    known_set n a e made = known (set n (action_at x a)) (is-Set x.tables.now (signature_of x.tables.now) s n a e) made

    pub known_if : (n : ℕ) (ss ts : List CodePlain) → s ≡ code.If n ss ts → h ≡ behind (branch n (statements_at x ss) (statements_at x ts)) → h ≡ behind (statement_at x s)
    known_if n ss ts e made = known (branch n (statements_at x ss) (statements_at x ts)) (is-If x.tables.now (signature_of x.tables.now) s n ss ts e) made

  pub known_act : (a : CodeAction) → s ≡ code.Act a → g ≡ behind (statement_at x s)
  known_act a e = known g (act (action_at x a)) (is-Act x.tables.now (signature_of x.tables.now) s a e) refl

  pub known_loop : (ss ts : List CodePlain) → s ≡ code.Loop ss ts → g ≡ behind (statement_at x s)
  known_loop ss ts e = known g (loop (statements_at x ss) (statements_at x ts)) (is-Loop x.tables.now (signature_of x.tables.now) s ss ts e) refl

  pub known_switch : (n : ℕ) (ss : List CodePlain) → s ≡ code.Switch n ss → g ≡ behind (statement_at x s)
  known_switch n ss e = known g (switch n (statements_at x ss)) (is-Switch x.tables.now (signature_of x.tables.now) s n ss e) refl

  pub known_case : (z : ℤ) → s ≡ code.Case z → g ≡ behind (statement_at x s)
  known_case z e = known g (case_label z) (is-Case x.tables.now (signature_of x.tables.now) s z e) refl

  pub known_default : s ≡ code.Default → g ≡ behind (statement_at x s)
  known_default e = known g (default_label) (is-Default x.tables.now (signature_of x.tables.now) s e) refl

  pub known_break : s ≡ code.Break → g ≡ behind (statement_at x s)
  known_break e = known g (leave) (is-Break x.tables.now (signature_of x.tables.now) s e) refl

  pub known_continue : s ≡ code.Continue → g ≡ behind (statement_at x s)
  known_continue e = known g (continue) (is-Continue x.tables.now (signature_of x.tables.now) s e) refl

  pub known_return : (o : Option ℕ) → s ≡ code.Return o → g ≡ behind (statement_at x s)
  known_return o e = known g (give o) (is-Return x.tables.now (signature_of x.tables.now) s o e) refl

  pub known_parts : (ps : List CodePart) → s ≡ code.Parts ps → g ≡ behind (statement_at x s)
  known_parts ps e = known g (parts (parts_in_order (map (fold-PlainPart Plain Built (plain_step x.tables.now (signature_of x.tables.now)) (part_step x.tables.now (signature_of x.tables.now))) ps))) (is-Parts x.tables.now (signature_of x.tables.now) s ps e) refl
