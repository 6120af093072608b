-- What is told of a statement by its form.
use Rattle.std.proofs.Common.{◌≡◌, ℕ, List, sym, ap, ◌∙◌}
use Rattle.std.specs.Prelude.{ℤ, Option}
use Rattle.cf_core.specs.FromClasses.{signature_of}
use Rattle.cf_plain.specs.declared.action.Action.{Action as CodeAction}
use Rattle.cf_plain.specs.declared.statement.Plain.{Plain as CodePlain}
use Rattle.cf_plain.specs.declared.statement.Plain.TheVariants as code
use Rattle.cf_plain.specs.declared.statement.PlainPart.{PlainPart as CodePart}
use Rattle.cf_plain.specs.Plain as plain
use Rattle.cf_plain.specs.Plain.{Plain}
use Rattle.cf_plain.specs.View.{parts_in_order}
use Rattle.std.proofs.Common.{map}
use Rattle.cf_lower_held.proofs.Views.{is-Act, is-Set, is-If, is-Loop, is-Switch, is-Case, is-Default, is-Break, is-Continue, is-Return, is-Parts}
use Rattle.cf_lowerable_open.specs.declared.scene.Scene.{Scene}
use Rattle.cf_lowerable_open.specs.Views.{tables_in, statement_in, statements_in, action_in, built_in}

module _ {A : Type 0} (x : Scene) (s : CodePlain) (f : Plain → A) (y : A) where
  pub when_act : (a : CodeAction) → s ≡ code.Act a → y ≡ f (plain.act (action_in x a)) → y ≡ f (statement_in x s)
  when_act a is e = e ∙ sym (ap f (is-Act (tables_in x) (signature_of (tables_in x)) s a is))

  pub when_set : (r : ℕ) (a : CodeAction) → s ≡ code.Set r a → y ≡ f (plain.set r (action_in x a)) → y ≡ f (statement_in x s)
  when_set r a is e = e ∙ sym (ap f (is-Set (tables_in x) (signature_of (tables_in x)) s r a is))

  pub when_if : (r : ℕ) (ss ts : List CodePlain) → s ≡ code.If r ss ts → y ≡ f (plain.branch r (statements_in x ss) (statements_in x ts)) → y ≡ f (statement_in x s)
  when_if r ss ts is e = e ∙ sym (ap f (is-If (tables_in x) (signature_of (tables_in x)) s r ss ts is))

  pub when_loop : (ss ts : List CodePlain) → s ≡ code.Loop ss ts → y ≡ f (plain.loop (statements_in x ss) (statements_in x ts)) → y ≡ f (statement_in x s)
  when_loop ss ts is e = e ∙ sym (ap f (is-Loop (tables_in x) (signature_of (tables_in x)) s ss ts is))

  pub when_switch : (r : ℕ) (ss : List CodePlain) → s ≡ code.Switch r ss → y ≡ f (plain.switch r (statements_in x ss)) → y ≡ f (statement_in x s)
  when_switch r ss is e = e ∙ sym (ap f (is-Switch (tables_in x) (signature_of (tables_in x)) s r ss is))

  pub when_case : (z : ℤ) → s ≡ code.Case z → y ≡ f (plain.case_label z) → y ≡ f (statement_in x s)
  when_case z is e = e ∙ sym (ap f (is-Case (tables_in x) (signature_of (tables_in x)) s z is))

  pub when_default : s ≡ code.Default → y ≡ f plain.default_label → y ≡ f (statement_in x s)
  when_default is e = e ∙ sym (ap f (is-Default (tables_in x) (signature_of (tables_in x)) s is))

  pub when_break : s ≡ code.Break → y ≡ f plain.leave → y ≡ f (statement_in x s)
  when_break is e = e ∙ sym (ap f (is-Break (tables_in x) (signature_of (tables_in x)) s is))

  pub when_continue : s ≡ code.Continue → y ≡ f plain.continue → y ≡ f (statement_in x s)
  when_continue is e = e ∙ sym (ap f (is-Continue (tables_in x) (signature_of (tables_in x)) s is))

  pub when_return : (r : Option ℕ) → s ≡ code.Return r → y ≡ f (plain.give r) → y ≡ f (statement_in x s)
  when_return r is e = e ∙ sym (ap f (is-Return (tables_in x) (signature_of (tables_in x)) s r is))

  pub when_parts : (ps : List CodePart) → s ≡ code.Parts ps → y ≡ f (plain.parts (parts_in_order (map (built_in x) ps))) → y ≡ f (statement_in x s)
  when_parts ps is e = e ∙ sym (ap f (is-Parts (tables_in x) (signature_of (tables_in x)) s ps is))
