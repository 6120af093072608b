-- What label a statement of code is, by its form.
use Rattle.std.proofs.Common.{◌≡◌, ℕ, List, Option, refl, sym, ap, ◌∙◌}
use Rattle.std.specs.Prelude.{ℤ}
use Rattle.cf_core.specs.FromClasses.{signature_of}
use Rattle.cf_plain.specs.declared.action.Action.{Action as CodeAction}
use Rattle.cf_plain.specs.declared.statement.Plain.{Plain as CodePlain}
use Rattle.cf_plain.specs.declared.statement.Plain.TheVariants as code
use Rattle.cf_plain.specs.declared.statement.PlainPart.{PlainPart as CodePart}
use Rattle.cf_plain.specs.Plain.{Plain}
use Rattle.cf_lower_held.specs.declared.scene.Scene.{Scene}
use Rattle.cf_lower_held.specs.Scenes.{statement_in}
use Rattle.cf_lower_held.proofs.Views.{is-Act, is-Set, is-If, is-Loop, is-Switch, is-Case, is-Default, is-Break, is-Continue, is-Return, is-Parts}
use Rattle.cf_lowerable_places.specs.declared.labels.Label.{Label}
use Rattle.cf_lowerable_places.specs.declared.labels.Label.TheVariants as label
use Rattle.cf_lowerable_places.specs.Labels.{label_in}

module _ (x : Scene) (s : CodePlain) where
  at : (l : Label) (p : Plain) → statement_in x s ≡ p → l ≡ label_in p → l ≡ label_in (statement_in x s)
  at l p e is = is ∙ sym (ap label_in e)

  pub case_is : (z : ℤ) → s ≡ code.Case z → label.Case z ≡ label_in (statement_in x s)
  case_is z e = at _ _ (is-Case x.tables.now (signature_of x.tables.now) s z e) refl

  pub default_is : s ≡ code.Default → label.Default ≡ label_in (statement_in x s)
  default_is e = at _ _ (is-Default x.tables.now (signature_of x.tables.now) s e) refl

  pub no_act : (a : CodeAction) → s ≡ code.Act a → label.No ≡ label_in (statement_in x s)
  no_act a e = at _ _ (is-Act x.tables.now (signature_of x.tables.now) s a e) refl

  pub no_set : (n : ℕ) (a : CodeAction) → s ≡ code.Set n a → label.No ≡ label_in (statement_in x s)
  no_set n a e = at _ _ (is-Set x.tables.now (signature_of x.tables.now) s n a e) refl

  pub no_if : (n : ℕ) (ss ts : List CodePlain) → s ≡ code.If n ss ts → label.No ≡ label_in (statement_in x s)
  no_if n ss ts e = at _ _ (is-If x.tables.now (signature_of x.tables.now) s n ss ts e) refl

  pub no_loop : (ss ts : List CodePlain) → s ≡ code.Loop ss ts → label.No ≡ label_in (statement_in x s)
  no_loop ss ts e = at _ _ (is-Loop x.tables.now (signature_of x.tables.now) s ss ts e) refl

  pub no_switch : (n : ℕ) (ss : List CodePlain) → s ≡ code.Switch n ss → label.No ≡ label_in (statement_in x s)
  no_switch n ss e = at _ _ (is-Switch x.tables.now (signature_of x.tables.now) s n ss e) refl

  pub no_break : s ≡ code.Break → label.No ≡ label_in (statement_in x s)
  no_break e = at _ _ (is-Break x.tables.now (signature_of x.tables.now) s e) refl

  pub no_continue : s ≡ code.Continue → label.No ≡ label_in (statement_in x s)
  no_continue e = at _ _ (is-Continue x.tables.now (signature_of x.tables.now) s e) refl

  pub no_return : (o : Option ℕ) → s ≡ code.Return o → label.No ≡ label_in (statement_in x s)
  no_return o e = at _ _ (is-Return x.tables.now (signature_of x.tables.now) s o e) refl

  pub no_parts : (ps : List CodePart) → s ≡ code.Parts ps → label.No ≡ label_in (statement_in x s)
  no_parts ps e = at _ _ (is-Parts x.tables.now (signature_of x.tables.now) s ps e) refl
