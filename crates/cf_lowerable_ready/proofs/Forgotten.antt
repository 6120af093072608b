-- The step of the loop that forgets what statements set.
use Rattle.std.specs.Prelude.{ℤ, Option}
use Rattle.std.proofs.Common.{◌≡◌, ℕ, ◌+◌, ◌<◌, ◌≤◌, ◌==◌, ◌||◌, List, length, drop, get_or, refl, sym, ap, ◌∙◌}
use Rattle.std.proofs.lemmas.List.{at_drop_all}
use Rattle.cf_plain.specs.declared.action.Action.{Action as CodeAction}
use Rattle.cf_plain.specs.declared.statement.Plain.{Plain as CodePlain}
use Rattle.cf_plain.specs.declared.statement.Plain.TheVariants as code
use Rattle.cf_plain.specs.declared.statement.PlainPart.{PlainPart as CodePart}
use Rattle.cf_core.specs.FromClasses.{signature_of}
use Rattle.cf_plain.specs.Plain.{Plain, Plains}
use Rattle.cf_plain_kept.specs.Kept.{Keeping, nothing_set, sets, all_set, untouched}
use Rattle.cf_lower_held.proofs.Forgotten.{drop_item}
use Rattle.cf_lower_held.proofs.Views.{is-Act, is-Set, is-If, is-Loop, is-Switch, is-Case, is-Default, is-Break, is-Continue, is-Return, is-Parts}
use Rattle.cf_lowerable_ready.specs.declared.scene.Scene.{Scene}
use Rattle.cf_lowerable_ready.specs.Contents.{without}
use Rattle.cf_lowerable_ready.specs.Scenes.{statement_in, statements_in}
use Rattle.cf_lowerable_ready.proofs.Keepings.{without_both}

module _ (x : Scene) where
  pub forget_step : (all : List CodePlain) (i : ℕ) (s : CodePlain) (g h whole : Keeping) → i < length all → s ≡ get_or all i s
      → h ≡ without (λ r. sets r (statement_in x s)) g
      → without (λ r. all_set r (statements_in x (drop i all))) g ≡ whole
      → without (λ r. all_set r (statements_in x (drop (i + 1) all))) h ≡ whole
  forget_step all i s g h whole within is forgot p =
      ap (without (λ r. all_set r (statements_in x (drop (i + 1) all)))) forgot
      ∙ without_both (λ r. all_set r (statements_in x (drop (i + 1) all))) (λ r. sets r (statement_in x s)) g
      ∙ sym (ap (λ l. without (λ r. all_set r (statements_in x l)) g) (drop_item all i s within is)) ∙ p

  -- those of two lists of statements, one after the other
  pub both_forgotten : (first second : Plains) (g h k : Keeping) → h ≡ untouched g first → k ≡ untouched h second
      → k ≡ without (λ r. all_set r first || all_set r second) g
  both_forgotten first second g h k p q =
      q ∙ ap (without (λ r. all_set r second)) p ∙ without_both (λ r. all_set r second) (λ r. all_set r first) g

  -- ---- one statement, by its form

  -- what a statement is in plain data, and what is left where it sets registers
  abbrev Left : CodePlain → Keeping → Keeping
  Left s g = without (λ r. sets r (statement_in x s)) g

  left_at : (s : CodePlain) (p : Plain) (g h : Keeping) → statement_in x s ≡ p → h ≡ without (λ r. sets r p) g → h ≡ Left s g
  left_at s p g h built forgot = forgot ∙ sym (ap (λ q. without (λ r. sets r q) g) built)

  module _ (s : CodePlain) (g : Keeping) where
    pub forgot_act : (a : CodeAction) → s ≡ code.Act a → g ≡ Left s g
    forgot_act a is = left_at s _ g g (is-Act x.tables.now (signature_of x.tables.now) s a is) refl

    pub forgot_case : (z : ℤ) → s ≡ code.Case z → g ≡ Left s g
    forgot_case z is = left_at s _ g g (is-Case x.tables.now (signature_of x.tables.now) s z is) refl

    pub forgot_default : s ≡ code.Default → g ≡ Left s g
    forgot_default is = left_at s _ g g (is-Default x.tables.now (signature_of x.tables.now) s is) refl

    pub forgot_break : s ≡ code.Break → g ≡ Left s g
    forgot_break is = left_at s _ g g (is-Break x.tables.now (signature_of x.tables.now) s is) refl

    pub forgot_continue : s ≡ code.Continue → g ≡ Left s g
    forgot_continue is = left_at s _ g g (is-Continue x.tables.now (signature_of x.tables.now) s is) refl

    pub forgot_return : (o : Option ℕ) → s ≡ code.Return o → g ≡ Left s g
    forgot_return o is = left_at s _ g g (is-Return x.tables.now (signature_of x.tables.now) s o is) refl

    pub forgot_set : (n : ℕ) (a : CodeAction) (h : Keeping) → s ≡ code.Set n a → h ≡ without (λ r. n == r) g → h ≡ Left s g
    forgot_set n a h is forgot = left_at s _ g h (is-Set x.tables.now (signature_of x.tables.now) s n a is) forgot

    pub forgot_if : (n : ℕ) (ss ts : List CodePlain) (h k : Keeping) → s ≡ code.If n ss ts
        → h ≡ untouched g (statements_in x ss) → k ≡ untouched h (statements_in x ts) → k ≡ Left s g
    forgot_if n ss ts h k is first second =
        left_at s _ g k (is-If x.tables.now (signature_of x.tables.now) s n ss ts is)
        (both_forgotten (statements_in x ss) (statements_in x ts) g h k first second)

    pub forgot_loop : (ss ts : List CodePlain) (h k : Keeping) → s ≡ code.Loop ss ts
        → h ≡ untouched g (statements_in x ss) → k ≡ untouched h (statements_in x ts) → k ≡ Left s g
    forgot_loop ss ts h k is first second =
        left_at s _ g k (is-Loop x.tables.now (signature_of x.tables.now) s ss ts is)
        (both_forgotten (statements_in x ss) (statements_in x ts) g h k first second)

    pub forgot_switch : (n : ℕ) (ss : List CodePlain) (h : Keeping) → s ≡ code.Switch n ss → h ≡ untouched g (statements_in x ss) → h ≡ Left s g
    forgot_switch n ss h is forgot = left_at s _ g h (is-Switch x.tables.now (signature_of x.tables.now) s n ss is) forgot

    pub forgot_parts : (ps : List CodePart) (h : Keeping) → s ≡ code.Parts ps → h ≡ nothing_set → h ≡ Left s g
    forgot_parts ps h is forgot = left_at s _ g h (is-Parts x.tables.now (signature_of x.tables.now) s ps is) forgot

  -- ---- behind the last one

  pub all_forgotten : (items all : List CodePlain) (i : ℕ) (g h : Keeping) → items ≡ all → length items ≤ i
      → without (λ r. all_set r (statements_in x (drop i items))) h ≡ without (λ r. all_set r (statements_in x items)) g
      → h ≡ untouched g (statements_in x all)
  all_forgotten items all i g h same past left =
      sym (at_drop_all (λ (l : List CodePlain). without (λ r. all_set r (statements_in x l)) h) items i past) ∙ left
      ∙ ap (λ l. without (λ r. all_set r (statements_in x l)) g) same
