-- Nor does what `fits` says of a statement of built forms.
use Rattle.std.proofs.Common.{◌≡◌, ℕ, ℤ, List, Bool, true, false, ◌&&◌, ◌||◌, not, nat_le, ap, ap₂, refl, sym, ◌∙◌}
use Rattle.std.specs.Prelude.{slice_get, int_le}
use Rattle.cf_base.proofs.Tests.{both}
use Rattle.cf_core.specs.Types.{Name, SourceType}
use Rattle.cf_core.specs.Core as core
use Rattle.cf_core.specs.Core.{Core, Cores, MaybeCore, Static, none, absent, given}
use Rattle.cf_core.specs.Joined.{renamed, renamed_all, renamed_maybe}
use Rattle.cf_core.specs.Statements.{has_case, has_default}
use Rattle.cf_core.specs.Typing.{is_integer, is_condition, is_expression, same_type}
use Rattle.cf_core.specs.Typed.{typing}
use Rattle.cf_core.specs.Valid.{Body, is_complete, is_label, has_label, labels_differ, initialises_local, any_initialises, passes_none, condition_fits, expression_fits, fits, fits_maybe, all_fit, labelled_fit}
use Rattle.cf_sequence.specs.Built as built
use Rattle.cf_sequence.specs.Built.{is_value, is_element, is_held, next_local, is_statement, is_statement_or, are_cases, are_statements}
use Rattle.cf_file_sound.proofs.Typed.{never, among, same-value, same-element, same-held}

module _ (r : Name → Name) where
  -- ---- labels

  pub same-label : (s : Core) → is_label (renamed r s) ≡ is_label s
  same-label core.default_label = refl
  same-label s = refl

  same-has-label : (es : Cores) → has_label (renamed_all r es) ≡ has_label es
  same-has-label none = refl
  same-has-label (core.more s es) = ap₂ (λ x y. x || y) (same-label s) (same-has-label es)

  same-has-case : (z : ℤ) (es : Cores) → has_case z (renamed_all r es) ≡ has_case z es
  same-has-case z none = refl
  same-has-case z (core.more (core.case_label y) es) = ap (λ b. (int_le y z && int_le z y) || b) (same-has-case z es)
  same-has-case z (core.more s es) = same-has-case z es

  same-has-default : (es : Cores) → has_default (renamed_all r es) ≡ has_default es
  same-has-default none = refl
  same-has-default (core.more core.default_label es) = refl
  same-has-default (core.more s es) = same-has-default es

  same-labels : (es : Cores) → labels_differ (renamed_all r es) ≡ labels_differ es
  same-labels none = refl
  same-labels (core.more (core.case_label z) es) = ap₂ (λ x y. not x && y) (same-has-case z es) (same-labels es)
  same-labels (core.more core.default_label es) = ap₂ (λ x y. not x && y) (same-has-default es) (same-labels es)
  same-labels (core.more s es) = same-labels es

  same-begun : (i : ℕ) (t : SourceType) (e : Core) → initialises_local (core.declare i t (renamed r e)) ≡ initialises_local (core.declare i t e)
  same-begun i t core.blank = refl
  same-begun i t e = refl

  mutual
    same-initialises : (s : Core) → initialises_local (renamed r s) ≡ initialises_local s
    same-initialises (core.declare i t e) = same-begun i t e
    same-initialises (core.sequence es) = same-any-initialises es
    same-initialises s = refl

    same-any-initialises : (es : Cores) → any_initialises (renamed_all r es) ≡ any_initialises es
    same-any-initialises none = refl
    same-any-initialises (core.more s es) = ap₂ (λ x y. x || y) (same-initialises s) (same-any-initialises es)

  same-passes : (es : Cores) → passes_none (renamed_all r es) ≡ passes_none es
  same-passes none = refl
  same-passes (core.more s es) = ap₂ (λ x y. not x && y) (ap₂ (λ x y. x && y) (same-initialises s) (same-has-label es)) (same-passes es)

  -- ---- statements

  module _ (f : Body) (objects : List Static) where
    -- the same body among objects of other names
    abbrev pub there : Body
    there = record f { scope = among f.scope objects }

    same-typing : (e : Core) → is_value e ≡ true → typing there.scope (renamed r e) ≡ typing f.scope e
    same-typing e ok = same-value r f.scope objects e ok

    same-begins : (i : ℕ) (t : SourceType) (e : Core) (b : Bool) → is_element t e ≡ b → b || is_held i e ≡ true → typing there.scope (renamed r e) ≡ typing f.scope e
    same-begins i t e true is ok = same-element r f.scope objects t e is
    same-begins i t e false is ok = same-held r f.scope objects i e ok

    same-condition : (e : MaybeCore) → built.is_condition e ≡ true → condition_fits there (renamed_maybe r e) ≡ condition_fits f e
    same-condition absent ok = refl
    same-condition (given e) ok = ap is_condition (same-typing e ok)

    same-expression : (e : MaybeCore) → built.is_condition e ≡ true → expression_fits there (renamed_maybe r e) ≡ expression_fits f e
    same-expression absent ok = refl
    same-expression (given e) ok = ap is_expression (same-typing e ok)

    same-full : (b c : Bool) (e : Core) → built.is_start e ≡ true → fits there b c (core.full (renamed r e)) ≡ fits f b c (core.full e)
    same-full b c core.blank ok = refl
    same-full b c e ok = ap is_expression (same-typing e ok)

    mutual
      pub same-fits : (m : ℕ) (b c : Bool) (s : Core) → is_statement m s ≡ true → fits there b c (renamed r s) ≡ fits f b c s
      same-fits m b c (core.full e) ok = same-full b c e ok
      same-fits m b c (core.block es) ok = same-all m b c es ok
      same-fits m b c (core.sequence es) ok = same-all m b c es ok
      same-fits m b c (core.declare i t e) ok =
          ap (λ x. nat_le f.parameters i && same_type (slice_get f.scope.locals i) t && is_complete f.scope.classes t && x.start t)
          (same-begins i t e (is_element t e) refl (both (nat_le m i) (is_element t e || is_held i e) ok).1)
      same-fits m b c (core.branch x s o) ok =
          let p = both (is_value x) (is_statement m s && is_statement_or (next_local m s) o) ok in
          let q = both (is_statement m s) (is_statement_or (next_local m s) o) p.1 in
          ap₂ (λ u v. u && v) (ap₂ (λ u v. u && v) (ap is_condition (same-typing x p.0)) (same-fits m b c s q.0)) (same-or (next_local m s) b c o q.1)
      same-fits m b c (core.loop how x e s) ok =
          let p = both (built.is_condition x) (built.is_condition e && is_statement m s) ok in
          let q = both (built.is_condition e) (is_statement m s) p.1 in
          ap₂ (λ u v. u && v) (ap₂ (λ u v. u && v) (same-condition x p.0) (same-expression e q.0)) (same-fits m true true s q.1)
      same-fits m b c (core.switch e es) ok =
          let p = both (is_value e) (are_cases m es) ok in
          ap₂ (λ u v. u && v) (ap₂ (λ u v. u && v) (ap₂ (λ u v. u && v) (ap is_integer (same-typing e p.0)) (same-labels es)) (same-passes es)) (same-labelled m true c es p.1)
      same-fits m b c core.leave ok = refl
      same-fits m b c core.continue ok = refl
      same-fits m b c (core.give absent) ok = refl
      same-fits m b c (core.give (given e)) ok = ap (λ x. x.start f.result) (same-typing e ok)
      same-fits m b c s ok = never ok

      same-or : (m : ℕ) (b c : Bool) (s : MaybeCore) → is_statement_or m s ≡ true → fits_maybe there b c (renamed_maybe r s) ≡ fits_maybe f b c s
      same-or m b c absent ok = refl
      same-or m b c (given s) ok = same-fits m b c s ok

      same-all : (m : ℕ) (b c : Bool) (es : Cores) → are_statements m es ≡ true → all_fit there b c (renamed_all r es) ≡ all_fit f b c es
      same-all m b c none ok = refl
      same-all m b c (core.more s es) ok =
          let p = both (is_statement m s) (are_statements (next_local m s) es) ok in
          ap₂ (λ u v. u && v) (same-fits m b c s p.0) (same-all (next_local m s) b c es p.1)

      same-labelled : (m : ℕ) (b c : Bool) (es : Cores) → are_cases m es ≡ true → labelled_fit there b c (renamed_all r es) ≡ labelled_fit f b c es
      same-labelled m b c none ok = refl
      same-labelled m b c (core.more s es) ok =
          let p = both (is_label s || is_statement m s) (are_cases (next_local m s) es) ok in
          ap₂ (λ u v. u && v) (by-label s (fits there b c (renamed r s)) (fits f b c s) (is_label s) refl p.0 (same-fits m b c s)) (same-labelled (next_local m s) b c es p.1)
        where
          by-label : (s : Core) (u v : Bool) (l : Bool) → is_label s ≡ l → l || is_statement m s ≡ true → (is_statement m s ≡ true → u ≡ v) → is_label (renamed r s) || u ≡ is_label s || v
          by-label s u v true is ok same = ap (λ l. l || u) (same-label s ∙ is) ∙ ap (λ l. l || v) (sym is)
          by-label s u v false is ok same = ap₂ (λ l w. l || w) (same-label s) (same ok)
