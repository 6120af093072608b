-- What stands in the braces of a switch: statements and labels in a scope of their own, in which `break` may stand (6.4.2, 6.6.1).
use Rattle.std.proofs.Common.{◌≡◌, ℕ, Bool, true, List, [], ◌∷◌, refl}
use Rattle.cf_core.specs.declared.node.Core.TheVariants as node
use Rattle.cf_elab.specs.Answer.{Answer, Made as MadeIn, Refused, Passed, Elab, onward, gives, all}
use Rattle.cf_elab.specs.Env.{Env}
use Rattle.cf_elab.specs.Operand.{Part, evaluated}
use Rattle.cf_elab.specs.Statement as row
use Rattle.cf_elab.specs.Statement.{Made, made, Label, no_label, case_label, default_label}
use Rattle.cf_elab_valid.specs.Answers.{Fine, IsPart}
use Rattle.cf_elab_valid.specs.Scene.{Scene, IsScene, Within, Steps, Classless, Holds}
use Rattle.cf_elab_valid.specs.Statements.{StatementFits, Inner, IsStatement}
use Rattle.cf_elab_valid.proofs.Arithmetic.{IsOperand}
use Rattle.cf_elab_valid.proofs.Moved.{moved-holds, moved-classless}
use Rattle.cf_elab_valid.proofs.Parts.{evaluated-fine}
use Rattle.cf_elab_valid.proofs.Scopes.{within-another}
use Rattle.cf_elab_valid.proofs.Statements.{inner-later, same-statement, statement-later}
use Rattle.cf_elab_valid.proofs.Ways.{fine-as, made-fine, onward-fine, within-before, When}
use Rattle.cf_elab_valid_files.specs.Switches.Entries.{EntryFits, IsEntry, AreEntries}
use Rattle.cf_elab_valid_files.proofs.SwitchesLaws.Scoped.{entered, entered-classless, entered-holds, left, scoped-fine}

-- a label is no statement
labelled : (l : Label) → l ≡ no_label → row.is_label l ≡ true → ⊥
labelled no_label is h = absurd cc
labelled (case_label v) is h = absurd cc
labelled default_label is h = absurd cc

module _ (s : Scene) (scene : IsScene s) (n : ℕ) (m : Bool) where
  abbrev pub Entry : Env → Made → Env → Type 0
  Entry e x f = EntryFits s n m e.hand.breaks e.hand.continues x f

  abbrev pub Entries : Bool → Bool → List Made → Env → Type 0
  Entries breaks continues [] e = Unit {0}
  Entries breaks continues (x ∷ xs) e = EntryFits s n m breaks continues x e × Entries breaks continues xs e

  -- ---- entries

  pub statement-entry : (run : Elab Made) → IsStatement s n m run → IsEntry s n m run
  statement-entry run k = record {
    fine = λ e i c h. fine-as s (StatementFits s n m e.hand.breaks e.hand.continues) (Entry e) e (run e) (λ x f p. record { statement = λ is. p }) (k.fine e i c h);
  }

  pub case-entry : (at : ℕ) (x : Part) → IsPart s x → IsEntry s n m (row.case_row at x)
  case-entry at x part = record {
    fine = λ e i c h. onward-fine s (IsOperand s) (Entry e) e (evaluated x e) _ (evaluated-fine s scene x e part c h)
        (λ v e1 g c1 h1 f. made-fine s (Entry e) e1 (record (made at (node.Blank at)) { label = case_label v }) c1 h1 (λ w. record { statement = λ is. absurd (labelled (case_label v) is refl) }));
  }

  pub default-entry : (at : ℕ) → IsEntry s n m (row.default_row at)
  default-entry at = record {
    fine = λ e i c h. made-fine s (Entry e) e (record (made at (node.Default at)) { label = default_label }) c h (λ w. record { statement = λ is. absurd (labelled default_label is refl) });
  }

  -- ---- several

  pub same-entry : (breaks continues : Bool) (x : Made) (a b : Env) → EntryFits s n m breaks continues x a → EntryFits s n m breaks continues x b
  same-entry breaks continues x a b f = record { statement = λ is. same-statement s scene n m breaks continues x a b (f.statement is) }

  pub same-entries : (breaks continues : Bool) (xs : List Made) (a b : Env) → Entries breaks continues xs a → Entries breaks continues xs b
  same-entries breaks continues [] a b f = tt
  same-entries breaks continues (x ∷ xs) a b f = (same-entry breaks continues x a b f.0, same-entries breaks continues xs a b f.1)

  entries-later : (a b : Env) (xs : List Made) (e : Env) → Steps a b → Entries b.hand.breaks b.hand.continues xs e → Entries a.hand.breaks a.hand.continues xs e
  entries-later a b [] e g f = tt
  entries-later a b (x ∷ xs) e g f = (record { statement = λ is. statement-later s n m a b x e g (f.0.statement is) }, entries-later a b xs e g f.1)

  all-entries : (ss : List (Elab Made)) → AreEntries s n m ss → (e : Env) → Inner s n m e → Classless e → When s e (Holds s e) → Fine s (Entries e.hand.breaks e.hand.continues) e (all ss e)
  all-entries [] k e i c h = made-fine s (Entries e.hand.breaks e.hand.continues) e [] c h (λ w. tt)
  all-entries (x ∷ xs) k e i c h =
      onward-fine s (Entry e) (Entries e.hand.breaks e.hand.continues) e (x e) _ (k.0.fine e i c h)
      (λ y e1 g c1 h1 fy. onward-fine s (Entries e1.hand.breaks e1.hand.continues) (Entries e.hand.breaks e.hand.continues) e1 (all xs e1) (λ ys. gives (y ∷ ys))
      (all-entries xs k.1 e1 (inner-later s n m e e1 g i) c1 h1)
      (λ ys e2 g2 c2 h2 fys. made-fine s (Entries e.hand.breaks e.hand.continues) e2 (y ∷ ys) c2 h2
      (λ w. (same-entry e.hand.breaks e.hand.continues y e1 e2 (fy (within-before e1 e2 s g2 w)), entries-later e e1 ys e2 g (fys w)))))

  -- ---- the braces

  abbrev breaking : Bool → Env → Env
  breaking b e = record e { hand = record e.hand { breaks = b } }

  breaking-classless : (b : Bool) (e : Env) → Classless e → Classless (breaking b e)
  breaking-classless b e c = moved-classless s (record e.hand { breaks = b }) e.scopes e refl c

  breaking-within : (b : Bool) (e : Env) → Within (breaking b e) s → Within e s
  breaking-within b e w = record { types = w.types; funs = w.funs; enums = w.enums; locals = w.locals; statics = w.statics; functions = w.functions }

  breaking-holds : (b : Bool) (e : Env) → When s e (Holds s e) → When s (breaking b e) (Holds s (breaking b e))
  breaking-holds b e h w = moved-holds s (record e.hand { breaks = b }) e.scopes e refl (λ i q. q) (h (breaking-within b e w))

  pub braces-fine : (ss : List (Elab Made)) → AreEntries s n m ss → (e : Env) → Inner s n m e → Classless e → When s e (Holds s e) → Fine s (Entries true e.hand.continues) e (row.braces ss e)
  braces-fine ss k e i c h =
      by (onward (all ss (entered begun)) (λ ms f. MadeIn ms (left f)))
      (scoped-fine s (Entries true e.hand.continues) (all ss) begun (λ xs f p. same-entries true e.hand.continues xs f (left f) p)
      (all-entries ss k (entered begun) inside (entered-classless s begun (breaking-classless true e c)) (entered-holds s begun (breaking-holds true e h))))
    where
      begun : Env
      begun = breaking true e

      inside : Inner s n m (entered begun)
      inside = record { main = i.main; there = λ w. i.there (record { types = w.types; funs = w.funs; enums = w.enums; locals = w.locals; statics = w.statics; functions = w.functions }); behind = i.behind; deep = within-another e.scopes.outer e.scopes.inner; owner = i.owner }

      by : (r : Answer (List Made)) → Fine s (Entries true e.hand.continues) begun r → Fine s (Entries true e.hand.continues) e (onward r (λ ms f. MadeIn ms (breaking e.hand.breaks f)))
      by (MadeIn ms f) g = record {
        steps = record {
          types = g.steps.types;
          funs = g.steps.funs;
          enums = g.steps.enums;
          locals = g.steps.locals;
          statics = g.steps.statics;
          functions = g.steps.functions;
          homes = g.steps.homes;
          hand = record { link = g.steps.hand.link; kind = g.steps.hand.kind; result = g.steps.hand.result; breaks = refl; continues = g.steps.hand.continues };
          outer = g.steps.outer;
        };
        classless = breaking-classless e.hand.breaks f g.classless;
        holds = breaking-holds e.hand.breaks f g.holds;
        made = λ w. same-entries true e.hand.continues ms f (breaking e.hand.breaks f) (g.made (breaking-within e.hand.breaks f w));
      }
      by (Refused rule at) g = tt
      by (Passed bound most) g = tt
