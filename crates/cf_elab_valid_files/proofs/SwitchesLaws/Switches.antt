-- Switches (6.4.2).
use Rattle.std.proofs.Common.{◌≡◌, ℕ, Bool, true, false, ◌&&◌, List, [], map, Option, Some, None, refl, sym, ap, subst, ◌∙◌, true≢false}
use Rattle.cf_base.specs.declared.kind.Kind.{Kind}
use Rattle.cf_core.specs.declared.node.Core.TheVariants as node
use Rattle.cf_core.specs.FromClasses.{signature_of}
use Rattle.cf_core.specs.Numbers.{are_known, all_of}
use Rattle.cf_core.specs.Types.{integer}
use Rattle.cf_core.specs.Typing.{is_integer}
use Rattle.cf_core.specs.Valid.{fits, initialises_local, passes_none, labelled_fit}
use Rattle.cf_core.specs.Valid as valid
use Rattle.cf_core_typed.proofs.Same.{and-both}
use Rattle.cf_core_typed.proofs.Values.{value-integer}
use Rattle.cf_elab.specs.Answer.{Answer, Elab, onward, gives}
use Rattle.cf_elab.specs.Env.{Env}
use Rattle.cf_elab.specs.Fit.{to_kind}
use Rattle.cf_elab.specs.Operand.{Value, Part, evaluated, plain, sort_of, arithmetic}
use Rattle.cf_elab.specs.Statement as row
use Rattle.cf_elab.specs.Statement.{Made, made, labelled, labels_constant, labels_differ, labels_pass_none}
use Rattle.cf_elab_valid.specs.Answers.{Fine, IsPart}
use Rattle.cf_elab_valid.specs.Scene.{Scene, IsScene, typed, Classless, Holds, Fits, IsPlain}
use Rattle.cf_elab_valid.specs.Statements.{body_of, StatementFits, IsStatement}
use Rattle.cf_elab_valid.proofs.Arithmetic.{IsOperand}
use Rattle.cf_elab_valid.proofs.FitRows.{to_kind-fine}
use Rattle.cf_elab_valid.proofs.Nodes.{core-Switch, known-Switch}
use Rattle.cf_elab_valid.proofs.Operands.{scalar-is}
use Rattle.cf_elab_valid.proofs.Parts.{evaluated-fine}
use Rattle.cf_elab_valid.proofs.Plain.{decayed_tree, plain-fine}
use Rattle.cf_elab_valid.proofs.Statements.{Statement, inner-later}
use Rattle.cf_elab_valid.proofs.Values.{plain-value}
use Rattle.cf_elab_valid.proofs.Ways.{fits-when, made-fine, onward-fine, within-before, When}
use Rattle.cf_elab_valid_files.specs.Switches.Entries.{AreEntries}
use Rattle.cf_elab_valid_files.proofs.SwitchesLaws.Braces.{Entries, same-entries, braces-fine}
use Rattle.cf_elab_valid_files.proofs.SwitchesLaws.Cores.{cores, cores-are, plain-entries, all-differ, passes-none, entries-fit, numbers-known}
use Rattle.cf_elab_valid_files.proofs.SwitchesLaws.Labels.{AllConstant, Differ, PassNone, constant-then, differ-then, passing-then}

module _ (s : Scene) (scene : IsScene s) (n : ℕ) (m : Bool) where
  abbrev switch_made : ℕ → Kind → Value → List Made → Made
  switch_made at k x ms = made at (node.Switch at x.node (labelled k ms))

  switch-fits : (at : ℕ) (k : Kind) (x : Value) (ms : List Made) (breaks continues : Bool) (e : Env) → IsPlain s (integer k) x e → Entries s scene n m true continues ms e → AllConstant ms → Differ k [] ms → PassNone false ms
      → StatementFits s n m breaks continues (switch_made at k x ms) e
  switch-fits at k x ms breaks continues e px f c d q =
      let plain = plain-entries s scene n m k true continues ms e f in
      let whole = core-Switch s.tables (signature_of s.tables) at x.node (labelled k ms) in
      let inner = cores-are s scene n m k ms in
      let cs = cores s scene n m k ms in
      let operand = value-integer (typed s x.node) (integer k) refl (plain-value s (integer k) x e px) in record {
        numbers = known-Switch s.tables at x.node (labelled k ms) ∙ and-both (are_known s.tables x.node) (all_of s.tables (map (are_known s.tables) (labelled k ms))) px.fits.numbers (numbers-known s scene n m k true continues ms e f);
        unlabelled = refl;
        fine = ap (fits (body_of s n m) breaks continues) whole
            ∙ ap (λ l. is_integer (typed s x.node) && valid.labels_differ l && passes_none l && labelled_fit (body_of s n m) true continues l) inner
            ∙ and-both (is_integer (typed s x.node) && valid.labels_differ cs && passes_none cs) (labelled_fit (body_of s n m) true continues cs)
            (and-both (is_integer (typed s x.node) && valid.labels_differ cs) (passes_none cs)
            (and-both (is_integer (typed s x.node)) (valid.labels_differ cs) operand (all-differ s scene n m k [] ms c d plain))
            (passes-none s scene n m k true continues false ms e f q plain))
            (entries-fit s scene n m k true continues ms e f);
        reached = λ r. absurd (true≢false (sym r ∙ ap initialises_local whole));
      }

  -- behind the operand and the braces
  abbrev labels_then : ℕ → List Made → Value → Kind → Env → Answer Made
  labels_then at ms x k f = onward (labels_constant ms f) (λ _ g. onward (labels_differ k [] ms g) (λ _ h. onward (labels_pass_none false ms h) (λ _. gives (switch_made at k x ms))))

  abbrev operand_then : ℕ → List Made → Value → Option Kind → Env → Answer Made
  operand_then at ms w o f = onward (row.switched at w o f) (λ k g. onward (to_kind k w g) (λ x. labels_then at ms x k))

  abbrev plain_then : ℕ → List Made → Value → Env → Answer Made
  plain_then at ms u f = onward (plain u f) (λ w g. operand_then at ms w (arithmetic (sort_of g.types w.type)) g)

  operand-fine : (at : ℕ) (ms : List Made) (w : Value) (e0 e : Env) → Classless e → When s e (Holds s e) → When s e (Fits s e w) → When s e (Entries s scene n m true e0.hand.continues ms e) → (o : Option Kind) → Fine s (Statement s scene n m e0) e (operand_then at ms w o e)
  operand-fine at ms w e0 e c h f fm None = tt
  operand-fine at ms w e0 e c h f fm (Some k) =
      onward-fine s (IsPlain s (integer k)) (Statement s scene n m e0) e (to_kind k w e) (λ x. labels_then at ms x k) (to_kind-fine s scene k w e c h f)
      (λ x e1 g c1 h1 px. constant-then s (Statement s scene n m e0) e1 (λ g. onward (labels_differ k [] ms g) (λ _ h. onward (labels_pass_none false ms h) (λ _. gives (switch_made at k x ms)))) ms
      (λ all. differ-then s (Statement s scene n m e0) e1 (λ h. onward (labels_pass_none false ms h) (λ _. gives (switch_made at k x ms))) k [] ms
      (λ apart. passing-then s (Statement s scene n m e0) e1 (gives (switch_made at k x ms)) false ms
      (λ behind. made-fine s (Statement s scene n m e0) e1 (switch_made at k x ms) c1 h1
      (λ v. switch-fits at k x ms e0.hand.breaks e0.hand.continues e1 (px v) (same-entries s scene n m true e0.hand.continues ms e e1 (fm (within-before e e1 s g v))) all apart behind)))))

  plain_part-fine : (at : ℕ) (ms : List Made) (u : Value) (e0 e : Env) → Classless e → When s e (Holds s e) → When s e (Fits s e u) → When s e (Entries s scene n m true e0.hand.continues ms e) → Fine s (Statement s scene n m e0) e (plain_then at ms u e)
  plain_part-fine at ms u e0 e c h f fm =
      onward-fine s (IsPlain s (decayed_tree s u.type (sort_of e.types u.type))) (Statement s scene n m e0) e (plain u e) _ (plain-fine s scene e u c h f)
      (λ w e1 g c1 h1 pw. operand-fine at ms w e0 e1 c1 h1 (λ v. (pw v).fits) (λ v. same-entries s scene n m true e0.hand.continues ms e e1 (fm (within-before e e1 s g v))) (arithmetic (sort_of e1.types w.type)))

  pub switch-statement : (at : ℕ) (x : Part) (ss : List (Elab Made)) → IsPart s x → AreEntries s n m ss → IsStatement s n m (row.switch_row at x ss)
  switch-statement at x ss part k = record {
    fine = λ e i c h. onward-fine s (IsOperand s) (Statement s scene n m e) e (evaluated x e) _ (evaluated-fine s scene x e part c h)
        (λ v e1 g1 c1 h1 fv. onward-fine s (Entries s scene n m true e1.hand.continues) (Statement s scene n m e) e1 (row.braces ss e1) _ (braces-fine s scene n m ss k e1 (inner-later s n m e e1 g1 i) c1 h1)
        (λ ms e2 g2 c2 h2 fm. subst (λ r. Fine s (Statement s scene n m e) e2 (onward r (plain_then at ms))) (sym (scalar-is 13 at v e2 c2))
        (plain_part-fine at ms v e e2 c2 h2 (fits-when s e1 e2 v g2 fv) (λ w. subst (λ b. Entries s scene n m true b ms e2) g1.hand.continues (fm w)))));
  }
