-- What a label of a switch passes: the switch before the switch is valid.
use Rattle.std.proofs.Common.{◌≡◌, ℕ, Bool, true, false, ◌&&◌, ◌||◌, not, if◌then◌else◌, List, [], ◌∷◌, ◌++◌, reverse, refl, sym, ap, ◌∙◌}
use Rattle.std.specs.Prelude.{ℤ, int_le}
use Rattle.std.proofs.lemmas.List.{reverse-append}
use Rattle.std.proofs.lemmas.List.Folds.{list_all-append}
use Rattle.cf_base.proofs.Tests.{both, all_of}
use Rattle.cf_core.specs.Types.{SourceType}
use Rattle.cf_core.specs.Core as core
use Rattle.cf_core.specs.Core.{Core, Cores, none}
use Rattle.cf_core.specs.Valid as valid
use Rattle.cf_core.specs.Statements as labels
use Rattle.cf_plain.specs.Plain.{Register, Plains, act, switch, leave, more}
use Rattle.cf_plain.specs.Plain as plain
use Rattle.cf_plain.specs.Running.{has_case}
use Rattle.cf_plain.specs.Valid.{has_default, labels_differ, labelled_fit}
use Rattle.cf_sequence.specs.Built.{is_statement, are_cases, next_local}
use Rattle.cf_sequence.specs.Made.{Local, declared, declared_all}
use Rattle.cf_sequence.specs.Statements.{made, passing, passes_local, passed}
use Rattle.cf_sequence.proofs.Labels.{passing-past}
use Rattle.cf_sequence_valid.proofs.Fine.{Fine, fine-none, fine-then, fine-act, fine-leave, fine-switch}
use Rattle.cf_sequence_valid.proofs.Stands.{is_there, are_there, there-two}

module _ (locals : List SourceType) where
  fine-made : {b c : Bool} (xs : List Local) → are_there locals xs ≡ true → Fine locals b c (made xs)
  fine-made [] ok = fine-none locals
  fine-made (x ∷ xs) ok =
      let parts = both (is_there locals x) (are_there locals xs) ok in
      fine-then locals (λ rest. more (act (plain.declare x.number x.type)) rest) (made xs) (fine-act locals _ parts.0) (fine-made xs parts.1)

  there-reverse : (xs : List Local) → are_there locals xs ≡ true → are_there locals (reverse xs) ≡ true
  there-reverse [] ok = refl
  there-reverse (x ∷ xs) ok =
      let parts = both (is_there locals x) (are_there locals xs) ok in
      ap (are_there locals) (reverse-append (x ∷ []) xs) ∙ there-two locals (reverse xs) (x ∷ []) (there-reverse xs parts.1) (all_of (is_there locals x) true parts.0 refl)

  -- what a label does there
  fine-label : {c : Bool} (xs : List Local) → are_there locals xs ≡ true → Fine locals true c (λ rest. made (reverse xs) (more leave rest))
  fine-label xs ok = fine-then locals (made (reverse xs)) (λ rest. more leave rest) (fine-made (reverse xs) (there-reverse xs ok)) (fine-leave locals refl)

  abbrev Declares : Cores → Type 0
  Declares es = are_there locals (declared_all es) ≡ true

  parts-there : (s : Core) (es : Cores) → Declares (core.more s es) → Declares es × (are_there locals (declared s) ≡ true)
  parts-there s es ok = both (are_there locals (declared_all es)) (are_there locals (declared s)) (sym (list_all-append (is_there locals) (declared_all es) (declared s)) ∙ ok)

  more-there : (s : Core) (es : Cores) (before : List Local) → Declares (core.more s es) → are_there locals before ≡ true → are_there locals (declared s ++ before) ≡ true
  more-there s es before all ok = there-two locals (declared s) before (parts-there s es all).1 ok

  -- it has the labels of the switch
  pass-cases : (z : ℤ) (es : Cores) (m : ℕ) → are_cases m es ≡ true → Declares es → (before : List Local) → are_there locals before ≡ true → has_case z (passing before es) ≡ labels.has_case z es
  pass-cases z none m ok all before there = refl
  pass-cases z (core.more (core.case_label y) es) m ok all before there =
      ap (λ b. (int_le y z && int_le z y) || b)
      (Fine.cases (fine-label {c = false} before there) z (passing before es) ∙ pass-cases z es m ok (parts-there (core.case_label y) es all).0 before there)
  pass-cases z (core.more core.default_label es) m ok all before there =
      Fine.cases (fine-label {c = false} before there) z (passing before es) ∙ pass-cases z es m ok (parts-there core.default_label es all).0 before there
  pass-cases z (core.more s es) m ok all before there =
      let parts = both (is_statement m s) (are_cases (next_local m s) es) ok in
      ap (has_case z) (passing-past m s parts.0 before es)
      ∙ pass-cases z es (next_local m s) parts.1 (parts-there s es all).0 (declared s ++ before) (more-there s es before all there)

  pass-default : (es : Cores) (m : ℕ) → are_cases m es ≡ true → Declares es → (before : List Local) → are_there locals before ≡ true
      → has_default locals (passing before es) ≡ labels.has_default es
  pass-default none m ok all before there = refl
  pass-default (core.more (core.case_label y) es) m ok all before there =
      Fine.default (fine-label {c = false} before there) (passing before es) ∙ pass-default es m ok (parts-there (core.case_label y) es all).0 before there
  pass-default (core.more core.default_label es) m ok all before there = refl
  pass-default (core.more s es) m ok all before there =
      let parts = both (is_statement m s) (are_cases (next_local m s) es) ok in
      ap (has_default locals) (passing-past m s parts.0 before es)
      ∙ pass-default es (next_local m s) parts.1 (parts-there s es all).0 (declared s ++ before) (more-there s es before all there)

  pass-differ : (es : Cores) (m : ℕ) → are_cases m es ≡ true → Declares es → valid.labels_differ es ≡ true → (before : List Local) → are_there locals before ≡ true
      → labels_differ locals (passing before es) ≡ true
  pass-differ none m ok all differ before there = refl
  pass-differ (core.more (core.case_label y) es) m ok all differ before there =
      let tail : Plains = made (reverse before) (more leave (passing before es)) in
      let label : Fine locals true false (λ rest. made (reverse before) (more leave rest)) = fine-label before there in
      let rest = (parts-there (core.case_label y) es all).0 in
      let parts = both (not (labels.has_case y es)) (valid.labels_differ es) differ in
      all_of (not (has_case y tail)) (labels_differ locals tail)
      (ap not (Fine.cases label y (passing before es) ∙ pass-cases y es m ok rest before there) ∙ parts.0)
      (Fine.differ label (passing before es) ∙ pass-differ es m ok rest parts.1 before there)
  pass-differ (core.more core.default_label es) m ok all differ before there =
      let tail : Plains = made (reverse before) (more leave (passing before es)) in
      let label : Fine locals true false (λ rest. made (reverse before) (more leave rest)) = fine-label before there in
      let rest = (parts-there core.default_label es all).0 in
      let parts = both (not (labels.has_default es)) (valid.labels_differ es) differ in
      all_of (not (has_default locals tail)) (labels_differ locals tail)
      (ap not (Fine.default label (passing before es) ∙ pass-default es m ok rest before there) ∙ parts.0)
      (Fine.differ label (passing before es) ∙ pass-differ es m ok rest parts.1 before there)
  pass-differ (core.more s es) m ok all differ before there =
      let parts = both (is_statement m s) (are_cases (next_local m s) es) ok in
      ap (labels_differ locals) (passing-past m s parts.0 before es)
      ∙ pass-differ es (next_local m s) parts.1 (parts-there s es all).0 (differ-past m s parts.0 es differ) (declared s ++ before) (more-there s es before all there)
    where
      differ-past : (m : ℕ) (s : Core) → is_statement m s ≡ true → (es : Cores) → valid.labels_differ (core.more s es) ≡ true → valid.labels_differ es ≡ true
      differ-past m (core.case_label y) ok es differ = (both (not (labels.has_case y es)) (valid.labels_differ es) differ).1
      differ-past m core.default_label ok es differ = (both (not (labels.has_default es)) (valid.labels_differ es) differ).1
      differ-past m s ok es differ = differ

  pass-fit : (c : Bool) (es : Cores) (m : ℕ) → are_cases m es ≡ true → Declares es → (before : List Local) → are_there locals before ≡ true → labelled_fit locals c (passing before es) ≡ true
  pass-fit c none m ok all before there = refl
  pass-fit c (core.more (core.case_label y) es) m ok all before there =
      Fine.labelled (fine-label before there) (passing before es) refl (pass-fit c es m ok (parts-there (core.case_label y) es all).0 before there)
  pass-fit c (core.more core.default_label es) m ok all before there =
      Fine.labelled (fine-label before there) (passing before es) refl (pass-fit c es m ok (parts-there core.default_label es all).0 before there)
  pass-fit c (core.more s es) m ok all before there =
      let parts = both (is_statement m s) (are_cases (next_local m s) es) ok in
      ap (labelled_fit locals c) (passing-past m s parts.0 before es)
      ∙ pass-fit c es (next_local m s) parts.1 (parts-there s es all).0 (declared s ++ before) (more-there s es before all there)

  pub fine-passed : {b c : Bool} (n : Register) (es : Cores) (m : ℕ) → are_cases m es ≡ true → Declares es → valid.labels_differ es ≡ true → Fine locals b c (passed n es)
  fine-passed {b} {c} n es m ok all differ = by (passes_local es)
    where
      by : (t : Bool) → Fine locals b c (λ rest. if t then more (switch n (passing [] es)) rest else rest)
      by true = fine-switch locals n (passing [] es) (pass-differ es m ok all differ [] refl) (pass-fit c es m ok all [] refl)
      by false = fine-none locals
