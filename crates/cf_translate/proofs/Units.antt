-- The text of a file's unit, and what lowering asks of a file that sequencing gives.
use Rattle.std.proofs.Common.{◌≡◌, ℕ, true, List, [], sym, ap, ◌∙◌, subst}
use Rattle.cc_whole.specs.declared.unit.CUnit.{CUnit}
use Rattle.cc_whole.specs.Text.{Text}
use Rattle.cc_whole.specs.ValidUnit.{valid_unit}
use Rattle.cc_whole.specs.Plain.{items_of}
use Rattle.cc_whole_print.specs.Units.{unit_text}
use Rattle.cc_whole_printed.specs.Written.{written_unit}
use Rattle.cf_classes.specs.ClassTable.{ClassTable}
use Rattle.cf_core.specs.FromUnit.{Unit as CoreUnit, IsValid}
use Rattle.cf_lower.specs.Functions.{lowered_file}
use Rattle.cf_lower_program.specs.Agrees.{UnitsAreValid, IsLowered}
use Rattle.cf_lower_types.specs.Ordered.{IsOrdered}
use Rattle.cf_plain.specs.View as plain
use Rattle.cf_sequence_unit.proofs.Units.{no-definitions}
use Rattle.cf_sequence_unit.specs.Sequences.{Sequences}
use Rattle.cf_translate.specs.Translated.{IsTextOf, Translates}

module _ (core : CoreUnit) (valid : IsValid core) (made : plain.Unit) (sequenced : Sequences core made) where
  pub types-ordered : IsOrdered made.types
  types-ordered = subst IsOrdered (sym sequenced.sequenced.types) valid.names

  pub no-classes : made.classes.defined ≡ []
  no-classes = ap (λ (c : ClassTable). c.defined) sequenced.sequenced.classes ∙ no-definitions core valid sequenced.built

  pub translated : UnitsAreValid → ((u : CUnit) → valid_unit u ≡ true → written_unit u ≡ true) → ((u : CUnit) → written_unit u ≡ true → Text (unit_text u) u)
      → (unit : CUnit) (text : List ℕ) → unit.version ≡ 1 → items_of unit.items ≡ lowered_file (plain.file_of made) → text ≡ unit_text unit → Translates core unit text
  translated are-valid are-written are-texts unit text version items printed = record {
    made = made;
    sequenced = sequenced;
    lowered = lowered;
    printed = printed;
    is_text = λ lowerable.
        let valid-here = are-valid (plain.file_of made) unit lowerable lowered in
        record { valid = valid-here; spelled = subst (λ t. Text t unit) (sym printed) (are-texts unit (are-written unit valid-here)) };
  }
    where
      lowered : IsLowered (plain.file_of made) unit
      lowered = record { version = version; items = items }
