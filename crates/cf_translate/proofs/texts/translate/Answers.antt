use Rattle.cf_translate.proofs.Units.{no-classes, translated, types-ordered}
use Rattle.cf_translate.proofs.texts.translate.Goals as goal

pub lower-requires : goal.lower-requires
lower-requires c =
    let valid = c.functions-valid.ensures.valid in
    record {
      ordered = types-ordered c.args.core valid c.in_ok-plain.plain c.in_ok-plain.ensures.value;
      no_classes = no-classes c.args.core valid c.in_ok-plain.plain c.in_ok-plain.ensures.value;
    }

pub returns-in-Ok : goal.returns-in-Ok
returns-in-Ok c =
    translated c.args.core c.functions-valid.ensures.valid c.in_ok-plain.plain c.in_ok-plain.ensures.value c.units_are_valid.ensures c.valid_units_are_written.ensures
    c.printed_text_is_its_text.ensures c.in_ok-unit.unit c.in-Ok.text.items c.in_ok-unit.ensures.version c.in_ok-unit.ensures.items c.in-Ok.ensures
