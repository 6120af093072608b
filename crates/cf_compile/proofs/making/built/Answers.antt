use Rattle.cf_sequence_unit.proofs.Units.{no-definitions}
use Rattle.cf_translate.proofs.Units.{no-classes, types-ordered}
use Rattle.cf_compile.proofs.Keeping.{makes, registers-kept}
use Rattle.cf_compile.proofs.making.built.Goals as goal

pub core_fits-passes-requires : goal.core_fits-passes-requires
core_fits-passes-requires c = no-definitions c.args.core c.functions-valid.ensures.valid c.requires

pub finished-requires : goal.finished-requires
finished-requires c =
    let valid = c.functions-valid.ensures.valid in
    let sequenced = c.in_ok-plain.ensures in
    record {
      ordered = types-ordered c.args.core valid c.in_ok-plain.plain sequenced;
      no_classes = no-classes c.args.core valid c.in_ok-plain.plain sequenced;
      kept = registers-kept c.args.core c.in_ok-plain.plain sequenced c.sequenced_registers_are_kept.ensures valid;
    }

pub returns : goal.returns
returns c =
    makes c.args.core c.in_ok-plain.plain c.in_ok-plain.ensures c.functions-valid.ensures.valid c.core_fits-passes.result c.core_fits-passes.ensures.passed c.core_fits-passes.ensures.passes
    c.units_are_valid.ensures c.valid_units_are_written.ensures
    c.printed_text_is_its_text.ensures c.lowerable_file_runs_as_meant.ensures c.finished.result c.finished.ensures
