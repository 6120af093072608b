use Rattle.std.proofs.Common.{◌∙◌, ap}
use Rattle.cc_whole.specs.Plain.{items_of}
use Rattle.cc_whole_mean.specs.Start.{file_names}
use Rattle.cc_whole_start.proofs.NameLaws.{file-names, table-empty}
use Rattle.cc_whole_start.proofs.names.FileNames.new.Goals as goal

pub returns : goal.returns
returns c =
    file-names (items_of c.as_slice-items.result.now) c.in_ok-number.number _ _ _ _ (table-empty c.new.result c.new.ensures.empty) c.in_ok-add_variables.ensures
    c.in_ok-number.ensures.names c.in_ok-number.ensures.next c.in_ok-add_library.ensures
    ∙ ap (λ l. file_names (items_of l)) c.as_slice-items.ensures
