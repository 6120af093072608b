use Rattle.std.proofs.Common.{◌∙◌, ap, sym, length, zero-add}
use Rattle.cc_whole.specs.Plain.{items_of, variables_of}
use Rattle.cc_whole_memory.specs.Blocks.{no_memory}
use Rattle.cc_whole_mean.specs.Start.{file_names}
use Rattle.cc_whole_start.proofs.StaticLaws.{laid_out-next}
use Rattle.cc_whole_start.proofs.state.Start.new.Goals as goal

pub returns-clause-next : goal.returns-clause-next
returns-clause-next c =
    let items = items_of c.args.program.now.items in
    c.count_variables-next.ensures ∙ ap (λ l. length (variables_of (items_of l))) c.as_slice-items.ensures
    ∙ sym (laid_out-next (file_names items) (variables_of items) no_memory ∙ zero-add (length (variables_of items)))
