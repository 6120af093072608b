use Rattle.std.proofs.Common.{refl, ap, ◌∙◌, replicate, true}
use Rattle.cc_whole_memory.specs.Store.{memory_in}
use Rattle.cc_whole_memory.proofs.BlockLaws.{born-push}
use Rattle.cc_whole_memory.proofs.store.Store.give.Goals as goal

pub returns-clause-born : goal.returns-clause-born
returns-clause-born c =
    ap memory_in c.in_ok-push.ensures.items
    ∙ born-push c.args.self.now.blocks.items (record { is_live = true; storage = c.args.storage; cells = c.in_ok-cells.cells }) c.args.storage c.args.size refl refl
    (c.in_ok-cells.ensures.items_if_clones_equal (λ y e. e) ∙ ap (replicate c.args.size) c.first_cell.ensures)
