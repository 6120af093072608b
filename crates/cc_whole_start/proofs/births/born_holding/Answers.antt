use Rattle.std.proofs.Common.{◌∙◌, ap}
use Rattle.cc_whole_memory.specs.declared.store.Storage.TheVariants as storage
use Rattle.cc_whole_memory.specs.Blocks.{born}
use Rattle.cc_whole_memory.specs.Store.{memory_of}
use Rattle.cc_whole_start.proofs.BirthLaws.{is-stored, stored-is}
use Rattle.cc_whole_start.proofs.births.born_holding.Goals as goal

pub unwrap-requires : goal.unwrap-requires
unwrap-requires c =
    is-stored c.args.value c.in_ok-block.block (memory_of c.args.store.now) (memory_of c.give.new.self) c.in_ok-block.ensures.number
    (c.in_ok-block.ensures.born ∙ ap (λ n. born storage.Local n (memory_of c.args.store.now)) c.size_of.ensures) c.write.result c.write.ensures.err

pub returns-clause-born : goal.returns-clause-born
returns-clause-born c =
    stored-is c.args.value c.in_ok-block.block (memory_of c.args.store.now) (memory_of c.give.new.self) c.in_ok-block.ensures.number
    (c.in_ok-block.ensures.born ∙ ap (λ n. born storage.Local n (memory_of c.args.store.now)) c.size_of.ensures)
    (memory_of c.write.new.self) c.write.result c.write.ensures.ok c.write.ensures.err
