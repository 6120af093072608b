use Rattle.std.proofs.Common.{◌∙◌}
use Rattle.cc_whole_memory.proofs.BlockLaws.{carry-taken}
use Rattle.cc_whole_memory.proofs.store.Store.carry.Goals as goal

pub returns-clause-ok : goal.returns-clause-ok
returns-clause-ok c = carry-taken c.args.count c.args.from c.args.to c.args.self.now.blocks.items c.in_ok-found.found c.in_ok-found.ensures.ok ∙ c.in_ok-lay.ensures.ok
