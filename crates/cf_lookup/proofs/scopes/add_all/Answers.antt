use Rattle.std.proofs.Common.{arith}
use Rattle.cf_lookup.proofs.All.{all_before}
use Rattle.cf_lookup.proofs.scopes.add_all.Goals as goal

pub loop-around-preserved : goal.loop-around-preserved
loop-around-preserved c = record {
  within = omega arith;
  so_far =
      all_before c.args.name.now c.args.scopes.now c.loop-around.around c.index-scopes-around.result c.args.found.now.items c.loop-around.found.items c.add_named.new.found.items (omega arith)
      c.loop-around.invariant.within c.index-scopes-around.is c.loop-around.invariant.so_far c.in_ok-add_named.ensures;
}
