use Rattle.std.proofs.Common.{arith}
use Rattle.cf_lookup.proofs.Finding.{found_at, not_at}
use Rattle.cf_lookup.proofs.scopes.find_in.Goals as goal

pub returns-then-is_some : goal.returns-then-is_some
returns-then-is_some c =
    found_at c.args.name.now c.args.scopes.now c.loop-around.around c.index-scopes-around.result c.get-entity.result (omega arith)
    c.loop-around.invariant.0 c.loop-around.invariant.1 c.index-scopes-around.is c.get-entity.ensures c.is_some.result c.is_some.ensures c.if-is_some.true

pub loop-around-preserved : goal.loop-around-preserved
loop-around-preserved c = (
  omega arith,
  not_at c.args.name.now c.args.scopes.now c.loop-around.around c.index-scopes-around.result c.get-entity.result (omega arith)
      c.loop-around.invariant.0 c.loop-around.invariant.1 c.index-scopes-around.is c.get-entity.ensures c.is_some.result c.is_some.ensures c.if-is_some.false,
)
