use Rattle.std.proofs.Common.{◌≡◌, ◌-◌, true, bytes_eq, arith}
use Rattle.cf_syntax.proofs.Newest.{kind-here}
use Rattle.cf_syntax.proofs.entries.kind_among.Goals as goal

pub returns-then-is_same : goal.returns-then-is_same
returns-then-is_same c =
    let same : bytes_eq c.index-entries-left.result.name c.args.name.now ≡ true = cc (c.as_slice.ensures, c.is_same.ensures, c.if-is_same.true) in
    cc (kind-here c.args.entries.now c.args.name.now (c.loop-left.left - 1) c.loop-left.left c.index-entries-left.result
    (omega arith) (omega (arith, c.loop-left.invariant.within)) c.index-entries-left.is c.loop-left.invariant.none same)
