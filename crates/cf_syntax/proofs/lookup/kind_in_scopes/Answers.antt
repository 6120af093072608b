use Rattle.std.proofs.Common.{◌≡◌, ◌-◌, Some, arith}
use Rattle.cf_syntax.specs.Names.{in_scope}
use Rattle.cf_syntax.proofs.Newest.{newest-here}
use Rattle.cf_syntax.proofs.lookup.kind_in_scopes.Goals as goal

pub returns-in-Some : goal.returns-in-Some
returns-in-Some c =
    let here : in_scope c.args.classes.now c.args.name.now c.index-scopes-left.result ≡ Some c.in-Some.kind = cc (c.kind_in_scope.ensures, c.in-Some.is) in
    cc (newest-here (in_scope c.args.classes.now c.args.name.now) c.args.scopes.now (c.loop-left.left - 1) c.loop-left.left c.index-scopes-left.result c.in-Some.kind
    (omega arith) (omega (arith, c.loop-left.invariant.within)) c.index-scopes-left.is c.loop-left.invariant.none here)
