use Rattle.std.proofs.Common.{◌≡◌, ◌-◌, Some, arith}
use Rattle.cf_syntax.specs.Entered.{type_in}
use Rattle.cf_syntax.proofs.Newest.{newest-here}
use Rattle.cf_syntax.proofs.lookup.type_in_scopes.Goals as goal

pub returns-in-Some : goal.returns-in-Some
returns-in-Some c =
    let here : type_in c.args.classes.now c.args.name.now c.index-scopes-left.result ≡ Some c.in-Some.kind = cc (c.type_in_scope.ensures, c.in-Some.is) in
    cc (newest-here (type_in c.args.classes.now c.args.name.now) c.args.scopes.now (c.loop-left.left - 1) c.loop-left.left c.index-scopes-left.result c.in-Some.kind
    (omega arith) (omega (arith, c.loop-left.invariant.within)) c.index-scopes-left.is c.loop-left.invariant.none here)
