use Rattle.std.proofs.Common.{◌≡◌, suc, ◌-◌, ◌<◌, length, get_or, Some, sym, arith}
use Rattle.std.proofs.lemmas.List.{get_or_default}
use Rattle.cf_syntax.specs.Names.{find_in}
use Rattle.cf_syntax.proofs.Newest.{newest-here}
use Rattle.cf_parse_expr.proofs.scopes.kind_in_classes.Goals as goal

pub returns-in-Some : goal.returns-in-Some
returns-in-Some c =
    let names = c.args.names.now in
    let classes = c.args.classes.now in
    let inv = c.loop-left.invariant in
    let i = c.loop-left.left - 1 in
    let class = get_or classes i 0 in
    let next : c.loop-left.left ≡ suc i = omega arith in
    let below : i < length classes = omega (arith, inv.within) in
    let here : find_in names class c.args.name.now ≡ Some c.in-Some.kind = cc in
    sym (newest-here (λ n. find_in names n c.args.name.now) classes i c.loop-left.left class c.in-Some.kind next below (get_or_default classes i 0 class below) inv.none here)
