use Rattle.std.proofs.Common.{◌≡◌, Some, rules}
use Rattle.cf_parse_expr.specs.Leaves.{a_name}
use Rattle.cf_parse_simple.proofs.Suffixes.{name_shorter}
use Rattle.cf_parse_simple.proofs.constructors.twice_named.Goals as goal

pub from_last-requires : goal.from_last-requires
from_last-requires c =
    let read : a_name c.args.scopes.now c.args.c.now ≡ Some ((c.in-Ok.n, c.in-Ok.classes), c.name.new.c) = search rules in
    name_shorter c.args.scopes.now c.args.c.now (c.in-Ok.n, c.in-Ok.classes) c.name.new.c read
