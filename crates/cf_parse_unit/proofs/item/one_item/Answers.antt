use Rattle.std.proofs.Common.{subst}
use Rattle.cf_parse_decl.specs.Reads.{Gives}
use Rattle.cf_parse_unit.proofs.Read.{item-is}
use Rattle.cf_parse_unit.proofs.item.one_item.Goals as goal

pub returns : goal.returns
returns g c =
    subst (λ o. Gives o c.item_read.result c.item_read.new.known c.item_read.new.c)
    (item-is c.args.grammar.now.depth c.args.known.now c.args.c.now) c.item_read.ensures
