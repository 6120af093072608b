use Rattle.std.proofs.Common.{◌≡◌, subst, rules}
use Rattle.cf_parse_expr.specs.Reads.{Reads}
use Rattle.cf_parse_simple.specs.Declarators.{value_at}
use Rattle.cf_parse_simple.proofs.Declaring.{value-reads}
use Rattle.cf_parse_simple.proofs.declarator_list.value.Goals as goal

pub returns : goal.returns
returns c =
    let same : c.new-scopes.result ≡ c.args.known.now.names = search rules in
    subst (λ names. Reads (value_at c.args.depth names c.args.c.now) c.initialiser.result c.initialiser.new.c) same
    (value-reads c.args.depth c.new-scopes.result c.args.c.now c.initialiser.result c.initialiser.new.c c.initialiser.ensures)
