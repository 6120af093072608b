use Rattle.std.proofs.Common.{suc, length, refl}
use Rattle.cf_syntax.specs.Grammar.{inside}
use Rattle.cf_syntax.specs.Reading.{readers}
use Rattle.cf_syntax.proofs.Inner.{behind_declarator}
use Rattle.cf_syntax.proofs.Whole.{all-good}
use Rattle.cf_parse_expr.specs.Whole.{type_id_at}
use Rattle.cf_parse_expr.proofs.Taken.{takes}
use Rattle.cf_parse_expr.proofs.longest.type_id.Goals as goal

pub returns : goal.returns
unfolding type_id_at
returns c =
    let names = c.args.names.now in
    takes behind_declarator (λ n. (readers n).type_id names) (λ n. (inside n).type_id names) (λ n. (all-good n).type_id names) (suc (length c.args.c.now)) c.args.c.now refl
    c.type_id.result c.type_id.new.c c.type_id.ensures
