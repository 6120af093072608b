use Rattle.std.proofs.Common.{suc, length, refl}
use Rattle.cf_syntax.specs.Grammar.{inside}
use Rattle.cf_syntax.specs.Reading.{readers}
use Rattle.cf_syntax.proofs.Inner.{behind_commas}
use Rattle.cf_syntax.proofs.Whole.{all-good}
use Rattle.cf_parse_expr.specs.Whole.{commas_at}
use Rattle.cf_parse_expr.proofs.Taken.{takes}
use Rattle.cf_parse_expr.proofs.longest.commas.Goals as goal

pub returns : goal.returns
unfolding commas_at
returns c =
    let names = c.args.names.now in
    takes behind_commas (λ n. (readers n).commas names) (λ n. (inside n).commas names) (λ n. (all-good n).commas names) (suc (length c.args.c.now)) c.args.c.now refl
    c.commas.result c.commas.new.c c.commas.ensures
