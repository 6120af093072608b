use Rattle.std.proofs.Common.{suc, length, refl}
use Rattle.cf_syntax.specs.Grammar.{inside}
use Rattle.cf_syntax.specs.Reading.{readers}
use Rattle.cf_syntax.proofs.Inner.{behind_params}
use Rattle.cf_syntax.proofs.Whole.{all-good}
use Rattle.cf_parse_expr.specs.Whole.{params_at}
use Rattle.cf_parse_expr.proofs.Taken.{takes}
use Rattle.cf_parse_expr.proofs.longest.params.Goals as goal

pub returns : goal.returns
unfolding params_at
returns c =
    let names = c.args.names.now in
    takes behind_params (λ n. (readers n).params names) (λ n. (inside n).params names) (λ n. (all-good n).params names) (suc (length c.args.c.now)) c.args.c.now refl
    c.params.result c.params.new.c c.params.ensures
