use Rattle.std.proofs.Common.{suc, length, refl}
use Rattle.cf_syntax.specs.Grammar.{inside}
use Rattle.cf_syntax.specs.Reading.{readers}
use Rattle.cf_syntax.proofs.Inner.{behind_condition}
use Rattle.cf_syntax.proofs.Whole.{all-good}
use Rattle.cf_parse_expr.specs.Whole.{condition_at}
use Rattle.cf_parse_expr.proofs.Taken.{takes}
use Rattle.cf_parse_expr.proofs.longest.condition.Goals as goal

pub returns : goal.returns
unfolding condition_at
returns c =
    let names = c.args.names.now in
    takes behind_condition (λ n. (readers n).condition names) (λ n. (inside n).condition names) (λ n. (all-good n).condition names) (suc (length c.args.c.now)) c.args.c.now refl
    c.condition.result c.condition.new.c c.condition.ensures
