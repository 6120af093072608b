use Rattle.std.proofs.Common.{suc, length, refl}
use Rattle.cf_syntax.specs.Grammar.{inside}
use Rattle.cf_syntax.specs.Reading.{readers}
use Rattle.cf_syntax.proofs.Inner.{behind_assign}
use Rattle.cf_syntax.proofs.Whole.{all-good}
use Rattle.cf_parse_expr.specs.Whole.{assign_at}
use Rattle.cf_parse_expr.proofs.Taken.{takes}
use Rattle.cf_parse_expr.proofs.longest.assign.Goals as goal

pub returns : goal.returns
unfolding assign_at
returns c =
    let names = c.args.names.now in
    takes behind_assign (λ n. (readers n).assign names) (λ n. (inside n).assign names) (λ n. (all-good n).assign names) (suc (length c.args.c.now)) c.args.c.now refl
    c.assign.result c.assign.new.c c.assign.ensures
