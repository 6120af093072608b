use Rattle.std.proofs.Common.{suc, length, refl}
use Rattle.cf_syntax.specs.declared.reading.DeclaratorKind.TheVariants as kind
use Rattle.cf_syntax.specs.Grammar.{inside}
use Rattle.cf_syntax.specs.Reading.{readers}
use Rattle.cf_syntax.proofs.Inner.{behind_declarator}
use Rattle.cf_syntax.proofs.Whole.{all-good}
use Rattle.cf_parse_expr.specs.Whole.{declarator_at}
use Rattle.cf_parse_expr.proofs.Taken.{takes}
use Rattle.cf_parse_expr.proofs.longest.declarator.Goals as goal

pub returns : goal.returns
unfolding declarator_at
returns c =
    let names = c.args.names.now in
    takes behind_declarator (λ n. (readers n).declarator kind.Named names) (λ n. (inside n).declarator kind.Named names) (λ n. (all-good n).declarator kind.Named names) (suc (length c.args.c.now)) c.args.c.now refl
    c.declarator.result c.declarator.new.c c.declarator.ensures
