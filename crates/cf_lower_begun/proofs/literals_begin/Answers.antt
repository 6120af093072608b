use Rattle.cf_lower_begun.proofs.Texts.{literal-begins}
use Rattle.cf_lower_begun.proofs.literals_begin.Goals as goal

pub returns : goal.returns
returns c = literal-begins
