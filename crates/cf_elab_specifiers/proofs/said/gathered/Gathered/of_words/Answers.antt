use Rattle.cf_elab_specifiers.proofs.SaidLaws.NamedLaws.{named_known}
use Rattle.cf_elab_specifiers.proofs.said.gathered.Gathered.of_words.Goals as goal

pub returns-clause-known : goal.returns-clause-known
returns-clause-known c = λ types all. named_known types c.folded.result c.args.words.now c.folded.ensures all
