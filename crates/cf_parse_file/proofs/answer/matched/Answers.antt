use Rattle.cf_parse_file.proofs.Laws.{accepted-read}
use Rattle.cf_parse_file.proofs.answer.matched.Goals as goal

pub returns-in-Ok : goal.returns-in-Ok
returns-in-Ok c = accepted-read c.args.tokens.now c.in-Ok.tree c.requires.nesting c.requires.brackets c.in-Ok.ensures
