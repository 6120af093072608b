use Rattle.cc_whole_cut.proofs.Strings.{read_within}
use Rattle.cc_whole_cut.proofs.first.inside_quotes.Goals as goal

pub returns-clause-within : goal.returns-clause-within
returns-clause-within c = read_within c.args.text.now c.inside.result c.inside.ensures
