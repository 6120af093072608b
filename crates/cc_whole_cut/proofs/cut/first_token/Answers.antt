use Rattle.cc_whole_cut.proofs.Firsts.{some_of, within_of}
use Rattle.cc_whole_cut.proofs.cut.first_token.Goals as goal

pub returns-clause-some : goal.returns-clause-some
returns-clause-some c = some_of c.args.text.now c.first.result c.first.ensures

pub returns-clause-within : goal.returns-clause-within
returns-clause-within c = within_of c.args.text.now c.first.result c.first.ensures
