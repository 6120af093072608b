use Rattle.cc_whole_cut.proofs.Strings.{piece_within}
use Rattle.cc_whole_cut.proofs.string.next_piece.Goals as goal

pub returns-clause-within : goal.returns-clause-within
returns-clause-within c = piece_within c.args.text.now c.front_piece.result c.front_piece.ensures
