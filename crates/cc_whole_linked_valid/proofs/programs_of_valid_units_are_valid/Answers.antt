use Rattle.cc_whole_linked_valid.proofs.Valid.{program_valid}
use Rattle.cc_whole_linked_valid.proofs.programs_of_valid_units_are_valid.Goals as goal

pub returns : goal.returns
returns c = λ units program valid l. program_valid units program valid l (c.linked_programs_are_closed.ensures units program l)
